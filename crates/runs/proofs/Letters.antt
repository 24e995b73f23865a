-- Names of letters, digits and underscores, and that every name the lowerings make is one.
use Prim.Native.Nat.{ℕ, zero, suc, ◌+◌, ◌/◌, ◌%◌, ◌≤◌, ◌<◌}
use native.Mathlib.Omega.{arith}
use mathlib.Core.List.{[], ◌∷◌, ◌++◌}
use mathlib.Core.Bool.{Bool, true, false, ◌&&◌}
use mathlib.Core.Path.{◌≡◌, refl}
use borrow.Author.Tests.{le-ltb, lt-ltb, ltb-true}
use lib.Dec.{ltb}
use lib.ListN.{length-append}
use Rattle.wire.specs.Decimal.{decimal, digits}
use Rattle.wire.specs.Lists.{All}
use Rattle.pack_rules.specs.Legal.{Allowed}
use Rattle.pack_rules.specs.Names.{Name}
use Rattle.pack_rules.specs.Read.{name_byte}
use Rattle.pack.proofs.Tables.{all_append}
use Rattle.machine_rules.specs.MadeNames.{active_var, enum_name, next_var, sm_prefix, state_var}
use Rattle.activation_rules.specs.MadeNames.{Scope, act_prefix, branch, clock_var, else_scope, flag_var, last_infix, last_var, made_name, none_var, sample_var, tag, value_var}
use Rattle.run_rules.proofs.Booleans.{&&-true}

abbrev pub Lettered : Name → Type 0
Lettered n = All (λ b. name_byte b ≡ true) n

-- by a test
unfoldable pub lettered : Name → Bool
lettered [] = true
lettered (b ∷ n) = name_byte b && lettered n

pub letters : (n : Name) → lettered n ≡ true → Lettered n
unfolding lettered All
letters [] h = tt
letters (b ∷ n) h = let p = &&-true (name_byte b) (lettered n) h in (p.0, letters n p.1)

pub joins : (a b : Name) → Lettered a → Lettered b → Lettered (a ++ b)
joins a b h k = all_append (λ x. name_byte x ≡ true) a b h k

pub joins-allowed : (a b : Name) → Lettered a → Allowed b → Allowed (a ++ b)
joins-allowed a b h k = let l = k.0 in (omega (arith, length-append a b), joins a b h k.1)

pub allowed-joins : (a b : Name) → Allowed a → Lettered b → Allowed (a ++ b)
allowed-joins a b h k = let l = h.0 in (omega (arith, length-append a b), joins a b h.1 k)

-- numbers
digit-byte : (b : ℕ) → 48 ≤ b → b < 58 → name_byte b ≡ true
unfolding name_byte
digit-byte b h k = rw (le-ltb b 48 h, lt-ltb b 58 k)

digits-lettered : (k n : ℕ) → Lettered (digits k n)
unfolding digits All
digits-lettered zero n = tt
digits-lettered (suc k) n = go (ltb n 10) refl (digits-lettered k (n / 10))
  where
    go : (b : Bool) → ltb n 10 ≡ b → Lettered (digits k (n / 10)) → Lettered (elim b [ true ↦ (48 + n) ∷ [] | false ↦ digits k (n / 10) ++ ((48 + n % 10) ∷ []) ])
    go true e ih = let l = ltb-true n 10 e in (digit-byte (48 + n) (omega arith) (omega arith), tt)
    go false e ih = joins (digits k (n / 10)) ((48 + n % 10) ∷ []) ih (digit-byte (48 + n % 10) (omega arith) (omega arith), tt)

pub decimal-lettered : (n : ℕ) → Lettered (decimal n)
unfolding decimal
decimal-lettered n = digits-lettered (suc n) n

-- the names of machines
sm : Lettered sm_prefix
unfolding sm_prefix lettered name_byte
sm = letters (95 ∷ 95 ∷ 115 ∷ 109 ∷ 95 ∷ []) refl

after-sm : (b : Name) → Lettered b → Allowed (sm_prefix ++ b)
unfolding sm_prefix
after-sm b h = (omega arith, joins (95 ∷ 95 ∷ 115 ∷ 109 ∷ 95 ∷ []) b sm h)

numbered : (n : ℕ) (b : Name) → Lettered b → Lettered (114 ∷ (decimal n ++ b))
unfolding All name_byte
numbered n b h = (refl, joins (decimal n) b (decimal-lettered n) h)

pub state-allowed : (n : ℕ) → Allowed (state_var n)
unfolding state_var lettered name_byte
state-allowed zero = after-sm (115 ∷ 116 ∷ 97 ∷ 116 ∷ 101 ∷ []) (letters (115 ∷ 116 ∷ 97 ∷ 116 ∷ 101 ∷ []) refl)
state-allowed (suc n) = after-sm (114 ∷ (decimal (suc n) ++ (95 ∷ 115 ∷ 116 ∷ 97 ∷ 116 ∷ 101 ∷ []))) (numbered (suc n) (95 ∷ 115 ∷ 116 ∷ 97 ∷ 116 ∷ 101 ∷ []) (letters (95 ∷ 115 ∷ 116 ∷ 97 ∷ 116 ∷ 101 ∷ []) refl))

pub next-allowed : (n : ℕ) → Allowed (next_var n)
unfolding next_var lettered name_byte
next-allowed zero = after-sm (110 ∷ 101 ∷ 120 ∷ 116 ∷ 95 ∷ 115 ∷ 116 ∷ 97 ∷ 116 ∷ 101 ∷ []) (letters (110 ∷ 101 ∷ 120 ∷ 116 ∷ 95 ∷ 115 ∷ 116 ∷ 97 ∷ 116 ∷ 101 ∷ []) refl)
next-allowed (suc n) = after-sm (114 ∷ (decimal (suc n) ++ (95 ∷ 110 ∷ 101 ∷ 120 ∷ 116 ∷ []))) (numbered (suc n) (95 ∷ 110 ∷ 101 ∷ 120 ∷ 116 ∷ []) (letters (95 ∷ 110 ∷ 101 ∷ 120 ∷ 116 ∷ []) refl))

pub active-allowed : (n : ℕ) → Allowed (active_var n)
unfolding active_var lettered name_byte
active-allowed n = after-sm (114 ∷ (decimal n ++ (95 ∷ 97 ∷ 99 ∷ 116 ∷ 105 ∷ 118 ∷ 101 ∷ []))) (numbered n (95 ∷ 97 ∷ 99 ∷ 116 ∷ 105 ∷ 118 ∷ 101 ∷ []) (letters (95 ∷ 97 ∷ 99 ∷ 116 ∷ 105 ∷ 118 ∷ 101 ∷ []) refl))

state_enum : Lettered (95 ∷ 83 ∷ 116 ∷ 97 ∷ 116 ∷ 101 ∷ 69 ∷ 110 ∷ 117 ∷ 109 ∷ [])
unfolding lettered name_byte
state_enum = letters (95 ∷ 83 ∷ 116 ∷ 97 ∷ 116 ∷ 101 ∷ 69 ∷ 110 ∷ 117 ∷ 109 ∷ []) refl

pub enum-allowed : (m : Name) (n : ℕ) → Allowed m → Allowed (enum_name m n)
unfolding enum_name All name_byte
enum-allowed m zero h = allowed-joins m (95 ∷ 83 ∷ 116 ∷ 97 ∷ 116 ∷ 101 ∷ 69 ∷ 110 ∷ 117 ∷ 109 ∷ []) h state_enum
enum-allowed m (suc n) h = allowed-joins m (95 ∷ 114 ∷ (decimal (suc n) ++ (95 ∷ 83 ∷ 116 ∷ 97 ∷ 116 ∷ 101 ∷ 69 ∷ 110 ∷ 117 ∷ 109 ∷ []))) h (refl, numbered (suc n) (95 ∷ 83 ∷ 116 ∷ 97 ∷ 116 ∷ 101 ∷ 69 ∷ 110 ∷ 117 ∷ 109 ∷ []) state_enum)

-- the names of activations
act : Lettered act_prefix
unfolding act_prefix lettered name_byte
act = letters (95 ∷ 95 ∷ 97 ∷ 99 ∷ 116 ∷ 95 ∷ []) refl

after-act : (b : Name) → Lettered b → Allowed (act_prefix ++ b)
unfolding act_prefix
after-act b h = (omega arith, joins (95 ∷ 95 ∷ 97 ∷ 99 ∷ 116 ∷ 95 ∷ []) b act h)

under : name_byte 95 ≡ true
unfolding name_byte
under = refl

made-allowed : (a : Name) (l : ℕ) (rest : Name) → Lettered a → name_byte l ≡ true → Lettered rest → Allowed (made_name a l rest)
unfolding made_name All
made-allowed a l rest h b k = after-act (a ++ (95 ∷ l ∷ rest)) (joins a (95 ∷ l ∷ rest) h (under, (b, k)))

pub flag-allowed : (a : Name) (k : ℕ) → Lettered a → Allowed (flag_var a k)
unfolding flag_var name_byte
flag-allowed a k h = made-allowed a 98 (decimal (suc k)) h refl (decimal-lettered (suc k))

pub none_allowed : (a : Name) (k : ℕ) → Lettered a → Allowed (none_var a k)
unfolding none_var name_byte
none_allowed a k h = made-allowed a 110 (decimal (suc k)) h refl (decimal-lettered (suc k))

pub clock-allowed : (a : Name) (k : ℕ) → Lettered a → Allowed (clock_var a k)
unfolding clock_var name_byte
clock-allowed a zero h = flag-allowed a zero h
clock-allowed a (suc k) h = made-allowed a 103 (decimal (suc (suc k))) h refl (decimal-lettered (suc (suc k)))

tagged : (s : Scope) (o : Name) → Lettered o → Lettered (tag s ++ (95 ∷ o))
unfolding tag All name_byte
tagged (branch k) o h = joins (decimal (suc k)) (95 ∷ o) (decimal-lettered (suc k)) (refl, h)
tagged else_scope o h = (refl, (refl, h))

pub value-allowed : (a : Name) (s : Scope) (o : Name) → Lettered a → Lettered o → Allowed (value_var a s o)
unfolding value_var name_byte
value-allowed a s o h k = made-allowed a 120 (tag s ++ (95 ∷ o)) h refl (tagged s o k)

pub sample-allowed : (a : Name) (s : Scope) (o : Name) → Lettered a → Lettered o → Allowed (sample_var a s o)
unfolding sample_var name_byte
sample-allowed a s o h k = made-allowed a 115 (tag s ++ (95 ∷ o)) h refl (tagged s o k)

pub last-allowed : (a v : Name) → Lettered a → Lettered v → Allowed (last_var a v)
unfolding last_var last_infix All name_byte
last-allowed a v h k = after-act (a ++ (95 ∷ 108 ∷ 97 ∷ 115 ∷ 116 ∷ 95 ∷ v)) (joins a (95 ∷ 108 ∷ 97 ∷ 115 ∷ 116 ∷ 95 ∷ v) h (refl, (refl, (refl, (refl, (refl, (refl, k)))))))

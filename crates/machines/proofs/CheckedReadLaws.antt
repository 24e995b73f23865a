-- Laws for code that reads on a checked pack, step by step.
use Prim.Native.Nat.{ℕ, zero, suc, ◌+◌, ◌*◌, ◌/◌, ◌%◌, ◌-◌, ◌<◌, ◌≤◌}
use native.Mathlib.Nat.{div-eq_of_lt, mod-eq_of_lt, mul-add-div_right, mul-add-mod_self_right}
use native.Mathlib.Omega.{arith}
use mathlib.Core.List.{List, [], ◌∷◌}
use mathlib.Core.Bool.{Bool, true, false, cond, ◌||◌, ◌&&◌, true≢false}
use mathlib.Core.Logic.{◌⊎◌, inl, inr, ⊎_elim}
use mathlib.Core.Path.{◌≡◌, refl, sym, ap, subst, ◌∙◌}
use lib.ListN.{get_or, set}
use lib.Dec.{eqb}
use borrow.Author.Tests.{eq-eqb, eqb-true, ne_eqb}
use Rattle.wire.specs.Answer.{Answer, below, byte, deep, early, illegal, u16, value}
use Rattle.wire.proofs.Answers.{guard-value, u16-value}
use Rattle.std.specs.Prelude.{Option, Some, None, IfSome}
use Rattle.std.specs.Option.{option_eq}
use Rattle.pack_rules.specs.Names.{Name}
use Rattle.std.specs.Prelude.{Ok}
use Rattle.wire.specs.Code.{Read, Skipped, read_of, skip}
use Rattle.pack.specs.Verdict.{offset_of}
use Rattle.wire.specs.declared.answer.Number.{Number}
use Rattle.machines.specs.ResolvedIn.{MachineAt, RegionAt, end_of}
use Rattle.machines.proofs.Reading.{name-number}
use Rattle.machines.specs.CheckedReads.{byte_in, first_some, machine_from, num, number_in, region_in, sure_of, turns, with}

pub number_is : (s : List ℕ) (at : ℕ) (r : Read) (q : Number) → r ≡ read_of (u16 s at) → q ≡ sure_of r → q ≡ number_in s at
unfolding number_in
number_is s at r q e f = f ∙ ap sure_of e

pub byte-is : (s : List ℕ) (at : ℕ) (r : Read) (q : Number) → r ≡ read_of (byte s at) → q ≡ sure_of r → q ≡ byte_in s at
unfolding byte_in
byte-is s at r q e f = f ∙ ap sure_of e

-- a step of the code
pub on : {A : Type 0} (h x : Number) (k : ℕ → ℕ → A) (r : A) → h ≡ x → r ≡ k h.value h.next → r ≡ with x k
unfolding with
on h x k r e f = f ∙ ap (λ (y : Number). k y.value y.next) e

pub region-is : (s : List ℕ) (at : ℕ) (i h r : Number) → i ≡ number_in s at → h ≡ byte_in s i.next → r ≡ number_in s h.next → r ≡ region_in s at
unfolding region_in
region-is s at i h r e f g = on i _ _ r e (on h _ _ r f g)

pub machine-is : (s : List ℕ) (at : ℕ) (i r : Number) → i ≡ number_in s at → r ≡ number_in s i.next → r ≡ machine_from s at
unfolding machine_from
machine-is s at i r e f = on i _ _ r e f

-- where reading stands after what was skipped
pub end_is : {A : Type 0} (f : ℕ → Answer A) (at : ℕ) (r : Skipped) (q : ℕ) → r ≡ skip (f at) → q ≡ offset_of r → q ≡ end_of (f at)
unfolding skip offset_of end_of
end_is {A} f at r q e g = g ∙ ap offset_of e ∙ go (f at)
  where
    go : (a : Answer A) → offset_of (skip a) ≡ end_of a
    go (value x p) = refl
    go early = refl
    go (illegal o) = refl
    go (deep o) = refl

-- a loop that gathers numbers: one more, and the end
pub turns-went : (k : ℕ → Number) (f : ℕ → ℕ → ℕ) (n at a b : ℕ) (e z : Number) → 0 < n → e ≡ k at → b ≡ f a e.value → turns k f n at a ≡ z → turns k f (n - 1) e.next b ≡ z
unfolding turns with
turns-went k f zero at a b e z l g h d = absurd (omega arith)
turns-went k f (suc n) at a b e z l g h d = let i : suc n - 1 ≡ n = omega arith in rw (i, h) (ap (λ (y : Number). turns k f n y.next (f a y.value)) g ∙ d)

pub turns-done : (k : ℕ → Number) (f : ℕ → ℕ → ℕ) (n at a : ℕ) (z : Number) → n ≤ 0 → turns k f n at a ≡ z → num a at ≡ z
unfolding turns
turns-done k f zero at a z l d = d
turns-done k f (suc n) at a z l d = absurd (omega arith)

-- a test of two numbers
pub yes : {A : Type 0} (m n : ℕ) (x y r : A) → m ≡ n → r ≡ x → r ≡ cond (eqb m n) x y
yes m n x y r e f = rw (eq-eqb m n e) f

pub no : {A : Type 0} (m n : ℕ) (x y r : A) → (m ≡ n → ⊥) → r ≡ y → r ≡ cond (eqb m n) x y
no m n x y r e f = rw (ne_eqb m n e) f

-- a choice that is known
pub chosen : {A : Type 0} (b : Bool) (x y : A) → b ≡ true → cond b x y ≡ x
chosen b x y e = rw e

pub left_out : {A : Type 0} (b : Bool) (x y : A) → b ≡ false → cond b x y ≡ y
left_out b x y e = rw e

-- the first number that is something
pub some_first : (a b : ℕ) → (a ≡ 0 → ⊥) → a ≡ first_some a b
unfolding first_some
some_first a b e = no a 0 b a a e refl

pub some-second : (a b : ℕ) → a ≡ 0 → b ≡ first_some a b
unfolding first_some
some-second a b e = yes a 0 b a b e refl

-- what was read is what is found
pub number-to : {A : Type 0} (s : List ℕ) (at v q : ℕ) (k : ℕ → ℕ → A) → u16 s at ≡ value v q → with (number_in s at) k ≡ k v q
unfolding with number_in sure_of read_of
number-to s at v q k e = rw e

pub byte-to : {A : Type 0} (s : List ℕ) (at v q : ℕ) (k : ℕ → ℕ → A) → byte s at ≡ value v q → with (byte_in s at) k ≡ k v q
unfolding with byte_in sure_of read_of
byte-to s at v q k e = rw e

pub then_to : {A : Type 0} (x : Number) (v q : ℕ) (k : ℕ → ℕ → A) → x ≡ num v q → with x k ≡ k v q
unfolding with
then_to x v q k e = rw e

pub end-to : {A : Type 0} (a : Answer A) (x : A) (q : ℕ) → a ≡ value x q → end_of a ≡ q
unfolding end_of
end-to a x q e = rw e

pub number-num : (s : List ℕ) (at v q : ℕ) → u16 s at ≡ value v q → number_in s at ≡ num v q
unfolding number_in sure_of read_of
number-num s at v q e = rw e

-- heads that were read
pub region-to : (ns : List Name) (s : List ℕ) (at : ℕ) (i : Name) (h : Bool) (k b : ℕ) → RegionAt ns s at i h k b → region_in s at ≡ num k b
unfolding region_in below
region-to ns s at i h k b r =
    let n = name-number ns s at i r.to-history r.initial in
    let g = guard-value _ r.to-history (byte s r.to-history) r.byte r.to-states r.history in
    number-to s at n.i r.to-history _ n.is ∙ byte-to s r.to-history r.byte r.to-states _ g.0 ∙ number-num s r.to-states k b r.states

pub machine-to : (ns : List Name) (s : List ℕ) (at : ℕ) (i : Name) (k b : ℕ) → MachineAt ns s at i k b → machine_from s at ≡ num k b
unfolding machine_from
machine-to ns s at i k b r =
    let n = name-number ns s at i r.to-states r.initial in
    number-to s at n.i r.to-states _ n.is ∙ number-num s r.to-states k b r.states

-- two numbers in one, apart again
pub low_part : (m q v : ℕ) → v < m → (q * m + v) % m ≡ v
low_part m q v h = mul-add-mod_self_right q m v ∙ mod-eq_of_lt h

pub high_part : (m q v : ℕ) → v < m → (q * m + v) / m ≡ q
high_part m q v h = let z : v / m ≡ 0 = div-eq_of_lt h in mul-add-div_right (omega arith) q v ∙ omega arith

-- where none of two holds, neither does
pub or-none : (a b : Bool) → (a || b) ≡ false → (a ≡ false) × (b ≡ false)
or-none true b e = absurd (true≢false e)
or-none false b e = (refl, e)

-- no count and no index is past 16 bits
pub number_small : (s : List ℕ) (at : ℕ) (c : Number) → ((i : ℕ) → get_or s i 0 < 256) → c ≡ number_in s at → c.value < 65536
unfolding number_in sure_of read_of
number_small s at c by e = subst (λ (x : Number). x.value < 65536) (sym e) (go (u16 s at) refl)
  where
    go : (a : Answer ℕ) → u16 s at ≡ a → (sure_of (read_of a)).value < 65536
    go (value v q) g = let p = u16-value s at v q g in omega (arith, by at, by (at + 1))
    go early g = omega arith
    go (illegal o) g = omega arith
    go (deep o) g = omega arith

-- so a table of 16-bit words holds it as it is
pub number_put : (s : List ℕ) (at : ℕ) (c : Number) (t u : List ℕ) (i : ℕ) → ((j : ℕ) → get_or s j 0 < 256) → c ≡ number_in s at → u ≡ set t i (c.value % 65536) → u ≡ set t i c.value
number_put s at c t u i by e h = h ∙ ap (set t i) (mod-eq_of_lt (number_small s at c by e))

-- two tests, of which the second is made only where the first holds
pub both_hold : {a b : ℕ} {y : Bool} → a ≡ b → y ≡ true → true ≡ (eqb a b && y)
both_hold h k = rw (eq-eqb _ _ h) (sym k)

pub not_both : {a b c d : ℕ} → ((a ≡ b) × (c ≡ d → ⊥)) ⊎ (a ≡ b → ⊥) → false ≡ (eqb a b && eqb c d)
not_both (inl h) = rw (eq-eqb _ _ h.0) (sym (ne_eqb _ _ h.1))
not_both (inr h) = rw (ne_eqb _ _ h)

-- what holds of the one that was looked at last holds of the same one again
pub same_again : (P : ℕ → Type 0) (last : Option ℕ) (x : ℕ) → true ≡ option_eq eqb last (Some x) → IfSome last P → P x
same_again P None x e h = absurd cc
same_again P (Some l) x e h = subst P (eqb-true l x (sym e)) h

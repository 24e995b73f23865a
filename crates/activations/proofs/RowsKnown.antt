-- What the tables say once holders are known: the number of each variable's holder, and of every number that is read its type.
use Prim.Native.Nat.{ℕ, zero, suc, ◌+◌, ◌*◌, ◌<◌, ◌≤◌}
use native.Mathlib.Omega.{arith}
use mathlib.Core.List.{List, [], ◌∷◌}
use mathlib.Core.Bool.{Bool, true, false, cond, ◌||◌, or_comm}
use mathlib.Core.Logic.{⊎_elim}
use mathlib.Core.Option.{Option, none, some}
use mathlib.Core.Path.{◌≡◌, refl, sym, ap, subst, ◌∙◌}
use lib.ListN.{length, get_or}
use lib.Dec.{eqb}
use borrow.Author.Tests.{eq-eqb, eqb-false, eqb-true, le-ltb, ne_eqb}
use Rattle.wire.specs.Answer.{many, value}
use Rattle.wire.specs.Lists.{All, Bytes}
use Rattle.wire.proofs.Writers.{lt-or-le}
use Rattle.pack_rules.specs.Names.{Name, eq_name, member}
use Rattle.pack_rules.specs.Report.{first_of}
use Rattle.pack_rules.specs.Syntax.{Port, Ty}
use Rattle.pack_rules.specs.Forms.{name_at}
use Rattle.pack_rules.specs.Legal.{Fresh, Known, place}
use Rattle.pack_rules.specs.Read.{port_in, ports_in}
use Rattle.pack.proofs.Tables.{eq_name-ne, eq_name-true, member-either, place-at-name}
use Rattle.machines.proofs.Reading.{many-cut, many_more}
use Rattle.machines.proofs.TableLaws.{past_end}
use Rattle.machines.proofs.Refused.{eq_name-turn}
use Rattle.machines.specs.CheckedReads.{first_some}
use Rattle.activation_rules.specs.MadeNames.{last_var}
use Rattle.activation_rules.specs.Types.{first_typed, last_typed, port_names, readable, typed}
use Rattle.activation_rules.specs.Sought.{Sought}
use Rattle.activations.specs.Ids.{holder_id, name_of}
use Rattle.activations.specs.TypeCodes.{out_t, typed_t}
use Rattle.activations.specs.TypesAt.{Coded, TypesAre}
use Rattle.activations.specs.LastsAt.{RowIs, RowsFrom, word_t}
use Rattle.activations.specs.NameIdsAt.{last_id_t, last_row_t}
use Rattle.activations.specs.HoldersTyped.{KnownAt}
use Rattle.activations.proofs.ActRead.{counted-value}
use Rattle.activations.proofs.IdLaws.{holder-new, holder-old, name-of-holder, name-of-old}
use Rattle.activations.proofs.TypesKnown.{coded-or, port-read, typed-old}
use Rattle.activations.proofs.NameIdsKnown.{by_bool}
use Rattle.activations.proofs.FoundOnce.{Has, vars_of}

-- whether there is a type
unfoldable pub is_some : Option Ty → Bool
is_some none = false
is_some (some t) = true

is-first : (o p : Option Ty) → is_some (first_of o p) ≡ is_some o || is_some p
unfolding is_some first_of
is-first none p = refl
is-first (some t) p = refl

pub is_none : (o : Option Ty) → is_some o ≡ false → o ≡ none
unfolding is_some
is_none none e = refl
is_none (some t) e = absurd (let z : ◌≡◌ {A = ℕ} 1 0 = ap (λ (b : Bool). cond b 1 0) e in omega arith)

-- a name has a type where it is among the names of ports
is-cond : (b : Bool) (t : Ty) → is_some (cond b (some t) none) ≡ b
unfolding is_some
is-cond true t = refl
is-cond false t = refl

pub last-told : (ps : List Port) (m : Name) → is_some (last_typed ps m) ≡ member m (port_names ps)
unfolding last_typed port_names member is_some
last-told [] m = refl
last-told (p ∷ ps) m =
    is-first (last_typed ps m) (cond (eq_name p.name m) (some p.ty) none)
    ∙ (λ i. last-told ps m i || (is-cond (eq_name p.name m) p.ty ∙ eq_name-turn p.name m) i)
    ∙ or_comm (member m (port_names ps)) (eq_name m p.name)

first-told : (ps : List Port) (m : Name) → is_some (first_typed ps m) ≡ member m (port_names ps)
unfolding first_typed port_names member is_some
first-told [] m = refl
first-told (p ∷ ps) m =
    by_bool (λ (b : Bool). is_some (cond b (some p.ty) (first_typed ps m)) ≡ b || member m (port_names ps)) (eq_name p.name m) (λ e. refl) (λ e. first-told ps m)
    ∙ ap (λ (b : Bool). b || member m (port_names ps)) (eq_name-turn p.name m)

typed-told : (env outs : List Port) (m : Name) → is_some (typed env outs m) ≡ member m (readable env outs)
unfolding typed readable
typed-told env outs m =
    is-first (last_typed env m) (first_typed outs m)
    ∙ (λ i. last-told env m i || first-told outs m i)
    ∙ sym (member-either m (port_names env) (port_names outs))

-- a code is 0 where there is no type
coded-told : (ns : List Name) (s : List ℕ) (c : ℕ) (o : Option Ty) → Coded ns s c o → eqb c 0 ≡ cond (is_some o) false true
unfolding Coded is_some
coded-told ns s c none h = eq-eqb c 0 h
coded-told ns s c (some t) h = ne_eqb c 0 (λ e. let l = h.0 in omega arith)

-- ports whose names are a pack's
abbrev pub PortsIn : List Name → List Port → Type 0
PortsIn ns ps = All (λ (p : Port). Known ns p.name) ps

-- a name that is no old one is none of theirs
pub unknown-port : (ns : List Name) (ps : List Port) (m : Name) → PortsIn ns ps → length ns ≤ place ns m → member m (port_names ps) ≡ false
unfolding All port_names member
unknown-port ns [] m h l = refl
unknown-port ns (p ∷ ps) m h l =
    let k : place ns p.name < length ns = h.0 in
    let e : eq_name m p.name ≡ false = eq_name-ne m p.name (λ g. let i = ap (place ns) g in omega arith) in
    ap (λ (b : Bool). b || member m (port_names ps)) e ∙ unknown-port ns ps m h.1 l

-- ports that were read
module _ (ns : List Name) (fresh : Fresh [] ns) (s : List ℕ) where
  many-known : (n p : ℕ) (ps : List Port) (q : ℕ) → many (port_in ns s) n p ≡ value ps q → PortsIn ns ps
  unfolding All
  many-known zero p [] q e = tt
  many-known zero p (x ∷ xs) q e = absurd (many-cut (port_in ns s) p x xs q e)
  many-known (suc n) p [] q e = tt
  many-known (suc n) p (x ∷ xs) q e =
      let a = many_more (port_in ns s) n p x xs q e in
      let r = port-read ns s p x a.0 a.1 in
      (subst (Known ns) r.named (subst (λ (i : ℕ). i < length ns) (sym (place-at-name ns r.i fresh r.small)) r.small), many-known n a.0 xs q a.2)

  pub ports-known : (at : ℕ) (ps : List Port) (q : ℕ) → ports_in ns s at ≡ value ps q → PortsIn ns ps
  unfolding ports_in
  ports-known at ps q e = let a = counted-value (port_in ns s) s at ps q e in many-known (length ps) a.0 ps q a.2

-- rows that stand for what was found
module _ (ns : List Name) (fresh : Fresh [] ns) (s : List ℕ) (a : Name) (lasts : List ℕ) where
  same_name : (w v : ℕ) (x : Name) → w < length ns → v < length ns → name_at ns w ≡ x → eq_name (name_at ns v) x ≡ true → w ≡ v
  same_name w v x k l e g = sym (place-at-name ns w fresh k) ∙ ap (place ns) (e ∙ sym (eq_name-true (name_at ns v) x g)) ∙ place-at-name ns v fresh l

  -- the row of a variable
  row-found : (h : ℕ) (xs : List Sought) → RowsFrom ns s lasts h xs → (v : ℕ) → v < length ns → Has xs (name_at ns v) → (j : ℕ) × (j < h + length xs) × (word_t lasts j 0 ≡ v)
  unfolding RowsFrom RowIs vars_of member
  row-found h [] r v l g = absurd (let z : ◌≡◌ {A = ℕ} 0 1 = ap (λ (b : Bool). cond b 1 0) g in omega arith)
  row-found h (x ∷ xs) r v l g =
      by_bool (λ (b : Bool). (eq_name (name_at ns v) x.var ≡ b) → b || member (name_at ns v) (vars_of xs) ≡ true → (j : ℕ) × (j < h + suc (length xs)) × (word_t lasts j 0 ≡ v)) (eq_name (name_at ns v) x.var)
      (λ e d k. (h, omega arith, same_name (word_t lasts h 0) v x.var r.0.0 l r.0.1 d))
      (λ e d k. let f = row-found (suc h) xs r.1 v l k in (f.0, (let i = f.1 in omega arith), f.2))
      refl g

  rows-from : (n h : ℕ) (xs : List Sought) → n ≡ length xs → RowsFrom ns s lasts h xs → ((j : ℕ) → j < h + n → word_t lasts j 2 ≡ holder_id ns a (word_t lasts j 0)) → (v : ℕ) → v < length ns → Has xs (name_at ns v) → last_row_t lasts v n (3 * h) ≡ holder_id ns a v
  unfolding RowsFrom RowIs vars_of member last_row_t
  rows-from zero h [] e r k v l g = absurd (let z : ◌≡◌ {A = ℕ} 0 1 = ap (λ (b : Bool). cond b 1 0) g in omega arith)
  rows-from zero h (x ∷ xs) e r k v l g = absurd (omega arith)
  rows-from (suc n) h [] e r k v l g = absurd (omega arith)
  rows-from (suc n) h (x ∷ xs) e r k v l g =
      let w : 3 * h + 0 ≡ 3 * h = omega arith in
      let u : 3 * suc h ≡ 3 * h + 3 = omega arith in
      by_bool (λ (b : Bool). (eqb (get_or lasts (3 * h) 0) v ≡ b) → cond b (get_or lasts (3 * h + 2) 0) (last_row_t lasts v n (3 * h + 3)) ≡ holder_id ns a v) (eqb (get_or lasts (3 * h) 0) v)
      (λ y d. k h (omega arith) ∙ ap (holder_id ns a) (ap (λ (i : ℕ). get_or lasts i 0) w ∙ eqb-true (get_or lasts (3 * h) 0) v d))
      (λ y d. ap (last_row_t lasts v n) (sym u) ∙ rows-from n (suc h) xs (omega arith) r.1 (λ j i. k j (omega arith)) v l (other d))
      refl
    where
      other : eqb (get_or lasts (3 * h) 0) v ≡ false → Has xs (name_at ns v)
      other d =
          by_bool (λ (b : Bool). (eq_name (name_at ns v) x.var ≡ b) → b || member (name_at ns v) (vars_of xs) ≡ true → member (name_at ns v) (vars_of xs) ≡ true) (eq_name (name_at ns v) x.var)
          (λ z c m. let w : 3 * h + 0 ≡ 3 * h = omega arith in absurd (eqb-false (get_or lasts (3 * h) 0) v d (ap (λ (i : ℕ). get_or lasts i 0) (sym w) ∙ same_name (word_t lasts h 0) v x.var r.0.0 l r.0.1 c)))
          (λ z c m. m)
          refl g

-- a pack that was read; an activation's name; what was found, the tables once its holders are known; the owner's variables with the
-- holders, and the outputs
module _ (ns : List Name) (fresh : Fresh [] ns) (few : length ns + length ns ≤ 65536) (s : List ℕ) (by : Bytes s) (short : length s ≤ 65536) (a : Name)
    (env lasts outs : List ℕ) (n : ℕ) (xs : List Sought) (counted : n ≡ length xs) (R : RowsFrom ns s lasts 0 xs) (ports outputs : List Port) (K : KnownAt ns s a env lasts n ports)
    (O : TypesAre ns s outs (first_typed outputs)) where
  few-names : length ns < 65536
  few-names = omega arith

  -- THE LAW: the number of the holder of a variable that was found
  pub rows-known : (v : ℕ) → v < length ns → Has xs (name_at ns v) → last_id_t lasts n v ≡ holder_id ns a v
  unfolding last_id_t
  rows-known v l h = rows-from ns fresh s a lasts n 0 xs counted R (λ j i. K.numbers j (omega arith)) v l h

  holder-coded : (v : ℕ) → v < length ns → Has xs (name_at ns v) → Coded ns s (get_or env (holder_id ns a v) 0) (last_typed ports (last_var a (name_at ns v)))
  holder-coded v l h =
      let r = row-found ns fresh s a lasts 0 xs R v l h in
      subst (λ (w : ℕ). Coded ns s (get_or env (holder_id ns a w) 0) (last_typed ports (last_var a (name_at ns w)))) r.2 (K.holders r.0 (let i = r.1 in omega arith))

  out-past : (x : ℕ) → length ns ≤ x → out_t outs (length ns) x ≡ 0
  unfolding out_t
  out-past x l = ap (λ (b : Bool). cond b (get_or outs x 0) 0) (le-ltb x (length ns) l)

  -- THE LAW: the type of an old name
  pub old-typed : (x : ℕ) → x < length ns → Coded ns s (typed_t env outs (length ns) x) (typed ports outputs (name_of ns a x))
  old-typed x l = subst (λ (m : Name). Coded ns s (typed_t env outs (length ns) x) (typed ports outputs m)) (sym (name-of-old ns a x l)) (typed-old ns fresh few-names s by short env outs ports outputs K.types O x l)

  module _ (known : PortsIn ns outputs) where
    none-coded : (m : Name) → length ns ≤ place ns m → (x : ℕ) → length ns ≤ x → Coded ns s (out_t outs (length ns) x) (first_typed outputs m)
    unfolding Coded
    none-coded m l x k = subst (Coded ns s (out_t outs (length ns) x)) (sym (is_none (first_typed outputs m) (first-told outputs m ∙ unknown-port ns outputs m known l))) (out-past x k)

    new-typed : (v : ℕ) → length ns ≤ place ns (last_var a (name_at ns v)) → Coded ns s (get_or env (holder_id ns a v) 0) (last_typed ports (last_var a (name_at ns v)))
        → Coded ns s (typed_t env outs (length ns) (holder_id ns a v)) (typed ports outputs (last_var a (name_at ns v)))
    unfolding typed_t typed
    new-typed v l h =
        coded-or ns s (get_or env (holder_id ns a v) 0) (out_t outs (length ns) (holder_id ns a v)) (last_typed ports (last_var a (name_at ns v))) (first_typed outputs (last_var a (name_at ns v))) h
        (none-coded (last_var a (name_at ns v)) l (holder_id ns a v) (let e = holder-new ns a v l in omega arith))

    -- THE LAW: the type of the holder of a variable that was found
    pub held-typed : (v : ℕ) → v < length ns → Has xs (name_at ns v) → Coded ns s (typed_t env outs (length ns) (holder_id ns a v)) (typed ports outputs (name_of ns a (holder_id ns a v)))
    held-typed v l h = ⊎_elim
        (λ g. old-typed (holder_id ns a v) (let e = holder-old ns a v g in omega arith))
        (λ g. subst (λ (m : Name). Coded ns s (typed_t env outs (length ns) (holder_id ns a v)) (typed ports outputs m)) (sym (name-of-holder ns a v)) (new-typed v g (holder-coded v l h)))
        (lt-or-le (place ns (last_var a (name_at ns v))) (length ns))

    told : (x : ℕ) → Coded ns s (typed_t env outs (length ns) x) (typed ports outputs (name_of ns a x)) → eqb (typed_t env outs (length ns) x) 0 ≡ cond (member (name_of ns a x) (readable ports outputs)) false true
    told x h = coded-told ns s (typed_t env outs (length ns) x) (typed ports outputs (name_of ns a x)) h ∙ ap (λ (b : Bool). cond b false true) (typed-told ports outputs (name_of ns a x))

    -- THE LAW: whether an old name, whether a holder is a known variable
    pub old-told : (x : ℕ) → x < length ns → eqb (typed_t env outs (length ns) x) 0 ≡ cond (member (name_of ns a x) (readable ports outputs)) false true
    old-told x l = told x (old-typed x l)

    pub held-told : (v : ℕ) → v < length ns → Has xs (name_at ns v) → eqb (typed_t env outs (length ns) (holder_id ns a v)) 0 ≡ cond (member (name_of ns a (holder_id ns a v)) (readable ports outputs)) false true
    held-told v l h = told (holder_id ns a v) (held-typed v l h)

  -- no variable has the number of none
  pub none_told : length env ≤ 65536 → typed_t env outs (length ns) 65536 ≡ 0
  unfolding typed_t first_some
  none_told l = (λ i. first_some (sym (past_end env 65536 l) i) (out-past 65536 (omega arith) i))

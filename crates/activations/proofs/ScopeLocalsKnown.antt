-- The locals of scopes that the code goes over are those of the definition.
use Prim.Native.Nat.{ℕ, zero, suc, ◌+◌, ◌*◌, ◌<◌, ◌≤◌}
use native.Mathlib.Omega.{arith}
use mathlib.Core.List.{List, [], ◌∷◌, ◌++◌, append_assoc}
use mathlib.Core.Bool.{Bool, true, cond}
use mathlib.Core.Option.{Option, none, some}
use mathlib.Core.Path.{◌≡◌, refl, sym, ap, subst, ◌∙◌}
use lib.ListN.{length, length-append}
use Rattle.wire.specs.Answer.{many, value}
use Rattle.wire.specs.Lists.{All, Bytes}
use Rattle.pack_rules.specs.Names.{Name, eq_name}
use Rattle.pack_rules.specs.Syntax.{Branch, Equation, Port, Ty}
use Rattle.pack_rules.specs.Forms.{name_at}
use Rattle.pack_rules.specs.Legal.{Fresh, LegalName}
use Rattle.pack_rules.specs.Read.{branch_in, equation_in, equations_in}
use Rattle.pack.specs.Table.{tabled}
use Rattle.pack.proofs.Tables.{all_append}
use Rattle.machines.specs.Layout.{slice_of}
use Rattle.machines.specs.Fingerprints.{among}
use Rattle.machines.specs.EmitAt.{pack_name}
use Rattle.machines.proofs.Reading.{many-cut, many_more, many-over}
use Rattle.machines.proofs.CheckedReadLaws.{number-to}
use Rattle.activation_rules.specs.MadeNames.{Scope, act_prefix, branch, else_scope, made_name, sample_var, value_var}
use Rattle.activations.specs.Vars.{scope_at}
use Rattle.activation_rules.specs.Defines.{first_left}
use Rattle.activation_rules.specs.Types.{or_bool, sample_type, typed, value_type}
use Rattle.activation_rules.specs.Samples.{drop_in, sample_locals}
use Rattle.activation_rules.specs.Scopes.{branch_locals, scope_locals, scope_reads}
use Rattle.activations.specs.Lookups.{MadeIs, is_made}
use Rattle.activations.specs.Places.{body_in, branch_end, equation_end, first_left_in}
use Rattle.activations.specs.Walks.{LastIs}
use Rattle.activations.specs.Ids.{IsId, holder_id, name_of, names_of}
use Rattle.activations.specs.TypeCodes.{typed_t, value_type_t}
use Rattle.activations.specs.TypesAt.{Coded}
use Rattle.activations.specs.NameIdsAt.{last_id_t, sample_name_t}
use Rattle.activations.specs.FreeVarsAt.{free_vars_at, free_vars_t, join_t}
use Rattle.activations.specs.LocalsAt.{Left, branch_locals_t, equation_local_t, equation_locals_t, new_local_t, new_locals_t, sample_local_t, scope_locals_t, value_local_t}
use Rattle.activations.proofs.ActRead.{EquationRead, body-to, branch-end-to, branch-value, counted-value, equation-end-to, equation-value, right-side-to}
use Rattle.activations.proofs.NodesRead.{expr-moves}
use Rattle.activations.proofs.IdLaws.{id_below}
use Rattle.activations.proofs.NameIdsKnown.{by_bool, sample-made, sample-named}
use Rattle.activations.proofs.FreeVarsKnown.{Tells, names-append}
use Rattle.activations.proofs.FreeVarsEach.{reads-each}
use Rattle.activations.proofs.ScopesKnown.{Fits, FitsIn, first-left-to, fresh-length, fresh_in, ids-fresh, joined, names_fresh, reads_at}
use Rattle.activations.proofs.LocalsLeft.{Leaves, leaves-more, leaves_none, leaves-one}
use Rattle.activations.proofs.MergeLaws.{scope-branch, scope-else}

-- a value's name begins as made ones do
value_made : (a : Name) (c : Scope) (v : Name) → is_made (value_var a c v) ≡ true
unfolding is_made slice_of value_var made_name act_prefix eq_name
value_made a c v = refl

-- a code that is none of no type
coded-some : (ns : List Name) (s : List ℕ) (c : ℕ) (o : Option Ty) → Coded ns s c o → (c ≡ 0 → ⊥) → Coded ns s c (some (or_bool o))
unfolding Coded or_bool
coded-some ns s c none h n = absurd (n h)
coded-some ns s c (some t) h n = h

-- a pack that was read; an activation's name, its n branches; the holders' rows, the types of variables and outputs by tables, and as
-- ports; the variables that are known; what holds of the variables that have rows
module _ (ns : List Name) (fresh : Fresh [] ns) (legal : All LegalName ns) (few : length ns + length ns ≤ 65536) (s : List ℕ) (by : Bytes s) (short : length s ≤ 65536) (last : ℕ) (L : LastIs ns last)
    (offsets : List ℕ) (placed : (i : ℕ) → i < length ns → pack_name s offsets i ≡ name_at ns i) (a : Name) (made : Bool) (M : MadeIs ns made) (n : ℕ)
    (lasts : List ℕ) (rows : ℕ) (env outs : List ℕ) (vars : List Name) (P : Name → Type 0)
    (rowed : (v : ℕ) → v < length ns → P (name_at ns v) → last_id_t lasts rows v ≡ holder_id ns a v)
    (old-told : (x : ℕ) → x < length ns → Tells ns fresh few s by short last L a lasts rows env outs vars P x)
    (held-told : (v : ℕ) → v < length ns → P (name_at ns v) → Tells ns fresh few s by short last L a lasts rows env outs vars P (holder_id ns a v))
    (none_told : typed_t env outs (length ns) 65536 ≡ 0)
    (ports outputs : List Port)
    (old-typed : (x : ℕ) → x < length ns → Coded ns s (typed_t env outs (length ns) x) (typed ports outputs (name_of ns a x)))
    (held-typed : (v : ℕ) → v < length ns → P (name_at ns v) → Coded ns s (typed_t env outs (length ns) (holder_id ns a v)) (typed ports outputs (name_of ns a (holder_id ns a v))))
    (valued : (x : ℕ) → x < length ns → Coded ns s (value_type_t env outs (length ns) x) (some (value_type ports outputs (name_at ns x)))) where
  few-names : length ns < 65536
  few-names = omega arith

  -- the type of a sample
  Sampled : ℕ → Type 0
  Sampled x = Coded ns s (typed_t env outs (length ns) x) (some (sample_type ports outputs (name_of ns a x)))

  sampled-old : (x : ℕ) → x < length ns → (typed_t env outs (length ns) x ≡ 0 → ⊥) → Sampled x
  unfolding Sampled sample_type
  sampled-old x l h = coded-some ns s (typed_t env outs (length ns) x) (typed ports outputs (name_of ns a x)) (old-typed x l) h

  sampled-held : (v : ℕ) → v < length ns → P (name_at ns v) → (typed_t env outs (length ns) (holder_id ns a v) ≡ 0 → ⊥) → Sampled (holder_id ns a v)
  unfolding Sampled sample_type
  sampled-held v l p h = coded-some ns s (typed_t env outs (length ns) (holder_id ns a v)) (typed ports outputs (name_of ns a (holder_id ns a v))) (held-typed v l p) h

  module _ (k : ℕ) where
    sample_port : Name → Port
    sample_port v = record { name = sample_var a (scope_at n k) v; ty = sample_type ports outputs v }

    value_port : Equation → Port
    value_port e = record { name = value_var a (scope_at n k) (first_left e.lhs); ty = value_type ports outputs (first_left e.lhs) }

    sample-left : (x : ℕ) (z : Left) → IsId ns a x → Sampled x → Leaves ns s (sample_port (name_of ns a x) ∷ []) z (sample_local_t ns s (tabled ns) made a offsets env outs n k x z)
    unfolding sample_local_t sample_port Sampled
    sample-left x z i h = leaves-one ns s fresh legal few-names by short made M (sample_name_t s offsets (length ns) a n k x) (typed_t env outs (length ns) x) (sample_port (name_of ns a x)) z (sample-named ns fresh legal few s by offsets placed a n k x (id_below ns a x i)) (sample-made a (scope_at n k) (name_of ns a x)) h

    new-left : (sampled ids : List ℕ) (z : Left) → All (IsId ns a) ids → All Sampled ids → Leaves ns s (sample_locals (sample_type ports outputs) a (scope_at n k) (names_of ns a (fresh_in sampled ids))) z (new_locals_t ns s (tabled ns) made a offsets env outs n k sampled ids z)
    unfolding new_locals_t new_local_t fresh_in names_of sample_locals All sample_port
    new-left sampled [] z all h = leaves_none ns s z
    new-left sampled (x ∷ xs) z all h =
        by_bool (λ (b : Bool). Leaves ns s (sample_locals (sample_type ports outputs) a (scope_at n k) (names_of ns a (cond b (fresh_in sampled xs) (x ∷ fresh_in sampled xs)))) z (new_locals_t ns s (tabled ns) made a offsets env outs n k sampled xs (cond b z (sample_local_t ns s (tabled ns) made a offsets env outs n k x z)))) (among x sampled)
        (λ e. new-left sampled xs z all.1 h.1)
        (λ e.
        let u = sample_local_t ns s (tabled ns) made a offsets env outs n k x z in
        leaves-more ns s (sample_port (name_of ns a x) ∷ []) (sample_locals (sample_type ports outputs) a (scope_at n k) (names_of ns a (fresh_in sampled xs))) z u (new_locals_t ns s (tabled ns) made a offsets env outs n k sampled xs u) (sample-left x z all.0 h.0) (new-left sampled xs u all.1 h.1))

    value-left : (p : ℕ) (x : Equation) (q : ℕ) (z : Left) → EquationRead ns s p x q → 0 < length x.lhs → Leaves ns s (value_port x ∷ []) z (value_local_t ns s (tabled ns) made a offsets env outs n k p z)
    unfolding value_local_t value_port
    value-left p x q z r l =
        let f = first-left-to ns s p x.lhs r.to-rhs r.lhs l in
        let i : first_left_in s p ≡ f.0 = f.1 in
        leaves-one ns s fresh legal few-names by short made M (value_var a (scope_at n k) (pack_name s offsets (first_left_in s p))) (value_type_t env outs (length ns) (first_left_in s p)) (value_port x) z
        (ap (value_var a (scope_at n k)) (ap (pack_name s offsets) i ∙ placed f.0 f.2 ∙ f.3))
        (value_made a (scope_at n k) (first_left x.lhs))
        (subst (λ (j : ℕ). Coded ns s (value_type_t env outs (length ns) j) (some (value_type ports outputs (first_left x.lhs)))) (sym i)
        (subst (λ (m : Name). Coded ns s (value_type_t env outs (length ns) f.0) (some (value_type ports outputs m))) f.3 (valued f.0 f.2)))

    -- the definition, an equation and the rest
    scope-list : (old new now : List Name) (e : Equation) (es : List Equation) → new ≡ drop_in old (scope_reads a vars e) → now ≡ old ++ new
        → sample_locals (sample_type ports outputs) a (scope_at n k) new ++ (value_port e ∷ scope_locals (sample_type ports outputs) (value_type ports outputs) a vars (scope_at n k) now es)
        ≡ scope_locals (sample_type ports outputs) (value_type ports outputs) a vars (scope_at n k) old (e ∷ es)
    unfolding scope_locals value_port
    scope-list old new now e es g h =
        ap (λ (w : List Name). sample_locals (sample_type ports outputs) a (scope_at n k) new ++ (value_port e ∷ scope_locals (sample_type ports outputs) (value_type ports outputs) a vars (scope_at n k) w es)) h
        ∙ ap (λ (w : List Name). sample_locals (sample_type ports outputs) a (scope_at n k) w ++ (value_port e ∷ scope_locals (sample_type ports outputs) (value_type ports outputs) a vars (scope_at n k) (old ++ w) es)) g

    -- the samples of what an equation reads
    each-sampled : (p : ℕ) (x : Equation) (q : ℕ) (ids : List ℕ) → EquationRead ns s p x q → Fits P x → free_vars_at lasts rows env outs (length ns) ns s last p ≡ ids → All Sampled ids
    unfolding free_vars_at
    each-sampled p x q ids r f e =
        subst (All Sampled) (sym (ap (free_vars_t lasts rows env outs (length ns) ns s last) (right-side-to ns s p x q r)) ∙ e)
        (reads-each ns few s by short last L a lasts rows env outs P rowed none_told Sampled sampled-old sampled-held r.to-rhs x.rhs q r.rhs f.1)

    equation-left : (p : ℕ) (x : Equation) (q : ℕ) (ids sampled : List ℕ) (z : Left) → EquationRead ns s p x q → Fits P x → All (IsId ns a) ids → All Sampled ids
        → Leaves ns s (sample_locals (sample_type ports outputs) a (scope_at n k) (names_of ns a (fresh_in sampled ids)) ++ (value_port x ∷ [])) z (equation_local_t ns s (tabled ns) made a offsets env outs n k ids sampled p z)
    unfolding equation_local_t
    equation-left p x q ids sampled z r f all h =
        let u = new_locals_t ns s (tabled ns) made a offsets env outs n k sampled ids z in
        leaves-more ns s (sample_locals (sample_type ports outputs) a (scope_at n k) (names_of ns a (fresh_in sampled ids))) (value_port x ∷ []) z u (value_local_t ns s (tabled ns) made a offsets env outs n k p u) (new-left sampled ids z all h) (value-left p x q u r f.0)

    -- an equation, and then the rest
    joined-left : (p : ℕ) (x : Equation) (xs : List Equation) (q : ℕ) (ids sampled : List ℕ) (z w : Left) → EquationRead ns s p x q → Fits P x → All (IsId ns a) ids → All Sampled ids → names_of ns a (fresh_in sampled ids) ≡ drop_in (names_of ns a sampled) (scope_reads a vars x)
        → Leaves ns s (scope_locals (sample_type ports outputs) (value_type ports outputs) a vars (scope_at n k) (names_of ns a (sampled ++ fresh_in sampled ids)) xs) (equation_local_t ns s (tabled ns) made a offsets env outs n k ids sampled p z) w
        → Leaves ns s (scope_locals (sample_type ports outputs) (value_type ports outputs) a vars (scope_at n k) (names_of ns a sampled) (x ∷ xs)) z w
    joined-left p x xs q ids sampled z w r f all h g v =
        let new : List Port = sample_locals (sample_type ports outputs) a (scope_at n k) (names_of ns a (fresh_in sampled ids)) in
        let rest : List Port = scope_locals (sample_type ports outputs) (value_type ports outputs) a vars (scope_at n k) (names_of ns a (sampled ++ fresh_in sampled ids)) xs in
        subst (λ (ls : List Port). Leaves ns s ls z w) (append_assoc new (value_port x ∷ []) rest ∙ scope-list (names_of ns a sampled) (names_of ns a (fresh_in sampled ids)) (names_of ns a (sampled ++ fresh_in sampled ids)) x xs g (names-append ns a fresh sampled (fresh_in sampled ids)))
        (leaves-more ns s (new ++ (value_port x ∷ [])) rest z (equation_local_t ns s (tabled ns) made a offsets env outs n k ids sampled p z) w (equation-left p x q ids sampled z r f all h) v)

    none_left : (sampled : List ℕ) (z : Left) → Leaves ns s (scope_locals (sample_type ports outputs) (value_type ports outputs) a vars (scope_at n k) (names_of ns a sampled) []) z z
    unfolding scope_locals
    none_left sampled z = leaves_none ns s z

    equations-left : (c p : ℕ) (es : List Equation) (q : ℕ) (sampled : List ℕ) (z : Left) → many (equation_in ns s) c p ≡ value es q → All (Fits P) es → All (IsId ns a) sampled → 3 * length sampled ≤ p
        → Leaves ns s (scope_locals (sample_type ports outputs) (value_type ports outputs) a vars (scope_at n k) (names_of ns a sampled) es) z (equation_locals_t ns s (tabled ns) made a offsets env outs n last lasts rows k c p sampled z)
    unfolding equation_locals_t All
    equations-left zero p [] q sampled z e f all l = none_left sampled z
    equations-left zero p (x ∷ xs) q sampled z e f all l = absurd (many-cut (equation_in ns s) p x xs q e)
    equations-left (suc c) p [] q sampled z e f all l = absurd (many-over (equation_in ns s) c p q e)
    equations-left (suc c) p (x ∷ xs) q sampled z e f all l =
        let m = many_more (equation_in ns s) c p x xs q e in
        let r = equation-value ns s p x m.0 m.1 in
        let d = reads_at ns fresh legal few s by short last L offsets placed a made M n lasts rows env outs vars P rowed old-told held-told none_told p x m.0 r f.0 in
        let i : p + 3 * length d.0 ≤ m.0 = d.4 in
        let b = (expr-moves ns s r.to-rhs x.rhs m.0 r.rhs).1 in
        let now : List ℕ = sampled ++ fresh_in sampled d.0 in
        let j : join_t d.0 sampled ≡ now = joined ns a fresh few d.0 sampled d.2 d.5 (omega arith) in
        let g : names_of ns a (fresh_in sampled d.0) ≡ drop_in (names_of ns a sampled) (scope_reads a vars x) = names_fresh ns a fresh few sampled d.0 all d.2 ∙ ap (drop_in (names_of ns a sampled)) d.3 in
        let o = fresh-length sampled d.0 in
        let y = length-append sampled (fresh_in sampled d.0) in
        let u = equation_local_t ns s (tabled ns) made a offsets env outs n k d.0 sampled p z in
        let w : equation_locals_t ns s (tabled ns) made a offsets env outs n last lasts rows k c (equation_end ns s p) (join_t (free_vars_at lasts rows env outs (length ns) ns s last p) sampled) (equation_local_t ns s (tabled ns) made a offsets env outs n k (free_vars_at lasts rows env outs (length ns) ns s last p) sampled p z)
        ≡ equation_locals_t ns s (tabled ns) made a offsets env outs n last lasts rows k c m.0 now u =
        (λ t. equation_locals_t ns s (tabled ns) made a offsets env outs n last lasts rows k c (equation-end-to ns s p x m.0 r t) (join_t (d.1 t) sampled) (equation_local_t ns s (tabled ns) made a offsets env outs n k (d.1 t) sampled p z))
        ∙ (λ t. equation_locals_t ns s (tabled ns) made a offsets env outs n last lasts rows k c m.0 (j t) u) in
        let v = equations-left c m.0 xs q now u m.2 f.1 (all_append (IsId ns a) sampled (fresh_in sampled d.0) all (ids-fresh ns a fresh few sampled d.0 d.2)) (omega arith) in
        subst (Leaves ns s (scope_locals (sample_type ports outputs) (value_type ports outputs) a vars (scope_at n k) (names_of ns a sampled) (x ∷ xs)) z) (sym w)
        (joined-left p x xs m.0 d.0 sampled z _ r f.0 d.2 (each-sampled p x m.0 d.0 r f.0 d.1) g v)

    -- THE LAW: a scope, whose count of equations stands at an offset
    pub scope-left : (at : ℕ) (es : List Equation) (q : ℕ) (z : Left) → equations_in ns s at ≡ value es q → All (Fits P) es
        → Leaves ns s (scope_locals (sample_type ports outputs) (value_type ports outputs) a vars (scope_at n k) [] es) z (scope_locals_t ns s (tabled ns) made a offsets env outs n last lasts rows k at z)
    unfolding scope_locals_t equations_in names_of All
    scope-left at es q z e f =
        let c = counted-value (equation_in ns s) s at es q e in
        subst (Leaves ns s (scope_locals (sample_type ports outputs) (value_type ports outputs) a vars (scope_at n k) [] es) z) (sym (number-to s at (length es) c.0 (λ i p. equation_locals_t ns s (tabled ns) made a offsets env outs n last lasts rows k i p [] z) c.1))
        (equations-left (length es) c.0 es q [] z c.2 f tt (omega arith))

  -- THE LAW: the scopes of branches
  pub branches-left : (k c p : ℕ) (bs : List Branch) (q : ℕ) (z : Left) → many (branch_in ns s) c p ≡ value bs q → k + c ≤ n → All (FitsIn P) bs
      → Leaves ns s (branch_locals (sample_type ports outputs) (value_type ports outputs) a vars k bs) z (branch_locals_t ns s (tabled ns) made a offsets env outs n last lasts rows k c p z)
  unfolding branch_locals_t branch_locals All
  branches-left k zero p [] q z e l f = leaves_none ns s z
  branches-left k zero p (x ∷ xs) q z e l f = absurd (many-cut (branch_in ns s) p x xs q e)
  branches-left k (suc c) p [] q z e l f = absurd (many-over (branch_in ns s) c p q e)
  branches-left k (suc c) p (x ∷ xs) q z e l f =
      let m = many_more (branch_in ns s) c p x xs q e in
      let r = branch-value ns s p x m.0 m.1 in
      let u = scope_locals_t ns s (tabled ns) made a offsets env outs n last lasts rows k r.to-equations z in
      let w : branch_locals_t ns s (tabled ns) made a offsets env outs n last lasts rows (suc k) c (branch_end ns s p) (scope_locals_t ns s (tabled ns) made a offsets env outs n last lasts rows k (body_in ns s p) z) ≡ branch_locals_t ns s (tabled ns) made a offsets env outs n last lasts rows (suc k) c m.0 u =
      λ j. branch_locals_t ns s (tabled ns) made a offsets env outs n last lasts rows (suc k) c (branch-end-to ns s p x m.0 r j) (scope_locals_t ns s (tabled ns) made a offsets env outs n last lasts rows k (body-to ns s p x m.0 r j) z) in
      subst (Leaves ns s (scope_locals (sample_type ports outputs) (value_type ports outputs) a vars (branch k) [] x.equations ++ branch_locals (sample_type ports outputs) (value_type ports outputs) a vars (suc k) xs) z) (sym w)
      (leaves-more ns s (scope_locals (sample_type ports outputs) (value_type ports outputs) a vars (branch k) [] x.equations) (branch_locals (sample_type ports outputs) (value_type ports outputs) a vars (suc k) xs) z u (branch_locals_t ns s (tabled ns) made a offsets env outs n last lasts rows (suc k) c m.0 u)
      (subst (λ (t : Scope). Leaves ns s (scope_locals (sample_type ports outputs) (value_type ports outputs) a vars t [] x.equations) z u) (scope-branch n k (omega arith)) (scope-left k r.to-equations x.equations m.0 z r.equations f.0))
      (branches-left (suc k) c m.0 xs q u m.2 (omega arith) f.1))

  -- the else scope
  pub else-left : (at : ℕ) (es : List Equation) (q : ℕ) (z : Left) → equations_in ns s at ≡ value es q → All (Fits P) es
      → Leaves ns s (scope_locals (sample_type ports outputs) (value_type ports outputs) a vars else_scope [] es) z (scope_locals_t ns s (tabled ns) made a offsets env outs n last lasts rows n at z)
  else-left at es q z e f = subst (λ (t : Scope). Leaves ns s (scope_locals (sample_type ports outputs) (value_type ports outputs) a vars t [] es) z (scope_locals_t ns s (tabled ns) made a offsets env outs n last lasts rows n at z)) (scope-else n n (omega arith)) (scope-left n at es q z e f)

-- The equations of scopes that the code writes from a pack that was read are those of the definition.
use Prim.Native.Nat.{ℕ, zero, suc, ◌+◌, ◌*◌, ◌<◌, ◌≤◌}
use native.Mathlib.Omega.{arith}
use mathlib.Core.List.{List, [], ◌∷◌, ◌++◌, append_assoc}
use mathlib.Core.Bool.{Bool, false, cond}
use mathlib.Core.Path.{◌≡◌, refl, sym, ap, ◌∙◌}
use lib.ListN.{length, length-append}
use lib.Dec.{eqb}
use Rattle.wire.specs.Answer.{many, u16, value}
use Rattle.wire.specs.Bytes.{two}
use Rattle.wire.specs.Lists.{All, Bytes}
use Rattle.wire.specs.Writer.{State, puts}
use Rattle.pack_rules.specs.Names.{Name}
use Rattle.pack_rules.specs.Syntax.{Branch, Equation, Expr, e_var}
use Rattle.pack_rules.specs.Forms.{name_at}
use Rattle.pack_rules.specs.Legal.{Fresh, LegalName}
use Rattle.pack_rules.specs.Read.{branch_in, equation_in, equations_in, expr_in, name_in, names_in}
use Rattle.pack_rules.specs.Write.{Item, each, equation_items, expr_items, list, name_items, nm, raw}
use Rattle.pack.specs.Table.{tabled}
use Rattle.pack.specs.Intern.{put_item, put_name, render}
use Rattle.pack.proofs.Interns.{render-append}
use Rattle.pack.proofs.Tables.{all_append}
use Rattle.machines.specs.Fingerprints.{among}
use Rattle.wire.specs.declared.answer.Number.{Number}
use Rattle.machines.specs.EmitAt.{pack_name}
use Rattle.machines.proofs.LocalLaws.{each_append}
use Rattle.machines.proofs.Reading.{many-cut, many_more, many-over, name-number}
use Rattle.machines.proofs.CheckedReadLaws.{number-num, number-to, or-none}
use Rattle.activation_rules.specs.MadeNames.{Scope, branch, else_scope, sample_var, value_var}
use Rattle.activations.specs.Vars.{scope_at}
use Rattle.activation_rules.specs.Defines.{eqn, first_left}
use Rattle.activation_rules.specs.Clocks.{onto}
use Rattle.activation_rules.specs.RewriteLast.{rewrite_last}
use Rattle.activation_rules.specs.Samples.{drop_in, over_samples, sample_equations}
use Rattle.activation_rules.specs.Scopes.{branch_equations, rewritten, scope_equations, scope_reads}
use Rattle.activations.specs.Lookups.{MadeIs}
use Rattle.activations.specs.Places.{equation_end, first_left_in}
use Rattle.activations.specs.Walks.{LastIs}
use Rattle.activations.specs.Ids.{IsId, holder_id, name_of, names_of}
use Rattle.activations.specs.Asked.{Asked}
use Rattle.activations.specs.ByNumber.{onto_items}
use Rattle.activations.specs.TypeCodes.{typed_t}
use Rattle.activations.specs.NameIdsAt.{id_items, last_id_t}
use Rattle.activations.specs.FreeVarsAt.{free_vars_at, free_vars_t, join_t}
use Rattle.activations.specs.OverSamplesAt.{over_t}
use Rattle.activations.specs.ScopesAt.{branches_t, equation_t, equations_t, new_items, sample_items, scope_t, scopes_t, value_items}
use Rattle.activations.proofs.ActRead.{EquationRead, body-to, branch-end-to, branch-value, counted-value, equation-end-to, equation-value, names-move, right-side-to}
use Rattle.activations.proofs.NodesRead.{expr-moves}
use Rattle.activations.proofs.ClockLaws.{onto-items}
use Rattle.activations.proofs.IdLaws.{id_below}
use Rattle.activations.proofs.NameIdsKnown.{by_bool, eqb-turns, id-written, sample-named}
use Rattle.activations.proofs.FreeVarsKnown.{Once, Tells, among-is, among-snoc, names-append, push-fits, reads_known}
use Rattle.activations.proofs.OverSamplesKnown.{rename-written}
use Rattle.activations.proofs.SampledConstantsKnown.{pinned-written}
use Rattle.activations.proofs.MergeLaws.{scope-branch, scope-else}

-- those of the numbers that are not among others
unfoldable pub fresh_in : List ℕ → List ℕ → List ℕ
fresh_in sampled [] = []
fresh_in sampled (x ∷ xs) = cond (among x sampled) (fresh_in sampled xs) (x ∷ fresh_in sampled xs)

fresh-more : (x : ℕ) (sampled xs : List ℕ) → among x xs ≡ false → fresh_in (sampled ++ (x ∷ [])) xs ≡ fresh_in sampled xs
unfolding fresh_in among
fresh-more x sampled [] e = refl
fresh-more x sampled (y ∷ ys) e =
    let o = or-none (eqb y x) (among x ys) e in
    let f = among-snoc y x sampled (eqb-turns x y ∙ o.0) in
    let g = fresh-more x sampled ys o.1 in
    λ j. cond (f j) (g j) (y ∷ g j)

pub fresh-length : (sampled ids : List ℕ) → length (fresh_in sampled ids) ≤ length ids
unfolding fresh_in
fresh-length sampled [] = omega arith
fresh-length sampled (x ∷ xs) =
    let h = fresh-length sampled xs in
    by_bool (λ (b : Bool). length (cond b (fresh_in sampled xs) (x ∷ fresh_in sampled xs)) ≤ suc (length xs)) (among x sampled) (λ e. omega arith) (λ e. omega arith)

module _ (ns : List Name) (a : Name) (fresh : Fresh [] ns) (few : length ns + length ns ≤ 65536) where
  -- what was seen and what is read, joined: the new ones after the old
  pub joined : (ids sampled : List ℕ) → All (IsId ns a) ids → Once ids → length sampled + length ids < 21848 → join_t ids sampled ≡ sampled ++ fresh_in sampled ids
  unfolding join_t fresh_in All Once
  joined [] sampled all once l = sym (append-none sampled)
    where
      append-none : (z : List ℕ) → z ++ [] ≡ z
      append-none [] = refl
      append-none (x ∷ xs) = ap (λ (r : List ℕ). x ∷ r) (append-none xs)
  joined (x ∷ xs) sampled all once l =
      ap (join_t xs) (push-fits x sampled (let b = id_below ns a x all.0 in omega arith) (omega arith))
      ∙ by_bool (λ (b : Bool). join_t xs (cond b sampled (sampled ++ (x ∷ []))) ≡ sampled ++ cond b (fresh_in sampled xs) (x ∷ fresh_in sampled xs)) (among x sampled)
      (λ e. joined xs sampled all.1 once.1 (omega arith))
      (λ e. joined xs (sampled ++ (x ∷ [])) all.1 once.1 (let j = length-append sampled (x ∷ []) in omega arith)
      ∙ ap (λ (z : List ℕ). (sampled ++ (x ∷ [])) ++ z) (fresh-more x sampled xs once.0)
      ∙ append_assoc sampled (x ∷ []) (fresh_in sampled xs))

  pub names_fresh : (sampled ids : List ℕ) → All (IsId ns a) sampled → All (IsId ns a) ids → names_of ns a (fresh_in sampled ids) ≡ drop_in (names_of ns a sampled) (names_of ns a ids)
  unfolding fresh_in drop_in names_of All
  names_fresh sampled [] s all = refl
  names_fresh sampled (x ∷ xs) s all =
      by_bool (λ (b : Bool). names_of ns a (cond b (fresh_in sampled xs) (x ∷ fresh_in sampled xs)) ≡ cond b (drop_in (names_of ns a sampled) (names_of ns a xs)) (name_of ns a x ∷ drop_in (names_of ns a sampled) (names_of ns a xs))) (among x sampled)
      (λ e. names_fresh sampled xs s all.1) (λ e. ap (λ (r : List Name). name_of ns a x ∷ r) (names_fresh sampled xs s all.1))
      ∙ ap (λ (b : Bool). cond b (drop_in (names_of ns a sampled) (names_of ns a xs)) (name_of ns a x ∷ drop_in (names_of ns a sampled) (names_of ns a xs))) (among-is ns a fresh x sampled all.0 s)

  pub ids-fresh : (sampled ids : List ℕ) → All (IsId ns a) ids → All (IsId ns a) (fresh_in sampled ids)
  unfolding fresh_in All
  ids-fresh sampled [] all = tt
  ids-fresh sampled (x ∷ xs) all = by_bool (λ (b : Bool). All (IsId ns a) (cond b (fresh_in sampled xs) (x ∷ fresh_in sampled xs))) (among x sampled) (λ e. ids-fresh sampled xs all.1) (λ e. (all.0, ids-fresh sampled xs all.1))

-- the first left name of an equation that was read
module _ (ns : List Name) (s : List ℕ) where
  pub first-left-to : (at : ℕ) (x : List Name) (q : ℕ) → names_in ns s at ≡ value x q → 0 < length x → (i : ℕ) × (first_left_in s at ≡ i) × (i < length ns) × (name_at ns i ≡ first_left x)
  unfolding names_in first_left_in first_left
  first-left-to at [] q e l = absurd (omega arith)
  first-left-to at (x ∷ xs) q e l =
      let c = counted-value (name_in ns s) s at (x ∷ xs) q e in
      let m = many_more (name_in ns s) (length xs) c.0 x xs q c.2 in
      let n = name-number ns s c.0 x m.0 m.1 in
      (n.i, number-to s at (suc (length xs)) c.0 _ c.1 ∙ number-to s c.0 n.i m.0 _ n.is, n.small, n.named)

pub equation-parts : (n : Name) (e : Expr) → equation_items (eqn n e) ≡ raw (two 1) ∷ nm n ∷ expr_items e
unfolding equation_items eqn list each name_items
equation-parts n e = refl

-- an equation with a left name, whose calls of `last` ask for variables that have rows; a branch of such
abbrev pub Fits : (Name → Type 0) → Equation → Type 0
Fits P e = (0 < length e.lhs) × Asked P e.rhs

abbrev pub FitsIn : (Name → Type 0) → Branch → Type 0
FitsIn P b = All (Fits P) b.equations

-- a pack that was read; an activation's name, its n branches; the holders' rows, the types of variables and outputs; the variables
-- that are known; what holds of the variables that have rows
module _ (ns : List Name) (fresh : Fresh [] ns) (legal : All LegalName ns) (few : length ns + length ns ≤ 65536) (s : List ℕ) (by : Bytes s) (short : length s ≤ 65536) (last : ℕ) (L : LastIs ns last)
    (offsets : List ℕ) (placed : (i : ℕ) → i < length ns → pack_name s offsets i ≡ name_at ns i) (a : Name) (made : Bool) (M : MadeIs ns made) (n : ℕ)
    (lasts : List ℕ) (rows : ℕ) (env outs : List ℕ) (vars : List Name) (P : Name → Type 0)
    (rowed : (v : ℕ) → v < length ns → P (name_at ns v) → last_id_t lasts rows v ≡ holder_id ns a v)
    (old-told : (x : ℕ) → x < length ns → Tells ns fresh few s by short last L a lasts rows env outs vars P x)
    (held-told : (v : ℕ) → v < length ns → P (name_at ns v) → Tells ns fresh few s by short last L a lasts rows env outs vars P (holder_id ns a v))
    (none_told : typed_t env outs (length ns) 65536 ≡ 0) where
  few-names : length ns < 65536
  few-names = omega arith

  -- what an equation reads
  pub reads_at : (p : ℕ) (x : Equation) (q : ℕ) → EquationRead ns s p x q → Fits P x
      → (ids : List ℕ) × (free_vars_at lasts rows env outs (length ns) ns s last p ≡ ids) × All (IsId ns a) ids × (names_of ns a ids ≡ scope_reads a vars x) × (p + 3 * length ids ≤ q) × Once ids
  unfolding free_vars_at scope_reads
  reads_at p x q r f =
      let h = reads_known ns fresh few s by short last L a lasts rows env outs vars P rowed old-told held-told none_told r.to-rhs x.rhs q r.rhs f.1 in
      let m = names-move ns s p x.lhs r.to-rhs r.lhs in
      let i = h.2 in
      (free_vars_t lasts rows env outs (length ns) ns s last r.to-rhs, ap (free_vars_t lasts rows env outs (length ns) ns s last) (right-side-to ns s p x q r), h.0, h.1, omega arith, h.3)

  module _ (k : ℕ) where
    -- the equation of a sample
    sample-alike : (x : ℕ) (z : State) → IsId ns a x → render (tabled ns) (sample_items s offsets (length ns) a n k x) z ≡ render (tabled ns) (equation_items (eqn (sample_var a (scope_at n k) (name_of ns a x)) (onto a n (scope_at n k) (e_var (name_of ns a x))))) z
    unfolding sample_items render put_item expr_items
    sample-alike x z i =
        ap (λ (m : Name). render (tabled ns) (onto_items a n (scope_at n k) ++ (raw (1 ∷ []) ∷ id_items s offsets (length ns) a x)) (put_name (tabled ns) m (puts (two 1) z))) (sample-named ns fresh legal few s by offsets placed a n k x (id_below ns a x i))
        ∙ render-append (tabled ns) (onto_items a n (scope_at n k)) (raw (1 ∷ []) ∷ id_items s offsets (length ns) a x) (put_name (tabled ns) (sample_var a (scope_at n k) (name_of ns a x)) (puts (two 1) z))
        ∙ id-written ns fresh legal few s by offsets placed a x (id_below ns a x i) (puts (1 ∷ []) (render (tabled ns) (onto_items a n (scope_at n k)) (put_name (tabled ns) (sample_var a (scope_at n k) (name_of ns a x)) (puts (two 1) z))))
        ∙ sym (render-append (tabled ns) (onto_items a n (scope_at n k)) (expr_items (e_var (name_of ns a x))) (put_name (tabled ns) (sample_var a (scope_at n k) (name_of ns a x)) (puts (two 1) z)))
        ∙ ap (λ (is : List Item). render (tabled ns) is (put_name (tabled ns) (sample_var a (scope_at n k) (name_of ns a x)) (puts (two 1) z))) (sym (onto-items a n (scope_at n k) (e_var (name_of ns a x))))
        ∙ ap (λ (is : List Item). render (tabled ns) is z) (sym (equation-parts (sample_var a (scope_at n k) (name_of ns a x)) (onto a n (scope_at n k) (e_var (name_of ns a x)))))

    new-written : (sampled ids : List ℕ) (z : State) → All (IsId ns a) ids → render (tabled ns) (new_items s offsets (length ns) a n k sampled ids) z ≡ render (tabled ns) (each equation_items (sample_equations a n (scope_at n k) (names_of ns a (fresh_in sampled ids)))) z
    unfolding new_items fresh_in names_of sample_equations each render All
    new-written sampled [] z all = refl
    new-written sampled (x ∷ xs) z all = by_bool (λ (b : Bool). render (tabled ns) (cond b (new_items s offsets (length ns) a n k sampled xs) (sample_items s offsets (length ns) a n k x ++ new_items s offsets (length ns) a n k sampled xs)) z ≡ render (tabled ns) (each equation_items (sample_equations a n (scope_at n k) (names_of ns a (cond b (fresh_in sampled xs) (x ∷ fresh_in sampled xs))))) z) (among x sampled)
        (λ e. new-written sampled xs z all.1)
        (λ e. render-append (tabled ns) (sample_items s offsets (length ns) a n k x) (new_items s offsets (length ns) a n k sampled xs) z
        ∙ ap (render (tabled ns) (new_items s offsets (length ns) a n k sampled xs)) (sample-alike x z all.0)
        ∙ new-written sampled xs (render (tabled ns) (equation_items (eqn (sample_var a (scope_at n k) (name_of ns a x)) (onto a n (scope_at n k) (e_var (name_of ns a x))))) z) all.1
        ∙ sym (render-append (tabled ns) (equation_items (eqn (sample_var a (scope_at n k) (name_of ns a x)) (onto a n (scope_at n k) (e_var (name_of ns a x))))) (each equation_items (sample_equations a n (scope_at n k) (names_of ns a (fresh_in sampled xs)))) z))

    -- THE LAW: a right side, over the samples of what it reads
    pub over-written : (ids : List ℕ) (at : ℕ) (e : Expr) (q : ℕ) (z : State) → All (IsId ns a) ids → expr_in ns s at ≡ value e q → Asked P e
        → over_t (tabled ns) s offsets (length ns) made a n k ids lasts rows ns last at z ≡ render (tabled ns) (expr_items (over_samples a n (scope_at n k) (names_of ns a ids) (rewrite_last a e))) z
    unfolding over_t over_samples names_of
    over-written [] at e q z all d h = pinned-written ns fresh few-names legal s by short last L offsets placed a n k at e q z d
    over-written (v ∷ vs) at e q z all d h = rename-written ns fresh legal few s by short last L offsets placed a made M n k lasts rows P rowed (v ∷ vs) all at e q z d h

    value-alike : (p : ℕ) (x : List Name) (q : ℕ) (e : Expr) (z : State) → names_in ns s p ≡ value x q → 0 < length x
        → render (tabled ns) (expr_items e) (render (tabled ns) (value_items s offsets (length ns) a n k p) z) ≡ render (tabled ns) (equation_items (eqn (value_var a (scope_at n k) (first_left x)) e)) z
    unfolding value_items render put_item
    value-alike p x q e z d l =
        let f = first-left-to ns s p x q d l in
        ap (λ (m : Name). render (tabled ns) (expr_items e) (put_name (tabled ns) (value_var a (scope_at n k) m) (puts (two 1) z))) (ap (pack_name s offsets) f.1 ∙ placed f.0 f.2 ∙ f.3)
        ∙ ap (λ (is : List Item). render (tabled ns) is z) (sym (equation-parts (value_var a (scope_at n k) (first_left x)) e))

    -- an equation: its new samples, then its value
    equation-known : (p : ℕ) (x : Equation) (q : ℕ) (ids sampled : List ℕ) (z : State) → EquationRead ns s p x q → Fits P x → All (IsId ns a) ids
        → equation_t (tabled ns) s offsets (length ns) made ns last lasts rows a n k ids sampled p z
        ≡ render (tabled ns) (equation_items (eqn (value_var a (scope_at n k) (first_left x.lhs)) (over_samples a n (scope_at n k) (names_of ns a ids) (rewrite_last a x.rhs)))) (render (tabled ns) (each equation_items (sample_equations a n (scope_at n k) (names_of ns a (fresh_in sampled ids)))) z)
    unfolding equation_t
    equation-known p x q ids sampled z r f all =
        ap (λ (i : ℕ). over_t (tabled ns) s offsets (length ns) made a n k ids lasts rows ns last i (render (tabled ns) (value_items s offsets (length ns) a n k p) (render (tabled ns) (new_items s offsets (length ns) a n k sampled ids) z))) (right-side-to ns s p x q r)
        ∙ ap (λ (y : State). over_t (tabled ns) s offsets (length ns) made a n k ids lasts rows ns last r.to-rhs (render (tabled ns) (value_items s offsets (length ns) a n k p) y)) (new-written sampled ids z all)
        ∙ over-written ids r.to-rhs x.rhs q (render (tabled ns) (value_items s offsets (length ns) a n k p) (render (tabled ns) (each equation_items (sample_equations a n (scope_at n k) (names_of ns a (fresh_in sampled ids)))) z)) all r.rhs f.1
        ∙ value-alike p x.lhs r.to-rhs (over_samples a n (scope_at n k) (names_of ns a ids) (rewrite_last a x.rhs)) (render (tabled ns) (each equation_items (sample_equations a n (scope_at n k) (names_of ns a (fresh_in sampled ids)))) z) r.lhs f.0

    -- the definition, an equation and the rest
    scope-step : (old : List Name) (new : List Name) (e : Equation) (es : List Equation) (z : State) → new ≡ drop_in old (scope_reads a vars e)
        → render (tabled ns) (each equation_items (scope_equations a n vars (scope_at n k) old (e ∷ es))) z
        ≡ render (tabled ns) (each equation_items (scope_equations a n vars (scope_at n k) (old ++ new) es)) (render (tabled ns) (equation_items (eqn (value_var a (scope_at n k) (first_left e.lhs)) (rewritten a n vars (scope_at n k) e))) (render (tabled ns) (each equation_items (sample_equations a n (scope_at n k) new)) z))
    unfolding scope_equations each
    scope-step old new e es z g =
        let rest : List Name → List Equation = λ w. eqn (value_var a (scope_at n k) (first_left e.lhs)) (rewritten a n vars (scope_at n k) e) ∷ scope_equations a n vars (scope_at n k) (old ++ w) es in
        ap (λ (w : List Name). render (tabled ns) (each equation_items (sample_equations a n (scope_at n k) w ++ rest w)) z) (sym g)
        ∙ ap (λ (is : List Item). render (tabled ns) is z) (each_append equation_items (sample_equations a n (scope_at n k) new) (rest new))
        ∙ render-append (tabled ns) (each equation_items (sample_equations a n (scope_at n k) new)) (each equation_items (rest new)) z
        ∙ render-append (tabled ns) (equation_items (eqn (value_var a (scope_at n k) (first_left e.lhs)) (rewritten a n vars (scope_at n k) e))) (each equation_items (scope_equations a n vars (scope_at n k) (old ++ new) es)) (render (tabled ns) (each equation_items (sample_equations a n (scope_at n k) new)) z)

    -- no equation left; the rest where what was read and seen is told by names
    none_left : (sampled : List ℕ) (z : State) → z ≡ render (tabled ns) (each equation_items (scope_equations a n vars (scope_at n k) (names_of ns a sampled) [])) z
    unfolding scope_equations each render
    none_left sampled z = refl

    same_rest : (x : Equation) (xs : List Equation) (old new now ids : List Name) (z : State) → now ≡ old ++ new → ids ≡ scope_reads a vars x
        → render (tabled ns) (each equation_items (scope_equations a n vars (scope_at n k) now xs)) (render (tabled ns) (equation_items (eqn (value_var a (scope_at n k) (first_left x.lhs)) (over_samples a n (scope_at n k) ids (rewrite_last a x.rhs)))) (render (tabled ns) (each equation_items (sample_equations a n (scope_at n k) new)) z))
        ≡ render (tabled ns) (each equation_items (scope_equations a n vars (scope_at n k) (old ++ new) xs)) (render (tabled ns) (equation_items (eqn (value_var a (scope_at n k) (first_left x.lhs)) (rewritten a n vars (scope_at n k) x))) (render (tabled ns) (each equation_items (sample_equations a n (scope_at n k) new)) z))
    unfolding rewritten
    same_rest x xs old new now ids z g h = λ j. render (tabled ns) (each equation_items (scope_equations a n vars (scope_at n k) (g j) xs)) (render (tabled ns) (equation_items (eqn (value_var a (scope_at n k) (first_left x.lhs)) (over_samples a n (scope_at n k) (h j) (rewrite_last a x.rhs)))) (render (tabled ns) (each equation_items (sample_equations a n (scope_at n k) new)) z))

    equations-known : (c p : ℕ) (es : List Equation) (q : ℕ) (sampled : List ℕ) (z : State) → many (equation_in ns s) c p ≡ value es q → All (Fits P) es → All (IsId ns a) sampled → 3 * length sampled ≤ p
        → equations_t (tabled ns) s offsets (length ns) made ns last lasts rows env outs a n k c p sampled z ≡ render (tabled ns) (each equation_items (scope_equations a n vars (scope_at n k) (names_of ns a sampled) es)) z
    unfolding equations_t All
    equations-known zero p [] q sampled z e f all l = none_left sampled z
    equations-known zero p (x ∷ xs) q sampled z e f all l = absurd (many-cut (equation_in ns s) p x xs q e)
    equations-known (suc c) p [] q sampled z e f all l = absurd (many-over (equation_in ns s) c p q e)
    equations-known (suc c) p (x ∷ xs) q sampled z e f all l =
        let m = many_more (equation_in ns s) c p x xs q e in
        let r = equation-value ns s p x m.0 m.1 in
        let d = reads_at p x m.0 r f.0 in
        let i : p + 3 * length d.0 ≤ m.0 = d.4 in
        let b = (expr-moves ns s r.to-rhs x.rhs m.0 r.rhs).1 in
        let j = joined ns a fresh few d.0 sampled d.2 d.5 (omega arith) in
        let g : names_of ns a (fresh_in sampled d.0) ≡ drop_in (names_of ns a sampled) (scope_reads a vars x) = names_fresh ns a fresh few sampled d.0 all d.2 ∙ ap (drop_in (names_of ns a sampled)) d.3 in
        let u = fresh-length sampled d.0 in
        let w = length-append sampled (fresh_in sampled d.0) in
        ap (λ (t : List ℕ). equations_t (tabled ns) s offsets (length ns) made ns last lasts rows env outs a n k c (equation_end ns s p) (join_t t sampled) (equation_t (tabled ns) s offsets (length ns) made ns last lasts rows a n k t sampled p z)) d.1
        ∙ ap (λ (t : ℕ). equations_t (tabled ns) s offsets (length ns) made ns last lasts rows env outs a n k c t (join_t d.0 sampled) (equation_t (tabled ns) s offsets (length ns) made ns last lasts rows a n k d.0 sampled p z)) (equation-end-to ns s p x m.0 r)
        ∙ ap (λ (t : List ℕ). equations_t (tabled ns) s offsets (length ns) made ns last lasts rows env outs a n k c m.0 t (equation_t (tabled ns) s offsets (length ns) made ns last lasts rows a n k d.0 sampled p z)) j
        ∙ ap (equations_t (tabled ns) s offsets (length ns) made ns last lasts rows env outs a n k c m.0 (sampled ++ fresh_in sampled d.0)) (equation-known p x m.0 d.0 sampled z r f.0 d.2)
        ∙ equations-known c m.0 xs q (sampled ++ fresh_in sampled d.0) _ m.2 f.1 (all_append (IsId ns a) sampled (fresh_in sampled d.0) all (ids-fresh ns a fresh few sampled d.0 d.2)) (omega arith)
        ∙ same_rest x xs (names_of ns a sampled) (names_of ns a (fresh_in sampled d.0)) (names_of ns a (sampled ++ fresh_in sampled d.0)) (names_of ns a d.0) z (names-append ns a fresh sampled (fresh_in sampled d.0)) d.3
        ∙ sym (scope-step (names_of ns a sampled) (names_of ns a (fresh_in sampled d.0)) x xs z g)

    -- THE LAW: a scope, whose count of equations stands at an offset
    pub scope-known : (at : ℕ) (es : List Equation) (q : ℕ) (z : State) → equations_in ns s at ≡ value es q → All (Fits P) es
        → scope_t (tabled ns) s offsets (length ns) made ns last lasts rows env outs a n k at z ≡ render (tabled ns) (each equation_items (scope_equations a n vars (scope_at n k) [] es)) z
    unfolding scope_t equations_in names_of All
    scope-known at es q z e f =
        let c = counted-value (equation_in ns s) s at es q e in
        number-to s at (length es) c.0 _ c.1 ∙ equations-known (length es) c.0 es q [] z c.2 f tt (omega arith)

  branches-known : (k c p : ℕ) (bs : List Branch) (q : ℕ) (z : State) → many (branch_in ns s) c p ≡ value bs q → k + c ≤ n → All (FitsIn P) bs
      → branches_t (tabled ns) s offsets (length ns) made ns last lasts rows env outs a n k c p z ≡ render (tabled ns) (each equation_items (branch_equations a n vars k bs)) z
  unfolding branches_t branch_equations each render All
  branches-known k zero p [] q z e l f = refl
  branches-known k zero p (x ∷ xs) q z e l f = absurd (many-cut (branch_in ns s) p x xs q e)
  branches-known k (suc c) p [] q z e l f = absurd (many-over (branch_in ns s) c p q e)
  branches-known k (suc c) p (x ∷ xs) q z e l f =
      let m = many_more (branch_in ns s) c p x xs q e in
      let r = branch-value ns s p x m.0 m.1 in
      (λ j. branches_t (tabled ns) s offsets (length ns) made ns last lasts rows env outs a n (suc k) c (branch-end-to ns s p x m.0 r j) (scope_t (tabled ns) s offsets (length ns) made ns last lasts rows env outs a n k (body-to ns s p x m.0 r j) z))
      ∙ ap (branches_t (tabled ns) s offsets (length ns) made ns last lasts rows env outs a n (suc k) c m.0) (scope-known k r.to-equations x.equations m.0 z r.equations f.0 ∙ ap (λ (t : Scope). render (tabled ns) (each equation_items (scope_equations a n vars t [] x.equations)) z) (scope-branch n k (omega arith)))
      ∙ branches-known (suc k) c m.0 xs q (render (tabled ns) (each equation_items (scope_equations a n vars (branch k) [] x.equations)) z) m.2 (omega arith) f.1
      ∙ sym (render-append (tabled ns) (each equation_items (scope_equations a n vars (branch k) [] x.equations)) (each equation_items (branch_equations a n vars (suc k) xs)) z)
      ∙ ap (λ (is : List Item). render (tabled ns) is z) (sym (each_append equation_items (scope_equations a n vars (branch k) [] x.equations) (branch_equations a n vars (suc k) xs)))

  -- THE LAW: all scopes of an activation that was read
  pub scopes-known : (branches b : ℕ) (bs : List Branch) (to : ℕ) (es : List Equation) (q : ℕ) (z : State) → u16 s branches ≡ value n b → many (branch_in ns s) n b ≡ value bs to → equations_in ns s to ≡ value es q → All (FitsIn P) bs → All (Fits P) es
      → scopes_t (tabled ns) s offsets (length ns) made ns last lasts rows env outs a n branches to z ≡ render (tabled ns) (each equation_items (branch_equations a n vars 0 bs ++ scope_equations a n vars else_scope [] es)) z
  unfolding scopes_t
  scopes-known branches b bs to es q z c d e f g =
      ap (λ (x : Number). scope_t (tabled ns) s offsets (length ns) made ns last lasts rows env outs a n n to (branches_t (tabled ns) s offsets (length ns) made ns last lasts rows env outs a n 0 n x.next z)) (number-num s branches n b c)
      ∙ ap (scope_t (tabled ns) s offsets (length ns) made ns last lasts rows env outs a n n to) (branches-known 0 n b bs to z d (omega arith) f)
      ∙ scope-known n to es q (render (tabled ns) (each equation_items (branch_equations a n vars 0 bs)) z) e g
      ∙ ap (λ (t : Scope). render (tabled ns) (each equation_items (scope_equations a n vars t [] es)) (render (tabled ns) (each equation_items (branch_equations a n vars 0 bs)) z)) (scope-else n n (omega arith))
      ∙ sym (render-append (tabled ns) (each equation_items (branch_equations a n vars 0 bs)) (each equation_items (scope_equations a n vars else_scope [] es)) z)
      ∙ ap (λ (is : List Item). render (tabled ns) is z) (sym (each_append equation_items (branch_equations a n vars 0 bs) (scope_equations a n vars else_scope [] es)))

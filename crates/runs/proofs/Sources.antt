-- A right side that reads a variable of the owner or holds a literal does so, or reads a holder, when `last` is replaced.
use mathlib.Core.List.{List, [], ◌++◌, ◌∷◌, cons-ne-nil}
use mathlib.Core.Bool.{Bool, ◌&&◌, cond, false, true}
use mathlib.Core.Path.{◌≡◌, ap, ap₂, refl, subst, sym}
use Rattle.pack.proofs.Tables.{eq_name-refl}
use Rattle.pack_rules.specs.Names.{Name, eq_name, member}
use Rattle.pack_rules.specs.Syntax.{Expr, Exprs, e_array, e_arrow, e_binary, e_call, e_cast, e_const, e_field, e_if, e_index, e_iterate, e_merge, e_pre, e_struct, e_tuple, e_unary, e_var, e_when, x_cons, x_nil}
use Rattle.activation_rules.specs.LastCalls.{CallKind, bad_last, call_kind, last_of, plain}
use Rattle.activation_rules.specs.MadeNames.{last_var}
use Rattle.activation_rules.specs.SampledConstants.{has_const}
use Rattle.activation_rules.specs.FreeVars.{free_vars, keep_in, reads_of}
use Rattle.activation_rules.specs.RewriteLast.{rewrite_last, rewrite_lasts}
use Rattle.run_rules.specs.Visits.{any_in, asks, calls_in, calls_of, has_source, simple, simples}
use Rattle.run_rules.proofs.Booleans.{&&-true, or_left, or_split, true-false, ≡→T}
use Rattle.runs.proofs.FullClock.{keep-have}
use Rattle.runs.proofs.Held.{empty}
use Rattle.runs.proofs.LastsRead.{reads-have}
use Rattle.activation_rules.specs.Sought.{Sought}

nil-both : {A : Type 0} (k l : List A) → k ++ l ≡ [] → (k ≡ []) × (l ≡ [])
nil-both [] l e = (refl, e)
nil-both (x ∷ k) l e = absurd (cons-ne-nil x (k ++ l) e)

call_same : (a f : Name) (xs : Exprs) → simple (rewrite_last a (e_call f xs)) ≡ true → calls_of (e_call f xs) ≡ [] → rewrite_last a (e_call f xs) ≡ e_call f xs
unfolding rewrite_last calls_of simple
call_same a f xs pl e = go (call_kind f xs) pl e
  where
    go : (k : CallKind) → simple (elim k [ plain ↦ e_call f (rewrite_lasts a xs) | bad_last ↦ e_call f (rewrite_lasts a xs) | last_of w i ↦ e_var (last_var a w) ]) ≡ true
        → ◌≡◌ {A = List Sought} (elim k [ plain ↦ calls_in xs | bad_last ↦ calls_in xs | last_of w i ↦ record { var = w; init = i } ∷ [] ]) []
        → ◌≡◌ {A = Expr} (elim k [ plain ↦ e_call f (rewrite_lasts a xs) | bad_last ↦ e_call f (rewrite_lasts a xs) | last_of w i ↦ e_var (last_var a w) ]) (e_call f xs)
    go plain p q = absurd (≡→T false p)
    go bad_last p q = absurd (≡→T false p)
    go (last_of w i) p q = absurd (cons-ne-nil (record { var = w; init = i }) [] q)

-- without `last` nothing is replaced
mutual
  unfolding rewrite_last calls_of simple

  same : (a : Name) (e : Expr) → simple (rewrite_last a e) ≡ true → calls_of e ≡ [] → rewrite_last a e ≡ e
  same a (e_const l) pl e = refl
  same a (e_var x) pl e = refl
  same a (e_unary o d) pl e = ap (λ (z : Expr). e_unary o z) (same a d pl e)
  same a (e_binary o d b) pl e =
      let p = &&-true (simple (rewrite_last a d)) (simple (rewrite_last a b)) pl in let q = nil-both (calls_of d) (calls_of b) e in ap₂ (λ (y z : Expr). e_binary o y z) (same a d p.0 q.0) (same a b p.1 q.1)
  same a (e_if d b c) pl e =
      let p = &&-true (simple (rewrite_last a d)) (simple (rewrite_last a b) && simple (rewrite_last a c)) pl in
      let p' = &&-true (simple (rewrite_last a b)) (simple (rewrite_last a c)) p.1 in
      let q = nil-both (calls_of d) (calls_of b ++ calls_of c) e in
      let q' = nil-both (calls_of b) (calls_of c) q.1 in
      rw (same a d p.0 q.0, same a b p'.0 q'.0, same a c p'.1 q'.1)
  same a (e_pre d) pl e = ap e_pre (same a d pl e)
  same a (e_arrow d b) pl e =
      let p = &&-true (simple (rewrite_last a d)) (simple (rewrite_last a b)) pl in let q = nil-both (calls_of d) (calls_of b) e in ap₂ (λ (y z : Expr). e_arrow y z) (same a d p.0 q.0) (same a b p.1 q.1)
  same a (e_call f xs) pl e = call_same a f xs pl e
  same a (e_field d f) pl e = ap (λ (z : Expr). e_field z f) (same a d pl e)
  same a (e_index d b) pl e =
      let p = &&-true (simple (rewrite_last a d)) (simple (rewrite_last a b)) pl in let q = nil-both (calls_of d) (calls_of b) e in ap₂ (λ (y z : Expr). e_index y z) (same a d p.0 q.0) (same a b p.1 q.1)
  same a (e_tuple xs) pl e = ap e_tuple (same_in a xs pl e)
  same a (e_array xs) pl e = ap e_array (same_in a xs pl e)
  same a (e_struct n fs xs) pl e = ap (λ (z : Exprs). e_struct n fs z) (same_in a xs pl e)
  same a (e_cast t d) pl e = ap (λ (z : Expr). e_cast t z) (same a d pl e)
  same a (e_when d y b) pl e = absurd (≡→T false pl)
  same a (e_merge y d b) pl e = absurd (≡→T false pl)
  same a (e_iterate k f i xs) pl e = absurd (≡→T false pl)

  same_in : (a : Name) (xs : Exprs) → simples (rewrite_lasts a xs) ≡ true → calls_in xs ≡ [] → rewrite_lasts a xs ≡ xs
  same_in a x_nil pl e = refl
  same_in a (x_cons d xs) pl e =
      let p = &&-true (simple (rewrite_last a d)) (simples (rewrite_lasts a xs)) pl in let q = nil-both (calls_of d) (calls_in xs) e in ap₂ (λ (y : Expr) (z : Exprs). x_cons y z) (same a d p.0 q.0) (same_in a xs p.1 q.1)

any-kept : (own vars l : List Name) → ((x : Name) → member x own ≡ true → member x vars ≡ true) → any_in own l ≡ true → keep_in vars l ≡ [] → ⊥
unfolding any_in keep_in
any-kept own vars [] sub m e = ≡→T false m
any-kept own vars (x ∷ l) sub m e = go (member x vars) refl e (λ (q : any_in own l ≡ true) (k : keep_in vars l ≡ []). any-kept own vars l sub q k)
  where
    go : (b : Bool) → member x vars ≡ b → cond b (x ∷ keep_in vars l) (keep_in vars l) ≡ [] → (any_in own l ≡ true → keep_in vars l ≡ [] → ⊥) → ⊥
    go true p q r = cons-ne-nil x (keep_in vars l) q
    go false p q r = here (member x own) refl
      where
        here : (b : Bool) → member x own ≡ b → ⊥
        here true k = true-false {b = member x vars} (sub x k) p
        here false k = r (or_split (member x own) (any_in own l) m k) q

pub keeps-source : (a : Name) (own vars : List Name) (e : Expr) → ((x : Name) → member x own ≡ true → member x vars ≡ true) → ((v : Name) → asks v (calls_of e) ≡ true → member (last_var a v) vars ≡ true)
    → simple (rewrite_last a e) ≡ true → has_source own e ≡ true → reads_of vars (rewrite_last a e) ≡ [] → has_const (rewrite_last a e) ≡ true
unfolding has_source reads_of member asks
keeps-source a own vars e sub lv pl src k = go (calls_of e) refl
  where
    other-one : calls_of e ≡ [] → (b : Bool) → any_in own (free_vars e []) ≡ b → has_const (rewrite_last a e) ≡ true
    other-one n true p = absurd (any-kept own vars (free_vars e []) sub p (subst (λ (z : Expr). keep_in vars (free_vars z []) ≡ []) (same a e pl n) k))
    other-one n false p = subst (λ (z : Expr). has_const z ≡ true) (sym (same a e pl n)) (or_split (any_in own (free_vars e [])) (has_const e) src p)

    go : (l : List Sought) → calls_of e ≡ l → has_const (rewrite_last a e) ≡ true
    go [] n = other-one n (any_in own (free_vars e [])) refl
    go (c ∷ l) n =
        let v : Name = c.var in
        let m : asks v (calls_of e) ≡ true = subst (λ (z : List Sought). asks v z ≡ true) (sym n) (or_left (eq_name v v) (asks v l) (eq_name-refl v)) in
        absurd (empty (last_var a v) (subst (λ (z : List Name). member (last_var a v) z ≡ true) k (keep-have vars (free_vars (rewrite_last a e) []) (last_var a v) (reads-have a v e [] pl m) (lv v m))))

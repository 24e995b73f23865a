-- What an expression reads once its calls of `last` are replaced, and the clock that their holders are on.
use Prim.Native.Nat.{ℕ}
use mathlib.Core.List.{List, [], ◌++◌, ◌∷◌}
use mathlib.Core.Bool.{Bool, ◌&&◌, cond, false, true}
use mathlib.Core.Path.{◌≡◌, refl, subst, sym}
use Rattle.pack.proofs.Tables.{eq_name-refl, eq_name-true}
use Rattle.pack_rules.specs.Names.{Name, eq_name, member}
use Rattle.pack_rules.specs.Syntax.{Expr, Exprs, e_array, e_arrow, e_binary, e_call, e_cast, e_const, e_field, e_if, e_index, e_iterate, e_merge, e_pre, e_struct, e_tuple, e_unary, e_var, e_when, x_cons, x_nil}
use Rattle.activation_rules.specs.LastCalls.{CallKind, bad_last, call_kind, last_of, plain}
use Rattle.activation_rules.specs.MadeNames.{last_var}
use Rattle.activation_rules.specs.FreeVars.{free_vars, free_vars_in, push}
use Rattle.activation_rules.specs.RewriteLast.{rewrite_last, rewrite_lasts}
use Rattle.run_rules.specs.Visits.{asks, calls_in, calls_of, simple, simples}
use Rattle.run_rules.specs.Run.{Clock, Run, AllFitClock, clock_of, FitsClock, SameClock}
use Rattle.run_rules.proofs.Booleans.{&&-true, or_left, or_split, ≡→T}
use Rattle.runs.proofs.Held.{asks_none, asks-split}
use Rattle.runs.proofs.TreeRuns.{member-left, member_right}

-- what an expression reads
push-keep : (x y : Name) (l : List Name) → member x l ≡ true → member x (push y l) ≡ true
unfolding push
push-keep x y l m = go (member y l)
  where
    go : (b : Bool) → member x (cond b l (l ++ (y ∷ []))) ≡ true
    go true = m
    go false = member-left x l (y ∷ []) m

push-have : (y : Name) (l : List Name) → member y (push y l) ≡ true
unfolding push member
push-have y l = go (member y l) refl
  where
    go : (b : Bool) → member y l ≡ b → member y (cond b l (l ++ (y ∷ []))) ≡ true
    go true e = e
    go false e = member_right y l (y ∷ []) (or_left (eq_name y y) false (eq_name-refl y))

mutual
  unfolding free_vars

  reads-keep : (x : Name) (e : Expr) (r : List Name) → member x r ≡ true → member x (free_vars e r) ≡ true
  reads-keep x (e_const l) r m = m
  reads-keep x (e_var y) r m = push-keep x y r m
  reads-keep x (e_unary o a) r m = reads-keep x a r m
  reads-keep x (e_binary o a b) r m = reads-keep x b (free_vars a r) (reads-keep x a r m)
  reads-keep x (e_if a b c) r m = reads-keep x c (free_vars b (free_vars a r)) (reads-keep x b (free_vars a r) (reads-keep x a r m))
  reads-keep x (e_pre a) r m = reads-keep x a r m
  reads-keep x (e_arrow a b) r m = reads-keep x b (free_vars a r) (reads-keep x a r m)
  reads-keep x (e_call f xs) r m = reads_in-keep x xs r m
  reads-keep x (e_field a f) r m = reads-keep x a r m
  reads-keep x (e_index a i) r m = reads-keep x i (free_vars a r) (reads-keep x a r m)
  reads-keep x (e_tuple xs) r m = reads_in-keep x xs r m
  reads-keep x (e_array xs) r m = reads_in-keep x xs r m
  reads-keep x (e_struct n fs xs) r m = reads_in-keep x xs r m
  reads-keep x (e_cast t a) r m = reads-keep x a r m
  reads-keep x (e_when a y b) r m = reads-keep x a (push y r) (push-keep x y r m)
  reads-keep x (e_merge y a b) r m = reads-keep x b (free_vars a (push y r)) (reads-keep x a (push y r) (push-keep x y r m))
  reads-keep x (e_iterate k f i xs) r m = reads_in-keep x xs r m

  reads_in-keep : (x : Name) (xs : Exprs) (r : List Name) → member x r ≡ true → member x (free_vars_in xs r) ≡ true
  reads_in-keep x x_nil r m = m
  reads_in-keep x (x_cons a xs) r m = reads_in-keep x xs (free_vars a r) (reads-keep x a r m)

-- a plain expression, without its calls of `last`: it reads their holders, and these are on its clock
module _ (a v : Name) where
  call-reads : (f : Name) (xs : Exprs) (r : List Name) → simple (rewrite_last a (e_call f xs)) ≡ true → asks v (calls_of (e_call f xs)) ≡ true → member (last_var a v) (free_vars (rewrite_last a (e_call f xs)) r) ≡ true
  unfolding rewrite_last calls_of free_vars simple asks
  call-reads f xs r pl m = go (call_kind f xs) pl m
    where
      go : (k : CallKind) → simple (elim k [ plain ↦ e_call f (rewrite_lasts a xs) | bad_last ↦ e_call f (rewrite_lasts a xs) | last_of w i ↦ e_var (last_var a w) ]) ≡ true
          → asks v (elim k [ plain ↦ calls_in xs | bad_last ↦ calls_in xs | last_of w i ↦ record { var = w; init = i } ∷ [] ]) ≡ true
          → member (last_var a v) (free_vars (elim k [ plain ↦ e_call f (rewrite_lasts a xs) | bad_last ↦ e_call f (rewrite_lasts a xs) | last_of w i ↦ e_var (last_var a w) ]) r) ≡ true
      go plain p q = absurd (≡→T false p)
      go bad_last p q = absurd (≡→T false p)
      go (last_of w i) p q = here (eq_name w v) refl
        where
          here : (b : Bool) → eq_name w v ≡ b → member (last_var a v) (push (last_var a w) r) ≡ true
          here true e = subst (λ (z : Name). member (last_var a v) (push (last_var a z) r) ≡ true) (sym (eq_name-true w v e)) (push-have (last_var a v) r)
          here false e = absurd (≡→T false (or_split (eq_name w v) false q e))

module _ {O : Type 0} (R : Run O) (N : ℕ) (a v : Name) where
  call_fits : (f : Name) (xs : Exprs) (c : Clock) → simple (rewrite_last a (e_call f xs)) ≡ true → FitsClock R N (rewrite_last a (e_call f xs)) c → asks v (calls_of (e_call f xs)) ≡ true → R.enums (last_var a v) ≡ false → SameClock N (clock_of R (last_var a v)) c
  unfolding rewrite_last calls_of simple asks
  call_fits f xs c pl ft m en = go (call_kind f xs) pl ft m
    where
      go : (k : CallKind) → simple (elim k [ plain ↦ e_call f (rewrite_lasts a xs) | bad_last ↦ e_call f (rewrite_lasts a xs) | last_of w i ↦ e_var (last_var a w) ]) ≡ true
          → FitsClock R N (elim k [ plain ↦ e_call f (rewrite_lasts a xs) | bad_last ↦ e_call f (rewrite_lasts a xs) | last_of w i ↦ e_var (last_var a w) ]) c
          → asks v (elim k [ plain ↦ calls_in xs | bad_last ↦ calls_in xs | last_of w i ↦ record { var = w; init = i } ∷ [] ]) ≡ true
          → SameClock N (clock_of R (last_var a v)) c
      go plain p h q = absurd (≡→T false p)
      go bad_last p h q = absurd (≡→T false p)
      go (last_of w i) p h q = here (eq_name w v) refl
        where
          here : (b : Bool) → eq_name w v ≡ b → SameClock N (clock_of R (last_var a v)) c
          here true e =
              let s : w ≡ v = eq_name-true w v e in
              subst (λ (z : Name). R.enums (last_var a z) ≡ false → SameClock N (clock_of R (last_var a z)) c) s h en
          here false e = absurd (≡→T false (or_split (eq_name w v) false q e))

mutual
  unfolding rewrite_last calls_of free_vars simple

  pub reads-have : (a v : Name) (e : Expr) (r : List Name) → simple (rewrite_last a e) ≡ true → asks v (calls_of e) ≡ true → member (last_var a v) (free_vars (rewrite_last a e) r) ≡ true
  reads-have a v (e_const l) r pl m = absurd (asks_none v m)
  reads-have a v (e_var y) r pl m = absurd (asks_none v m)
  reads-have a v (e_unary o d) r pl m = reads-have a v d r pl m
  reads-have a v (e_binary o d b) r pl m = let p = &&-true (simple (rewrite_last a d)) (simple (rewrite_last a b)) pl in asks-split v (calls_of d) (calls_of b) m (λ q. reads-keep (last_var a v) (rewrite_last a b) (free_vars (rewrite_last a d) r) (reads-have a v d r p.0 q)) (λ q. reads-have a v b (free_vars (rewrite_last a d) r) p.1 q)
  reads-have a v (e_if d b c) r pl m =
      let p = &&-true (simple (rewrite_last a d)) (simple (rewrite_last a b) && simple (rewrite_last a c)) pl in
      let p' = &&-true (simple (rewrite_last a b)) (simple (rewrite_last a c)) p.1 in
      asks-split v (calls_of d) (calls_of b ++ calls_of c) m
      (λ q. reads-keep (last_var a v) (rewrite_last a c) (free_vars (rewrite_last a b) (free_vars (rewrite_last a d) r)) (reads-keep (last_var a v) (rewrite_last a b) (free_vars (rewrite_last a d) r) (reads-have a v d r p.0 q)))
      (λ q. asks-split v (calls_of b) (calls_of c) q
      (λ k. reads-keep (last_var a v) (rewrite_last a c) (free_vars (rewrite_last a b) (free_vars (rewrite_last a d) r)) (reads-have a v b (free_vars (rewrite_last a d) r) p'.0 k))
      (λ k. reads-have a v c (free_vars (rewrite_last a b) (free_vars (rewrite_last a d) r)) p'.1 k))
  reads-have a v (e_pre d) r pl m = reads-have a v d r pl m
  reads-have a v (e_arrow d b) r pl m = let p = &&-true (simple (rewrite_last a d)) (simple (rewrite_last a b)) pl in asks-split v (calls_of d) (calls_of b) m (λ q. reads-keep (last_var a v) (rewrite_last a b) (free_vars (rewrite_last a d) r) (reads-have a v d r p.0 q)) (λ q. reads-have a v b (free_vars (rewrite_last a d) r) p.1 q)
  reads-have a v (e_call f xs) r pl m = call-reads a v f xs r pl m
  reads-have a v (e_field d f) r pl m = reads-have a v d r pl m
  reads-have a v (e_index d b) r pl m = let p = &&-true (simple (rewrite_last a d)) (simple (rewrite_last a b)) pl in asks-split v (calls_of d) (calls_of b) m (λ q. reads-keep (last_var a v) (rewrite_last a b) (free_vars (rewrite_last a d) r) (reads-have a v d r p.0 q)) (λ q. reads-have a v b (free_vars (rewrite_last a d) r) p.1 q)
  reads-have a v (e_tuple xs) r pl m = reads_in-have a v xs r pl m
  reads-have a v (e_array xs) r pl m = reads_in-have a v xs r pl m
  reads-have a v (e_struct n fs xs) r pl m = reads_in-have a v xs r pl m
  reads-have a v (e_cast t d) r pl m = reads-have a v d r pl m
  reads-have a v (e_when d y b) r pl m = absurd (≡→T false pl)
  reads-have a v (e_merge y d b) r pl m = absurd (≡→T false pl)
  reads-have a v (e_iterate k f i xs) r pl m = absurd (≡→T false pl)

  reads_in-have : (a v : Name) (xs : Exprs) (r : List Name) → simples (rewrite_lasts a xs) ≡ true → asks v (calls_in xs) ≡ true → member (last_var a v) (free_vars_in (rewrite_lasts a xs) r) ≡ true
  reads_in-have a v x_nil r pl m = absurd (asks_none v m)
  reads_in-have a v (x_cons d xs) r pl m =
      let p = &&-true (simple (rewrite_last a d)) (simples (rewrite_lasts a xs)) pl in
      asks-split v (calls_of d) (calls_in xs) m (λ q. reads_in-keep (last_var a v) (rewrite_lasts a xs) (free_vars (rewrite_last a d) r) (reads-have a v d r p.0 q)) (λ q. reads_in-have a v xs (free_vars (rewrite_last a d) r) p.1 q)

mutual
  unfolding rewrite_last calls_of simple

  pub fits-have : {O : Type 0} (R : Run O) (N : ℕ) (a v : Name) (e : Expr) (c : Clock) → simple (rewrite_last a e) ≡ true → FitsClock R N (rewrite_last a e) c → asks v (calls_of e) ≡ true → R.enums (last_var a v) ≡ false → SameClock N (clock_of R (last_var a v)) c
  fits-have R N a v (e_const l) c pl ft m en = absurd (asks_none v m)
  fits-have R N a v (e_var y) c pl ft m en = absurd (asks_none v m)
  fits-have R N a v (e_unary o d) c pl ft m en = fits-have R N a v d c pl ft m en
  fits-have R N a v (e_binary o d b) c pl ft m en = let p = &&-true (simple (rewrite_last a d)) (simple (rewrite_last a b)) pl in asks-split v (calls_of d) (calls_of b) m (λ q. fits-have R N a v d c p.0 ft.0 q en) (λ q. fits-have R N a v b c p.1 ft.1 q en)
  fits-have R N a v (e_if d b k) c pl ft m en =
      let p = &&-true (simple (rewrite_last a d)) (simple (rewrite_last a b) && simple (rewrite_last a k)) pl in
      let p' = &&-true (simple (rewrite_last a b)) (simple (rewrite_last a k)) p.1 in
      asks-split v (calls_of d) (calls_of b ++ calls_of k) m (λ q. fits-have R N a v d c p.0 ft.0 q en)
      (λ q. asks-split v (calls_of b) (calls_of k) q (λ r. fits-have R N a v b c p'.0 ft.1 r en) (λ r. fits-have R N a v k c p'.1 ft.2 r en))
  fits-have R N a v (e_pre d) c pl ft m en = fits-have R N a v d c pl ft m en
  fits-have R N a v (e_arrow d b) c pl ft m en = let p = &&-true (simple (rewrite_last a d)) (simple (rewrite_last a b)) pl in asks-split v (calls_of d) (calls_of b) m (λ q. fits-have R N a v d c p.0 ft.0 q en) (λ q. fits-have R N a v b c p.1 ft.1 q en)
  fits-have R N a v (e_call f xs) c pl ft m en = call_fits R N a v f xs c pl ft m en
  fits-have R N a v (e_field d f) c pl ft m en = fits-have R N a v d c pl ft m en
  fits-have R N a v (e_index d b) c pl ft m en = let p = &&-true (simple (rewrite_last a d)) (simple (rewrite_last a b)) pl in asks-split v (calls_of d) (calls_of b) m (λ q. fits-have R N a v d c p.0 ft.0 q en) (λ q. fits-have R N a v b c p.1 ft.1 q en)
  fits-have R N a v (e_tuple xs) c pl ft m en = fits_in-have R N a v xs c pl ft m en
  fits-have R N a v (e_array xs) c pl ft m en = fits_in-have R N a v xs c pl ft m en
  fits-have R N a v (e_struct n fs xs) c pl ft m en = fits_in-have R N a v xs c pl ft m en
  fits-have R N a v (e_cast t d) c pl ft m en = fits-have R N a v d c pl ft m en
  fits-have R N a v (e_when d y b) c pl ft m en = absurd (≡→T false pl)
  fits-have R N a v (e_merge y d b) c pl ft m en = absurd (≡→T false pl)
  fits-have R N a v (e_iterate k f i xs) c pl ft m en = absurd (≡→T false pl)

  fits_in-have : {O : Type 0} (R : Run O) (N : ℕ) (a v : Name) (xs : Exprs) (c : Clock) → simples (rewrite_lasts a xs) ≡ true → AllFitClock R N (rewrite_lasts a xs) c → asks v (calls_in xs) ≡ true → R.enums (last_var a v) ≡ false → SameClock N (clock_of R (last_var a v)) c
  fits_in-have R N a v x_nil c pl ft m en = absurd (asks_none v m)
  fits_in-have R N a v (x_cons d xs) c pl ft m en =
      let p = &&-true (simple (rewrite_last a d)) (simples (rewrite_lasts a xs)) pl in
      asks-split v (calls_of d) (calls_in xs) m (λ q. fits-have R N a v d c p.0 ft.0 q en) (λ q. fits_in-have R N a v xs c p.1 ft.1 q en)

-- An expression without clock operators and calls, in a tick of its clock: its value in the run of just those ticks.
use Prim.Native.Nat.{ℕ, zero, suc, ◌≤◌, ◌<◌}
use native.Mathlib.Omega.{arith}
use mathlib.Core.List.{[], ◌∷◌}
use mathlib.Core.Bool.{Bool, true, false, cond, ◌&&◌}
use mathlib.Core.Option.{Option, some, none-ne-some, some-injective}
use mathlib.Core.Path.{◌≡◌, refl, sym, ap, ap₂, subst, ◌∙◌}
use borrow.Author.Tests.{eq-eqb, eqb-false, eqb-true, ne_eqb}
use lib.Dec.{eqb}
use Rattle.pack_rules.specs.Syntax.{Expr, Exprs, e_array, e_arrow, e_binary, e_call, e_cast, e_const, e_field, e_if, e_index, e_iterate, e_merge, e_pre, e_struct, e_tuple, e_unary, e_var, e_when, x_cons, x_nil}
use Rattle.run_rules.specs.Visits.{cell_in, count, narrow, simple, simples, visit}
use Rattle.run_rules.specs.Run.{Clock, Run, Value, apply_to, arrow_at, binary, eval, every, if_of, p_array, p_cast, p_field, p_index, p_struct, p_tuple, pre_at, previous, unary, values}
use Rattle.run_rules.proofs.Booleans.{&&-true, ≡→T}
use Rattle.runs.proofs.Choosing.{and-false}

-- ticks are counted upwards
count-more : (c : Clock) (u t : ℕ) → u < t → c u ≡ true → count c u < count c t
unfolding count
count-more c u zero l e = absurd (omega arith)
count-more c u (suc t) l e = go (eqb u t) refl (λ (k : u < t). count-more c u t k e)
  where
    rises : (b : Bool) → count c t ≤ cond b (suc (count c t)) (count c t)
    rises true = omega arith
    rises false = omega arith

    go : (b : Bool) → eqb u t ≡ b → (u < t → count c u < count c t) → count c u < cond (c t) (suc (count c t)) (count c t)
    go true q r = let p : u ≡ t = eqb-true u t q in let f : c t ≡ true = rw p at e in rw (p, f) (omega arith)
    go false q r = let h = r (omega (arith, eqb-false u t q)) in let k = rises (c t) in omega arith

-- a tick is the one with its number of ticks before it
visit-is : (c : Clock) (N t : ℕ) → t < N → c t ≡ true → visit c N (count c t) ≡ some t
unfolding visit
visit-is c zero t l e = absurd (omega arith)
visit-is c (suc N) t l e = go (eqb t N) refl (λ (k : t < N). visit-is c N t k e)
  where
    go : (b : Bool) → eqb t N ≡ b → (t < N → visit c N (count c t) ≡ some t) → cond (c N && eqb (count c N) (count c t)) (some N) (visit c N (count c t)) ≡ some t
    go true q r =
        let p : t ≡ N = eqb-true t N q in
        let f : c N ≡ true = rw p at e in
        rw (p, f, eq-eqb (count c N) (count c N) refl)
    go false q r =
        let k : t < N = omega (arith, eqb-false t N q) in
        let h = count-more c t N k e in
        let d : c N && eqb (count c N) (count c t) ≡ false = ap (λ x. c N && x) (ne_eqb (count c N) (count c t) (λ e. omega arith)) ∙ and-false (c N) in
        rw d (r k)

-- and nothing else is visited
pub visit-tick : (c : Clock) (N k t : ℕ) → visit c N k ≡ some t → (t < N) × (c t ≡ true) × (count c t ≡ k)
unfolding visit
visit-tick c zero k t e = absurd (none-ne-some t e)
visit-tick c (suc N) k t e = go (c N && eqb (count c N) k) refl e (λ (q : visit c N k ≡ some t). visit-tick c N k t q)
  where
    go : (b : Bool) → c N && eqb (count c N) k ≡ b → cond b (some N) (visit c N k) ≡ some t → (visit c N k ≡ some t → (t < N) × (c t ≡ true) × (count c t ≡ k)) → (t < suc N) × (c t ≡ true) × (count c t ≡ k)
    go true p q r =
        let s : N ≡ t = some-injective N t q in
        let h = &&-true (c N) (eqb (count c N) k) p in
        (omega arith, subst (λ (x : ℕ). c x ≡ true) s h.0, ap (count c) (sym s) ∙ eqb-true (count c N) k h.1)
    go false p q r = let h = r q in (omega (arith, h.0), h.1, h.2)

module _ {O : Type 0} where
  -- `pre` and `->` at the latest tick, counted
  pre-narrow : (c : Clock) (t : ℕ) (s r : ℕ → Option (Value O)) → ((u : ℕ) → u < t → c u ≡ true → s u ≡ r (count c u)) → pre_at (previous c t) s ≡ pre_at (previous every (count c t)) r
  unfolding previous pre_at count
  pre-narrow c zero s r h = refl
  pre-narrow c (suc t) s r h = go (c t) refl (pre-narrow c t s r (λ u l. h u (omega arith)))
    where
      go : (b : Bool) → c t ≡ b → pre_at (previous c t) s ≡ pre_at (previous every (count c t)) r
          → pre_at (cond (c t) (some t) (previous c t)) s ≡ pre_at (previous every (cond (c t) (suc (count c t)) (count c t))) r
      go true e q = rw e (h t (omega arith) e)
      go false e q = rw e q

  arrow-narrow : (c : Clock) (t : ℕ) (a b : Option (Value O)) → arrow_at (previous c t) a b ≡ arrow_at (previous every (count c t)) a b
  unfolding previous arrow_at count
  arrow-narrow c zero a b = refl
  arrow-narrow c (suc t) a b = go (c t) refl (arrow-narrow c t a b)
    where
      go : (x : Bool) → c t ≡ x → arrow_at (previous c t) a b ≡ arrow_at (previous every (count c t)) a b
          → arrow_at (cond (c t) (some t) (previous c t)) a b ≡ arrow_at (previous every (cond (c t) (suc (count c t)) (count c t))) a b
      go true e q = rw e
      go false e q = rw e q

mutual
  unfolding eval simple narrow cell_in if_of

  pub narrow-eval : {O : Type 0} (R : Run O) (c : Clock) (N : ℕ) (e : Expr) → simple e ≡ true → (t : ℕ) → t < N → c t ≡ true → eval R e c t ≡ eval (narrow R c N) e every (count c t)
  narrow-eval R c N (e_const l) pl t lt tk = refl
  narrow-eval R c N (e_var x) pl t lt tk = rw (visit-is c N t lt tk)
  narrow-eval R c N (e_unary o a) pl t lt tk = ap (unary R.op o) (narrow-eval R c N a pl t lt tk)
  narrow-eval R c N (e_binary o a b) pl t lt tk =
      let q = &&-true (simple a) (simple b) pl in ap₂ (binary R.op o) (narrow-eval R c N a q.0 t lt tk) (narrow-eval R c N b q.1 t lt tk)
  narrow-eval R c N (e_if a b d) pl t lt tk =
      let q = &&-true (simple a) (simple b && simple d) pl in
      let r = &&-true (simple b) (simple d) q.1 in
      rw (narrow-eval R c N a q.0 t lt tk, narrow-eval R c N b r.0 t lt tk, narrow-eval R c N d r.1 t lt tk)
  narrow-eval R c N (e_pre a) pl t lt tk =
      pre-narrow c t (λ u. eval R a c u) (λ k. eval (narrow R c N) a every k) (λ u l k. narrow-eval R c N a pl u (omega arith) k)
  narrow-eval R c N (e_arrow a b) pl t lt tk =
      let q = &&-true (simple a) (simple b) pl in
      arrow-narrow c t (eval R a c t) (eval R b c t) ∙ ap₂ (arrow_at (previous every (count c t))) (narrow-eval R c N a q.0 t lt tk) (narrow-eval R c N b q.1 t lt tk)
  narrow-eval R c N (e_call f xs) pl t lt tk = absurd (≡→T false pl)
  narrow-eval R c N (e_field a f) pl t lt tk = ap (λ v. apply_to (R.op (p_field f)) (v ∷ [])) (narrow-eval R c N a pl t lt tk)
  narrow-eval R c N (e_index a i) pl t lt tk =
      let q = &&-true (simple a) (simple i) pl in ap₂ (λ v w. apply_to (R.op p_index) (v ∷ w ∷ [])) (narrow-eval R c N a q.0 t lt tk) (narrow-eval R c N i q.1 t lt tk)
  narrow-eval R c N (e_tuple xs) pl t lt tk = ap (apply_to (R.op p_tuple)) (narrow-evals R c N xs pl t lt tk)
  narrow-eval R c N (e_array xs) pl t lt tk = ap (apply_to (R.op p_array)) (narrow-evals R c N xs pl t lt tk)
  narrow-eval R c N (e_struct n fs xs) pl t lt tk = ap (apply_to (R.op (p_struct n fs))) (narrow-evals R c N xs pl t lt tk)
  narrow-eval R c N (e_cast ty a) pl t lt tk = ap (λ v. apply_to (R.op (p_cast ty)) (v ∷ [])) (narrow-eval R c N a pl t lt tk)
  narrow-eval R c N (e_when a x on) pl t lt tk = absurd (≡→T false pl)
  narrow-eval R c N (e_merge x a b) pl t lt tk = absurd (≡→T false pl)
  narrow-eval R c N (e_iterate k f i xs) pl t lt tk = absurd (≡→T false pl)

  narrow-evals : {O : Type 0} (R : Run O) (c : Clock) (N : ℕ) (xs : Exprs) → simples xs ≡ true → (t : ℕ) → t < N → c t ≡ true → values R xs c t ≡ values (narrow R c N) xs every (count c t)
  narrow-evals R c N x_nil pl t lt tk = refl
  narrow-evals R c N (x_cons a xs) pl t lt tk =
      let q = &&-true (simple a) (simples xs) pl in ap₂ (λ v vs. v ∷ vs) (narrow-eval R c N a q.0 t lt tk) (narrow-evals R c N xs q.1 t lt tk)

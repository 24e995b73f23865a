-- Trees in preorder, read by a loop that counts the trees still to come: it agrees with reading them as trees.
use Prim.Native.Nat.{ℕ, ◌+◌, ◌-◌, ◌≤◌, ◌<◌, zero, suc}
use native.Mathlib.Nat.{zero-add, suc-add, add_assoc}
use native.Mathlib.Omega.{arith}
use mathlib.Core.List.{List}
use mathlib.Core.Path.{◌≡◌, refl, sym, ap, ◌∙◌}
use lib.ListN.{length}
use Rattle.wire.specs.declared.answer.Stop.{Stop}
use Rattle.wire.specs.declared.answer.Stop.TheVariants.{Early}
use Rattle.wire.specs.declared.answer.Number.{Number}
use Rattle.std.specs.Prelude.{Ok, Err}
use Rattle.wire.specs.Preorder.{trees}
use Rattle.wire.specs.Answer.{Answer, deep, early, illegal, map_a, value}
use Rattle.wire.specs.Code.{Skipped, after, next, read_of, skip}
use Rattle.wire.proofs.Codes.{after_cong, after_map, after-read_err, after-skip, next-after, next-cong, read_found, skip-bind, skip-last}
use Rattle.wire.proofs.Answers.{Fwd}

-- the same with a count of trees still to come: `more s at` is how many trees stand under the head at `at`
unfoldable pub run : (List ℕ → ℕ → Answer ℕ) → ℕ → List ℕ → ℕ → ℕ → Skipped
run more zero s zero at = Ok at
run more zero s (suc n) at = Err Early
run more (suc f) s zero at = Ok at
run more (suc f) s (suc n) at = after (more s at) λ m p. run more f s (m + n) p

-- each head takes at least a byte, and there is none past the end
pub record Moves (more : List ℕ → ℕ → Answer ℕ) : Type 0 where
  pub on : (s : List ℕ) (at m p : ℕ) → more s at ≡ value m p → at < p
  pub inside : (s : List ℕ) (at m p : ℕ) → more s at ≡ value m p → p ≤ length s
  pub ends : (s : List ℕ) (at : ℕ) → length s ≤ at → more s at ≡ early

-- what is left to skip at `at` with n trees to come
unfoldable pub pending : (List ℕ → ℕ → Answer ℕ) → List ℕ → ℕ → ℕ → Skipped
pending more s n at = run more (suc (length s)) s n at

module _ (more : List ℕ → ℕ → Answer ℕ) (M : Moves more) (s : List ℕ) where
  pub run_none : (f at : ℕ) → run more f s zero at ≡ Ok at
  unfolding run
  run_none zero at = refl
  run_none (suc f) at = refl

  -- fuel that is enough is as good as any
  pub fuel : (f g n at : ℕ) → length s ≤ at + f → length s ≤ at + g → run more f s n at ≡ run more g s n at
  unfolding run after
  fuel zero zero n at hf hg = refl
  fuel zero (suc g) zero at hf hg = refl
  fuel zero (suc g) (suc n) at hf hg = rw (M.ends s at (omega arith))
  fuel (suc f) zero zero at hf hg = refl
  fuel (suc f) zero (suc n) at hf hg = rw (M.ends s at (omega arith))
  fuel (suc f) (suc g) zero at hf hg = refl
  fuel (suc f) (suc g) (suc n) at hf hg =
      after_cong (more s at) _ _ (λ m p e. let l : at < p = M.on s at m p e in fuel f g (m + n) p (omega arith) (omega arith))

  pub run-moves : (f n at q : ℕ) → run more f s n at ≡ Ok q → at ≤ q
  unfolding run after
  run-moves zero zero at q e = let g : at ≡ q = cc in omega arith
  run-moves zero (suc n) at q e = let z : ◌≡◌ {A = ℕ} 0 1 = cc in absurd (omega arith)
  run-moves (suc f) zero at q e = let g : at ≡ q = cc in omega arith
  run-moves (suc f) (suc n) at q e = go (λ m p. run-moves f (m + n) p q) (more s at) refl e
    where
      go : ((m p : ℕ) → run more f s (m + n) p ≡ Ok q → p ≤ q) → (a : Answer ℕ) → more s at ≡ a → after a (λ m p. run more f s (m + n) p) ≡ Ok q → at ≤ q
      go ih (value m p) g d = let l : at < p = M.on s at m p g in let k : p ≤ q = ih m p d in omega arith
      go ih early g d = let z : ◌≡◌ {A = ℕ} 0 1 = cc in absurd (omega arith)
      go ih (illegal o) g d = let z : ◌≡◌ {A = ℕ} 0 1 = cc in absurd (omega arith)
      go ih (deep o) g d = let z : ◌≡◌ {A = ℕ} 0 1 = cc in absurd (omega arith)

  pub run_inside : (f n at q : ℕ) → run more f s n at ≡ Ok q → at ≤ length s → q ≤ length s
  unfolding run after
  run_inside zero zero at q e h = let g : at ≡ q = cc in omega arith
  run_inside zero (suc n) at q e h = let z : ◌≡◌ {A = ℕ} 0 1 = cc in absurd (omega arith)
  run_inside (suc f) zero at q e h = let g : at ≡ q = cc in omega arith
  run_inside (suc f) (suc n) at q e h = go (λ m p. run_inside f (m + n) p q) (more s at) refl e
    where
      go : ((m p : ℕ) → run more f s (m + n) p ≡ Ok q → p ≤ length s → q ≤ length s) → (a : Answer ℕ) → more s at ≡ a → after a (λ m p. run more f s (m + n) p) ≡ Ok q → q ≤ length s
      go ih (value m p) g d = ih m p d (M.inside s at m p g)
      go ih early g d = let z : ◌≡◌ {A = ℕ} 0 1 = cc in absurd (omega arith)
      go ih (illegal o) g d = let z : ◌≡◌ {A = ℕ} 0 1 = cc in absurd (omega arith)
      go ih (deep o) g d = let z : ◌≡◌ {A = ℕ} 0 1 = cc in absurd (omega arith)

  pub append : (f m n at : ℕ) → length s ≤ at + f → next (run more f s m at) (λ q. run more f s n q) ≡ run more f s (m + n) at
  unfolding run next
  append zero zero n at h = rw zero-add
  append zero (suc m) n at h = rw suc-add
  append (suc f) zero n at h = rw zero-add
  append (suc f) (suc m) n at h =
      rw suc-add
      (next-after (more s at) _ _ ∙
      after_cong (more s at) _ _ (λ a p e.
      let l : at < p = M.on s at a p e in
      next-cong (run more f s (a + m) p) _ _ (λ q g. let b : p ≤ q = run-moves f (a + m) p q g in fuel (suc f) f n q (omega arith) (omega arith)) ∙
      append f (a + m) n p (omega arith) ∙
      ap (λ (k : ℕ). run more f s k p) (add_assoc a m n)))

  pub pending-none : (at : ℕ) → pending more s 0 at ≡ Ok at
  unfolding pending
  pending-none at = run_none (suc (length s)) at

  pub pending-step : (n at : ℕ) → pending more s (suc n) at ≡ after (more s at) (λ m p. pending more s (m + n) p)
  unfolding pending run
  pending-step n at =
      after_cong (more s at) _ _ (λ m p e. fuel (length s) (suc (length s)) (m + n) p (omega arith) (omega arith))

-- the trees and the count agree
module _ {H : Type 0} (arity : H → ℕ) (head : List ℕ → ℕ → Answer H) (M : Moves (λ s at. map_a arity (head s at))) (s : List ℕ) where
  pub skip-trees : (f n at : ℕ) → length s ≤ at + f → skip (trees arity head f s n at) ≡ run (λ s at. map_a arity (head s at)) f s n at
  unfolding trees run skip map_a
  skip-trees zero zero at h = refl
  skip-trees zero (suc n) at h = refl
  skip-trees (suc f) zero at h = refl
  skip-trees (suc f) (suc n) at h =
      skip-bind (head s at) _ ∙
      after_cong (head s at) _ _ (λ x p e.
      let l : at < p = M.on s at (arity x) p (ap (map_a arity) e) in
      skip-bind (trees arity head f s (arity x) p) _ ∙
      after_cong (trees arity head f s (arity x) p) _ _ (λ u q g. skip-last (trees arity head f s n q) _) ∙
      after-skip (trees arity head f s (arity x) p) (λ q. skip (trees arity head f s n q)) ∙
      ap (λ (r : Skipped). next r (λ q. skip (trees arity head f s n q))) (skip-trees f (arity x) p (omega arith)) ∙
      next-cong (run (λ s at. map_a arity (head s at)) f s (arity x) p) _ _ (λ q g.
      let b : p ≤ q = run-moves (λ s at. map_a arity (head s at)) M s f (arity x) p q g in
      skip-trees f n q (omega arith)) ∙
      append (λ s at. map_a arity (head s at)) M s f (arity x) n p (omega arith)) ∙
      sym (after_map arity (head s at) _)

  pub fwd-trees : (f n at : ℕ) → length s ≤ at + f → Fwd (length s) at (trees arity head f s n at)
  unfolding skip
  fwd-trees f n at h ts q e =
      let g : run (λ s at. map_a arity (head s at)) f s n at ≡ Ok q = sym (skip-trees f n at h) ∙ ap skip e in
      record { on = run-moves (λ s at. map_a arity (head s at)) M s f n at q g; inside = run_inside (λ s at. map_a arity (head s at)) M s f n at q g }

-- the loop over heads: one head more, and where there is none
module _ (more : List ℕ → ℕ → Answer ℕ) (M : Moves more) (s : List ℕ) where
  pub pending-ok : (n at : ℕ) (h : Number) (z : Skipped) → 0 < n → Ok h ≡ read_of (more s at) → pending more s n at ≡ z → pending more s (n - 1 + h.value) h.next ≡ z
  unfolding after
  pending-ok zero at h z l e f = absurd (omega arith)
  pending-ok (suc n) at h z l e f =
      let g : suc n - 1 + h.value ≡ h.value + n = omega arith in
      ap (λ (k : ℕ). pending more s k h.next) g ∙ ap (λ (a : Answer ℕ). after a (λ m p. pending more s (m + n) p)) (sym (read_found (more s at) h e)) ∙ sym (pending-step more M s n at) ∙ f

  pub pending-err : (n at : ℕ) (e : Stop) (z : Skipped) → 0 < n → Err e ≡ read_of (more s at) → pending more s n at ≡ z → Err e ≡ z
  pending-err zero at e z l h f = absurd (omega arith)
  pending-err (suc n) at e z l h f = after-read_err (more s at) (λ m p. pending more s (m + n) p) e h ∙ sym (pending-step more M s n at) ∙ f

  pub pending-done : (n at : ℕ) (z : Skipped) → n ≤ 0 → pending more s n at ≡ z → Ok at ≡ z
  pending-done n at z l e = let g : 0 ≡ n = omega arith in sym (pending-none more M s at) ∙ ap (λ (k : ℕ). pending more s k at) g ∙ e

-- Laws for the code that finds the variables that calls of `last` ask for, step by step.
use Prim.Native.Nat.{ℕ, suc, ◌+◌, ◌*◌, ◌-◌, ◌<◌, ◌≤◌}
use native.Mathlib.Omega.{arith}
use mathlib.Core.List.{List}
use mathlib.Core.Bool.{cond}
use mathlib.Core.Path.{◌≡◌, refl, sym, ap, ◌∙◌}
use lib.Dec.{eqb}
use borrow.Author.Tests.{le-ltb, lt-ltb}
use Rattle.pack_rules.specs.Names.{Name}
use Rattle.wire.specs.declared.answer.Number.{Number}
use Rattle.machines.specs.CheckedReads.{number_in}
use Rattle.machines.proofs.CheckedReadLaws.{no, on, yes}
use Rattle.activations.specs.declared.expr_node.ExprNode.{ExprNode}
use Rattle.activations.specs.Cells.{put_t}
use Rattle.activations.specs.ExprNodes.{expr_node_at, onward_t, open_t}
use Rattle.activations.specs.Places.{body_in, branch_end, each_of, equation_end, right_side_in}
use Rattle.activations.specs.Walks.{walked}
use Rattle.activations.specs.LastsAt.{Rows, each_branch_t, find_in_body_t, find_in_condition_t, find_in_equation_t, find_in_scope_t, find_lasts_t, find_step, max_rows, row_more, row_t, rows_of, word_t}
use Rattle.activations.proofs.Moving.{ended, went}
use Rattle.activations.proofs.PlaceLaws.{each-end}

-- looking for a row
row_step : (t : List ℕ) (v n i : ℕ) → row_t t v (suc n) i ≡ cond (eqb (word_t t i 0) v) i (row_t t v n (suc i))
unfolding row_t
row_step t v n i = refl

pub row_here : (t : List ℕ) (v n h w z : ℕ) → h < n → w ≡ word_t t h 0 → w ≡ v → row_t t v (n - h) h ≡ z → h ≡ z
row_here t v n h w z l e f g =
    let k : n - h ≡ suc (n - (h + 1)) = omega arith in
    yes (word_t t h 0) v h (row_t t v (n - (h + 1)) (suc h)) h (sym e ∙ f) refl ∙ sym (row_step t v (n - (h + 1)) h) ∙ ap (λ y. row_t t v y h) (sym k) ∙ g

pub row_on : (t : List ℕ) (v n h w z : ℕ) → h < n → w ≡ word_t t h 0 → (w ≡ v → ⊥) → row_t t v (n - h) h ≡ z → row_t t v (n - (h + 1)) (h + 1) ≡ z
row_on t v n h w z l e f g =
    let k : n - h ≡ suc (n - (h + 1)) = omega arith in
    let i : h + 1 ≡ suc h = omega arith in
    ap (row_t t v (n - (h + 1))) i
    ∙ no (word_t t h 0) v h (row_t t v (n - (h + 1)) (suc h)) (row_t t v (n - (h + 1)) (suc h)) (λ d. f (e ∙ d)) refl
    ∙ sym (row_step t v (n - (h + 1)) h) ∙ ap (λ y. row_t t v y h) (sym k) ∙ g

pub row-none : (t : List ℕ) (v n h z : ℕ) → n ≤ h → row_t t v (n - h) h ≡ z → h ≡ z
unfolding row_t
row-none t v n h z l g = let k : n - h ≡ 0 = omega arith in ap (λ y. row_t t v y h) (sym k) ∙ g

pub row_put_lem : (v init n : ℕ) (t u w : List ℕ) → n < 8192 → u ≡ put_t t (3 * n + 0) v → w ≡ put_t u (3 * n + 1) init → rows_of w (n + 1) ≡ row_more v init (rows_of t n)
unfolding row_more max_rows
row_put_lem v init n t u w l e f = rw (lt-ltb n 8192 l) (λ j. rows_of ((f ∙ ap (λ y. put_t y (3 * n + 1) init) e) j) (n + 1))

pub row-full : (v init n : ℕ) (t : List ℕ) → 8192 ≤ n → rows_of t n ≡ row_more v init (rows_of t n)
unfolding row_more max_rows
row-full v init n t l = rw (le-ltb n 8192 l)

module _ (ns : List Name) (s : List ℕ) (last : ℕ) where
  pub seek-on : (n p : ℕ) (m : ExprNode) (k q : ℕ) (z y t : Rows) → 0 < n → m ≡ expr_node_at ns s last p → y ≡ find_step m p z → k ≡ open_t m n → q ≡ onward_t m → walked ns s last find_step n p z ≡ t → walked ns s last find_step k q y ≡ t
  seek-on n p m k q z y t l e f g h i = went ns s last find_step n p z m k q y t l e g h f i

  pub seek-done : (n p at : ℕ) (z y : Rows) → n ≤ 0 → walked ns s last find_step n p z ≡ walked ns s last find_step 1 at y → z ≡ find_lasts_t ns s last at y
  unfolding find_lasts_t
  seek-done n p at z y l e = ended ns s last find_step n p z _ l e

  pub condition-sought : (at : ℕ) (i : Number) (z y : Rows) → i ≡ number_in s at → z ≡ find_lasts_t ns s last i.next y → z ≡ find_in_condition_t ns s last at y
  unfolding find_in_condition_t
  condition-sought at i z y e f = on i _ _ z e f

  pub equation-sought : (at e : ℕ) (z y : Rows) → e ≡ right_side_in ns s at → z ≡ find_lasts_t ns s last e y → z ≡ find_in_equation_t ns s last at y
  unfolding find_in_equation_t
  equation-sought at e z y f g = g ∙ ap (λ x. find_lasts_t ns s last x y) f

  pub body-sought : (at e : ℕ) (z y : Rows) → e ≡ body_in ns s at → z ≡ find_in_scope_t ns s last e y → z ≡ find_in_body_t ns s last at y
  unfolding find_in_body_t
  body-sought at e z y f g = g ∙ ap (λ x. find_in_scope_t ns s last x y) f

  pub scope-sought : (at : ℕ) (c : Number) (n p : ℕ) (z y : Rows) → c ≡ number_in s at → n ≤ 0 → each_of (find_in_equation_t ns s last) (equation_end ns s) n p z ≡ each_of (find_in_equation_t ns s last) (equation_end ns s) c.value c.next y → z ≡ find_in_scope_t ns s last at y
  unfolding find_in_scope_t
  scope-sought at c n p z y e l h = on c _ _ z e (each-end (find_in_equation_t ns s last) (equation_end ns s) n p z _ l h)

pub branches-done : {S : Type 0} (ns : List Name) (s : List ℕ) (f : ℕ → S → S) (at : ℕ) (c : Number) (n p : ℕ) (z y : S) → c ≡ number_in s at → n ≤ 0 → each_of f (branch_end ns s) n p z ≡ each_of f (branch_end ns s) c.value c.next y → z ≡ each_branch_t ns s f at y
unfolding each_branch_t
branches-done ns s f at c n p z y e l h = on c _ _ z e (each-end f (branch_end ns s) n p z _ l h)

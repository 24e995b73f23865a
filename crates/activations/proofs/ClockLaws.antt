-- Laws of clocks: their items as the code writes them, and those of the definitions.
use Prim.Native.Nat.{ℕ, zero, suc, ◌<◌, ◌≤◌}
use native.Mathlib.Omega.{arith}
use mathlib.Core.List.{List, [], ◌∷◌, ◌++◌}
use mathlib.Core.Path.{◌≡◌, refl, sym, ap, ◌∙◌}
use borrow.Author.Tests.{le-ltb, lt-ltb}
use Rattle.wire.specs.Writer.{State, put, puts}
use Rattle.pack_rules.specs.Names.{Name}
use Rattle.pack_rules.specs.Syntax.{Expr}
use Rattle.pack_rules.specs.Write.{Item, expr_items, flag_byte, nm, raw}
use Rattle.pack.specs.Intern.{put_item, put_name, render}
use Rattle.pack.proofs.Interns.{render-append}
use Rattle.activations.specs.declared.made_names.Var.TheVariants as vr
use Rattle.activation_rules.specs.MadeNames.{Scope, branch, clock_var, else_scope}
use Rattle.activations.specs.Vars.{branch_var, scope_at}
use Rattle.activation_rules.specs.Clocks.{onto, under}
use Rattle.activations.specs.ByNumber.{onto_items, under_items, when_items}

pub when-term : (old : List ℕ) (a : Name) (k b : ℕ) (s : State) → put b (put_name old (branch_var vr.Clock a k) (put 14 s)) ≡ render old (when_items a k b) s
unfolding when_items branch_var render put_item puts
when-term old a k b s = refl

-- the definitions' items are those up to the argument, and the argument's
pub under-items : (a : Name) (k : ℕ) (e : Expr) → expr_items (under a k e) ≡ under_items a k ++ expr_items e
unfolding under under_items when_items expr_items flag_byte
under-items a zero e = refl
under-items a (suc k) e = ap (λ (is : List Item). raw (14 ∷ []) ∷ nm (clock_var a k) ∷ raw (0 ∷ []) ∷ is) (under-items a k e)

pub onto-items : (a : Name) (n : ℕ) (c : Scope) (e : Expr) → expr_items (onto a n c e) ≡ onto_items a n c ++ expr_items e
unfolding onto onto_items when_items expr_items flag_byte
onto-items a n (branch k) e = ap (λ (is : List Item). raw (14 ∷ []) ∷ nm (clock_var a k) ∷ raw (1 ∷ []) ∷ is) (under-items a k e)
onto-items a n else_scope e = under-items a n e

-- as they are written: up to the argument, then the argument
pub under-then : (old : List ℕ) (a : Name) (k : ℕ) (e : Expr) (s : State) → render old (expr_items e) (render old (under_items a k) s) ≡ render old (expr_items (under a k e)) s
under-then old a k e s = sym (ap (λ (is : List Item). render old is s) (under-items a k e) ∙ render-append old (under_items a k) (expr_items e) s)

pub onto-then : (old : List ℕ) (a : Name) (n : ℕ) (c : Scope) (e : Expr) (s : State) → render old (expr_items e) (render old (onto_items a n c) s) ≡ render old (expr_items (onto a n c e)) s
onto-then old a n c e s = sym (ap (λ (is : List Item). render old is s) (onto-items a n c e) ∙ render-append old (onto_items a n c) (expr_items e) s)

-- the loop down the branches: one more, and the end
under-step : (old : List ℕ) (a : Name) (n : ℕ) (s : State) → render old (under_items a (suc n)) s ≡ render old (under_items a n) (render old (when_items a n 0) s)
unfolding under_items
under-step old a n s = render-append old (when_items a n 0) (under_items a n) s

pub under_more : (old : List ℕ) (a : Name) (n k : ℕ) (x s z : State) → k ≡ suc n → x ≡ render old (when_items a n 0) s → render old (under_items a k) s ≡ z → render old (under_items a n) x ≡ z
under_more old a n k x s z l e h = ap (render old (under_items a n)) e ∙ sym (under-step old a n s) ∙ ap (λ i. render old (under_items a i) s) (sym l) ∙ h

pub under_none : (old : List ℕ) (a : Name) (n : ℕ) (s z : State) → n ≤ 0 → render old (under_items a n) s ≡ z → s ≡ z
unfolding under_items render
under_none old a zero s z l h = h
under_none old a (suc n) s z l h = absurd (omega arith)

-- the scope of a branch, and the else scope
pub onto-branch : (old : List ℕ) (a : Name) (n k : ℕ) (s : State) → k < n → render old (under_items a k) (render old (when_items a k 1) s) ≡ render old (onto_items a n (scope_at n k)) s
unfolding onto_items scope_at
onto-branch old a n k s l = rw (lt-ltb k n l) (sym (render-append old (when_items a k 1) (under_items a k) s))

pub onto-other : (old : List ℕ) (a : Name) (n k : ℕ) (s : State) → n ≤ k → render old (under_items a n) s ≡ render old (onto_items a n (scope_at n k)) s
unfolding onto_items scope_at
onto-other old a n k s l = rw (le-ltb k n l)

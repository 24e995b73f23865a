-- Laws of guards: as the code writes them, by the number of branches.
use Prim.Native.Nat.{ℕ, zero, suc, ◌+◌, ◌-◌, ◌≤◌}
use native.Mathlib.Numerals.{add-one}
use native.Mathlib.Omega.{arith}
use mathlib.Core.List.{List, [], ◌∷◌}
use mathlib.Core.Path.{◌≡◌, refl, sym, ap, ◌∙◌}
use lib.ListN.{length}
use Rattle.wire.specs.Writer.{State}
use Rattle.pack_rules.specs.Names.{Name}
use Rattle.pack_rules.specs.Syntax.{Equation, Expr, e_var}
use Rattle.pack_rules.specs.Write.{each, equation_items, expr_items, list, name_items}
use Rattle.pack.specs.Intern.{render}
use Rattle.pack.proofs.Interns.{render-append}
use Rattle.activations.specs.declared.made_names.Var.TheVariants as vr
use Rattle.activation_rules.specs.MadeNames.{clock_var, flag_var}
use Rattle.activations.specs.Vars.{branch_var}
use Rattle.activation_rules.specs.Defines.{eqn}
use Rattle.activation_rules.specs.Clocks.{guard_equations, under}
use Rattle.activation_rules.specs.Lower.{tail_of}
use Rattle.activations.specs.ByNumber.{guard_of, guards_from, under_items}
use Rattle.activations.proofs.ClockLaws.{under-then}

-- what is defined from the conditions depends on their number only
guards-number : (a : Name) (k : ℕ) (cs : List Expr) → guard_equations a k cs ≡ guards_from a k (length cs)
unfolding guard_equations guards_from guard_of
guards-number a k [] = refl
guards-number a k (c ∷ cs) = ap (λ (es : List Equation). guard_of a k ∷ es) (guards-number a (suc k) cs)

pub tail-length : (n : ℕ) (cs : List Expr) → length cs ≡ n → length (tail_of cs) ≡ n - 1
unfolding tail_of
tail-length n [] e = omega (arith, e)
tail-length n (c ∷ cs) e = omega (arith, e)

pub guards-are : (a : Name) (n : ℕ) (cs : List Expr) → length cs ≡ n → guard_equations a 1 (tail_of cs) ≡ guards_from a 1 (n - 1)
guards-are a n cs e = guards-number a 1 (tail_of cs) ∙ ap (guards_from a 1) (tail-length n cs e)

module _ (old : List ℕ) (a : Name) where
  pub guard-term : (k : ℕ) (s : State) → render old (expr_items (e_var (branch_var vr.Flag a k))) (render old (under_items a k) (render old (list name_items (branch_var vr.Clock a k ∷ [])) s)) ≡ render old (equation_items (guard_of a k)) s
  unfolding equation_items guard_of eqn branch_var
  guard-term k s =
      under-then old a k (e_var (flag_var a k)) (render old (list name_items (clock_var a k ∷ [])) s)
      ∙ sym (render-append old (list name_items (clock_var a k ∷ [])) (expr_items (under a k (e_var (flag_var a k)))) s)

  guards-step : (k n : ℕ) (s : State) → render old (each equation_items (guards_from a k (suc n))) s ≡ render old (each equation_items (guards_from a (suc k) n)) (render old (equation_items (guard_of a k)) s)
  unfolding guards_from each
  guards-step k n s = render-append old (equation_items (guard_of a k)) (each equation_items (guards_from a (suc k) n)) s

  -- the loop over guards: one more, and the end
  pub guards_more : (k n : ℕ) (x s z : State) {rest : ℕ} → n ≡ suc rest → x ≡ render old (equation_items (guard_of a k)) s → render old (each equation_items (guards_from a k n)) s ≡ z → render old (each equation_items (guards_from a (k + 1) rest)) x ≡ z
  guards_more k n x s z {rest} l e h =
      (λ y. render old (each equation_items (guards_from a (add-one k y) rest)) (e y))
      ∙ sym (guards-step k rest s) ∙ ap (λ y. render old (each equation_items (guards_from a k y)) s) (sym l) ∙ h

  pub guards_none : (k n : ℕ) (s z : State) → n ≤ 0 → render old (each equation_items (guards_from a k n)) s ≡ z → s ≡ z
  unfolding guards_from each render
  guards_none k zero s z l h = h
  guards_none k (suc n) s z l h = absurd (omega arith)

  pub guards-of : (n : ℕ) (cs : List Expr) (s : State) → length cs ≡ n → render old (each equation_items (guards_from a 1 (n - 1))) s ≡ render old (each equation_items (guard_equations a 1 (tail_of cs))) s
  guards-of n cs s e = ap (λ (es : List Equation). render old (each equation_items es) s) (sym (guards-are a n cs e))

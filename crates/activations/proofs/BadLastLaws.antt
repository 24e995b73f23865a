-- Laws for the code that looks for calls of `last` that are misused, step by step.
use Prim.Native.Nat.{ℕ, zero, suc, ◌≤◌}
use native.Mathlib.Omega.{arith}
use mathlib.Core.List.{List}
use mathlib.Core.Bool.{Bool, true, false, ◌||◌}
use mathlib.Core.Path.{◌≡◌, sym, ap, ◌∙◌}
use Rattle.pack_rules.specs.Names.{Name}
use Rattle.wire.specs.declared.answer.Number.{Number}
use Rattle.machines.specs.CheckedReads.{number_in}
use Rattle.machines.proofs.CheckedReadLaws.{on}
use Rattle.activations.specs.ExprNodes.{is_bad}
use Rattle.activations.specs.Places.{any_t, body_in, branch_end, equation_end, right_side_in}
use Rattle.activations.specs.Walks.{or_step, walked}
use Rattle.activations.specs.BadLastsAt.{any_branch_t, body_has_bad_last_t, condition_has_bad_last_t, equation_has_bad_last_t, has_bad_last_t, scope_has_bad_last_t}
use Rattle.activations.proofs.Moving.{ended}

module _ (ns : List Name) (s : List ℕ) (last : ℕ) where
  pub bad-none : (n p : ℕ) (at : ℕ) → n ≤ 0 → walked ns s last (or_step is_bad) n p false ≡ walked ns s last (or_step is_bad) 1 at false → false ≡ has_bad_last_t ns s last at
  unfolding has_bad_last_t
  bad-none n p at l e = ended ns s last (or_step is_bad) n p false _ l e

  pub bad-is : (at : ℕ) (r : Bool) → r ≡ walked ns s last (or_step is_bad) 1 at false → r ≡ has_bad_last_t ns s last at
  unfolding has_bad_last_t
  bad-is at r e = e

  pub condition-is : (at : ℕ) (i : Number) (r : Bool) → i ≡ number_in s at → r ≡ has_bad_last_t ns s last i.next → r ≡ condition_has_bad_last_t ns s last at
  unfolding condition_has_bad_last_t
  condition-is at i r e f = on i _ _ r e f

  pub equation-is : (at e : ℕ) (r : Bool) → e ≡ right_side_in ns s at → r ≡ has_bad_last_t ns s last e → r ≡ equation_has_bad_last_t ns s last at
  unfolding equation_has_bad_last_t
  equation-is at e r f g = g ∙ ap (has_bad_last_t ns s last) f

  pub scope-is : (at : ℕ) (c : Number) (r : Bool) → c ≡ number_in s at → r ≡ any_t (equation_has_bad_last_t ns s last) (equation_end ns s) c.value c.next → r ≡ scope_has_bad_last_t ns s last at
  unfolding scope_has_bad_last_t
  scope-is at c r e f = on c _ _ r e f

  pub body-misused : (at e : ℕ) (r : Bool) → e ≡ body_in ns s at → r ≡ scope_has_bad_last_t ns s last e → r ≡ body_has_bad_last_t ns s last at
  unfolding body_has_bad_last_t
  body-misused at e r f g = g ∙ ap (scope_has_bad_last_t ns s last) f

pub branches-is : (ns : List Name) (s : List ℕ) (f : ℕ → Bool) (at : ℕ) (c : Number) (r : Bool) → c ≡ number_in s at → r ≡ any_t f (branch_end ns s) c.value c.next → r ≡ any_branch_t ns s f at
unfolding any_branch_t
branches-is ns s f at c r e g = on c _ _ r e g

-- a loop that looks for one
module _ (f : ℕ → Bool) (next : ℕ → ℕ) where
  pub any-hit : (n p : ℕ) (x z : Bool) {rest : ℕ} → n ≡ suc rest → x ≡ f p → x ≡ true → any_t f next n p ≡ z → true ≡ z
  unfolding any_t
  any-hit zero p x z l e g h = absurd (omega arith)
  any-hit (suc n) p x z {rest} l e g h = ap (λ y. y || any_t f next n (next p)) (sym g ∙ e) ∙ h

  pub any-on : (n p q : ℕ) (x z : Bool) {rest : ℕ} → n ≡ suc rest → x ≡ f p → x ≡ false → q ≡ next p → any_t f next n p ≡ z → any_t f next rest q ≡ z
  unfolding any_t
  any-on zero p q x z l e g k h = absurd (omega arith)
  any-on (suc n) p q x z {rest} l e g k h =
      let i : rest ≡ n = omega arith in
      ap (λ y. any_t f next y q) i ∙ ap (any_t f next n) k ∙ ap (λ y. y || any_t f next n (next p)) (sym g ∙ e) ∙ h

  pub any-end : (n p : ℕ) (z : Bool) → n ≤ 0 → any_t f next n p ≡ z → false ≡ z
  unfolding any_t
  any-end zero p z l h = h
  any-end (suc n) p z l h = absurd (omega arith)

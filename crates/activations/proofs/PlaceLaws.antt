-- Laws for the code that finds the parts of activations, step by step.
use Prim.Native.Nat.{ℕ, zero, suc, ◌≤◌}
use native.Mathlib.Omega.{arith}
use mathlib.Core.List.{List}
use mathlib.Core.Path.{◌≡◌, refl, sym, ap, ◌∙◌}
use Rattle.wire.specs.Code.{Skipped, skip}
use Rattle.pack_rules.specs.Names.{Name}
use Rattle.pack_rules.specs.Read.{expr_in, names_in}
use Rattle.pack.specs.Verdict.{offset_of}
use Rattle.wire.specs.declared.answer.Number.{Number}
use Rattle.machines.specs.ResolvedIn.{end_of}
use Rattle.machines.specs.CheckedReads.{number_in}
use Rattle.machines.proofs.CheckedReadLaws.{end_is, on}
use Rattle.activations.specs.Places.{along, branch_end, branches_end, each_of, equation_end, right_side_in}

along-step : (next : ℕ → ℕ) (n p : ℕ) → along next (suc n) p ≡ along next n (next p)
unfolding along
along-step next n p = refl

pub along-more : (next : ℕ → ℕ) (n p q z : ℕ) {rest : ℕ} → n ≡ suc rest → q ≡ next p → along next n p ≡ z → along next rest q ≡ z
along-more next zero p q z l e f = absurd (omega arith)
along-more next (suc n) p q z {rest} l e f = let i : rest ≡ n = omega arith in rw (i, e) (sym (along-step next n p) ∙ f)

pub along-end : (next : ℕ → ℕ) (n p z : ℕ) → n ≤ 0 → along next n p ≡ z → p ≡ z
unfolding along
along-end next zero p z l e = e
along-end next (suc n) p z l e = absurd (omega arith)

-- a loop that does something at each
module _ {S : Type 0} (f : ℕ → S → S) (next : ℕ → ℕ) where
  each_step : (n p : ℕ) (x : S) → each_of f next (suc n) p x ≡ each_of f next n (next p) (f p x)
  unfolding each_of
  each_step n p x = refl

  pub each_more : (n p q : ℕ) (x y z : S) {rest : ℕ} → n ≡ suc rest → q ≡ next p → y ≡ f p x → each_of f next n p x ≡ z → each_of f next rest q y ≡ z
  each_more zero p q x y z l e g h = absurd (omega arith)
  each_more (suc n) p q x y z {rest} l e g h =
      let i : rest ≡ n = omega arith in
      ap (λ k. each_of f next k q y) i ∙ (λ j. each_of f next n (e j) (g j)) ∙ sym (each_step n p x) ∙ h

  pub each-end : (n p : ℕ) (x z : S) → n ≤ 0 → each_of f next n p x ≡ z → x ≡ z
  unfolding each_of
  each-end zero p x z l e = e
  each-end (suc n) p x z l e = absurd (omega arith)

module _ (ns : List Name) (s : List ℕ) where
  pub right_is : (at : ℕ) (r : Skipped) (q : ℕ) → r ≡ skip (names_in ns s at) → q ≡ offset_of r → q ≡ right_side_in ns s at
  unfolding right_side_in
  right_is at r q e f = end_is (names_in ns s) at r q e f

  pub equation-over : (at e r : ℕ) → e ≡ right_side_in ns s at → r ≡ end_of (expr_in ns s e) → r ≡ equation_end ns s at
  unfolding equation_end
  equation-over at e r f g = g ∙ ap (λ y. end_of (expr_in ns s y)) f

  pub branches-over : (at : ℕ) (c : Number) (r : ℕ) → c ≡ number_in s at → r ≡ along (branch_end ns s) c.value c.next → r ≡ branches_end ns s at
  unfolding branches_end
  branches-over at c r e f = on c _ _ r e f

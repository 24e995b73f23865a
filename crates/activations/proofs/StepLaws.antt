-- Laws for code that writes things one after the other, each by its index and where it stands, until none is left or the writer is
-- full.
use Prim.Native.Nat.{ℕ, zero, suc, ◌+◌, ◌≤◌}
use native.Mathlib.Omega.{arith}
use mathlib.Core.List.{List}
use mathlib.Core.Bool.{true}
use mathlib.Core.Path.{◌≡◌, refl, sym, ap, ◌∙◌}
use Rattle.wire.specs.declared.writer.Writer.{Writer}
use Rattle.wire.specs.Writer.{State, full, state_of}
use Rattle.activations.specs.Passes.{pass_t}
use Rattle.activations.proofs.Counting.{stopped_at}

-- a pass that goes to the end: one more, and the end
module _ {S : Type 0} (f : ℕ → ℕ → ℕ → S → S) (next : ℕ → ℕ) where
  goes_step : (n k p : ℕ) (z : S) → pass_t f next (suc n) k p z ≡ pass_t f next n (suc k) (next p) (f (suc n) k p z)
  unfolding pass_t
  goes_step n k p z = refl

  pub goes_on : (n k p q : ℕ) (x y z : S) {rest : ℕ} → n ≡ suc rest → x ≡ f n k p y → q ≡ next p → pass_t f next n k p y ≡ z → pass_t f next rest (k + 1) q x ≡ z
  goes_on zero k p q x y z l e d h = absurd (omega arith)
  goes_on (suc n) k p q x y z {rest} l e d h =
      let i : rest ≡ n = omega arith in
      let j : k + 1 ≡ suc k = omega arith in
      (λ u. pass_t f next (i u) (j u) (d u) (e u)) ∙ sym (goes_step n k p y) ∙ h

  pub goes_end : (n k p : ℕ) (y z : S) → n ≤ 0 → pass_t f next n k p y ≡ z → y ≡ z
  unfolding pass_t
  goes_end zero k p y z l h = h
  goes_end (suc n) k p y z l h = absurd (omega arith)

module _ (f : ℕ → ℕ → ℕ → State → State) (next : ℕ → ℕ) (stays : (n k p : ℕ) → f n k p full ≡ full) where
  -- a full writer stays full
  pass-full : (n k p : ℕ) → pass_t f next n k p full ≡ full
  unfolding pass_t
  pass-full zero k p = refl
  pass-full (suc n) k p = ap (pass_t f next n (suc k) (next p)) (stays (suc n) k p) ∙ pass-full n (suc k) (next p)

  pub pass-stop : (n k p : ℕ) (o m : List ℕ) (w : Writer) (z : State) → w.full ≡ true → pass_t f next n k p (state_of o m w) ≡ z → state_of o m w ≡ z
  pass-stop n k p o m w z e h = stopped_at (pass_t f next n k p) (pass-full n k p) o m w z e h

-- Laws for the code that writes the report of refused activations, step by step.
use Prim.Native.Nat.{ℕ, ◌+◌, ◌-◌, ◌<◌, ◌≤◌}
use native.Mathlib.Omega.{arith}
use mathlib.Core.List.{List, [], ◌∷◌}
use mathlib.Core.Path.{◌≡◌, refl, sym, ap, ◌∙◌}
use lib.ListN.{length}
use borrow.Author.Tests.{eq-eqb, ne_eqb}
use Rattle.machines.specs.declared.verdicts.VerdictRow.{VerdictRow}
use Rattle.wire.specs.declared.answer.Number.{Number}
use Rattle.machines.specs.ReportEntries.{entry_bytes}
use Rattle.machines.specs.ReportAt.{bytes_t}
use Rattle.machines.specs.CheckedReads.{number_in}
use Rattle.machines.proofs.ReportingLaws.{room-here}
use Rattle.activations.specs.declared.checks.Refused.{Refused}
use Rattle.activation_rules.specs.Checks.{else_name}
use Rattle.activations.specs.ActTable.{refusal_t, spot_t}
use Rattle.activations.specs.ReportAt.{entry_t, judged_as}

module _ (acts : List ℕ) (i : ℕ) (r : Refused) (e : r ≡ refusal_t acts i) where
  no_kind : r.kind ≡ 0 → (refusal_t acts i).kind ≡ 0
  no_kind h = ap (λ (y : Refused). y.kind) (sym e) ∙ h

  some-kind : (r.kind ≡ 0 → ⊥) → (refusal_t acts i).kind ≡ 0 → ⊥
  some-kind h z = h (ap (λ (y : Refused). y.kind) e ∙ z)

  module _ (names : ℕ) (s offsets : List ℕ) where
    pub entry-none : r.kind ≡ 0 → entry_t names s offsets acts i ≡ []
    unfolding entry_t
    entry-none h = rw (eq-eqb (refusal_t acts i).kind 0 (no_kind h))

    pub entry-some : (at : ℕ) (a : Number) (j : VerdictRow) → (r.kind ≡ 0 → ⊥) → at ≡ spot_t acts i → a ≡ number_in s at → j ≡ judged_as names r → entry_bytes s offsets (101 ∷ 108 ∷ 115 ∷ 101 ∷ []) a.value j ≡ entry_t names s offsets acts i
    unfolding entry_t else_name
    entry-some at a j h f g d =
        rw (ne_eqb (refusal_t acts i).kind 0 (some-kind h))
        (λ w. entry_bytes s offsets (101 ∷ 108 ∷ 115 ∷ 101 ∷ []) ((g ∙ ap (number_in s) f) w).value ((d ∙ ap (judged_as names) e) w))

-- while the loop stands at the activation i, there is room for its entry, and for what is left
module _ (f : ℕ → List ℕ) (n i e room room' : ℕ) (same : room' ≡ room) (fits : 2 + length (bytes_t f n 0) ≤ room) (left : e + length (bytes_t f (n - i) i) ≡ 2 + length (bytes_t f n 0)) where
  pub room-left : e ≤ room'
  room-left = omega arith

  pub room-now : i < n → e + length (f i) ≤ room'
  room-now l = room-here f n i e room' (f i) l refl (omega arith)

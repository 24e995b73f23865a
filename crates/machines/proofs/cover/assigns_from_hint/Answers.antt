use native.Mathlib.Omega.{arith}
use Rattle.machines.proofs.AssignsMemoLaws.{rest-before, rest_gives, rest-less}
use Rattle.machines.proofs.cover.assigns_from_hint.Goals as goal

pub returns-then-e : goal.returns-then-e
returns-then-e c = record { found = rest_gives _ _ _ _ _ _ _ (rest-before _ _ _ _ _ _ _ _ c.requires c.cell.ensures c.if-cell-at.false c.cell-n.ensures c.cell-2.ensures) (omega (arith, c.if-n-eq0.false)) c.assigns_only-e.ensures c.if-e.true; hint_of = rest-less _ _ _ _ _ _ _ (rest-before _ _ _ _ _ _ _ _ c.requires c.cell.ensures c.if-cell-at.false c.cell-n.ensures c.cell-2.ensures) (omega (arith, c.if-n-eq0.false)) c.assigns_only-e.ensures }

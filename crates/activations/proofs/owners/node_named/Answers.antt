use native.Mathlib.Omega.{arith}
use mathlib.Core.Path.{◌≡◌, ◌∙◌}
use Rattle.machines.proofs.OwnerLaws.{find-done, find-hit, find-miss}
use Rattle.activations.proofs.OwnerLaws.{named-is, owner-is}
use Rattle.activations.proofs.owners.node_named.Goals as goal

pub returns-then-i-x : goal.returns-then-i-x
returns-then-i-x c = named-is _ _ _ _ _ (find-hit _ _ _ _ _ _ c.loop-k-test.true (owner-is _ _ _ _ _ _ c.loop-k-test.true c.cell-at.ensures c.number-i.ensures) c.if-i-x.true c.loop-k.invariant)

pub loop-k-preserved : goal.loop-k-preserved
loop-k-preserved c = find-miss _ _ _ _ _ _ c.loop-k-test.true (owner-is _ _ _ _ _ _ c.loop-k-test.true c.cell-at.ensures c.number-i.ensures) c.if-i-x.false c.loop-k.invariant

pub returns : goal.returns
returns c = let e : c.args.n ≡ c.loop-k.k = omega arith in named-is _ _ _ _ _ (e ∙ find-done _ _ _ _ _ c.loop-k-test.false c.loop-k.invariant)

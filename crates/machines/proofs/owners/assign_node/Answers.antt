use native.Mathlib.Omega.{arith}
use Rattle.machines.proofs.CheckedReadLaws.{number_put}
use Rattle.machines.proofs.OwnerLaws.{settled-new, settled-old}
use Rattle.machines.proofs.owners.assign_node.Goals as goal

pub returns-then-k-n : goal.returns-then-k-n
returns-then-k-n c = (omega arith, settled-new _ _ _ _ _ _ _ _ _ _ _ _ _ c.entry-at.ensures c.entry-g.ensures c.number-m.ensures c.number-o.ensures c.goes_to-k.ensures c.put.ensures _ c.if-k-n.true (number_put c.args.pack.now _ c.number-m.result c.args.nodes.now _ c.args.n (λ j. omega (arith, c.type_inv.pack j)) c.number-m.ensures c.put_cell.ensures))

pub returns : goal.returns
returns c = (omega arith, settled-old _ _ _ _ _ _ _ _ _ _ _ _ _ c.entry-at.ensures c.entry-g.ensures c.number-m.ensures c.number-o.ensures c.goes_to-k.ensures c.put.ensures c.if-k-n.false)

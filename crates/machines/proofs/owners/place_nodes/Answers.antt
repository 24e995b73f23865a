use native.Mathlib.Omega.{arith}
use Rattle.machines.proofs.CheckedReadLaws.{number_put}
use Rattle.machines.proofs.OwnerLaws.{fill_done, fill_more, fill_start, node-name, nth-more, nth-start}
use Rattle.machines.proofs.owners.place_nodes.Goals as goal

pub loop-k-init : goal.loop-k-init
loop-k-init c = λ ns e. (nth-start _ _, fill_start _ _ _)

pub loop-k-preserved : goal.loop-k-preserved
loop-k-preserved c = λ ns e. (nth-more _ _ _ _ _ (c.loop-k.invariant ns e).0 (c.after_node-p.ensures ns e), fill_more _ _ _ _ _ _ _ c.loop-k-test.true (node-name ns _ _ _ _ _ (c.loop-k.invariant ns e).0 c.number-i.ensures) (number_put c.args.pack.now _ c.number-i.result c.loop-k.nodes _ c.loop-k.k (λ i. omega (arith, c.type_inv.pack i)) c.number-i.ensures c.put_cell.ensures) (c.loop-k.invariant ns e).1)

pub returns : goal.returns
returns c = λ ns e. fill_done _ _ _ _ _ c.loop-k-test.false (c.loop-k.invariant ns e).1

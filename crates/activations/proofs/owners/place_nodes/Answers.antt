use Prim.Native.Nat.{◌%◌}
use native.Mathlib.Omega.{arith}
use mathlib.Core.Path.{ap}
use Rattle.wire.specs.declared.answer.Number.{Number}
use Rattle.machines.proofs.OwnerLaws.{fill_done, fill_more, fill_start, node_end_lem, nth-more, nth-start}
use Rattle.machines.proofs.CheckedReadLaws.{number_small}
use Rattle.activations.proofs.OwnerLaws.{nodes-placed}
use Rattle.activations.proofs.owners.place_nodes.Goals as goal

pub loop-k-init : goal.loop-k-init
loop-k-init c = λ ns e. (nth-start _ _, fill_start _ _ _)

pub loop-k-preserved : goal.loop-k-preserved
loop-k-preserved c = λ ns e. (nth-more _ _ _ _ _ (c.loop-k.invariant ns e).0 (node_end_lem ns _ _ _ _ (c.to_node_equations-e.ensures ns e) (c.after_equations-p.ensures ns e)), fill_more _ _ _ _ _ _ _ c.loop-k-test.true (ap (λ y. y % 65536) (c.loop-k.invariant ns e).0) c.put_cell.ensures (c.loop-k.invariant ns e).1)

pub returns : goal.returns
returns c = record { count = (number_small _ _ _ (λ i. omega (arith, c.type_inv.pack i)) c.number-c.ensures, ap (λ (y : Number). y.value) c.number-c.ensures); placed = λ ns e. nodes-placed ns _ _ _ _ _ c.number-c.ensures (fill_done _ _ _ _ _ c.loop-k-test.false (c.loop-k.invariant ns e).1) }

use Rattle.activations.proofs.Counting.{left_none, left_one}
use Rattle.activations.specs.TypesAt.{port_end, port_t}
use Rattle.activations.proofs.PlaceLaws.{along-more, each_more}
use Rattle.activations.proofs.TypeLaws.{port-end, port-is, ports-done, ports-over}
use Rattle.activations.proofs.types.note_ports.Goals as goal

pub loop-preserved : goal.loop-preserved
loop-preserved c = λ ns e. (along-more (port_end ns _) _ _ _ _ (left_one c.loop-test.true) (port-end ns _ _ _ (c.after_port-p.ensures ns e)) (c.loop.invariant ns e).0, each_more (port_t _) (port_end ns _) _ _ _ _ _ _ (left_one c.loop-test.true) (port-end ns _ _ _ (c.after_port-p.ensures ns e)) (port-is _ _ _ _ _ c.number-x.ensures c.put_cell.ensures) (c.loop.invariant ns e).1)

pub returns : goal.returns
returns c = record { ends = λ ns e. ports-over ns _ _ _ _ _ c.number-c.ensures (left_none c.loop-test.false) (c.loop.invariant ns e).0; noted = λ ns e. ports-done ns _ _ _ _ _ _ _ c.number-c.ensures (left_none c.loop-test.false) (c.loop.invariant ns e).1 }

use Rattle.activations.proofs.Counting.{left_none, left_one}
use mathlib.Core.Path.{ap, ◌∙◌}
use Rattle.activations.specs.TypesAt.{first_port_t, first_ports_t, port_end}
use Rattle.activations.proofs.PlaceLaws.{each_more}
use Rattle.activations.proofs.TypeLaws.{firsts-done, port-end}
use Rattle.activations.proofs.types.note_outputs.Goals as goal

pub loop-preserved : goal.loop-preserved
loop-preserved c = λ ns e. each_more (first_port_t _) (port_end ns _) _ _ _ _ _ _ (left_one c.loop-test.true) (port-end ns _ _ _ (c.after_port-p.ensures ns e)) c.note_first.ensures (c.loop.invariant ns e)

pub returns : goal.returns
returns c = λ ns e. firsts-done ns _ _ _ _ _ _ _ c.number-c.ensures (left_none c.loop-test.false) (c.loop.invariant ns e) ∙ ap (first_ports_t ns c.args.pack.now c.args.at) c.clear.ensures

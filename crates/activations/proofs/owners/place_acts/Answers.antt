use Rattle.activations.proofs.Counting.{left_none, left_one}
use native.Mathlib.Omega.{arith}
use mathlib.Core.Path.{ap}
use lib.ListN.{length}
use Rattle.wire.specs.declared.answer.Number.{Number}
use Rattle.activations.specs.Places.{act_end}
use Rattle.activations.specs.OwnersAt.{draw_t}
use Rattle.machines.proofs.CheckedReadLaws.{number_small}
use Rattle.activations.proofs.StepLaws.{goes_end, goes_on}
use Rattle.activations.proofs.OwnerLaws.{acts-placed, draw-by}
use Rattle.activations.proofs.owners.place_acts.Goals as goal

pub loop-i-preserved : goal.loop-i-preserved
loop-i-preserved c = λ ns e. goes_on (λ k. draw_t (length ns) _ _ _) (act_end ns _) _ _ _ _ _ _ _ (left_one c.loop-i-test.true) (draw-by ns _ _ _ _ _ _ _ _ e c.draw.ensures) (c.after_act-p.ensures ns e) (c.loop-i.invariant ns e)

pub returns : goal.returns
returns c = record { count = (number_small _ _ _ (λ i. omega (arith, c.type_inv.pack i)) c.number-c.ensures, ap (λ (y : Number). y.value) c.number-c.ensures); placed = λ ns e. acts-placed ns _ _ _ _ _ _ _ c.number-c.ensures (goes_end _ _ _ _ _ _ _ (left_none c.loop-i-test.false) (c.loop-i.invariant ns e)) }

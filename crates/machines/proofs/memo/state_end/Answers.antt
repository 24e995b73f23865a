use native.Mathlib.Omega.{arith}
use Rattle.wire.specs.Code.{next, onward, skips}
use Rattle.machines.proofs.StateEnds.{state-end}
use Rattle.machines.proofs.memo.state_end.Goals as goal

pub returns-then-n-eq0 : goal.returns-then-n-eq0
returns-then-n-eq0 c = λ ns e offsets f eh ep l. absurd (omega (arith, l))

pub returns : goal.returns
unfolding onward next skips
returns c = λ ns e offsets f eh ep l. state-end ns _ f offsets _ _ _ _ _ _ _ (c.skip_index.ensures ns e) c.reached-n.ensures c.if-n-eq0.false c.if-h-eq0.false c.if-h-eq0-2.false c.if-p-eq0.false (c.skip_optional.ensures ns e) c.reached.ensures eh ep

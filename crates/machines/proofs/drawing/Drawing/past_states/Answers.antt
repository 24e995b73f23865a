use Rattle.machines.proofs.Remaining.{none_left, one_less, some_left}
use mathlib.Core.Path.{◌∙◌}
use Rattle.pack_rules.specs.Read.{state_at}
use Rattle.machines.proofs.ManyEnds.{counted-done, counted-ends, many-stopped, many-went, over-end, state-past}
use Rattle.machines.proofs.drawing.Drawing.past_states.Goals as goal

pub returns-then-p-eq0 : goal.returns-then-p-eq0
returns-then-p-eq0 c = λ ns e. many-stopped (state_at ns _) (state-past ns _) _ _ _ _ (over-end ns _ _ _ (c.past_of-p.ensures ns e)) c.if-p-eq0.true (some_left c.loop-test.true) (c.loop.invariant ns e) ∙ counted-ends (state_at ns _) _ _ _ c.number-c.ensures

pub loop-preserved : goal.loop-preserved
loop-preserved c = λ ns e. rw one_less (many-went (state_at ns _) _ _ _ _ (over-end ns _ _ _ (c.past_of-p.ensures ns e)) c.if-p-eq0.false (some_left c.loop-test.true) (c.loop.invariant ns e))

pub returns : goal.returns
returns c = λ ns e. counted-done (state_at ns _) _ _ _ _ _ c.number-c.ensures (none_left c.loop-test.false) (c.loop.invariant ns e)

use native.Mathlib.Omega.{arith}
use mathlib.Core.Path.{◌≡◌, ◌∙◌}
use Rattle.activations.proofs.LastLaws.{row_here, row-none, row_on}
use Rattle.activations.proofs.find_lasts.row_of.Goals as goal

pub returns-then-word-v-clause-value : goal.returns-then-word-v-clause-value
returns-then-word-v-clause-value c = row_here c.args.lasts.now _ _ _ _ _ c.loop-h-test.true c.word.ensures.1 c.if-word-v.true c.loop-h.invariant

pub loop-h-preserved : goal.loop-h-preserved
loop-h-preserved c = row_on c.args.lasts.now _ _ _ _ _ c.loop-h-test.true c.word.ensures.1 c.if-word-v.false c.loop-h.invariant

pub returns-clause-value : goal.returns-clause-value
returns-clause-value c = let e : c.args.n ≡ c.loop-h.h = omega arith in e ∙ row-none c.args.lasts.now _ _ _ _ c.loop-h-test.false c.loop-h.invariant

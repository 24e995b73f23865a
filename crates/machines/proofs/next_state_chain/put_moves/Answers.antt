use mathlib.Core.Path.{◌∙◌}
use Rattle.machines.proofs.Remaining.{none_left, one_more}
use Rattle.machines.proofs.RowLaws.{stays-full}
use Rattle.machines.proofs.ChainLaws.{moves_more, moves-none}
use Rattle.machines.proofs.next_state_chain.put_moves.Goals as goal

pub returns-then-v : goal.returns-then-v
returns-then-v c = λ ns e. stays-full _ _ _ _ _ _ c.if-v.true (c.loop.invariant ns e)

pub loop-preserved : goal.loop-preserved
loop-preserved c = λ ns e. moves_more _ _ _ _ _ ns _ _ _ _ _ _ _ _ _ (one_more c.loop-test.true) (c.after_expr-e.ensures ns e) c.number-x.ensures c.put_move-v.ensures (c.loop.invariant ns e)

pub returns : goal.returns
returns c = λ ns e. c.put_variable.ensures ∙ moves-none _ _ _ _ _ ns _ _ _ _ _ _ (none_left c.loop-test.false) c.layout_word-id.ensures (c.loop.invariant ns e)

use native.Mathlib.Omega.{arith}
use mathlib.Core.Path.{◌∙◌}
use Rattle.machines.proofs.RowLaws.{stays-full}
use Rattle.machines.proofs.ChainLaws.{chain-from, chain-last, chain_more, chain-none}
use Rattle.machines.proofs.next_state_chain.build_next_state_chain.Goals as goal

pub returns-then-v : goal.returns-then-v
returns-then-v c = λ ns e. stays-full _ _ _ _ _ _ c.if-v.true (c.loop.invariant ns e) ∙ chain-from _ _ _ _ _ ns _ _ _ _ _ _ c.layout_word-n.ensures c.first-p.ensures

pub loop-preserved : goal.loop-preserved
loop-preserved c = λ ns e. chain_more _ _ _ _ _ ns _ _ _ _ _ _ _ _ _ (omega arith) (omega arith) c.put_test-a.ensures (c.put_transitions-v.ensures ns e) c.layout_word-p.ensures (c.loop.invariant ns e)

pub returns-then-n-eq0 : goal.returns-then-n-eq0
returns-then-n-eq0 c = λ ns e. c.put_variable.ensures ∙ chain-none _ _ _ _ _ ns _ _ _ _ _ _ (omega arith) c.layout_word-id.ensures (c.loop.invariant ns e) ∙ chain-from _ _ _ _ _ ns _ _ _ _ _ _ c.layout_word-n.ensures c.first-p.ensures

pub returns : goal.returns
returns c = λ ns e. c.put_transitions.ensures ns e ∙ chain-last _ _ _ _ _ ns _ _ _ _ _ (omega arith) (λ d. absurd (omega arith)) (c.loop.invariant ns e) ∙ chain-from _ _ _ _ _ ns _ _ _ _ _ _ c.layout_word-n.ensures c.first-p.ensures

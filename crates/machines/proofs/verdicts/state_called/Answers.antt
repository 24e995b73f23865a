use Rattle.machines.proofs.JudgeLaws.{state-called}
use Rattle.machines.proofs.verdicts.state_called.Goals as goal

pub returns : goal.returns
returns c = state-called c.args.layout.now c.args.p _ _ c.layout_word.ensures c.layout_word-2.ensures

use Rattle.machines.proofs.JudgeLaws.{called-in}
use Rattle.machines.proofs.verdicts.called_in.Goals as goal

pub returns : goal.returns
returns c = called-in c.args.layout.now c.args.q _ _ _ c.layout_word.ensures c.layout_word-2.ensures

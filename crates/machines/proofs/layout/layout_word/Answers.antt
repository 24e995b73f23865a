use Rattle.machines.proofs.RowLaws.{word_cut, word-past}
use Rattle.machines.proofs.layout.layout_word.Goals as goal

pub returns-else-k-layout : goal.returns-else-k-layout
returns-else-k-layout c = word_cut c.args.layout.now _ _ c.if-k-layout.false

pub returns-else-p-layout : goal.returns-else-p-layout
returns-else-p-layout c = word-past c.args.layout.now _ _ c.if-p-layout.false

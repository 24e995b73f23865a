use Rattle.pack.specs.Table.{unindexed, rows_most}
use Rattle.pack.proofs.table.unindex.Goals as goal

pub returns : goal.returns
unfolding unindexed rows_most
returns c = c.put_word.ensures

use Rattle.machines.proofs.LayoutLaws.{region-words}
use Rattle.machines.proofs.layout.put_region_row.Goals as goal

pub returns : goal.returns
returns c = region-words _ _ _ _ _ _ _ _ _ _ _ _ _ _ _ _ c.put.ensures c.put_word.ensures c.put_word-2.ensures c.put_word-3.ensures c.put_word-4.ensures c.put_word-5.ensures c.put_word-6.ensures c.put_word-7.ensures

use Rattle.pack.proofs.Words.{word-is}
use Rattle.pack.proofs.check.ol_pack_check.Goals as goal

pub returns : goal.returns
returns c = word-is _ _ _ _ c.returned_word.ensures c.check_pack.ensures.answers.0 c.check_pack.ensures.answers.1

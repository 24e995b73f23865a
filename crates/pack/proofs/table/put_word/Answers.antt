use Rattle.std.proofs.Common.{◌+◌, ◌/◌, ◌%◌, set, ap, ◌∙◌}
use Rattle.pack.specs.Table.{put_word}
use Rattle.pack.proofs.table.put_word.Goals as goal

pub returns : goal.returns
unfolding put_word
returns c = c.set_byte-2.ensures ∙ ap (λ l. set l (c.args.i + 1) (c.args.v / 256 % 256)) c.set_byte.ensures

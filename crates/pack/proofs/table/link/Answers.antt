use Rattle.std.proofs.Common.{◌+◌, ap, ◌∙◌}
use Rattle.pack.specs.Table.{cell_at, put_word}
use Rattle.pack.proofs.TableLaws.{linked-steps}
use Rattle.pack.proofs.table.link.Goals as goal

pub returns : goal.returns
returns c = let w = c.word-c.result in
    c.put_word-3.ensures
    ∙ ap (λ l. put_word l 0 (w + 1)) (c.put_word-2.ensures ∙ ap (λ l. put_word l (cell_at c.args.i) (w + 1)) c.put_word.ensures)
    ∙ linked-steps c.args.t.now w c.args.i c.args.p c.word-c.ensures.0

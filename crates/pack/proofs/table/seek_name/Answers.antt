use Rattle.std.proofs.Common.{sym, ◌∙◌, subst, arith}
use Rattle.pack.specs.Intern.{found_of}
use Rattle.pack.specs.Table.{Near, found_in, number_in, texts_from}
use Rattle.pack.proofs.TableLaws.{found-less, seek_found, seek-plain}
use Rattle.pack.proofs.table.seek_name.Goals as goal

pub returns-then-c-gt-ROWS : goal.returns-then-c-gt-ROWS
unfolding texts_from
returns-then-c-gt-ROWS c = (
  c.find_name.ensures ∙ seek-plain c.args.t.now c.args.n.now c.min-b.result (omega (arith, c.word-c.ensures.0, c.if-c-gt-ROWS.true)) c.min-b.ensures,
  found-less c.args.t.now c.args.n.now c.min-b.result _ c.find_name.ensures,
)

pub returns-in-Taken : goal.returns-in-Taken
unfolding found_of found_in number_in Near
returns-in-Taken c = (seek_found _ _ _ _ c.if-c-gt-ROWS.false c.word-c.ensures.0 (sym c.in-Taken.is ∙ c.place_of.ensures.0), omega (arith, subst Near c.in-Taken.is c.place_of.ensures.1))

pub returns-in-Free : goal.returns-in-Free
unfolding found_of found_in number_in
returns-in-Free c = (seek_found _ _ _ _ c.if-c-gt-ROWS.false c.word-c.ensures.0 (sym c.in-Free.is ∙ c.place_of.ensures.0), omega (arith, c.if-c-gt-ROWS.false))

pub returns-in-Lost : goal.returns-in-Lost
unfolding found_of found_in number_in
returns-in-Lost c = (seek_found _ _ _ _ c.if-c-gt-ROWS.false c.word-c.ensures.0 (sym c.in-Lost.is ∙ c.place_of.ensures.0), omega (arith, c.if-c-gt-ROWS.false))

use Rattle.std.proofs.Common.{[], ap, ◌∙◌, arith}
use Rattle.pack.specs.Intern.{put_entries}
use Rattle.pack.proofs.Interns.{laid-is}
use Rattle.pack.proofs.intern.build_name_table.Goals as goal

pub returns : goal.returns
returns c = (omega (arith, c.min.ensures), laid-is c.args.names.now c.args.t.now _ _ _ c.requires.0 c.requires.1 (c.put_entries-w.ensures [] ∙ ap (put_entries _) (c.start.ensures [] _)) c.min.ensures)

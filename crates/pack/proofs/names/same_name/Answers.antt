use Rattle.std.proofs.Common.{◌∙◌}
use Rattle.pack.proofs.NameLaws.{same-raw}
use Rattle.pack.proofs.names.same_name.Goals as goal

pub returns : goal.returns
returns c = (simp (c.from.ensures, c.from-2.ensures) at c.same.ensures) ∙ same-raw c.args.pack.now c.args.a c.args.b

use Rattle.std.proofs.Common.{sym, ◌∙◌}
use Rattle.wire.proofs.Codes.{skip-ok}
use Rattle.pack_rules.specs.Read.{name}
use Rattle.pack.proofs.NameLaws.{size-found, spelled-skip}
use Rattle.pack.proofs.names.skip_name.Goals as goal

pub returns-then-spelled : goal.returns-then-spelled
unfolding name
returns-then-spelled c = skip-ok _ _ _ _ (size-found _ _ _ (sym c.in-Ok.is ∙ c.read_byte.ensures) c.if-size-gt0.true) (sym (spelled-skip _ _ _ (sym c.spelled.ensures ∙ c.if-spelled.true)))

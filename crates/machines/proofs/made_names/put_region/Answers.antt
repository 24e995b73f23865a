use mathlib.Core.Path.{ap, ◌∙◌}
use Rattle.wire.specs.Writer.{puts}
use Rattle.machine_rules.specs.MadeNames.{sm_prefix}
use Rattle.machines.specs.Vars.{region_prefix}
use Rattle.machines.proofs.MadeLaws.{region-text}
use Rattle.machines.proofs.made_names.put_region.Goals as goal

pub returns : goal.returns
unfolding region_prefix sm_prefix
returns c = λ m. c.put_bytes.ensures m ∙ ap (puts _) (c.put_digits-b.ensures m ∙ ap (puts _) (c.put_bytes-a.ensures m)) ∙ region-text _ _ _

use mathlib.Core.Path.{◌∙◌}
use Rattle.machines.proofs.ValueLaws.{side-copied}
use Rattle.machines.proofs.value_of.put_own.Goals as goal

pub returns : goal.returns
returns c = λ ns e m. c.put_bytes.ensures m ∙ side-copied ns _ _ _ _ _ _ _ _ _ c.entry.ensures (c.own_rhs.ensures ns e) c.unwrap_or-a.ensures (c.after_expr-e.ensures ns e) c.between.ensures

use Rattle.activations.specs.Places.{act_at}
use mathlib.Core.Path.{◌∙◌, ap}
use native.Mathlib.Omega.{arith}
use Rattle.activations.proofs.ActTableLaws.{act-few}
use Rattle.activations.proofs.owners.act_of.Goals as goal

pub returns : goal.returns
returns c = record { few = act-few _ _ _ _ (λ i. omega (arith, c.type_inv.pack i)) c.act_at.ensures; parts = λ ns e. c.act_at.ensures ns e ∙ ap (act_at ns _) c.act_spot-at.ensures }

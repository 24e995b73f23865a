use mathlib.Core.Path.{ap, ◌∙◌}
use Rattle.pack.specs.Intern.{render}
use Rattle.pack.proofs.Written.{empty-buffers}
use Rattle.activations.proofs.Answered.{gives-written}
use Rattle.activations.proofs.OutcomeFits.{gives_fits}
use Rattle.activations.proofs.call.write_all.Goals as goal

pub returns : goal.returns
returns c = record { answers = λ p h B S. gives-written _ _ _ _ _ p _ _ _ _ _ h B.pack.bytes c.between.ensures B.pack.names (c.put_sections-w.ensures p h B S ∙ ap (render _ _) empty-buffers) c.finish.ensures; fits = gives_fits _ _ _ _ _ _ _ c.finish.ensures }

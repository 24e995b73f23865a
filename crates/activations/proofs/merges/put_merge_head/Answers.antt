use mathlib.Core.Path.{ap, ◌∙◌}
use Rattle.pack.specs.Intern.{put_name, render}
use Rattle.activations.proofs.MergeLaws.{turn-term}
use Rattle.activations.proofs.merges.put_merge_head.Goals as goal

pub returns : goal.returns
returns c = c.put_scope_value.ensures ∙ ap (render _ _) (c.put_var-d.ensures ∙ ap (put_name _ _) (c.put_byte-c.ensures _)) ∙ turn-term _ _ _ _ _ _

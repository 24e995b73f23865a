use mathlib.Core.Path.{sym, ◌∙◌}
use Rattle.machines.proofs.CoverLaws.{no-answer}
use Rattle.machines.proofs.AssignsMemoLaws.{given-before, given-more, given-zero}
use Rattle.machines.proofs.verdicts.uncovered_output.Goals as goal

pub returns-then-byte_at-gt0 : goal.returns-then-byte_at-gt0
returns-then-byte_at-gt0 c = record { value = given-before _ _ _ _ _ _ c.requires.1 c.byte_at.ensures.0 c.if-byte_at-gt0.true; assigns_sound = c.requires.0; assignment_sound = c.requires.1 }

pub returns-then-is_some : goal.returns-then-is_some
returns-then-is_some c = record { value = c.require_cover_region-m.ensures.value; assigns_sound = c.require_cover_region-m.ensures.assigns_sound; assignment_sound = c.requires.1 }

pub returns : goal.returns
returns c = record { value = given-zero _ _ _ _ _ c.require_cover_region-m.ensures.value (no-answer _ (sym c.is_some.ensures ∙ c.if-is_some.false)); assigns_sound = c.require_cover_region-m.ensures.assigns_sound; assignment_sound = given-more _ _ _ _ _ _ _ c.requires.1 c.require_cover_region-m.ensures.value (no-answer _ (sym c.is_some.ensures ∙ c.if-is_some.false)) c.set_byte.ensures }

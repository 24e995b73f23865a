use mathlib.Core.Path.{◌∙◌}
use Rattle.machines.proofs.AssignsMemoLaws.{rest_more, told-before, told_more}
use Rattle.machines.proofs.cover.assigns_by_mark.Goals as goal

pub returns-then-c-mark : goal.returns-then-c-mark
returns-then-c-mark c = record { value = told-before _ _ _ _ _ _ _ _ _ c.requires.0 c.requires.2 c.cell-c.ensures c.mark.ensures c.if-c-mark.true; assigns_sound = c.requires.0 }

pub returns-then-c-mark-2 : goal.returns-then-c-mark-2
returns-then-c-mark-2 c = record { value = told-before _ _ _ _ _ _ _ _ _ c.requires.0 c.requires.2 c.cell-c.ensures c.mark-2.ensures c.if-c-mark-2.true; assigns_sound = c.requires.0 }

pub returns-in-Some-clause-assigns_sound : goal.returns-in-Some-clause-assigns_sound
returns-in-Some-clause-assigns_sound c = rest_more _ _ _ _ _ _ _ _ (told_more _ _ _ _ _ _ _ _ _ c.requires.0 c.requires.2 c.requires.1 (λ ns e. c.is_some.ensures ∙ c.assigns_from_hint-r.ensures.found ns e) c.mark-3.ensures c.put_cell.ensures) (rw c.in-Some.is at c.assigns_from_hint-r.ensures.hint_of) c.put_hint.ensures

pub returns-in-None-clause-assigns_sound : goal.returns-in-None-clause-assigns_sound
returns-in-None-clause-assigns_sound c = told_more _ _ _ _ _ _ _ _ _ c.requires.0 c.requires.2 c.requires.1 (λ ns e. c.is_some.ensures ∙ c.assigns_from_hint-r.ensures.found ns e) c.mark-3.ensures c.put_cell.ensures

use mathlib.Core.Path.{◌∙◌, ap, sym}
use Rattle.activations.specs.TypeHoldersAt.{hold_of}
use Rattle.activations.proofs.TypeHolderLaws.{row-known, row-needs, row-unknown}
use Rattle.activations.specs.Refusing.{held_kind, held_var, numbers_of}
use Rattle.activations.proofs.holders.type_holder.Goals as goal

pub returns-then-c-eq0-clause-held : goal.returns-then-c-eq0-clause-held
unfolding held_kind held_var numbers_of
returns-then-c-eq0-clause-held c = λ ns e. row-unknown ns _ _ _ _ _ _ _ _ _ _ _ c.word-v.ensures.1 c.typed-c.ensures c.if-c-eq0.true

pub returns-then-needs_init-clause-held : goal.returns-then-needs_init-clause-held
unfolding held_kind held_var numbers_of
returns-then-needs_init-clause-held c = λ ns e. row-needs ns _ _ _ _ _ _ _ _ _ _ _ _ _ c.word-v.ensures.1 c.typed-c.ensures c.if-c-eq0.false c.word-i.ensures.1 (c.needs_init.ensures ns e) c.if-needs_init.true

pub returns-clause-held : goal.returns-clause-held
unfolding held_kind held_var numbers_of
returns-clause-held c = λ ns e. ap (λ y. hold_of c.known.new.types c.known.new.lasts 0 y) (sym c.word-v.ensures.1) ∙ row-known ns _ _ _ _ _ _ _ _ _ _ _ _ _ _ c.word-v.ensures.1 c.typed-c.ensures c.if-c-eq0.false c.word-i.ensures.1 (c.needs_init.ensures ns e) c.if-needs_init.false c.known.ensures

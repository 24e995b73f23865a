use Rattle.std.proofs.Common.{sym, refl, ◌∙◌, arith}
use Rattle.pack.specs.Table.{Near, texts_from}
use Rattle.pack.proofs.TableLaws.{place-free, place_here, place-on, place-spent}
use Rattle.pack.proofs.table.find_slot.Goals as goal

pub loop-f-init : goal.loop-f-init
loop-f-init c = (c.requires, refl)

pub returns-then-w-eq0 : goal.returns-then-w-eq0
unfolding Near
returns-then-w-eq0 c = (sym (place-free _ _ _ _ _ _ c.loop-f-test.true c.word-w.ensures.0 c.if-w-eq0.true) ∙ c.loop-f.invariant.1, c.loop-f.invariant.0)

pub overflow_mul-k : goal.overflow_mul-k
overflow_mul-k c = omega (arith, c.word-w.ensures.1)

pub overflow_add-k : goal.overflow_add-k
overflow_add-k c = omega (arith, c.word-w.ensures.1)

pub word-p-requires : goal.word-p-requires
word-p-requires c = omega (arith, c.word-w.ensures.1)

pub overflow_add-p : goal.overflow_add-p
overflow_add-p c = omega (arith, c.word-p.ensures.1)

pub is_at-requires : goal.is_at-requires
is_at-requires c = omega (arith, c.word-p.ensures.1)

pub returns-then-is_at : goal.returns-then-is_at
unfolding Near texts_from
returns-then-is_at c = (sym (place_here _ _ _ _ _ _ _ c.loop-f-test.true c.word-w.ensures.0 c.if-w-eq0.false c.word-p.ensures.0 (sym c.is_at.ensures ∙ c.if-is_at.true)) ∙ c.loop-f.invariant.1, omega (arith, c.word-w.ensures.1))

pub overflow_mul-i-in-loop-f : goal.overflow_mul-i-in-loop-f
overflow_mul-i-in-loop-f c = omega (arith, c.word-w.ensures.1)

pub overflow_add-i-in-loop-f : goal.overflow_add-i-in-loop-f
overflow_add-i-in-loop-f c = omega (arith, c.word-w.ensures.1)

pub overflow_add-i-in-loop-f-2 : goal.overflow_add-i-in-loop-f-2
overflow_add-i-in-loop-f-2 c = omega (arith, c.word-w.ensures.1)

pub loop-f-preserved : goal.loop-f-preserved
unfolding texts_from
loop-f-preserved c = (
  omega (arith, c.word-w.ensures.1),
  sym (place-on _ _ _ _ _ _ _ _ c.loop-f-test.true c.word-w.ensures.0 c.if-w-eq0.false c.word-p.ensures.0 (sym c.is_at.ensures ∙ c.if-is_at.false) c.further-h.ensures) ∙ c.loop-f.invariant.1,
)

pub returns : goal.returns
unfolding Near
returns c = (sym (place-spent _ _ _ _ _ _ c.loop-f-test.false) ∙ c.loop-f.invariant.1, tt)

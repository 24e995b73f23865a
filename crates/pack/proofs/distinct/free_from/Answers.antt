use Rattle.std.proofs.Common.{◌≡◌, ◌+◌, ◌-◌, sym, refl, ◌∙◌, arith}
use Rattle.pack.proofs.DistinctLaws.{free-here, free-met, free_on_lem, free-spent}
use Rattle.pack.proofs.distinct.free_from.Goals as goal

pub loop-init : goal.loop-init
loop-init c = (c.requires, refl)

pub returns-then-w-eq0 : goal.returns-then-w-eq0
returns-then-w-eq0 c = sym (free-here _ _ _ _ _ _ _ _ _ (omega (arith, c.loop-test.true)) c.cell-w.ensures c.if-w-eq0.true) ∙ c.loop.invariant.1

pub overflow_sub-w : goal.overflow_sub-w
overflow_sub-w c = omega (arith, c.if-w-eq0.false)

pub is_of-requires : goal.is_of-requires
is_of-requires c = (c.loop.invariant.0, omega (arith, c.if-w-eq0.false))

pub returns-then-is_of : goal.returns-then-is_of
returns-then-is_of c = sym (free-met _ _ _ _ _ _ _ _ _ _ (omega (arith, c.loop-test.true)) c.cell-w.ensures c.if-w-eq0.false c.is_of.ensures c.if-is_of.true) ∙ c.loop.invariant.1

pub after-i-requires : goal.after-i-requires
after-i-requires c = c.loop.invariant.0

pub loop-preserved : goal.loop-preserved
loop-preserved c =
    let n : 256 - (c.loop.counter + 1) ≡ 256 - c.loop.counter - 1 = omega arith in
    rw n (c.after-i.ensures.1, sym (free_on_lem _ _ _ _ _ _ _ _ _ _ _ (omega (arith, c.loop-test.true)) c.cell-w.ensures c.if-w-eq0.false c.is_of.ensures c.if-is_of.false c.after-i.ensures.0) ∙ c.loop.invariant.1)

pub returns : goal.returns
returns c = sym (free-spent _ _ _ _ _ _ _ _ (omega (arith, c.loop-test.false))) ∙ c.loop.invariant.1

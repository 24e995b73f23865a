use Rattle.std.proofs.Common.{sym, refl, ◌∙◌, arith}
use Rattle.pack.proofs.Interns.{eq_name-length, eq_name-nil, eq_name-more, eq_name-other}
use Rattle.pack.proofs.intern.same.Goals as goal

pub returns-then-a-b : goal.returns-then-a-b
returns-then-a-b c = sym (eq_name-length _ _ c.if-a-b.true)

pub loop-i-init : goal.loop-i-init
loop-i-init c = (c.if-a-b.false, refl)

pub returns-then-a-i : goal.returns-then-a-i
returns-then-a-i c = sym (eq_name-other _ _ _ c.loop-i-test.true (omega (arith, c.loop-i.invariant.0, c.loop-i-test.true)) c.if-a-i.true) ∙ c.loop-i.invariant.1

pub loop-i-preserved : goal.loop-i-preserved
loop-i-preserved c = (c.loop-i.invariant.0, sym (eq_name-more _ _ _ c.loop-i-test.true (omega (arith, c.loop-i.invariant.0, c.loop-i-test.true)) c.if-a-i.false) ∙ c.loop-i.invariant.1)

pub returns : goal.returns
returns c = sym (eq_name-nil _ _ _ c.loop-i-test.false c.loop-i.invariant.0) ∙ c.loop-i.invariant.1

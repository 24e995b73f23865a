use native.Mathlib.Omega.{arith}
use Rattle.machines.proofs.AddedLaws.{elsewhere-more}
use Rattle.machines.proofs.added.next_to.Goals as goal

pub loop-p-init : goal.loop-p-init
loop-p-init c = λ j l m e. omega arith

pub returns-then-entry-k : goal.returns-then-entry-k
returns-then-entry-k c = (c.loop-p.auto.p, c.loop-p.invariant)

pub loop-p-preserved : goal.loop-p-preserved
loop-p-preserved c = elsewhere-more c.args.receivers.now _ _ _ _ c.entry.ensures c.if-entry-k.false c.loop-p.invariant

pub returns : goal.returns
returns c = (omega arith, λ j l m. c.loop-p.invariant j l (omega (arith, c.loop-p-test.false)))

use native.Mathlib.Omega.{arith}
use mathlib.Core.Path.{refl}
use Rattle.machines.proofs.SpanLaws.{elsewhere-less}
use Rattle.machines.proofs.added.span.Goals as goal

pub loop-i-init : goal.loop-i-init
loop-i-init c = (omega arith, λ j l m e. omega arith)

pub returns-then-entry-k : goal.returns-then-entry-k
returns-then-entry-k c = (omega (arith, c.loop-i.invariant.0), λ j l. c.loop-i.invariant.1 j (omega (arith, c.loop-i-test.true)))

pub loop-i-preserved : goal.loop-i-preserved
loop-i-preserved c = (omega (arith, c.loop-i.invariant.0), elsewhere-less c.args.receivers.now _ _ _ _ _ refl c.entry.ensures c.if-entry-k.false c.loop-i.invariant.1)

pub returns : goal.returns
returns c = (omega arith, λ j l. c.loop-i.invariant.1 j (omega (arith, c.loop-i-test.false)))

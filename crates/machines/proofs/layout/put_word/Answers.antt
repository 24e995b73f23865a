use native.Mathlib.Omega.{arith}
use lib.Seq.{set_out}
use mathlib.Core.Path.{sym}
use Rattle.machines.proofs.layout.put_word.Goals as goal

pub returns-then-layout-p : goal.returns-then-layout-p
returns-then-layout-p c = sym (set_out c.args.layout.now _ _ (omega (arith, c.if-layout-p.true)))

pub returns-else-k-layout : goal.returns-else-k-layout
returns-else-k-layout c = sym (set_out c.args.layout.now _ _ (omega (arith, c.if-k-layout.false)))

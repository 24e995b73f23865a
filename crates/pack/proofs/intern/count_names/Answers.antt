use Rattle.std.proofs.Common.{◌∙◌, zero-add, arith}
use native.Mathlib.Nat.{sub-zero}
use Rattle.pack.specs.Intern.{table}
use Rattle.pack.proofs.Interns.{count_turn, count-done}
use Rattle.pack.proofs.intern.count_names.Goals as goal

pub loop-at-init : goal.loop-at-init
unfolding table
loop-at-init c = (omega arith, omega arith, rw (zero-add, sub-zero))

pub loop-at-preserved : goal.loop-at-preserved
loop-at-preserved c = let d = c in (
  omega arith,
  omega arith,
  count_turn d.args.t.now _ _ _ c.loop-at-test.true d.loop-at.invariant.1 c.name_end-at.ensures ∙ d.loop-at.invariant.2,
)

pub returns : goal.returns
returns c = count-done _ _ _ _ c.loop-at-test.false ∙ c.loop-at.invariant.2

use Rattle.std.proofs.Common.{sym, ◌∙◌, arith}
use native.Mathlib.Nat.{sub-zero}
use Rattle.pack.specs.Intern.{found_of, table}
use Rattle.pack.proofs.Interns.{found_here, found-past, found_none}
use Rattle.pack.proofs.intern.find_name.Goals as goal

pub loop-at-init : goal.loop-at-init
unfolding table
loop-at-init c = (omega arith, omega arith, rw sub-zero)

pub returns-then-same : goal.returns-then-same
unfolding found_of
returns-then-same c = let d = c in
    let a = d.args in
    sym (found_here a.t.now a.n.now _ _ _ c.loop-at-test.true d.loop-at.invariant.1 c.name_end-e.ensures (sym c.same.ensures ∙ c.if-same.true))
    ∙ d.loop-at.invariant.2

pub loop-at-preserved : goal.loop-at-preserved
loop-at-preserved c = let d = c in
    let a = d.args in (
      omega arith,
      omega arith,
      sym (found-past a.t.now a.n.now _ _ _ c.loop-at-test.true d.loop-at.invariant.1 c.name_end-e.ensures (sym c.same.ensures ∙ c.if-same.false))
          ∙ d.loop-at.invariant.2,
    )

pub returns : goal.returns
unfolding found_of
returns c = sym (found_none _ _ _ _ _ c.loop-at-test.false) ∙ c.loop-at.invariant.2

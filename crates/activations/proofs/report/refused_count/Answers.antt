use Prim.Native.Nat.{ℕ}
use native.Mathlib.Omega.{arith}
use mathlib.Core.Bool.{Bool, cond}
use mathlib.Core.Path.{◌≡◌, sym, ap, ◌∙◌}
use Rattle.machines.proofs.AddedLaws.{total-done, total-more}
use Rattle.activations.specs.ReportAt.{is_refused_t}
use Rattle.activations.proofs.report.refused_count.Goals.{else-is_refused, then-is_refused}
use Rattle.activations.proofs.report.refused_count.Goals as goal

pub loop-i-preserved : goal.loop-i-preserved
loop-i-preserved c =
    let counted = λ (b : Bool) (e : c.is_refused.result ≡ b). total-more (is_refused_t c.args.acts.now) _ _ c.loop-i.c (cond {A = ℕ} b 1 0) _ c.loop-i-test.true (sym (c.is_refused.ensures ∙ ap (λ x. cond x 1 0) e)) c.loop-i.invariant.1 in
    elim c.if-is_refused.branch [
      | then-is_refused w ↦ let n = counted _ w.if-is_refused.true in (omega (arith, c.loop-i.invariant.0, w.c-is), omega (arith, n, w.c-is))
      | else-is_refused w ↦ let n = counted _ w.if-is_refused.false in (omega (arith, c.loop-i.invariant.0, w.c-is), omega (arith, n, w.c-is))
    ]

pub returns : goal.returns
returns c = total-done _ _ _ _ _ c.loop-i-test.false c.loop-i.invariant.1

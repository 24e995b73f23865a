use Rattle.activations.proofs.Counting.{left_none, left_one}
use native.Mathlib.Omega.{arith}
use mathlib.Core.Path.{◌∙◌}
use Rattle.activations.specs.LocalsAt.{left_of}
use Rattle.activations.proofs.LocalLaws.{flags-last, flags-none, flags-pair}
use Rattle.activations.proofs.locals.put_flag_locals.Goals.{else-k-n, then-k-n}
use Rattle.activations.proofs.locals.put_flag_locals.Goals as goal

pub loop-k-preserved : goal.loop-k-preserved
loop-k-preserved c = λ ns e.
    let l = left_one c.loop-k-test.true in
    elim c.if-k-n.branch [
      | then-k-n w ↦ flags-pair ns _ _ _ _ _ _ _ _ _ _ l (omega (arith, w.if-k-n.true)) (c.put_branch_local-q.ensures ns e) ((λ j. left_of (w.later-is j) (w.out-is j) (w.made-is j) (w.q-is j)) ∙ w.put_branch_local-q-then-k-n.ensures ns e) (c.loop-k.invariant ns e)
      | else-k-n w ↦ flags-last ns _ _ _ _ _ _ _ _ _ l (omega (arith, w.if-k-n.false)) ((λ j. left_of (w.later-is j) (w.out-is j) (w.made-is j) (w.q-is j)) ∙ c.put_branch_local-q.ensures ns e) (c.loop-k.invariant ns e)
    ]

pub returns : goal.returns
returns c = λ ns e. flags-none ns _ _ _ _ _ _ _ _ (left_none c.loop-k-test.false) (c.loop-k.invariant ns e)

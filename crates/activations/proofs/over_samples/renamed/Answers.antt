use native.Mathlib.Omega.{arith}
use Prim.Native.Nat.{ℕ, ◌<◌}
use mathlib.Core.Path.{sym, ap, subst, ◌∙◌}
use Rattle.std.specs.Prelude.{Option}
use Rattle.std.specs.Option.{IfSome}
use Rattle.activations.specs.OverSamplesAt.{number_or}
use Rattle.activations.proofs.OverSampleLaws.{renamed-end, renamed-hit, renamed-is, renamed-past}
use Rattle.activations.proofs.over_samples.renamed.Goals.{then-from-v, else-from-v}
use Rattle.activations.proofs.over_samples.renamed.Goals as goal

pub loop-id-preserved : goal.loop-id-preserved
unfolding number_or
loop-id-preserved c = elim c.if-from-v.branch [
  | then-from-v w ↦ (subst (λ (o : Option ℕ). IfSome o (λ y. y < 65536)) (sym w.found-is) (omega (arith, w.if-from-v.true, c.from.ensures, c.type_inv.ids c.loop-id.id-index)), renamed-hit _ c.args.ids.now _ c.loop-id.v _ _ _ _ c.loop-id-test.true (sym c.from.ensures ∙ w.if-from-v.true) (w.v-is ∙ w.sample_id-v.ensures) (ap number_or w.found-is) c.loop-id.invariant.1)
  | else-from-v w ↦ (subst (λ (o : Option ℕ). IfSome o (λ y. y < 65536)) (sym w.found-is) c.loop-id.invariant.0, renamed-past _ c.args.ids.now _ c.loop-id.v _ _ _ _ c.loop-id-test.true (λ h. w.if-from-v.false (c.from.ensures ∙ h)) w.v-is (ap number_or w.found-is) c.loop-id.invariant.1)
]

pub returns-clause-value : goal.returns-clause-value
returns-clause-value c = renamed-is _ _ _ _ _ _ _ _ _ _ _ (renamed-end _ c.args.ids.now _ _ _ _ c.loop-id-test.false c.loop-id.invariant.1)

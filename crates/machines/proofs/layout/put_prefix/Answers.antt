use Prim.Native.Nat.{◌+◌}
use Rattle.machines.proofs.QualifyLaws.{all-copied, copied_more, copied_none, kept-letter, lead-some, under_none, under_some}
use Rattle.machines.specs.LayoutAt.{values}
use mathlib.Core.Path.{refl}
use native.Mathlib.Omega.{arith}
use Rattle.machines.proofs.layout.put_prefix.Goals as goal

pub returns-then-m-eq0 : goal.returns-then-m-eq0
returns-then-m-eq0 c = under_none c.args.qualified.now _ _ _ c.if-m-eq0.true

pub loop-k-init : goal.loop-k-init
loop-k-init c = copied_none c.args.qualified.now _ _ _

pub loop-k-preserved : goal.loop-k-preserved
loop-k-preserved c = copied_more c.args.qualified.now c.loop-k.qualified _ c.args.qualified.now _ _ c.loop-k.k _ _ c.loop-k.invariant refl (kept-letter c.args.qualified.now c.loop-k.qualified c.args.at (values c.args.qualified.now c.args.a c.loop-k.k) (c.args.a + c.loop-k.k) _ c.loop-k.invariant (omega (arith, c.requires.0, c.loop-k-test.true)) refl) refl

pub bounds-qualified-at : goal.bounds-qualified-at
bounds-qualified-at c = omega (arith, c.requires.1, c.loop-k-test.true, c.loop-k.auto.qualified, lead-some _ c.if-m-eq0.false)

pub bounds-qualified-at-2 : goal.bounds-qualified-at-2
bounds-qualified-at-2 c = omega (arith, c.requires.1, c.loop-k.auto.qualified, lead-some _ c.if-m-eq0.false)

pub returns : goal.returns
returns c = under_some c.args.qualified.now c.loop-k.qualified _ _ _ _ c.if-m-eq0.false c.requires.0 c.requires.1 (all-copied _ _ _ _ _ _ c.loop-k.auto.k-end (omega (arith, c.loop-k-test.false)) c.requires.0 c.requires.1 (omega (arith, lead-some _ c.if-m-eq0.false)) c.loop-k.invariant) refl

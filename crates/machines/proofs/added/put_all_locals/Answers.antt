use Prim.Native.Nat.{◌-◌}
use native.Mathlib.Omega.{arith}
use mathlib.Core.Path.{refl, ◌∙◌}
use Rattle.machines.specs.AddedAt.{added_locals_t}
use Rattle.machines.proofs.RowLaws.{left-most}
use Rattle.machines.proofs.AddedLaws.{each_first, each_next, each_over, no-locals}
use Rattle.machines.proofs.added.put_all_locals.Goals as goal

pub loop-i-init : goal.loop-i-init
loop-i-init c = (refl, refl, omega arith, λ ns e. each_first _ (added_locals_t ns _ _ _ _ _ _) _ _ _ c.next_to-i.ensures.0 (λ p a b. no-locals ns _ _ _ _ _ _ p (c.next_to-i.ensures.1 p a b)))

pub overflow_add-i : goal.overflow_add-i
overflow_add-i c = omega (arith, c.loop-i-test.true, c.loop-i.invariant.2, c.ranges.n)

pub loop-i-smaller : goal.loop-i-smaller
loop-i-smaller c = omega (arith, left-most c.put_added_locals-v.result _ _ c.remaining-c.ensures, c.next_to-i-in-loop-i.ensures.0, c.loop-i-test.true)

pub loop-i-preserved : goal.loop-i-preserved
loop-i-preserved c = (c.put_added_locals-v.auto.out ∙ c.loop-i.invariant.0, c.put_added_locals-v.auto.made ∙ c.loop-i.invariant.1, omega (arith, c.loop-i.invariant.2, left-most c.put_added_locals-v.result _ _ c.remaining-c.ensures), λ ns e. each_next _ (added_locals_t ns _ _ _ _ _ _) _ _ _ _ _ _ _ _ _ c.loop-i-test.true (c.put_added_locals-v.ensures ns e) c.remaining-c.ensures c.next_to-i-in-loop-i.ensures.0 (λ p a b. no-locals ns _ _ _ _ _ _ p (c.next_to-i-in-loop-i.ensures.1 p a b)) (c.loop-i.invariant.3 ns e))

pub shape_of-out : goal.shape_of-out
shape_of-out c = c.loop-i.invariant.0

pub shape_of-made : goal.shape_of-made
shape_of-made c = c.loop-i.invariant.1

pub returns : goal.returns
returns c = λ ns e. each_over _ (added_locals_t ns _ _ _ _ _ _) _ _ _ _ c.loop-i-test.false (c.loop-i.invariant.3 ns e)

use Prim.Native.Nat.{◌-◌}
use native.Mathlib.Omega.{arith}
use mathlib.Core.Path.{refl, ◌∙◌}
use Rattle.machines.proofs.RowLaws.{left-most}
use Rattle.machines.proofs.AddedLaws.{each_over}
use Rattle.machines.proofs.EmitMachineLaws.{equations-first, equations-next, long_kept}
use Rattle.machines.proofs.emit_machine.put_all_equations.Goals as goal

pub loop-i-init : goal.loop-i-init
loop-i-init c = (refl, refl, refl, refl, refl, omega arith, λ ns e eqs h. equations-first _ _ eqs _ _ _ _ c.next_to-i.ensures.0 c.next_to-i.ensures.1)

pub overflow_add-i : goal.overflow_add-i
overflow_add-i c = omega (arith, c.loop-i-test.true, c.loop-i.invariant.5, c.ranges.n)

pub loop-i-smaller : goal.loop-i-smaller
loop-i-smaller c = omega (arith, left-most c.put_added_equations-v.result _ _ c.remaining-c.ensures, c.next_to-i-in-loop-i.ensures.0, c.loop-i-test.true)

pub loop-i-preserved : goal.loop-i-preserved
loop-i-preserved c = (c.put_added_equations-v.auto.layout ∙ c.loop-i.invariant.0, c.put_added_equations-v.auto.rows ∙ c.loop-i.invariant.1, c.put_added_equations-v.auto.qualified ∙ c.loop-i.invariant.2, c.put_added_equations-v.auto.out ∙ c.loop-i.invariant.3, c.put_added_equations-v.auto.made ∙ c.loop-i.invariant.4, omega (arith, c.loop-i.invariant.5, left-most c.put_added_equations-v.result _ _ c.remaining-c.ensures), λ ns e eqs h. equations-next ns _ _ _ _ _ _ _ _ _ _ (long_kept _ _ _ _ _ _ c.loop-i.invariant.0 c.loop-i.invariant.1 c.loop-i.invariant.2 c.requires) (omega (arith, c.loop-i-test.true, c.loop-i.invariant.5)) eqs _ _ _ _ _ _ _ _ _ _ h c.loop-i-test.true (c.put_added_equations-v.ensures ns e) c.remaining-c.ensures c.next_to-i-in-loop-i.ensures.0 c.next_to-i-in-loop-i.ensures.1 (c.loop-i.invariant.6 ns e eqs h))

pub shape_of-layout : goal.shape_of-layout
shape_of-layout c = c.loop-i.invariant.0

pub shape_of-rows : goal.shape_of-rows
shape_of-rows c = c.loop-i.invariant.1

pub shape_of-qualified : goal.shape_of-qualified
shape_of-qualified c = c.loop-i.invariant.2

pub shape_of-out : goal.shape_of-out
shape_of-out c = c.loop-i.invariant.3

pub shape_of-made : goal.shape_of-made
shape_of-made c = c.loop-i.invariant.4

pub returns : goal.returns
returns c = λ ns e eqs h. each_over _ _ _ _ _ _ c.loop-i-test.false (c.loop-i.invariant.6 ns e eqs h)

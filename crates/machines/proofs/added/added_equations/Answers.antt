use Prim.Native.Nat.{◌-◌}
use native.Mathlib.Omega.{arith}
use mathlib.Core.Path.{refl}
use Rattle.machines.specs.AddedAt.{adds_equations_t}
use Rattle.machines.proofs.AddedLaws.{brings-no-equations, total-done, total_first, total-next}
use Rattle.machines.proofs.added.added_equations.Goals as goal

pub loop-i-init : goal.loop-i-init
loop-i-init c = (omega arith, omega arith, λ ns e. total_first (adds_equations_t ns _ _ _ _ _) _ _ c.next_to-i.ensures.0 (λ p a b. brings-no-equations ns _ _ _ _ _ p _ _ _ refl refl refl (c.next_to-i.ensures.1 p a b)))

pub overflow_add-c : goal.overflow_add-c
overflow_add-c c = omega (arith, c.loop-i.invariant.0, c.adds_equations-c.ensures.0, c.loop-i-test.true, c.requires)

pub overflow_add-i : goal.overflow_add-i
overflow_add-i c = omega (arith, c.loop-i-test.true, c.requires)

pub loop-i-smaller : goal.loop-i-smaller
loop-i-smaller c = omega (arith, c.loop-i-test.true, c.next_to-i-in-loop-i.ensures.0)

pub loop-i-preserved : goal.loop-i-preserved
loop-i-preserved c = (omega (arith, c.loop-i.invariant.0, c.adds_equations-c.ensures.0, c.next_to-i-in-loop-i.ensures.0), omega (arith, c.loop-i.invariant.0, c.adds_equations-c.ensures.0, c.loop-i-test.true), λ ns e. total-next (adds_equations_t ns _ _ _ _ _) _ _ _ _ _ _ c.loop-i-test.true (c.adds_equations-c.ensures.1 ns e) c.next_to-i-in-loop-i.ensures.0 (λ p a b. brings-no-equations ns _ _ _ _ _ p _ _ _ refl refl refl (c.next_to-i-in-loop-i.ensures.1 p a b)) (c.loop-i.invariant.2 ns e))

pub returns : goal.returns
returns c = (c.loop-i.invariant.1, λ ns e. total-done (adds_equations_t ns _ _ _ _ _) _ _ _ _ c.loop-i-test.false (c.loop-i.invariant.2 ns e))

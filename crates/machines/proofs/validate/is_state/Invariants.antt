use Prim.Native.Nat.{◌-◌}
use mathlib.Core.Path.{◌≡◌}
use Rattle.machines.specs.ValidateAt.{is_state_t}
use Rattle.machines.proofs.validate.is_state.Given as goal

abbrev pub invariant-loop : goal.invariant-loop
invariant-loop l = is_state_t l.pack l.layout l.x (l.count - l.counter) l.p ≡ is_state_t l.pack l.layout l.x l.count l.from

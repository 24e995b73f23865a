use Prim.Native.Nat.{◌-◌}
use mathlib.Core.List.{List}
use mathlib.Core.Path.{◌≡◌}
use lib.ListN.{length}
use Rattle.wire.specs.Writer.{state_of}
use Rattle.pack_rules.specs.Names.{Name}
use Rattle.activations.specs.Places.{branch_end}
use Rattle.activations.specs.Passes.{pass_t}
use Rattle.activations.specs.FlagsAt.{branch_flags_t}
use Rattle.activations.proofs.flags.put_flags.Given as goal

abbrev pub invariant-loop-k : goal.invariant-loop-k
invariant-loop-k l = (ns : List Name) → length ns ≡ l.info.names → pass_t (branch_flags_t ns l.pack l.info.last l.old l.offsets l.a) (branch_end ns l.pack) (l.k-end - l.k) l.k l.p (state_of l.out l.made l.v) ≡ pass_t (branch_flags_t ns l.pack l.info.last l.old l.offsets l.a) (branch_end ns l.pack) l.k-end 0 l.initial.p (state_of l.initial.out l.initial.made l.initial.v)

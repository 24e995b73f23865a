use Prim.Native.Nat.{◌-◌}
use mathlib.Core.Path.{◌≡◌}
use Rattle.machines.specs.Tables.{names_placed}
use Rattle.machines.proofs.table.place_names.Given as goal

abbrev pub invariant-loop-k : goal.invariant-loop-k
invariant-loop-k l = names_placed l.pack (l.names - l.k) l.p l.k l.offsets ≡ names_placed l.pack l.names 2 0 l.initial.offsets

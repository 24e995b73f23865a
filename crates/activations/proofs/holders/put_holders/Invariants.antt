use Prim.Native.Nat.{◌-◌}
use mathlib.Core.List.{List}
use mathlib.Core.Path.{◌≡◌}
use lib.ListN.{length}
use Rattle.wire.specs.Writer.{state_of}
use Rattle.pack_rules.specs.Names.{Name}
use Rattle.pack.specs.Intern.{render}
use Rattle.machines.specs.AddedAt.{each_t}
use Rattle.activations.specs.HoldersAt.{row_items}
use Rattle.activations.proofs.holders.put_holders.Given as goal

abbrev pub invariant-loop-h : goal.invariant-loop-h
invariant-loop-h l = (ns : List Name) → length ns ≡ l.info.names → render l.old (each_t (row_items ns l.pack l.info l.offsets l.a l.types l.lasts) (l.count - l.h) l.h) (state_of l.out l.made l.u) ≡ render l.old (each_t (row_items ns l.pack l.info l.offsets l.a l.types l.lasts) l.count 0) (state_of l.initial.out l.initial.made l.initial.u)

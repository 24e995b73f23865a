use Prim.Native.Nat.{◌-◌}
use mathlib.Core.List.{List}
use mathlib.Core.Path.{◌≡◌}
use lib.ListN.{length}
use Rattle.pack_rules.specs.Names.{Name}
use Rattle.activations.specs.TypeHoldersAt.{hold_from}
use Rattle.activations.proofs.holders.type_holders.Given as goal

abbrev pub invariant-loop-h : goal.invariant-loop-h
invariant-loop-h l = (ns : List Name) → length ns ≡ l.info.names → hold_from ns l.old l.pack l.info l.offsets l.a l.outs (l.n - l.h) l.h l.types l.lasts ≡ hold_from ns l.old l.pack l.info l.offsets l.a l.outs l.n 0 l.initial.types l.initial.lasts

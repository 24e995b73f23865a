use Prim.Native.Nat.{◌-◌}
use mathlib.Core.List.{List}
use mathlib.Core.Path.{◌≡◌}
use lib.ListN.{length}
use Rattle.pack_rules.specs.Names.{Name}
use Rattle.machines.specs.VerdictAt.{outputs_j}
use Rattle.machines.specs.AssignsMemo.{AssignmentSound, AssignsSound}
use Rattle.machines.proofs.verdicts.judge_outputs.Given as goal

abbrev pub invariant-loop : goal.invariant-loop
invariant-loop l = ((ns : List Name) → length ns ≡ l.drawing.pack.names → outputs_j ns l.drawing.pack.bytes.now l.layout l.regions (l.count - l.counter) l.p ≡ outputs_j ns l.drawing.pack.bytes.now l.layout l.regions l.count l.from) × AssignsSound l.drawing.pack.bytes.now l.drawing.pack.names l.drawing.memo.now l.told × AssignmentSound l.drawing.pack.bytes.now l.drawing.pack.names l.layout l.given

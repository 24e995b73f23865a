use mathlib.Core.List.{List}
use mathlib.Core.Bool.{false, ◌||◌}
use mathlib.Core.Path.{◌≡◌}
use lib.ListN.{length}
use Rattle.pack_rules.specs.Names.{Name}
use Rattle.machines.specs.CoverAt.{gives_t, tells}
use Rattle.machines.specs.AssignsMemo.{HintOf}
use Rattle.machines.proofs.cover.assigns.Given as goal

abbrev pub invariant-loop-left : goal.invariant-loop-left
invariant-loop-left l = ((ns : List Name) → length ns ≡ l.drawing.pack.names → (tells (gives_t ns l.drawing.pack.bytes.now l.out) ◌||◌ l.left l.p false).yes ≡ (tells (gives_t ns l.drawing.pack.bytes.now l.out) ◌||◌ l.initial.left l.initial.p false).yes) × HintOf l.drawing.pack.bytes.now l.drawing.pack.names l.at l.left l.p

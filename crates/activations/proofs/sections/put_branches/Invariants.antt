use Prim.Native.Nat.{ℕ, ◌-◌}
use mathlib.Core.List.{List}
use mathlib.Core.Path.{◌≡◌}
use lib.ListN.{length}
use Rattle.wire.specs.Writer.{state_of}
use Rattle.pack_rules.specs.Names.{Name}
use Rattle.pack.specs.Intern.{render}
use Rattle.activations.specs.OriginsAt.{branches_t}
use Rattle.activations.proofs.sections.put_branches.Given as goal

abbrev pub invariant-loop : goal.invariant-loop
invariant-loop lv = (ns : List Name) → length ns ≡ lv.names → (old l : List ℕ) → render old (branches_t ns lv.pack (lv.count - lv.counter) lv.p) (state_of lv.out l lv.v) ≡ render old (branches_t ns lv.pack lv.count lv.from) (state_of lv.initial.out l lv.initial.v)

use Prim.Native.Nat.{ℕ, ◌-◌, ◌<◌}
use mathlib.Core.List.{List}
use mathlib.Core.Path.{◌≡◌}
use lib.ListN.{length}
use Rattle.pack_rules.specs.Names.{Name}
use Rattle.machines.specs.OwnersAt.{HasRegions, fill_t, machine_end, nth}
use Rattle.machines.proofs.verdicts.judge_all.Given as goal

abbrev pub invariant-loop-i : goal.invariant-loop-i
invariant-loop-i l = (ns : List Name) → length ns ≡ l.tables.drawing.pack.names → (l.p ≡ nth (machine_end ns l.tables.drawing.pack.bytes.now) l.from l.i) × (fill_t (nth (machine_end ns l.tables.drawing.pack.bytes.now) l.from) (l.count - l.i) l.i l.defs ≡ fill_t (nth (machine_end ns l.tables.drawing.pack.bytes.now) l.from) l.count 0 l.initial.defs) × ((gs : ℕ → ℕ) → ((k : ℕ) → k < l.count → HasRegions ns l.tables.drawing.pack.bytes.now l.tables.offsets.now l.tables.machines.now (nth (machine_end ns l.tables.drawing.pack.bytes.now) l.from k) (gs k)) → fill_t gs (l.count - l.i) l.i l.regcounts ≡ fill_t gs l.count 0 l.initial.regcounts)

use Prim.Native.Nat.{ℕ, ◌+◌, ◌-◌, ◌*◌, ◌≤◌}
use mathlib.Core.List.{List}
use mathlib.Core.Path.{◌≡◌}
use lib.ListN.{length}
use Rattle.wire.specs.Writer.{state_of}
use Rattle.pack_rules.specs.Names.{Name}
use Rattle.pack.specs.Intern.{render}
use Rattle.machines.specs.AddedAt.{each_t, own_origin_t}
use Rattle.machines.proofs.OriginsCounted.{Right}
use Rattle.machines.proofs.sections.put_origins.Given as goal

abbrev pub invariant-loop-i : goal.invariant-loop-i
invariant-loop-i lv = (lv.d.first ≤ 65536 + 1048576 * lv.i) × ((ns : List Name) → length ns ≡ lv.pack.names → Right ns lv.pack.bytes.now lv.defs lv.receivers lv.regcounts lv.count lv.from lv.d lv.i) × ((ns : List Name) → length ns ≡ lv.pack.names → (old l : List ℕ) → render old (each_t (own_origin_t ns lv.pack.bytes.now lv.defs lv.receivers lv.regcounts lv.count lv.from) (lv.n - lv.i) lv.i) (state_of lv.out l lv.v) ≡ render old (each_t (own_origin_t ns lv.pack.bytes.now lv.defs lv.receivers lv.regcounts lv.count lv.from) lv.n 0) (state_of lv.initial.out l lv.initial.v))

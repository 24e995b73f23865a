use Prim.Native.Nat.{◌-◌}
use Prim.Native.Nat.{ℕ}
use mathlib.Core.List.{List}
use mathlib.Core.Path.{◌≡◌}
use lib.ListN.{length}
use Rattle.wire.specs.Answer.{many}
use Rattle.pack_rules.specs.Names.{Name}
use Rattle.pack_rules.specs.Read.{equation_in}
use Rattle.machines.specs.ResolvedIn.{end_of}
use Rattle.machines.specs.MemoSound.{MemoSound}
use Rattle.machines.proofs.memo.memo_ends.Given as goal

abbrev pub invariant-loop : goal.invariant-loop
invariant-loop l = ((ns : List Name) → length ns ≡ l.pack.names → end_of (many (equation_in ns l.pack.bytes.now) (l.count - l.counter) l.p) ≡ end_of (many (equation_in ns l.pack.bytes.now) l.count l.from)) × ((offsets : List ℕ) → MemoSound l.pack.bytes.now l.pack.names offsets l.initial.memo → MemoSound l.pack.bytes.now l.pack.names offsets l.memo)

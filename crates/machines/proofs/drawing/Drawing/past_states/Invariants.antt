use Prim.Native.Nat.{◌-◌}
use mathlib.Core.List.{List}
use mathlib.Core.Path.{◌≡◌}
use lib.ListN.{length}
use Rattle.wire.specs.Answer.{many}
use Rattle.pack_rules.specs.Names.{Name}
use Rattle.pack_rules.specs.Read.{state_at}
use Rattle.machines.specs.ResolvedIn.{end_of}
use Rattle.machines.proofs.drawing.Drawing.past_states.Given as goal

abbrev pub invariant-loop : goal.invariant-loop
invariant-loop l = (ns : List Name) → length ns ≡ l.self.pack.names → end_of (many (state_at ns l.self.pack.bytes.now) (l.end - l.counter) l.p) ≡ end_of (many (state_at ns l.self.pack.bytes.now) l.end l.initial.p)

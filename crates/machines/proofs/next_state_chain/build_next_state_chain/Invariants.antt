use Prim.Native.Nat.{◌-◌}
use mathlib.Core.Path.{◌≡◌}
use mathlib.Core.List.{List}
use lib.ListN.{length}
use Rattle.wire.specs.Writer.{state_of}
use Rattle.pack.specs.Intern.{render}
use Rattle.pack_rules.specs.Names.{Name}
use Rattle.machines.specs.EmitAt.{chain_t}
use Rattle.machines.proofs.next_state_chain.build_next_state_chain.Given as goal

abbrev pub invariant-loop : goal.invariant-loop
invariant-loop l = (ns : List Name) → length ns ≡ l.pack.names → render l.old (chain_t l.pack.bytes.now l.offsets l.layout l.qualified ns l.q (l.n - (l.counter - 1)) l.p) (state_of l.out l.made l.v) ≡ render l.old (chain_t l.pack.bytes.now l.offsets l.layout l.qualified ns l.q l.n l.initial.p) (state_of l.initial.out l.initial.made l.initial.v)

use Prim.Native.Nat.{◌-◌}
use mathlib.Core.Path.{◌≡◌}
use Rattle.wire.specs.Writer.{state_of}
use Rattle.pack_rules.specs.Write.{expr_items}
use Rattle.pack.specs.Intern.{render}
use Rattle.activations.specs.ByNumber.{merged_from}
use Rattle.activations.proofs.merges.put_merged.Given as goal

abbrev pub invariant-loop-k : goal.invariant-loop-k
invariant-loop-k l = render l.old (expr_items (merged_from l.a l.o l.k (l.n - l.k))) (state_of l.out l.made l.v) ≡ render l.old (expr_items (merged_from l.a l.o 0 l.n)) (state_of l.initial.out l.initial.made l.initial.v)

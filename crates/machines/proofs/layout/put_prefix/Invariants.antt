use Rattle.machines.specs.LayoutAt.{values}
use lib.Seq.{sets}
use mathlib.Core.Path.{◌≡◌}
use Rattle.machines.proofs.layout.put_prefix.Given as goal

abbrev pub invariant-loop-k : goal.invariant-loop-k
invariant-loop-k l = l.qualified ≡ sets l.initial.qualified l.at (values l.initial.qualified l.a l.k)

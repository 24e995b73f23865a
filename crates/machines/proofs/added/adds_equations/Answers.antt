use native.Mathlib.Omega.{arith}
use mathlib.Core.Path.{refl}
use Rattle.machines.proofs.AddedLaws.{brings-equations, brings-no-equations}
use Rattle.machines.proofs.added.adds_equations.Goals as goal

pub returns-then-entry-k : goal.returns-then-entry-k
returns-then-entry-k c = (omega arith, λ ns e. brings-no-equations ns _ _ _ _ _ _ _ _ _ c.entry.ensures refl refl c.if-entry-k.true)

pub returns : goal.returns
returns c = (c.equation_count.ensures.0, λ ns e. brings-equations ns _ _ _ _ _ _ _ _ _ c.entry.ensures c.entry-2.ensures c.entry-3.ensures _ c.if-entry-k.false (c.equation_count.ensures.1 ns e))

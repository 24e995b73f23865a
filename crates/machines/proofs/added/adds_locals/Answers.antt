use native.Mathlib.Omega.{arith}
use mathlib.Core.Path.{refl}
use Rattle.machines.proofs.AddedLaws.{brings-locals, brings-no-locals}
use Rattle.machines.proofs.added.adds_locals.Goals as goal

pub returns-then-entry-k : goal.returns-then-entry-k
returns-then-entry-k c = (omega arith, λ ns e. brings-no-locals ns _ _ _ _ _ _ _ _ _ c.entry.ensures refl refl c.if-entry-k.true)

pub returns : goal.returns
returns c = (c.local_count.ensures.0, λ ns e. brings-locals ns _ _ _ _ _ _ _ _ _ c.entry.ensures c.entry-2.ensures c.entry-3.ensures _ c.if-entry-k.false (c.local_count.ensures.1 ns e))

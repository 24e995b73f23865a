use Rattle.machines.proofs.EmptyLaws.{SeenBefore}
use Rattle.machines.proofs.resolve.empty_run_from.Given as goal

abbrev pub invariant-loop-count : goal.invariant-loop-count
invariant-loop-count l = SeenBefore l.pack l.offsets l.from l.count l.longest l.p

use Rattle.std.proofs.Common.{◌≡◌, ◌-◌, ◌<◌, get_or}
use Rattle.pack.specs.Distinct.{free_from}
use Rattle.pack.proofs.distinct.free_from.Given as goal

abbrev pub invariant-loop : goal.invariant-loop
invariant-loop l = (l.i < 32768) × (free_from (256 - l.counter) l.pack l.t l.n l.key l.g l.h l.i (get_or l.t l.i 0) ≡ free_from 256 l.pack l.t l.n l.key l.g l.left l.start (get_or l.t l.start 0))

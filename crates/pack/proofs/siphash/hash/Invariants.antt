use Rattle.std.proofs.Common.{◌≡◌, ◌-◌, ◌*◌, ◌/◌, length}
use Rattle.pack.specs.Siphash.{hash, hash_from}
use Rattle.pack.proofs.siphash.hash.Given as goal

abbrev pub invariant-loop-k : goal.invariant-loop-k
invariant-loop-k l = hash_from ((length l.n - 1 - 8 * l.k) / 8) l.h l.n (8 * l.k) ≡ hash l.n

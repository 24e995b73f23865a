use Rattle.std.proofs.Common.{◌≡◌, ◌-◌}
use Rattle.pack.specs.RawNames.{Inside, one_of}
use Rattle.pack.proofs.names.seen.Given as goal

abbrev pub invariant-loop : goal.invariant-loop
invariant-loop l = record {
  same : one_of l.pack l.x (l.count - l.counter) l.p ≡ one_of l.pack l.x l.count l.at;
  inside : Inside l.pack (l.count - l.counter) l.p;
}

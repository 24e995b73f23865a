use Rattle.std.proofs.Common.{◌≡◌, ◌+◌, ◌-◌, ◌*◌, ◌≤◌, length}
use Rattle.wire.proofs.Preorders.{pending}
use Rattle.pack.specs.Heads.{type_more}
use Rattle.pack.proofs.types.skip_type.Given as goal

-- what is pending from here is what was pending at the start; each head takes a byte and adds at most one type
abbrev pub invariant-loop-n : goal.invariant-loop-n
invariant-loop-n l = record {
  same : pending (type_more l.names) l.pack l.n l.p ≡ pending (type_more l.names) l.pack 1 l.at;
  few : l.n ≤ 1 + 65536 * l.p;
}

abbrev pub decreases-loop-n : goal.decreases-loop-n
decreases-loop-n l = length l.pack - l.p

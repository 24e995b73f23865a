use Rattle.std.proofs.Common.{◌≡◌, ℕ, ◌<◌, ◌^◌, ◌-◌}
use Rattle.wire.specs.Code.{Skipped, rep}
use Rattle.wire.proofs.number.skip_list.Given as goal

abbrev pub invariant-loop : goal.invariant-loop
invariant-loop g l = record {
  fits : l.p < 2 ^ 64;
  left : (k : ℕ → Skipped) → ((p : ℕ) (r : Skipped) → p < 2 ^ 64 → goal.F-post g l.each p r → r ≡ k p) →
      rep k (l.end - l.counter) l.p ≡ rep k l.end l.initial.p;
}

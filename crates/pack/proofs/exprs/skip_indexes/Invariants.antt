use Rattle.std.proofs.Common.{◌≡◌, ◌-◌}
use Rattle.wire.specs.Answer.{index}
use Rattle.wire.specs.Code.{rep, skips}
use Rattle.pack.proofs.exprs.skip_indexes.Given as goal

-- what is left to skip from here is what was to be skipped at the start
abbrev pub invariant-loop : goal.invariant-loop
invariant-loop l = rep (skips (index l.names l.pack)) (l.count - l.counter) l.p ≡ rep (skips (index l.names l.pack)) l.count l.initial.p

use Rattle.std.proofs.Common.{◌≡◌, ◌-◌}
use Rattle.wire.specs.Code.{rep, skips}
use Rattle.pack_rules.specs.Read.{char}
use Rattle.pack.proofs.names.skip_chars.Given as goal

-- what is left to skip from here is what was to be skipped at the start
abbrev pub invariant-loop : goal.invariant-loop
invariant-loop l = rep (skips (char l.pack)) (l.count - l.counter) l.p ≡ rep (skips (char l.pack)) l.count l.initial.p

use Rattle.std.proofs.Common.{◌≡◌, ◌&&◌, drop}
use Rattle.pack_rules.specs.Read.{name_bytes}
use Rattle.pack.proofs.names.each_byte.Given as goal

abbrev pub invariant-loop-b : goal.invariant-loop-b
invariant-loop-b l = l.all && name_bytes (drop l.b-index l.n) ≡ name_bytes l.n

use Rattle.std.proofs.Common.{◌≡◌, length, drop}
use Rattle.pack_rules.specs.Names.{eq_name}
use Rattle.pack.proofs.intern.same.Given as goal

abbrev pub invariant-loop-i : goal.invariant-loop-i
invariant-loop-i l = (length l.a ≡ length l.b) × (eq_name (drop l.i l.a) (drop l.i l.b) ≡ eq_name l.a l.b)

use Rattle.std.proofs.Common.{◌≡◌, length}
use Rattle.pack.specs.Distinct.{Tells}
use Rattle.pack.proofs.NameLaws.{NamesRead}
use Rattle.pack.proofs.names.read_names.Given as goal

abbrev pub invariant-loop-n : goal.invariant-loop-n
invariant-loop-n l = record {
  read : NamesRead l.pack l.count l.q l.n l.p;
  tells : Tells l.pack l.q l.n l.key l.t;
}

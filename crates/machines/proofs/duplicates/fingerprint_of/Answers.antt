use Prim.Native.Nat.{◌%◌, ◌/◌}
use mathlib.Core.Path.{ap}
use Rattle.machines.specs.Fingerprints.{high_of, low_of}
use Rattle.machines.proofs.duplicates.fingerprint_of.Goals as goal

pub returns : goal.returns
unfolding high_of low_of
returns c = (ap (λ x. x % 4294967296) c.hash-h.ensures, ap (λ x. x / 4294967296 % 4294967296) c.hash-h.ensures)

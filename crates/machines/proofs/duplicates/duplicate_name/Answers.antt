use native.Mathlib.Omega.{arith}
use mathlib.Core.Path.{sym}
use lib.Seq.{length-take-le}
use Rattle.machines.proofs.DuplicateLaws.{again_cut}
use Rattle.machines.proofs.duplicates.duplicate_name.Goals as goal

pub slice_bounds-first_duplicate-end : goal.slice_bounds-first_duplicate-end
slice_bounds-first_duplicate-end c = sym (length-take-le _ _ (omega (arith, c.min-e.ensures)))

pub returns : goal.returns
returns c = again_cut _ _ _ _ c.min-e.ensures c.first_duplicate.ensures

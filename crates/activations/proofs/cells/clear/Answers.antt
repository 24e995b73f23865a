use mathlib.Core.Path.{ap, ◌∙◌}
use lib.ListN.{replicate, length-take}
use native.Mathlib.Omega.{arith}
use Rattle.activations.proofs.CellLaws.{cleared}
use Rattle.activations.proofs.cells.clear.Goals as goal

pub returns : goal.returns
returns c = cleared _ _ _ _ c.min-end.ensures (c.fill.ensures.after (λ y h. h) ∙ ap (λ k. replicate k 0) (simp length-take (omega arith)))

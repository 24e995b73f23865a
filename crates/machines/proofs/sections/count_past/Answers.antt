use native.Mathlib.Omega.{arith}
use Rattle.machines.proofs.OriginsCounted.{passed_is}
use Rattle.machines.proofs.sections.count_past.Goals as goal

pub returns : goal.returns
returns c = (omega (arith, c.adds_equations-b.ensures.0, c.requires.1), λ ns e. passed_is ns _ _ _ _ _ _ _ (c.adds_equations-b.ensures.1 ns e))

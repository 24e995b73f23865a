use native.Mathlib.Omega.{arith}
use Rattle.activations.proofs.OutcomeFits.{copy-fits}
use Rattle.activations.proofs.Unlowered.{copied-out, opened_out}
use Rattle.activations.proofs.call.lower_checked.Goals as goal

pub returns-then-number-eq0 : goal.returns-then-number-eq0
returns-then-number-eq0 c = record {
  answers = copied-out _ _ c.requires.1 _ _ _ _ _ (λ i. omega (arith, c.type_inv.pack i))
      _ c.number.ensures c.if-number-eq0.true c.copy_pack.ensures;
  fits = copy-fits _ _ _ _ _ _ c.copy_pack.ensures;
}

pub returns-else-number-eq0 : goal.returns-else-number-eq0
returns-else-number-eq0 c = record { answers = opened_out _ _ c.requires.1 _ _ _ _ _ _ c.lower_out_of_line.ensures.answers; fits = c.lower_out_of_line.ensures.fits }

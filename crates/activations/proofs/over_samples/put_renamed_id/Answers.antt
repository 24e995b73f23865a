use native.Mathlib.Omega.{arith}
use mathlib.Core.Path.{refl}
use Rattle.activations.specs.OverSamplesAt.{number_or}
use Rattle.activations.proofs.OverSampleLaws.{chosen-sample, chosen-stays}
use Rattle.activations.proofs.over_samples.put_renamed_id.Goals as goal

pub returns-in-None : goal.returns-in-None
unfolding number_or
returns-in-None c = chosen-stays _ _ _ _ _ _ _ _ _ _ _ _ _ c.in-None.ensures.value refl c.put_id.ensures

pub returns-in-Some : goal.returns-in-Some
unfolding number_or
returns-in-Some c = let s = c.in-Some.ensures.small in chosen-sample _ _ _ _ _ _ _ _ _ _ _ _ _ c.in-Some.ensures.value (λ e. omega (arith, s, e)) c.put_sample_of.ensures

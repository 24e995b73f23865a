use native.Mathlib.Omega.{arith}
use mathlib.Core.Path.{◌∙◌}
use Rattle.machines.proofs.OutcomeSmall.{fit, returned-as}
use Rattle.machines.proofs.call.lower_state_machines_word.Goals as goal

pub returned_word-requires : goal.returned_word-requires
returned_word-requires c = (fit _ _ _ _ _ _ _ (λ i. omega (arith, c.type_inv.pack i)) c.lower_state_machines.ensures).1

pub returns : goal.returns
returns c =
    let answers = c.lower_state_machines.ensures in
    record {
      word = c.returned_word.ensures ∙ returned-as _ _ _ _ _ _ _ (λ i. omega (arith, c.type_inv.pack i)) answers;
      output = answers.gives.output-is;
      report = answers.report-is;
    }

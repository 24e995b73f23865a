use mathlib.Core.Path.{◌∙◌}
use Rattle.activations.proofs.OutcomeFits.{returned-as}
use Rattle.activations.proofs.call.lower_activations_word.Goals as goal

pub returns : goal.returns
returns c =
    let answers = c.lower_activations.ensures.answers in
    record {
      word = c.returned_word.ensures ∙ returned-as _ _ _ _ _ _ _ answers;
      output = answers.gives.output-is;
      report = answers.report-is;
    }

use Rattle.charts.proofs.Lengths.{answer-on}
use Rattle.charts.proofs.try_call.Goals as goal

pub returns : goal.returns
returns g c = answer-on _ _ _ _ _ c.requires.inside c.part_at-word.ensures c.part_at-output.ensures c.part_at-report.ensures

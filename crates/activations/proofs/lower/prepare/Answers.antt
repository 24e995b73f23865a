use Rattle.activations.proofs.PreparedLaws.{begun-is}
use Rattle.activations.proofs.lower.prepare.Goals as goal

pub returns-clause-begun : goal.returns-clause-begun
returns-clause-begun c = λ ns e. begun-is ns _ _ _ _ _ _ _ _ _ _ _ _ _ _ _ c.copy.ensures (c.note_outputs.ensures ns e) (c.find_all_lasts-rows.ensures.rows ns e) (c.type_holders-verdict.ensures.held ns e)

use Rattle.activations.proofs.NameIdLaws.{sample-is}
use Rattle.activations.proofs.name_ids.put_sample_text.Goals as goal

pub returns : goal.returns
returns c = λ m. sample-is _ _ _ _ _ _ _ _ _ _ (c.put_sample_start-c.ensures m) (c.put_id_text.ensures m)

use Rattle.activations.proofs.ScopeLaws.{sample-written}
use Rattle.activations.proofs.scopes.put_sample_equation.Goals as goal

pub returns : goal.returns
returns c = sample-written _ _ _ _ _ _ _ _ _ _ _ _ _ _ (c.put_u16-c.ensures _) c.put_sample_of-d.ensures c.put_onto-e.ensures (c.put_byte-f.ensures _) c.put_id.ensures

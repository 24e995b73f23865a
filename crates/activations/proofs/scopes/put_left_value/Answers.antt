use Rattle.activations.proofs.ScopeLaws.{value_written}
use Rattle.activations.proofs.scopes.put_left_value.Goals as goal

pub returns : goal.returns
returns c = value_written _ _ _ _ _ _ _ _ _ _ _ _ _ (c.put_u16-c.ensures _) c.first_left-x.ensures c.pack_name-o.ensures c.put_value.ensures

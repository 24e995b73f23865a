use Rattle.activations.proofs.NameIdLaws.{id-held, id-old}
use Rattle.activations.proofs.name_ids.put_id.Goals as goal

pub returns-then-x-names : goal.returns-then-x-names
returns-then-x-names c = id-old _ _ _ _ _ _ _ _ c.if-x-names.true (c.put_u16.ensures _)

pub returns-else-x-names : goal.returns-else-x-names
returns-else-x-names c = id-held _ _ _ _ _ _ _ _ _ c.if-x-names.false c.pack_name.ensures c.put_last.ensures

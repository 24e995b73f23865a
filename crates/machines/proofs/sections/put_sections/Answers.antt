use Rattle.machines.proofs.PartsLaws.{sections-put}
use Rattle.machines.proofs.sections.put_sections.Goals as goal

pub returns : goal.returns
returns c = λ ns e eqs ens h g. sections-put ns _ _ _ _ _ _ _ eqs ens _ _ _ _ _ _ _ _ _ (c.start-w.ensures _ _) (c.put_enums_part-a.ensures ns e _ ens g) (c.put_nodes-b.ensures ns e eqs h) (c.put_u16-c.ensures _) c.between-h.ensures (c.put_bytes-d.ensures _) (c.put_origins_part.ensures ns e _ _ _)

use Rattle.machines.proofs.PartsLaws.{enums-part-put}
use Rattle.machines.proofs.sections.put_enums_part.Goals as goal

pub returns : goal.returns
returns c = λ ns e receivers ens h. enums-part-put ns _ _ receivers _ _ _ _ ens _ _ _ _ _ _ _ _ _ _ c.number-c.ensures c.small-o.ensures.1 c.sum_of-g.ensures.1 c.between-h.ensures (c.put_u16-a.ensures _) (c.put_bytes-b.ensures _) (c.put_all_enums.ensures ns e ens h)

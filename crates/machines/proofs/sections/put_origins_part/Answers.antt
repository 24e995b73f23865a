use Rattle.machines.proofs.PartsLaws.{origins-part-put}
use Rattle.machines.proofs.sections.put_origins_part.Goals as goal

pub put_origins-requires : goal.put_origins-requires
put_origins-requires c = c.requires

pub returns : goal.returns
returns c = λ ns e offsets old l. origins-part-put ns _ _ _ _ offsets _ old _ _ _ _ _ _ _ _ _ _ _ _ c.number-c.ensures c.small-o.ensures.1 c.number-d.ensures c.owned_count-g.ensures.1 c.between-h.ensures (c.put_u16-a.ensures l) (c.put_bytes-b.ensures l) (c.put_origins.ensures ns e old l)

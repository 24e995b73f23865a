use native.Mathlib.Omega.{arith}
use Rattle.machines.proofs.AddedItems.{locals-put}
use Rattle.machines.proofs.added.put_locals.Goals as goal

pub put_inner_locals-requires : goal.put_inner_locals-requires
put_inner_locals-requires c = omega (arith, c.inner_count-k.ensures.0)

pub returns : goal.returns
returns c = λ ns e. locals-put ns _ _ _ _ _ _ _ _ _ _ _ c.number-m.ensures c.pack_name-n.ensures (c.to_locals-a.ensures ns e) (c.after_ports-e.ensures ns e) c.number-l.ensures c.between-b.ensures c.inner_count-k.ensures.1 _ _ _ _ _ (c.put_bytes-x.ensures _) c.put_region_locals-y.ensures c.put_inner_locals.ensures

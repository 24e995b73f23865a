use Rattle.activations.proofs.HolderLaws.{holder-written}
use Rattle.activations.proofs.holders.put_holder.Goals as goal

pub returns : goal.returns
returns c = λ ns e. holder-written _ _ _ _ _ _ _ _ _ _ _ _ _ _ c.pack_name-n.ensures (c.put_u16-x.ensures _) c.put_last-y.ensures (c.put_byte-z.ensures _) (c.put_init-i.ensures ns e _) (c.put_bytes-p.ensures _) (c.put_u16.ensures _)

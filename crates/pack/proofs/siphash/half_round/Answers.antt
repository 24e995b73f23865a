use Rattle.pack.proofs.SiphashLaws.{half_is}
use Rattle.pack.proofs.siphash.half_round.Goals as goal

pub returns : goal.returns
returns c = half_is _ _ _ _ _ _ _ _ c.wrapping_add_u64-e.ensures.value c.wrapping_add_u64-f.ensures.value c.rotate_left.ensures c.rotate_left-2.ensures c.rotate_left-3.ensures

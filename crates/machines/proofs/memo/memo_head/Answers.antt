use Rattle.machines.proofs.PartEnds.{equations-end, transitions-end}
use Rattle.machines.proofs.StateEnds.{head-of}
use Rattle.machines.proofs.memo.memo_head.Goals as goal

pub invariant_of-drawing : goal.invariant_of-drawing
invariant_of-drawing c = record { sound = (c.memo_guards-regions.ensures.by_index _ (c.memo_ends-moves.ensures.by_index _ c.requires)).ends }

pub returns : goal.returns
returns c = record { value = λ ns n. head-of ns _ _ _ _ _ _ _ c.number-i.ensures (equations-end ns _ _ _ _ c.number-c.ensures (c.memo_ends-moves.ensures.value ns n)) (c.read_state_head-head.ensures ns n) (transitions-end ns _ _ _ _ c.number-g.ensures (c.memo_guards-regions.ensures.value ns n)); memo_sound = c.memo_guards-regions.ensures.by_index _ (c.memo_ends-moves.ensures.by_index _ c.requires) }

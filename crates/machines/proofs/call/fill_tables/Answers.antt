use mathlib.Core.List.{[]}
use Rattle.machines.proofs.CallLaws.{filled, refused_all}
use Rattle.machines.proofs.MemoSoundLaws.{blank-right}
use Rattle.machines.proofs.call.fill_tables.Goals as goal

pub fill_memo-requires : goal.fill_memo-requires
fill_memo-requires c = blank-right _ _ _ _ c.requires.2

pub returns : goal.returns
returns c = record { filled = λ ns e. filled ns _ _ _ _ _ _ c.number-c.ensures c.number-m.ensures c.small-old.ensures.1 c.small-n.ensures.1 _ _ _ _ _ _ _ _ _ _ _ _ _ _ c.place_names.ensures (c.place_machines.ensures ns e) (c.place_nodes.ensures ns e) (c.judge_all.ensures.defs_after ns e) (c.judge_all.ensures.regcounts_after ns e) c.assign_nodes.ensures; value = refused_all [] _ _ _ _ _ _ c.number-c.ensures c.number-m.ensures c.small-old.ensures.1 c.small-n.ensures.1 _ _ c.refused_count.ensures; memo_sound = c.fill_memo.ensures }

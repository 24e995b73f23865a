use Rattle.machines.proofs.EmitMachineLaws.{long_kept}
use Rattle.machines.proofs.OwnerLaws.{fill_done, fill_more, fill_start, nth-more, nth-start, regions-here}
use Rattle.machines.proofs.verdicts.judge_all.Goals as goal

pub loop-i-init : goal.loop-i-init
loop-i-init c = λ ns e. (nth-start _ _, fill_start _ _ _, λ gs h. fill_start _ _ _)

pub loop-i-preserved : goal.loop-i-preserved
loop-i-preserved c = λ ns e. (nth-more _ _ _ _ _ (c.loop-i.invariant ns e).0 (c.after_machine-p.ensures ns e), fill_more _ _ _ _ _ _ _ c.loop-i-test.true (c.loop-i.invariant ns e).0 c.put.ensures (c.loop-i.invariant ns e).1, λ gs h. fill_more _ _ _ _ _ _ _ c.loop-i-test.true (regions-here ns _ _ _ _ _ _ _ _ _ _ _ c.unwrap_or.ensures (c.loop-i.invariant ns e).0 (c.judge-j.ensures.value ns e) (h _ c.loop-i-test.true) (long_kept _ _ _ _ _ _ c.loop-i.auto.layout c.loop-i.auto.rows c.loop-i.auto.qualified c.requires)) c.put-in-loop-i.ensures ((c.loop-i.invariant ns e).2 gs h))

pub returns : goal.returns
returns c = record { defs_after = λ ns e. fill_done _ _ _ _ _ c.loop-i-test.false (c.loop-i.invariant ns e).1; regcounts_after = λ ns e gs h. fill_done _ _ _ _ _ c.loop-i-test.false ((c.loop-i.invariant ns e).2 gs h) }

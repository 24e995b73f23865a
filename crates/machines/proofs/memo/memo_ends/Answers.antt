use Rattle.machines.proofs.Remaining.{none_left, one_less, some_left}
use Rattle.pack_rules.specs.Read.{equation_in}
use Rattle.machines.proofs.ManyEnds.{many-done, many-stopped, many-went}
use Rattle.machines.proofs.PartEnds.{equation-past}
use Rattle.machines.proofs.memo.memo_ends.Goals as goal

pub returns-then-p-eq0 : goal.returns-then-p-eq0
returns-then-p-eq0 c = record { value = λ ns e. many-stopped (equation_in ns _) (equation-past ns _) _ _ _ _ (c.memo_end-p.ensures.value ns e) c.if-p-eq0.true (some_left c.loop-test.true) (c.loop.invariant.0 ns e); by_index = λ offsets h. c.memo_end-p.ensures.by_index offsets (c.loop.invariant.1 offsets h) }

pub loop-preserved : goal.loop-preserved
loop-preserved c = (λ ns e. rw one_less (many-went (equation_in ns _) _ _ _ _ (c.memo_end-p.ensures.value ns e) c.if-p-eq0.false (some_left c.loop-test.true) (c.loop.invariant.0 ns e)), λ offsets h. c.memo_end-p.ensures.by_index offsets (c.loop.invariant.1 offsets h))

pub returns : goal.returns
returns c = record { value = λ ns e. many-done _ _ _ _ (none_left c.loop-test.false) (c.loop.invariant.0 ns e); by_index = c.loop.invariant.1 }

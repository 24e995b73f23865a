use native.Mathlib.Omega.{arith}
use Rattle.machines.specs.AddedAt.{own_origin_t}
use Rattle.machines.proofs.Remaining.{all_left, one_more}
use Rattle.machines.proofs.RowLaws.{stays-full}
use Rattle.machines.proofs.AddedLaws.{each_more, each_over}
use Rattle.machines.proofs.OriginsCounted.{counted-right, given-put, passed-right, right-start}
use Rattle.machines.proofs.sections.put_origins.Goals as goal

pub loop-i-init : goal.loop-i-init
loop-i-init c = (omega (arith, c.old_equations-b.ensures.0), λ ns e. right-start ns _ _ _ _ _ _ _ (c.old_equations-b.ensures.1 ns e), λ ns e old l. rw all_left)

pub returns-then-v : goal.returns-then-v
returns-then-v c = λ ns e old l. stays-full _ _ _ _ _ _ c.if-v.true (c.loop-i.invariant.2 ns e old l)

pub loop-i-preserved : goal.loop-i-preserved
loop-i-preserved c = (c.count_past-d.ensures.0, λ ns e. passed-right ns _ _ _ _ _ _ _ _ _ (c.count_past-d.ensures.1 ns e) (counted-right ns _ _ _ _ _ _ _ _ _ (c.count_before-d.ensures.1 ns e) (c.loop-i.invariant.1 ns e)), λ ns e old l. each_more old (own_origin_t ns _ _ _ _ _ _) _ _ _ _ _ _ (one_more c.loop-i-test.true) (given-put ns _ _ _ _ _ _ _ _ _ old _ _ (c.count_before-d.ensures.1 ns e) (c.loop-i.invariant.1 ns e) (c.put_origin-v.ensures ns e old l)) (c.loop-i.invariant.2 ns e old l))

pub returns : goal.returns
returns c = λ ns e old l. each_over old (own_origin_t ns _ _ _ _ _ _) _ _ _ _ c.loop-i-test.false (c.loop-i.invariant.2 ns e old l)

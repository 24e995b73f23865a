use Rattle.std.proofs.Common.{arith, refl}
use Rattle.std.specs.Prelude.{Err}
use Rattle.wire.specs.Code.{next, onward, skips}
use Rattle.pack.specs.Verdict.{offset_of}
use Rattle.pack_rules.specs.Read.{expr_in}
use Rattle.machines.proofs.CheckedReadLaws.{end_is}
use Rattle.machines.proofs.MemoSoundLaws.{guard-put}
use Rattle.machines.proofs.PartEnds.{transition-end}
use Rattle.machines.proofs.memo.memo_guard.Goals as goal

pub memo_put-requires : goal.memo_put-requires
memo_put-requires c = (omega arith, omega arith)

pub returns-in-Ok : goal.returns-in-Ok
unfolding onward next skips
returns-in-Ok c = record {
  value = λ ns n. transition-end ns _ _ _ _ _ (c.in-Ok.ensures.by_names ns n) (c.skip_index.ensures ns n) c.reached-in-Ok.ensures;
  by_index = guard-put _ _ _ _ _ _ (λ ns n. end_is (expr_in ns _) _ _ _ (c.skip_expr-guard.ensures.by_names ns n) c.reached.ensures) c.memo_put.ensures;
}

pub returns-in-Err : goal.returns-in-Err
unfolding onward next skips offset_of
returns-in-Err c = record {
  value = λ ns n. transition-end ns _ _ _ (Err c.in-Err.field-0) (Err c.in-Err.field-0) (c.in-Err.ensures.by_names ns n) refl refl;
  by_index = guard-put _ _ _ _ _ _ (λ ns n. end_is (expr_in ns _) _ _ _ (c.skip_expr-guard.ensures.by_names ns n) c.reached.ensures) c.memo_put.ensures;
}

use Rattle.std.proofs.Common.{arith, rules, ◌∙◌}
use Rattle.std.proofs.lemmas.Result.{err_from_is_err_and}
use Rattle.wire.specs.Code.{next, skips}
use Rattle.wire.proofs.Codes.{handed-back, rep-done, rep-err, rep-ok, rep-start}
use Rattle.pack.proofs.PartLaws.{region-read, region-uncounted, state-at, state-uncounted}
use Rattle.pack.proofs.charts.+skip_region_skip_state.Goals as goal

pub skip_region-loop-init : goal.skip_region-loop-init
skip_region-loop-init t c ns e = rep-start _ _ _

pub skip_region-loop-preserved : goal.skip_region-loop-preserved
unfolding skips
skip_region-loop-preserved t c ns e = rep-ok _ _ _ _ _ _ (search rules) (c.in_ok-p.ensures ns e) (c.loop.invariant ns e)

pub skip_region-returns-in_err-p : goal.skip_region-returns-in_err-p
unfolding skips
skip_region-returns-in_err-p t c ns e =
    handed-back _ _ (err_from_is_err_and c.from_residual-in_err-p.result c.from_residual-in_err-p.ensures.1)
    ∙ region-read ns _ _ _ _ _ _ _ c.if-levels-eq0.false (c.in_ok-a.ensures ns e) c.in_ok-history.ensures c.in_ok-states.ensures (rep-err _ _ _ _ _ _ (search rules) (c.in_err-p.ensures ns e) (c.loop.invariant ns e))

pub skip_region-returns : goal.skip_region-returns
unfolding skips
skip_region-returns t c ns e =
    region-read ns _ _ _ _ _ _ _ c.if-levels-eq0.false (c.in_ok-a.ensures ns e) c.in_ok-history.ensures c.in_ok-states.ensures (rep-done _ _ _ _ _ (search rules) (c.loop.invariant ns e))

pub skip_state-loop-init : goal.skip_state-loop-init
skip_state-loop-init t c ns e = rep-start _ _ _

pub skip_state-loop-preserved : goal.skip_state-loop-preserved
unfolding skips
skip_state-loop-preserved t c ns e = rep-ok _ _ _ _ _ _ (search rules) (c.in_ok-p.ensures ns e) (c.loop.invariant ns e)

pub skip_state-returns-in_err-p : goal.skip_state-returns-in_err-p
unfolding skips next
skip_state-returns-in_err-p t c ns e =
    handed-back _ _ (err_from_is_err_and c.from_residual-in_err-p.result c.from_residual-in_err-p.ensures.1)
    ∙ state-at ns _ _ _ _ _ _ _ _ (c.in_ok-a.ensures ns e) (c.in_ok-b.ensures ns e) (c.in_ok-skip_transitions.ensures ns e) c.in_ok-regions.ensures (rep-err _ _ _ _ _ _ (search rules) (c.in_err-p.ensures ns e) (c.loop.invariant ns e))

pub skip_state-returns : goal.skip_state-returns
unfolding skips next
skip_state-returns t c ns e =
    c.skip_optional.ensures ns e
    ∙ state-at ns _ _ _ _ _ _ _ _ (c.in_ok-a.ensures ns e) (c.in_ok-b.ensures ns e) (c.in_ok-skip_transitions.ensures ns e) c.in_ok-regions.ensures (rep-done _ _ _ _ _ (search rules) (c.loop.invariant ns e))

pub skip_region-returns-in_err-states : goal.skip_region-returns-in_err-states
skip_region-returns-in_err-states t c ns e =
    handed-back _ _ (err_from_is_err_and c.from_residual-in_err-states.result c.from_residual-in_err-states.ensures.1)
    ∙ region-uncounted ns _ _ _ _ _ _ c.if-levels-eq0.false (c.in_ok-a.ensures ns e) c.in_ok-history.ensures c.in_err-states.ensures

pub skip_state-returns-in_err-regions : goal.skip_state-returns-in_err-regions
unfolding next
skip_state-returns-in_err-regions t c ns e =
    handed-back _ _ (err_from_is_err_and c.from_residual-in_err-regions.result c.from_residual-in_err-regions.ensures.1)
    ∙ state-uncounted ns _ _ _ _ _ _ _ (c.in_ok-a.ensures ns e) (c.in_ok-b.ensures ns e) (c.in_ok-skip_transitions.ensures ns e) c.in_err-regions.ensures

use Rattle.std.proofs.Common.{rules, arith, ap, ℕ}
use Rattle.std.proofs.lemmas.Result.{err_from_is_err_and}
use Rattle.wire.specs.Code.{rep}
use Rattle.wire.proofs.Codes.{listed-err, listed-ok, rep-done, rep-err, rep-ok}
use Rattle.wire.proofs.number.skip_list.Goals as goal

pub returns-in_err-count : goal.returns-in_err-count
returns-in_err-count g c k h = search (rules, listed-err)

pub loop-init : goal.loop-init
loop-init g c = record { fits = search rules; left = λ k h. ap (λ (n : ℕ). rep k n c.in_ok-count.count.next) (omega arith) }

pub returns-in_err-p : goal.returns-in_err-p
returns-in_err-p g c k h =
    let r = err_from_is_err_and c.from_residual-in_err-p.result c.from_residual-in_err-p.ensures.1 in
    let e = h c.loop.p _ c.loop.invariant.fits c.in_err-p.ensures in
    rw (r.1, r.2) (listed-ok _ k _ _ _ c.in_ok-count.ensures (rep-err k _ _ _ _ _ (search rules) e (c.loop.invariant.left k h)))

pub loop-preserved : goal.loop-preserved
loop-preserved g c = record {
  fits = search rules;
  left = λ k h. rep-ok k _ _ _ _ _ (search rules) (h c.loop.p _ c.loop.invariant.fits c.in_ok-p.ensures) (c.loop.invariant.left k h);
}

pub returns : goal.returns
returns g c k h = listed-ok _ k _ _ _ c.in_ok-count.ensures (rep-done k _ _ _ _ (search rules) (c.loop.invariant.left k h))

use Rattle.std.proofs.Common.{refl, ◌∙◌, arith}
use Rattle.std.proofs.lemmas.Result.{err_from_is_err_and}
use Rattle.wire.proofs.Codes.{handed-back, read_found}
use Rattle.wire.proofs.Preorders.{pending-done, pending-err, pending-ok}
use Rattle.pack.proofs.TypeLaws.{type-pending, type-small, type-skips, type_moves}
use Rattle.pack.proofs.types.skip_type.Goals as goal

pub loop-n-init : goal.loop-n-init
loop-n-init c = record { same = refl; few = omega arith }

pub returns-in_err-head : goal.returns-in_err-head
returns-in_err-head c =
    let r = handed-back _ _ (err_from_is_err_and c.from_residual.result c.from_residual.ensures.1) in
    let s = type-skips _ _ _ _ (r ∙ pending-err _ (type_moves _) _ _ _ _ _ c.loop-n-test.true c.in_err-head.ensures c.loop-n.invariant.same) in
    record { by_number = s.by_number; by_names = s.by_names }

pub overflow_add-n : goal.overflow_add-n
overflow_add-n c =
    let g = read_found _ _ c.in_ok-head.ensures in
    omega (arith, type-small _ _ _ _ _ g, (type_moves _).on _ _ _ _ g, (type_moves _).inside _ _ _ _ g, c.requires, c.loop-n.invariant.few)

pub loop-n-smaller : goal.loop-n-smaller
loop-n-smaller c =
    let g = read_found _ _ c.in_ok-head.ensures in
    omega (arith, (type_moves _).on _ _ _ _ g, (type_moves _).inside _ _ _ _ g)

pub loop-n-preserved : goal.loop-n-preserved
loop-n-preserved c =
    let g = read_found _ _ c.in_ok-head.ensures in record {
      same = pending-ok _ (type_moves _) _ _ _ _ _ c.loop-n-test.true c.in_ok-head.ensures c.loop-n.invariant.same;
      few = omega (arith, type-small _ _ _ _ _ g, (type_moves _).on _ _ _ _ g, c.loop-n.invariant.few);
    }

pub returns : goal.returns
returns c =
    let s = type-skips _ _ _ _ (pending-done _ (type_moves c.args.names) _ _ _ _ c.loop-n-test.false c.loop-n.invariant.same) in
    record { by_number = s.by_number; by_names = s.by_names }

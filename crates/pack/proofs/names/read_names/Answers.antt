use Rattle.std.proofs.Common.{sym, refl, ◌∙◌, arith, rules}
use Rattle.std.proofs.lemmas.Result.{err_from_is_err_and}
use Rattle.wire.proofs.Codes.{handed-back, skip_found}
use Rattle.pack.proofs.NameLaws.{name-value, names-stopped, reading-done, reading-more, reading-none, reading-repeated}
use Rattle.pack.proofs.names.read_names.Goals as goal

pub loop-n-init : goal.loop-n-init
loop-n-init c = record { read = reading-none _ _ _; tells = c.requires }

pub repeated-requires : goal.repeated-requires
repeated-requires c =
    let v = name-value _ _ _ _ (skip_found _ _ c.in_ok-next.ensures).1 in
    (record { inside = c.loop-n.invariant.read.inside; here = c.loop-n.invariant.read.here; ends = v.to; short = v.inside }, c.loop-n.invariant.tells)

pub returns-then-repeated : goal.returns-then-repeated
returns-then-repeated c = reading-repeated _ _ _ _ _ _ _ _ c.loop-n.invariant.read c.loop-n-test.true (skip_found _ _ c.in_ok-next.ensures).1 c.repeated.ensures.0 c.if-repeated.true

pub loop-n-preserved : goal.loop-n-preserved
loop-n-preserved c = record {
  read = reading-more _ _ _ _ _ _ _ _ c.loop-n.invariant.read c.loop-n-test.true (skip_found _ _ c.in_ok-next.ensures).1 c.repeated.ensures.0 c.if-repeated.false;
  tells = c.repeated.ensures.1;
}

pub returns-in_err-next : goal.returns-in_err-next
returns-in_err-next c =
    handed-back _ _ (err_from_is_err_and c.from_residual.result c.from_residual.ensures.1)
    ∙ names-stopped _ _ _ _ _ (omega (arith, c.loop-n-test.true)) c.in_err-next.ensures ∙ c.loop-n.invariant.read.same

pub returns : goal.returns
returns c = reading-done _ _ _ _ _ c.loop-n.invariant.read (search rules)

use mathlib.Core.Path.{sym, ◌∙◌}
use mathlib.Core.Path.{ap, ◌∙◌}
use Rattle.activations.specs.declared.checks.Refused.{Refused}
use Rattle.activations.specs.ActTable.{judged_t}
use Rattle.activations.specs.ChecksAt.{refused_t}
use Rattle.activations.specs.Verdicts.{locals_of, row_judged, row_refused}
use Rattle.activations.proofs.verdicts.judge_row.Goals as goal

pub returns-in-Ok-clause-judged : goal.returns-in-Ok-clause-judged
unfolding row_judged locals_of
returns-in-Ok-clause-judged c = λ e ns es A n B R T. record { refused = refused_t 0 c.args.info.names c.args.info.names; locals = c.in-Ok.locals; judged = c.in-Ok.ensures ns es _ A n B (record { end = R.end; read = R.read; parts = c.act_of-act.ensures.parts ns (sym B.names) }) T; put = c.put_judged.ensures ∙ ap (λ (r : Refused). judged_t c.args.acts.now c.args.i r c.in-Ok.locals) c.refusing.ensures }

pub returns-in-Err-clause-judged : goal.returns-in-Err-clause-judged
unfolding row_judged locals_of
returns-in-Err-clause-judged c = λ e ns es A n B R T. record { refused = row_refused c.args.info.names c.in-Err.r; locals = 0; judged = c.in-Err.ensures ns es _ A n B (record { end = R.end; read = R.read; parts = c.act_of-act.ensures.parts ns (sym B.names) }) T; put = c.put_judged-in-Err.ensures ∙ ap (λ (r : Refused). judged_t c.args.acts.now c.args.i r 0) c.refuse.ensures }

use Rattle.std.proofs.Common.{sym, ◌∙◌}
use Rattle.pack.proofs.NameLaws.{raw-part}
use Rattle.pack.proofs.DistinctLaws.{telling-long, tells_more, tells-new, tells-not}
use Rattle.pack.proofs.names.repeated.Goals as goal

pub returns-then-not-enabled : goal.returns-then-not-enabled
returns-then-not-enabled c = (c.seen.ensures, tells-not _ _ _ _ _ (sym c.enabled.ensures ∙ c.if-not-enabled.true))

pub enter-requires : goal.enter-requires
enter-requires c = (telling-long _ (sym c.enabled.ensures ∙ c.if-not-enabled.false)).0

pub returns-then-enter : goal.returns-then-enter
returns-then-enter c = (
  sym (tells-new c.args.pack.now _ _ _ _ _ c.args.t.now c.requires.0 c.requires.1 (sym c.enabled.ensures ∙ c.if-not-enabled.false) _ (raw-part _ _ _ c.requires.0.ends) _ c.probe-h.ensures _ c.free_slot-i.ensures (sym c.enter.ensures.1 ∙ c.if-enter.true)),
  tells_more c.args.pack.now _ _ _ _ _ c.args.t.now c.requires.0 c.requires.1 (sym c.enabled.ensures ∙ c.if-not-enabled.false) _ (raw-part _ _ _ c.requires.0.ends) _ c.probe-h.ensures _ c.free_slot-i.ensures _ c.enter.ensures.0,
)

pub returns : goal.returns
returns c = (c.seen-2.ensures, tells_more c.args.pack.now _ _ _ _ _ c.args.t.now c.requires.0 c.requires.1 (sym c.enabled.ensures ∙ c.if-not-enabled.false) _ (raw-part _ _ _ c.requires.0.ends) _ c.probe-h.ensures _ c.free_slot-i.ensures _ c.enter.ensures.0)

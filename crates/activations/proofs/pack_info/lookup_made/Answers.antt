use Rattle.activations.proofs.LookupLaws.{built-full, built-none, built-part}
use Rattle.activations.proofs.pack_info.lookup_made.Goals.{else-not-t-via-else-not-t, else-not-t-via-then-not-t+else-info}
use Rattle.activations.proofs.pack_info.lookup_made.Goals as goal

pub returns-then-info : goal.returns-then-info
returns-then-info c = built-part _ _ _ _ _ _ _ c.if-not-t.true c.if-info.true c.min.ensures c.lookup.ensures

pub returns-else-not-t : goal.returns-else-not-t
returns-else-not-t c = elim c.else-not-t.branch [ else-not-t-via-then-not-t+else-info w ↦ built-none _ _ _ _ _ w.if-not-t.true w.if-info.false | else-not-t-via-else-not-t w ↦ built-full _ _ _ _ _ w.if-not-t.false ]

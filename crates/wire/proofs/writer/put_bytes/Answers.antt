use mathlib.Core.Path.{◌∙◌}
use Rattle.wire.proofs.Writers.{bytes-copied, bytes-full, bytes-over}
use Rattle.wire.proofs.writer.put_bytes.Goals as goal

pub returns-then-w : goal.returns-then-w
returns-then-w c m = bytes-full _ _ _ _ c.if-w.true

pub returns-then-out-at : goal.returns-then-out-at
returns-then-out-at c m = c.stopped.ensures _ m ∙ bytes-over _ m _ _ _ c.if-w.false c.min-at.ensures c.if-out-at.true

pub returns : goal.returns
returns c m = bytes-copied _ _ m _ c.args.w _ _ c.if-w.false c.min-at.ensures c.if-out-at.false c.append-end.ensures.value c.append-end.ensures.dst_after

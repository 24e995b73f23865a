use Rattle.wire.proofs.Writers.{put_full, put-more, put-none}
use Rattle.wire.proofs.writer.put_byte.Goals as goal

pub returns-then-w : goal.returns-then-w
returns-then-w c m = put_full _ m _ _ c.if-w.true

pub returns-then-w-out : goal.returns-then-w-out
returns-then-w-out c m = put-more _ m _ _ c.if-w.false c.if-w-out.true

pub returns-else-w-out : goal.returns-else-w-out
returns-else-w-out c m = put-none _ m _ _ c.if-w.false c.if-w-out.false

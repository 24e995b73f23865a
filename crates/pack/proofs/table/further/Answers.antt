use Rattle.pack.proofs.TableLaws.{further-on, further-own}
use Rattle.pack.proofs.table.further.Goals as goal

pub returns-then-h-lt4 : goal.returns-then-h-lt4
returns-then-h-lt4 c = further-own _ _ _ _ _ c.if-h-lt4.true c.last-j.ensures c.byte_at.ensures.0

pub returns : goal.returns
returns c = further-on _ _ _ c.if-h-lt4.false

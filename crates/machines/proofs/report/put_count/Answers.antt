use Rattle.wire.specs.Bytes.{two}
use Rattle.machines.proofs.report.put_count.Goals as goal

pub returns : goal.returns
unfolding two
returns c = c.append.ensures.dst_after

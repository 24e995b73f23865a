use Rattle.wire.proofs.Writers.{turned-is}
use Rattle.wire.proofs.writer.turned.Goals as goal

pub returns : goal.returns
returns c o m = turned-is o m c.args.w

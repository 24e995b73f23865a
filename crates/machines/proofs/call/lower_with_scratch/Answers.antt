use Rattle.machines.proofs.CallScratch.{scratch-empty, scratch-ends, scratch-long}
use Rattle.machines.proofs.call.lower_with_scratch.Goals as goal

pub lower_filled-requires : goal.lower_filled-requires
lower_filled-requires c = (c.requires.0, scratch-long, scratch-empty, c.requires.1, scratch-ends)

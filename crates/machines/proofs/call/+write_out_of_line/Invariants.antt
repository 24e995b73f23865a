use lib.ListN.{length}
use Rattle.machines.proofs.call.+write_out_of_line.Given as goal

abbrev pub decreases-write_out_of_line : goal.decreases-write_out_of_line
decreases-write_out_of_line l = length l.pack.now

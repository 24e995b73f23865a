use lib.ListN.{length}
use Rattle.activations.proofs.call.+lower_out_of_line.Given as goal

abbrev pub decreases-lower_out_of_line : goal.decreases-lower_out_of_line
decreases-lower_out_of_line l = length l.pack.now

use Rattle.pack.proofs.names.+read_names_keyed.Given as goal

abbrev pub decreases-read_names_keyed : goal.decreases-read_names_keyed
decreases-read_names_keyed l = l.part

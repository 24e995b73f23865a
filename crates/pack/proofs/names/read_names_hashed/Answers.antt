use Rattle.pack.proofs.DistinctLaws.{tells_none}
use Rattle.pack.proofs.names.read_names_hashed.Goals as goal

pub read_names-requires : goal.read_names-requires
read_names-requires c = tells_none _ _ _ _

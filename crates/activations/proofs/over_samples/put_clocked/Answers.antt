use Rattle.activations.proofs.OverSampleLaws.{clock-chosen}
use Rattle.activations.proofs.over_samples.put_clocked.Goals as goal

pub returns : goal.returns
returns c = clock-chosen _ _ _ _ _ _ _ _ _ _ _ _ _ _ _ _ _ c.part-t.ensures (c.put_bytes-c.ensures _) c.put_renamed_id-d.ensures c.part-f.ensures (c.put_bytes.ensures _)

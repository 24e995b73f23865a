use Rattle.machines.proofs.MemoSoundLaws.{end_kept}
use Rattle.machines.proofs.drawing.Drawing.end_of.Goals as goal

pub returns-then-e-gt0 : goal.returns-then-e-gt0
returns-then-e-gt0 c = λ ns e. end_kept _ _ _ _ _ c.args.self.now.sound c.memo_at-e.ensures c.if-e-gt0.true ns e

use Rattle.machines.proofs.MemoSoundLaws.{guard-kept}
use Rattle.machines.proofs.drawing.Drawing.guard_end.Goals as goal

pub returns-then-e-gt0 : goal.returns-then-e-gt0
returns-then-e-gt0 c = λ ns e. guard-kept _ _ _ _ _ c.args.self.now.sound c.memo_at-e.ensures c.if-e-gt0.true ns e

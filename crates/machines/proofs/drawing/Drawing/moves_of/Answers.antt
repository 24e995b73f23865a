use Rattle.machines.proofs.MemoSoundLaws.{moves-kept, moves_read}
use Rattle.machines.proofs.drawing.Drawing.moves_of.Goals as goal

pub returns-then-r-gt0 : goal.returns-then-r-gt0
returns-then-r-gt0 c = moves-kept _ _ _ _ _ _ c.args.self.now.sound c.memo_regions-r.ensures c.if-r-gt0.true c.memo_moves.ensures

pub returns : goal.returns
returns c = λ ns e. moves_read ns _ _ _ _ c.number-i.ensures (c.after_equations.ensures ns e)

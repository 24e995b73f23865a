use Rattle.machines.proofs.MemoSoundLaws.{moves-kept, regions-kept, regions-read}
use Rattle.machines.proofs.drawing.Drawing.inside_of.Goals as goal

pub returns-then-r-gt0 : goal.returns-then-r-gt0
returns-then-r-gt0 c = λ ns e. (moves-kept _ _ _ _ _ _ c.args.self.now.sound c.memo_regions-r.ensures c.if-r-gt0.true c.memo_moves-moves.ensures ns e, regions-kept _ _ _ _ _ _ c.args.self.now.sound c.memo_regions-r.ensures c.if-r-gt0.true c.number-regions.ensures ns e)

pub returns : goal.returns
returns c = λ ns e. (c.moves_of-moves.ensures ns e, regions-read ns _ _ _ _ _ (c.moves_of-moves.ensures ns e) (c.after_transitions.ensures ns e) c.number-regions-2.ensures)

use Rattle.std.proofs.Common.{◌∙◌, arith}
use Rattle.pack.proofs.SiphashLaws.{hash-begun, hash-turn, hash-done}
use Rattle.pack.proofs.siphash.hash.Goals as goal

pub loop-k-init : goal.loop-k-init
loop-k-init c = hash-begun _ _ c.lanes_for-h.ensures

pub loop-k-preserved : goal.loop-k-preserved
loop-k-preserved c = hash-turn c.args.n.now _ _ _ _ _ _ (omega arith) (omega (arith, c.loop-k-test.true)) c.read_u32_padded.ensures.0 c.read_u32_padded-in-loop-k.ensures.0 c.mix-h.ensures ∙ c.loop-k.invariant

pub returns : goal.returns
returns c = hash-done c.args.n.now c.loop-k.h _ _ _ _ _ _ _ (omega (arith, c.loop-k-test.false)) c.last.ensures c.read_u32_padded-2.ensures.0 c.last-2.ensures c.read_u32_padded-3.ensures.0 c.mix.ensures c.join.ensures ∙ c.loop-k.invariant

use Rattle.machines.proofs.TableLaws.{len_is}
use Rattle.machines.proofs.QualifyLaws.{copied_more, copied_none, name-none, name-some}
use Prim.Native.Nat.{suc}
use native.Mathlib.Omega.{arith}
use Rattle.machines.proofs.layout.put_name.Goals as goal

pub returns-then-pack-p : goal.returns-then-pack-p
returns-then-pack-p c = name-none c.args.qualified.now c.args.pack.now c.args.offsets.now _ _ _ c.cell-p.ensures c.if-pack-p.true

pub loop-k-init : goal.loop-k-init
loop-k-init c = copied_none c.args.qualified.now _ _ _

pub overflow_add-at : goal.overflow_add-at
overflow_add-at c = omega (arith, c.requires, len_is c.args.pack.now c.args.offsets.now _ _ _ c.cell-p.ensures c.byte_at-n.ensures.0)

pub overflow_add-p-in-loop-k : goal.overflow_add-p-in-loop-k
overflow_add-p-in-loop-k c = omega (arith, c.type_inv.pack c.cell-p.result, c.byte_at-n.ensures.0)

pub loop-k-preserved : goal.loop-k-preserved
loop-k-preserved c = copied_more c.args.qualified.now c.loop-k.qualified _ c.args.pack.now _ (suc c.cell-p.result) c.loop-k.k _ _ c.loop-k.invariant (omega arith) c.letter.ensures c.set_byte.ensures

pub returns : goal.returns
returns c = name-some c.args.qualified.now c.loop-k.qualified c.args.pack.now c.args.offsets.now _ _ _ _ c.loop-k.k c.cell-p.ensures c.byte_at-n.ensures.0 c.loop-k.auto.k-end c.loop-k-test.false c.loop-k.invariant

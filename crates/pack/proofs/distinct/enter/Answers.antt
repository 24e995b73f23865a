use Rattle.std.proofs.Common.{◌+◌, ◌∙◌, arith, length-set}
use Rattle.pack.proofs.DistinctLaws.{entered-cell, entered-none, gets-few}
use Rattle.pack.proofs.distinct.enter.Goals as goal

pub overflow_add-t : goal.overflow_add-t
overflow_add-t c = omega (arith, (gets-few c.args.i c.args.p c.if-i-p.true).1)

pub overflow_cast-t : goal.overflow_cast-t
overflow_cast-t c = omega (arith, (gets-few c.args.i c.args.p c.if-i-p.true).1)

pub offset_bounds-t-i : goal.offset_bounds-t-i
offset_bounds-t-i c = omega (arith, (gets-few c.args.i c.args.p c.if-i-p.true).0)

pub bounds-t-i : goal.bounds-t-i
bounds-t-i c = omega (arith, (gets-few c.args.i c.args.p c.if-i-p.true).0, c.requires)

pub keep_tag-requires : goal.keep_tag-requires
keep_tag-requires c = (simp length-set c.requires, (gets-few c.args.i c.args.p c.if-i-p.true).0)

pub shape_of-t-then-i-p : goal.shape_of-t-then-i-p
shape_of-t-then-i-p c = c.keep_tag.auto.t ∙ length-set c.args.t.now c.args.i (c.args.p + 1)

pub returns-then-i-p : goal.returns-then-i-p
returns-then-i-p c = entered-cell _ _ _ _ _ _ c.keep_tag.ensures c.if-i-p.true

pub returns : goal.returns
returns c = entered-none _ _ _ _ _ c.if-i-p.false

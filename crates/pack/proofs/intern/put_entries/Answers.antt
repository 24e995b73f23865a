use Rattle.std.proofs.Common.{sym, refl, ap, ◌∙◌, arith, length-take}
use Rattle.pack.specs.Intern.{put_entries}
use Rattle.pack.proofs.Interns.{put-entries-turn, put-entries-done}
use Rattle.pack.proofs.intern.put_entries.Goals as goal

pub loop-at-init : goal.loop-at-init
loop-at-init c = (omega arith, refl, λ o. refl)

pub put_entry-v-requires : goal.put_entry-v-requires
put_entry-v-requires c = simp length-take (omega (arith, c.type_inv.src c.loop-at.at))

pub loop-at-preserved : goal.loop-at-preserved
loop-at-preserved c = (omega arith, c.put_entry-v.auto.made ∙ c.loop-at.invariant.1, λ o. ap (put_entries _) (c.put_entry-v.ensures o) ∙ put-entries-turn c.args.src.now _ _ _ c.loop-at-test.true c.name_end-e.ensures ∙ c.loop-at.invariant.2 o)

pub shape_of-made : goal.shape_of-made
shape_of-made c = c.loop-at.invariant.1

pub returns : goal.returns
returns c o = sym (put-entries-done c.args.src.now _ _ c.loop-at-test.false) ∙ c.loop-at.invariant.2 o

use native.Mathlib.Omega.{arith}
use Rattle.machines.proofs.CheckedReadLaws.{number_small}
use Rattle.activations.proofs.OriginLaws.{first-is, origin-is}
use Rattle.activations.proofs.sections.put_origin.Goals as goal

pub overflow_add-e : goal.overflow_add-e
overflow_add-e c = omega (arith, c.added_equations-b.ensures.0, number_small _ _ _ (λ i. omega (arith, c.type_inv.pack i)) c.number-e.ensures)

pub put_numbers-v-requires : goal.put_numbers-v-requires
put_numbers-v-requires c = (omega (arith, c.added_equations-b.ensures.0, number_small _ _ _ (λ i. omega (arith, c.type_inv.pack i)) c.number-e.ensures), omega (arith, c.equation_count-m.ensures.0))

pub returns : goal.returns
returns c = λ ns e. origin-is ns _ _ _ _ _ _ _ _ _ _ _ _ _ _ c.act_spot-at.ensures c.number-a.ensures c.number-o.ensures (first-is ns _ _ _ _ _ _ _ _ _ c.act_node-k.ensures.1 c.cell-n.ensures (c.to_node_equations-q.ensures ns e) c.number-e.ensures c.added_equations-b.ensures.1) c.equation_count-m.ensures.1 (c.act_of-t.ensures.parts ns e) (c.put_numbers-v.ensures c.args.old.now c.args.made.now) (c.put_scope_names.ensures ns e)

use mathlib.Core.Path.{sym}
use native.Mathlib.Omega.{arith}
use Rattle.machines.proofs.CheckedReadLaws.{number_small}
use Rattle.activations.proofs.NodesJudged.{read-types}
use Rattle.activations.proofs.NodesWritten.{tail_written}
use Rattle.activations.proofs.nodes.put_tail.Goals as goal

pub overflow_add-c : goal.overflow_add-c
overflow_add-c c = omega (arith, c.added_equations-more.ensures.0, number_small _ _ _ (λ i. omega (arith, c.type_inv.pack i)) c.number-c.ensures)

pub returns : goal.returns
returns c = λ ns es N As m B R D L M C. tail_written ns es _ _ _ _ B N As _ m _ R _ D _ L M C _ _ _ _ _ _ _ _ _ (c.to_node_equations-e.ensures ns (sym B.names)) (c.after_equations-z.ensures ns (sym B.names)) c.number-c.ensures c.added_equations-more.ensures.1 (c.put_u16-d.ensures _) c.between.ensures (c.put_bytes-f.ensures _) (c.put_added_equations.ensures ns es N As m B D L M (read-types ns es _ _ _ _ B m _ R _ _ c.requires.3.for_types (c.note_variables.ensures ns (sym B.names))))

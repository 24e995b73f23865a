use mathlib.Core.Path.{ap, sym, ◌∙◌}
use native.Mathlib.Omega.{arith}
use Rattle.wire.specs.Writer.{puts}
use Rattle.machines.proofs.CheckedReadLaws.{number_small}
use Rattle.activations.proofs.SectionsWritten.{sections-are}
use Rattle.activations.proofs.sections.put_sections.Goals as goal

pub overflow_add-o : goal.overflow_add-o
overflow_add-o c = omega (arith, c.requires.2, number_small _ _ _ (λ i. omega (arith, c.type_inv.pack i)) c.number-o.ensures)

pub returns : goal.returns
returns c = λ p h B S. sections-are _ _ _ _ p h _ B _ _ _ _ S _ _ _ _ _ _ _ _ _ _ _ _ _ c.number-o.ensures c.between.ensures (c.put_bytes-c.ensures _ ∙ ap (puts _) (c.start.ensures _ _)) (c.put_u16-d.ensures _) (c.put_nodes-e.ensures p.names p.enums p.nodes p.activations B S) c.between-2.ensures (c.put_bytes-f.ensures _) (c.put_u16-g.ensures _) (c.put_u16-h.ensures _) c.between-3.ensures (c.put_bytes-i.ensures _) (c.put_origins.ensures p.names (sym B.names))

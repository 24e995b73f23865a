use mathlib.Core.Path.{refl, sym, ◌∙◌}
use Rattle.activations.proofs.Prepared.{conditions-here}
use Rattle.activations.proofs.AddedPartsKnown.{row-equations}
use Rattle.activations.proofs.added.put_row_equations.Goals as goal

pub returns-then-g-k : goal.returns-then-g-k
returns-then-g-k c = record { past = λ d. (refl, refl); written = λ e. absurd (c.if-g-k.true (c.act_node-g.ensures.1 ∙ e)) }

pub returns : goal.returns
returns c = record { past = λ d. absurd (d (sym c.act_node-g.ensures.1 ∙ c.if-g-k.false)); written = λ e ns es A n B R T M. row-equations ns es _ _ _ _ B _ A _ (record { end = R.end; read = R.read; parts = c.act_of-act.ensures.parts ns (sym B.names) }) n _ _ _ _ _ T c.pack_name-a.ensures _ (c.prepare-rows.ensures.begun ns (sym B.names)) c.requires.2.for_numbers c.requires.2.for_outputs c.requires.2.for_rows (c.prepare-rows.auto.types ∙ c.requires.2.for_numbers) c.requires.2.for_types M _ _ _ _ (c.put_act_equations-v.ensures ns (sym B.names) _ (conditions-here ns es _ _ _ _ B _ A _ (record { end = R.end; read = R.read; parts = c.act_of-act.ensures.parts ns (sym B.names) }) n)) (c.count_and_type_locals.ensures ns (sym B.names)) }

use native.Mathlib.Omega.{arith}
use Rattle.activations.proofs.Prepared.{scratch-kept}
use Rattle.activations.proofs.Answered.{acts-low, answers-reported, answers-written, names-low}
use Rattle.activations.proofs.call.lower_filled.Goals as goal

pub judge_nodes-requires : goal.judge_nodes-requires
judge_nodes-requires c = (c.requires.0, names-low _ _ c.requires.1.held c.requires.1.stands (λ i. omega (arith, c.type_inv.pack i)) c.requires.0 _ _ _ _ _ c.requires.2.for_names c.requires.2.no_first c.keep_firsts.ensures c.place_names.ensures c.requires.4 c.base_of-b.ensures, (acts-low _ _ c.requires.1.held c.requires.1.stands (λ i. omega (arith, c.type_inv.pack i)) c.requires.0 _ _ _ _ _ c.requires.2.for_names c.requires.2.no_first c.keep_firsts.ensures c.place_names.ensures c.requires.4 c.base_of-b.ensures _ _ _ _ _ _ c.requires.2.for_nodes c.requires.2.for_acts c.place_nodes-m.ensures.count.1 c.place_acts-n.ensures.count.1 c.place_nodes-m.ensures.placed c.place_acts-n.ensures.placed), omega (arith, c.place_acts-n.auto.acts, c.requires.2.for_acts), c.requires.3)

pub answer_report-requires : goal.answer_report-requires
answer_report-requires c = (c.requires.0, acts-low _ _ c.requires.1.held c.requires.1.stands (λ i. omega (arith, c.type_inv.pack i)) c.requires.0 _ _ _ _ _ c.requires.2.for_names c.requires.2.no_first c.keep_firsts.ensures c.place_names.ensures c.requires.4 c.base_of-b.ensures _ _ _ _ _ _ c.requires.2.for_nodes c.requires.2.for_acts c.place_nodes-m.ensures.count.1 c.place_acts-n.ensures.count.1 c.place_nodes-m.ensures.placed c.place_acts-n.ensures.placed)

pub returns-then-refused-ne0 : goal.returns-then-refused-ne0
returns-then-refused-ne0 c = record { answers = λ p h. answers-reported _ _ p h (λ i. omega (arith, c.type_inv.pack i)) c.requires.0 _ _ _ _ _ c.requires.2.for_names c.requires.2.no_first c.keep_firsts.ensures c.place_names.ensures c.requires.4 c.base_of-b.ensures _ _ _ _ _ _ c.requires.2.for_nodes c.requires.2.for_acts c.place_nodes-m.ensures.count.1 c.place_acts-n.ensures.count.1 c.place_nodes-m.ensures.placed c.place_acts-n.ensures.placed _ c.judge_nodes.ensures _ c.refused_count-refused.ensures c.if-refused-ne0.true _ _ _ _ _ c.answer_report.ensures.by_index; fits = c.answer_report.ensures.number_bound }

pub write_all-requires : goal.write_all-requires
write_all-requires c = (c.requires.0, names-low _ _ c.requires.1.held c.requires.1.stands (λ i. omega (arith, c.type_inv.pack i)) c.requires.0 _ _ _ _ _ c.requires.2.for_names c.requires.2.no_first c.keep_firsts.ensures c.place_names.ensures c.requires.4 c.base_of-b.ensures, acts-low _ _ c.requires.1.held c.requires.1.stands (λ i. omega (arith, c.type_inv.pack i)) c.requires.0 _ _ _ _ _ c.requires.2.for_names c.requires.2.no_first c.keep_firsts.ensures c.place_names.ensures c.requires.4 c.base_of-b.ensures _ _ _ _ _ _ c.requires.2.for_nodes c.requires.2.for_acts c.place_nodes-m.ensures.count.1 c.place_acts-n.ensures.count.1 c.place_nodes-m.ensures.placed c.place_acts-n.ensures.placed, scratch-kept _ _ _ _ _ _ _ _ _ _ _ _ c.requires.3 c.judge_nodes.auto.later c.judge_nodes.auto.types c.judge_nodes.auto.outs c.judge_nodes.auto.lasts c.judge_nodes.auto.reads c.judge_nodes.auto.sampled)

pub returns : goal.returns
returns c = record { answers = λ p h. answers-written _ _ p h (λ i. omega (arith, c.type_inv.pack i)) c.requires.0 _ _ _ _ _ c.requires.2.for_names c.requires.2.no_first c.keep_firsts.ensures c.place_names.ensures c.requires.4 c.base_of-b.ensures _ _ _ _ _ _ c.requires.2.for_nodes c.requires.2.for_acts c.place_nodes-m.ensures.count.1 c.place_acts-n.ensures.count.1 c.place_nodes-m.ensures.placed c.place_acts-n.ensures.placed _ c.judge_nodes.ensures _ c.refused_count-refused.ensures c.if-refused-ne0.false _ _ _ _ _ c.write_all.ensures.answers; fits = c.write_all.ensures.fits }

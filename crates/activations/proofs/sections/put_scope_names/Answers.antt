use native.Mathlib.Omega.{arith}
use mathlib.Core.Path.{ap, ◌∙◌}
use Rattle.pack.specs.Intern.{render}
use Rattle.activations.specs.OriginsAt.{branches_t}
use Rattle.machines.proofs.CheckedReadLaws.{number_small}
use Rattle.activations.proofs.OriginLaws.{scopes-put}
use Rattle.activations.proofs.sections.put_scope_names.Goals as goal

pub overflow_add-f : goal.overflow_add-f
overflow_add-f c = omega (arith, number_small _ _ _ (λ i. omega (arith, c.type_inv.pack i)) c.first_branch-f.ensures)

pub returns : goal.returns
returns c = λ ns e. c.put_name.ensures ∙ scopes-put ns _ _ _ _ _ _ c.first_branch-f.ensures (c.put_branches-v.ensures ns e c.args.old.now c.args.made.now ∙ ap (render _ (branches_t ns _ _ _)) (c.put_u16-c.ensures c.args.made.now))

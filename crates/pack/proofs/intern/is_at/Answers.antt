use Rattle.std.proofs.Common.{ap, ◌∙◌}
use Rattle.pack_rules.specs.Names.{Name, eq_name}
use Rattle.pack.proofs.TableLaws.{text-part}
use Rattle.pack.proofs.intern.is_at.Goals as goal

pub returns : goal.returns
returns c = c.same.ensures ∙ ap (λ (y : Name). eq_name y c.args.n.now) (text-part c.args.pack.now c.args.p _ _ _ c.byte_at.ensures.0 c.min-b.ensures c.capped-e.ensures)

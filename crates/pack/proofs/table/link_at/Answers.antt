use borrow.Enum.Refused.{opened}
use Rattle.std.proofs.Common.{sym, ap, ◌∙◌, subst}
use Rattle.pack.specs.declared.table.Place.{Place}
use Rattle.pack.specs.Table.{Near, linked_at}
use Rattle.pack.proofs.TableLaws.{not_free}
use Rattle.pack.proofs.TableIndex.{linked-none}
use Rattle.pack.proofs.table.link_at.Goals as goal

pub returns-in_default : goal.returns-in_default
returns-in_default c = let f = not_free _ (opened c.in_default.in_default-own.keys2) in c.unindex.ensures ∙ linked-none _ _ _ f

pub link-requires : goal.link-requires
unfolding Near
link-requires c = subst Near c.in-Free.is c.requires

pub returns : goal.returns
unfolding linked_at
returns c = c.link.ensures ∙ ap (λ (y : Place). linked_at y c.args.p c.args.t.now) (sym c.in-Free.is)

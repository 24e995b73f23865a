use native.Mathlib.Omega.{arith}
use mathlib.Core.Path.{sym, ◌∙◌}
use Rattle.machines.proofs.OriginsCounted.{counted-anew, kept-alone, kept_same}
use Rattle.machines.proofs.sections.count_before.Goals as goal

pub returns-then-o-eq0 : goal.returns-then-o-eq0
returns-then-o-eq0 c = (c.requires.1, λ ns e. kept-alone ns _ _ _ _ _ _ _ _ (sym c.owned-o.ensures.1 ∙ c.if-o-eq0.true))

pub returns-then-d-k : goal.returns-then-d-k
returns-then-d-k c = (c.requires.1, λ ns e. kept_same ns _ _ _ _ _ _ _ _ _ (λ q. c.if-o-eq0.false (c.owned-o.ensures.1 ∙ q)) c.entry-k.ensures c.if-d-k.true)

pub returns : goal.returns
returns c = (omega (arith, c.added_equations-c.ensures.0, c.old_equations-b.ensures.0), λ ns e. counted-anew ns _ _ _ _ _ _ _ _ _ _ _ (λ q. c.if-o-eq0.false (c.owned-o.ensures.1 ∙ q)) c.entry-k.ensures c.if-d-k.false (c.old_equations-b.ensures.1 ns e) (c.added_equations-c.ensures.1 ns e))

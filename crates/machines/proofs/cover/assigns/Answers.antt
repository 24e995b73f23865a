use mathlib.Core.Path.{refl}
use Rattle.machines.specs.CoverAt.{gives_t}
use Rattle.machines.proofs.CoverLaws.{own_is, tells-done, tells-found, tells-went}
use Rattle.machines.proofs.AssignsMemoLaws.{rest_all, rest-less}
use Rattle.machines.proofs.cover.assigns.Goals as goal

pub loop-left-init : goal.loop-left-init
loop-left-init c = (λ ns e. refl, rest_all _ _ _ _ _ c.number-i.ensures c.number-t.ensures)

pub returns-then-e : goal.returns-then-e
returns-then-e c = record { found = λ ns e. own_is ns _ _ _ _ _ _ c.number-i.ensures c.number-t.ensures (tells-found (gives_t ns _ _) _ _ _ _ c.loop-left-test.true (c.assigns_only-e.ensures ns e) c.if-e.true (c.loop-left.invariant.0 ns e)); hint_of = rest-less _ _ _ _ _ _ _ c.loop-left.invariant.1 c.loop-left-test.true c.assigns_only-e.ensures }

pub loop-left-preserved : goal.loop-left-preserved
loop-left-preserved c = (λ ns e. tells-went (gives_t ns _ _) _ _ _ _ c.loop-left-test.true (c.assigns_only-e.ensures ns e) c.if-e.false (c.loop-left.invariant.0 ns e), rest-less _ _ _ _ _ _ _ c.loop-left.invariant.1 c.loop-left-test.true c.assigns_only-e.ensures)

pub returns : goal.returns
returns c = record { found = λ ns e. own_is ns _ _ _ _ _ _ c.number-i.ensures c.number-t.ensures (tells-done (gives_t ns _ _) _ _ _ c.loop-left-test.false (c.loop-left.invariant.0 ns e)); hint_of = tt }

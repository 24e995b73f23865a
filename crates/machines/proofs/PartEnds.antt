-- Where a state's equations and transitions end, by where each of them ends.
use Prim.Native.Nat.{ℕ, ◌<◌}
use native.Mathlib.Omega.{arith}
use mathlib.Core.List.{List}
use mathlib.Core.Path.{◌≡◌, ap, ◌∙◌}
use lib.ListN.{length}
use Rattle.wire.specs.Answer.{counted, many, value}
use Rattle.std.specs.Prelude.{Ok}
use Rattle.wire.specs.Code.{Skipped, next, onward, skips}
use Rattle.wire.proofs.Answers.{bind-value, fwd-map, map-value}
use Rattle.pack_rules.specs.Names.{Name}
use Rattle.pack_rules.specs.Syntax.{Equation, Transition}
use Rattle.pack_rules.specs.Read.{equation_in, equations_in, expr_in, name_in, names_in, transition_in}
use Rattle.pack.specs.Verdict.{offset_of}
use Rattle.pack.proofs.PartLaws.{transition-steps}
use Rattle.wire.specs.declared.answer.Number.{Number}
use Rattle.machines.specs.ResolvedIn.{end_of}
use Rattle.machines.specs.CheckedReads.{number_in}
use Rattle.machines.proofs.CheckedReadLaws.{end_is}
use Rattle.machines.proofs.PackCounts.{counted-takes, fwd-expr_in, fwd-name, name-takes}
use Rattle.machines.proofs.ManyEnds.{counted-ends}

module _ (ns : List Name) (s : List ℕ) where
  -- what reads ends past 0
  pub equation-past : (p : ℕ) (x : Equation) (q : ℕ) → equation_in ns s p ≡ value x q → 0 < q
  unfolding equation_in names_in
  equation-past p x q e =
      let b = bind-value (names_in ns s p) _ x q e in
      let i = counted-takes ns s (name_in ns s) (fwd-name ns s) p b.0 b.1 b.2 in
      let j = (fwd-map (length s) b.1 _ _ (fwd-expr_in ns s b.1) x q b.3).on in
      omega (arith, i, j)

  pub transition-past : (p : ℕ) (x : Transition) (q : ℕ) → transition_in ns s p ≡ value x q → 0 < q
  unfolding transition_in
  transition-past p x q e =
      let b = bind-value (expr_in ns s p) _ x q e in
      let m = map-value _ _ x q b.3 in
      let i = name-takes ns s b.1 m.0 q m.1 in
      omega (arith, i)

  -- all of them, after their count
  pub equations-end : (at m : ℕ) (c : Number) → c ≡ number_in s at → m ≡ end_of (many (equation_in ns s) c.value c.next) → m ≡ end_of (equations_in ns s at)
  unfolding equations_in
  equations-end at m c a b = b ∙ counted-ends (equation_in ns s) s at c a

  pub transitions-end : (at m : ℕ) (c : Number) → c ≡ number_in s at → m ≡ end_of (many (transition_in ns s) c.value c.next) → m ≡ end_of (counted (transition_in ns s) s at)
  transitions-end at m c a b = b ∙ counted-ends (transition_in ns s) s at c a

  -- a transition, past its guard
  pub transition-end : (at q : ℕ) (g r : Skipped) → g ≡ onward (expr_in ns s) (Ok at) → r ≡ onward (name_in ns s) g → q ≡ offset_of r → q ≡ end_of (transition_in ns s at)
  unfolding onward next skips
  transition-end at q g r a b d = end_is (transition_in ns s) at r q (b ∙ ap (onward (name_in ns s)) a ∙ transition-steps ns s (Ok at)) d

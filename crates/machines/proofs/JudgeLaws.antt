-- Laws for the code that judges a machine, step by step.
use Prim.Native.Nat.{ℕ, zero, suc, ◌+◌, ◌-◌, ◌<◌, ◌≤◌}
use native.Mathlib.Omega.{arith}
use mathlib.Core.List.{List}
use mathlib.Core.Bool.{false, cond}
use mathlib.Core.Path.{◌≡◌, refl, sym, ap, ◌∙◌}
use lib.ListN.{get_or, length, take}
use borrow.Author.Tests.{eq-eqb, le-leb, le-ltb, lt-leb, lt-ltb, ne_eqb}
use Rattle.std.specs.Prelude.{Ok, Err, Option, Some, None}
use Rattle.pack_rules.specs.Names.{Name}
use Rattle.pack_rules.specs.Read.{port_in}
use Rattle.machines.specs.declared.verdicts.NameRef.{NameRef}
use Rattle.machines.specs.declared.verdicts.Refusal.TheVariants as no
use Rattle.wire.specs.declared.answer.Number.{Number}
use Rattle.machines.specs.declared.validate.Checked.{Checked}
use Rattle.machines.specs.declared.validate.Checked.TheVariants as ck
use Rattle.machines.specs.declared.resolve.Resolved.{Resolved}
use Rattle.machines.specs.declared.resolve.Resolved.TheVariants as wk
use Rattle.machines.specs.ResolvedIn.{end_of}
use Rattle.machines.specs.CheckedReads.{number_in}
use Rattle.machines.specs.Duplicates.{duplicate_at}
use Rattle.machines.specs.ValidateAt.{checked_region}
use Rattle.machines.specs.CoverAt.{uncovered_t}
use Rattle.machines.specs.VerdictAt.{Judged, again_called, board_at, called_at, checked_j, judge_at, laid_at, laid_j, lay_at, no_name, outputs_at, outputs_j, state_called, unless_again, unless_missed, walk_at, walked_b, walked_j}
use Rattle.machines.specs.LayoutAt.{Board, board, layout_machine, layout_t}
use Rattle.machines.specs.declared.layout.LayoutPos.{LayoutPos}
use Rattle.machines.specs.Tables.{initial_in, outputs_in}
use Rattle.machines.specs.ResolveAt.{machine_w}
use Rattle.machines.proofs.CheckedReadLaws.{on}

-- names of refusals
pub state-called : (t : List ℕ) (p a n : ℕ) → a ≡ get_or t (p + 2) 0 → n ≡ get_or t (p + 3) 0 → ◌≡◌ {A = NameRef} (record { letter = a; letters = n; name = 65535 }) (state_called t p)
state-called t p a n e f = λ i. record { letter = e i; letters = f i; name = 65535 }

pub called-in : (t : List ℕ) (q x a n : ℕ) → a ≡ get_or t (q + 2) 0 → n ≡ get_or t (q + 3) 0 → ◌≡◌ {A = NameRef} (record { letter = a; letters = n; name = x }) (called_at t q x)
called-in t q x a n e f = λ i. record { letter = e i; letters = f i; name = x }

pub again-far : (qualified : List ℕ) (d : ℕ) (c : NameRef) → 4294967296 ≤ d → c ≡ no_name → c ≡ again_called qualified d
unfolding again_called
again-far qualified d c h e = e ∙ ap (λ b. cond b no_name (record { letter = d + 1; letters = get_or qualified d 0; name = 65535 })) (sym (le-leb 4294967296 d h))

pub again-near : (qualified : List ℕ) (d n : ℕ) → d < 4294967296 → n ≡ get_or qualified d 0 → ◌≡◌ {A = NameRef} (record { letter = d + 1; letters = n; name = 65535 }) (again_called qualified d)
unfolding again_called
again-near qualified d n h e =
    (λ i. record { letter = d + 1; letters = e i; name = 65535 })
    ∙ ap (λ b. cond b no_name (record { letter = d + 1; letters = get_or qualified d 0; name = 65535 })) (sym (lt-leb 4294967296 d h))

module _ (ns : List Name) (s t : List ℕ) where
  pub outputs-went : (regions n p q : ℕ) (x : Number) (m : Option ℕ) (z : Judged) → 0 < n → x ≡ number_in s p → m ≡ uncovered_t ns s t x.value 8 0 → m ≡ None → q ≡ end_of (port_in ns s p) → outputs_j ns s t regions n p ≡ z → outputs_j ns s t regions (n - 1) q ≡ z
  unfolding outputs_j unless_missed
  outputs-went regions zero p q x m z l a b c d e = absurd (omega arith)
  outputs-went regions (suc n) p q x m z l a b c d e =
      let k : suc n - 1 ≡ n = omega arith in
      let o : uncovered_t ns s t (number_in s p).value 8 0 ≡ None = ap (λ (y : Number). uncovered_t ns s t y.value 8 0) (sym a) ∙ sym b ∙ c in
      (λ i. outputs_j ns s t regions (k i) (d i))
      ∙ sym (ap (λ y. unless_missed t (number_in s p).value y (outputs_j ns s t regions n (end_of (port_in ns s p)))) o)
      ∙ e

  pub outputs-stop : (regions n p q : ℕ) (x : Number) (m : Option ℕ) (b : NameRef) (z : Judged) → 0 < n → x ≡ number_in s p → m ≡ uncovered_t ns s t x.value 8 0 → m ≡ Some q → b ≡ state_called t q → outputs_j ns s t regions n p ≡ z → Err (no.OutputUnassigned x.value b) ≡ z
  unfolding outputs_j unless_missed
  outputs-stop regions zero p q x m b z l c d e g k = absurd (omega arith)
  outputs-stop regions (suc n) p q x m b z l c d e g k =
      let o : uncovered_t ns s t (number_in s p).value 8 0 ≡ Some q = ap (λ (y : Number). uncovered_t ns s t y.value 8 0) (sym c) ∙ sym d ∙ e in
      (λ i. Err (no.OutputUnassigned (c i).value (g i)))
      ∙ sym (ap (λ y. unless_missed t (number_in s p).value y (outputs_j ns s t regions n (end_of (port_in ns s p)))) o)
      ∙ k

  pub outputs-done : (regions n p : ℕ) (z : Judged) → n ≤ 0 → outputs_j ns s t regions n p ≡ z → Ok regions ≡ z
  unfolding outputs_j
  outputs-done regions zero p z l e = e
  outputs-done regions (suc n) p z l e = absurd (omega arith)

  pub checked-fine : (c : Checked) (at regions : ℕ) (k : Number) (r : Judged) → c ≡ ck.Fine → k ≡ number_in s at → r ≡ outputs_j ns s t regions k.value k.next → r ≡ checked_j ns s t c at regions
  unfolding checked_j outputs_at
  checked-fine c at regions k r e f g = on k _ (λ n p. outputs_j ns s t regions n p) r f g ∙ ap (λ y. checked_j ns s t y at regions) (sym e)

  pub checked-initial : (c : Checked) (at regions q x : ℕ) (a : NameRef) → c ≡ ck.Initial q → x ≡ get_or t q 0 → a ≡ called_at t q x → Err (no.UnknownInitialState a) ≡ checked_j ns s t c at regions
  unfolding checked_j
  checked-initial c at regions q x a e f g = (λ i. Err (no.UnknownInitialState ((g ∙ ap (called_at t q) f) i))) ∙ ap (λ y. checked_j ns s t y at regions) (sym e)

  pub checked-target : (c : Checked) (at regions p q x : ℕ) (a b : NameRef) → c ≡ ck.Target p q x → a ≡ state_called t p → b ≡ called_at t q x → Err (no.UnknownTarget a b) ≡ checked_j ns s t c at regions
  unfolding checked_j
  checked-target c at regions p q x a b e g h = (λ i. Err (no.UnknownTarget (g i) (h i))) ∙ ap (λ y. checked_j ns s t y at regions) (sym e)

  module _ (qualified : List ℕ) (letters regions outputs : ℕ) where
    abbrev rest : Judged
    rest = checked_j ns s t (checked_region ns s t 8 0) outputs regions

    abbrev again : Judged
    again = unless_again qualified letters (duplicate_at (take letters qualified)) rest

    pub laid-empty : (e : ℕ) → e ≡ get_or t 6 0 → e ≡ 0 → Err no.NoStates ≡ laid_j ns s t qualified letters regions outputs
    unfolding laid_j
    laid-empty e f g = sym (ap (λ y. cond y (Err no.NoStates) again) (eq-eqb (get_or t 6 0) 0 (sym f ∙ g)))

    pub laid-again : (e d : ℕ) (o : Option ℕ) (a : NameRef) → e ≡ get_or t 6 0 → (e ≡ 0 → ⊥) → o ≡ duplicate_at (take letters qualified) → o ≡ Some d → a ≡ again_called qualified d → Err (no.DuplicateState a) ≡ laid_j ns s t qualified letters regions outputs
    unfolding laid_j unless_again
    laid-again e d o a f g h k m =
        (λ i. Err (no.DuplicateState (m i)))
        ∙ ap (λ y. unless_again qualified letters y rest) (sym k ∙ h) ∙ sym (ap (λ y. cond y (Err no.NoStates) again) (ne_eqb (get_or t 6 0) 0 (λ z. g (f ∙ z))))

    pub laid-short : (e : ℕ) (o : Option ℕ) (a : NameRef) → e ≡ get_or t 6 0 → (e ≡ 0 → ⊥) → o ≡ duplicate_at (take letters qualified) → o ≡ None → length qualified < letters → a ≡ again_called qualified (length qualified) → Err (no.DuplicateState a) ≡ laid_j ns s t qualified letters regions outputs
    unfolding laid_j unless_again
    laid-short e o a f g h k l m =
        (λ i. Err (no.DuplicateState (m i)))
        ∙ sym (ap (λ y. cond y (Err (no.DuplicateState (again_called qualified (length qualified)))) rest) (lt-ltb (length qualified) letters l))
        ∙ ap (λ y. unless_again qualified letters y rest) (sym k ∙ h) ∙ sym (ap (λ y. cond y (Err no.NoStates) again) (ne_eqb (get_or t 6 0) 0 (λ z. g (f ∙ z))))

    pub laid-rest : (e : ℕ) (o : Option ℕ) (c : Checked) (r : Judged) → e ≡ get_or t 6 0 → (e ≡ 0 → ⊥) → o ≡ duplicate_at (take letters qualified) → o ≡ None → letters ≤ length qualified → c ≡ checked_region ns s t 8 0 → r ≡ checked_j ns s t c outputs regions → r ≡ laid_j ns s t qualified letters regions outputs
    unfolding laid_j unless_again
    laid-rest e o c r f g h k l m n =
        n ∙ ap (λ y. checked_j ns s t y outputs regions) m
        ∙ sym (ap (λ y. cond y (Err (no.DuplicateState (again_called qualified (length qualified)))) rest) (le-ltb (length qualified) letters l))
        ∙ ap (λ y. unless_again qualified letters y rest) (sym k ∙ h) ∙ sym (ap (λ y. cond y (Err no.NoStates) again) (ne_eqb (get_or t 6 0) 0 (λ z. g (f ∙ z))))

-- resolving, and then the machine as it is laid out
module _ (ns : List Name) (s offsets to : List ℕ) where
  walked_at : (at i : ℕ) (m : Number) (w : Resolved) → m ≡ number_in s at → i ≡ initial_in ns s m.next → w ≡ machine_w ns s offsets to m.value i → w ≡ walk_at ns s offsets to at
  unfolding walk_at
  walked_at at i m w a b c = on m _ _ w a (c ∙ ap (machine_w ns s offsets to m.value) b)

  module _ (at i : ℕ) (m : Number) (w : Resolved) (t reg qualified : List ℕ) (a : m ≡ number_in s at) (b : i ≡ initial_in ns s m.next) (c : w ≡ machine_w ns s offsets to m.value i) where
    judged-by : (v : Resolved) (r : Judged) → w ≡ v → r ≡ walked_j ns s offsets to v (laid_at ns s offsets to at (lay_at ns s offsets to at t reg qualified)) → r ≡ judge_at ns s offsets to at t reg qualified
    unfolding judge_at
    judged-by v r e f = f ∙ ap (λ y. walked_j ns s offsets to y (laid_at ns s offsets to at (lay_at ns s offsets to at t reg qualified))) (sym e ∙ walked_at at i m w a b c)

    pub judged-cycle : (n : ℕ) → w ≡ wk.Cycle n → Err (no.RefineCycle n) ≡ judge_at ns s offsets to at t reg qualified
    unfolding walked_j
    judged-cycle n e = judged-by (wk.Cycle n) _ e refl

    pub judged-unknown : (p n : ℕ) → w ≡ wk.Unknown p n → Err (no.UnknownRefine p n) ≡ judge_at ns s offsets to at t reg qualified
    unfolding walked_j
    judged-unknown p n e = judged-by (wk.Unknown p n) _ e refl

    pub judged-large : w ≡ wk.Large → Err no.TooLarge ≡ judge_at ns s offsets to at t reg qualified
    unfolding walked_j
    judged-large e = judged-by wk.Large _ e refl

    laid_from : layout_machine ns s offsets to i t reg qualified ≡ lay_at ns s offsets to at t reg qualified
    unfolding lay_at
    laid_from = ap (λ y. layout_machine ns s offsets to y t reg qualified) (b ∙ ap (λ (y : Number). initial_in ns s y.next) a)

    pub judged-laid : (q k l o : ℕ) (t' reg' qualified' : List ℕ) (y : LayoutPos) (r : Judged) → w ≡ wk.Went q k l → board t' reg' qualified' y ≡ layout_machine ns s offsets to i t reg qualified → o ≡ outputs_in ns s m.next → r ≡ laid_j ns s t' qualified' y.letters y.regions o → r ≡ judge_at ns s offsets to at t reg qualified
    unfolding walked_j laid_at
    judged-laid q k l o t' reg' qualified' y r e f g h =
        judged-by (wk.Went q k l) r e
        (h ∙ ap (λ z. laid_j ns s t' qualified' y.letters y.regions z) (g ∙ ap (λ (z : Number). outputs_in ns s z.next) a)
        ∙ ap (λ (z : Board). laid_j ns s z.t z.qualified z.c.letters z.c.regions (outputs_in ns s (number_in s at).next)) (f ∙ laid_from))

    -- the letters after
    letters-by : (v : Resolved) (x : List ℕ) → w ≡ v → x ≡ (walked_b ns s offsets to v (lay_at ns s offsets to at t reg qualified) (board t reg qualified (layout_t 0 0 0 0 false))).qualified → x ≡ (board_at ns s offsets to at t reg qualified).qualified
    unfolding board_at
    letters-by v x e f = f ∙ ap (λ y. (walked_b ns s offsets to y (lay_at ns s offsets to at t reg qualified) (board t reg qualified (layout_t 0 0 0 0 false))).qualified) (sym e ∙ walked_at at i m w a b c)

    pub letters-cycle : (n : ℕ) → w ≡ wk.Cycle n → qualified ≡ (board_at ns s offsets to at t reg qualified).qualified
    unfolding walked_b
    letters-cycle n e = letters-by (wk.Cycle n) qualified e refl

    pub letters-unknown : (p n : ℕ) → w ≡ wk.Unknown p n → qualified ≡ (board_at ns s offsets to at t reg qualified).qualified
    unfolding walked_b
    letters-unknown p n e = letters-by (wk.Unknown p n) qualified e refl

    pub letters-large : w ≡ wk.Large → qualified ≡ (board_at ns s offsets to at t reg qualified).qualified
    unfolding walked_b
    letters-large e = letters-by wk.Large qualified e refl

    pub letters-laid : (q k l : ℕ) (t' reg' qualified' : List ℕ) (y : LayoutPos) → w ≡ wk.Went q k l → board t' reg' qualified' y ≡ layout_machine ns s offsets to i t reg qualified → qualified' ≡ (board_at ns s offsets to at t reg qualified).qualified
    unfolding walked_b
    letters-laid q k l t' reg' qualified' y e f = letters-by (wk.Went q k l) qualified' e (ap (λ (z : Board). z.qualified) (f ∙ laid_from))

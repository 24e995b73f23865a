-- Where states and regions end, by where their parts end.
use Prim.Native.Nat.{ℕ, ◌-◌, ◌<◌, ◌≤◌}
use native.Mathlib.Omega.{arith}
use mathlib.Core.List.{List, [], ◌∷◌}
use mathlib.Core.Logic.{⊎_elim}
use mathlib.Core.Path.{◌≡◌, refl, sym, ap, ◌∙◌}
use lib.ListN.{length}
use Rattle.wire.specs.Answer.{Answer, below, counted, deep, early, illegal, many, value}
use Rattle.std.specs.Prelude.{Ok, Err}
use Rattle.wire.specs.declared.answer.Stop.{Stop}
use Rattle.wire.specs.Code.{Skipped, next, onward, skip, skips}
use Rattle.pack_rules.specs.Limits.{max_level}
use Rattle.pack_rules.specs.Names.{Name}
use Rattle.pack_rules.specs.Read.{OneRegion, OneState, equations_in, name_in, optional_in, region_at, state_with, transition_in}
use Rattle.pack.specs.Verdict.{offset_of}
use Rattle.pack.proofs.PartLaws.{region-steps, state-steps}
use Rattle.machines.specs.declared.memo.Head.{Head}
use Rattle.wire.specs.declared.answer.Number.{Number}
use Rattle.machines.specs.ResolvedIn.{end_of, over_in}
use Rattle.machines.specs.CheckedReads.{number_in}
use Rattle.machines.specs.ResolveAt.{head_t}
use Rattle.machines.specs.LayoutAt.{moves_at}
use Rattle.machines.specs.StateHeads.{head, head_of}
use Rattle.machines.specs.MemoSound.{HeadRead}
use Rattle.machines.proofs.Reading.{name-number, overs}
use Rattle.machines.proofs.CheckedReadLaws.{end_is, number-num}
use Rattle.machines.proofs.ManyEnds.{counted-ends}
use Rattle.machines.proofs.MemoSoundLaws.{moves_read}

-- what ends past 0 was read
ends_read : {A : Type 0} (a : Answer A) (q : ℕ) → q ≡ end_of a → 0 < q → (x : A) × (a ≡ value x q)
unfolding end_of
ends_read (value x p) q e l = (x, ap (value x) (sym e))
ends_read early q e l = absurd (omega arith)
ends_read (illegal o) q e l = absurd (omega arith)
ends_read (deep o) q e l = absurd (omega arith)

-- and reading stands there
ends-to : {A : Type 0} (f : ℕ → Answer A) (at q : ℕ) → q ≡ end_of (f at) → 0 < q → onward f (Ok at) ≡ Ok q
unfolding onward next skips skip
ends-to f at q e l = ap skip (ends_read (f at) q e l).1

-- what is read from where reading stands
opens : {A : Type 0} (f : ℕ → Answer A) (at : ℕ) (r : Skipped) → r ≡ onward f (Ok at) → r ≡ skip (f at)
unfolding onward next skips
opens f at r e = e

-- the levels that the code begins with
pub all-levels : 8 ≤ max_level
all-levels = omega arith

module _ (ns : List Name) (s : List ℕ) where
  -- a state before its regions
  pub head-of : (offsets : List ℕ) (at : ℕ) (i h : Number) (m r : ℕ) → i ≡ number_in s at → m ≡ end_of (equations_in ns s i.next)
      → (m ≡ moves_at ns s at → h ≡ head_t ns s offsets at) → r ≡ end_of (counted (transition_in ns s) s m)
      → head h m r ≡ head_of ns s offsets at
  unfolding head_of
  head-of offsets at i h m r e moves longest regions =
      let q = moves_read ns s at m i e moves in
      λ j. head (longest q j) (q j) ((regions ∙ ap (λ (x : ℕ). end_of (counted (transition_in ns s) s x)) q) j)

  -- a name that reads ends where its number does
  name-next : (at a : ℕ) → a ≡ end_of (name_in ns s at) → 0 < a → (number_in s at).next ≡ a
  name-next at a e l =
      let r = ends_read (name_in ns s at) a e l in
      let n = name-number ns s at r.0 a r.1 in
      ap (λ (x : Number). x.next) (number-num s at n.i a n.is)

  -- a state ends after its refinement, where all before that reads
  pub state-end : (region : ℕ → Answer OneRegion) (offsets : List ℕ) (at a p q : ℕ) (h : Head) (n o : Skipped)
      → n ≡ onward (name_in ns s) (Ok at) → a ≡ offset_of n → (a ≡ 0 → ⊥) → (h.moves ≡ 0 → ⊥) → (h.regions ≡ 0 → ⊥) → (p ≡ 0 → ⊥)
      → o ≡ onward (optional_in ns s) (Ok p) → q ≡ offset_of o
      → h ≡ head_of ns s offsets at → p ≡ end_of (counted region s h.regions) → q ≡ end_of (state_with region ns s at)
  unfolding head_of moves_at
  state-end region offsets at a p q h n o en ea la lm lr lp eo eq eh ep =
      end_is (state_with region ns s) at o q
      (opens (state_with region ns s) at o (eo
      ∙ ap (onward (optional_in ns s)) (sym (ends-to (counted region s) h.regions p ep (omega (arith, lp))))
      ∙ ap (λ (x : Skipped). onward (optional_in ns s) (onward (counted region s) x)) (sym (ends-to (counted (transition_in ns s) s) h.moves h.regions transitions (omega (arith, lr))))
      ∙ ap (λ (x : Skipped). onward (optional_in ns s) (onward (counted region s) (onward (counted (transition_in ns s) s) x))) (sym (ends-to (equations_in ns s) a h.moves equations (omega (arith, lm))))
      ∙ ap (λ (x : Skipped). onward (optional_in ns s) (onward (counted region s) (onward (counted (transition_in ns s) s) (onward (equations_in ns s) x)))) (sym (ends-to (name_in ns s) at a name (omega (arith, la))))
      ∙ state-steps ns s region (Ok at)))
      eq
    where
      name : a ≡ end_of (name_in ns s at)
      name = end_is (name_in ns s) at n a (opens (name_in ns s) at n en) ea

      moves : h.moves ≡ end_of (equations_in ns s (number_in s at).next)
      moves = ap (λ (x : Head). x.moves) eh

      equations : h.moves ≡ end_of (equations_in ns s a)
      equations = moves ∙ ap (λ (x : ℕ). end_of (equations_in ns s x)) (name-next at a name (omega (arith, la)))

      transitions : h.regions ≡ end_of (counted (transition_in ns s) s h.moves)
      transitions = ap (λ (x : Head). x.regions) eh ∙ ap (λ (x : ℕ). end_of (counted (transition_in ns s) s x)) (sym moves)

  -- with fewer levels left it ends where it does with all
  pub state-over : (levels at q : ℕ) → levels < max_level → q ≡ end_of (state_with (region_at levels ns s) ns s at) → 0 < q → q ≡ over_in ns s at
  state-over levels at q h e l =
      let r = ends_read (state_with (region_at levels ns s) ns s at) q e l in
      sym (overs ns s levels at r.0 q (omega (arith, h)) r.1)

  -- a region ends after its states
  abbrev inside : ℕ → ℕ → Answer OneState
  inside levels = state_with (region_at (levels - 1) ns s) ns s

  region-onward : (levels at : ℕ) (b : Skipped) → (levels ≡ 0 → ⊥) → b ≡ onward (below 2 s) (onward (name_in ns s) (Ok at))
      → offset_of (onward (counted (inside levels) s) b) ≡ end_of (region_at levels ns s at)
  region-onward levels at b l e = end_is (region_at levels ns s) at _ _ (opens (region_at levels ns s) at _ (ap (onward (counted (inside levels) s)) e ∙ region-steps ns s levels (Ok at) l)) refl

  pub region-stops : (levels at : ℕ) (e : Stop) → (levels ≡ 0 → ⊥) → Err e ≡ onward (below 2 s) (onward (name_in ns s) (Ok at)) → end_of (many (inside levels) 0 0) ≡ end_of (region_at levels ns s at)
  unfolding many end_of onward next offset_of
  region-stops levels at e l g = region-onward levels at (Err e) l g

  pub region-states : (levels at p : ℕ) (b : Skipped) (c : Number) → (levels ≡ 0 → ⊥) → b ≡ onward (below 2 s) (onward (name_in ns s) (Ok at)) → b ≡ Ok p → c ≡ number_in s p
      → end_of (many (inside levels) c.value c.next) ≡ end_of (region_at levels ns s at)
  region-states levels at p b c l e f g =
      counted-ends (inside levels) s p c g
      ∙ sym (end_is (counted (inside levels) s) p _ _ (opens (counted (inside levels) s) p _ refl) refl)
      ∙ ap (λ (x : Skipped). offset_of (onward (counted (inside levels) s) x)) (sym f)
      ∙ region-onward levels at b l e

-- what is known of a state that is to be kept
pub head-known : (s : List ℕ) (names : ℕ) (offsets : List ℕ) (at : ℕ) (h : Head) (o : ℕ) → ((ns : List Name) → length ns ≡ names → (h ≡ head_of ns s offsets at) × (o ≡ over_in ns s at))
    → HeadRead s names offsets at h.head h.moves o h.regions
unfolding head_of
head-known s names offsets at h o f = record {
  head = λ ns n. ap (λ (x : Head). x.head) (f ns n).0;
  state = λ ns n. record { moves = ap (λ (x : Head). x.moves) (f ns n).0; past = (f ns n).1; regions = ap (λ (x : Head). x.regions) (f ns n).0 };
}

-- The longest name of a walk is within 255: lengths are bytes, and qualified ones are tested.
use Prim.Native.Nat.{ℕ, zero, suc, ◌+◌, ◌≤◌, max}
use native.Mathlib.Omega.{arith}
use mathlib.Core.List.{List}
use mathlib.Core.Bool.{Bool, true, false, cond}
use mathlib.Core.Path.{◌≡◌, refl, subst}
use lib.ListN.{get_or}
use lib.Dec.{eqb, leb, ltb}
use borrow.Author.Tests.{leb-true}
use Rattle.wire.specs.Lists.{Bytes}
use Rattle.pack_rules.specs.Limits.{absent, max_level, max_states}
use Rattle.pack_rules.specs.Names.{Name}
use Rattle.machines.specs.declared.resolve.RefineStack.{RefineStack}
use Rattle.wire.specs.declared.answer.Number.{Number}
use Rattle.machines.specs.declared.resolve.Resolved.{Resolved}
use Rattle.machines.specs.declared.resolve.Resolved.TheVariants as wk
use Rattle.machines.specs.CheckedReads.{machine_from, number_in, region_in, turns, with}
use Rattle.machines.specs.Tables.{len_of}
use Rattle.machines.specs.RefineStack.{pushed_of, start_of}
use Rattle.machines.specs.ResolveAt.{enter_w, go_on, head_t, len_at, machine_w, qualify_of, refine_w, region_w, rounds, state_w, target_t, walk}

unfoldable Within : Resolved → Type 0
Within (wk.Went q c a) = a ≤ 255
Within (wk.Cycle i) = Unit {0}
Within (wk.Unknown i m) = Unit {0}
Within wk.Large = Unit {0}

large-within : Within wk.Large
unfolding Within
large-within = tt

went-within : (q c a : ℕ) → a ≤ 255 → Within (wk.Went q c a)
unfolding Within
went-within q c a h = h

max-within : (a b : ℕ) → a ≤ 255 → b ≤ 255 → max a b ≤ 255
max-within a b h k = omega arith

cond-within : (b : Bool) (v w : Resolved) → (b ≡ true → Within v) → Within w → Within (cond b v w)
cond-within true v w h k = h refl
cond-within false v w h k = k

on-within : (v : Resolved) (k : ℕ → ℕ → ℕ → Resolved) → Within v → ((q c a : ℕ) → a ≤ 255 → Within (k q c a)) → Within (go_on v k)
unfolding Within go_on
on-within (wk.Went q c a) k h j = j q c a h
on-within (wk.Cycle i) k h j = tt
on-within (wk.Unknown i m) k h j = tt
on-within wk.Large k h j = tt

onward-within : (v : Resolved) (k : ℕ → ℕ → ℕ → Resolved) → ((q c a : ℕ) → Within (k q c a)) → Within (go_on v k)
unfolding Within go_on
onward-within (wk.Went q c a) k j = j q c a
onward-within (wk.Cycle i) k j = tt
onward-within (wk.Unknown i m) k j = tt
onward-within wk.Large k j = tt

rounds-within : (r : ℕ → ℕ → Resolved) → ((at c : ℕ) → Within (r at c)) → (n at c a : ℕ) → a ≤ 255 → Within (rounds r n at c a)
unfolding rounds
rounds-within r h zero at c a k = went-within at c a k
rounds-within r h (suc n) at c a k = on-within (r at c) _ (h at c) (λ q d w j. rounds-within r h n q d (max a w) (max-within a w k j))

qualify-within : (i w a e d : ℕ) → a ≤ 255 → Within (qualify_of i w a e d)
unfolding qualify_of
qualify-within i w a e d h =
    cond-within (leb (i + 1 + w) 255) (wk.Went e d (max a (i + 1 + w))) wk.Large
    (λ k. went-within e d (max a (i + 1 + w)) (max-within a (i + 1 + w) h (leb-true (i + 1 + w) 255 k))) large-within

turns-within : (r : ℕ → Number) → ((at : ℕ) → (r at).value ≤ 255) → (n at a : ℕ) → a ≤ 255 → (turns r max n at a).value ≤ 255
unfolding turns with
turns-within r h zero at a k = k
turns-within r h (suc n) at a k = turns-within r h n (r at).next (max a (r at).value) (max-within a (r at).value k (h at))

module _ (ns : List Name) (s offsets : List ℕ) (bytes : Bytes s) where
  len-within : (i : ℕ) → len_of s offsets i ≤ 255
  unfolding len_of
  len-within i = omega (arith, bytes (get_or offsets i 0))

  at-within : (at : ℕ) → len_at s offsets at ≤ 255
  unfolding len_at with
  at-within at = len-within (number_in s at).value

  target-within : (at : ℕ) → (target_t ns s offsets at).value ≤ 255
  unfolding target_t with
  target-within at = len-within _

  head-within : (at : ℕ) → (head_t ns s offsets at).value ≤ 255
  unfolding head_t with
  head-within at = turns-within (target_t ns s offsets) target-within _ _ (len_of s offsets (number_in s at).value) (len-within (number_in s at).value)

  module _ (to : List ℕ) where
    module _ (rec : RefineStack → ℕ → ℕ → ℕ → Resolved) (ih : (p : RefineStack) (n at c : ℕ) → Within (rec p n at c)) where
      region-within : (p : RefineStack) (at c : ℕ) → Within (region_w ns s offsets to rec p at c)
      unfolding region_w with
      region-within p at c =
          on-within (rec p (region_in s at).value (region_in s at).next c) _ (ih p (region_in s at).value (region_in s at).next c)
          (λ q d w h. went-within q d (max (len_at s offsets at) w) (max-within (len_at s offsets at) w (at-within at) h))

      refine-within : (p : RefineStack) (i at c a : ℕ) → a ≤ 255 → Within (refine_w ns s offsets to rec p i at c a)
      unfolding refine_w with
      refine-within p i at c a h =
          cond-within (eqb (number_in s at).value absent) (wk.Went (number_in s at).next c a) _ (λ k. went-within (number_in s at).next c a h)
          (onward-within (enter_w s offsets to p i (number_in s at).value) _ (λ b k f.
          onward-within (rec (pushed_of p (number_in s at).value) k b c) _ (λ q d w. qualify-within (len_of s offsets i) (max f w) a (number_in s at).next d h)))

      state-within : (p : RefineStack) (at c : ℕ) → Within (state_w ns s offsets to rec p at c)
      unfolding state_w with
      state-within p at c =
          cond-within (ltb c max_states) _ wk.Large (λ k.
          on-within (rounds (region_w ns s offsets to rec p) _ _ (c + 1) (head_t ns s offsets at).value) _
          (rounds-within (region_w ns s offsets to rec p) (region-within p) _ _ (c + 1) (head_t ns s offsets at).value (head-within at))
          (λ z d b h. refine-within p (number_in s at).value z d b h)) large-within

    walk-within : (l : ℕ) (p : RefineStack) (n at c : ℕ) → Within (walk ns s offsets to l p n at c)
    unfolding walk
    walk-within zero p n at c = large-within
    walk-within (suc l) p n at c = rounds-within (state_w ns s offsets to (walk ns s offsets to l) p) (state-within (walk ns s offsets to l) (walk-within l) p) n at c 0 (omega arith)

    machine-all : (x at : ℕ) → Within (machine_w ns s offsets to x at)
    unfolding machine_w with
    machine-all x at = walk-within max_level (start_of x) (machine_from s at).value (machine_from s at).next 0

    -- a machine's longest name
    pub machine-within : (x at z n a : ℕ) → machine_w ns s offsets to x at ≡ wk.Went z n a → a ≤ 255
    unfolding Within
    machine-within x at z n a e = subst Within e (machine-all x at)

-- Laws for code that asks machines or activations only at nodes to which one goes.
use Prim.Native.Nat.{ℕ, zero, suc, ◌+◌, ◌-◌, ◌<◌, ◌≤◌}
use native.Mathlib.Numerals.{add-one}
use native.Mathlib.Omega.{arith}
use mathlib.Core.List.{List, [], ◌∷◌, ◌++◌}
use mathlib.Core.Bool.{Bool, cond, false, true}
use mathlib.Core.Path.{◌≡◌, refl, sym, ap, subst, ◌∙◌}
use lib.ListN.{get_or}
use lib.Dec.{eqb, ltb}
use borrow.Author.Tests.{eqb-false, eqb-true, le-ltb, lt-ltb, ltb-false, ltb-true}
use Rattle.wire.specs.Bytes.{two}
use Rattle.wire.specs.Writer.{State}
use Rattle.pack_rules.specs.Names.{Name}
use Rattle.pack_rules.specs.Read.{equations_in}
use Rattle.pack_rules.specs.Write.{Item, raw}
use Rattle.pack.specs.Intern.{render}
use Rattle.machines.specs.ResolvedIn.{end_of}
use Rattle.machines.specs.CheckedReads.{number_in, with}
use Rattle.machines.specs.Layout.{slice_of}
use Rattle.machines.specs.AddedAt.{added_locals_t, adds_equations_t, adds_locals_t, each_t, node_equations_in, node_locals_in, small_of, total_t}
use Rattle.machines.specs.NodeHeads.{node_locals_t, old_head_t}
use Rattle.machines.specs.WriteNodesAt.{added_equations_t, node_equations_t, old_node_t}
use Rattle.machines.specs.ReceivingNodes.{Idle, asked_t, goes_t, nearer_t, next_receiver_t, receives_t}
use Rattle.machines.proofs.AddedLaws.{brings-no-equations, brings-no-locals, each-skip, no-locals, total-done, total_first}
use Rattle.machines.proofs.EmitMachineLaws.{no-equations}

-- the node of a machine as it is looked up
pub goes-is : (receivers : List ℕ) (i a : ℕ) → a ≡ get_or receivers i 0 → a ≡ goes_t receivers i
unfolding goes_t
goes-is receivers i a e = e

-- the lesser goal: one before k, one that is less, one that is not
pub nearer-before : (k a b : ℕ) → a < k → b ≡ nearer_t k a b
unfolding nearer_t
nearer-before k a b l = rw (lt-ltb a k l)

pub nearer-less : (k a b : ℕ) → k ≤ a → a < b → a ≡ nearer_t k a b
unfolding nearer_t
nearer-less k a b l m = rw (le-ltb a k l, lt-ltb a b m)

pub nearer-more : (k a b : ℕ) → k ≤ a → b ≤ a → b ≡ nearer_t k a b
unfolding nearer_t
nearer-more k a b l m = rw (le-ltb a k l, le-ltb a b m)

nearer-under : (k a b : ℕ) → nearer_t k a b ≤ b
unfolding nearer_t
nearer-under k a b = go (ltb a k) (ltb a b) refl
  where
    go : (x y : Bool) → ltb a b ≡ y → cond x b (cond y a b) ≤ b
    go true y e = omega arith
    go false true e = omega (arith, ltb-true a b e)
    go false false e = omega arith

nearer-here : (k a b : ℕ) → k ≤ a → nearer_t k a b ≤ a
nearer-here k a b l = go (ltb a b) refl
  where
    go : (y : Bool) → ltb a b ≡ y → nearer_t k a b ≤ a
    go true e = omega (arith, nearer-less k a b l (ltb-true a b e))
    go false e = omega (arith, nearer-under k a b, ltb-false a b e)

module _ (goal : ℕ → ℕ) (k : ℕ) where
  busy-step : (n i b : ℕ) → receives_t goal k (suc n) i b ≡ receives_t goal k n (suc i) (nearer_t k (goal i) b)
  unfolding receives_t
  busy-step n i b = refl

  -- a loop over goals: its start, one more, and the end
  pub busy-start : (n b : ℕ) → receives_t goal k (n - 0) 0 b ≡ receives_t goal k n 0 b
  busy-start n b = let e : n - 0 ≡ n = omega arith in ap (λ y. receives_t goal k y 0 b) e

  pub busy-more : (n i a b d z : ℕ) → i < n → a ≡ goal i → d ≡ nearer_t k a b → receives_t goal k (n - i) i b ≡ z → receives_t goal k (n - (i + 1)) (i + 1) d ≡ z
  busy-more n i a b d z l e f h = go (n - (i + 1)) refl
    where
      go : (m : ℕ) → n - (i + 1) ≡ m → receives_t goal k (n - (i + 1)) (i + 1) d ≡ z
      go m g =
          let c : n - i ≡ suc m = omega arith in
          (λ j. receives_t goal k (g j) (add-one i j) ((f ∙ ap (λ y. nearer_t k y b) e) j))
          ∙ sym (busy-step m i b) ∙ ap (λ y. receives_t goal k y i b) (sym c) ∙ h

  pub busy-done : (n i b z : ℕ) → n ≤ i → receives_t goal k (n - i) i b ≡ z → b ≡ z
  unfolding receives_t
  busy-done n i b z l h = let e : n - i ≡ 0 = omega arith in ap (λ y. receives_t goal k y i b) (sym e) ∙ h

  busy-under : (n i b : ℕ) → receives_t goal k n i b ≤ b
  unfolding receives_t
  busy-under zero i b = omega arith
  busy-under (suc n) i b = omega (arith, busy-under n (suc i) (nearer_t k (goal i) b), nearer-under k (goal i) b)

  -- no goal from k on is below the least one
  busy-least : (n i b j : ℕ) → i ≤ j → j < i + n → k ≤ goal j → goal j < receives_t goal k n i b → ⊥
  busy-least zero i b j l m h g = omega arith
  busy-least (suc n) i b j l m h g =
      let rest : goal j < receives_t goal k n (suc i) (nearer_t k (goal i) b) = subst (λ (y : ℕ). goal j < y) (busy-step n i b) g in
      go (eqb j i) refl rest (λ d. busy-least n (suc i) (nearer_t k (goal i) b) j d (omega arith) h rest)
    where
      go : (x : Bool) → eqb j i ≡ x → goal j < receives_t goal k n (suc i) (nearer_t k (goal i) b) → (suc i ≤ j → ⊥) → ⊥
      go true e f r =
          let q : goal j ≡ goal i = ap goal (eqb-true j i e) in
          omega (arith, q, h, f, busy-under n (suc i) (nearer_t k (goal i) b), nearer-here k (goal i) b (omega (arith, q, h)))
      go false e f r = r (omega (arith, eqb-false j i e))

module _ (goal : ℕ → ℕ) (n k b : ℕ) where
  -- the next goal: k is past b, k is not
  pub next-asked : (r : ℕ) → b < k → r ≡ receives_t goal k n 0 65536 → r ≡ next_receiver_t goal n k b
  unfolding next_receiver_t
  next-asked r l e = rw (lt-ltb b k l) e

  pub next-same : k ≤ b → b ≡ next_receiver_t goal n k b
  unfolding next_receiver_t
  next-same l = rw (le-ltb b k l)

  -- up to the next goal nodes stay idle
  pub next-idle : (r : ℕ) → r ≡ next_receiver_t goal n k b → Idle goal n k b → Idle goal n k r
  unfolding next_receiver_t
  next-idle r e h = subst (Idle goal n k) (sym e) (go (ltb b k))
    where
      go : (x : Bool) → Idle goal n k (cond x (receives_t goal k n 0 65536) b)
      go true = λ j l. busy-least goal k n 0 65536 j (omega arith) (omega arith)
      go false = h

-- how many are asked: none before the next goal, else all
module _ (k b n : ℕ) where
  pub asked-none : k < b → 0 ≡ asked_t k b n
  unfolding asked_t
  asked-none l = rw (lt-ltb k b l)

  pub asked-all : b ≤ k → n ≡ asked_t k b n
  unfolding asked_t
  asked-all l = rw (le-ltb k b l)

  pub asked-few : (m : ℕ) → m ≡ asked_t k b n → m ≤ n
  unfolding asked_t
  asked-few m e = subst (λ (y : ℕ). y ≤ n) (sym e) (go (ltb k b))
    where
      go : (x : Bool) → cond x 0 n ≤ n
      go true = omega arith
      go false = omega arith

-- nothing is brought by those that go elsewhere
total-idle : (f : ℕ → ℕ) (n : ℕ) → ((p : ℕ) → p < n → 0 ≡ f p) → 0 ≡ total_t f n 0
total-idle f n h = total-done f n n 0 _ (omega arith) (total_first f n n (omega arith) (λ p l. h p))

each-idle : (f : ℕ → List Item) (n : ℕ) → ((p : ℕ) → p < n → f p ≡ []) → [] ≡ each_t f n 0
unfolding each_t
each-idle f n h =
    let a : n - n ≡ 0 = omega arith in
    let b : n - 0 ≡ n = omega arith in
    ap (λ y. each_t f y n) (sym a) ∙ sym (each-skip f n n n 0 (omega arith) (λ p l. h p)) ∙ ap (λ y. each_t f y 0) b

-- a node to which none of the first n machines goes stands as if there were none
module _ (ns : List Name) (s defs receivers regcounts offsets : List ℕ) (n k : ℕ) (idle : (j : ℕ) → j < n → get_or receivers j 0 ≡ k → ⊥) where
  idle-locals : (own from to : ℕ) → node_locals_t ns s defs receivers regcounts offsets 0 k own from to ≡ node_locals_t ns s defs receivers regcounts offsets n k own from to
  unfolding node_locals_t total_t each_t
  idle-locals own from to =
      let t = total-idle (adds_locals_t ns s defs receivers regcounts k) n (λ p l. brings-no-locals ns s defs receivers regcounts k p _ _ _ refl refl refl (idle p l)) in
      let e = each-idle (added_locals_t ns s defs receivers regcounts offsets k) n (λ p l. no-locals ns s defs receivers regcounts offsets k p (idle p l)) in
      λ j. raw (two (small_of own + t j)) ∷ raw (slice_of s from (to - from)) ∷ e j

  idle-equations : (eqs : ℕ → List Item) (own from to : ℕ) → node_equations_t ns s defs receivers regcounts offsets 0 eqs k own from to ≡ node_equations_t ns s defs receivers regcounts offsets n eqs k own from to
  unfolding node_equations_t total_t each_t
  idle-equations eqs own from to =
      let t = total-idle (adds_equations_t ns s defs receivers regcounts k) n (λ p l. brings-no-equations ns s defs receivers regcounts k p _ _ _ refl refl refl (idle p l)) in
      let e = each-idle (added_equations_t receivers eqs k) n (λ p l. no-equations receivers eqs k p (idle p l)) in
      λ j. raw (two (small_of own + t j)) ∷ raw (slice_of s from (to - from)) ∷ e j

  idle-node : (eqs : ℕ → List Item) (at : ℕ) → old_node_t ns s defs receivers regcounts offsets 0 eqs k at ≡ old_node_t ns s defs receivers regcounts offsets n eqs k at
  unfolding old_node_t old_head_t with
  idle-node eqs at =
      let l = number_in s (node_locals_in ns s at) in
      let c = number_in s (node_equations_in ns s at) in
      λ j.
      (raw (slice_of s at (node_locals_in ns s at - at)) ∷ idle-locals l.value l.next (node_equations_in ns s at) j)
      ++ idle-equations eqs c.value c.next (end_of (equations_in ns s (node_equations_in ns s at))) j

-- a node is the same, whether all machines are asked or only where it is the next goal
asked-node : (ns : List Name) (s defs receivers regcounts offsets : List ℕ) (n k b m : ℕ) (eqs : ℕ → List Item) (at : ℕ) → m ≡ asked_t k b n → Idle (goes_t receivers) n k b → old_node_t ns s defs receivers regcounts offsets m eqs k at ≡ old_node_t ns s defs receivers regcounts offsets n eqs k at
unfolding asked_t goes_t
asked-node ns s defs receivers regcounts offsets n k b m eqs at e h = ap (λ y. old_node_t ns s defs receivers regcounts offsets y eqs k at) e ∙ go (ltb k b) refl
  where
    go : (x : Bool) → ltb k b ≡ x → old_node_t ns s defs receivers regcounts offsets (cond x 0 n) eqs k at ≡ old_node_t ns s defs receivers regcounts offsets n eqs k at
    go true d = idle-node ns s defs receivers regcounts offsets n k (λ j l q. h j l (omega (arith, q)) (omega (arith, q, ltb-true k b d))) eqs at
    go false d = refl

pub asked-put : (ns : List Name) (s defs receivers regcounts offsets : List ℕ) (n k b m : ℕ) (eqs : ℕ → List Item) (at : ℕ) (old : List ℕ) (z w : State) → m ≡ asked_t k b n → Idle (goes_t receivers) n k b → w ≡ render old (old_node_t ns s defs receivers regcounts offsets m eqs k at) z → w ≡ render old (old_node_t ns s defs receivers regcounts offsets n eqs k at) z
asked-put ns s defs receivers regcounts offsets n k b m eqs at old z w e h g = g ∙ ap (λ (is : List Item). render old is z) (asked-node ns s defs receivers regcounts offsets n k b m eqs at e h)

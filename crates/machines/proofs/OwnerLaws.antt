-- Laws for the code that judges and settles all machines, step by step.
use Prim.Native.Nat.{ℕ, suc, ◌+◌, ◌-◌, ◌<◌, ◌≤◌}
use native.Mathlib.Numerals.{add-one}
use native.Mathlib.Omega.{arith}
use mathlib.Core.List.{List}
use mathlib.Core.Bool.{cond}
use mathlib.Core.Path.{◌≡◌, refl, sym, ap, subst, ◌∙◌}
use lib.ListN.{get_or, set}
use lib.Dec.{eqb}
use borrow.Author.Tests.{eq-eqb, ne_eqb, lt-ltb, le-ltb}
use Rattle.pack_rules.specs.Names.{Name}
use Rattle.pack_rules.specs.Read.{equations_in}
use Rattle.std.specs.Result.{result_unwrap_or}
use Rattle.wire.specs.declared.answer.Number.{Number}
use Rattle.machines.specs.ResolvedIn.{end_of}
use Rattle.machines.specs.CheckedReads.{number_in}
use Rattle.machines.specs.Tables.{initial_in, states_end}
use Rattle.machines.specs.AddedAt.{node_equations_in}
use Rattle.machines.specs.VerdictAt.{Judged, judge_at}
use Rattle.machines.specs.EmitMachineAt.{Long}
use Rattle.machines.specs.OwnersAt.{HasRegions, Nodes, fill_t, find_t, found_in, goes_to, joined, machine_end, node_end, node_name_t, nodes_of, nth, refused_t, settle_t, settled_t}
use Rattle.machines.proofs.CheckedReadLaws.{on}

fill_step : (f : ℕ → ℕ) (m i : ℕ) (t : List ℕ) → fill_t f (suc m) i t ≡ fill_t f m (suc i) (set t i (f i))
unfolding fill_t
fill_step f m i t = refl

-- a loop that fills a table: one more, the end, the start
pub fill_more : (f : ℕ → ℕ) (n i v : ℕ) (t u z : List ℕ) → i < n → v ≡ f i → u ≡ set t i v → fill_t f (n - i) i t ≡ z → fill_t f (n - (i + 1)) (i + 1) u ≡ z
fill_more f n i v t u z l e h g = go (n - (i + 1)) refl
  where
    go : (m : ℕ) → n - (i + 1) ≡ m → fill_t f (n - (i + 1)) (i + 1) u ≡ z
    go m k =
        let a : n - i ≡ suc m = omega arith in
        ap (λ y. fill_t f y (i + 1) u) k ∙ ap (λ y. fill_t f m y u) (add-one i)
        ∙ ap (fill_t f m (suc i)) (h ∙ ap (set t i) e)
        ∙ sym (fill_step f m i t) ∙ ap (λ y. fill_t f y i t) (sym a) ∙ g

pub fill_done : (f : ℕ → ℕ) (n i : ℕ) (t z : List ℕ) → n ≤ i → fill_t f (n - i) i t ≡ z → t ≡ z
unfolding fill_t
fill_done f n i t z l h = let k : n - i ≡ 0 = omega arith in ap (λ y. fill_t f y i t) (sym k) ∙ h

pub fill_start : (f : ℕ → ℕ) (n : ℕ) (t : List ℕ) → fill_t f (n - 0) 0 t ≡ fill_t f n 0 t
fill_start f n t = let k : n - 0 ≡ n = omega arith in ap (λ y. fill_t f y 0 t) k

-- one thing after the other
pub nth-start : (next : ℕ → ℕ) (from : ℕ) → from ≡ nth next from 0
unfolding nth
nth-start next from = refl

pub nth-step : (next : ℕ → ℕ) (from i : ℕ) → next (nth next from i) ≡ nth next from (suc i)
unfolding nth
nth-step next from i = refl

pub nth-more : (next : ℕ → ℕ) (from i p q : ℕ) → p ≡ nth next from i → q ≡ next p → q ≡ nth next from (i + 1)
nth-more next from i p q a b = b ∙ ap next a ∙ nth-step next from i ∙ ap (nth next from) (sym (add-one i))

-- past a machine, past a node
module _ (ns : List Name) (s : List ℕ) where
  pub machine-end : (at i r : ℕ) (m : Number) → m ≡ number_in s at → i ≡ initial_in ns s m.next → r ≡ states_end ns s i → r ≡ machine_end ns s at
  unfolding machine_end
  machine-end at i r m a b c = on m _ _ r a (c ∙ ap (states_end ns s) b)

  pub node_end_lem : (at e r : ℕ) → e ≡ node_equations_in ns s at → r ≡ end_of (equations_in ns s e) → r ≡ node_end ns s at
  unfolding node_end
  node_end_lem at e r a b = b ∙ ap (λ y. end_of (equations_in ns s y)) a

  pub node-name : (from i p : ℕ) (m : Number) → p ≡ nth (node_end ns s) from i → m ≡ number_in s p → m.value ≡ node_name_t ns s from i
  unfolding node_name_t
  node-name from i p m a b = ap (λ (y : Number). y.value) (b ∙ ap (number_in s) a)

  -- the regions of the machine where the loop stands
  pub regions-here : (offsets to : List ℕ) (at p g : ℕ) (t reg qualified : List ℕ) (j : Judged) (r : ℕ) → r ≡ result_unwrap_or j 0 → p ≡ at → j ≡ judge_at ns s offsets to p t reg qualified → HasRegions ns s offsets to at g → Long t reg qualified → r ≡ g
  unfolding HasRegions
  regions-here offsets to at p g t reg qualified j r f a b h l = f ∙ ap (λ (y : Judged). result_unwrap_or y 0) (b ∙ ap (λ y. judge_at ns s offsets to y t reg qualified) a) ∙ h t reg qualified l

-- a search for an entry: found, not here, not there
module _ (t : List ℕ) (x : ℕ) where
  find-step : (m i : ℕ) (b : ℕ) → get_or t i 0 ≡ b → find_t t x (suc m) i ≡ cond (eqb b x) i (find_t t x m (suc i))
  unfolding find_t
  find-step m i b e = ap (λ y. cond (eqb y x) i (find_t t x m (suc i))) e

  pub find-hit : (n i e z : ℕ) → i < n → e ≡ get_or t i 0 → e ≡ x → find_t t x (n - i) i ≡ z → i ≡ z
  find-hit n i e z l a b h = go (n - (i + 1)) refl
    where
      go : (m : ℕ) → n - (i + 1) ≡ m → i ≡ z
      go m k =
          let c : n - i ≡ suc m = omega arith in
          sym (ap (λ y. cond y i (find_t t x m (suc i))) (eq-eqb e x b)) ∙ sym (find-step m i e (sym a)) ∙ ap (λ y. find_t t x y i) (sym c) ∙ h

  pub find-miss : (n i e z : ℕ) → i < n → e ≡ get_or t i 0 → (e ≡ x → ⊥) → find_t t x (n - i) i ≡ z → find_t t x (n - (i + 1)) (i + 1) ≡ z
  find-miss n i e z l a b h = go (n - (i + 1)) refl
    where
      go : (m : ℕ) → n - (i + 1) ≡ m → find_t t x (n - (i + 1)) (i + 1) ≡ z
      go m k =
          let c : n - i ≡ suc m = omega arith in
          ap (λ y. find_t t x y (i + 1)) k ∙ ap (find_t t x m) (add-one i)
          ∙ sym (ap (λ y. cond y i (find_t t x m (suc i))) (ne_eqb e x b)) ∙ sym (find-step m i e (sym a)) ∙ ap (λ y. find_t t x y i) (sym c) ∙ h

  pub find-done : (n i z : ℕ) → n ≤ i → find_t t x (n - i) i ≡ z → i ≡ z
  unfolding find_t
  find-done n i z l h = let k : n - i ≡ 0 = omega arith in ap (λ y. find_t t x y i) (sym k) ∙ h

  pub find-start : (n : ℕ) → find_t t x (n - 0) 0 ≡ find_t t x n 0
  find-start n = let k : n - 0 ≡ n = omega arith in ap (λ y. find_t t x y 0) k

-- where a machine goes
module _ (t : List ℕ) (n g o : ℕ) where
  pub goes-refused : g ≡ 0 → 65535 ≡ goes_to t n g o
  unfolding goes_to
  goes-refused e = rw (eq-eqb g 0 e)

  pub goes-alone : (g ≡ 0 → ⊥) → o ≡ 65535 → n ≡ goes_to t n g o
  unfolding goes_to
  goes-alone e f = rw (ne_eqb g 0 e, eq-eqb o 65535 f)

  pub goes-there : (k : ℕ) → (g ≡ 0 → ⊥) → (o ≡ 65535 → ⊥) → k ≡ find_t t o n 0 → k < n → k ≡ goes_to t n g o
  unfolding goes_to found_in
  goes-there k e f h l = let m : find_t t o n 0 < n = subst (λ y. y < n) h l in rw (ne_eqb g 0 e, ne_eqb o 65535 f, lt-ltb (find_t t o n 0) n m) h

  pub goes-nowhere : (k : ℕ) → (g ≡ 0 → ⊥) → (o ≡ 65535 → ⊥) → k ≡ find_t t o n 0 → n ≤ k → 65535 ≡ goes_to t n g o
  unfolding goes_to found_in
  goes-nowhere k e f h l = let m : n ≤ find_t t o n 0 = subst (λ y. n ≤ y) h l in rw (ne_eqb g 0 e, ne_eqb o 65535 f, le-ltb (find_t t o n 0) n m)

-- a machine settled
module _ (s defs regcounts : List ℕ) (i : ℕ) (receivers nodes : List ℕ) (n at g : ℕ) (m o : Number) (k : ℕ) (receivers' : List ℕ)
    (a : at ≡ get_or defs i 0) (b : g ≡ get_or regcounts i 0) (c : m ≡ number_in s at) (d : o ≡ number_in s m.next) (e : k ≡ goes_to nodes n g o.value) (f : receivers' ≡ set receivers i k) where
  settled-as : (x : Nodes) → x ≡ joined i m.value k (nodes_of receivers nodes n) → x ≡ settled_t s defs regcounts i (nodes_of receivers nodes n)
  unfolding settled_t
  settled-as x h =
      on m _ _ x (c ∙ ap (number_in s) a)
      (h ∙ ap (λ y. joined i m.value y (nodes_of receivers nodes n)) (e ∙ (λ j. goes_to nodes n (b j) (d j).value)))

  pub settled-new : (nodes' : List ℕ) → k ≡ n → nodes' ≡ set nodes n m.value → nodes_of receivers' nodes' (n + 1) ≡ settled_t s defs regcounts i (nodes_of receivers nodes n)
  unfolding joined
  settled-new nodes' h l = settled-as _ (rw (eq-eqb k n h, f, l))

  pub settled-old : (k ≡ n → ⊥) → nodes_of receivers' nodes n ≡ settled_t s defs regcounts i (nodes_of receivers nodes n)
  unfolding joined
  settled-old h = settled-as _ (rw (ne_eqb k n h, f))

-- all machines settled
module _ (s defs regcounts : List ℕ) where
  settle_step : (m i : ℕ) (x : Nodes) → settle_t s defs regcounts (suc m) i x ≡ settle_t s defs regcounts m (suc i) (settled_t s defs regcounts i x)
  unfolding settle_t
  settle_step m i x = refl

  pub settle-more : (n i : ℕ) (x y z : Nodes) → i < n → y ≡ settled_t s defs regcounts i x → settle_t s defs regcounts (n - i) i x ≡ z → settle_t s defs regcounts (n - (i + 1)) (i + 1) y ≡ z
  settle-more n i x y z l e h = go (n - (i + 1)) refl
    where
      go : (m : ℕ) → n - (i + 1) ≡ m → settle_t s defs regcounts (n - (i + 1)) (i + 1) y ≡ z
      go m k =
          let a : n - i ≡ suc m = omega arith in
          ap (λ w. settle_t s defs regcounts w (i + 1) y) k ∙ ap (λ w. settle_t s defs regcounts m w y) (add-one i)
          ∙ ap (settle_t s defs regcounts m (suc i)) e ∙ sym (settle_step m i x) ∙ ap (λ w. settle_t s defs regcounts w i x) (sym a) ∙ h

  pub settle-done : (n i : ℕ) (x z : Nodes) → n ≤ i → settle_t s defs regcounts (n - i) i x ≡ z → x ≡ z
  unfolding settle_t
  settle-done n i x z l h = let k : n - i ≡ 0 = omega arith in ap (λ w. settle_t s defs regcounts w i x) (sym k) ∙ h

  pub settle-start : (n : ℕ) (x : Nodes) → settle_t s defs regcounts (n - 0) 0 x ≡ settle_t s defs regcounts n 0 x
  settle-start n x = let k : n - 0 ≡ n = omega arith in ap (λ w. settle_t s defs regcounts w 0 x) k

-- a refused machine counts for one
pub refused-here : (receivers : List ℕ) (i e : ℕ) → e ≡ get_or receivers i 0 → e ≡ 65535 → 1 ≡ refused_t receivers i
unfolding refused_t
refused-here receivers i e a b = let c : get_or receivers i 0 ≡ 65535 = sym a ∙ b in rw (eq-eqb (get_or receivers i 0) 65535 c)

pub refused-not : (receivers : List ℕ) (i e : ℕ) → e ≡ get_or receivers i 0 → (e ≡ 65535 → ⊥) → 0 ≡ refused_t receivers i
unfolding refused_t
refused-not receivers i e a b = rw (ne_eqb (get_or receivers i 0) 65535 (λ x. b (a ∙ x)))

-- a length that is kept
pub few-kept : (a b n : ℕ) → a ≡ b → b ≤ n → a ≤ n
few-kept a b n e h = omega arith

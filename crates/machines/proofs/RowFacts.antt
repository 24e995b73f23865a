-- A state's row and a region's, opened and closed.
use Prim.Native.Nat.{ℕ, ◌+◌, ◌<◌, ◌≤◌}
use native.Mathlib.Omega.{arith}
use mathlib.Core.List.{List}
use mathlib.Core.Path.{◌≡◌, refl, ◌∙◌}
use lib.ListN.{length, get_or, set, length-set}
use lib.Seq.{get_or-set_other, get_or-set_same}
use Rattle.machines.specs.LayoutAt.{opening, region_words, state_ends, state_words}

-- a word that is not the one that was set
keep : (l : List ℕ) (i v j x : ℕ) → (j ≡ i → ⊥) → get_or l j 0 ≡ x → get_or (set l i v) j 0 ≡ x
keep l i v j x n e = get_or-set_other l i j v 0 n ∙ e

put : (l : List ℕ) (i v n : ℕ) → length l ≡ n → i < n → get_or (set l i v) i 0 ≡ v
put l i v n e h = get_or-set_same l i v 0 (omega arith)

long : (l : List ℕ) (i v n : ℕ) → length l ≡ n → length (set l i v) ≡ n
long l i v n e = length-set l i v ∙ e

-- the words of a state that is open
pub record Head (u t : List ℕ) (p at tr a n : ℕ) : Type 0 where
  pub same-long : length u ≡ length t
  pub before : (i : ℕ) → i < p → get_or u i 0 ≡ get_or t i 0
  pub drawn : get_or u p 0 ≡ at
  pub moves : get_or u (p + 1) 0 ≡ tr
  pub letter : get_or u (p + 2) 0 ≡ a
  pub letters : get_or u (p + 3) 0 ≡ n

pub state-head : (t : List ℕ) (p at tr a n : ℕ) → p + 6 ≤ length t → Head (state_words t p at tr a n) t p at tr a n
unfolding state_words
state-head t p at tr a n h =
    let t1 : List ℕ = set t p at in
    let t2 : List ℕ = set t1 (p + 1) tr in
    let t3 : List ℕ = set t2 (p + 2) a in
    let l1 : length t1 ≡ length t = long t p at (length t) refl in
    let l2 : length t2 ≡ length t = long t1 (p + 1) tr (length t) l1 in
    let l3 : length t3 ≡ length t = long t2 (p + 2) a (length t) l2 in
    let k3 : (j v : ℕ) → j < p + 3 → get_or t3 j 0 ≡ v → get_or (set t3 (p + 3) n) j 0 ≡ v = λ j v i e. keep t3 (p + 3) n j v (λ z. omega arith) e in
    let k2 : (j v : ℕ) → j < p + 2 → get_or t2 j 0 ≡ v → get_or (set t3 (p + 3) n) j 0 ≡ v = λ j v i e. k3 j v (omega arith) (keep t2 (p + 2) a j v (λ z. omega arith) e) in
    let k1 : (j v : ℕ) → j < p + 1 → get_or t1 j 0 ≡ v → get_or (set t3 (p + 3) n) j 0 ≡ v = λ j v i e. k2 j v (omega arith) (keep t1 (p + 1) tr j v (λ z. omega arith) e) in
    record {
      same-long = long t3 (p + 3) n (length t) l3;
      before = λ j i. k1 j (get_or t j 0) (omega arith) (keep t p at j (get_or t j 0) (λ z. omega arith) refl);
      drawn = k1 p at (omega arith) (put t p at (length t) refl (omega arith));
      moves = k2 (p + 1) tr (omega arith) (put t1 (p + 1) tr (length t) l1 (omega arith));
      letter = k3 (p + 2) a (omega arith) (put t2 (p + 2) a (length t) l2 (omega arith));
      letters = put t3 (p + 3) n (length t) l3 (omega arith);
    }

pub record Ends (u t : List ℕ) (p q k : ℕ) : Type 0 where
  pub same-long : length u ≡ length t
  pub other : (i : ℕ) → (i ≡ p + 4 → ⊥) → (i ≡ p + 5 → ⊥) → get_or u i 0 ≡ get_or t i 0
  pub after : p + 4 < length t → get_or u (p + 4) 0 ≡ q
  pub regions : p + 5 < length t → get_or u (p + 5) 0 ≡ k

pub state-ends : (t : List ℕ) (p q k : ℕ) → Ends (state_ends t p q k) t p q k
unfolding state_ends
state-ends t p q k =
    let t1 : List ℕ = set t (p + 4) q in
    let l1 : length t1 ≡ length t = long t (p + 4) q (length t) refl in
    record {
      same-long = long t1 (p + 5) k (length t) l1;
      other = λ i x y. keep t1 (p + 5) k i (get_or t i 0) y (keep t (p + 4) q i (get_or t i 0) x refl);
      after = λ h. keep t1 (p + 5) k (p + 4) q (λ e. omega arith) (put t (p + 4) q (length t) refl h);
      regions = λ h. put t1 (p + 5) k (length t) l1 h;
    }

-- the words of a region that is open
pub record Frame (u t : List ℕ) (p x y a n id k st up : ℕ) : Type 0 where
  pub same-long : length u ≡ length t
  pub before : (i : ℕ) → i < p → get_or u i 0 ≡ get_or t i 0
  pub initial : get_or u p 0 ≡ x
  pub history : get_or u (p + 1) 0 ≡ y
  pub letter : get_or u (p + 2) 0 ≡ a
  pub letters : get_or u (p + 3) 0 ≡ n
  pub number : get_or u (p + 5) 0 ≡ id
  pub states : get_or u (p + 6) 0 ≡ k
  pub state : get_or u (p + 7) 0 ≡ st
  pub holder : get_or u (p + 8) 0 ≡ up

pub region-frame : (t : List ℕ) (p x y k q a n id st up : ℕ) → p + 9 ≤ length t → Frame (region_words t p (opening x y k q) a n id st up) t p x y a n id k st up
unfolding region_words
region-frame t p x y k q a n id st up h =
    let t1 : List ℕ = set t p x in
    let t2 : List ℕ = set t1 (p + 1) y in
    let t3 : List ℕ = set t2 (p + 2) a in
    let t4 : List ℕ = set t3 (p + 3) n in
    let t5 : List ℕ = set t4 (p + 5) id in
    let t6 : List ℕ = set t5 (p + 6) k in
    let t7 : List ℕ = set t6 (p + 7) st in
    let l1 : length t1 ≡ length t = long t p x (length t) refl in
    let l2 : length t2 ≡ length t = long t1 (p + 1) y (length t) l1 in
    let l3 : length t3 ≡ length t = long t2 (p + 2) a (length t) l2 in
    let l4 : length t4 ≡ length t = long t3 (p + 3) n (length t) l3 in
    let l5 : length t5 ≡ length t = long t4 (p + 5) id (length t) l4 in
    let l6 : length t6 ≡ length t = long t5 (p + 6) k (length t) l5 in
    let l7 : length t7 ≡ length t = long t6 (p + 7) st (length t) l6 in
    let k8 : (j v : ℕ) → j < p + 8 → get_or t7 j 0 ≡ v → get_or (set t7 (p + 8) up) j 0 ≡ v = λ j v i e. keep t7 (p + 8) up j v (λ z. omega arith) e in
    let k7 : (j v : ℕ) → j < p + 7 → get_or t6 j 0 ≡ v → get_or (set t7 (p + 8) up) j 0 ≡ v = λ j v i e. k8 j v (omega arith) (keep t6 (p + 7) st j v (λ z. omega arith) e) in
    let k6 : (j v : ℕ) → j < p + 6 → get_or t5 j 0 ≡ v → get_or (set t7 (p + 8) up) j 0 ≡ v = λ j v i e. k7 j v (omega arith) (keep t5 (p + 6) k j v (λ z. omega arith) e) in
    let k5 : (j v : ℕ) → j < p + 5 → get_or t4 j 0 ≡ v → get_or (set t7 (p + 8) up) j 0 ≡ v = λ j v i e. k6 j v (omega arith) (keep t4 (p + 5) id j v (λ z. omega arith) e) in
    let k3 : (j v : ℕ) → j < p + 3 → get_or t3 j 0 ≡ v → get_or (set t7 (p + 8) up) j 0 ≡ v = λ j v i e. k5 j v (omega arith) (keep t3 (p + 3) n j v (λ z. omega arith) e) in
    let k2 : (j v : ℕ) → j < p + 2 → get_or t2 j 0 ≡ v → get_or (set t7 (p + 8) up) j 0 ≡ v = λ j v i e. k3 j v (omega arith) (keep t2 (p + 2) a j v (λ z. omega arith) e) in
    let k1 : (j v : ℕ) → j < p + 1 → get_or t1 j 0 ≡ v → get_or (set t7 (p + 8) up) j 0 ≡ v = λ j v i e. k2 j v (omega arith) (keep t1 (p + 1) y j v (λ z. omega arith) e) in
    record {
      same-long = long t7 (p + 8) up (length t) l7;
      before = λ j i. k1 j (get_or t j 0) (omega arith) (keep t p x j (get_or t j 0) (λ z. omega arith) refl);
      initial = k1 p x (omega arith) (put t p x (length t) refl (omega arith));
      history = k2 (p + 1) y (omega arith) (put t1 (p + 1) y (length t) l1 (omega arith));
      letter = k3 (p + 2) a (omega arith) (put t2 (p + 2) a (length t) l2 (omega arith));
      letters = k5 (p + 3) n (omega arith) (put t3 (p + 3) n (length t) l3 (omega arith));
      number = k6 (p + 5) id (omega arith) (put t4 (p + 5) id (length t) l4 (omega arith));
      states = k7 (p + 6) k (omega arith) (put t5 (p + 6) k (length t) l5 (omega arith));
      state = k8 (p + 7) st (omega arith) (put t6 (p + 7) st (length t) l6 (omega arith));
      holder = put t7 (p + 8) up (length t) l7 (omega arith);
    }

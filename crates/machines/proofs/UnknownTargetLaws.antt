-- Laws for the code that looks for the first of a drawn region's states that strays, step by step.
use Prim.Native.Nat.{ℕ, zero, suc, ◌+◌, ◌-◌, ◌<◌, ◌≤◌}
use native.Mathlib.Omega.{arith}
use mathlib.Core.List.{List}
use mathlib.Core.Bool.{Bool, true, false, cond, ◌||◌}
use mathlib.Core.Path.{◌≡◌, sym, ap, ◌∙◌}
use lib.ListN.{length}
use lib.Dec.{eqb}
use borrow.Author.Tests.{eq-eqb, ne_eqb}
use Rattle.pack_rules.specs.Names.{Name}
use Rattle.pack_rules.specs.Read.{expr_in}
use Rattle.machines.specs.declared.memo.Targets.{Targets}
use Rattle.machines.specs.declared.memo.Targets.TheVariants as aim
use Rattle.machines.specs.declared.memo.UnknownTarget.{UnknownTarget}
use Rattle.wire.specs.declared.answer.Number.{Number}
use Rattle.machines.specs.ResolvedIn.{end_of, over_in}
use Rattle.machines.specs.CheckedReads.{number_in}
use Rattle.machines.specs.LayoutAt.{moves_at}
use Rattle.machines.specs.UnknownTargets.{IsDrawn, drawn_state, target_d, unknown_at, unknown_from, unknown_target_d, unknown_targets}
use Rattle.machines.proofs.CheckedReadLaws.{on}

-- the first that strays, with so many states before them all
unfoldable pub after : ℕ → UnknownTarget → UnknownTarget
after i r = unknown_targets (i + r.fine) r.name

module _ (ns : List Name) (s : List ℕ) where
  pub drawn-found : (x n p : ℕ) (i : Number) (z : Bool) → 0 < n → i ≡ number_in s p → i.value ≡ x → drawn_state ns s x n p ≡ z → true ≡ z
  unfolding drawn_state
  drawn-found x zero p i z l b c d = absurd (omega arith)
  drawn-found x (suc n) p i z l b c d =
      let f : eqb (number_in s p).value x ≡ true = eq-eqb _ x (ap (λ (y : Number). y.value) (sym b) ∙ c) in
      sym (ap (λ b. b || drawn_state ns s x n (over_in ns s p)) f) ∙ d

  pub drawn-went : (x n p q : ℕ) (i : Number) (z : Bool) → 0 < n → i ≡ number_in s p → (i.value ≡ x → ⊥) → q ≡ over_in ns s p → drawn_state ns s x n p ≡ z → drawn_state ns s x (n - 1) q ≡ z
  unfolding drawn_state
  drawn-went x zero p q i z l b c g d = absurd (omega arith)
  drawn-went x (suc n) p q i z l b c g d =
      let f : eqb (number_in s p).value x ≡ false = ne_eqb _ x (λ h. c (ap (λ (y : Number). y.value) b ∙ h)) in
      let m : suc n - 1 ≡ n = omega arith in
      (λ j. drawn_state ns s x (m j) (g j)) ∙ sym (ap (λ b. b || drawn_state ns s x n (over_in ns s p)) f) ∙ d

  pub drawn-done : (x n p : ℕ) (z : Bool) → n ≤ 0 → drawn_state ns s x n p ≡ z → false ≡ z
  unfolding drawn_state
  drawn-done x zero p z l d = d
  drawn-done x (suc n) p z l d = absurd (omega arith)

  -- transitions one by one
  aimed-one : (n f k o e : ℕ) (x : Number) (b : Bool) (z : Targets) → e ≡ end_of (expr_in ns s o) → x ≡ number_in s e → b ≡ drawn_state ns s x.value n f → target_d ns s n f (suc k) o ≡ z → cond b (target_d ns s n f k x.next) (aim.Stray x.value) ≡ z
  unfolding target_d
  aimed-one n f k o e x b z a h c d =
      on x (number_in s (end_of (expr_in ns s o))) (λ y r. cond (drawn_state ns s y n f) (target_d ns s n f k r) (aim.Stray y)) _ (h ∙ ap (number_in s) a) (ap (λ y. cond y (target_d ns s n f k x.next) (aim.Stray x.value)) c) ∙ d

  pub aimed-went : (n f k o e : ℕ) (x : Number) (z : Targets) → 0 < k → e ≡ end_of (expr_in ns s o) → x ≡ number_in s e → true ≡ drawn_state ns s x.value n f → target_d ns s n f k o ≡ z → target_d ns s n f (k - 1) x.next ≡ z
  aimed-went n f zero o e x z l a h c d = absurd (omega arith)
  aimed-went n f (suc k) o e x z l a h c d =
      let m : suc k - 1 ≡ k = omega arith in
      ap (λ y. target_d ns s n f y x.next) m ∙ aimed-one n f k o e x true z a h c d

  pub aimed-stop : (n f k o e : ℕ) (x : Number) (z : Targets) → 0 < k → e ≡ end_of (expr_in ns s o) → x ≡ number_in s e → false ≡ drawn_state ns s x.value n f → target_d ns s n f k o ≡ z → aim.Stray x.value ≡ z
  aimed-stop n f zero o e x z l a h c d = absurd (omega arith)
  aimed-stop n f (suc k) o e x z l a h c d = aimed-one n f k o e x false z a h c d

  pub aimed-done : (n f k o : ℕ) (z : Targets) → k ≤ 0 → target_d ns s n f k o ≡ z → aim.All ≡ z
  unfolding target_d
  aimed-done n f zero o z l d = d
  aimed-done n f (suc k) o z l d = absurd (omega arith)

  -- states one by one
  strays-one : (n f m p e : ℕ) (c : Number) (a b : Targets) → e ≡ moves_at ns s p → c ≡ number_in s e → a ≡ target_d ns s n f c.value c.next → a ≡ b → unknown_at b (unknown_from ns s n f m (over_in ns s p)) ≡ unknown_from ns s n f (suc m) p
  unfolding unknown_from
  strays-one n f m p e c a b g h w v =
      on c (number_in s (moves_at ns s p)) (λ k o. unknown_at (target_d ns s n f k o) (unknown_from ns s n f m (over_in ns s p))) _ (h ∙ ap (number_in s) g) (ap (λ y. unknown_at y (unknown_from ns s n f m (over_in ns s p))) (sym v ∙ w))

  pub strays-went : (n f i p e q : ℕ) (c : Number) (a : Targets) (z : UnknownTarget) → i < n → e ≡ moves_at ns s p → c ≡ number_in s e → a ≡ target_d ns s n f c.value c.next → a ≡ aim.All → q ≡ over_in ns s p
      → after i (unknown_from ns s n f (n - i) p) ≡ z → after (i + 1) (unknown_from ns s n f (n - (i + 1)) q) ≡ z
  unfolding after unknown_at
  strays-went n f i p e q c a z l g h w v o d =
      let k : suc (n - (i + 1)) ≡ n - i = omega (arith, l) in
      let r = unknown_from ns s n f (n - (i + 1)) (over_in ns s p) in
      let j : i + 1 + r.fine ≡ i + suc r.fine = omega arith in
      ap (λ (x : ℕ). after (i + 1) (unknown_from ns s n f (n - (i + 1)) x)) o
      ∙ ap (λ (x : ℕ). unknown_targets x r.name) j
      ∙ ap (after i) (strays-one n f (n - (i + 1)) p e c a aim.All g h w v)
      ∙ ap (λ (x : ℕ). after i (unknown_from ns s n f x p)) k
      ∙ d

  pub strays-stop : (n f i p e x : ℕ) (c : Number) (a : Targets) (z : UnknownTarget) → i < n → e ≡ moves_at ns s p → c ≡ number_in s e → a ≡ target_d ns s n f c.value c.next → a ≡ aim.Stray x
      → after i (unknown_from ns s n f (n - i) p) ≡ z → unknown_targets i x ≡ z
  unfolding after unknown_at
  strays-stop n f i p e x c a z l g h w v d =
      let k : suc (n - (i + 1)) ≡ n - i = omega (arith, l) in
      let j : i ≡ i + 0 = omega arith in
      ap (λ (y : ℕ). unknown_targets y x) j
      ∙ ap (after i) (strays-one n f (n - (i + 1)) p e c a (aim.Stray x) g h w v)
      ∙ ap (λ (y : ℕ). after i (unknown_from ns s n f y p)) k
      ∙ d

  pub strays-done : (n f i p : ℕ) (z : UnknownTarget) → n ≤ i → i ≤ n → after i (unknown_from ns s n f (n - i) p) ≡ z → unknown_targets n 0 ≡ z
  unfolding after unknown_from
  strays-done n f i p z l m d =
      let k : 0 ≡ n - i = omega (arith, l) in
      let j : n ≡ i + 0 = omega (arith, l, m) in
      ap (λ (y : ℕ). unknown_targets y 0) j ∙ ap (λ (y : ℕ). after i (unknown_from ns s n f y p)) k ∙ d

  pub strays-from : (n f : ℕ) → after 0 (unknown_from ns s n f (n - 0) f) ≡ unknown_target_d ns s n f
  unfolding after unknown_target_d
  strays-from n f =
      let k : n - 0 ≡ n = omega arith in
      ap (λ (y : ℕ). after 0 (unknown_from ns s n f y f)) k ∙ (λ j. unknown_targets (z j) (unknown_from ns s n f n f).name)
    where
      z : 0 + (unknown_from ns s n f n f).fine ≡ (unknown_from ns s n f n f).fine
      z = omega arith

-- a target that was found
pub among-now : (s : List ℕ) (names n f x : ℕ) (b : Bool) → ((ns : List Name) → length ns ≡ names → b ≡ drawn_state ns s x n f) → b ≡ true → IsDrawn s names n f x
unfolding IsDrawn
among-now s names n f x b h e ns l = sym (h ns l) ∙ e

pub among-told : (s : List ℕ) (names n f x : ℕ) → IsDrawn s names n f x → (ns : List Name) → length ns ≡ names → true ≡ drawn_state ns s x n f
unfolding IsDrawn
among-told s names n f x h ns l = sym (h ns l)

-- Rows of the layout that are those of a drawn region: what is kept of its states foretells what checking their targets comes to.
use Prim.Native.Nat.{ℕ, zero, suc, ◌+◌, ◌-◌, ◌<◌, ◌≤◌}
use native.Mathlib.Omega.{arith}
use mathlib.Core.List.{List}
use mathlib.Core.Bool.{Bool, true, false, cond, ◌&&◌, ◌||◌, and-eq-true_iff}
use mathlib.Core.Path.{◌≡◌, refl, sym, ap, subst, ◌∙◌}
use lib.ListN.{get_or}
use lib.Dec.{eqb}
use borrow.Author.Tests.{eq-eqb, ne_eqb, eqb-true}
use Rattle.std.specs.Prelude.{Option, Some, None, IfSome}
use Rattle.pack_rules.specs.Names.{Name}
use Rattle.pack_rules.specs.Read.{expr_in}
use Rattle.machines.specs.declared.memo.Targets.{Targets}
use Rattle.machines.specs.declared.memo.Targets.TheVariants as aim
use Rattle.machines.specs.declared.memo.UnknownTarget.{UnknownTarget}
use Rattle.machines.specs.declared.validate.Checked.{Checked}
use Rattle.machines.specs.declared.validate.Checked.TheVariants as ck
use Rattle.machines.specs.declared.validate.TargetMemo.{TargetMemo}
use Rattle.machines.specs.ResolvedIn.{end_of, over_in}
use Rattle.machines.specs.CheckedReads.{number_in, with}
use Rattle.machines.specs.LayoutAt.{moves_at}
use Rattle.machines.specs.UnknownTargets.{drawn_state, target_d, unknown_at, unknown_from, unknown_target_d, unknown_targets}
use Rattle.machines.specs.ValidateAt.{AsRecalled, has_t, is_state_t, moves_checked, onward, recall_t, recalled, row_drawn, rows_drawn, targets_t}
use Rattle.machines.proofs.CheckedReadLaws.{no, yes}

-- what is foreseen of one state, and of those after it
pub foretold-stray : (v : TargetMemo) (q p : ℕ) → v.fine ≡ 0 → ck.Target p q v.name ≡ recall_t v q p
unfolding recall_t
foretold-stray v q p e = yes v.fine 0 (ck.Target p q v.name) ck.Fine _ e refl

pub foretold-fine : (v : TargetMemo) (q p : ℕ) → (v.fine ≡ 0 → ⊥) → ck.Fine ≡ recall_t v q p
unfolding recall_t
foretold-fine v q p e = no v.fine 0 (ck.Target p q v.name) ck.Fine _ e refl

pub onward-none : (v : TargetMemo) → v.fine ≡ 0 → None ≡ onward (Some v)
unfolding onward
onward-none v e = yes v.fine 0 None (Some (recalled (v.fine - 1) v.name)) _ e refl

pub onward-some : (v : TargetMemo) → (v.fine ≡ 0 → ⊥) → Some (recalled (v.fine - 1) v.name) ≡ onward (Some v)
unfolding onward
onward-some v e = no v.fine 0 None (Some (recalled (v.fine - 1) v.name)) _ e refl

onward-known : (n x : ℕ) → Some (recalled n x) ≡ onward (Some (recalled (suc n) x))
onward-known n x =
    let m : n ≡ suc n - 1 = omega arith in
    ap (λ (y : ℕ). Some (recalled y x)) m ∙ onward-some (recalled (suc n) x) (λ e. omega (arith, e))

-- what is foreseen where it is known
abbrev known_of : UnknownTarget → TargetMemo
known_of r = recalled r.fine r.name

-- what checking comes to, where transitions of the state at the word p of the region at the word q do so
unfoldable aimed_checked : ℕ → ℕ → Targets → Checked
aimed_checked q p aim.All = ck.Fine
aimed_checked q p (aim.Stray x) = ck.Target p q x

module _ (ns : List Name) (s t : List ℕ) where
  -- what the code does
  pub row-drawn-is : (p at e m w : ℕ) (r : Bool) → e ≡ get_or t p 0 → e ≡ at → m ≡ moves_at ns s at → w ≡ get_or t (p + 1) 0 → r ≡ eqb w m → r ≡ row_drawn ns s t p at
  unfolding row_drawn
  row-drawn-is p at e m w r a b c d h = rw (eq-eqb (get_or t p 0) at (sym a ∙ b)) (h ∙ (λ i. eqb (d i) (c i)))

  pub row-drawn-not : (p at e : ℕ) → e ≡ get_or t p 0 → (e ≡ at → ⊥) → false ≡ row_drawn ns s t p at
  unfolding row_drawn
  row-drawn-not p at e a b = rw (ne_eqb (get_or t p 0) at (λ x. b (a ∙ x)))

  pub rows-drawn-went : (n p at q o : ℕ) (z : Bool) → 0 < n → true ≡ row_drawn ns s t p at → q ≡ get_or t (p + 4) 0 → o ≡ over_in ns s at → rows_drawn ns s t n p at ≡ z → rows_drawn ns s t (n - 1) q o ≡ z
  unfolding rows_drawn
  rows-drawn-went zero p at q o z l a b c d = absurd (omega arith)
  rows-drawn-went (suc n) p at q o z l a b c d =
      let m : suc n - 1 ≡ n = omega arith in
      (λ j. rows_drawn ns s t (m j) (b j) (c j)) ∙ ap (λ y. y && rows_drawn ns s t n (get_or t (p + 4) 0) (over_in ns s at)) a ∙ d

  pub rows-drawn-stop : (n p at : ℕ) (z : Bool) → 0 < n → false ≡ row_drawn ns s t p at → rows_drawn ns s t n p at ≡ z → false ≡ z
  unfolding rows_drawn
  rows-drawn-stop zero p at z l a d = absurd (omega arith)
  rows-drawn-stop (suc n) p at z l a d = ap (λ y. y && rows_drawn ns s t n (get_or t (p + 4) 0) (over_in ns s at)) a ∙ d

  pub rows-drawn-done : (n p at : ℕ) (z : Bool) → n ≤ 0 → rows_drawn ns s t n p at ≡ z → true ≡ z
  unfolding rows_drawn
  rows-drawn-done zero p at z l d = d
  rows-drawn-done (suc n) p at z l d = absurd (omega arith)

  -- what the first of such rows says, and those after it
  rows-say : (n p at : ℕ) → rows_drawn ns s t (suc n) p at ≡ true → (get_or t p 0 ≡ at) × (get_or t (p + 1) 0 ≡ moves_at ns s at) × (rows_drawn ns s t n (get_or t (p + 4) 0) (over_in ns s at) ≡ true)
  unfolding rows_drawn row_drawn
  rows-say n p at e =
      let a = (and-eq-true_iff (row_drawn ns s t p at) (rows_drawn ns s t n (get_or t (p + 4) 0) (over_in ns s at))).0 e in
      let b = (and-eq-true_iff (eqb (get_or t p 0) at) (eqb (get_or t (p + 1) 0) (moves_at ns s at))).0 a.0 in
      (eqb-true (get_or t p 0) at b.0, eqb-true (get_or t (p + 1) 0) (moves_at ns s at) b.1, a.1)

  -- they have the names of the states that are drawn
  among-drawn : (x n p at : ℕ) → rows_drawn ns s t n p at ≡ true → is_state_t s t x n p ≡ drawn_state ns s x n at
  unfolding is_state_t drawn_state
  among-drawn x zero p at e = refl
  among-drawn x (suc n) p at e =
      let a = rows-say n p at e in
      λ j. eqb (number_in s (a.0 j)).value x || among-drawn x n (get_or t (p + 4) 0) (over_in ns s at) a.2 j

  -- transitions from them
  moves-aimed : (q p n f : ℕ) → ((x : ℕ) → has_t s t q x ≡ drawn_state ns s x n f) → (k o : ℕ) → moves_checked ns s t q p k o ≡ aimed_checked q p (target_d ns s n f k o)
  unfolding target_d moves_checked aimed_checked with
  moves-aimed q p n f h zero o = refl
  moves-aimed q p n f h (suc k) o =
      let x = number_in s (end_of (expr_in ns s o)) in
      (λ i. cond (h x.value i) (moves-aimed q p n f h k x.next i) (ck.Target p q x.value)) ∙ go (drawn_state ns s x.value n f) (target_d ns s n f k x.next) x.value
    where
      go : (b : Bool) (a : Targets) (x : ℕ) → cond b (aimed_checked q p a) (ck.Target p q x) ≡ aimed_checked q p (cond b a (aim.Stray x))
      go true a x = refl
      go false a x = refl

  -- where nothing is known, nothing is said
  pub none-foreseen : (q n p : ℕ) → AsRecalled ns s t None q n p
  unfolding AsRecalled onward
  none-foreseen q zero p = tt
  none-foreseen q (suc n) p = (tt, none-foreseen q n (get_or t (p + 4) 0))

  rows-foreseen : (q n f : ℕ) → ((x : ℕ) → has_t s t q x ≡ drawn_state ns s x n f) → (m p at : ℕ) → rows_drawn ns s t m p at ≡ true → AsRecalled ns s t (Some (known_of (unknown_from ns s n f m at))) q m p
  unfolding unknown_from unknown_at AsRecalled targets_t aimed_checked with
  rows-foreseen q n f h zero p at d = tt
  rows-foreseen q n f h (suc m) p at d =
      let c = number_in s (moves_at ns s at) in
      let a = rows-say m p at d in
      go (target_d ns s n f c.value c.next) (unknown_from ns s n f m (over_in ns s at))
      (ap (λ (y : ℕ). moves_checked ns s t q p (number_in s y).value (number_in s y).next) a.1 ∙ moves-aimed q p n f h c.value c.next)
      (rows-foreseen q n f h m (get_or t (p + 4) 0) (over_in ns s at) a.2)
    where
      go : (a : Targets) (r : UnknownTarget) → targets_t ns s t q p ≡ aimed_checked q p a → AsRecalled ns s t (Some (known_of r)) q m (get_or t (p + 4) 0)
          → (targets_t ns s t q p ≡ recall_t (known_of (unknown_at a r)) q p) × AsRecalled ns s t (onward (Some (known_of (unknown_at a r)))) q m (get_or t (p + 4) 0)
      go aim.All r e w = (e ∙ foretold-fine (recalled (suc r.fine) r.name) q p (λ z. omega (arith, z)), subst (λ v. AsRecalled ns s t v q m (get_or t (p + 4) 0)) (onward-known r.fine r.name) w)
      go (aim.Stray y) r e w = (e ∙ foretold-stray (recalled 0 y) q p refl, subst (λ v. AsRecalled ns s t v q m (get_or t (p + 4) 0)) (onward-none (recalled 0 y) refl) (none-foreseen q m (get_or t (p + 4) 0)))

  pub all-foreseen : (q n p f x y : ℕ) → n ≡ get_or t (q + 6) 0 → (0 < get_or t (q + 6) 0 → p ≡ q + 9) → unknown_target_d ns s n f ≡ unknown_targets x y → true ≡ rows_drawn ns s t n p f → AsRecalled ns s t (Some (recalled x y)) q (get_or t (q + 6) 0) (q + 9)
  unfolding unknown_target_d has_t AsRecalled
  all-foreseen q zero p f x y a g c d = subst (λ (z : ℕ). AsRecalled ns s t (Some (recalled x y)) q z (q + 9)) a tt
  all-foreseen q (suc n) p f x y a g c d =
      let k : p ≡ q + 9 = g (omega (arith, a)) in
      let h : rows_drawn ns s t (suc n) (q + 9) f ≡ true = ap (λ (z : ℕ). rows_drawn ns s t (suc n) z f) (sym k) ∙ sym d in
      let w = rows-foreseen q (suc n) f (λ x. ap (λ (z : ℕ). is_state_t s t x z (q + 9)) (sym a) ∙ among-drawn x (suc n) (q + 9) f h) (suc n) (q + 9) f h in
      subst (λ (z : ℕ). AsRecalled ns s t (Some (recalled x y)) q z (q + 9)) a (subst (λ (v : TargetMemo). AsRecalled ns s t (Some v) q (suc n) (q + 9)) (ap known_of c) w)

  -- rows one by one
  pub foreseen-one : (v : Option TargetMemo) (q n p : ℕ) → 0 < n → AsRecalled ns s t v q n p → IfSome v (λ m. targets_t ns s t q p ≡ recall_t m q p)
  unfolding AsRecalled
  foreseen-one v q zero p l h = absurd (omega arith)
  foreseen-one v q (suc n) p l h = h.0

  pub foreseen-went : (v w : Option TargetMemo) (q n p o : ℕ) → 0 < n → w ≡ onward v → o ≡ get_or t (p + 4) 0 → AsRecalled ns s t v q n p → AsRecalled ns s t w q (n - 1) o
  unfolding AsRecalled
  foreseen-went v w q zero p o l e a h = absurd (omega arith)
  foreseen-went v w q (suc n) p o l e a h =
      let m : suc n - 1 ≡ n = omega arith in
      rw (m, a, e) h.1

  -- where there are none, it is the same from any word
  pub foreseen-from : (v : Option TargetMemo) (q m n p o : ℕ) → n ≡ m → (0 < m → p ≡ o) → AsRecalled ns s t v q m o → AsRecalled ns s t v q n p
  unfolding AsRecalled
  foreseen-from v q m zero p o a b h = tt
  foreseen-from v q m (suc n) p o a b h =
      let c : p ≡ o = b (omega arith) in
      subst (λ (x : ℕ). AsRecalled ns s t v q x p) (sym a) (subst (AsRecalled ns s t v q m) (sym c) h)

-- Laws for the code that numbers holders and makes them known, step by step.
use Prim.Native.Nat.{ℕ, suc, ◌+◌, ◌-◌, ◌<◌, ◌≤◌}
use native.Mathlib.Omega.{arith}
use mathlib.Core.List.{List}
use mathlib.Core.Bool.{Bool, true, false, cond}
use mathlib.Core.Path.{◌≡◌, refl, sym, ap, ◌∙◌}
use lib.Dec.{eqb}
use Rattle.pack_rules.specs.Names.{Name}
use Rattle.machines.proofs.CheckedReadLaws.{no, yes}
use Rattle.activations.specs.declared.pack_info.PackInfo.{PackInfo}
use Rattle.activations.specs.TypeCodes.{typed_t}
use Rattle.activations.specs.LastsAt.{word_t}
use Rattle.activations.specs.TypeHoldersAt.{Hold, hold_code, hold_from, hold_of, hold_row, holder_t, known_t, needs_t}

module _ (ns : List Name) (old s : List ℕ) (b : PackInfo) (offsets : List ℕ) (a : Name) (outs : List ℕ) where
  at_row : (h v c : ℕ) (e d : List ℕ) (z : Hold) → v ≡ word_t d h 0 → c ≡ typed_t e outs b.names v → z ≡ hold_code ns old s b offsets a outs h v c e d → z ≡ hold_row ns old s b offsets a outs h e d
  unfolding hold_row
  at_row h v c e d z f g i = i ∙ (λ j. hold_code ns old s b offsets a outs h v (g j) e d) ∙ (λ j. hold_code ns old s b offsets a outs h (f j) (typed_t e outs b.names (f j)) e d)

  code-unknown : (h v c : ℕ) (e d : List ℕ) → c ≡ 0 → hold_of e d 15 v ≡ hold_code ns old s b offsets a outs h v c e d
  unfolding hold_code
  code-unknown h v c e d f = yes c 0 _ _ _ f refl

  code-needs : (h v c i : ℕ) (r : Bool) (e d : List ℕ) → (c ≡ 0 → ⊥) → i ≡ word_t d h 1 → r ≡ needs_t ns s b offsets i c → r ≡ true → hold_of e d 16 v ≡ hold_code ns old s b offsets a outs h v c e d
  unfolding hold_code
  code-needs h v c i r e d f g k l = no c 0 _ _ _ f (ap (λ y. cond y (hold_of e d 16 v) (known_t h v c (holder_t old s b offsets a v) e d)) (sym l ∙ k ∙ ap (λ y. needs_t ns s b offsets y c) g))

  code-known : (h v c i : ℕ) (r : Bool) (e d : List ℕ) (z : Hold) → (c ≡ 0 → ⊥) → i ≡ word_t d h 1 → r ≡ needs_t ns s b offsets i c → r ≡ false → z ≡ known_t h v c (holder_t old s b offsets a v) e d → z ≡ hold_code ns old s b offsets a outs h v c e d
  unfolding hold_code
  code-known h v c i r e d z f g k l m = no c 0 _ _ _ f (m ∙ ap (λ y. cond y (hold_of e d 16 v) (known_t h v c (holder_t old s b offsets a v) e d)) (sym l ∙ k ∙ ap (λ y. needs_t ns s b offsets y c) g))

  pub row-unknown : (h v c : ℕ) (e d : List ℕ) → v ≡ word_t d h 0 → c ≡ typed_t e outs b.names v → c ≡ 0 → hold_of e d 15 v ≡ hold_row ns old s b offsets a outs h e d
  row-unknown h v c e d f g k = at_row h v c e d _ f g (code-unknown h v c e d k)

  pub row-needs : (h v c i : ℕ) (r : Bool) (e d : List ℕ) → v ≡ word_t d h 0 → c ≡ typed_t e outs b.names v → (c ≡ 0 → ⊥) → i ≡ word_t d h 1 → r ≡ needs_t ns s b offsets i c → r ≡ true → hold_of e d 16 v ≡ hold_row ns old s b offsets a outs h e d
  row-needs h v c i r e d f g k l m n = at_row h v c e d _ f g (code-needs h v c i r e d k l m n)

  pub row-known : (h v c i : ℕ) (r : Bool) (e d : List ℕ) (z : Hold) → v ≡ word_t d h 0 → c ≡ typed_t e outs b.names v → (c ≡ 0 → ⊥) → i ≡ word_t d h 1 → r ≡ needs_t ns s b offsets i c → r ≡ false → z ≡ known_t h v c (holder_t old s b offsets a v) e d → z ≡ hold_row ns old s b offsets a outs h e d
  row-known h v c i r e d z f g k l m n o = at_row h v c e d z f g (code-known h v c i r e d z k l m n o)

  -- one row after the other
  pub from_step : (n h : ℕ) (e d : List ℕ) → hold_from ns old s b offsets a outs (suc n) h e d ≡ cond (eqb (hold_row ns old s b offsets a outs h e d).kind 0) (hold_from ns old s b offsets a outs n (suc h) (hold_row ns old s b offsets a outs h e d).env (hold_row ns old s b offsets a outs h e d).held) (hold_row ns old s b offsets a outs h e d)
  unfolding hold_from
  from_step n h e d = refl

  step_of : (n h : ℕ) (e d : List ℕ) (r : Hold) (z : Hold) → h < n → r ≡ hold_row ns old s b offsets a outs h e d → hold_from ns old s b offsets a outs (n - h) h e d ≡ z → cond (eqb r.kind 0) (hold_from ns old s b offsets a outs (n - (h + 1)) (h + 1) r.env r.held) r ≡ z
  step_of n h e d r z l f g =
      let k : n - h ≡ suc (n - (h + 1)) = omega arith in
      let i : h + 1 ≡ suc h = omega arith in
      (λ j. cond (eqb (f j).kind 0) (hold_from ns old s b offsets a outs (n - (h + 1)) (i j) (f j).env (f j).held) (f j))
      ∙ sym (from_step (n - (h + 1)) h e d) ∙ ap (λ y. hold_from ns old s b offsets a outs y h e d) (sym k) ∙ g

  pub from-stop : (n h : ℕ) (e d x y : List ℕ) (k v : ℕ) (z : Hold) → h < n → hold_of x y k v ≡ hold_row ns old s b offsets a outs h e d → (k ≡ 0 → ⊥) → hold_from ns old s b offsets a outs (n - h) h e d ≡ z → hold_of x y k v ≡ z
  from-stop n h e d x y k v z l f g i = no k 0 _ (hold_of x y k v) _ g refl ∙ step_of n h e d (hold_of x y k v) z l f i

  pub from_on : (n h : ℕ) (e d x y : List ℕ) (k v : ℕ) (z : Hold) → h < n → hold_of x y k v ≡ hold_row ns old s b offsets a outs h e d → k ≡ 0 → hold_from ns old s b offsets a outs (n - h) h e d ≡ z → hold_from ns old s b offsets a outs (n - (h + 1)) (h + 1) x y ≡ z
  from_on n h e d x y k v z l f g i = yes k 0 (hold_from ns old s b offsets a outs (n - (h + 1)) (h + 1) x y) _ _ g refl ∙ step_of n h e d (hold_of x y k v) z l f i

  pub from_end : (n h : ℕ) (e d : List ℕ) (z : Hold) → n ≤ h → hold_from ns old s b offsets a outs (n - h) h e d ≡ z → hold_of e d 0 0 ≡ z
  unfolding hold_from
  from_end n h e d z l g = let k : n - h ≡ 0 = omega arith in ap (λ y. hold_from ns old s b offsets a outs y h e d) (sym k) ∙ g

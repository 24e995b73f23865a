-- Laws for the code that resolves on bytes, step by step.
use Prim.Native.Nat.{ℕ, zero, suc, ◌+◌, ◌-◌, ◌<◌, ◌≤◌, max}
use native.Mathlib.Omega.{arith}
use mathlib.Core.List.{List, [], ◌∷◌}
use mathlib.Core.Bool.{Bool, true, false}
use mathlib.Core.Logic.{⊎_elim}
use mathlib.Core.Path.{◌≡◌, refl, sym, ap, ◌∙◌}
use lib.ListN.{get_or}
use types.Run.{OneOf}
use denote.Enum.Declared.{tag_of}
use borrow.Author.Tests.{eq-eqb, le-leb, le-ltb, lt-leb, lt-ltb, ne_eqb}
use Rattle.pack_rules.specs.Names.{Name}
use Rattle.pack_rules.specs.Read.{equations_in, expr_in}
use Rattle.machines.specs.contracts.resolve.Resolved as Walked-enum
use Rattle.machines.specs.declared.resolve.RefineStack.{RefineStack}
use Rattle.wire.specs.declared.answer.Number.{Number}
use Rattle.machines.specs.declared.resolve.Resolved.{Resolved}
use Rattle.machines.specs.declared.resolve.Resolved.TheVariants as wk
use Rattle.machines.specs.ResolvedIn.{end_of}
use Rattle.machines.specs.CheckedReads.{machine_from, num, number_in, region_in, turns, with}
use Rattle.machines.specs.Tables.{len_of}
use Rattle.machines.specs.RefineStack.{on_of, pushed_of, start_of}
use Rattle.machines.specs.ResolveAt.{enter_w, go_on, head_t, len_at, machine_w, qualify_of, refine_w, region_w, rounds, state_w, target_t, walk}
use Rattle.machines.proofs.CheckedReadLaws.{no, on, yes}

-- lengths
pub len-at-is : (s offsets : List ℕ) (at x : ℕ) (i : Number) → i ≡ number_in s at → x ≡ len_of s offsets i.value → x ≡ len_at s offsets at
unfolding len_at
len-at-is s offsets at x i e f = on i _ _ x e f

pub qualify-large : (i w a e d : ℕ) → 255 < i + 1 + w → wk.Large ≡ qualify_of i w a e d
unfolding qualify_of
qualify-large i w a e d h = rw (lt-leb (i + 1 + w) 255 h)

pub qualify-fits : (i w a e d b : ℕ) → i + 1 + w ≤ 255 → b ≡ max a (i + 1 + w) → wk.Went e d b ≡ qualify_of i w a e d
unfolding qualify_of
qualify-fits i w a e d b h x = rw (le-leb (i + 1 + w) 255 h) (ap (wk.Went e d) x)

-- a step that went on, and one that stopped
pub went_on : (v x r : Resolved) (k : ℕ → ℕ → ℕ → Resolved) (q c a : ℕ) → v ≡ wk.Went q c a → v ≡ x → r ≡ k q c a → r ≡ go_on x k
unfolding go_on
went_on v x r k q c a g e f = f ∙ ap (λ y. go_on y k) (sym g ∙ e)

stops : (r : Resolved) (k : ℕ → ℕ → ℕ → Resolved) → OneOf (1 ∷ 2 ∷ 3 ∷ []) (tag_of Walked-enum.the_type r) → r ≡ go_on r k
unfolding go_on
stops (wk.Went q c a) k h = absurd (⊎_elim (λ d. omega arith) (λ d. ⊎_elim (λ f. omega arith) (λ f. omega arith) d) h)
stops (wk.Cycle i) k h = refl
stops (wk.Unknown i m) k h = refl
stops wk.Large k h = refl

pub stopped : (r x : Resolved) (k : ℕ → ℕ → ℕ → Resolved) → OneOf (1 ∷ 2 ∷ 3 ∷ []) (tag_of Walked-enum.the_type r) → r ≡ x → r ≡ go_on x k
stopped r x k h e = stops r k h ∙ ap (λ (y : Resolved). go_on y k) e

-- the loop: one more, one that stopped, the end
pub rounds-went : (k : ℕ → ℕ → Resolved) (n at c a q d w b : ℕ) (e z : Resolved) → 0 < n → e ≡ wk.Went q d w → e ≡ k at c → b ≡ max a w → rounds k n at c a ≡ z → rounds k (n - 1) q d b ≡ z
unfolding rounds go_on
rounds-went k zero at c a q d w b e z l g h x y = absurd (omega arith)
rounds-went k (suc n) at c a q d w b e z l g h x y = let i : suc n - 1 ≡ n = omega arith in rw (i, x) (ap (λ v. go_on v (λ q d w. rounds k n q d (max a w))) (sym g ∙ h) ∙ y)

pub rounds-done : (k : ℕ → ℕ → Resolved) (n at c a : ℕ) (z : Resolved) → n ≤ 0 → rounds k n at c a ≡ z → wk.Went at c a ≡ z
unfolding rounds
rounds-done k zero at c a z l y = y
rounds-done k (suc n) at c a z l y = absurd (omega arith)

rounds-step : (k : ℕ → ℕ → Resolved) (n at c a : ℕ) → 0 < n → rounds k n at c a ≡ go_on (k at c) (λ q d w. rounds k (n - 1) q d (max a w))
unfolding rounds
rounds-step k zero at c a l = absurd (omega arith)
rounds-step k (suc n) at c a l = let i : suc n - 1 ≡ n = omega arith in rw i refl

pub rounds-stopped : (k : ℕ → ℕ → Resolved) (n at c a : ℕ) (e z : Resolved) → 0 < n → OneOf (1 ∷ 2 ∷ 3 ∷ []) (tag_of Walked-enum.the_type e) → e ≡ k at c → rounds k n at c a ≡ z → e ≡ z
rounds-stopped k n at c a e z l t h y = stopped e (k at c) _ t h ∙ sym (rounds-step k n at c a l) ∙ y

-- where a refinement leads
module _ (s offsets to : List ℕ) where
  pub enter-cycle : (p : RefineStack) (i m : ℕ) (o : Bool) → o ≡ on_of p m → o ≡ true → wk.Cycle m ≡ enter_w s offsets to p i m
  unfolding enter_w
  enter-cycle p i m o e f = rw (sym e ∙ f)

  pub enter-unknown : (p : RefineStack) (i m w : ℕ) (o : Bool) → o ≡ on_of p m → o ≡ false → w ≡ get_or to m 0 → w ≡ 0 → wk.Unknown i m ≡ enter_w s offsets to p i m
  unfolding enter_w
  enter-unknown p i m w o e f g h = rw (sym e ∙ f, eq-eqb (get_or to m 0) 0 (sym g ∙ h))

  pub enter-on : (p : RefineStack) (i m w l : ℕ) (o : Bool) (k : Number) → o ≡ on_of p m → o ≡ false → w ≡ get_or to m 0 → (w ≡ 0 → ⊥) → k ≡ machine_from s w → l ≡ len_at s offsets w → wk.Went k.next k.value l ≡ enter_w s offsets to p i m
  unfolding enter_w
  enter-on p i m w l o k e f g h x y =
      rw (sym e ∙ f, ne_eqb (get_or to m 0) 0 (λ q. h (g ∙ q)))
      (on k _ _ _ (x ∙ ap (machine_from s) g) (ap (wk.Went k.next k.value) (y ∙ ap (len_at s offsets) g)))

module _ (ns : List Name) (s offsets : List ℕ) where
  pub target_is : (at x p : ℕ) (i : Number) → p ≡ end_of (expr_in ns s at) → i ≡ number_in s p → x ≡ len_of s offsets i.value → num x i.next ≡ target_t ns s offsets at
  unfolding target_t
  target_is at x p i f g h = on i _ _ _ (g ∙ ap (number_in s) f) (ap (λ y. num y i.next) h)

  pub head-is : (at l p : ℕ) (i t r : Number) → i ≡ number_in s at → p ≡ end_of (equations_in ns s i.next) → t ≡ number_in s p → l ≡ len_of s offsets i.value → r ≡ turns (target_t ns s offsets) max t.value t.next l → r ≡ head_t ns s offsets at
  unfolding head_t
  head-is at l p i t r x y z w v = on i _ _ r x (on t _ _ r (z ∙ ap (number_in s) y) (v ∙ ap (turns (target_t ns s offsets) max t.value t.next) w))

  module _ (to : List ℕ) where
    pub region-on : (rec : RefineStack → ℕ → ℕ → ℕ → Resolved) (p : RefineStack) (at c : ℕ) (g : Number) (r : Resolved) → g ≡ region_in s at → r ≡ go_on (rec p g.value g.next c) (λ q d w. wk.Went q d (max (len_at s offsets at) w)) → r ≡ region_w ns s offsets to rec p at c
    unfolding region_w
    region-on rec p at c g r x y = on g _ _ r x y

    pub refine-plain : (rec : RefineStack → ℕ → ℕ → ℕ → Resolved) (p : RefineStack) (i at c a : ℕ) (f : Number) → f ≡ number_in s at → f.value ≡ 65535 → wk.Went f.next c a ≡ refine_w ns s offsets to rec p i at c a
    unfolding refine_w
    refine-plain rec p i at c a f x e = on f _ _ _ x (yes f.value 65535 _ _ _ e refl)

    pub refine-into : (rec : RefineStack → ℕ → ℕ → ℕ → Resolved) (p : RefineStack) (i at c a : ℕ) (f : Number) (r : Resolved) → f ≡ number_in s at → (f.value ≡ 65535 → ⊥)
        → r ≡ go_on (enter_w s offsets to p i f.value) (λ b k l. go_on (rec (pushed_of p f.value) k b c) (λ q d w. qualify_of (len_of s offsets i) (max l w) a f.next d)) → r ≡ refine_w ns s offsets to rec p i at c a
    unfolding refine_w
    refine-into rec p i at c a f r x e y = on f _ _ _ x (no f.value 65535 _ _ _ e y)

    pub state-large : (rec : RefineStack → ℕ → ℕ → ℕ → Resolved) (p : RefineStack) (at c : ℕ) → 512 ≤ c → wk.Large ≡ state_w ns s offsets to rec p at c
    unfolding state_w
    state-large rec p at c h = rw (le-ltb c 512 h)

    -- from a state's regions on
    pub state-on : (rec : RefineStack → ℕ → ℕ → ℕ → Resolved) (p : RefineStack) (at c : ℕ) (h t : Number) (r : Resolved) → c < 512 → h ≡ head_t ns s offsets at → t ≡ number_in s h.next
        → r ≡ go_on (rounds (region_w ns s offsets to rec p) t.value t.next (c + 1) h.value) (λ z d b. with (number_in s at) λ i x. refine_w ns s offsets to rec p i z d b) → r ≡ state_w ns s offsets to rec p at c
    unfolding state_w
    state-on rec p at c h t r l y z w = rw (lt-ltb c 512 l) (on h _ _ r y (on t _ _ r z w))

    pub walk_none : (l : ℕ) (p : RefineStack) (n at c : ℕ) → l ≡ 0 → wk.Large ≡ walk ns s offsets to l p n at c
    unfolding walk
    walk_none l p n at c e = rw e

    pub walk-some : (l : ℕ) (p : RefineStack) (n at c : ℕ) → (l ≡ 0 → ⊥) → rounds (state_w ns s offsets to (walk ns s offsets to (l - 1)) p) n at c 0 ≡ walk ns s offsets to l p n at c
    unfolding walk
    walk-some zero p n at c h = absurd (h refl)
    walk-some (suc l) p n at c h = let e : suc l - 1 ≡ l = omega arith in rw e refl

    pub machine-walk : (m at : ℕ) (k : Number) (p : RefineStack) (r : Resolved) → k ≡ machine_from s at → p ≡ start_of m → r ≡ walk ns s offsets to 8 p k.value k.next 0 → r ≡ machine_w ns s offsets to m at
    unfolding machine_w
    machine-walk m at k p r x y z = on k _ _ r x (z ∙ ap (λ (q : RefineStack). walk ns s offsets to 8 q k.value k.next 0) y)

pub moved : (rec : RefineStack → ℕ → ℕ → ℕ → Resolved) (p q : RefineStack) (n at c : ℕ) (y : Resolved) → y ≡ rec q n at c → q ≡ p → y ≡ rec p n at c
moved rec p q n at c y e f = e ∙ ap (λ z. rec z n at c) f

pub qualified : (l i x w a e d : ℕ) (r : Resolved) → r ≡ qualify_of l x a e d → l ≡ i → x ≡ w → r ≡ qualify_of i w a e d
qualified l i x w a e d r f g h = cc

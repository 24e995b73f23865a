-- Laws for the code that passes over regions without states at once.
use Prim.Native.Nat.{ℕ, zero, suc, ◌+◌, ◌*◌, ◌-◌, ◌/◌, ◌<◌, ◌≤◌, max}
use native.Mathlib.Omega.{arith}
use mathlib.Core.List.{List, [], ◌∷◌}
use mathlib.Core.Bool.{Bool, true, false, ◌&&◌, and-eq-true_iff}
use mathlib.Core.Logic.{⊎_elim}
use mathlib.Core.Path.{◌≡◌, refl, sym, ap, subst, ◌∙◌}
use lib.ListN.{length}
use lib.Dec.{eqb}
use types.Run.{OneOf}
use denote.Enum.Declared.{tag_of}
use borrow.Author.Tests.{eq-eqb, ne_eqb, le-ltb, lt-ltb, eqb-true, eqb-false}
use Rattle.pack_rules.specs.Names.{Name}
use Rattle.machines.specs.contracts.resolve.Resolved as Walked-enum
use Rattle.machines.specs.declared.resolve.SkippedRegions.{SkippedRegions}
use Rattle.machines.specs.declared.layout.LayoutPos.{LayoutPos}
use Rattle.machines.specs.declared.layout.RegionHead.{RegionHead}
use Rattle.machines.specs.declared.resolve.RefineStack.{RefineStack}
use Rattle.wire.specs.declared.answer.Number.{Number}
use Rattle.machines.specs.declared.resolve.Resolved.{Resolved}
use Rattle.machines.specs.declared.resolve.Resolved.TheVariants as wk
use Rattle.machines.specs.CheckedReads.{num, region_in, with}
use Rattle.machines.specs.ResolveAt.{go_on, len_at, region_w, rounds, walk}
use Rattle.machines.specs.LayoutAt.{Board, board, fed, inner, layout_region, moved_to, opening, passed, region_b, region_from, tally}
use Rattle.machines.specs.Memo.{beside_in, kept_in, mark_in, of_empty}
use Rattle.machines.specs.EmptyRegions.{AtOnce, EmptyRun, empty_at, empty_d, longest_d, opened_of, taken, taken_of}
use Rattle.machines.specs.MemoSound.{MemoSound, RowsSound}
use Rattle.machines.proofs.CheckedReadLaws.{on}
use Rattle.machines.proofs.MemoSoundLaws.{row_kept}
use Rattle.machines.proofs.LayoutLaws.{inner-went, region-left, region-on as Laid-on}
use Rattle.machines.proofs.ResolveLaws.{region-on, rounds-stopped, rounds-went, stopped, went_on}

larger_none : (a : ℕ) → max a 0 ≡ a
larger_none a = omega arith

longest-from : (s offsets : List ℕ) (k o a : ℕ) → longest_d s offsets k o a ≡ max a (longest_d s offsets k o 0)
unfolding longest_d
longest-from s offsets zero o a = omega arith
longest-from s offsets (suc k) o a =
    let x = longest-from s offsets k (o + 5) (max a (len_at s offsets o)) in
    let y = longest-from s offsets k (o + 5) (max 0 (len_at s offsets o)) in
    omega arith

-- one region without states, and its offsets
pub empty-is : (at : ℕ) (g : Number) (x y r : Bool) → 5 ≤ g.next → x ≡ eqb g.value 0 → y ≡ eqb (g.next - 5) at → r ≡ (x && y) → r ≡ empty_at at g
unfolding empty_at
empty-is at g x y r l a b c = c ∙ (λ i. a i && (b ∙ go (eqb (g.next - 5) at) refl) i)
  where
    go : (z : Bool) → eqb (g.next - 5) at ≡ z → eqb (g.next - 5) at ≡ eqb g.next (at + 5)
    go true e = e ∙ sym (eq-eqb g.next (at + 5) (omega (arith, l, eqb-true (g.next - 5) at e)))
    go false e = e ∙ sym (ne_eqb g.next (at + 5) (λ h. eqb-false (g.next - 5) at e (omega (arith, h))))

and_no : (a : Bool) → (a && false) ≡ false
and_no true = refl
and_no false = refl

pub empty-not : (at : ℕ) (g : Number) → g.next < 5 → false ≡ empty_at at g
unfolding empty_at
empty-not at g l = sym (ap (◌&&◌ (eqb g.value 0)) (ne_eqb g.next (at + 5) (λ h. omega (arith, h, l))) ∙ and_no (eqb g.value 0))

empty-parts : (at : ℕ) (g : Number) → empty_at at g ≡ true → (g.value ≡ 0) × (g.next ≡ at + 5)
unfolding empty_at
empty-parts at g e = let h = (and-eq-true_iff (eqb g.value 0) (eqb g.next (at + 5))).0 e in (eqb-true g.value 0 h.0, eqb-true g.next (at + 5) h.1)

-- the loop that counts them: those seen are without states, and so are all with those that follow
unfoldable pub SeenBefore : List ℕ → List ℕ → ℕ → ℕ → ℕ → ℕ → Type 0
SeenBefore s offsets from k l p = (r : ℕ) → (empty_d s r p ≡ true → empty_d s (k + r) from ≡ true) × (longest_d s offsets r p l ≡ longest_d s offsets (k + r) from 0)

pub seen_none : (s offsets : List ℕ) (from : ℕ) → SeenBefore s offsets from 0 0 from
unfolding SeenBefore
seen_none s offsets from r = let v : r ≡ 0 + r = omega arith in (λ e. subst (λ (y : ℕ). empty_d s y from ≡ true) v e, ap (λ (y : ℕ). longest_d s offsets y from 0) v)

pub seen_more : (s offsets : List ℕ) (from k l p m n : ℕ) (g : Number) (b : Bool) → g ≡ region_in s p → b ≡ empty_at p g → b ≡ true → m ≡ len_at s offsets p → n ≡ max l m → SeenBefore s offsets from k l p → SeenBefore s offsets from (k + 1) n g.next
unfolding SeenBefore empty_d longest_d
seen_more s offsets from k l p m n g b a c d e f h r =
    let w = empty-parts p g (sym c ∙ d) in
    let v : k + suc r ≡ k + 1 + r = omega arith in
    let i = h (suc r) in (
      λ x. subst (λ (y : ℕ). empty_d s y from ≡ true) v (i.0 (rw (sym (ap (empty_at p) a) ∙ sym c ∙ d) (subst (λ (y : ℕ). empty_d s r y ≡ true) w.1 x))),
      (λ j. longest_d s offsets r (w.1 j) ((f ∙ ap (max l) e) j)) ∙ i.1 ∙ ap (λ (y : ℕ). longest_d s offsets y from 0) v,
    )

pub seen_all : (s offsets : List ℕ) (from n k l p : ℕ) → k ≤ n → SeenBefore s offsets from k l p → EmptyRun s offsets n from (record { count = k; longest = l })
unfolding SeenBefore empty_d longest_d
seen_all s offsets from n k l p f h =
    let v : k + 0 ≡ k = omega arith in
    let i = h 0 in
    record { few = f; none = subst (λ (y : ℕ). empty_d s y from ≡ true) v (i.0 refl); longest = i.1 ∙ ap (λ (y : ℕ). longest_d s offsets y from 0) v }

-- several at once are those that are kept
pub one-at-once : (t : List ℕ) (n at : ℕ) → 0 < n → AtOnce t n at 1
one-at-once t n at h = record { some = omega arith; few = omega (arith, h); small = omega arith; kept = λ l. absurd (omega (arith, l)) }

kept_near : (t : List ℕ) (p k : ℕ) → k ≡ kept_in t p of_empty → 0 < k → p < 65536
kept_near t p k e l = row_kept (λ (x : ℕ). p < 65536) t p of_empty k e l (λ i z m. i)

pub once-near : (t : List ℕ) (n at k : ℕ) → AtOnce t n at k → (k < 65536) × (1 < k → at < 65536)
once-near t n at k h = (h.small, λ l. kept_near t at k (h.kept l) (omega (arith, l)))

module _ (ns : List Name) (s : List ℕ) (names : ℕ) (t : List ℕ) where
  empties-kept : length ns ≡ names → RowsSound s names t → (p k : ℕ) → k ≡ kept_in t p of_empty → 0 < k → empty_d s k p ≡ true
  empties-kept n h p k e l = row_kept (λ (x : ℕ). empty_d s x p ≡ true) t p of_empty k e l (λ i z m. (h.rows ns n p i z).empty m)

initials-kept : (s : List ℕ) (names : ℕ) (offsets t : List ℕ) → MemoSound s names offsets t → (p k : ℕ) → k ≡ kept_in t p of_empty → 0 < k → beside_in t p ≡ longest_d s offsets k p 0
unfolding beside_in
initials-kept s names offsets t h p k e l = row_kept (λ (x : ℕ). mark_in t p / 32 ≡ longest_d s offsets x p 0) t p of_empty k e l (h.empties p)

-- what is taken of them
pub taken-one : (s offsets t : List ℕ) (k at l : ℕ) (g : Number) → k < 2 → g ≡ region_in s at → l ≡ len_at s offsets at → taken g.value g.next l ≡ taken_of s offsets t k at
unfolding taken_of
taken-one s offsets t k at l g e a b = rw (lt-ltb k 2 e) (on g _ _ _ a (ap (taken g.value g.next) b))

pub taken_more : (s offsets t : List ℕ) (k at l : ℕ) → 2 ≤ k → l ≡ beside_in t at → taken 0 (at + 5 * k) l ≡ taken_of s offsets t k at
unfolding taken_of
taken_more s offsets t k at l e b = rw (le-ltb k 2 e) (ap (taken 0 (at + 5 * k)) b)

pub opened_one : (s : List ℕ) (k at : ℕ) (h : RegionHead) → k < 2 → h ≡ region_from s at → h ≡ opened_of s k at
unfolding opened_of
opened_one s k at h e a = rw (lt-ltb k 2 e) a

pub opened-more : (s : List ℕ) (k at : ℕ) → 2 ≤ k → opening 0 0 0 (at + 5 * k) ≡ opened_of s k at
unfolding opened_of
opened-more s k at e = rw (le-ltb k 2 e) refl

-- what walking states came to, where it went on
unfoldable Goes : Resolved → Type 0
Goes (wk.Went q c a) = Unit {0}
Goes (wk.Cycle i) = ⊥
Goes (wk.Unknown i m) = ⊥
Goes wk.Large = ⊥

unfoldable next_of : Resolved → ℕ
next_of (wk.Went q c a) = q
next_of (wk.Cycle i) = 0
next_of (wk.Unknown i m) = 0
next_of wk.Large = 0

unfoldable states_of : Resolved → ℕ
states_of (wk.Went q c a) = c
states_of (wk.Cycle i) = 0
states_of (wk.Unknown i m) = 0
states_of wk.Large = 0

unfoldable longest_of : Resolved → ℕ
longest_of (wk.Went q c a) = a
longest_of (wk.Cycle i) = 0
longest_of (wk.Unknown i m) = 0
longest_of wk.Large = 0

went-not : (e : Resolved) (q c a : ℕ) → OneOf (1 ∷ 2 ∷ 3 ∷ []) (tag_of Walked-enum.the_type e) → e ≡ wk.Went q c a → ⊥
went-not e q c a h g = ⊎_elim (λ d. omega arith) (λ d. ⊎_elim (λ f. omega arith) (λ f. omega arith) d) (subst (λ (x : Resolved). OneOf (1 ∷ 2 ∷ 3 ∷ []) (tag_of Walked-enum.the_type x)) g h)

-- several regions without states are passed, where walking their states goes on at all
module _ (ns : List Name) (s offsets to : List ℕ) (l : ℕ) (p : RefineStack) where
  one-passed : (o c : ℕ) → empty_at o (region_in s o) ≡ true → region_w ns s offsets to (walk ns s offsets to (suc l)) p o c ≡ wk.Went (o + 5) c (len_at s offsets o)
  unfolding with region_w walk rounds go_on
  one-passed o c e =
      let w = empty-parts o (region_in s o) e in
      (λ i. go_on (walk ns s offsets to (suc l) p (w.0 i) (w.1 i) c) (λ q d x. wk.Went q d (max (len_at s offsets o) x))) ∙ ap (wk.Went (o + 5) c) (larger_none (len_at s offsets o))

  run-rounds : (k n o c a : ℕ) → k ≤ n → empty_d s k o ≡ true
      → rounds (region_w ns s offsets to (walk ns s offsets to (suc l)) p) n o c a ≡ rounds (region_w ns s offsets to (walk ns s offsets to (suc l)) p) (n - k) (o + 5 * k) c (longest_d s offsets k o a)
  unfolding empty_d longest_d rounds go_on
  run-rounds zero n o c a f e = let u : n ≡ n - 0 = omega arith in let v : o ≡ o + 5 * 0 = omega arith in λ i. rounds (region_w ns s offsets to (walk ns s offsets to (suc l)) p) (u i) (v i) c a
  run-rounds (suc k) zero o c a f e = absurd (omega (arith, f))
  run-rounds (suc k) (suc n) o c a f e =
      let w = (and-eq-true_iff (empty_at o (region_in s o)) (empty_d s k (o + 5))).0 e in
      let u : n - k ≡ suc n - suc k = omega arith in
      let v : o + 5 + 5 * k ≡ o + 5 * suc k = omega arith in
      ap (λ (x : Resolved). go_on x (λ q d y. rounds (region_w ns s offsets to (walk ns s offsets to (suc l)) p) n q d (max a y))) (one-passed o c w.0)
      ∙ run-rounds k n (o + 5) c (max a (len_at s offsets o)) (omega (arith, f)) w.1
      ∙ (λ i. rounds (region_w ns s offsets to (walk ns s offsets to (suc l)) p) (u i) (v i) c (longest_d s offsets k (o + 5) (max a (len_at s offsets o))))

-- the loop over regions, several at a time: one step more, and one that stopped
module _ (ns : List Name) (s : List ℕ) (names : ℕ) (offsets to t : List ℕ) (same : length ns ≡ names) (right : MemoSound s names offsets t) where
  several : (l : ℕ) (p : RefineStack) (n k o c a q d w b : ℕ) (g : SkippedRegions) (e : Resolved) → 1 < k → AtOnce t n o k → g ≡ taken_of s offsets t k o → e ≡ walk ns s offsets to l p g.states g.next c → e ≡ wk.Went q d w → b ≡ max a (max g.longest w)
      → rounds (region_w ns s offsets to (walk ns s offsets to l) p) n o c a ≡ rounds (region_w ns s offsets to (walk ns s offsets to l) p) (n - k) q d b
  unfolding walk rounds Goes next_of states_of longest_of
  several zero p n k o c a q d w b g e m h x y z v = absurd (subst Goes (sym z ∙ y) tt)
  several (suc l) p n k o c a q d w b g e m h x y z v =
      let f = x ∙ sym (taken_more s offsets t k o (beside_in t o) (omega (arith, m)) refl) in
      let r : wk.Went q d w ≡ wk.Went (o + 5 * k) c 0 = sym z ∙ y ∙ (λ i. walk ns s offsets to (suc l) p (f i).states (f i).next c) in
      let i : longest_d s offsets k o a ≡ b = longest-from s offsets k o a ∙ sym (v ∙ (λ j. max a (max ((ap (λ (x : SkippedRegions). x.longest) f ∙ initials-kept s names offsets t right o k (h.kept m) (omega (arith, m))) j) (ap longest_of r j))) ∙ ap (max a) (larger_none (longest_d s offsets k o 0))) in
      run-rounds ns s offsets to l p k n o c a h.few (empties-kept ns s names t same right.ends o k (h.kept m) (omega (arith, m)))
      ∙ (λ j. rounds (region_w ns s offsets to (walk ns s offsets to (suc l)) p) (n - k) (ap next_of (sym r) j) (ap states_of (sym r) j) (i j))

  pub taken-went : (l : ℕ) (p : RefineStack) (n k o c a q d w b x : ℕ) (g : SkippedRegions) (e z : Resolved) → AtOnce t n o k → g ≡ taken_of s offsets t k o → e ≡ walk ns s offsets to l p g.states g.next c → e ≡ wk.Went q d w → x ≡ max g.longest w → b ≡ max a x
      → rounds (region_w ns s offsets to (walk ns s offsets to l) p) n o c a ≡ z → rounds (region_w ns s offsets to (walk ns s offsets to l) p) (n - k) q d b ≡ z
  taken-went l p n k o c a q d w b x g e z h f y v i j r = go (eqb k 1) refl
    where
      go : (m : Bool) → eqb k 1 ≡ m → rounds (region_w ns s offsets to (walk ns s offsets to l) p) (n - k) q d b ≡ z
      go true u =
          let one = eqb-true k 1 u in
          let made = f ∙ sym (taken-one s offsets t k o (len_at s offsets o) (region_in s o) (omega (arith, one)) refl refl) in
          ap (λ (y : ℕ). rounds (region_w ns s offsets to (walk ns s offsets to l) p) (n - y) q d b) one
          ∙ rounds-went (region_w ns s offsets to (walk ns s offsets to l) p) n o c a q d x b (wk.Went q d x) z (omega (arith, h.some, h.few)) refl
          (region-on ns s offsets to (walk ns s offsets to l) p o c (num g.states g.next) (wk.Went q d x) (λ m. num (made m).states (made m).next) (went_on e _ _ _ q d w v y (ap (wk.Went q d) (i ∙ ap (λ (y : SkippedRegions). max y.longest w) made)))) j r
      go false u =
          let many : 1 < k = omega (arith, h.some, eqb-false k 1 u) in
          sym (several l p n k o c a q d w b g e many h f y v (j ∙ ap (max a) i)) ∙ r

  pub taken-stopped : (l : ℕ) (p : RefineStack) (n k o c a : ℕ) (g : SkippedRegions) (e z : Resolved) → AtOnce t n o k → g ≡ taken_of s offsets t k o → e ≡ walk ns s offsets to l p g.states g.next c → OneOf (1 ∷ 2 ∷ 3 ∷ []) (tag_of Walked-enum.the_type e)
      → rounds (region_w ns s offsets to (walk ns s offsets to l) p) n o c a ≡ z → e ≡ z
  unfolding with walk rounds region_w go_on
  taken-stopped l p n k o c a g e z h f y v r = go l (eqb k 1) refl y r
    where
      go : (l : ℕ) (m : Bool) → eqb k 1 ≡ m → e ≡ walk ns s offsets to l p g.states g.next c → rounds (region_w ns s offsets to (walk ns s offsets to l) p) n o c a ≡ z → e ≡ z
      go l true u y r =
          let made = f ∙ sym (taken-one s offsets t k o (len_at s offsets o) (region_in s o) (omega (arith, eqb-true k 1 u)) refl refl) in
          rounds-stopped (region_w ns s offsets to (walk ns s offsets to l) p) n o c a e z (omega (arith, h.some, h.few)) v
          (region-on ns s offsets to (walk ns s offsets to l) p o c (num g.states g.next) e (λ m. num (made m).states (made m).next) (stopped e _ _ v y)) r
      go zero false u y r = rounds-stopped (region_w ns s offsets to (walk ns s offsets to 0) p) n o c a e z (omega (arith, h.some, h.few)) v y r
      go (suc l) false u y r =
          let many : 1 < k = omega (arith, h.some, eqb-false k 1 u) in
          let made = f ∙ sym (taken_more s offsets t k o (beside_in t o) (omega (arith, many)) refl) in
          absurd (went-not e (o + 5 * k) c 0 v (y ∙ (λ i. walk ns s offsets to (suc l) p (made i).states (made i).next c)))

tally-same : (k w : ℕ) → tally k w w ≡ k
unfolding tally
tally-same k w = rw (eq-eqb w w refl) refl

left_at : (ns : List Name) (s offsets to : List ℕ) (l st up a m : ℕ) (h : RegionHead) (b : Board) (q : ℕ) → h.states ≡ 0 → h.next ≡ q → b.c.hole ≡ true → layout_region ns s offsets to (suc l) st up a m h b ≡ passed q b
unfolding passed
left_at ns s offsets to l st up a m h b q e f g =
    sym (region-left ns s offsets to (suc l) st up a m h b.t b.reg b.qualified b.c (moved_to q b.c) (eqb h.states 0 && b.c.hole) (λ x. omega (arith, x)) refl (λ i. eqb (e i) 0 && g i) (ap (λ (x : ℕ). moved_to x b.c) (sym f)))

-- the same where they are laid out, after one without states was met
module _ (ns : List Name) (s offsets to : List ℕ) (l st up a m : ℕ) where
  one_left : (b : Board) → b.c.hole ≡ true → empty_at b.c.next (region_in s b.c.next) ≡ true → region_b ns s offsets to (layout_region ns s offsets to (suc l)) st up a m b ≡ passed (b.c.next + 5) b
  unfolding with region_b region_from region_in
  one_left b h e =
      let w = empty-parts b.c.next (region_in s b.c.next) e in
      left_at ns s offsets to l st up a m (region_from s b.c.next) b (b.c.next + 5) w.0 w.1 h

  run-inner : (k n j : ℕ) (b : Board) (f : ℕ → Board → Board) → k ≤ n → b.c.hole ≡ true → empty_d s k b.c.next ≡ true
      → inner (region_b ns s offsets to (layout_region ns s offsets to (suc l)) st up a m) n j b f ≡ inner (region_b ns s offsets to (layout_region ns s offsets to (suc l)) st up a m) (n - k) j (passed (b.c.next + 5 * k) b) f
  unfolding empty_d inner fed passed moved_to
  run-inner zero n j b f g h e = let u : n ≡ n - 0 = omega arith in let v : b.c.next ≡ b.c.next + 5 * 0 = omega arith in λ i. inner (region_b ns s offsets to (layout_region ns s offsets to (suc l)) st up a m) (u i) j (passed (v i) b) f
  run-inner (suc k) zero j b f g h e = absurd (omega (arith, g))
  run-inner (suc k) (suc n) j b f g h e =
      let w = (and-eq-true_iff (empty_at b.c.next (region_in s b.c.next)) (empty_d s k (b.c.next + 5))).0 e in
      let u : n - k ≡ suc n - suc k = omega arith in
      let v : b.c.next + 5 + 5 * k ≡ b.c.next + 5 * suc k = omega arith in
      ap (λ (x : Board). inner (region_b ns s offsets to (layout_region ns s offsets to (suc l)) st up a m) n (tally j b.c.words x.c.words) x f) (one_left b h w.0)
      ∙ ap (λ (x : ℕ). inner (region_b ns s offsets to (layout_region ns s offsets to (suc l)) st up a m) n x (passed (b.c.next + 5) b) f) (tally-same j b.c.words)
      ∙ run-inner k n j (passed (b.c.next + 5) b) f (omega (arith, g)) h w.1
      ∙ (λ i. inner (region_b ns s offsets to (layout_region ns s offsets to (suc l)) st up a m) (u i) j (passed (v i) b) f)

-- the loop over regions that are laid out, several at a time
module _ (ns : List Name) (s : List ℕ) (names : ℕ) (offsets to t : List ℕ) (same : length ns ≡ names) (right : RowsSound s names t) where
  opened-went : (l st up a m n k j i : ℕ) (b d z : Board) (h : RegionHead) (f : ℕ → Board → Board) → AtOnce t n b.c.next k → (1 < k → (0 < l) × (b.c.hole ≡ true)) → h ≡ opened_of s k b.c.next → d ≡ layout_region ns s offsets to l st up a m h b
      → i ≡ tally j b.c.words d.c.words → inner (region_b ns s offsets to (layout_region ns s offsets to l) st up a m) n j b f ≡ z → inner (region_b ns s offsets to (layout_region ns s offsets to l) st up a m) (n - k) i d f ≡ z
  unfolding passed moved_to
  opened-went l st up a m n k j i b d z h f o g x y v r = go l (eqb k 1) refl g y r
    where
      go : (l : ℕ) (u : Bool) → eqb k 1 ≡ u → (1 < k → (0 < l) × (b.c.hole ≡ true)) → d ≡ layout_region ns s offsets to l st up a m h b → inner (region_b ns s offsets to (layout_region ns s offsets to l) st up a m) n j b f ≡ z
          → inner (region_b ns s offsets to (layout_region ns s offsets to l) st up a m) (n - k) i d f ≡ z
      go l true u g y r =
          let one = eqb-true k 1 u in
          ap (λ (q : ℕ). inner (region_b ns s offsets to (layout_region ns s offsets to l) st up a m) (n - q) i d f) one
          ∙ inner-went (region_b ns s offsets to (layout_region ns s offsets to l) st up a m) n j i b d z f (omega (arith, o.some, o.few))
          (Laid-on ns s offsets to (layout_region ns s offsets to l) st up a m b d h (x ∙ sym (opened_one s k b.c.next (region_from s b.c.next) (omega (arith, one)) refl)) y) v r
      go zero false u g y r = absurd (omega (arith, (g (omega (arith, o.some, eqb-false k 1 u))).0))
      go (suc l) false u g y r =
          let many : 1 < k = omega (arith, o.some, eqb-false k 1 u) in
          let met = (g many).1 in
          let made : d ≡ passed (b.c.next + 5 * k) b = y ∙ ap (λ (q : RegionHead). layout_region ns s offsets to (suc l) st up a m q b) (x ∙ sym (opened-more s k b.c.next (omega (arith, many)))) ∙ left_at ns s offsets to l st up a m (opening 0 0 0 (b.c.next + 5 * k)) b (b.c.next + 5 * k) refl refl met in
          (λ q. inner (region_b ns s offsets to (layout_region ns s offsets to (suc l)) st up a m) (n - k) ((v ∙ ap (λ (w : Board). tally j b.c.words w.c.words) made ∙ tally-same j b.c.words) q) (made q) f)
          ∙ sym (run-inner ns s offsets to l st up a m k n j b f o.few met (empties-kept ns s names t same right b.c.next k (o.kept many) (omega (arith, many)))) ∙ r

  pub opened-on : (l st up a m n k j i : ℕ) (t1 reg1 lets1 t2 reg2 lets2 : List ℕ) (e d : LayoutPos) (h : RegionHead) (f : ℕ → Board → Board) → AtOnce t n e.next k → (1 < k → (0 < l) × (e.hole ≡ true)) → h ≡ opened_of s k e.next
      → board t2 reg2 lets2 d ≡ layout_region ns s offsets to l st up a m h (board t1 reg1 lets1 e) → i ≡ tally j e.words d.words
      → inner (region_b ns s offsets to (layout_region ns s offsets to l) st up a m) (n - k) i (board t2 reg2 lets2 d) f ≡ inner (region_b ns s offsets to (layout_region ns s offsets to l) st up a m) n j (board t1 reg1 lets1 e) f
  opened-on l st up a m n k j i t1 reg1 lets1 t2 reg2 lets2 e d h f o g x y v = opened-went l st up a m n k j i (board t1 reg1 lets1 e) (board t2 reg2 lets2 d) _ h f o g x y v refl

-- Laws for the code that writes the report of all machines, step by step.
use Prim.Native.Nat.{ℕ, suc, ◌+◌, ◌-◌, ◌<◌, ◌≤◌}
use native.Mathlib.Numerals.{add-one}
use native.Mathlib.Omega.{arith}
use mathlib.Core.List.{List, [], ◌++◌}
use mathlib.Core.Bool.{Bool, true, false, cond}
use mathlib.Core.Path.{◌≡◌, refl, sym, ap, ◌∙◌}
use lib.ListN.{length, get_or, length-append}
use lib.Dec.{eqb}
use borrow.Author.Tests.{eq-eqb, eqb-true, ne_eqb}
use Rattle.wire.specs.Bytes.{two}
use Rattle.pack_rules.specs.Limits.{absent}
use Rattle.pack_rules.specs.Names.{Name}
use Rattle.wire.specs.Writer.{overwritten}
use Rattle.std.specs.Prelude.{Err}
use Rattle.machines.specs.declared.verdicts.Refusal.TheVariants as no
use Rattle.machines.specs.declared.verdicts.VerdictRow.{VerdictRow}
use Rattle.wire.specs.declared.answer.Number.{Number}
use Rattle.machines.specs.CheckedReads.{number_in}
use Rattle.machines.specs.ReportEntries.{entry_bytes}
use Rattle.machines.specs.VerdictAt.{Judged, board_at, judge_at}
use Rattle.machines.specs.EmitMachineAt.{Long}
use Rattle.machines.specs.ReportAt.{judged_bytes, judged_row, Enters, EntersAll, RoomAt, RoomForAll, bytes_t, entry_t, letters_t, of_refused, refusal_t, refused_entry_t}
use Rattle.machines.proofs.EntryLaws.{entry-most}
use Rattle.machines.proofs.Overwriting.{over-more, over_none, over-then}

-- an entry is not longer than two names of the letters and three of the pack may be
pub entry-fits : (s offsets qualified : List ℕ) (m k : ℕ) (j : VerdictRow) → length s ≤ 65536 → length qualified ≤ 4294967296 → k ≡ length (entry_bytes s offsets qualified m j) → k ≤ 34359738368
entry-fits s offsets qualified m k j a b e = let x = entry-most s offsets qualified m j k e in omega arith

module _ (ns : List Name) (s offsets to defs regcounts : List ℕ) (i : ℕ) (t reg qualified : List ℕ) where
  module _ (at g : ℕ) (a : at ≡ get_or defs i 0) (b : g ≡ get_or regcounts i 0) where
    pub refusal-again : (j : Judged) → g ≡ 0 → j ≡ judge_at ns s offsets to at t reg qualified → j ≡ refusal_t ns s offsets to defs regcounts i t reg qualified
    unfolding refusal_t
    refusal-again j e f = let h : get_or regcounts i 0 ≡ 0 = sym b ∙ e in rw (eq-eqb (get_or regcounts i 0) 0 h) (f ∙ ap (λ y. judge_at ns s offsets to y t reg qualified) a)

    pub letters-again : (l : List ℕ) → g ≡ 0 → l ≡ (board_at ns s offsets to at t reg qualified).qualified → l ≡ letters_t ns s offsets to defs regcounts i t reg qualified
    unfolding letters_t
    letters-again l e f = let h : get_or regcounts i 0 ≡ 0 = sym b ∙ e in rw (eq-eqb (get_or regcounts i 0) 0 h) (f ∙ ap (λ y. (board_at ns s offsets to y t reg qualified).qualified) a)

    pub refusal-owner : (m o : Number) → (g ≡ 0 → ⊥) → m ≡ number_in s at → o ≡ number_in s m.next → Err (no.UnknownOwner o.value) ≡ refusal_t ns s offsets to defs regcounts i t reg qualified
    unfolding refusal_t
    refusal-owner m o e c d =
        let l : o ≡ number_in s (number_in s (get_or defs i 0)).next = d ∙ ap (λ (z : Number). number_in s z.next) (c ∙ ap (number_in s) a) in
        rw (ne_eqb (get_or regcounts i 0) 0 (λ z. e (b ∙ z))) (λ w. Err (no.UnknownOwner (l w).value))

    pub letters-owner : (g ≡ 0 → ⊥) → qualified ≡ letters_t ns s offsets to defs regcounts i t reg qualified
    unfolding letters_t
    letters-owner e = rw (ne_eqb (get_or regcounts i 0) 0 (λ z. e (b ∙ z)))

  -- its entry
  pub entry_of : (at : ℕ) (m : Number) (j : Judged) (y : VerdictRow) (l : List ℕ) → at ≡ get_or defs i 0 → m ≡ number_in s at → j ≡ refusal_t ns s offsets to defs regcounts i t reg qualified → y ≡ judged_row j → l ≡ letters_t ns s offsets to defs regcounts i t reg qualified
      → entry_bytes s offsets l m.value y ≡ entry_t ns s offsets to defs regcounts i t reg qualified
  unfolding entry_t judged_bytes
  entry_of at m j y l a b c e d = λ w. entry_bytes s offsets (d w) ((b ∙ ap (number_in s) a) w).value ((e ∙ ap judged_row c) w)

  module _ (receivers : List ℕ) (e : ℕ) (a : e ≡ get_or receivers i 0) where
    pub refused-entry : e ≡ 65535 → entry_t ns s offsets to defs regcounts i t reg qualified ≡ refused_entry_t ns s offsets to defs regcounts receivers i t reg qualified
    unfolding refused_entry_t
    refused-entry b = let c : get_or receivers i 0 ≡ 65535 = sym a ∙ b in rw (eq-eqb (get_or receivers i 0) 65535 c)

    pub no-entry : (e ≡ 65535 → ⊥) → refused_entry_t ns s offsets to defs regcounts receivers i t reg qualified ≡ []
    unfolding refused_entry_t
    no-entry b = rw (ne_eqb (get_or receivers i 0) 65535 (λ z. b (a ∙ z)))

  -- whatever the tables held, it is the entry that was given
  pub entered : (receivers : List ℕ) (es : ℕ → List ℕ) → Enters ns s offsets to defs regcounts receivers i (es i) → Long t reg qualified → refused_entry_t ns s offsets to defs regcounts receivers i t reg qualified ≡ of_refused receivers es i
  unfolding refused_entry_t of_refused Enters
  entered receivers es h l = go (eqb (get_or receivers i 0) absent) refl
    where
      go : (b : Bool) → eqb (get_or receivers i 0) absent ≡ b → cond b (entry_t ns s offsets to defs regcounts i t reg qualified) [] ≡ cond b (es i) []
      go true e = h (eqb-true _ _ e) t reg qualified l
      go false e = refl

-- a loop that writes bytes one after the other: how many there are, and what the buffer holds
module _ (f : ℕ → List ℕ) where
  bytes-step : (m i : ℕ) → bytes_t f (suc m) i ≡ f i ++ bytes_t f m (suc i)
  unfolding bytes_t
  bytes-step m i = refl

  bytes_next : (n i : ℕ) → i < n → bytes_t f (n - i) i ≡ f i ++ bytes_t f (n - (i + 1)) (i + 1)
  bytes_next n i l = go (n - (i + 1)) refl
    where
      go : (m : ℕ) → n - (i + 1) ≡ m → bytes_t f (n - i) i ≡ f i ++ bytes_t f (n - (i + 1)) (i + 1)
      go m k =
          let a : n - i ≡ suc m = omega arith in
          ap (λ y. bytes_t f y i) a ∙ bytes-step m i ∙ ap (λ y. f i ++ bytes_t f m y) (sym (add-one i)) ∙ ap (λ y. f i ++ bytes_t f y (i + 1)) (sym k)

  pub bytes-none : (n i : ℕ) → n ≤ i → bytes_t f (n - i) i ≡ []
  unfolding bytes_t
  bytes-none n i l = let k : n - i ≡ 0 = omega arith in ap (λ y. bytes_t f y i) k

  pub bytes-start : (n : ℕ) → bytes_t f (n - 0) 0 ≡ bytes_t f n 0
  bytes-start n = let k : n - 0 ≡ n = omega arith in ap (λ y. bytes_t f y 0) k

  pub count-more : (n i e r z : ℕ) (xs : List ℕ) → i < n → xs ≡ f i → r ≡ e + length xs → e + length (bytes_t f (n - i) i) ≡ z → r + length (bytes_t f (n - (i + 1)) (i + 1)) ≡ z
  count-more n i e r z xs l a b h =
      let c : length (bytes_t f (n - i) i) ≡ length (f i) + length (bytes_t f (n - (i + 1)) (i + 1)) = ap length (bytes_next n i l) ∙ length-append (f i) _ in
      let d : length xs ≡ length (f i) = ap length a in
      omega arith

  pub count-done : (n i e z : ℕ) → n ≤ i → e + length (bytes_t f (n - i) i) ≡ z → e ≡ z
  count-done n i e z l h = let c : length (bytes_t f (n - i) i) ≡ 0 = ap length (bytes-none n i l) in omega arith

  pub over-next : (n i e r : ℕ) (xs d d' z : List ℕ) → i < n → e ≤ length d → xs ≡ f i → r ≡ e + length xs → d' ≡ overwritten e xs d → overwritten e (bytes_t f (n - i) i) d ≡ z → overwritten r (bytes_t f (n - (i + 1)) (i + 1)) d' ≡ z
  over-next n i e r xs d d' z l k a b c h =
      (λ w. overwritten (b w) (bytes_t f (n - (i + 1)) (i + 1)) (c w))
      ∙ over-more xs (bytes_t f (n - (i + 1)) (i + 1)) d e k
      ∙ ap (λ (y : List ℕ). overwritten e y d) (ap (λ (y : List ℕ). y ++ bytes_t f (n - (i + 1)) (i + 1)) a ∙ sym (bytes_next n i l))
      ∙ h

  pub over_last : (n i e : ℕ) (d z : List ℕ) → n ≤ i → overwritten e (bytes_t f (n - i) i) d ≡ z → d ≡ z
  over_last n i e d z l h = sym (over_none d e) ∙ ap (λ (y : List ℕ). overwritten e y d) (sym (bytes-none n i l)) ∙ h

  -- the entry of the index i has room where all have
  pub room-here : (n i e room : ℕ) (xs : List ℕ) → i < n → xs ≡ f i → e + length (bytes_t f (n - i) i) ≤ room → e + length xs ≤ room
  room-here n i e room xs l a h =
      let c : length (bytes_t f (n - i) i) ≡ length (f i) + length (bytes_t f (n - (i + 1)) (i + 1)) = ap length (bytes_next n i l) ∙ length-append (f i) _ in
      let d : length xs ≡ length (f i) = ap length a in
      omega arith

-- the count, and then the entries
pub report-whole : (k : ℕ) (xs d d' z : List ℕ) → 0 ≤ length d → d' ≡ overwritten 0 (two k) d → z ≡ overwritten 2 xs d' → z ≡ overwritten 0 (two k ++ xs) d
unfolding two
report-whole k xs d d' z l a b = over-then d d' z (two k) xs 0 2 l refl a b

-- while the loop stands at the machine i, there is room for what is left
module _ (s offsets to defs regcounts receivers : List ℕ) (names n room : ℕ) (w : RoomForAll s offsets to defs regcounts receivers names n room) (i e room' : ℕ) (same : room' ≡ room)
    (left : (ns : List Name) → length ns ≡ names → (es : ℕ → List ℕ) → EntersAll ns s offsets to defs regcounts receivers n es → e + length (bytes_t (of_refused receivers es) (n - i) i) ≡ 2 + length (bytes_t (of_refused receivers es) n 0)) where
  pub within-now : e ≤ room'
  within-now = let f = w.fits in let g = left w.ns w.count w.es w.enters in omega arith

  pub room-now : (t reg qualified : List ℕ) → Long t reg qualified → i < n → RoomAt s offsets to defs regcounts receivers t reg qualified names i e room'
  room-now t reg qualified l h =
      let f = w.fits in
      let g = left w.ns w.count w.es w.enters in
      record {
        ns = w.ns;
        count = w.count;
        fits = room-here (of_refused receivers w.es) n i e room' _ h (entered w.ns s offsets to defs regcounts i t reg qualified receivers w.es (w.enters i h) l) (omega arith);
      }

-- a whole report has at least its count
pub count_fits : (s offsets to defs regcounts receivers : List ℕ) (names n room : ℕ) → RoomForAll s offsets to defs regcounts receivers names n room → 2 ≤ room
count_fits s offsets to defs regcounts receivers names n room w = let f = w.fits in omega arith

-- before the first entry
pub over_first : (f : ℕ → List ℕ) (n : ℕ) (d : List ℕ) → overwritten 2 (bytes_t f (n - 0) 0) d ≡ overwritten 2 (bytes_t f n 0) d
over_first f n d = ap (λ (y : List ℕ). overwritten 2 y d) (bytes-start f n)

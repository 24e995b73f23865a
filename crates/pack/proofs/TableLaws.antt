-- Laws of the code of a table with an index: the turns of its loops, and its answers by their tests.
use Rattle.std.proofs.Common.{◌≡◌, ℕ, zero, suc, ◌+◌, ◌-◌, ◌*◌, ◌/◌, ◌<◌, ◌≤◌, min, true, false, cond, ◌&&◌, ltb, leb, List, [], ◌∷◌, length, get_or, take, drop, sym, refl, ap, ◌∙◌, ⊎_elim, arith, length-drop, drop_of_length-le, length-take, take_all, le-ltb, lt-ltb}
use lib.Seq.{drop-length}
use denote.Enum.Declared.{tag_of}
use types.Run.{OneOf}
use Rattle.wire.proofs.Writers.{lt-or-le, take-capped}
use Rattle.pack_rules.specs.Names.{Name, eq_name}
use Rattle.pack.specs.RawNames.{raw_name}
use Rattle.pack_rules.specs.Write.{Found, At, Missing, lookup}
use Rattle.pack.specs.declared.table.Place.{Place}
use Rattle.pack.specs.declared.table.Place.TheVariants as pl
use Rattle.pack.specs.Table.{table, rows_most, cells, texts_from, cell_at, spot_at, below, word, put_word, further, text_of, place_from, place_of, found_in, seek, number_in, is_free, spare, in_index, cell_for, linked, linked_at, noted}
use Rattle.pack.specs.contracts.table.Place as Place-enum
use Rattle.pack.proofs.Interns.{found_number}

-- the way down, further
pub further-on : (n : Name) (f h : ℕ) → 4 ≤ h → h / 2 ≡ further n f h
unfolding further
further-on n f h l = rw (le-ltb h 4 l)

pub further-own : (n : Name) (f h j x : ℕ) → h < 4 → j ≡ 17358 - f → x ≡ get_or n (j / 8) 0 → 256 + x ≡ further n f h
unfolding further
further-own n f h j x l e g = rw (lt-ltb h 4 l) (ap (λ y. 256 + y) (g ∙ ap (λ y. get_or n (y / 8) 0) e))

-- from the end on there is nothing
pub drop-part : (t : List ℕ) (p b : ℕ) → b ≡ min p (length t) → drop b t ≡ drop p t
drop-part t p b e = ⊎_elim
    (λ (g : length t < p). let z : b ≡ length t = omega arith in rw (z, drop-length, drop_of_length-le t {i = p} (omega arith)))
    (λ (g : p ≤ length t). let z : b ≡ p = omega arith in rw z)
    (lt-or-le (length t) p)

-- the name at p, as a part that is cut at the end
pub text-part : (t : List ℕ) (p l b e : ℕ) → l ≡ get_or t p 0 → b ≡ min (length t) (p + 1) → e ≡ min (b + l) (length t) → take (e - b) (drop b t) ≡ raw_name t p
unfolding raw_name
text-part t p l b e h i j =
    ap (λ y. take (y - b) (drop b t)) j
    ∙ take-capped t b l (omega arith)
    ∙ ap (take l) (drop-part t (p + 1) b (omega arith))
    ∙ ap (λ y. take y (drop (p + 1) t)) h

-- a tree, by what the cell i holds
pub place-spent : (f : ℕ) (t : List ℕ) (n : Name) (h i w : ℕ) → f ≤ 0 → place_from f t n h i w ≡ pl.Lost
unfolding place_from
place-spent zero t n h i w e = refl
place-spent (suc f) t n h i w e = absurd (omega arith)

one_less : (k : ℕ) → suc k - 1 ≡ k
one_less k = omega arith

-- the name of a cell, whose spot is w
text-of : (t : List ℕ) (k w : ℕ) → w ≡ word t (spot_at (suc k - 1)) → text_of t k ≡ raw_name t (texts_from + w)
unfolding text_of
text-of t k w e = ap (λ y. raw_name t (texts_from + y)) (sym (e ∙ ap (λ y. word t (spot_at y)) (one_less k)))

module _ (t : List ℕ) (n : Name) where
  pub place-free : (f h i v : ℕ) → 0 < f → v ≡ word t (2 + 2 * i) → v ≡ 0 → place_from f t n h i (word t (2 + 2 * i)) ≡ pl.Free i
  unfolding place_from
  place-free zero h i v p e q = absurd (omega arith)
  place-free (suc f) h i v p e q = ap (place_from (suc f) t n h i) (sym e ∙ q)

  module _ (w : ℕ) where
    here : (f h i v : ℕ) → 0 < f → (v ≡ 0 → ⊥) → w ≡ word t (spot_at (v - 1)) → eq_name (raw_name t (texts_from + w)) n ≡ true → place_from f t n h i v ≡ pl.Taken (v - 1)
    unfolding place_from
    here zero h i v p q e g = absurd (omega arith)
    here (suc f) h i zero p q e g = absurd (q refl)
    here (suc f) h i (suc k) p q e g =
        ap (λ b. cond b (pl.Taken k) (place_from f t n (further n f h) (below k h) (word t (cell_at (below k h))))) (ap (λ (y : Name). eq_name y n) (text-of t k w e) ∙ g)
        ∙ ap pl.Taken (sym (one_less k))

    on : (f h i v : ℕ) → 0 < f → (v ≡ 0 → ⊥) → w ≡ word t (spot_at (v - 1)) → eq_name (raw_name t (texts_from + w)) n ≡ false
        → place_from f t n h i v ≡ place_from (f - 1) t n (further n (f - 1) h) (below (v - 1) h) (word t (cell_at (below (v - 1) h)))
    unfolding place_from
    on zero h i v p q e g = absurd (omega arith)
    on (suc f) h i zero p q e g = absurd (q refl)
    on (suc f) h i (suc k) p q e g =
        ap (λ b. cond b (pl.Taken k) (place_from f t n (further n f h) (below k h) (word t (cell_at (below k h))))) (ap (λ (y : Name). eq_name y n) (text-of t k w e) ∙ g)
        ∙ ap (λ y. place_from f t n (further n f h) (below y h) (word t (cell_at (below y h)))) (sym (one_less k))
        ∙ ap (λ y. place_from y t n (further n y h) (below (suc k - 1) h) (word t (cell_at (below (suc k - 1) h)))) (sym (one_less f))

    pub place_here : (f h i v : ℕ) → 0 < f → v ≡ word t (2 + 2 * i) → (v ≡ 0 → ⊥) → w ≡ word t (spot_at (v - 1)) → eq_name (raw_name t (texts_from + w)) n ≡ true
        → place_from f t n h i (word t (2 + 2 * i)) ≡ pl.Taken (v - 1)
    place_here f h i v p d q e g = ap (place_from f t n h i) (sym d) ∙ here f h i v p q e g

    pub place-on : (f h i v g : ℕ) → 0 < f → v ≡ word t (2 + 2 * i) → (v ≡ 0 → ⊥) → w ≡ word t (spot_at (v - 1)) → eq_name (raw_name t (texts_from + w)) n ≡ false → g ≡ further n (f - 1) h
        → place_from f t n h i (word t (2 + 2 * i)) ≡ place_from (f - 1) t n g (below (v - 1) h) (word t (cell_at (below (v - 1) h)))
    place-on f h i v g p d q e x y =
        ap (place_from f t n h i) (sym d) ∙ on f h i v p q e x ∙ sym (ap (λ z. place_from (f - 1) t n z (below (v - 1) h) (word t (cell_at (below (v - 1) h)))) y)

-- a search, by how many names there are
pub seek-plain : (t : List ℕ) (n : Name) (b : ℕ) → 17408 < word t 0 → b ≡ min texts_from (length t)
    → lookup (table (take (length t - b) (drop b t))) n 0 ≡ seek t n
unfolding seek rows_most
seek-plain t n b h e = rw (lt-ltb 17408 (word t 0) h, take_all (length t - b) (drop b t) (omega (arith, length-drop b t)), drop-part t texts_from b e)

-- the number that the plain search finds
pub found-less : (t : List ℕ) (n : Name) (b : ℕ) (f : Found) → f ≡ lookup (table (take (length t - b) (drop b t))) n 0 → number_in f ≤ 65535 + (length t - 65535)
unfolding number_in
found-less t n b (At k) e = omega (arith, found_number (take (length t - b) (drop b t)) n (At k) e, length-take (length t - b) (drop b t))
found-less t n b (Missing k) e = omega (arith, found_number (take (length t - b) (drop b t)) n (Missing k) e, length-take (length t - b) (drop b t))

pub seek_found : (t : List ℕ) (n : Name) (c : ℕ) (p : Place) → c ≤ 17408 → c ≡ word t 0 → p ≡ place_of t n → found_in c p ≡ seek t n
unfolding seek rows_most
seek_found t n c p h e q = rw (sym e, le-ltb 17408 c h, q)

-- whether there is room for one name more
pub spare-is : (t : List ℕ) (c : ℕ) → c ≡ word t 0 → ltb c 17408 && (leb 120834 (length t) && ltb (length t) 186370) ≡ spare t
unfolding spare rows_most texts_from
spare-is t c e = ap (λ k. ltb k 17408 && (leb 120834 (length t) && ltb (length t) 186370)) e

-- the cell for a name
module _ (t : List ℕ) (n : Name) where
  pub cell-spare : (p : Place) → p ≡ place_of t n → spare t ≡ true → in_index p ≡ cell_for t n
  unfolding cell_for
  cell-spare p q e = rw (e, q)

  pub cell-none : spare t ≡ false → pl.Lost ≡ cell_for t n
  unfolding cell_for
  cell-none e = rw e

-- the arms of a match on a place but for `Free`
pub not_free : (p : Place) → OneOf (0 ∷ 2 ∷ []) (tag_of Place-enum.the_type p) → is_free p ≡ false
unfolding is_free
not_free (pl.Taken k) h = refl
not_free (pl.Free i) h = absurd (⊎_elim (λ e. omega arith) (λ e. omega arith) h)
not_free pl.Lost h = refl

pub index-other : (p : Place) → is_free p ≡ false → p ≡ in_index p
unfolding in_index is_free
index-other (pl.Taken k) h = refl
index-other (pl.Free i) h = absurd (let z : ◌≡◌ {A = ℕ} 0 1 = cc in omega arith)
index-other pl.Lost h = refl

-- a cell that the index has, or not
pub index-has : (i : ℕ) → i < cells → pl.Free i ≡ in_index (pl.Free i)
unfolding in_index
index-has i h = rw (lt-ltb i cells h)

pub index-lacks : (i : ℕ) → cells ≤ i → pl.Lost ≡ in_index (pl.Free i)
unfolding in_index
index-lacks i h = rw (le-ltb i cells h)

-- the index by the cell for a name
pub noted-at : (t : List ℕ) (n : Name) (cell : Place) (p : ℕ) → cell ≡ cell_for t n → p ≡ length t - texts_from → linked_at cell p t ≡ noted n t
unfolding noted
noted-at t n cell p e f = ap (λ (y : Place). linked_at y p t) e ∙ ap (λ k. linked_at (cell_for t n) k t) f

pub linked-steps : (t : List ℕ) (c i p : ℕ) → c ≡ word t 0
    → put_word (put_word (put_word t (spot_at c) p) (cell_at i) (c + 1)) 0 (c + 1) ≡ linked (word t 0) i p t
unfolding linked
linked-steps t c i p e = rw (sym e)

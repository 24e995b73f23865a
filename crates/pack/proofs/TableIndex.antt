-- The index of a table is right: what is found in its trees is what is found by looking at all names.
use Rattle.std.proofs.Common.{◌≡◌, ℕ, zero, suc, ◌+◌, ◌-◌, ◌*◌, ◌/◌, ◌%◌, ◌<◌, ◌≤◌, Bool, true, false, cond, eqb, ltb, ◌⊎◌, List, [], ◌∷◌, ◌++◌, length, get_or, drop, set, replicate, sym, refl, ap, ◌∙◌, subst, inl, inr, ⊎_elim, append_assoc, append-nil, arith, length-append, length-drop, length-set, drop_of_length-le, get_or-drop, get_or-set_other, get_or-set_same, drop-drop, drop-set-lt, ltb-true, le-ltb, lt-ltb, eqb-true, leb-true}
use mathlib.Core.Bool.{and-eq-true_iff}
use lib.ListN.{length-replicate, get_or-replicate, get_or-append}
use lib.Seq.{append_snoc, get_or-append_seam, drop-append-le, take-append_seam, drop-append_seam}
use borrow.Author.Tests.{eqb-false}
use Rattle.wire.proofs.Writers.{lt-or-le}
use Rattle.pack_rules.specs.Names.{Name, eq_name}
use Rattle.pack.specs.RawNames.{raw_name}
use Rattle.pack_rules.specs.Write.{enc, Found, At, Missing, lookup}
use Rattle.pack.specs.declared.table.Place.{Place}
use Rattle.pack.specs.declared.table.Place.TheVariants as pl
use Rattle.pack.specs.Siphash.{hash}
use Rattle.pack.specs.Table.{table_f, table, rows_most, heads, cells, spots_from, texts_from, cell_at, spot_at, below, word, put_word, way, further, text_of, place_from, place_of, found_in, seek, number_in, is_free, spare, in_index, cell_for, has_row, linked, unindexed, linked_at, noted, enter, blank, entered, tabled}
use Rattle.pack.proofs.Tables.{enc-append, eq_name-refl, eq_name-true}

-- NAMES, EACH AFTER ITS LENGTH BYTE

pub enc-more : (ns : List Name) (n : Name) → enc (ns ++ (n ∷ [])) ≡ enc ns ++ (length n ∷ n)
unfolding enc
enc-more ns n = enc-append ns (n ∷ []) ∙ ap (λ (l : List ℕ). enc ns ++ (length n ∷ l)) (append-nil n)

table_f-enc : (f : ℕ) (ns : List Name) → length (enc ns) ≤ f → table_f f (enc ns) ≡ ns
unfolding table_f enc
table_f-enc zero [] h = refl
table_f-enc (suc f) [] h = refl
table_f-enc zero (m ∷ ms) h = absurd (omega arith)
table_f-enc (suc f) (m ∷ ms) h =
    rw (take-append_seam m (enc ms), drop-append_seam m (enc ms))
    (ap (λ (l : List Name). m ∷ l) (table_f-enc f ms (omega (arith, length-append m (enc ms)))))

-- the table of encoded names is those names
pub table-enc : (ns : List Name) → table (enc ns) ≡ ns
unfolding table
table-enc ns = table_f-enc (length (enc ns)) ns (omega arith)

-- WORDS

pub put-length : (t : List ℕ) (i v : ℕ) → length (put_word t i v) ≡ length t
unfolding put_word
put-length t i v = simp length-set

word-put : (t : List ℕ) (i v : ℕ) → i + 1 < length t → v < 65536 → word (put_word t i v) i ≡ v
unfolding word put_word
word-put t i v h l =
    let a : get_or (set (set t i (v % 256)) (i + 1) (v / 256 % 256)) i 0 ≡ v % 256
    = get_or-set_other (set t i (v % 256)) (i + 1) i (v / 256 % 256) 0 (λ e. omega arith) ∙ get_or-set_same t i (v % 256) 0 (omega arith) in
    let b : get_or (set (set t i (v % 256)) (i + 1) (v / 256 % 256)) (i + 1) 0 ≡ v / 256 % 256
    = get_or-set_same (set t i (v % 256)) (i + 1) (v / 256 % 256) 0 (omega (arith, length-set t i (v % 256))) in
    rw (a, b) (omega arith)

-- bytes apart from a word stay
put-get_d : (t : List ℕ) (i v j : ℕ) → (j ≡ i → ⊥) → (j ≡ i + 1 → ⊥) → get_or (put_word t i v) j 0 ≡ get_or t j 0
unfolding put_word
put-get_d t i v j a b = get_or-set_other (set t i (v % 256)) (i + 1) j (v / 256 % 256) 0 b ∙ get_or-set_other t i j (v % 256) 0 a

word_below : (t : List ℕ) (i v j : ℕ) → j + 1 < i → word (put_word t i v) j ≡ word t j
unfolding word
word_below t i v j h =
    ap (λ x. x + 256 * get_or (put_word t i v) (j + 1) 0) (put-get_d t i v j (λ e. omega arith) (λ e. omega arith))
    ∙ ap (λ x. get_or t j 0 + 256 * x) (put-get_d t i v (j + 1) (λ e. omega arith) (λ e. omega arith))

word-above : (t : List ℕ) (i v j : ℕ) → i + 1 < j → word (put_word t i v) j ≡ word t j
unfolding word
word-above t i v j h =
    ap (λ x. x + 256 * get_or (put_word t i v) (j + 1) 0) (put-get_d t i v j (λ e. omega arith) (λ e. omega arith))
    ∙ ap (λ x. get_or t j 0 + 256 * x) (put-get_d t i v (j + 1) (λ e. omega arith) (λ e. omega arith))

put-drop : (t : List ℕ) (i v p : ℕ) → i + 1 < p → drop p (put_word t i v) ≡ drop p t
unfolding put_word
put-drop t i v p h = drop-set-lt p (set t i (v % 256)) (i + 1) (v / 256 % 256) h ∙ drop-set-lt p t i (v % 256) (omega arith)

word-append : (t x : List ℕ) (i : ℕ) → i + 1 < length t → word (t ++ x) i ≡ word t i
unfolding word
word-append t x i h =
    ap (λ y. y + 256 * get_or (t ++ x) (i + 1) 0) (get_or-append t x 0 i (omega arith))
    ∙ ap (λ y. get_or t i 0 + 256 * y) (get_or-append t x 0 (i + 1) h)

-- the name whose length byte stands at p
text-stands : (t : List ℕ) (p : ℕ) (m rest : List ℕ) → drop p t ≡ length m ∷ (m ++ rest) → raw_name t p ≡ m
unfolding raw_name
text-stands t p m rest e =
    let z : p + 0 ≡ p = omega arith in
    let g : get_or t p 0 ≡ length m = ap (λ i. get_or t i 0) (sym z) ∙ sym (get_or-drop p t 0 0) ∙ ap (λ (l : List ℕ). get_or l 0 0) e in
    let d : drop (p + 1) t ≡ m ++ rest = sym (drop-drop 1 p t) ∙ ap (drop 1) e in
    rw (g, d, take-append_seam)

-- the number k has the name m
pub record RowOf (t : List ℕ) (k : ℕ) (m : Name) : Type 0 where
  pub rest : List ℕ
  pub stands : drop (texts_from + word t (spot_at k)) t ≡ length m ∷ (m ++ rest)

row-text : (t : List ℕ) (k : ℕ) (m : Name) → RowOf t k m → text_of t k ≡ m
unfolding text_of
row-text t k m r = text-stands t _ m r.rest r.stands

-- a search among names with one more
unfoldable pub onto : Found → Name → Name → Found
onto (At j) m x = At j
onto (Missing j) m x = cond (eq_name m x) (At j) (Missing (j + 1))

lookup-snoc : (ns : List Name) (m x : Name) (k : ℕ) → lookup (ns ++ (m ∷ [])) x k ≡ onto (lookup ns x k) m x
unfolding lookup onto
lookup-snoc [] m x k = go (eq_name m x)
  where
    go : (b : Bool) → elim b [ true ↦ At k | false ↦ Missing (k + 1) ] ≡ cond b (At k) (Missing (k + 1))
    go true = refl
    go false = refl
lookup-snoc (y ∷ ns) m x k = go (eq_name y x) (lookup-snoc ns m x (k + 1))
  where
    go : (b : Bool) → lookup (ns ++ (m ∷ [])) x (k + 1) ≡ onto (lookup ns x (k + 1)) m x
        → elim b [ true ↦ At k | false ↦ lookup (ns ++ (m ∷ [])) x (k + 1) ] ≡ onto (elim b [ true ↦ At k | false ↦ lookup ns x (k + 1) ]) m x
    go true ih = refl
    go false ih = ih

-- where a name is missing the answer is how many there are
lookup-none : (ns : List Name) (x : Name) (k j : ℕ) → lookup ns x k ≡ Missing j → j ≡ k + length ns
unfolding lookup
lookup-none [] x k j e = let q : k ≡ j = cc in omega arith
lookup-none (y ∷ ns) x k j e = go (eq_name y x) (λ g. lookup-none ns x (k + 1) j g) e
  where
    go : (b : Bool) → (lookup ns x (k + 1) ≡ Missing j → j ≡ k + 1 + length ns) → elim b [ true ↦ At k | false ↦ lookup ns x (k + 1) ] ≡ Missing j → j ≡ k + suc (length ns)
    go true ih g = absurd (let z : ◌≡◌ {A = ℕ} 0 1 = cc in omega arith)
    go false ih g = omega (arith, ih g)

-- a name that is there is found
lookup-there : (ns : List Name) (k s j : ℕ) → k < length ns → lookup ns (get_or ns k []) s ≡ Missing j → ⊥
unfolding lookup
lookup-there [] k s j l e = omega arith
lookup-there (y ∷ ns) zero s j l e =
    let g : At s ≡ Missing j = sym (ap (λ (b : Bool). elim b [ true ↦ At s | false ↦ lookup ns y (s + 1) ]) (eq_name-refl y)) ∙ e in
    let z : ◌≡◌ {A = ℕ} 0 1 = cc in
    omega arith
lookup-there (y ∷ ns) (suc k) s j l e = go (eq_name y (get_or ns k [])) (lookup-there ns k (s + 1) j (omega arith)) e
  where
    go : (b : Bool) → (lookup ns (get_or ns k []) (s + 1) ≡ Missing j → ⊥) → elim b [ true ↦ At s | false ↦ lookup ns (get_or ns k []) (s + 1) ] ≡ Missing j → ⊥
    go true ih g = let z : ◌≡◌ {A = ℕ} 0 1 = cc in omega arith
    go false ih g = ih g

-- what holds of an index that has rows for all names
pub record Indexed (t : List ℕ) (ns : List Name) : Type 0 where
  pub count : word t 0 ≡ length ns
  pub few : length ns ≤ rows_most
  pub low : (i : ℕ) → i < cells → word t (cell_at i) ≤ length ns
  pub rows : (k : ℕ) → k < length ns → RowOf t k (get_or ns k [])
  pub finds : (n : Name) (j : ℕ) → lookup ns n 0 ≡ At j → place_of t n ≡ pl.Taken j

-- a table of the names ns
pub record Right (t : List ℕ) (ns : List Name) : Type 0 where
  pub long : texts_from ≤ length t
  pub texts : drop texts_from t ≡ enc ns
  pub index : (rows_most < word t 0) ⊎ Indexed t ns

pub texts-is : texts_from ≡ spots_from + 2 * 17408
unfolding texts_from
texts-is = refl

rows_is : rows_most ≡ 17408
unfolding rows_most
rows_is = refl

-- ONE STEP DOWN A TREE

-- the number in a place, and its kind
unfoldable its-number : Place → ℕ
its-number (pl.Taken k) = k
its-number (pl.Free i) = i
its-number pl.Lost = 0

unfoldable which : Place → ℕ
which (pl.Taken k) = 0
which (pl.Free i) = 1
which pl.Lost = 2

module _ (t : List ℕ) (n : Name) (c : ℕ) (few : c ≤ rows_most) (low : (i : ℕ) → i < cells → word t (cell_at i) ≤ c) where
  below_less : (k h : ℕ) → k < c → below k h < cells
  below_less k h l = omega (arith, few, rows_is)

  -- what is found is the number of a name, and that name
  taken-text : (f h i w k : ℕ) → w ≤ c → place_from f t n h i w ≡ pl.Taken k → (k < c) × (eq_name (text_of t k) n ≡ true)
  unfolding place_from which its-number
  taken-text zero h i w k l e = absurd (let z : ◌≡◌ {A = ℕ} 2 0 = ap which e in omega arith)
  taken-text (suc f) h i zero k l e = absurd (let z : ◌≡◌ {A = ℕ} 1 0 = ap which e in omega arith)
  taken-text (suc f) h i (suc m) k l e = go (eq_name (text_of t m) n) refl (taken-text f (further n f h) (below m h) _ k (low (below m h) (below_less m h (omega arith)))) e
    where
      go : (b : Bool) → eq_name (text_of t m) n ≡ b
          → (place_from f t n (further n f h) (below m h) (word t (cell_at (below m h))) ≡ pl.Taken k → (k < c) × (eq_name (text_of t k) n ≡ true))
          → cond b (pl.Taken m) (place_from f t n (further n f h) (below m h) (word t (cell_at (below m h)))) ≡ pl.Taken k → (k < c) × (eq_name (text_of t k) n ≡ true)
      go true q ih g = let z : m ≡ k = ap its-number g in (omega arith, subst (λ (y : ℕ). eq_name (text_of t y) n ≡ true) z q)
      go false q ih g = ih g

  -- a cell that is free holds 0
  free-word : (f h i w j : ℕ) → i < cells → w ≡ word t (cell_at i) → place_from f t n h i w ≡ pl.Free j → word t (cell_at j) ≡ 0
  unfolding place_from which its-number
  free-word zero h i w j l q e = absurd (let z : ◌≡◌ {A = ℕ} 2 1 = ap which e in omega arith)
  free-word (suc f) h i zero j l q e = let z : i ≡ j = ap its-number e in subst (λ (y : ℕ). word t (cell_at y) ≡ 0) z (sym q)
  free-word (suc f) h i (suc m) j l q e =
      go (eq_name (text_of t m) n) (free-word f (further n f h) (below m h) _ j (below_less m h (omega (arith, low i l))) refl) e
    where
      go : (b : Bool)
          → (place_from f t n (further n f h) (below m h) (word t (cell_at (below m h))) ≡ pl.Free j → word t (cell_at j) ≡ 0)
          → cond b (pl.Taken m) (place_from f t n (further n f h) (below m h) (word t (cell_at (below m h)))) ≡ pl.Free j → word t (cell_at j) ≡ 0
      go true ih g = absurd (let z : ◌≡◌ {A = ℕ} 0 1 = ap which g in omega arith)
      go false ih g = ih g

head-less : (n : Name) → hash n % heads < cells
head-less n = omega arith

-- what is found is there
taken-there : (t : List ℕ) (ns : List Name) → Indexed t ns → (n : Name) (j k : ℕ) → lookup ns n 0 ≡ Missing j → place_of t n ≡ pl.Taken k → ⊥
unfolding place_of
taken-there t ns x n j k e q =
    let g = taken-text t n (length ns) x.few x.low 17409 (way n) (hash n % heads) _ k (x.low (hash n % heads) (head-less n)) q in
    let m : get_or ns k [] ≡ n = sym (row-text t k (get_or ns k []) (x.rows k g.0)) ∙ eq_name-true (text_of t k) n g.1 in
    lookup-there ns k 0 j g.0 (ap (λ (y : Name). lookup ns y 0) m ∙ e)

-- what is found in an index that has rows for all names
found_right : (t : List ℕ) (ns : List Name) → Indexed t ns → (n : Name) → found_in (word t 0) (place_of t n) ≡ lookup ns n 0
unfolding found_in
found_right t ns x n = go (lookup ns n 0) refl
  where
    none : (j : ℕ) → lookup ns n 0 ≡ Missing j → (p : Place) → place_of t n ≡ p → found_in (word t 0) p ≡ Missing j
    none j e (pl.Free i) q = let h = lookup-none ns n 0 j e in let z : word t 0 ≡ j = omega (arith, x.count) in ap Missing z
    none j e pl.Lost q = let h = lookup-none ns n 0 j e in let z : word t 0 ≡ j = omega (arith, x.count) in ap Missing z
    none j e (pl.Taken k) q = absurd (taken-there t ns x n j k e q)

    go : (f : Found) → lookup ns n 0 ≡ f → found_in (word t 0) (place_of t n) ≡ f
    go (At j) e = ap (found_in (word t 0)) (x.finds n j e)
    go (Missing j) e = none j e (place_of t n) refl

-- THE LAW: a right index finds what is found among all names
pub seek-right : (t : List ℕ) (ns : List Name) → Right t ns → (n : Name) → seek t n ≡ lookup ns n 0
unfolding seek
seek-right t ns r n = ⊎_elim
    (λ (o : rows_most < word t 0). rw (lt-ltb _ _ o, r.texts, table-enc ns))
    (λ (x : Indexed t ns).
    let c = x.count in
    let f = x.few in
    rw (le-ltb rows_most (word t 0) (omega arith)) (found_right t ns x n))
    r.index

-- ONE NAME MORE

record Rowed (t : List ℕ) (n : Name) : Type 0 where
  pub few : word t 0 < rows_most
  pub long : texts_from ≤ length t
  pub short : length t < texts_from + 65536
  pub cell : ℕ
  pub free : place_of t n ≡ pl.Free cell
  pub inside : cell < cells

free-is : (p : Place) → is_free p ≡ true → (R : Type 0) → ((i : ℕ) → p ≡ pl.Free i → R) → R
unfolding is_free
free-is (pl.Taken k) e R g = absurd (let z : ◌≡◌ {A = ℕ} 0 1 = cc in omega arith)
free-is (pl.Free i) e R g = g i refl
free-is pl.Lost e R g = absurd (let z : ◌≡◌ {A = ℕ} 0 1 = cc in omega arith)

-- a cell that the index has
in-index : (p : Place) (i : ℕ) → in_index p ≡ pl.Free i → (p ≡ pl.Free i) × (i < cells)
unfolding in_index which its-number
in-index (pl.Taken k) i e = absurd (let z : ◌≡◌ {A = ℕ} 0 1 = ap which e in omega arith)
in-index (pl.Free j) i e = go (ltb j cells) refl e
  where
    go : (b : Bool) → ltb j cells ≡ b → cond b (pl.Free j) pl.Lost ≡ pl.Free i → (pl.Free j ≡ pl.Free i) × (i < cells)
    go true q g = let z : j ≡ i = ap its-number g in (g, omega (arith, ltb-true j cells q))
    go false q g = absurd (let z : ◌≡◌ {A = ℕ} 2 1 = ap which g in omega arith)
in-index pl.Lost i e = absurd (let z : ◌≡◌ {A = ℕ} 2 1 = ap which e in omega arith)

-- with room for one more
spare-row : (t : List ℕ) (n : Name) → spare t ≡ true → (i : ℕ) → in_index (place_of t n) ≡ pl.Free i → Rowed t n
unfolding spare
spare-row t n e i z =
    let a = (and-eq-true_iff _ _).0 e in
    let b = (and-eq-true_iff _ _).0 a.1 in
    let g = in-index (place_of t n) i z in
    record { few = ltb-true _ _ a.0; long = leb-true _ _ b.0; short = ltb-true _ _ b.1; cell = i; free = g.0; inside = g.1 }

rowed : (t : List ℕ) (n : Name) → has_row t n ≡ true → Rowed t n
unfolding has_row cell_for is_free
rowed t n e = go (spare t) refl e
  where
    go : (b : Bool) → spare t ≡ b → is_free (cond b (in_index (place_of t n)) pl.Lost) ≡ true → Rowed t n
    go false q g = absurd (let z : ◌≡◌ {A = ℕ} 0 1 = cc in omega arith)
    go true q g = free-is (in_index (place_of t n)) g (Rowed t n) (λ i z. spare-row t n q i z)

-- the three words of a row: the spot, the cell and the count
module _ (t : List ℕ) (c i p : ℕ) where
  abbrev with_spot : List ℕ
  with_spot = put_word t (spot_at c) p

  abbrev with_cell : List ℕ
  with_cell = put_word with_spot (cell_at i) (c + 1)

  spot-length : length with_spot ≡ length t
  spot-length = put-length t (spot_at c) p

  cell-length : length with_cell ≡ length t
  cell-length = put-length with_spot (cell_at i) (c + 1) ∙ spot-length

  linked-length : length (linked c i p t) ≡ length t
  unfolding linked
  linked-length = put-length with_cell 0 (c + 1) ∙ cell-length

  module _ (few : c < rows_most) (inside : i < cells) where
    linked-drop : (d : ℕ) → texts_from ≤ d → drop d (linked c i p t) ≡ drop d t
    unfolding linked
    linked-drop d g =
        put-drop with_cell 0 (c + 1) d (omega (arith, texts-is))
        ∙ put-drop with_spot (cell_at i) (c + 1) d (omega (arith, texts-is))
        ∙ put-drop t (spot_at c) p d (omega (arith, texts-is, rows_is))

    -- words that are none of the three
    linked-spots : (k : ℕ) → k < c → word (linked c i p t) (spot_at k) ≡ word t (spot_at k)
    unfolding linked
    linked-spots k l =
        word-above with_cell 0 (c + 1) (spot_at k) (omega arith)
        ∙ word-above with_spot (cell_at i) (c + 1) (spot_at k) (omega arith)
        ∙ word_below t (spot_at c) p (spot_at k) (omega arith)

    linked-before : (j : ℕ) → j < i → word (linked c i p t) (cell_at j) ≡ word t (cell_at j)
    unfolding linked
    linked-before j l =
        word-above with_cell 0 (c + 1) (cell_at j) (omega arith)
        ∙ word_below with_spot (cell_at i) (c + 1) (cell_at j) (omega arith)
        ∙ word_below t (spot_at c) p (cell_at j) (omega arith)

    linked-after : (j : ℕ) → i < j → j < cells → word (linked c i p t) (cell_at j) ≡ word t (cell_at j)
    unfolding linked
    linked-after j l m =
        word-above with_cell 0 (c + 1) (cell_at j) (omega arith)
        ∙ word-above with_spot (cell_at i) (c + 1) (cell_at j) (omega arith)
        ∙ word_below t (spot_at c) p (cell_at j) (omega arith)

    linked-others : (j : ℕ) → j < cells → (j ≡ i → ⊥) → word (linked c i p t) (cell_at j) ≡ word t (cell_at j)
    linked-others j l n = ⊎_elim
        (linked-before j)
        (λ (g : i ≤ j). ⊎_elim (λ (m : i < j). linked-after j m l) (λ (m : j ≤ i). absurd (n (omega arith))) (lt-or-le i j))
        (lt-or-le j i)

    module _ (long : texts_from ≤ length t) where
      linked-count : word (linked c i p t) 0 ≡ c + 1
      unfolding linked
      linked-count = word-put with_cell 0 (c + 1) (omega (arith, cell-length, texts-is)) (omega (arith, rows_is))

      linked-cell : word (linked c i p t) (cell_at i) ≡ c + 1
      unfolding linked
      linked-cell =
          word-above with_cell 0 (c + 1) (cell_at i) (omega arith)
          ∙ word-put with_spot (cell_at i) (c + 1) (omega (arith, spot-length, texts-is)) (omega (arith, rows_is))

      linked-spot : p < 65536 → word (linked c i p t) (spot_at c) ≡ p
      unfolding linked
      linked-spot s =
          word-above with_cell 0 (c + 1) (spot_at c) (omega arith)
          ∙ word-above with_spot (cell_at i) (c + 1) (spot_at c) (omega arith)
          ∙ word-put t (spot_at c) p (omega (arith, texts-is, rows_is)) s

-- two tables, where u has the name n as the number c in the cell i, which is free in t
module _ (t u : List ℕ) (n : Name) (c i : ℕ) (few : c ≤ rows_most) (low : (j : ℕ) → j < cells → word t (cell_at j) ≤ c)
    (free : word t (cell_at i) ≡ 0) (cell : word u (cell_at i) ≡ suc c) (text : text_of u c ≡ n)
    (others : (j : ℕ) → j < cells → (j ≡ i → ⊥) → word u (cell_at j) ≡ word t (cell_at j)) (texts : (k : ℕ) → k < c → text_of u k ≡ text_of t k) where
  -- a cell that is not free stays
  cell_stays : (j m : ℕ) → j < cells → word t (cell_at j) ≡ suc m → word u (cell_at j) ≡ suc m
  cell_stays j m l e = others j l (λ q. omega (arith, free, e, ap (λ y. word t (cell_at y)) q)) ∙ e

  step_same : (f : ℕ) (x : Name) (h j m : ℕ) → m < c
      → place_from (suc f) u x h j (suc m) ≡ cond (eq_name (text_of t m) x) (pl.Taken m) (place_from f u x (further x f h) (below m h) (word u (cell_at (below m h))))
  unfolding place_from
  step_same f x h j m l =
      ap (λ (y : Name). cond (eq_name y x) (pl.Taken m) (place_from f u x (further x f h) (below m h) (word u (cell_at (below m h))))) (texts m l)

  -- what was found is found
  taken-stays : (x : Name) (f h j w k : ℕ) → j < cells → w ≡ word t (cell_at j) → place_from f t x h j w ≡ pl.Taken k
      → place_from f u x h j (word u (cell_at j)) ≡ pl.Taken k
  unfolding place_from which
  taken-stays x zero h j w k l q e = absurd (let z : ◌≡◌ {A = ℕ} 2 0 = ap which e in omega arith)
  taken-stays x (suc f) h j zero k l q e = absurd (let z : ◌≡◌ {A = ℕ} 1 0 = ap which e in omega arith)
  taken-stays x (suc f) h j (suc m) k l q e =
      let g : m < c = omega (arith, low j l) in
      ap (place_from (suc f) u x h j) (cell_stays j m l (sym q))
      ∙ step_same f x h j m g
      ∙ go (eq_name (text_of t m) x) (taken-stays x f (further x f h) (below m h) _ k (below_less t x c few low m h g) refl) e
    where
      go : (b : Bool)
          → (place_from f t x (further x f h) (below m h) (word t (cell_at (below m h))) ≡ pl.Taken k → place_from f u x (further x f h) (below m h) (word u (cell_at (below m h))) ≡ pl.Taken k)
          → cond b (pl.Taken m) (place_from f t x (further x f h) (below m h) (word t (cell_at (below m h)))) ≡ pl.Taken k
          → cond b (pl.Taken m) (place_from f u x (further x f h) (below m h) (word u (cell_at (below m h)))) ≡ pl.Taken k
      go true ih g = g
      go false ih g = ih g

  -- the new name is found
  free-taken : (f h j w : ℕ) → j < cells → w ≡ word t (cell_at j) → place_from f t n h j w ≡ pl.Free i
      → place_from f u n h j (word u (cell_at j)) ≡ pl.Taken c
  unfolding place_from which its-number
  free-taken zero h j w l q e = absurd (let z : ◌≡◌ {A = ℕ} 2 1 = ap which e in omega arith)
  free-taken (suc f) h j zero l q e =
      let z : j ≡ i = ap its-number e in
      ap (place_from (suc f) u n h j) (ap (λ y. word u (cell_at y)) z ∙ cell)
      ∙ ap (λ (b : Bool). cond b (pl.Taken c) (place_from f u n (further n f h) (below c h) (word u (cell_at (below c h))))) (ap (λ (y : Name). eq_name y n) text ∙ eq_name-refl n)
  free-taken (suc f) h j (suc m) l q e =
      let g : m < c = omega (arith, low j l) in
      ap (place_from (suc f) u n h j) (cell_stays j m l (sym q))
      ∙ step_same f n h j m g
      ∙ go (eq_name (text_of t m) n) (free-taken f (further n f h) (below m h) _ (below_less t n c few low m h g) refl) e
    where
      go : (b : Bool)
          → (place_from f t n (further n f h) (below m h) (word t (cell_at (below m h))) ≡ pl.Free i → place_from f u n (further n f h) (below m h) (word u (cell_at (below m h))) ≡ pl.Taken c)
          → cond b (pl.Taken m) (place_from f t n (further n f h) (below m h) (word t (cell_at (below m h)))) ≡ pl.Free i
          → cond b (pl.Taken m) (place_from f u n (further n f h) (below m h) (word u (cell_at (below m h)))) ≡ pl.Taken c
      go true ih g = absurd (let z : ◌≡◌ {A = ℕ} 0 1 = ap which g in omega arith)
      go false ih g = ih g

-- the index with a row more
module _ (t : List ℕ) (ns : List Name) (n : Name) (x : Indexed t ns) (o : Rowed t n) where
  abbrev spot : ℕ
  spot = length t - texts_from

  abbrev more : List ℕ
  more = linked (length ns) o.cell spot t ++ (length n ∷ n)

  few-rows : length ns < rows_most
  few-rows = omega (arith, x.count, o.few)

  cell_free : word t (cell_at o.cell) ≡ 0
  unfolding place_of
  cell_free = free-word t n (length ns) x.few x.low 17409 (way n) (hash n % heads) _ o.cell (head-less n) refl o.free

  more-word : (i : ℕ) → i + 1 < texts_from → word more i ≡ word (linked (length ns) o.cell spot t) i
  more-word i h = word-append _ (length n ∷ n) i (omega (arith, linked-length t (length ns) o.cell spot, o.long))

  more-drop : (p : ℕ) → texts_from ≤ p → p ≤ length t → drop p more ≡ drop p t ++ (length n ∷ n)
  more-drop p g h =
      drop-append-le p _ (length n ∷ n) (omega (arith, linked-length t (length ns) o.cell spot))
      ∙ ap (λ (y : List ℕ). y ++ (length n ∷ n)) (linked-drop t (length ns) o.cell spot few-rows o.inside p g)

  more-cell : word more (cell_at o.cell) ≡ suc (length ns)
  more-cell =
      more-word (cell_at o.cell) (omega (arith, o.inside, texts-is))
      ∙ linked-cell t (length ns) o.cell spot few-rows o.inside o.long
      ∙ (let z : length ns + 1 ≡ suc (length ns) = omega arith in z)

  more-others : (j : ℕ) → j < cells → (j ≡ o.cell → ⊥) → word more (cell_at j) ≡ word t (cell_at j)
  more-others j l d = more-word (cell_at j) (omega (arith, texts-is)) ∙ linked-others t (length ns) o.cell spot few-rows o.inside j l d

  -- the new name
  more-row : RowOf more (length ns) n
  more-row =
      let c = length ns in
      let w : word more (spot_at c) ≡ spot =
      more-word (spot_at c) (omega (arith, few-rows, texts-is, rows_is)) ∙ linked-spot t c o.cell spot few-rows o.inside o.long (omega (arith, o.short)) in
      let p : texts_from + word more (spot_at c) ≡ length (linked c o.cell spot t) = omega (arith, w, linked-length t c o.cell spot, o.long) in
      record {
        rest = [];
        stands = ap (λ y. drop y more) p ∙ drop-append_seam (linked c o.cell spot t) (length n ∷ n) ∙ ap (λ (y : List ℕ). length n ∷ y) (sym (append-nil n));
      }

  -- those before it
  keep_row : (k : ℕ) → k < length ns → (m : Name) → RowOf t k m → RowOf more k m
  keep_row k l m r =
      let v : word more (spot_at k) ≡ word t (spot_at k) =
      more-word (spot_at k) (omega (arith, few-rows, texts-is, rows_is)) ∙ linked-spots t (length ns) o.cell spot few-rows o.inside k l in
      let p = texts_from + word t (spot_at k) in
      let g : p ≤ length t = let e = ap length r.stands in omega (arith, length-drop p t) in
      record {
        rest = r.rest ++ (length n ∷ n);
        stands = ap (λ y. drop (texts_from + y) more) v
            ∙ more-drop p (omega arith) g
            ∙ ap (λ (y : List ℕ). y ++ (length n ∷ n)) r.stands
            ∙ ap (λ (y : List ℕ). length m ∷ y) (append_assoc m r.rest (length n ∷ n));
      }

  more_rows : (k : ℕ) → k < length (ns ++ (n ∷ [])) → RowOf more k (get_or (ns ++ (n ∷ [])) k [])
  more_rows k l = ⊎_elim
      (λ (g : k < length ns). subst (RowOf more k) (sym (get_or-append ns (n ∷ []) [] k g)) (keep_row k g _ (x.rows k g)))
      (λ (g : length ns ≤ k).
      let z : length ns ≡ k = omega (arith, length-append ns (n ∷ [])) in
      subst (λ (y : ℕ). RowOf more y (get_or (ns ++ (n ∷ [])) y [])) z (subst (RowOf more (length ns)) (sym (get_or-append_seam ns n [] [])) more-row))
      (lt-or-le k (length ns))

  more-texts : (k : ℕ) → k < length ns → text_of more k ≡ text_of t k
  more-texts k l = row-text more k _ (keep_row k l _ (x.rows k l)) ∙ sym (row-text t k _ (x.rows k l))

  more-low : (i : ℕ) → i < cells → word more (cell_at i) ≤ length (ns ++ (n ∷ []))
  more-low i l = go (eqb i o.cell) refl
    where
      go : (b : Bool) → eqb i o.cell ≡ b → word more (cell_at i) ≤ length (ns ++ (n ∷ []))
      go true e = omega (arith, ap (λ y. word more (cell_at y)) (eqb-true i o.cell e), more-cell, length-append ns (n ∷ []))
      go false e = omega (arith, more-others i l (eqb-false i o.cell e), x.low i l, length-append ns (n ∷ []))

  more-finds : (y : Name) (j : ℕ) → lookup (ns ++ (n ∷ [])) y 0 ≡ At j → place_of more y ≡ pl.Taken j
  unfolding place_of onto number_in
  more-finds y j e = go (lookup ns y 0) refl (sym (lookup-snoc ns n y 0) ∙ e)
    where
      new : (k : ℕ) → lookup ns y 0 ≡ Missing k → (b : Bool) → eq_name n y ≡ b → cond b (At k) (Missing (k + 1)) ≡ At j
          → place_from 17409 more y (way y) (hash y % heads) (word more (cell_at (hash y % heads))) ≡ pl.Taken j
      new k p false q g = absurd (let z : ◌≡◌ {A = ℕ} 0 1 = cc in omega arith)
      new k p true q g =
          let a : k ≡ j = ap number_in g in
          let z : length ns ≡ j = let h = lookup-none ns y 0 k p in omega arith in
          subst (λ (v : Name). place_from 17409 more v (way v) (hash v % heads) (word more (cell_at (hash v % heads))) ≡ pl.Taken j) (eq_name-true n y q)
          (free-taken t more n (length ns) o.cell x.few x.low cell_free more-cell (row-text more (length ns) n more-row) more-others more-texts 17409 (way n) (hash n % heads) _ (head-less n) refl o.free
          ∙ ap pl.Taken z)

      go : (f : Found) → lookup ns y 0 ≡ f → onto f n y ≡ At j
          → place_from 17409 more y (way y) (hash y % heads) (word more (cell_at (hash y % heads))) ≡ pl.Taken j
      go (At k) p g = taken-stays t more n (length ns) o.cell x.few x.low cell_free more-cell (row-text more (length ns) n more-row) more-others more-texts y 17409 (way y) (hash y % heads) _ j (head-less y) refl (x.finds y j (p ∙ g))
      go (Missing k) p g = new k p (eq_name n y) refl g

  indexed-more : Indexed more (ns ++ (n ∷ []))
  indexed-more = record {
    count = more-word 0 (omega (arith, texts-is))
        ∙ linked-count t (length ns) o.cell spot few-rows o.inside o.long
        ∙ sym (length-append ns (n ∷ []));
    few = omega (arith, few-rows, length-append ns (n ∷ []));
    low = more-low;
    rows = more_rows;
    finds = more-finds;
  }

noted-row : (t : List ℕ) (n : Name) (o : Rowed t n) → has_row t n ≡ true → noted n t ≡ linked (word t 0) o.cell (length t - texts_from) t
unfolding noted has_row cell_for linked_at in_index is_free
noted-row t n o e = go (spare t) e
  where
    go : (b : Bool) → is_free (cond b (in_index (place_of t n)) pl.Lost) ≡ true → linked_at (cond b (in_index (place_of t n)) pl.Lost) (length t - texts_from) t ≡ linked (word t 0) o.cell (length t - texts_from) t
    go false g = absurd (let z : ◌≡◌ {A = ℕ} 0 1 = cc in omega arith)
    go true g = rw (o.free, lt-ltb o.cell cells o.inside)

pub linked-none : (cell : Place) (p : ℕ) (t : List ℕ) → is_free cell ≡ false → unindexed t ≡ linked_at cell p t
unfolding linked_at is_free
linked-none (pl.Taken k) p t e = refl
linked-none (pl.Free i) p t e = absurd (let z : ◌≡◌ {A = ℕ} 0 1 = cc in omega arith)
linked-none pl.Lost p t e = refl

noted-none : (t : List ℕ) (n : Name) → has_row t n ≡ false → noted n t ≡ put_word t 0 (rows_most + 1)
unfolding noted has_row unindexed
noted-none t n e = sym (linked-none (cell_for t n) (length t - texts_from) t e)

pub noted-length : (t : List ℕ) (n : Name) → length (noted n t) ≡ length t
noted-length t n = go (has_row t n) refl
  where
    go : (b : Bool) → has_row t n ≡ b → length (noted n t) ≡ length t
    go true e = let o = rowed t n e in ap length (noted-row t n o e) ∙ linked-length t (word t 0) o.cell (length t - texts_from)
    go false e = ap length (noted-none t n e) ∙ put-length t 0 (rows_most + 1)

enter-plain : (t : List ℕ) (n : Name) → texts_from ≤ length t → has_row t n ≡ false → rows_most < word (enter n t) 0
unfolding enter
enter-plain t n l e =
    let a : word (noted n t ++ (length n ∷ n)) 0 ≡ word (noted n t) 0 = word-append (noted n t) (length n ∷ n) 0 (omega (arith, noted-length t n, texts-is)) in
    let b : word (noted n t) 0 ≡ rows_most + 1 = ap (λ (y : List ℕ). word y 0) (noted-none t n e) ∙ word-put t 0 (rows_most + 1) (omega (arith, texts-is)) (omega (arith, rows_is)) in
    omega (arith, a ∙ b)

-- the names before it stay
noted-drop : (t : List ℕ) (n : Name) → drop texts_from (noted n t) ≡ drop texts_from t
noted-drop t n = go (has_row t n) refl
  where
    go : (b : Bool) → has_row t n ≡ b → drop texts_from (noted n t) ≡ drop texts_from t
    go true e =
        let o = rowed t n e in
        ap (drop texts_from) (noted-row t n o e) ∙ linked-drop t (word t 0) o.cell (length t - texts_from) o.few o.inside texts_from (omega arith)
    go false e = ap (drop texts_from) (noted-none t n e) ∙ put-drop t 0 (rows_most + 1) texts_from (omega (arith, texts-is))

-- one name more, and the table stays right
pub right-more : (t : List ℕ) (ns : List Name) (n : Name) → Right t ns → Right (enter n t) (ns ++ (n ∷ []))
unfolding enter
right-more t ns n r = record {
  long = omega (arith, r.long, noted-length t n, length-append (noted n t) (length n ∷ n));
  texts = drop-append-le texts_from (noted n t) (length n ∷ n) (omega (arith, r.long, noted-length t n))
      ∙ ap (λ (y : List ℕ). y ++ (length n ∷ n)) (noted-drop t n ∙ r.texts)
      ∙ sym (enc-more ns n);
  index = go (has_row t n) refl r.index;
}
  where
    go : (b : Bool) → has_row t n ≡ b → ((rows_most < word t 0) ⊎ Indexed t ns) → (rows_most < word (noted n t ++ (length n ∷ n)) 0) ⊎ Indexed (noted n t ++ (length n ∷ n)) (ns ++ (n ∷ []))
    go false e i = inl (enter-plain t n r.long e)
    go true e (inl i) = absurd (let q = (rowed t n e).few in omega arith)
    go true e (inr x) =
        let o = rowed t n e in
        inr (subst (λ (y : List ℕ). Indexed (y ++ (length n ∷ n)) (ns ++ (n ∷ [])))
        (ap (λ y. linked y o.cell (length t - texts_from) t) (sym x.count) ∙ sym (noted-row t n o e))
        (indexed-more t ns n x o))

-- THE EMPTY TABLE AND ALL THAT ARE ENTERED

pub blank-length : length blank ≡ texts_from
unfolding blank
blank-length = length-replicate texts_from 0

word_blank : (i : ℕ) → i + 1 < texts_from → word blank i ≡ 0
unfolding word blank
word_blank i h =
    ap (λ y. y + 256 * get_or (replicate texts_from 0) (i + 1) 0) (get_or-replicate texts_from i 0 0 (omega arith))
    ∙ ap (λ y. 0 + 256 * y) (get_or-replicate texts_from (i + 1) 0 0 h)

pub right-blank : Right blank []
unfolding enc lookup
right-blank = record {
  long = omega (arith, blank-length);
  texts = drop_of_length-le blank {i = texts_from} (omega (arith, blank-length));
  index = inr record {
    count = word_blank 0 (omega (arith, texts-is));
    few = omega arith;
    low = λ i l. omega (arith, word_blank (cell_at i) (omega (arith, texts-is)));
    rows = λ k l. absurd (omega arith);
    finds = λ n j e. absurd (let z : ◌≡◌ {A = ℕ} 0 1 = cc in omega arith);
  };
}

right-entered : (ms ns : List Name) (t : List ℕ) → Right t ns → Right (entered ms t) (ns ++ ms)
unfolding entered
right-entered [] ns t r = rw append-nil r
right-entered (m ∷ ms) ns t r = subst (Right (entered ms (enter m t))) (append_snoc ns m ms) (right-entered ms (ns ++ (m ∷ [])) (enter m t) (right-more t ns m r))

pub right-tabled : (ns : List Name) → Right (tabled ns) ns
unfolding tabled
right-tabled ns = right-entered ns [] blank right-blank

-- in the table of names a name is found as among the names
pub seek-tabled : (ns : List Name) (n : Name) → seek (tabled ns) n ≡ lookup ns n 0
seek-tabled ns n = seek-right (tabled ns) ns (right-tabled ns) n

pub texts-tabled : (ns : List Name) → drop texts_from (tabled ns) ≡ enc ns
texts-tabled ns = (right-tabled ns).texts

pub length-tabled : (ns : List Name) → length (tabled ns) ≡ texts_from + length (enc ns)
length-tabled ns = omega (arith, (right-tabled ns).long, ap length (texts-tabled ns), length-drop texts_from (tabled ns))

entered-append : (ns ms : List Name) (t : List ℕ) → entered (ns ++ ms) t ≡ entered ms (entered ns t)
unfolding entered
entered-append [] ms t = refl
entered-append (n ∷ ns) ms t = entered-append ns ms (enter n t)

pub tabled-more : (ns : List Name) (n : Name) → tabled (ns ++ (n ∷ [])) ≡ enter n (tabled ns)
unfolding tabled entered
tabled-more ns n = entered-append ns (n ∷ []) blank

pub tabled-none : tabled [] ≡ blank
unfolding tabled entered
tabled-none = refl

pub enter-length : (n : Name) (t : List ℕ) → length (enter n t) ≡ length t + suc (length n)
unfolding enter
enter-length n t = length-append (noted n t) (length n ∷ n) ∙ ap (λ y. y + suc (length n)) (noted-length t n)

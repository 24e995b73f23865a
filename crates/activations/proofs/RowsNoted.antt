-- A variable noted in the table of rows is noted in the list that the rows stand for.
use Prim.Native.Nat.{ℕ, zero, suc, ◌+◌, ◌*◌, ◌%◌, ◌<◌, ◌≤◌}
use native.Mathlib.Omega.{arith}
use native.Mathlib.Nat.{mod-eq_of_lt}
use mathlib.Core.List.{List, [], ◌∷◌}
use mathlib.Core.Bool.{Bool, true, false, cond}
use mathlib.Core.Logic.{⊎_elim}
use mathlib.Core.Option.{Option, none, some}
use mathlib.Core.Path.{◌≡◌, refl, sym, ap, subst, ◌∙◌}
use lib.ListN.{length, get_or, length-set}
use lib.Seq.{get_or-set_same, get_or-set_other}
use lib.Dec.{eqb, ltb}
use borrow.Author.Tests.{eqb-true, le-ltb, lt-ltb, ne_eqb}
use Rattle.wire.proofs.Writers.{lt-or-le}
use Rattle.pack_rules.specs.Names.{Name, eq_name}
use Rattle.pack_rules.specs.Report.{first_of}
use Rattle.pack_rules.specs.Syntax.{Expr}
use Rattle.pack_rules.specs.Forms.{name_at}
use Rattle.pack_rules.specs.Legal.{Fresh}
use Rattle.machines.proofs.NamesPlaced.{alone}
use Rattle.activations.specs.Cells.{put_t}
use Rattle.activation_rules.specs.Sought.{Sought, note}
use Rattle.activations.specs.Walks.{InitAt}
use Rattle.activations.specs.LastsAt.{RowInit, RowIs, Rows, RowsFrom, init_t, max_rows, note_row, note_t, row_more, row_t, rows_of, word_t}

-- the table where v is noted at the row r, which is an old one below top
unfoldable note_table : ℕ → ℕ → ℕ → ℕ → List ℕ → List ℕ
note_table top r v init t = cond (ltb r top) (init_t r init t) (put_t (put_t t (3 * r + 0) v) (3 * r + 1) init)

pub put_other : (t : List ℕ) (i v j : ℕ) → (j ≡ i → ⊥) → get_or (put_t t i v) j 0 ≡ get_or t j 0
unfolding put_t
put_other t i v j n = get_or-set_other t i j (v % 65536) 0 n

pub put_same : (t : List ℕ) (i v : ℕ) → i < length t → v < 65536 → get_or (put_t t i v) i 0 ≡ v
unfolding put_t
put_same t i v l m = get_or-set_same t i (v % 65536) 0 l ∙ mod-eq_of_lt m

pub put-length : (t : List ℕ) (i v : ℕ) → length (put_t t i v) ≡ length t
unfolding put_t
put-length t i v = length-set t i (v % 65536)

-- the words of other rows
init-other : (r init : ℕ) (t : List ℕ) (j : ℕ) → (j ≡ 3 * r + 1 → ⊥) → get_or (init_t r init t) j 0 ≡ get_or t j 0
unfolding init_t
init-other r init t j n = go (eqb (word_t t r 1) 0)
  where
    go : (b : Bool) → get_or (cond b (put_t t (3 * r + 1) init) t) j 0 ≡ get_or t j 0
    go true = put_other t (3 * r + 1) init j n
    go false = refl

note-other : (top r v init : ℕ) (t : List ℕ) (j : ℕ) → (j ≡ 3 * r + 0 → ⊥) → (j ≡ 3 * r + 1 → ⊥) → get_or (note_table top r v init t) j 0 ≡ get_or t j 0
unfolding note_table
note-other top r v init t j m n = go (ltb r top)
  where
    go : (b : Bool) → get_or (cond b (init_t r init t) (put_t (put_t t (3 * r + 0) v) (3 * r + 1) init)) j 0 ≡ get_or t j 0
    go true = init-other r init t j n
    go false = put_other (put_t t (3 * r + 0) v) (3 * r + 1) init j n ∙ put_other t (3 * r + 0) v j m

module _ (ns : List Name) (s : List ℕ) where
  pub row_same : (t u : List ℕ) (h : ℕ) (x : Sought) → word_t u h 0 ≡ word_t t h 0 → word_t u h 1 ≡ word_t t h 1 → RowIs ns s t h x → RowIs ns s u h x
  unfolding RowIs
  row_same t u h x e f r = (subst (λ y. y < length ns) (sym e) r.0, ap (name_at ns) e ∙ r.1, subst (RowInit ns s x.init) (sym f) r.2)

  pub rows_same : (t u : List ℕ) (h : ℕ) (xs : List Sought) → ((k : ℕ) → h ≤ k → (word_t u k 0 ≡ word_t t k 0) × (word_t u k 1 ≡ word_t t k 1)) → RowsFrom ns s t h xs → RowsFrom ns s u h xs
  unfolding RowsFrom
  rows_same t u h [] a r = tt
  rows_same t u h (x ∷ xs) a r = (row_same t u h x (a h (omega arith)).0 (a h (omega arith)).1 r.0, rows_same t u (suc h) xs (λ k l. a k (omega arith)) r.1)

  -- the initial value that stays
  first-init : (i j : Option Expr) (w init : ℕ) → RowInit ns s i w → RowInit ns s j init → RowInit ns s (first_of i j) (cond (eqb w 0) init w)
  unfolding RowInit InitAt first_of
  first-init none j w init a b = rw a.1 b
  first-init (some e) j w init a b = rw (ne_eqb w 0 (λ z. let l = a.1.0 in omega arith)) a

  init-word : (r init : ℕ) (t : List ℕ) → 3 * r + 1 < length t → init < 65536 → word_t (init_t r init t) r 1 ≡ cond (eqb (word_t t r 1) 0) init (word_t t r 1)
  unfolding init_t
  init-word r init t l m = go (eqb (word_t t r 1) 0)
    where
      go : (b : Bool) → word_t (cond b (put_t t (3 * r + 1) init) t) r 1 ≡ cond b init (word_t t r 1)
      go true = put_same t (3 * r + 1) init l m
      go false = refl

  module _ (fresh : Fresh [] ns) (few : length ns < 65536) (t : List ℕ) (top : ℕ) (room : 3 * top + 3 ≤ length t) (v : ℕ) (small : v < length ns) (i : Option Expr) (init : ℕ) (low : init < 65536) (given : RowInit ns s i init) where
    -- what is known after
    record Noted (h r : ℕ) (xs : List Sought) : Type 0 where
      rows : RowsFrom ns s (note_table top r v init t) h (note (name_at ns v) i xs)
      many : h + length (note (name_at ns v) i xs) ≡ cond (ltb r top) top (top + 1)
      from : h ≤ r
      to : r ≤ top

    new_row : (h : ℕ) → h ≡ top → Noted h h []
    unfolding note RowsFrom RowIs note_table
    new_row h e =
        let a : word_t (put_t (put_t t (3 * h + 0) v) (3 * h + 1) init) h 0 ≡ v = put_other (put_t t (3 * h + 0) v) (3 * h + 1) init (3 * h + 0) (λ z. omega arith) ∙ put_same t (3 * h + 0) v (omega arith) (omega arith) in
        let b : word_t (put_t (put_t t (3 * h + 0) v) (3 * h + 1) init) h 1 ≡ init = put_same (put_t t (3 * h + 0) v) (3 * h + 1) init (let l = put-length t (3 * h + 0) v in omega arith) low in
        record {
          rows = rw (le-ltb h top (omega arith)) ((subst (λ y. y < length ns) (sym a) small, ap (name_at ns) a, subst (RowInit ns s i) (sym b) given), tt);
          many = rw (le-ltb h top (omega arith)) (omega arith);
          from = omega arith;
          to = omega arith;
        }

    here-row : (h : ℕ) (x : Sought) (xs : List Sought) → h + suc (length xs) ≡ top → word_t t h 0 ≡ v → RowIs ns s t h x → RowsFrom ns s t (suc h) xs → eq_name x.var (name_at ns v) ≡ true → Noted h h (x ∷ xs)
    unfolding note RowsFrom note_table RowIs
    here-row h x xs e f r rs g =
        let k : 3 * h + 1 < length t = omega arith in
        let a : word_t (init_t h init t) h 0 ≡ word_t t h 0 = init-other h init t (3 * h + 0) (λ z. omega arith) in
        let n : note_table top h v init t ≡ init_t h init t = rw (lt-ltb h top (omega arith)) in
        record {
          rows = rw (g, lt-ltb h top (omega arith)) (
            (subst (λ y. y < length ns) (sym a) r.0, ap (name_at ns) a ∙ r.1, subst (RowInit ns s (first_of x.init i)) (sym (init-word h init t k low)) (first-init x.init i (word_t t h 1) init r.2 given)),
            subst (λ y. RowsFrom ns s y (suc h) xs) (sym n) (rows_same t (init_t h init t) (suc h) xs (λ j l. (init-other h init t (3 * j + 0) (λ z. omega arith), init-other h init t (3 * j + 1) (λ z. omega arith))) rs),
          );
          many = rw (g, lt-ltb h top (omega arith)) e;
          from = omega arith;
          to = omega arith;
        }

    past_row : (h r : ℕ) (x : Sought) (xs : List Sought) → RowIs ns s t h x → eq_name x.var (name_at ns v) ≡ false → Noted (suc h) r xs → Noted h r (x ∷ xs)
    unfolding note RowsFrom
    past_row h r x xs o g n =
        let l = n.from in
        let m = n.many in
        record {
          rows = rw g (row_same t (note_table top r v init t) h x (note-other top r v init t (3 * h + 0) (λ z. omega arith) (λ z. omega arith)) (note-other top r v init t (3 * h + 1) (λ z. omega arith) (λ z. omega arith)) o, n.rows);
          many = rw g (let k : h + suc (length (note (name_at ns v) i xs)) ≡ suc h + length (note (name_at ns v) i xs) = omega arith in k ∙ m);
          from = omega arith;
          to = n.to;
        }

    row-name : (h : ℕ) (x : Sought) → RowIs ns s t h x → name_at ns (word_t t h 0) ≡ x.var
    unfolding RowIs
    row-name h x r = r.1

    row_below : (h : ℕ) (x : Sought) → RowIs ns s t h x → word_t t h 0 < length ns
    unfolding RowIs
    row_below h x r = r.0

    noted : (n h : ℕ) (xs : List Sought) → n ≡ length xs → h + length xs ≡ top → RowsFrom ns s t h xs → Noted h (row_t t v n h) xs
    unfolding row_t RowsFrom
    noted zero h [] e f r = new_row h (omega arith)
    noted zero h (x ∷ xs) e f r = absurd (omega arith)
    noted (suc n) h [] e f r = absurd (omega arith)
    noted (suc n) h (x ∷ xs) e f r = go (eqb (word_t t h 0) v) refl (noted n (suc h) xs (omega arith) (omega arith) r.1)
      where
        same : (b : Bool) → eqb (word_t t h 0) v ≡ b → eq_name x.var (name_at ns v) ≡ b
        same b d = ap (λ y. eq_name y (name_at ns v)) (sym (row-name h x r.0)) ∙ alone ns fresh v (word_t t h 0) small (row_below h x r.0) ∙ d

        go : (b : Bool) → eqb (word_t t h 0) v ≡ b → Noted (suc h) (row_t t v n (suc h)) xs → Noted h (cond b h (row_t t v n (suc h))) (x ∷ xs)
        go true d k = here-row h x xs f (eqb-true (word_t t h 0) v d) r.0 r.1 (same true d)
        go false d k = past_row h (row_t t v n (suc h)) x xs r.0 (same false d) k

    old-noted : (r : ℕ) (xs : List Sought) → r < top → Noted 0 r xs → RowsFrom ns s (init_t r init t) 0 (note (name_at ns v) i xs) × (top ≡ length (note (name_at ns v) i xs))
    unfolding note_table
    old-noted r xs l n = (subst (λ b. RowsFrom ns s (cond b (init_t r init t) (put_t (put_t t (3 * r + 0) v) (3 * r + 1) init)) 0 (note (name_at ns v) i xs)) (lt-ltb r top l) n.rows, let g : 0 + length (note (name_at ns v) i xs) ≡ top = n.many ∙ ap (λ b. cond b top (top + 1)) (lt-ltb r top l) in omega arith)

    new-noted : (r : ℕ) (xs : List Sought) → top ≤ r → Noted 0 r xs → RowsFrom ns s (put_t (put_t t (3 * top + 0) v) (3 * top + 1) init) 0 (note (name_at ns v) i xs) × (top + 1 ≡ length (note (name_at ns v) i xs))
    unfolding note_table
    new-noted r xs l n =
        let e : r ≡ top = let k = n.to in omega arith in (
          subst (λ y. RowsFrom ns s (put_t (put_t t (3 * y + 0) v) (3 * y + 1) init) 0 (note (name_at ns v) i xs)) e
              (subst (λ b. RowsFrom ns s (cond b (init_t r init t) (put_t (put_t t (3 * r + 0) v) (3 * r + 1) init)) 0 (note (name_at ns v) i xs)) (le-ltb r top l) n.rows),
          let g : 0 + length (note (name_at ns v) i xs) ≡ top + 1 = n.many ∙ ap (λ b. cond b top (top + 1)) (le-ltb r top l) in omega arith,
        )

    -- the rows are those of the list
    abbrev RowsAre : Rows → List Sought → Type 0
    RowsAre z xs = RowsFrom ns s z.table 0 xs × (z.count ≡ length xs)

    -- THE LAW: noted in the table, noted in the list
    pub note-is : (xs : List Sought) → length xs ≡ top → top < 8192 → RowsFrom ns s t 0 xs → RowsAre (note_t v init (rows_of t top)) (note (name_at ns v) i xs)
    unfolding note_t note_row row_more max_rows
    note-is xs e l r =
        let n = noted top 0 xs (sym e) (omega arith) r in
        ⊎_elim
        (λ (k : row_t t v top 0 < top). subst (λ b. RowsAre (cond b (rows_of (init_t (row_t t v top 0) init t) top) (cond (ltb top 8192) (rows_of (put_t (put_t t (3 * top + 0) v) (3 * top + 1) init) (top + 1)) (rows_of t top))) (note (name_at ns v) i xs)) (sym (lt-ltb (row_t t v top 0) top k)) (old-noted (row_t t v top 0) xs k n))
        (λ (k : top ≤ row_t t v top 0). subst (λ b. RowsAre (cond b (rows_of (init_t (row_t t v top 0) init t) top) (cond (ltb top 8192) (rows_of (put_t (put_t t (3 * top + 0) v) (3 * top + 1) init) (top + 1)) (rows_of t top))) (note (name_at ns v) i xs)) (sym (le-ltb (row_t t v top 0) top k))
        (subst (λ b. RowsAre (cond b (rows_of (put_t (put_t t (3 * top + 0) v) (3 * top + 1) init) (top + 1)) (rows_of t top)) (note (name_at ns v) i xs)) (sym (lt-ltb top 8192 l)) (new-noted (row_t t v top 0) xs k n)))
        (lt-or-le (row_t t v top 0) top)

-- the table stays as long
pub note-length : (v init : ℕ) (z : Rows) → length (note_t v init z).table ≡ length z.table
unfolding note_t note_row row_more init_t
note-length v init z = first (ltb (row_t z.table v z.count 0) z.count)
  where
    h : ℕ
    h = row_t z.table v z.count 0

    given : (b : Bool) → length (cond b (put_t z.table (3 * h + 1) init) z.table) ≡ length z.table
    given true = put-length z.table (3 * h + 1) init
    given false = refl

    more : (b : Bool) → length (cond b (rows_of (put_t (put_t z.table (3 * z.count + 0) v) (3 * z.count + 1) init) (z.count + 1)) z).table ≡ length z.table
    more true = put-length (put_t z.table (3 * z.count + 0) v) (3 * z.count + 1) init ∙ put-length z.table (3 * z.count + 0) v
    more false = refl

    first : (b : Bool) → length (cond b (rows_of (cond (eqb (word_t z.table h 1) 0) (put_t z.table (3 * h + 1) init) z.table) z.count) (cond (ltb z.count max_rows) (rows_of (put_t (put_t z.table (3 * z.count + 0) v) (3 * z.count + 1) init) (z.count + 1)) z)).table ≡ length z.table
    first true = given (eqb (word_t z.table h 1) 0)
    first false = more (ltb z.count max_rows)

-- at most one row more
pub note-count : (v init : ℕ) (z : Rows) → (note_t v init z).count ≤ z.count + 1
unfolding note_t note_row row_more
note-count v init z = first (ltb (row_t z.table v z.count 0) z.count)
  where
    more : (b : Bool) → (cond b (rows_of (put_t (put_t z.table (3 * z.count + 0) v) (3 * z.count + 1) init) (z.count + 1)) z).count ≤ z.count + 1
    more true = omega arith
    more false = omega arith

    first : (b : Bool) → (cond b (rows_of (init_t (row_t z.table v z.count 0) init z.table) z.count) (cond (ltb z.count max_rows) (rows_of (put_t (put_t z.table (3 * z.count + 0) v) (3 * z.count + 1) init) (z.count + 1)) z)).count ≤ z.count + 1
    first true = omega arith
    first false = more (ltb z.count max_rows)

-- Laws of names by number: comparing, searching and counting in a table, and the steps that write a name.
use Rattle.std.proofs.Common.{◌≡◌, ℕ, zero, suc, ◌+◌, ◌-◌, ◌<◌, ◌≤◌, min, Bool, true, false, cond, ◌&&◌, eqb, ltb, leb, List, [], ◌∷◌, ◌++◌, length, get_or, take, drop, replicate, sym, refl, ap, ◌∙◌, ⊎_elim, zero-le, zero-add, add-one, arith, length-append, length-drop, drop_of_length-le, length-take, length-take-le, drop-cons, take_at, le-ltb, lt-ltb, eq-eqb, ne_eqb, le-leb}
use lib.ListN.{length-replicate}
use lib.Seq.{length_front}
use borrow.Author.Tests.{lt-leb}
use Rattle.wire.specs.declared.writer.Writer.{Writer}
use Rattle.wire.specs.Bytes.{two}
use Rattle.wire.specs.Writer.{State, full, st, state_of, put, puts, swapped}
use Rattle.wire.proofs.Writers.{lt-or-le, puts-full, puts-fit, take_part, take-capped, drop-capped}
use Rattle.pack_rules.specs.Limits.{max_name}
use Rattle.pack_rules.specs.Names.{Name, eq_name}
use Rattle.pack_rules.specs.Write.{Item, Found, At, Missing, enc, lookup}
use Rattle.pack.specs.Table.{table_f, table, texts_from, table_room, number_in, seek, noted, enter, entered, blank, tabled}
use Rattle.pack.specs.Intern.{noted_in, put_entry, put_entries, put_added, put_new, put_found, put_name, put_built, put_item, render, started}
use Rattle.pack.proofs.TableIndex.{enter-length, noted-length, blank-length}

pub and-false : (t : Bool) {u : Bool} → u ≡ false → t && u ≡ false
and-false true e = e
and-false false e = refl

-- names of other lengths differ
pub eq_name-length : (a b : Name) → (length a ≡ length b → ⊥) → eq_name a b ≡ false
unfolding eq_name
eq_name-length [] [] h = absurd (h refl)
eq_name-length [] (y ∷ ys) h = refl
eq_name-length (x ∷ xs) [] h = refl
eq_name-length (x ∷ xs) (y ∷ ys) h = and-false (eqb x y) (eq_name-length xs ys (λ e. h (ap suc e)))

pub eq_name-nil : (a b : Name) (i : ℕ) → length a ≤ i → length a ≡ length b → eq_name (drop i a) (drop i b) ≡ true
unfolding eq_name
eq_name-nil a b i h e = rw (drop_of_length-le a h, drop_of_length-le b {i = i} (omega arith))

-- one place further: the bytes there are the same
pub eq_name-more : (a b : Name) (i : ℕ) → i < length a → i < length b → get_or a i 0 ≡ get_or b i 0
    → eq_name (drop i a) (drop i b) ≡ eq_name (drop (i + 1) a) (drop (i + 1) b)
unfolding eq_name
eq_name-more a b i h g e = rw (add-one, drop-cons a i 0 h, drop-cons b i 0 g, eq-eqb _ _ e)

pub eq_name-other : (a b : Name) (i : ℕ) → i < length a → i < length b → (get_or a i 0 ≡ get_or b i 0 → ⊥)
    → eq_name (drop i a) (drop i b) ≡ false
unfolding eq_name
eq_name-other a b i h g e = rw (drop-cons a i 0 h, drop-cons b i 0 g, ne_eqb _ _ e)

-- a search, by whether the first name is the one
pub lookup-here : (m : Name) (ms : List Name) (n : Name) (k : ℕ) → eq_name m n ≡ true → lookup (m ∷ ms) n k ≡ At k
unfolding lookup
lookup-here m ms n k e = ap (λ (t : Bool). elim t [ true ↦ At k | false ↦ lookup ms n (k + 1) ]) e

pub lookup-past : (m : Name) (ms : List Name) (n : Name) (k : ℕ) → eq_name m n ≡ false → lookup (m ∷ ms) n k ≡ lookup ms n (k + 1)
unfolding lookup
lookup-past m ms n k e = ap (λ (t : Bool). elim t [ true ↦ At k | false ↦ lookup ms n (k + 1) ]) e

-- one name further in a table: e is where the name at `at` ends
pub table-turn : (t : List ℕ) (at k e : ℕ) → at < length t → k ≤ at → e ≡ min (at + 1 + get_or t at 0) (length t)
    → table_f (length t - k) (drop at t) ≡ take (e - (at + 1)) (drop (at + 1) t) ∷ table_f (length t - (k + 1)) (drop e t)
unfolding table_f
table-turn t at k e h g p =
    let i : at + 1 ≤ length t = omega arith in
    let f : length t - k ≡ suc (length t - (k + 1)) = omega arith in
    rw (p, take-capped t (at + 1) (get_or t at 0) i, drop-capped t (at + 1) (get_or t at 0) i, f, drop-cons t at 0 h, add-one at)

pub table_done : (f : ℕ) (t : List ℕ) (at : ℕ) → length t ≤ at → table_f f (drop at t) ≡ []
unfolding table_f
table_done f t at h = rw (drop_of_length-le t h) (go f)
  where
    go : (f : ℕ) → table_f f [] ≡ []
    go zero = refl
    go (suc f) = refl

-- the turns of the search
module _ (t : List ℕ) (n : Name) (at k e : ℕ) (h : at < length t) (g : k ≤ at) (p : e ≡ min (at + 1 + get_or t at 0) (length t)) where
  pub found_here : eq_name (take (e - (at + 1)) (drop (at + 1) t)) n ≡ true → lookup (table_f (length t - k) (drop at t)) n k ≡ At k
  found_here q = ap (λ (ns : List Name). lookup ns n k) (table-turn t at k e h g p) ∙ lookup-here _ _ n k q

  pub found-past : eq_name (take (e - (at + 1)) (drop (at + 1) t)) n ≡ false
      → lookup (table_f (length t - k) (drop at t)) n k ≡ lookup (table_f (length t - (k + 1)) (drop e t)) n (k + 1)
  found-past q = ap (λ (ns : List Name). lookup ns n k) (table-turn t at k e h g p) ∙ lookup-past _ _ n k q

pub found_none : (f : ℕ) (t : List ℕ) (n : Name) (at k : ℕ) → length t ≤ at → lookup (table_f f (drop at t)) n k ≡ Missing k
unfolding lookup
found_none f t n at k h = rw (table_done f t at h)

-- the turns of the count
pub count_turn : (t : List ℕ) (at k e : ℕ) → at < length t → k ≤ at → e ≡ min (at + 1 + get_or t at 0) (length t)
    → k + 1 + length (table_f (length t - (k + 1)) (drop e t)) ≡ k + length (table_f (length t - k) (drop at t))
count_turn t at k e h g p = rw (table-turn t at k e h g p) (omega arith)

pub count-done : (f : ℕ) (t : List ℕ) (at k : ℕ) → length t ≤ at → k ≡ k + length (table_f f (drop at t))
count-done f t at k h = rw (table_done f t at h) (omega arith)

lookup-number : (ns : List Name) (n : Name) (k : ℕ) → number_in (lookup ns n k) ≤ k + length ns
unfolding lookup number_in
lookup-number [] n k = omega arith
lookup-number (m ∷ ms) n k = go (eq_name m n) (lookup-number ms n (k + 1))
  where
    go : (t : Bool) → number_in (lookup ms n (k + 1)) ≤ k + 1 + length ms
        → number_in (elim t [ true ↦ At k | false ↦ lookup ms n (k + 1) ]) ≤ k + suc (length ms)
    go true h = omega arith
    go false h = omega arith

table_f-length : (f : ℕ) (t : List ℕ) → length (table_f f t) ≤ f
unfolding table_f
table_f-length zero t = omega arith
table_f-length (suc f) [] = omega arith
table_f-length (suc f) (l ∷ rest) = omega (arith, table_f-length f (drop l rest))

-- a table has no more names than bytes, and no number found is larger
pub table-length : (t : List ℕ) → length (table t) ≤ length t
unfolding table
table-length t = table_f-length (length t) t

pub found_number : (t : List ℕ) (n : Name) (f : Found) → f ≡ lookup (table t) n 0 → number_in f ≤ length t
found_number t n f e = rw e (omega (arith, lookup-number (table t) n 0, table-length t))

-- the bound on an answer, of what it is
pub number_of : (f g : Found) (k : ℕ) → f ≡ g → number_in f ≤ k → number_in g ≤ k
number_of f g k e h = rw e at h

pub entry-steps : (n : Name) (s x : State) → x ≡ noted_in n s → swapped (puts n (put (length n) (swapped x))) ≡ put_entry n s
unfolding put_entry puts
entry-steps n s x e = ap (λ (y : State). swapped (puts n (put (length n) (swapped y)))) e

-- the index of new names with one more
pub noted-is : (o m k n : List ℕ) (w : Writer) (e : ℕ) → e ≡ min w.made (length m) → k ≡ noted n (take e m) ++ drop e m
    → state_of o k w ≡ noted_in n (state_of o m w)
unfolding state_of noted_in
noted-is o m k n w e p q = go w.full
  where
    part : take e m ≡ take w.made m
    part = take_part m w.made e p

    size : length k ≡ length m
    size = ap length q ∙ length_front m (noted n (take e m)) e (noted-length (take e m) n)

    front : take w.made k ≡ noted n (take w.made m)
    front =
        let l : length (noted n (take e m)) ≡ e = noted-length (take e m) n ∙ length-take-le e m (omega arith) in
        let z : e ≡ min w.made (length k) = omega (arith, size) in
        sym (take_part k w.made e z) ∙ ap (take e) q ∙ take_at (noted n (take e m)) (drop e m) e l ∙ ap (noted n) part

    go : (t : Bool) → cond t full (st (length o) (length k) (take w.at o) (take w.made k))
        ≡ noted_in n (cond t full (st (length o) (length m) (take w.at o) (take w.made m)))
    go true = refl
    go false = rw (size, front)

-- a full writer stays full
pub entry-full : (n : Name) → put_entry n full ≡ full
unfolding put_entry swapped noted_in
entry-full n = ap swapped (puts-full (length n ∷ n))

added_full : (f : Found) (b : ℕ) (n : Name) → put_added f b n full ≡ full
unfolding put_added
added_full (At k) b n = puts-full (two (b + k))
added_full (Missing k) b n = ap (puts (two (b + k))) (entry-full n) ∙ puts-full (two (b + k))

pub put_found-full : (f : Found) (n : Name) → put_found f n full ≡ full
unfolding put_found put_new
put_found-full (At k) n = puts-full (two k)
put_found-full (Missing b) n = refl

-- what was found in the part of `made` that the writer has used is what is found among the new names
pub put_new-is : (o m n : List ℕ) (w : Writer) (b e : ℕ) (f : Found) → e ≡ min w.made (length m) → f ≡ seek (take e m) n
    → put_added f b n (state_of o m w) ≡ put_new b n (state_of o m w)
unfolding state_of put_new
put_new-is o m n w b e f p q = go w.full
  where
    go : (t : Bool) → put_added f b n (cond t full (st (length o) (length m) (take w.at o) (take w.made m)))
        ≡ put_new b n (cond t full (st (length o) (length m) (take w.at o) (take w.made m)))
    go true = added_full f b n
    go false = rw (q, take_part m w.made e p)

-- a name by its length, and by what was found
pub name-long : (old n : List ℕ) (s : State) → 255 < length n → full ≡ put_name old n s
unfolding put_name
name-long old n s h = rw (lt-ltb 255 (length n) h)

pub name-found : (old n : List ℕ) (s : State) (f : Found) → length n ≤ 255 → f ≡ seek old n → put_found f n s ≡ put_name old n s
unfolding put_name
name-found old n s f h e = rw (le-ltb 255 (length n) h, e)

-- a full writer stays full
pub name-full : (old n : List ℕ) → full ≡ put_name old n full
unfolding put_name
name-full old n = go (ltb max_name (length n))
  where
    go : (t : Bool) → full ≡ cond t full (put_found (seek old n) n full)
    go true = refl
    go false = sym (put_found-full (seek old n) n)

pub name-stopped : (old out made n : List ℕ) (w : Writer) → w.full ≡ true → state_of out made w ≡ put_name old n (state_of out made w)
unfolding state_of
name-stopped old out made n w e = rw e (name-full old n)

-- a made name that was written to a buffer of 255 bytes is that name
pub built-is : (old n : List ℕ) (cm : ℕ) (md : List ℕ) (s : State) → put_built old (puts n (st 255 cm [] md)) s ≡ put_name old n s
unfolding put_built put_name
built-is old n cm md s = rw (puts-fit 255 cm md n [] zero-le, zero-add) (⊎_elim over fits (lt-or-le 255 (length n)))
  where
    over : 255 < length n
        → put_built old (cond (leb (length n) 255) (st 255 cm n md) full) s ≡ cond (ltb 255 (length n)) full (put_found (seek old n) n s)
    over g = rw (lt-leb _ _ g, lt-ltb _ _ g)

    fits : length n ≤ 255
        → put_built old (cond (leb (length n) 255) (st 255 cm n md) full) s ≡ cond (ltb 255 (length n)) full (put_found (seek old n) n s)
    fits g = rw (le-leb _ _ g, le-ltb _ _ g)

pub built_of : (old n : List ℕ) (x s : State) → x ≡ puts n (st 255 0 [] []) → put_built old x s ≡ put_name old n s
built_of old n x s e = rw e (built-is old n 0 [] s)

pub built-full : (old buf : List ℕ) (v : Writer) (s : State) → v.full ≡ true → full ≡ put_built old (state_of buf [] v) s
unfolding put_built state_of
built-full old buf v s e = rw e

pub built-part : (old buf : List ℕ) (v : Writer) (s : State) (e : ℕ) → v.full ≡ false → e ≡ min v.at (length buf)
    → put_name old (take e buf) s ≡ put_built old (state_of buf [] v) s
unfolding put_built state_of
built-part old buf v s e h p = rw (h, take_part buf v.at e p)

-- items one list after the other
pub render-append : (old : List ℕ) (is js : List Item) (s : State) → render old (is ++ js) s ≡ render old js (render old is s)
unfolding render
render-append old [] js s = refl
render-append old (i ∷ is) js s = render-append old is js (put_item old i s)

-- a name more that fits
pub entry-enters : (co cm : ℕ) (bs t : List ℕ) (n : Name) → length t + suc (length n) ≤ cm → put_entry n (st co cm bs t) ≡ st co cm bs (enter n t)
unfolding put_entry noted_in swapped enter
entry-enters co cm bs t n h =
    rw (puts-fit cm co bs (length n ∷ n) (noted n t) (omega (arith, noted-length t n)), noted-length, le-leb _ _ h)

pub entry-over : (co cm : ℕ) (bs t : List ℕ) (n : Name) → length t ≤ cm → cm < length t + suc (length n) → put_entry n (st co cm bs t) ≡ full
unfolding put_entry noted_in swapped
entry-over co cm bs t n g h =
    rw (puts-fit cm co bs (length n ∷ n) (noted n t) (omega (arith, noted-length t n)), noted-length, lt-leb _ _ h)

-- names that fit
entries_fit : (ns : List Name) (co cm : ℕ) (bs t : List ℕ) → length t + length (enc ns) ≤ cm → put_entries ns (st co cm bs t) ≡ st co cm bs (entered ns t)
unfolding put_entries entered enc
entries_fit [] co cm bs t h = refl
entries_fit (n ∷ ns) co cm bs t h =
    let l = length-append n (enc ns) in
    ap (put_entries ns) (entry-enters co cm bs t n (omega arith))
    ∙ entries_fit ns co cm bs (enter n t) (omega (arith, enter-length n t))

-- more steps than names change nothing
table_f-enough : (f g : ℕ) (t : List ℕ) → length t ≤ f → length t ≤ g → table_f f t ≡ table_f g t
unfolding table_f
table_f-enough zero zero t h i = refl
table_f-enough zero (suc g) [] h i = refl
table_f-enough (suc f) zero [] h i = refl
table_f-enough (suc f) (suc g) [] h i = refl
table_f-enough zero (suc g) (l ∷ rest) h i = absurd (omega arith)
table_f-enough (suc f) zero (l ∷ rest) h i = absurd (omega arith)
table_f-enough (suc f) (suc g) (l ∷ rest) h i =
    ap (λ (ns : List Name). take l rest ∷ ns) (table_f-enough f g (drop l rest) (omega (arith, length-drop l rest)) (omega (arith, length-drop l rest)))

-- one name further
entries-turn : (t : List ℕ) (at e : ℕ) → at < length t → e ≡ min (at + 1 + get_or t at 0) (length t)
    → table (drop at t) ≡ take (e - (at + 1)) (drop (at + 1) t) ∷ table (drop e t)
unfolding table
entries-turn t at e h p =
    table_f-enough (length (drop at t)) (length t - 0) (drop at t) (omega arith) (omega (arith, length-drop at t))
    ∙ table-turn t at 0 e h zero-le p
    ∙ ap (λ (ns : List Name). take (e - (at + 1)) (drop (at + 1) t) ∷ ns)
    (table_f-enough (length t - (0 + 1)) (length (drop e t)) (drop e t) (omega (arith, length-drop e t)) (omega arith))

pub put-entries-turn : (t : List ℕ) (at e : ℕ) (s : State) → at < length t → e ≡ min (at + 1 + get_or t at 0) (length t)
    → put_entries (table (drop e t)) (put_entry (take (e - (at + 1)) (drop (at + 1) t)) s) ≡ put_entries (table (drop at t)) s
unfolding put_entries
put-entries-turn t at e s h p = ap (λ (ns : List Name). put_entries ns s) (sym (entries-turn t at e h p))

pub put-entries-done : (t : List ℕ) (at : ℕ) (s : State) → length t ≤ at → put_entries (table (drop at t)) s ≡ s
unfolding put_entries table
put-entries-done t at s h = ap (λ (ns : List Name). put_entries ns s) (table_done (length (drop at t)) t at h)

-- what a table's names take is no more than its bytes
table_f-most : (f : ℕ) (t : List ℕ) → length (enc (table_f f t)) ≤ length t
unfolding table_f enc
table_f-most zero t = zero-le
table_f-most (suc f) [] = zero-le
table_f-most (suc f) (l ∷ rest) =
    omega (arith, length-append (take l rest) (enc (table_f f (drop l rest))), length-take l rest, table_f-most f (drop l rest), length-drop l rest)

take-replicate : (n m : ℕ) → n ≤ m → take n (replicate {A = ℕ} m 0) ≡ replicate n 0
take-replicate zero m h = refl
take-replicate (suc n) zero h = absurd (omega arith)
take-replicate (suc n) (suc m) h = ap (λ (l : List ℕ). 0 ∷ l) (take-replicate n m (omega arith))

pub started-blank : (o : List ℕ) (k : ℕ) → started o (replicate (texts_from + k) 0) ≡ st (length o) (texts_from + k) [] blank
unfolding started blank
started-blank o k = rw (length-replicate {A = ℕ} (texts_from + k) 0, take-replicate texts_from (texts_from + k) (omega arith))

pub buffer-size : table_room ≡ texts_from + 65536
unfolding texts_from
buffer-size = refl

laid-state : (names m : List ℕ) → length names ≤ 65536 → m ≡ replicate table_room 0
    → put_entries (table names) (started [] m) ≡ st 0 (texts_from + 65536) [] (tabled (table names))
unfolding table tabled
laid-state names m h b =
    ap (λ (l : List ℕ). put_entries (table_f (length names) names) (started [] l)) (b ∙ ap (λ y. replicate y 0) buffer-size)
    ∙ ap (put_entries (table_f (length names) names)) (started-blank [] 65536)
    ∙ entries_fit (table_f (length names) names) 0 (texts_from + 65536) [] blank (omega (arith, table_f-most (length names) names, blank-length))

-- the table of names in a buffer that was blank
pub laid-is : (names m k : List ℕ) (w : Writer) (e : ℕ) → length names ≤ 65536 → m ≡ replicate table_room 0
    → state_of [] k w ≡ put_entries (table names) (started [] m) → e ≡ min w.made (length k) → take e k ≡ tabled (table names)
unfolding state_of
laid-is names m k w e h b r p = take_part k w.made e p ∙ go w.full (r ∙ laid-state names m h b)
  where
    go : (t : Bool) → cond t full (st 0 (length k) (take w.at []) (take w.made k)) ≡ st 0 (texts_from + 65536) [] (tabled (table names)) → take w.made k ≡ tabled (table names)
    go true q = let z : ◌≡◌ {A = ℕ} 0 1 = cc in absurd (omega arith)
    go false q = cc

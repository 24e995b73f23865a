-- The bounded writer reaches what the items of a package spell, or is full where that is too large.
use Rattle.std.proofs.Common.{◌≡◌, ℕ, ◌+◌, ◌<◌, ◌≤◌, Bool, true, false, cond, ◌&&◌, ◌⊎◌, List, [], ◌∷◌, ◌++◌, length, replicate, sym, refl, ap, ◌∙◌, subst, inl, inr, ⊎_elim, append_assoc, append-nil, zero-le, arith, length-append, lt-ltb, le-leb}
use lib.ListN.{length-replicate}
use borrow.Author.Tests.{lt-leb}
use Rattle.wire.specs.Bytes.{two}
use Rattle.wire.specs.Writer.{State, full, st, puts}
use Rattle.wire.proofs.Writers.{lt-or-le, puts-fit, puts-full}
use Rattle.pack_rules.specs.Limits.{max_bytes}
use Rattle.pack_rules.specs.Names.{Name}
use Rattle.pack_rules.specs.Syntax.{Package}
use Rattle.pack_rules.specs.Write.{Item, raw, nm, enc, Found, At, Missing, lookup, Spelt, spelt, new_in, old_in, spell_one, before, and_then, spell, joined, encode, short, shorts, package_items}
use Rattle.pack.specs.Table.{texts_from, table_room, seek, blank, tabled}
use Rattle.pack.specs.Intern.{put_entry, put_added, put_new, put_found, put_item, render, started, unwritten}
use Rattle.pack_rules.specs.Outcome.{Outcome, answers, sized, written}
use Rattle.pack.specs.Finish.{pack_of, answered}
use Rattle.pack_rules.specs.Legal.{new_of}
use Rattle.pack.proofs.TableIndex.{enc-more, length-tabled, seek-tabled, tabled-more, tabled-none, table-enc, texts-tabled}
use Rattle.pack.proofs.Interns.{and-false, buffer-size, entry-enters, entry-over, name-found, name-long, put_found-full, started-blank}

-- the bytes and the new names that are spelt
abbrev pub bytes_of : Spelt → List ℕ
bytes_of (spelt b ns) = b

-- all names are short and all fits: so many bytes and names after those that stand there
abbrev pub Fits : ℕ → ℕ → List ℕ → Bool → List ℕ → List Name → Type 0
Fits co cm bs sh b ns = (sh ≡ true) × (length bs + length b ≤ co) × (length (enc ns) ≤ cm)

-- some name is over 255 bytes, or the bytes or the new names are over their buffer
abbrev pub Over : ℕ → ℕ → List ℕ → Bool → List ℕ → List Name → Type 0
Over co cm bs sh b ns = (sh ≡ false) ⊎ ((co < length bs + length b) ⊎ (cm < length (enc ns)))

-- the state that is reached from the bytes bs
abbrev pub Reached : State → ℕ → ℕ → List ℕ → Bool → List ℕ → List Name → Type 0
Reached s co cm bs sh b ns = (Fits co cm bs sh b ns × (s ≡ st co (texts_from + cm) (bs ++ b) (tabled ns))) ⊎ (Over co cm bs sh b ns × (s ≡ full))

-- bytes alone
puts-reach : (co cm : ℕ) (bs xs : List ℕ) (ns : List Name) → length bs ≤ co → length (enc ns) ≤ cm
    → Reached (puts xs (st co (texts_from + cm) bs (tabled ns))) co cm bs true xs ns
puts-reach co cm bs xs ns h g = ⊎_elim
    (λ (o : co < length bs + length xs). inr (inr (inl o), puts-fit co (texts_from + cm) (tabled ns) xs bs h ∙ rw (lt-leb _ _ o)))
    (λ (o : length bs + length xs ≤ co). inl ((refl, o, g), puts-fit co (texts_from + cm) (tabled ns) xs bs h ∙ rw (le-leb _ _ o)))
    (lt-or-le co (length bs + length xs))

-- a new name
more-fits : (co cm : ℕ) (bs : List ℕ) (n : Name) (ns : List Name) → length (enc (ns ++ (n ∷ []))) ≤ cm
    → put_entry n (st co (texts_from + cm) bs (tabled ns)) ≡ st co (texts_from + cm) bs (tabled (ns ++ (n ∷ [])))
more-fits co cm bs n ns h =
    let l = ap length (enc-more ns n) in
    entry-enters co (texts_from + cm) bs (tabled ns) n (omega (arith, length-append (enc ns) (length n ∷ n), length-tabled ns))
    ∙ ap (st co (texts_from + cm) bs) (sym (tabled-more ns n))

more-over : (co cm : ℕ) (bs : List ℕ) (n : Name) (ns : List Name) → length (enc ns) ≤ cm → cm < length (enc (ns ++ (n ∷ [])))
    → put_entry n (st co (texts_from + cm) bs (tabled ns)) ≡ full
more-over co cm bs n ns g h =
    let l = ap length (enc-more ns n) in
    let k = length-tabled ns in
    entry-over co (texts_from + cm) bs (tabled ns) n (omega arith) (omega (arith, length-append (enc ns) (length n ∷ n)))

added-reach : (f : Found) (co cm : ℕ) (bs : List ℕ) (n : Name) (b : ℕ) (ns : List Name) → length bs ≤ co → length (enc ns) ≤ cm
    → Reached (put_added f b n (st co (texts_from + cm) bs (tabled ns))) co cm bs true (bytes_of (new_in f b n ns)) (new_of (new_in f b n ns))
unfolding put_added new_in
added-reach (At k) co cm bs n b ns h g = puts-reach co cm bs (two (b + k)) ns h g
added-reach (Missing k) co cm bs n b ns h g = ⊎_elim
    (λ (o : cm < length (enc (ns ++ (n ∷ [])))). inr (inr (inr o), ap (puts (two (b + k))) (more-over co cm bs n ns g o) ∙ puts-full (two (b + k))))
    (λ (o : length (enc (ns ++ (n ∷ []))) ≤ cm). rw (more-fits co cm bs n ns o) (puts-reach co cm bs (two (b + k)) (ns ++ (n ∷ [])) h o))
    (lt-or-le cm (length (enc (ns ++ (n ∷ [])))))

put_new-tabled : (co cm : ℕ) (bs : List ℕ) (n : Name) (b : ℕ) (ns : List Name)
    → put_new b n (st co (texts_from + cm) bs (tabled ns)) ≡ put_added (lookup ns n 0) b n (st co (texts_from + cm) bs (tabled ns))
unfolding put_new
put_new-tabled co cm bs n b ns = rw (seek-tabled ns n)

put_found-reach : (f : Found) (co cm : ℕ) (bs : List ℕ) (n : Name) (ns : List Name) → length bs ≤ co → length (enc ns) ≤ cm
    → Reached (put_found f n (st co (texts_from + cm) bs (tabled ns))) co cm bs true (bytes_of (old_in f n ns)) (new_of (old_in f n ns))
unfolding put_found old_in
put_found-reach (At k) co cm bs n ns h g = puts-reach co cm bs (two k) ns h g
put_found-reach (Missing b) co cm bs n ns h g = rw (put_new-tabled co cm bs n b ns) (added-reach (lookup ns n 0) co cm bs n b ns h g)

-- one item
one-reach : (olds : List Name) (i : Item) (co cm : ℕ) (bs : List ℕ) (ns : List Name) → length bs ≤ co → length (enc ns) ≤ cm
    → Reached (put_item (tabled olds) i (st co (texts_from + cm) bs (tabled ns))) co cm bs (short i) (bytes_of (spell_one olds i ns)) (new_of (spell_one olds i ns))
unfolding put_item spell_one short
one-reach olds (raw xs) co cm bs ns h g = puts-reach co cm bs xs ns h g
one-reach olds (nm n) co cm bs ns h g = ⊎_elim
    (λ (o : 255 < length n). inr (inl (lt-leb _ _ o), sym (name-long (tabled olds) n (st co (texts_from + cm) bs (tabled ns)) o)))
    (λ (o : length n ≤ 255).
    let e : lookup olds n 0 ≡ seek (tabled olds) n = sym (seek-tabled olds n) in
    rw (le-leb _ _ o, ← name-found (tabled olds) n (st co (texts_from + cm) bs (tabled ns)) (lookup olds n 0) o e) (put_found-reach (lookup olds n 0) co cm bs n ns h g))
    (lt-or-le 255 (length n))

-- names only grow
new_in-grows : (f : Found) (b : ℕ) (n : Name) (ns : List Name) → length (enc ns) ≤ length (enc (new_of (new_in f b n ns)))
unfolding new_in
new_in-grows (At k) b n ns = omega arith
new_in-grows (Missing k) b n ns = rw enc-more (omega (arith, length-append (enc ns) (length n ∷ n)))

old_in-grows : (f : Found) (n : Name) (ns : List Name) → length (enc ns) ≤ length (enc (new_of (old_in f n ns)))
unfolding old_in
old_in-grows (At k) n ns = omega arith
old_in-grows (Missing b) n ns = new_in-grows (lookup ns n 0) b n ns

one_grows : (olds : List Name) (i : Item) (ns : List Name) → length (enc ns) ≤ length (enc (new_of (spell_one olds i ns)))
unfolding spell_one
one_grows olds (raw xs) ns = omega arith
one_grows olds (nm n) ns = old_in-grows (lookup olds n 0) n ns

-- what is spelt, item by item
module _ (k : List Name → Spelt) where
  then-bytes : (x : Spelt) → bytes_of (and_then x k) ≡ bytes_of x ++ bytes_of (k (new_of x))
  unfolding and_then before
  then-bytes (spelt b ns) = go (k ns)
    where
      go : (y : Spelt) → bytes_of (before b y) ≡ b ++ bytes_of y
      go (spelt c ms) = refl

  then-names : (x : Spelt) → new_of (and_then x k) ≡ new_of (k (new_of x))
  unfolding and_then before
  then-names (spelt b ns) = go (k ns)
    where
      go : (y : Spelt) → new_of (before b y) ≡ new_of y
      go (spelt c ms) = refl

module _ (olds : List Name) (i : Item) (is : List Item) (ns : List Name) where
  spell-bytes : bytes_of (spell olds (i ∷ is) ns) ≡ bytes_of (spell_one olds i ns) ++ bytes_of (spell olds is (new_of (spell_one olds i ns)))
  unfolding spell
  spell-bytes = then-bytes (λ ms. spell olds is ms) (spell_one olds i ns)

  spell-names : new_of (spell olds (i ∷ is) ns) ≡ new_of (spell olds is (new_of (spell_one olds i ns)))
  unfolding spell
  spell-names = then-names (λ ms. spell olds is ms) (spell_one olds i ns)

spell-none : (olds : List Name) (ns : List Name) → spell olds [] ns ≡ spelt [] ns
unfolding spell
spell-none olds ns = refl

spell-grows : (olds : List Name) (is : List Item) (ns : List Name) → length (enc ns) ≤ length (enc (new_of (spell olds is ns)))
spell-grows olds [] ns = rw (spell-none olds ns) (omega arith)
spell-grows olds (i ∷ is) ns =
    rw (spell-names olds i is ns) (omega (arith, one_grows olds i ns, spell-grows olds is (new_of (spell_one olds i ns))))

-- a full writer stays full
item-full : (old : List ℕ) (i : Item) → put_item old i full ≡ full
unfolding put_item
item-full old (raw xs) = puts-full xs
item-full old (nm n) = ⊎_elim
    (λ (o : 255 < length n). sym (name-long old n full o))
    (λ (o : length n ≤ 255). sym (name-found old n full (seek old n) o refl) ∙ put_found-full (seek old n) n)
    (lt-or-le 255 (length n))

pub render-full : (old : List ℕ) (is : List Item) → render old is full ≡ full
unfolding render
render-full old [] = refl
render-full old (i ∷ is) = ap (render old is) (item-full old i) ∙ render-full old is

-- what follows one item
then-reach : (s s' : State) (co cm : ℕ) (bs b₁ b₂ : List ℕ) (t u : Bool) (ns : List Name) → t ≡ true → s' ≡ s
    → Reached s co cm (bs ++ b₁) u b₂ ns → Reached s' co cm bs (t && u) (b₁ ++ b₂) ns
then-reach s s' co cm bs b₁ b₂ t u ns p e (inl (o, q)) = inl (
  (rw (p, o.0), omega (arith, o.1, length-append bs b₁, length-append b₁ b₂), o.2),
  e ∙ q ∙ ap (λ (l : List ℕ). st co (texts_from + cm) l (tabled ns)) (append_assoc bs b₁ b₂),
)
then-reach s s' co cm bs b₁ b₂ t u ns p e (inr (inl o, q)) = inr (inl (and-false t o), e ∙ q)
then-reach s s' co cm bs b₁ b₂ t u ns p e (inr (inr (inl o), q)) = inr (inr (inl (omega (arith, length-append bs b₁, length-append b₁ b₂))), e ∙ q)
then-reach s s' co cm bs b₁ b₂ t u ns p e (inr (inr (inr o), q)) = inr (inr (inr o), e ∙ q)

-- one item was too much
over-reach : (s : State) (co cm : ℕ) (bs b₁ b₂ : List ℕ) (t u : Bool) (ns₁ ns₂ : List Name) → s ≡ full → length (enc ns₁) ≤ length (enc ns₂)
    → Over co cm bs t b₁ ns₁ → Reached s co cm bs (t && u) (b₁ ++ b₂) ns₂
over-reach s co cm bs b₁ b₂ t u ns₁ ns₂ e g (inl o) = inr (inl (rw o), e)
over-reach s co cm bs b₁ b₂ t u ns₁ ns₂ e g (inr (inl o)) = inr (inr (inl (omega (arith, length-append b₁ b₂))), e)
over-reach s co cm bs b₁ b₂ t u ns₁ ns₂ e g (inr (inr o)) = inr (inr (inr (omega arith)), e)

-- the items of any package, after any bytes and new names that fit
pub all-reach : (olds : List Name) (is : List Item) (co cm : ℕ) (bs : List ℕ) (ns : List Name) → length bs ≤ co → length (enc ns) ≤ cm
    → Reached (render (tabled olds) is (st co (texts_from + cm) bs (tabled ns))) co cm bs (shorts is) (bytes_of (spell olds is ns)) (new_of (spell olds is ns))
unfolding render shorts
all-reach olds [] co cm bs ns h g = rw (spell-none olds ns) (inl ((refl, omega arith, g), rw append-nil))
all-reach olds (i ∷ is) co cm bs ns h g =
    let b = bytes_of (spell_one olds i ns) in
    let ms = new_of (spell_one olds i ns) in
    let c = bytes_of (spell olds is ms) in
    rw (spell-bytes olds i is ns, spell-names olds i is ns)
    (⊎_elim
    (λ o. then-reach _ _ co cm bs b c (short i) (shorts is) _ o.0.0 (ap (render (tabled olds) is) o.1)
    (all-reach olds is co cm (bs ++ b) ms (omega (arith, o.0.1, length-append bs b)) o.0.2))
    (λ o. over-reach _ co cm bs b c (short i) (shorts is) ms _ (ap (render (tabled olds) is) o.1 ∙ render-full (tabled olds) is)
    (spell-grows olds is ms) o.0)
    (one-reach olds i co cm bs ns h g))

-- from empty buffers: exactly what is spelt, or full and too large
pub spelt-reach : (olds : List Name) (is : List Item)
    → Reached (render (tabled olds) is unwritten) max_bytes max_bytes [] (shorts is) (bytes_of (spell olds is [])) (new_of (spell olds is []))
unfolding enc unwritten
spelt-reach olds is =
    subst (λ (t : List ℕ). Reached (render (tabled olds) is (st max_bytes (texts_from + max_bytes) [] t)) max_bytes max_bytes [] (shorts is) (bytes_of (spell olds is [])) (new_of (spell olds is [])))
    tabled-none
    (all-reach olds is max_bytes max_bytes [] [] zero-le zero-le)

-- the pack by its parts is the pack that is spelt
joined_is : (olds : List Name) (x : Spelt) → pack_of (enc olds) (enc (new_of x)) (bytes_of x) ≡ joined olds x
unfolding pack_of joined
joined_is olds (spelt b ns) = rw (table-enc olds, table-enc ns)

joined_length : (olds : List Name) (x : Spelt) → length (joined olds x) ≡ 2 + (length (enc olds) + (length (enc (new_of x)) + length (bytes_of x)))
unfolding joined two
joined_length olds (spelt b ns) = simp length-append (omega arith)

sized-over : (room : ℕ) (b : List ℕ) → max_bytes < length b → sized room b ≡ answers 8 0
unfolding sized
sized-over room b h = rw (lt-ltb _ _ h)

cond_same : (t : Bool) (x y : Outcome) → x ≡ y → cond t x y ≡ y
cond_same true x y e = e
cond_same false x y e = refl

-- what the writer reached, joined, is what writing the package answers
answered-reach : (room : ℕ) (olds : List Name) (s : State) (sh : Bool) (x : Spelt) → Reached s max_bytes max_bytes [] sh (bytes_of x) (new_of x)
    → answered room (enc olds) s ≡ cond sh (sized room (joined olds x)) (answers 8 0)
unfolding answered
answered-reach room olds s sh x (inl (o, e)) = rw (e, o.0, texts-tabled, joined_is olds x)
answered-reach room olds s sh x (inr (inl o, e)) = rw (e, o)
answered-reach room olds s sh x (inr (inr (inl o), e)) =
    rw e (sym (cond_same sh _ _ (sized-over room (joined olds x) (omega (arith, joined_length olds x)))))
answered-reach room olds s sh x (inr (inr (inr o), e)) =
    rw e (sym (cond_same sh _ _ (sized-over room (joined olds x) (omega (arith, joined_length olds x)))))

pub written_is : (room : ℕ) (p : Package)
    → answered room (enc p.names) (render (tabled p.names) (package_items p) unwritten) ≡ written room p
unfolding written encode
written_is room p = answered-reach room p.names _ _ (spell p.names (package_items p) []) (spelt-reach p.names (package_items p))

-- for a caller: the state s that its writer reached from empty buffers is that of the package's items
pub finished-is : (room : ℕ) (p : Package) (names old : List ℕ) (s : State) → names ≡ enc p.names → old ≡ tabled p.names
    → s ≡ render old (package_items p) unwritten → answered room names s ≡ written room p
finished-is room p names old s d e f = rw (f, e, d) (written_is room p)

-- the two buffers of a caller, before anything is written
pub empty-buffers : started (replicate 65536 0) (replicate table_room 0) ≡ unwritten
unfolding unwritten
empty-buffers =
    ap (λ y. started (replicate 65536 0) (replicate y 0)) buffer-size
    ∙ started-blank (replicate 65536 0) 65536
    ∙ ap (λ y. st y (texts_from + 65536) [] blank) (length-replicate {A = ℕ} 65536 0)

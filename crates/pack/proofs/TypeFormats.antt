-- Items under a table: formats whose bytes are those of items; names, lists, and types.
use Rattle.std.proofs.Common.{◌≡◌, ℕ, zero, suc, ◌+◌, ◌<◌, ◌≤◌, Bool, true, false, cond, eqb, List, [], ◌∷◌, ◌++◌, length, get_or, drop, sym, refl, ap, ◌∙◌, subst, append-nil, arith, ne_eqb, eqb-true}
use borrow.Author.Tests.{eqb-false}
use Rattle.pack_rules.specs.Names.{Name}
use Rattle.pack_rules.specs.Syntax.{Ty, t_array, t_bool, t_char, t_float32, t_float64, t_int16, t_int32, t_int64, t_int8, t_named, t_uint16, t_uint32, t_uint64, t_uint8}
use Rattle.wire.specs.Answer.{Answer, below, bind, counted, index, map_a, u32, value}
use Rattle.wire.specs.Preorder.{Tree, Trees, cons, nil, node}
use Rattle.pack_rules.specs.Forms.{TypeHead, first_type, name_at, named, plain, plain_types, sized, type_arity, type_at, type_fields, type_head, type_of, type_over}
use Rattle.pack_rules.specs.Read.{name_in, type_in}
use Rattle.pack_rules.specs.Write.{Item, each, list, name_items, one, raw, ty_items}
use Rattle.wire.specs.Bytes.{bytes, two}
use Rattle.wire.specs.Lists.{All, Bytes}
use Rattle.wire.proofs.Formats.{Back, Below, Format, bind_to, both, enc_all, format32, format_below, format_both, format_counted, format_index, format_map, format_same, single}
use Rattle.wire.proofs.Answers.{bind-value, map-value}
use Rattle.wire.proofs.TreeFormats.{OkTree, OkTrees, count, enc_tree, enc_trees, format_tree}
use Rattle.pack_rules.specs.Legal.{Each, Fresh, Known, ShapedTy, place}
use Rattle.pack.proofs.Tables.{code, code-append, each_append, each_left, each_right, name-at-place, place-at-name}

-- read under the table ns, and written as items; shape is what is legal apart from the names
abbrev pub Fmt : {A : Type 0} → List Name → (List ℕ → ℕ → Answer A) → (A → List Item) → (A → Type 0) → Type 0
Fmt ns r items shape = Format r (λ x. code ns (items x)) (λ x. shape x × Each (Known ns) (items x))

abbrev pub Any : {A : Type 0} → A → Type 0
Any x = Unit {0}

-- items that stand for the same bytes and hold the same names
pub record Alike (ns : List Name) (a b : List Item) : Type 0 where
  pub codes : code ns a ≡ code ns b
  pub to : Each (Known ns) a → Each (Known ns) b
  pub from : Each (Known ns) b → Each (Known ns) a

pub alike : (ns : List Name) (a b : List Item) → a ≡ b → Alike ns a b
alike ns a b e = record { codes = ap (code ns) e; to = subst (Each (Known ns)) e; from = subst (Each (Known ns)) (sym e) }

module _ (ns : List Name) where
  pub fmt_raw : {A : Type 0} (r : List ℕ → ℕ → Answer A) (e : A → List ℕ) (o : A → Type 0) → Format r e o → Fmt ns r (λ x. raw (e x) ∷ []) o
  unfolding code Each
  fmt_raw r e o F = format_same r e o (λ x. code ns (raw (e x) ∷ [])) (λ x. o x × Each (Known ns) (raw (e x) ∷ [])) F (λ x h. h.0) (λ x h. (h, tt)) (λ x h. sym (append-nil (e x)))

  pub fmt_both : {A B : Type 0} (f : List ℕ → ℕ → Answer A) (g : List ℕ → ℕ → Answer B) (i : A → List Item) (j : B → List Item) (p : A → Type 0) (q : B → Type 0) → Fmt ns f i p → Fmt ns g j q → Fmt ns (both f g) (λ z. i z.0 ++ j z.1) (λ z. p z.0 × q z.1)
  fmt_both {A} {B} f g i j p q F G =
      format_same (both f g) (λ (z : A × B). code ns (i z.0) ++ code ns (j z.1)) (λ (z : A × B). (p z.0 × Each (Known ns) (i z.0)) × (q z.1 × Each (Known ns) (j z.1)))
      (λ (z : A × B). code ns (i z.0 ++ j z.1)) (λ (z : A × B). (p z.0 × q z.1) × Each (Known ns) (i z.0 ++ j z.1))
      (format_both f g (λ x. code ns (i x)) (λ y. code ns (j y)) (λ x. p x × Each (Known ns) (i x)) (λ y. q y × Each (Known ns) (j y)) F G)
      (λ z h. ((h.0.0, each_left (Known ns) (i z.0) (j z.1) h.1), (h.0.1, each_right (Known ns) (i z.0) (j z.1) h.1)))
      (λ z h. ((h.0.0, h.1.0), each_append (Known ns) (i z.0) (j z.1) h.0.1 h.1.1))
      (λ z h. sym (code-append ns (i z.0) (j z.1)))

  pub fmt_map : {A B : Type 0} (f : List ℕ → ℕ → Answer A) (i : A → List Item) (p : A → Type 0) (c : A → B) (d : B → A) (j : B → List Item) (q : B → Type 0) → Fmt ns f i p → ((y : B) → q y → p (d y)) → ((y : B) → q y → c (d y) ≡ y) → ((x : A) → p x → q (c x)) → ((x : A) → p x → Alike ns (i x) (j (c x))) → Fmt ns (λ s at. map_a c (f s at)) j q
  fmt_map {A} {B} f i p c d j q F down back up same =
      format_map f (λ x. code ns (i x)) (λ x. p x × Each (Known ns) (i x)) c d (λ y. code ns (j y)) (λ y. q y × Each (Known ns) (j y)) F
      (λ y h. ((down y h.0, (same (d y) (down y h.0)).from (subst (Each (Known ns)) (ap j (sym (back y h.0))) h.1)), back y h.0))
      (λ x h. ((up x h.0, (same x h.0).to h.1), (same x h.0).codes))

  -- lists
  module _ {A : Type 0} (i : A → List Item) (p : A → Type 0) where
    pub all-down : (xs : List A) → All p xs → Each (Known ns) (each i xs) → All (λ x. p x × Each (Known ns) (i x)) xs
    unfolding All each
    all-down [] a h = tt
    all-down (x ∷ xs) a h = ((a.0, each_left (Known ns) (i x) (each i xs) h), all-down xs a.1 (each_right (Known ns) (i x) (each i xs) h))

    pub all_up : (xs : List A) → All (λ x. p x × Each (Known ns) (i x)) xs → All p xs × Each (Known ns) (each i xs)
    unfolding All each Each
    all_up [] a = (tt, tt)
    all_up (x ∷ xs) a = let r = all_up xs a.1 in ((a.0.0, r.0), each_append (Known ns) (i x) (each i xs) a.0.1 r.1)

    pub code-each : (xs : List A) → enc_all (λ x. code ns (i x)) xs ≡ code ns (each i xs)
    unfolding enc_all each code
    code-each [] = refl
    code-each (x ∷ xs) = ap (λ (l : List ℕ). code ns (i x) ++ l) (code-each xs) ∙ sym (code-append ns (i x) (each i xs))

  pub fmt_counted : {A : Type 0} (f : List ℕ → ℕ → Answer A) (i : A → List Item) (p : A → Type 0) → Fmt ns f i p → Fmt ns (λ s at. counted (f s) s at) (list i) (λ xs. (length xs < 65536) × All p xs)
  unfolding list code Each
  fmt_counted {A} f i p F =
      format_same (λ s at. counted (f s) s at) (λ (xs : List A). two (length xs) ++ enc_all (λ x. code ns (i x)) xs) (λ (xs : List A). (length xs < 65536) × All (λ x. p x × Each (Known ns) (i x)) xs)
      (λ (xs : List A). code ns (list i xs)) (λ (xs : List A). ((length xs < 65536) × All p xs) × Each (Known ns) (list i xs))
      (format_counted f (λ x. code ns (i x)) (λ x. p x × Each (Known ns) (i x)) F)
      (λ xs h. (h.0.0, all-down i p xs h.0.1 h.1))
      (λ xs h. let r = all_up i p xs h.1 in ((h.0, r.0), r.1))
      (λ xs h. ap (λ (l : List ℕ). two (length xs) ++ l) (code-each i p xs))

  module _ (small : length ns ≤ 65536) (fresh : Fresh [] ns) where
    pub fmt_name : Fmt ns (name_in ns) name_items Any
    unfolding name_in name_items code Each
    fmt_name = format_map (index (length ns)) two (Below (length ns)) (name_at ns) (place ns) (λ n. code ns (name_items n)) (λ n. Any n × Each (Known ns) (name_items n)) (format_index (length ns) small)
        (λ n h. (h.1.0, name-at-place ns n h.1.0))
        (λ i h. let g = place-at-name ns i fresh h in ((tt, (omega arith, tt)), ap two (sym g) ∙ sym (append-nil (two (place ns (name_at ns i))))))

-- each of a list at its place
unfoldable pub Rows : {A : Type 0} → (ℕ → A → Type 0) → ℕ → List A → Type 0
Rows P k [] = Unit {0}
Rows P k (x ∷ xs) = P k x × Rows P (suc k) xs

pub row_from : {A : Type 0} (P : ℕ → A → Type 0) (k : ℕ) (xs : List A) (i : ℕ) (d : A) → Rows P k xs → i < length xs → P (k + i) (get_or xs i d)
unfolding Rows
row_from P k [] i d r h = absurd (omega arith)
row_from P k (x ∷ xs) zero d r h = let z : k ≡ k + 0 = omega arith in subst (λ (n : ℕ). P n x) z r.0
row_from P k (x ∷ xs) (suc i) d r h = let z : suc k + i ≡ k + suc i = omega arith in subst (λ (n : ℕ). P n (get_or xs i d)) z (row_from P (suc k) xs i d r.1 (omega arith))

pub row_at : {A : Type 0} (P : ℕ → A → Type 0) (xs : List A) (i : ℕ) (d : A) → Rows P 0 xs → i < length xs → P i (get_or xs i d)
row_at P xs i d r h = let z : 0 + i ≡ i = omega arith in subst (λ (n : ℕ). P n (get_or xs i d)) z (row_from P 0 xs i d r h)

-- types
unfoldable pub enc_type : TypeHead → List ℕ
enc_type (plain t) = t ∷ []
enc_type (sized n) = 12 ∷ bytes 4 n
enc_type (named i) = 13 ∷ two i

unfoldable pub OkType : ℕ → TypeHead → Type 0
OkType names (plain t) = t < 12
OkType names (sized n) = n < 4294967296
OkType names (named i) = i < names

pub full_type : (h : TypeHead) → 0 < length (enc_type h)
unfolding enc_type
full_type (plain t) = omega arith
full_type (sized n) = omega arith
full_type (named i) = omega arith

pub format_type : (names : ℕ) → names ≤ 65536 → Format (type_head names) enc_type (OkType names)
unfolding type_head type_fields enc_type OkType bind map_a single
format_type names small = record { back = back; legal = λ s by at x q e. (parts s by at x q e).0; was = λ s by at x q e. (parts s by at x q e).1 }
  where
    B : Format (below 14) single (Below 14)
    B = format_below 14 (omega arith)

    back : (s : List ℕ) (at : ℕ) (x : TypeHead) (post : List ℕ) → OkType names x → drop at s ≡ enc_type x ++ post → Back (type_head names) s at x post
    back s at (plain t) post h e =
        let b = B.back s at t post (omega arith) e in
        let g = bind_to (below 14 s at) t b.to (λ tag p. type_fields names tag s p) _ b.reads refl in
        record { to = b.to; reads = g ∙ plain-fields t s b.to h; rest = b.rest }
      where
        plain-fields : (t : ℕ) (s : List ℕ) (p : ℕ) → t < 12 → type_fields names t s p ≡ value (plain t) p
        plain-fields t s p h = rw (ne_eqb t 12 (λ i. omega arith), ne_eqb t 13 (λ i. omega arith))
    back s at (sized n) post h e =
        let b = B.back s at 12 (bytes 4 n ++ post) (omega arith) e in
        let d = format32.back s b.to n post h b.rest in
        record { to = d.to; reads = bind_to (below 14 s at) 12 b.to (λ tag p. type_fields names tag s p) _ b.reads (ap (map_a sized) d.reads); rest = d.rest }
    back s at (named i) post h e =
        let b = B.back s at 13 (two i ++ post) (omega arith) e in
        let d = (format_index names small).back s b.to i post h b.rest in
        record { to = d.to; reads = bind_to (below 14 s at) 13 b.to (λ tag p. type_fields names tag s p) _ b.reads (ap (map_a named) d.reads); rest = d.rest }

    fields : (s : List ℕ) → Bytes s → (tag p : ℕ) (x : TypeHead) (q : ℕ) → tag < 14 → type_fields names tag s p ≡ value x q → OkType names x × (tag ∷ drop p s ≡ enc_type x ++ drop q s)
    fields s by tag p x q l e = go (eqb tag 12) (eqb tag 13) refl refl e
      where
        go : (b d : Bool) → eqb tag 12 ≡ b → eqb tag 13 ≡ d → cond b (map_a sized (u32 s p)) (cond d (map_a named (index names s p)) (value (plain tag) p)) ≡ value x q → OkType names x × (tag ∷ drop p s ≡ enc_type x ++ drop q s)
        go true d f g i =
            let m = map-value sized (u32 s p) x q i in
            let t : tag ≡ 12 = eqb-true tag 12 f in
            subst (λ (y : TypeHead). OkType names y × (tag ∷ drop p s ≡ enc_type y ++ drop q s)) m.2 (format32.legal s by p m.0 q m.1, ap (λ (k : ℕ). k ∷ drop p s) t ∙ ap (λ (k : List ℕ). 12 ∷ k) (format32.was s by p m.0 q m.1))
        go false true f g i =
            let m = map-value named (index names s p) x q i in
            let t : tag ≡ 13 = eqb-true tag 13 g in
            subst (λ (y : TypeHead). OkType names y × (tag ∷ drop p s ≡ enc_type y ++ drop q s)) m.2 ((format_index names small).legal s by p m.0 q m.1, ap (λ (k : ℕ). k ∷ drop p s) t ∙ ap (λ (k : List ℕ). 13 ∷ k) ((format_index names small).was s by p m.0 q m.1))
        go false false f g i =
            let y : plain tag ≡ x = cc in
            let t : p ≡ q = cc in
            let a = eqb-false tag 12 f in
            let b = eqb-false tag 13 g in
            subst (λ (y : TypeHead). OkType names y × (tag ∷ drop p s ≡ enc_type y ++ drop q s)) y (omega arith, ap (λ (k : ℕ). tag ∷ drop k s) t)

    parts : (s : List ℕ) → Bytes s → (at : ℕ) (x : TypeHead) (q : ℕ) → type_head names s at ≡ value x q → OkType names x × (drop at s ≡ enc_type x ++ drop q s)
    parts s by at x q e =
        let b = bind-value (below 14 s at) (λ tag p. type_fields names tag s p) x q e in
        let f = fields s by b.0 b.1 x q (B.legal s by at b.0 b.1 b.2) b.3 in
        (f.0, B.was s by at b.0 b.1 b.2 ∙ f.1)

pub format_types : (names : ℕ) → names ≤ 65536 → Format (type_at names) (enc_trees enc_type) (λ ts. (count ts ≡ 1) × OkTrees (OkType names) type_arity ts)
unfolding type_at
format_types names small = format_tree type_arity (type_head names) enc_type (OkType names) (format_type names small) full_type

-- a type as a tree of heads
unfoldable pub ty_tree : List Name → Ty → Tree TypeHead
ty_tree ns t_bool = node (plain 0) nil
ty_tree ns t_int8 = node (plain 1) nil
ty_tree ns t_int16 = node (plain 2) nil
ty_tree ns t_int32 = node (plain 3) nil
ty_tree ns t_int64 = node (plain 4) nil
ty_tree ns t_uint8 = node (plain 5) nil
ty_tree ns t_uint16 = node (plain 6) nil
ty_tree ns t_uint32 = node (plain 7) nil
ty_tree ns t_uint64 = node (plain 8) nil
ty_tree ns t_float32 = node (plain 9) nil
ty_tree ns t_float64 = node (plain 10) nil
ty_tree ns t_char = node (plain 11) nil
ty_tree ns (t_array n t) = node (sized n) (cons (ty_tree ns t) nil)
ty_tree ns (t_named n) = node (named (place ns n)) nil

module _ (ns : List Name) where
  pub ty-down : (t : Ty) → ShapedTy t → Each (Known ns) (ty_items t) → OkTree (OkType (length ns)) type_arity (ty_tree ns t) × (type_of ns (ty_tree ns t) ≡ t)
  unfolding ShapedTy ty_tree type_of type_over first_type plain_types OkTree OkTrees OkType type_arity count ty_items Each
  ty-down t_bool o k = ((omega arith, refl, tt), refl)
  ty-down t_int8 o k = ((omega arith, refl, tt), refl)
  ty-down t_int16 o k = ((omega arith, refl, tt), refl)
  ty-down t_int32 o k = ((omega arith, refl, tt), refl)
  ty-down t_int64 o k = ((omega arith, refl, tt), refl)
  ty-down t_uint8 o k = ((omega arith, refl, tt), refl)
  ty-down t_uint16 o k = ((omega arith, refl, tt), refl)
  ty-down t_uint32 o k = ((omega arith, refl, tt), refl)
  ty-down t_uint64 o k = ((omega arith, refl, tt), refl)
  ty-down t_float32 o k = ((omega arith, refl, tt), refl)
  ty-down t_float64 o k = ((omega arith, refl, tt), refl)
  ty-down t_char o k = ((omega arith, refl, tt), refl)
  ty-down (t_array n t) o k = let r = ty-down t o.1 k in ((o.0, refl, (r.0, tt)), ap (t_array n) r.1)
  ty-down (t_named n) o k = ((k.0, refl, tt), ap t_named (name-at-place ns n k.0))

  none : (ts : Trees TypeHead) → count ts ≡ 0 → enc_trees enc_type ts ≡ []
  unfolding count enc_trees
  none nil e = refl
  none (cons t ts) e = absurd (omega arith)

  abbrev pub TyUp : List ℕ → Ty → Type 0
  TyUp b t = ShapedTy t × Each (Known ns) (ty_items t) × (b ≡ code ns (ty_items t))

  plain-up : (t : ℕ) → t < 12 → TyUp (t ∷ []) (get_or plain_types t t_bool)
  unfolding plain_types Rows ShapedTy ty_items Each code one
  plain-up t h = row_at (λ k y. TyUp (k ∷ []) y) plain_types t t_bool ((tt, tt, refl), ((tt, tt, refl), ((tt, tt, refl), ((tt, tt, refl), ((tt, tt, refl), ((tt, tt, refl), ((tt, tt, refl), ((tt, tt, refl), ((tt, tt, refl), ((tt, tt, refl), ((tt, tt, refl), ((tt, tt, refl), tt)))))))))))) h

  module _ (fresh : Fresh [] ns) where
    over-up : (h : TypeHead) (ts : Trees TypeHead) → OkType (length ns) h → count ts ≡ type_arity h → (count ts ≡ 1 → TyUp (enc_trees enc_type ts) (first_type ns ts)) → TyUp (enc_type h ++ enc_trees enc_type ts) (type_over ns h (first_type ns ts))
    unfolding type_arity enc_type OkType type_over ShapedTy ty_items Each code
    over-up (plain t) ts o e r = let u = plain-up t o in (u.0, u.1, ap (λ (l : List ℕ). t ∷ l) (none ts e) ∙ u.2)
    over-up (sized n) ts o e r = let u = r e in ((o, u.0), u.1, ap (λ (l : List ℕ). 12 ∷ (bytes 4 n ++ l)) u.2)
    over-up (named i) ts o e r =
        let g : i ≡ place ns (name_at ns i) = sym (place-at-name ns i fresh o) in
        (tt, (omega arith, tt), λ j. 13 ∷ (two (g j) ++ none ts e j))

    mutual
      unfolding OkTree OkTrees enc_tree enc_trees count type_of first_type

      pub type_up : (t : Tree TypeHead) → OkTree (OkType (length ns)) type_arity t → TyUp (enc_tree enc_type t) (type_of ns t)
      type_up (node h ts) o = over-up h ts o.0 o.1 (λ e. first-up ts o.2 e)

      pub first-up : (ts : Trees TypeHead) → OkTrees (OkType (length ns)) type_arity ts → count ts ≡ 1 → TyUp (enc_trees enc_type ts) (first_type ns ts)
      first-up nil o e = absurd (omega arith)
      first-up (cons t ts) o e =
          let u = type_up t o.0 in
          let z : count ts ≡ 0 = omega arith in
          (u.0, u.1, ap (λ (l : List ℕ). enc_tree enc_type t ++ l) (none ts z) ∙ append-nil (enc_tree enc_type t) ∙ u.2)

    module _ (small : length ns ≤ 65536) where
      pub fmt_type : Fmt ns (type_in ns) ty_items ShapedTy
      unfolding type_in first_type count OkTrees
      fmt_type = format_map (type_at (length ns)) (enc_trees enc_type) (λ ts. (count ts ≡ 1) × OkTrees (OkType (length ns)) type_arity ts) (first_type ns) (λ t. cons (ty_tree ns t) nil) (λ t. code ns (ty_items t)) (λ t. ShapedTy t × Each (Known ns) (ty_items t)) (format_types (length ns) small)
          (λ t h. let r = ty-down t h.0 h.1 in ((refl, (r.0, tt)), r.1))
          (λ ts h. let u = first-up ts h.1 h.0 in ((u.0, u.1), u.2))

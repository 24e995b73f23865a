-- What a holder starts from, read off a type's bytes, is what the definition says.
use Prim.Native.Nat.{ℕ, zero, suc, ◌<◌, ◌≤◌}
use native.Mathlib.Omega.{arith}
use mathlib.Core.List.{List, [], ◌∷◌, ◌++◌}
use mathlib.Core.Bool.{Bool, true, false, cond}
use mathlib.Core.Logic.{⊎_elim}
use mathlib.Core.Option.{Option, none, some}
use mathlib.Core.Path.{◌≡◌, refl, sym, ap, subst, ◌∙◌}
use lib.ListN.{length, drop}
use lib.Dec.{eqb}
use borrow.Author.Tests.{le-ltb, lt-ltb, ne_eqb}
use Rattle.wire.specs.Answer.{counted, many, u16, value}
use Rattle.wire.specs.Bytes.{two}
use Rattle.wire.specs.Lists.{Bytes}
use Rattle.wire.proofs.Answers.{bind-value, map-value}
use Rattle.wire.proofs.Formats.{format16, format_byte, single}
use Rattle.wire.proofs.Writers.{lt-or-le}
use Rattle.pack_rules.specs.Names.{Name, eq_name}
use Rattle.pack_rules.specs.Report.{first_of}
use Rattle.pack_rules.specs.Syntax.{Enum, Expr, Ty, e_var, t_array, t_bool, t_char, t_float32, t_float64, t_int16, t_int32, t_int64, t_int8, t_named, t_uint16, t_uint32, t_uint64, t_uint8}
use Rattle.pack_rules.specs.Forms.{name_at}
use Rattle.pack_rules.specs.Legal.{Each, Fresh, place}
use Rattle.pack_rules.specs.Read.{enum_in, name_in, names_in, type_in}
use Rattle.pack_rules.specs.Write.{one, ty_items}
use Rattle.pack.proofs.Copies.{Lies}
use Rattle.pack.proofs.Tables.{code, name-at-place}
use Rattle.machines.specs.ResolvedIn.{end_of}
use Rattle.machines.specs.CheckedReads.{number_in, with}
use Rattle.machines.proofs.NamesPlaced.{alone}
use Rattle.machines.proofs.Reading.{many-cut, many_more, many-over, name-number}
use Rattle.machines.proofs.CheckedReadLaws.{byte-to, end-to, number-num, number-to}
use Rattle.machines.proofs.Validated.{first-none}
use Rattle.std.specs.Prelude.{Option as Maybe, Some, None}
use Rattle.activations.specs.declared.types.TypeDefault.{TypeDefault}
use Rattle.activations.specs.declared.types.TypeDefault.TheVariants as sr
use Rattle.activations.specs.Places.{each_of}
use Rattle.activation_rules.specs.Defaults.{as_variable, default_of, first_name, first_variant}
use Rattle.activations.specs.TypesAt.{Coded, DefaultIn, default_at, default_expr, default_t, enum_end, first_variant_t, plain_start, variant_at, variant_or, variant_t, zero_of}
use Rattle.activations.specs.FirstVariantsAt.{FirstsAre}
use Rattle.activations.proofs.ActRead.{counted-value}
use Rattle.activations.proofs.TypesKnown.{coded-one, coded-read, lies-type}

-- an enum that was read
pub record EnumRead (ns : List Name) (s : List ℕ) (at : ℕ) (x : Enum) (q : ℕ) : Type 0 where
  pub i : ℕ
  pub to : ℕ
  pub b : ℕ
  pub is : u16 s at ≡ value i to
  pub small : i < length ns
  pub named : name_at ns i ≡ x.name
  pub count : u16 s to ≡ value (length x.variants) b
  pub variants : many (name_in ns s) (length x.variants) b ≡ value x.variants q
  pub over : enum_end ns s at ≡ q

pub enum-read : (ns : List Name) (s : List ℕ) (at : ℕ) (x : Enum) (q : ℕ) → enum_in ns s at ≡ value x q → EnumRead ns s at x q
unfolding enum_in enum_end names_in
enum-read ns s at x q e =
    let b = bind-value (name_in ns s at) _ x q e in
    let m = map-value _ (names_in ns s b.1) x q b.3 in
    let n = name-number ns s at b.0 b.1 b.2 in
    let v : names_in ns s b.1 ≡ value x.variants q = m.1 ∙ ap (λ (y : Enum). value y.variants q) m.2 in
    let k = counted-value (name_in ns s) s b.1 x.variants q v in
    record {
      i = n.i;
      to = b.1;
      b = k.0;
      is = n.is;
      small = n.small;
      named = n.named ∙ ap (λ (y : Enum). y.name) m.2;
      count = k.1;
      variants = k.2;
      over = number-to s at n.i b.1 (λ i p. end_of (names_in ns s p)) n.is ∙ end-to (names_in ns s b.1) x.variants q v;
    }

module _ (ns : List Name) (fresh : Fresh [] ns) (few : length ns < 65536) (s : List ℕ) (by : Bytes s) where
  -- a start and the name it stands for
  unfoldable Varies : Maybe TypeDefault → Option Name → Type 0
  Varies None none = Unit {0}
  Varies None (some n) = ⊥
  Varies (Some (sr.Literal t)) o = ⊥
  Varies (Some (sr.Name v)) none = ⊥
  Varies (Some (sr.Name v)) (some n) = (v < length ns) × (name_at ns v ≡ n)

  -- the first variant of an enum, or what was there
  first-or : (at q : ℕ) (vs : List Name) (r : Maybe TypeDefault) (o : Option Name) → many (name_in ns s) (length vs) at ≡ value vs q → Varies r o → Varies (variant_or s (length vs) at r) (first_of (first_name vs) o)
  unfolding Varies variant_or first_name first_of
  first-or at q [] r o e h = h
  first-or at q (v ∷ vs) r o e h =
      let a = many_more (name_in ns s) (length vs) at v vs q e in
      let n = name-number ns s at v a.0 a.1 in
      let g : (number_in s at).value ≡ n.i = ap (λ y. y.value) (number-num s at n.i a.0 n.is) in
      rw (ne_eqb (suc (length vs)) 0 (λ z. omega arith)) (subst (λ y. y < length ns) (sym g) n.small, ap (name_at ns) g ∙ n.named)

  variant-read : (x p : ℕ) (e : Enum) (q : ℕ) (r : Maybe TypeDefault) (o : Option Name) → x < length ns → enum_in ns s p ≡ value e q → Varies r o → Varies (variant_at s x p r) (first_of (cond (eq_name e.name (name_at ns x)) (first_name e.variants) none) o)
  unfolding variant_at first_of
  variant-read x p e q r o l d h =
      let k = enum-read ns s p e q d in
      let g : with (number_in s p) (λ i q. with (number_in s q) λ k v. cond (eqb i x) (variant_or s k v r) r) ≡ cond (eqb k.i x) (variant_or s (length e.variants) k.b r) r =
      number-to s p k.i k.to (λ i q. with (number_in s q) λ k v. cond (eqb i x) (variant_or s k v r) r) k.is
      ∙ number-to s k.to (length e.variants) k.b (λ j v. cond (eqb k.i x) (variant_or s j v r) r) k.count in
      let a = alone ns fresh x k.i l k.small in
      subst (λ y. Varies y (first_of (cond (eq_name e.name (name_at ns x)) (first_name e.variants) none) o)) (sym g)
      (subst (λ y. Varies (cond (eqb k.i x) (variant_or s (length e.variants) k.b r) r) (first_of (cond y (first_name e.variants) none) o)) (sym a ∙ ap (λ y. eq_name y (name_at ns x)) k.named)
      (go (eqb k.i x) (variant_or s (length e.variants) k.b r) (first-or k.b q e.variants r o k.variants h)))
    where
      go : (b : Bool) (u : Maybe TypeDefault) → Varies u (first_of (first_name e.variants) o) → Varies (cond b u r) (first_of (cond b (first_name e.variants) none) o)
      go true u v = v
      go false u v = h

  -- later enums before earlier ones
  firsts : (e : Enum) (es : List Enum) (n : Name) (o : Option Name) → first_of (first_variant es n) (first_of (cond (eq_name e.name n) (first_name e.variants) none) o) ≡ first_of (first_variant (e ∷ es) n) o
  unfolding first_variant first_of
  firsts e es n o = go (first_variant es n)
    where
      go : (a : Option Name) → first_of a (first_of (cond (eq_name e.name n) (first_name e.variants) none) o) ≡ first_of (first_of a (cond (eq_name e.name n) (first_name e.variants) none)) o
      go none = refl
      go (some y) = refl

  none_left : (r : Maybe TypeDefault) (o : Option Name) (x : ℕ) → Varies r o → Varies r (first_of (first_variant [] (name_at ns x)) o)
  unfolding first_variant first_of
  none_left r o x h = h

  missing : Varies None none
  unfolding Varies
  missing = tt

  variants-read : (x n p : ℕ) (es : List Enum) (q : ℕ) (r : Maybe TypeDefault) (o : Option Name) → x < length ns → many (enum_in ns s) n p ≡ value es q → Varies r o → Varies (each_of (variant_at s x) (enum_end ns s) n p r) (first_of (first_variant es (name_at ns x)) o)
  unfolding each_of
  variants-read x zero p [] q r o l d h = none_left r o x h
  variants-read x zero p (e ∷ es) q r o l d h = absurd (many-cut (enum_in ns s) p e es q d)
  variants-read x (suc n) p [] q r o l d h = absurd (many-over (enum_in ns s) n p q d)
  variants-read x (suc n) p (e ∷ es) q r o l d h =
      let a = many_more (enum_in ns s) n p e es q d in
      let k = enum-read ns s p e a.0 a.1 in
      subst (Varies (each_of (variant_at s x) (enum_end ns s) n (enum_end ns s p) (variant_at s x p r))) (firsts e es (name_at ns x) o)
      (subst (λ y. Varies (each_of (variant_at s x) (enum_end ns s) n y (variant_at s x p r)) (first_of (first_variant es (name_at ns x)) (first_of (cond (eq_name e.name (name_at ns x)) (first_name e.variants) none) o))) (sym k.over)
      (variants-read x n a.0 es q (variant_at s x p r) (first_of (cond (eq_name e.name (name_at ns x)) (first_name e.variants) none) o) l a.2 (variant-read x p e a.0 r o l a.1 h)))

  module _ (enums : ℕ) (es : List Enum) (q : ℕ) (E : counted (enum_in ns s) s enums ≡ value es q) (offsets : List ℕ) (F : FirstsAre ns s enums offsets) where
    variant_is : (x : ℕ) → x < length ns → Varies (first_variant_t ns s enums x) (first_variant es (name_at ns x))
    unfolding first_variant_t
    variant_is x l =
        let a = counted-value (enum_in ns s) s enums es q E in
        subst (λ y. Varies y (first_variant es (name_at ns x))) (sym (number-to s enums (length es) a.0 (λ n p. each_of (variant_at s x) (enum_end ns s) n p None) a.1))
        (subst (Varies (each_of (variant_at s x) (enum_end ns s) (length es) a.0 None)) (first-none (first_variant es (name_at ns x)))
        (variants-read x (length es) a.0 es q None none l a.2 missing))

    -- what is looked up is what is sought
    looked-up : (x : ℕ) → variant_t ns s enums offsets x ≡ first_variant_t ns s enums x
    unfolding variant_t FirstsAre
    looked-up x = ⊎_elim (λ l. rw (lt-ltb x 17408 l) (F x l)) (λ l. rw (le-ltb x 17408 l)) (lt-or-le x 17408)

    -- what is read of a start
    abbrev pub StartIs : Maybe TypeDefault → Option Expr → Type 0
    StartIs t o = (default_expr ns t ≡ o) × DefaultIn ns t

    varies-start : (t : Maybe TypeDefault) (o : Option Name) → Varies t o → StartIs t (as_variable o)
    unfolding Varies default_expr DefaultIn as_variable
    varies-start None none h = (refl, tt)
    varies-start None (some n) h = absurd h
    varies-start (Some (sr.Literal k)) o h = absurd h
    varies-start (Some (sr.Name v)) none h = absurd h
    varies-start (Some (sr.Name v)) (some n) h = (ap (λ y. some (e_var y)) h.1, h.0)

    -- by the tag of a type
    plain-read : (c k : ℕ) (rest : List ℕ) → drop c s ≡ k ∷ rest → k < 256 → (k ≡ 13 → ⊥) → default_at ns s enums offsets c ≡ plain_start k
    unfolding default_at single
    plain-read c k rest d l n =
        let b = format_byte.back s c k rest l d in
        byte-to s c k b.to (λ tag p. cond (eqb tag 13) (with (number_in s p) λ x q. variant_t ns s enums offsets x) (plain_start tag)) b.reads
        ∙ (rw (ne_eqb k 13 n))

    named-read : (c i : ℕ) (rest : List ℕ) → drop c s ≡ 13 ∷ (two i ++ rest) → i < length ns → default_at ns s enums offsets c ≡ first_variant_t ns s enums i
    unfolding default_at single
    named-read c i rest d l =
        let b = format_byte.back s c 13 (two i ++ rest) (omega arith) d in
        let n = format16.back s b.to i rest (omega arith) b.rest in
        byte-to s c 13 b.to (λ tag p. cond (eqb tag 13) (with (number_in s p) λ x q. variant_t ns s enums offsets x) (plain_start tag)) b.reads
        ∙ number-to s b.to i n.to (λ x q. variant_t ns s enums offsets x) n.reads
        ∙ looked-up i

    plain-start : (c k : ℕ) (rest : List ℕ) (o : Option Expr) → drop c s ≡ k ∷ rest → k < 256 → (k ≡ 13 → ⊥) → StartIs (plain_start k) o → StartIs (default_at ns s enums offsets c) o
    plain-start c k rest o d l n h = subst (λ y. StartIs y o) (sym (plain-read c k rest d l n)) h

    type-start : (c : ℕ) (t : Ty) (e : ℕ) → Lies ns s c (ty_items t) e → StartIs (default_at ns s enums offsets c) (default_of es t)
    unfolding code ty_items one default_of plain_start default_expr DefaultIn zero_of Each two
    type-start c t_bool e l = plain-start c 0 _ _ l.bytes (omega arith) (λ z. omega arith) (refl, tt)
    type-start c t_int8 e l = plain-start c 1 _ _ l.bytes (omega arith) (λ z. omega arith) (refl, tt)
    type-start c t_int16 e l = plain-start c 2 _ _ l.bytes (omega arith) (λ z. omega arith) (refl, tt)
    type-start c t_int32 e l = plain-start c 3 _ _ l.bytes (omega arith) (λ z. omega arith) (refl, tt)
    type-start c t_int64 e l = plain-start c 4 _ _ l.bytes (omega arith) (λ z. omega arith) (refl, tt)
    type-start c t_uint8 e l = plain-start c 5 _ _ l.bytes (omega arith) (λ z. omega arith) (refl, tt)
    type-start c t_uint16 e l = plain-start c 6 _ _ l.bytes (omega arith) (λ z. omega arith) (refl, tt)
    type-start c t_uint32 e l = plain-start c 7 _ _ l.bytes (omega arith) (λ z. omega arith) (refl, tt)
    type-start c t_uint64 e l = plain-start c 8 _ _ l.bytes (omega arith) (λ z. omega arith) (refl, tt)
    type-start c t_float32 e l = plain-start c 9 _ _ l.bytes (omega arith) (λ z. omega arith) (refl, tt)
    type-start c t_float64 e l = plain-start c 10 _ _ l.bytes (omega arith) (λ z. omega arith) (refl, tt)
    type-start c t_char e l = plain-start c 11 _ _ l.bytes (omega arith) (λ z. omega arith) (refl, tt)
    type-start c (t_array n t) e l = plain-start c 12 _ _ l.bytes (omega arith) (λ z. omega arith) (refl, tt)
    type-start c (t_named n) e l =
        let k : place ns n < length ns = l.known.0 in
        subst (λ y. StartIs y (as_variable (first_variant es n))) (sym (named-read c (place ns n) (drop e s) l.bytes k))
        (varies-start (first_variant_t ns s enums (place ns n)) (first_variant es n)
        (subst (λ y. Varies (first_variant_t ns s enums (place ns n)) (first_variant es y)) (name-at-place ns n k) (variant_is (place ns n) k)))

    bool-start : (c : ℕ) (t : Ty) → Coded ns s c (some t) → c < 2 → StartIs (default_t ns s enums offsets c) (default_of es t)
    unfolding default_t default_expr DefaultIn zero_of default_of
    bool-start c t h l = rw (lt-ltb c 2 l) (subst (λ y. StartIs (Some (sr.Literal 0)) (default_of es y)) (sym (coded-one ns s c t h l)) (refl, tt))

    read-start : (c : ℕ) (t : Ty) → Coded ns s c (some t) → 2 ≤ c → StartIs (default_t ns s enums offsets c) (default_of es t)
    unfolding default_t
    read-start c t h l = rw (le-ltb c 2 l) (type-start c t (end_of (type_in ns s c)) (lies-type ns fresh few s by c t (end_of (type_in ns s c)) (coded-read ns s c t h l)))

    -- THE LINK: what a holder of a type starts from
    pub start_is : (c : ℕ) (t : Ty) → Coded ns s c (some t) → StartIs (default_t ns s enums offsets c) (default_of es t)
    start_is c t h = ⊎_elim (λ l. bool-start c t h l) (λ l. read-start c t h l) (lt-or-le c 2)

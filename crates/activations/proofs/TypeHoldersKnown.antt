-- Holders made known by tables are those of the definition.
use Prim.Native.Nat.{ℕ, zero, suc, ◌+◌, ◌*◌, ◌<◌, ◌≤◌}
use native.Mathlib.Omega.{arith}
use mathlib.Core.List.{List, [], ◌∷◌, ◌++◌, append_assoc, append-nil}
use mathlib.Core.Bool.{Bool, true, false, cond}
use mathlib.Core.Logic.{⊎_elim}
use mathlib.Core.Option.{Option, none, some}
use mathlib.Core.Path.{◌≡◌, refl, sym, ap, subst, ◌∙◌}
use lib.ListN.{length, get_or}
use lib.Dec.{eqb}
use borrow.Author.Tests.{eq-eqb, eqb-false, eqb-true, ne_eqb}
use Rattle.wire.specs.Answer.{counted, value}
use Rattle.wire.specs.Lists.{All, Bytes}
use Rattle.wire.proofs.Writers.{lt-or-le}
use Rattle.pack_rules.specs.Names.{Name, eq_name}
use Rattle.pack_rules.specs.Report.{first_of}
use Rattle.pack_rules.specs.Syntax.{Enum, Equation, Expr, Port, Ty}
use Rattle.pack_rules.specs.Forms.{name_at}
use Rattle.pack_rules.specs.Legal.{Fresh, LegalName}
use Rattle.pack_rules.specs.Read.{enum_in, type_in}
use Rattle.pack.specs.Table.{tabled}
use Rattle.machines.specs.ResolvedIn.{end_of}
use Rattle.machines.specs.EmitAt.{pack_name}
use Rattle.activations.specs.declared.pack_info.PackInfo.{PackInfo}
use Rattle.std.specs.Prelude.{Option as Maybe, Some, None}
use Rattle.activations.specs.declared.types.TypeDefault.{TypeDefault}
use Rattle.activations.specs.declared.types.TypeDefault.TheVariants as sr
use Rattle.activation_rules.specs.Refusals.{last_needs_init, last_unknown}
use Rattle.activations.specs.Cells.{put_t}
use Rattle.activation_rules.specs.MadeNames.{last_var}
use Rattle.activation_rules.specs.Defaults.{default_of}
use Rattle.activation_rules.specs.Types.{first_typed, last_typed, typed}
use Rattle.activation_rules.specs.Sought.{Sought}
use Rattle.activation_rules.specs.Holders.{Holding, cons_holder, holder_equation, holder_port, holders_made, make_holders, refused, with_init, with_type}
use Rattle.activations.specs.Ids.{IsId, held_id, holder_id, name_of, old_id}
use Rattle.activations.specs.Lookups.{MadeIs}
use Rattle.activations.specs.Walks.{InitAt}
use Rattle.activations.specs.TypeCodes.{typed_t}
use Rattle.activations.specs.TypesAt.{Coded, TypesAre, default_expr, default_t, is_missing}
use Rattle.activations.specs.FirstVariantsAt.{FirstsAre}
use Rattle.activations.specs.LastsAt.{RowInit, RowIs, RowsFrom, word_t}
use Rattle.activations.specs.TypeHoldersAt.{Hold, hold_from, hold_of, hold_row, holder_t, known_t, needs_t}
use Rattle.activations.specs.HoldersTyped.{HeldAs, KnownAt, as_held, as_needs_init, as_unknown}
use Rattle.activations.proofs.IdLaws.{holder-below, ids-tell, name-of-holder, name-of-old}
use Rattle.activations.proofs.IdsKnown.{holder_known}
use Rattle.activations.proofs.TypesKnown.{coded-read, last-append, type-inside, typed-old}
use Rattle.activations.proofs.Starts.{start_is}
use Rattle.activations.proofs.RowsNoted.{put-length, put_other, put_same, rows_same}
use Rattle.activations.proofs.TypeHolderLaws.{from_step, row-known, row-needs, row-unknown}

-- one port more at the end
pub last_snoc : (ports : List Port) (p : Port) (n : Name) → last_typed (ports ++ (p ∷ [])) n ≡ cond (eq_name p.name n) (some p.ty) (last_typed ports n)
unfolding last_typed first_of
last_snoc ports p n = last-append ports (p ∷ []) n ∙ go (eq_name p.name n)
  where
    go : (b : Bool) → first_of (first_of none (cond b (some p.ty) none)) (last_typed ports n) ≡ cond b (some p.ty) (last_typed ports n)
    go true = refl
    go false = refl

-- whether there is something to start from
data Choice (b : Bool) (o : Option Expr) : Type 0 where
  nothing : b ≡ true → o ≡ none → Choice b o
  something : (e : Expr) → b ≡ false → o ≡ some e → Choice b o

start-choice : (ns : List Name) (t : Maybe TypeDefault) (o : Option Expr) → default_expr ns t ≡ o → Choice (is_missing t) o
unfolding default_expr is_missing
start-choice ns None o e = nothing refl (sym e)
start-choice ns (Some (sr.Literal k)) o e = something _ refl (sym e)
start-choice ns (Some (sr.Name v)) o e = something _ refl (sym e)

module _ (ns : List Name) (fresh : Fresh [] ns) (legal : All LegalName ns) (few : length ns + length ns < 65536) (s : List ℕ) (by : Bytes s) (short : length s ≤ 65536)
    (offsets : List ℕ) (placed : (i : ℕ) → i < length ns → pack_name s offsets i ≡ name_at ns i) (b : PackInfo) (names : b.names ≡ length ns) (M : MadeIs ns b.made)
    (enums : List Enum) (q : ℕ) (E : counted (enum_in ns s) s b.enums ≡ value enums q) (F : FirstsAre ns s b.enums offsets) (a : Name) (outs : List ℕ) (outputs : List Port) (O : TypesAre ns s outs (first_typed outputs)) where
  needs-choice : (i : Option Expr) (init c : ℕ) (t : Ty) → RowInit ns s i init → Coded ns s c (some t) → Choice (needs_t ns s b offsets init c) (first_of i (default_of enums t))
  unfolding needs_t RowInit InitAt first_of
  needs-choice none init c t r h = subst (λ y. Choice (cond y (is_missing (default_t ns s b.enums offsets c)) false) (default_of enums t)) (sym (eq-eqb init 0 r.1)) (start-choice ns (default_t ns s b.enums offsets c) (default_of enums t) (start_is ns fresh (omega arith) s by b.enums enums q E offsets F c t h).0)
  needs-choice (some e) init c t r h = something e (ap (λ y. cond y (is_missing (default_t ns s b.enums offsets c)) false) (ne_eqb init 0 (λ z. let l = r.1.0 in omega arith))) refl

  -- a code fits a word
  coded-low : (c : ℕ) (t : Ty) → Coded ns s c (some t) → c < 65536
  coded-low c t h = ⊎_elim (λ l. omega arith) (λ l. let k = type-inside ns fresh (omega arith) s by c t (end_of (type_in ns s c)) (coded-read ns s c t h l) in omega arith) (lt-or-le c 2)

  -- the type of a holder, put at its number
  module _ (e : List ℕ) (long : length ns + length ns ≤ length e) (v : ℕ) (small : v < length ns) (c : ℕ) (t : Ty) (h : Coded ns s c (some t)) (ports : List Port) where
    port : Port
    port = holder_port a (name_at ns v) t

    now : List Port
    now = ports ++ (port ∷ [])

    tells : (x : ℕ) → IsId ns a x → eq_name port.name (name_of ns a x) ≡ eqb (holder_id ns a v) x
    unfolding port holder_port
    tells x i = ap (λ y. eq_name y (name_of ns a x)) (sym (name-of-holder ns a v)) ∙ sym (ids-tell ns a fresh (holder_id ns a v) x (held_id v small refl) i)

    put_typed : (x : ℕ) → IsId ns a x → ((holder_id ns a v ≡ x → ⊥) → Coded ns s (get_or e x 0) (last_typed ports (name_of ns a x))) → Coded ns s (get_or (put_t e (holder_id ns a v) c) x 0) (last_typed now (name_of ns a x))
    unfolding now port holder_port
    put_typed x i k =
        subst (Coded ns s (get_or (put_t e (holder_id ns a v) c) x 0)) (sym (last_snoc ports port (name_of ns a x)))
        (subst (λ y. Coded ns s (get_or (put_t e (holder_id ns a v) c) x 0) (cond y (some t) (last_typed ports (name_of ns a x)))) (sym (tells x i)) (go (eqb (holder_id ns a v) x) refl))
      where
        go : (y : Bool) → eqb (holder_id ns a v) x ≡ y → Coded ns s (get_or (put_t e (holder_id ns a v) c) x 0) (cond y (some t) (last_typed ports (name_of ns a x)))
        go true d =
            let w : holder_id ns a v ≡ x = eqb-true (holder_id ns a v) x d in
            let l = holder-below ns a v small in
            subst (λ y. Coded ns s y (some t)) (sym (ap (λ y. get_or (put_t e (holder_id ns a v) c) y 0) (sym w) ∙ put_same e (holder_id ns a v) c (omega arith) (coded-low c t h))) h
        go false d =
            let n : holder_id ns a v ≡ x → ⊥ = eqb-false (holder_id ns a v) x d in
            subst (λ y. Coded ns s y (last_typed ports (name_of ns a x))) (sym (put_other e (holder_id ns a v) c x (λ z. n (sym z)))) (k n)

    -- one holder more
    module _ (d : List ℕ) (k : ℕ) (is : word_t d k 0 ≡ v) (room : 3 * k + 2 < length d) (K : KnownAt ns s a e d k ports) where
      table : List ℕ
      table = put_t d (3 * k + 2) (holder_id ns a v)

      same-var : (j : ℕ) → word_t table j 0 ≡ word_t d j 0
      unfolding table
      same-var j = put_other d (3 * k + 2) (holder_id ns a v) (3 * j + 0) (λ z. omega arith)

      last_or : (j : ℕ) → j < suc k → (P : ℕ → Type 0) → ((i : ℕ) → i < k → P i) → P k → P j
      last_or j l P f p = ⊎_elim (λ g. f j g) (λ g. subst P (let w : k ≡ j = omega arith in w) p) (lt-or-le j k)

      types_more : TypesAre ns s (put_t e (holder_id ns a v) c) (last_typed now)
      unfolding TypesAre
      types_more x l =
          subst (λ y. Coded ns s (get_or (put_t e (holder_id ns a v) c) x 0) (last_typed now y)) (name-of-old ns a x l)
          (put_typed x (old_id l) (λ n. subst (λ y. Coded ns s (get_or e x 0) (last_typed ports y)) (sym (name-of-old ns a x l)) (K.types x l)))

      holder-more : (w : ℕ) → w < length ns → ((holder_id ns a v ≡ holder_id ns a w → ⊥) → Coded ns s (get_or e (holder_id ns a w) 0) (last_typed ports (last_var a (name_at ns w)))) → Coded ns s (get_or (put_t e (holder_id ns a v) c) (holder_id ns a w) 0) (last_typed now (last_var a (name_at ns w)))
      holder-more w l f =
          subst (λ y. Coded ns s (get_or (put_t e (holder_id ns a v) c) (holder_id ns a w) 0) (last_typed now y)) (name-of-holder ns a w)
          (put_typed (holder_id ns a w) (held_id w l refl) (λ n. subst (λ y. Coded ns s (get_or e (holder_id ns a w) 0) (last_typed ports y)) (sym (name-of-holder ns a w)) (f n)))

      below_more : (j : ℕ) → j < suc k → word_t table j 0 < length ns
      below_more j l = last_or j l (λ i. word_t table i 0 < length ns) (λ i g. subst (λ y. y < length ns) (sym (same-var i)) (K.below i g)) (subst (λ y. y < length ns) (sym (same-var k ∙ is)) small)

      holders-more : (j : ℕ) → j < suc k → Coded ns s (get_or (put_t e (holder_id ns a v) c) (holder_id ns a (word_t table j 0)) 0) (last_typed now (last_var a (name_at ns (word_t table j 0))))
      holders-more j l = last_or j l (λ i. Coded ns s (get_or (put_t e (holder_id ns a v) c) (holder_id ns a (word_t table i 0)) 0) (last_typed now (last_var a (name_at ns (word_t table i 0)))))
          (λ i g. subst (λ y. Coded ns s (get_or (put_t e (holder_id ns a v) c) (holder_id ns a y) 0) (last_typed now (last_var a (name_at ns y)))) (sym (same-var i)) (holder-more (word_t d i 0) (K.below i g) (λ n. K.holders i g)))
          (subst (λ y. Coded ns s (get_or (put_t e (holder_id ns a v) c) (holder_id ns a y) 0) (last_typed now (last_var a (name_at ns y)))) (sym (same-var k ∙ is)) (holder-more v small (λ n. absurd (n refl))))

      numbers_more : (j : ℕ) → j < suc k → word_t table j 2 ≡ holder_id ns a (word_t table j 0)
      unfolding table
      numbers_more j l = last_or j l (λ i. word_t table i 2 ≡ holder_id ns a (word_t table i 0))
          (λ i g. put_other d (3 * k + 2) (holder_id ns a v) (3 * i + 2) (λ z. omega arith) ∙ K.numbers i g ∙ ap (holder_id ns a) (sym (same-var i)))
          (let m = holder-below ns a v small in put_same d (3 * k + 2) (holder_id ns a v) room (omega arith) ∙ ap (holder_id ns a) (sym (same-var k ∙ is)))

      known_more : KnownAt ns s a (put_t e (holder_id ns a v) c) table (suc k) now
      known_more = record { types = types_more; below = below_more; holders = holders-more; numbers = numbers_more }

  -- a holder before others
  also-held : (z : Hold) (m : ℕ) (ports : List Port) (p : Port) (g : Equation) (all : List Sought) (H : Holding) → HeldAs ns s a z m (ports ++ (p ∷ [])) all H → HeldAs ns s a z m ports all (cons_holder p g H)
  unfolding cons_holder
  also-held z m ports p g all (refused r) (as_unknown k l e) = as_unknown k l e
  also-held z m ports p g all (refused r) (as_needs_init k l e) = as_needs_init k l e
  also-held z m ports p g all (holders_made ps es) (as_held k K r) = as_held k (subst (λ y. KnownAt ns s a z.env z.held m y) (append_assoc ports (p ∷ []) ps) K) r

  -- what the rows from h on owe
  abbrev Rest : ℕ → ℕ → ℕ → List Sought → List Sought → Type 0
  Rest top n h xs all = (ports : List Port) (e d : List ℕ) → RowsFrom ns s d h xs → RowsFrom ns s d 0 all → KnownAt ns s a e d h ports → length ns + length ns ≤ length e → 3 * top ≤ length d
      → HeldAs ns s a (hold_from ns (tabled ns) s b offsets a outs n h e d) (h + n) ports all (make_holders enums a ports outputs xs)

  no_row : (top h : ℕ) (all : List Sought) → Rest top zero h [] all
  unfolding hold_from make_holders
  no_row top h all ports e d r R K l m = as_held refl (subst (λ y. KnownAt ns s a e d (h + 0) y) (sym (append-nil ports)) (subst (λ y. KnownAt ns s a e d y ports) (let w : h ≡ h + 0 = omega arith in w) K)) R

  step-to : (n h : ℕ) (e d : List ℕ) (r : Hold) → r ≡ hold_row ns (tabled ns) s b offsets a outs h e d → hold_from ns (tabled ns) s b offsets a outs (suc n) h e d ≡ cond (eqb r.kind 0) (hold_from ns (tabled ns) s b offsets a outs n (suc h) r.env r.held) r
  step-to n h e d r f = from_step ns (tabled ns) s b offsets a outs n h e d ∙ (λ j. cond (eqb (sym f j).kind 0) (hold_from ns (tabled ns) s b offsets a outs n (suc h) (sym f j).env (sym f j).held) (sym f j))

  module _ (n h top : ℕ) (within : h + suc n ≤ top) (x : Sought) (xs all : List Sought) (rest : Rest top n (suc h) xs all) (ports : List Port) (e d : List ℕ)
      (row : RowIs ns s d h x) (rows : RowsFrom ns s d (suc h) xs) (whole : RowsFrom ns s d 0 all) (K : KnownAt ns s a e d h ports) (long : length ns + length ns ≤ length e) (room : 3 * top ≤ length d) where
    v : ℕ
    v = word_t d h 0

    c : ℕ
    c = typed_t e outs b.names v

    after : Port → Holding
    after p = make_holders enums a (ports ++ (p ∷ [])) outputs xs

    result : Hold
    result = hold_from ns (tabled ns) s b offsets a outs (suc n) h e d

    small : v < length ns
    unfolding RowIs v
    small = row.0

    named : name_at ns v ≡ x.var
    unfolding RowIs v
    named = row.1

    given : RowInit ns s x.init (word_t d h 1)
    unfolding RowIs
    given = row.2

    coded : Coded ns s c (typed ports outputs x.var)
    unfolding c
    coded = subst (λ y. Coded ns s (typed_t e outs y v) (typed ports outputs x.var)) (sym names) (subst (λ y. Coded ns s (typed_t e outs (length ns) v) (typed ports outputs y)) named (typed-old ns fresh (omega arith) s by short e outs ports outputs K.types O v small))

    unknown : c ≡ 0 → HeldAs ns s a result (h + suc n) ports all (refused (last_unknown a x.var))
    unfolding result c v
    unknown z = subst (λ y. HeldAs ns s a y (h + suc n) ports all (refused (last_unknown a x.var))) (sym (step-to n h e d (hold_of e d 15 v) (row-unknown ns (tabled ns) s b offsets a outs h v c e d refl refl z))) (as_unknown refl small (ap (last_unknown a) (sym named)))

    needing : (c ≡ 0 → ⊥) → needs_t ns s b offsets (word_t d h 1) c ≡ true → HeldAs ns s a result (h + suc n) ports all (refused (last_needs_init a x.var))
    unfolding result c v
    needing z w = subst (λ y. HeldAs ns s a y (h + suc n) ports all (refused (last_needs_init a x.var))) (sym (step-to n h e d (hold_of e d 16 v) (row-needs ns (tabled ns) s b offsets a outs h v c (word_t d h 1) true e d refl refl z refl (sym w) refl))) (as_needs_init refl small (ap (last_needs_init a) (sym named)))

    goes : (c ≡ 0 → ⊥) → needs_t ns s b offsets (word_t d h 1) c ≡ false → result ≡ hold_from ns (tabled ns) s b offsets a outs n (suc h) (put_t e (holder_id ns a v) c) (put_t d (3 * h + 2) (holder_id ns a v))
    unfolding result c v known_t
    goes z w =
        step-to n h e d (hold_of (put_t e (holder_t (tabled ns) s b offsets a v) c) (put_t d (3 * h + 2) (holder_t (tabled ns) s b offsets a v)) 0 v) (row-known ns (tabled ns) s b offsets a outs h v c (word_t d h 1) false e d _ refl refl z refl (sym w) refl refl)
        ∙ (λ j. hold_from ns (tabled ns) s b offsets a outs n (suc h) (put_t e (holder_known ns legal s offsets placed b names M a v small j) c) (put_t d (3 * h + 2) (holder_known ns legal s offsets placed b names M a v small j)))

    words : (w : ℕ) → word_t (put_t d (3 * h + 2) (holder_id ns a v)) w 0 ≡ word_t d w 0
    words w = put_other d (3 * h + 2) (holder_id ns a v) (3 * w + 0) (λ z. omega arith)

    inits : (w : ℕ) → word_t (put_t d (3 * h + 2) (holder_id ns a v)) w 1 ≡ word_t d w 1
    inits w = put_other d (3 * h + 2) (holder_id ns a v) (3 * w + 1) (λ z. omega arith)

    known : (t : Ty) → Coded ns s c (some t) → (c ≡ 0 → ⊥) → needs_t ns s b offsets (word_t d h 1) c ≡ false → (g : Equation) → HeldAs ns s a result (h + suc n) ports all (cons_holder (holder_port a x.var t) g (after (holder_port a x.var t)))
    unfolding after now port table v
    known t k z w g =
        let f = put-length e (holder_id ns a v) c in
        let u = put-length d (3 * h + 2) (holder_id ns a v) in
        also-held result (h + suc n) ports (holder_port a x.var t) g all (make_holders enums a (ports ++ (holder_port a x.var t ∷ [])) outputs xs)
        (subst (λ y. HeldAs ns s a y (h + suc n) (ports ++ (holder_port a x.var t ∷ [])) all (make_holders enums a (ports ++ (holder_port a x.var t ∷ [])) outputs xs)) (sym (goes z w))
        (subst (λ y. HeldAs ns s a (hold_from ns (tabled ns) s b offsets a outs n (suc h) (put_t e (holder_id ns a v) c) (put_t d (3 * h + 2) (holder_id ns a v))) y (ports ++ (holder_port a x.var t ∷ [])) all (make_holders enums a (ports ++ (holder_port a x.var t ∷ [])) outputs xs)) (let i : suc h + n ≡ h + suc n = omega arith in i)
        (rest (ports ++ (holder_port a x.var t ∷ [])) (put_t e (holder_id ns a v) c) (put_t d (3 * h + 2) (holder_id ns a v))
        (rows_same ns s d (put_t d (3 * h + 2) (holder_id ns a v)) (suc h) xs (λ j l. (words j, inits j)) rows)
        (rows_same ns s d (put_t d (3 * h + 2) (holder_id ns a v)) 0 all (λ j l. (words j, inits j)) whole)
        (subst (λ y. KnownAt ns s a (put_t e (holder_id ns a v) c) (put_t d (3 * h + 2) (holder_id ns a v)) (suc h) (ports ++ (holder_port a y t ∷ []))) named (known_more e long v small c t k ports d h refl (omega arith) K))
        (omega arith) (omega arith))))

    by-choice : (t : Ty) (g : Bool) (o : Option Expr) → Coded ns s c (some t) → (c ≡ 0 → ⊥) → needs_t ns s b offsets (word_t d h 1) c ≡ g → Choice g o → HeldAs ns s a result (h + suc n) ports all (with_init a x.var t o after)
    unfolding with_init
    by-choice t g o k z w (nothing y u) = subst (λ i. HeldAs ns s a result (h + suc n) ports all (with_init a x.var t i after)) (sym u) (needing z (w ∙ y))
    by-choice t g o k z w (something i y u) = subst (λ j. HeldAs ns s a result (h + suc n) ports all (with_init a x.var t j after)) (sym u) (known t k z (w ∙ y) (holder_equation a x.var i))

    by-type : (o : Option Ty) → Coded ns s c o → HeldAs ns s a result (h + suc n) ports all (with_type enums a x o after)
    unfolding with_type Coded
    by-type none k = unknown k
    by-type (some t) k = by-choice t (needs_t ns s b offsets (word_t d h 1) c) (first_of x.init (default_of enums t)) k (λ z. let l = k.0 in omega arith) refl (needs-choice x.init (word_t d h 1) c t given k)

    one-row : HeldAs ns s a (hold_from ns (tabled ns) s b offsets a outs (suc n) h e d) (h + suc n) ports all (with_type enums a x (typed ports outputs x.var) (λ p. make_holders enums a (ports ++ (p ∷ [])) outputs xs))
    unfolding result after
    one-row = by-type (typed ports outputs x.var) coded

  hold-rows : (top n h : ℕ) (xs all : List Sought) → n ≡ length xs → h + n ≤ top → Rest top n h xs all
  unfolding RowsFrom make_holders
  hold-rows top zero h [] all e l = no_row top h all
  hold-rows top zero h (x ∷ xs) all e l = absurd (omega arith)
  hold-rows top (suc n) h [] all e l = absurd (omega arith)
  hold-rows top (suc n) h (x ∷ xs) all e l = λ ports env d r R K g m. one-row n h top l x xs all (hold-rows top n (suc h) xs all (omega arith) (omega arith)) ports env d r.0 r.1 R K g m

  -- THE LINK: the holders of all rows
  pub hold-is : (n : ℕ) (xs : List Sought) (ports : List Port) (e d : List ℕ) → n ≡ length xs → RowsFrom ns s d 0 xs → TypesAre ns s e (last_typed ports) → length ns + length ns ≤ length e → 3 * n ≤ length d
      → HeldAs ns s a (hold_from ns (tabled ns) s b offsets a outs n 0 e d) n ports xs (make_holders enums a ports outputs xs)
  hold-is n xs ports e d f r t l m =
      subst (λ y. HeldAs ns s a (hold_from ns (tabled ns) s b offsets a outs n 0 e d) y ports xs (make_holders enums a ports outputs xs)) (let w : 0 + n ≡ n = omega arith in w)
      (hold-rows n n 0 xs xs f (omega arith) ports e d r r (record { types = t; below = λ j g. absurd (omega arith); holders = λ j g. absurd (omega arith); numbers = λ j g. absurd (omega arith) }) l m)

-- The values of outputs that are written from the layout are those of the definition.
use Prim.Native.Nat.{ℕ, zero, suc, ◌+◌, ◌-◌, ◌<◌, ◌≤◌}
use native.Mathlib.Omega.{arith}
use mathlib.Core.List.{List, [], ◌∷◌}
use mathlib.Core.Bool.{Bool, true, false, cond, ◌&&◌, ◌||◌, and-eq-true_iff, false≢true}
use mathlib.Core.Option.{Option, none, some, none-ne-some, some-injective}
use mathlib.Core.Path.{◌≡◌, refl, sym, ap, ◌∙◌}
use lib.ListN.{length, get_or}
use lib.Dec.{eqb}
use Rattle.wire.specs.Answer.{counted, many, u16, value}
use Rattle.wire.specs.Writer.{State}
use Rattle.wire.proofs.Answers.{bind-value, map-value}
use Rattle.std.specs.Option.{is_none as nothing}
use Rattle.std.specs.Prelude.{Option as Maybe, Some}
use Rattle.pack_rules.specs.Names.{Name}
use Rattle.pack_rules.specs.Syntax.{Equation, Expr, Transition}
use Rattle.machine_rules.specs.Resolved.{ResolvedRegions, ResolvedStates, r_cons, r_nil, s_cons, s_nil}
use Rattle.pack_rules.specs.Forms.{name_at}
use Rattle.pack_rules.specs.Legal.{Fresh}
use Rattle.pack_rules.specs.Read.{equation_in, equations_in, expr_in, name_in, names_in}
use Rattle.pack_rules.specs.Write.{Item, expr_items, raw}
use Rattle.pack.specs.Intern.{render}
use Rattle.machine_rules.specs.MadeNames.{state_var}
use Rattle.machines.specs.ResolvedIn.{StateAt, end_of}
use Rattle.machines.specs.CheckedReads.{number_in, with}
use Rattle.machines.specs.Layout.{HeldR, HeldS, RegionRow, StateRow, g_end, g_more, h_end, h_more, slice_of}
use Rattle.machine_rules.specs.Lower.{all_states_cover, chain_step, from_option, is_name, is_only, is_some, own_value, size_r, size_s, some_region_covers, value_r, value_s}
use Rattle.machines.specs.CoverAt.{uncovered_t}
use Rattle.machines.specs.EmitAt.{last_or, pack_name, test_t}
use Rattle.machines.specs.ValueAt.{Peopled, WholeR, WholeS, entered_t, into, giving_from, in_state_t, side_bytes, side_from, side_of, side_t, value_t, values_t}
use Rattle.machines.proofs.Reading.{many-cut, many-end, many_more, many-over, name-number}
use Rattle.machines.proofs.CheckedReadLaws.{end-to, number-num, number-to}
use Rattle.machines.proofs.EnumsEmitted.{id_r, id_s}
use Rattle.machines.proofs.ChainsEmitted.{Alike, alike-by, last-alike, test-alike}
use Rattle.machines.proofs.CoverLaws.{word-some}
use Rattle.machines.proofs.Covered.{covers-held, end_r, end_s, lhs-link}

-- what is given by neither of two is given by the third
past-false : (a b c : Bool) → (a || (b || c)) ≡ true → b ≡ false → (a || c) ≡ true
past-false a true c e h = absurd (false≢true (sym h))
past-false a false c e h = e

module _ (ns : List Name) (s : List ℕ) (fresh : Fresh [] ns) (out : ℕ) (low : out < length ns) where
  abbrev o : Name
  o = name_at ns out

  -- an only left name is one number
  only_next : (n p : ℕ) (l : List Name) (q : ℕ) → many (name_in ns s) n p ≡ value l q → is_only o l ≡ true → (number_in s p).next ≡ q
  unfolding is_only
  only_next n p [] q m e = absurd (false≢true e)
  only_next zero p (x ∷ []) q m e = absurd (many-cut (name_in ns s) p x [] q m)
  only_next (suc zero) p (x ∷ []) q m e =
      let a = many_more (name_in ns s) zero p x [] q m in
      let i = name-number ns s p x a.0 a.1 in
      ap (λ y. y.next) (number-num s p i.i a.0 i.is) ∙ many-end (name_in ns s) a.0 q a.2
  only_next (suc (suc n)) p (x ∷ []) q m e =
      let a = many_more (name_in ns s) (suc n) p x [] q m in absurd (many-over (name_in ns s) n a.0 q a.2)
  only_next n p (x ∷ y ∷ l) q m e = absurd (false≢true e)

  -- where the right side of an equation stands, if the output is its only left name
  side-step : (n at : ℕ) (x : Equation) (q : ℕ) → equation_in ns s at ≡ value x q → (p : ℕ) × (expr_in ns s p ≡ value x.rhs q) × (side_from ns s out (suc n) at ≡ cond (is_only o x.lhs) (Some p) (side_from ns s out n q))
  unfolding side_from equation_in names_in counted with
  side-step n at x q r =
      let b = bind-value (names_in ns s at) _ x q r in
      let d = bind-value (u16 s at) _ b.0 b.1 b.2 in
      let m = map-value _ (expr_in ns s b.1) x q b.3 in
      let l = ap (λ (y : Equation). y.lhs) m.2 in (
        b.1,
        m.1 ∙ ap (λ (y : Equation). value y.rhs q) m.2,
        number-to s at d.0 d.1 (λ k p. cond (eqb k 1 && eqb (number_in s p).value out) (Some (number_in s p).next) (side_from ns s out n (end_of (equation_in ns s at)))) d.2
            ∙ ap (λ (c : Bool). cond c (Some (number_in s d.1).next) (side_from ns s out n (end_of (equation_in ns s at)))) (lhs-link ns s fresh out low d.0 d.1 b.0 b.1 d.3 ∙ ap (is_only o) l)
            ∙ ap (λ (y : ℕ). cond (is_only o x.lhs) (Some (number_in s d.1).next) (side_from ns s out n y)) (end-to (equation_in ns s at) x q r)
            ∙ go (is_only o x.lhs) _ _ _ (λ e. only_next d.0 d.1 b.0 b.1 d.3 (ap (is_only o) l ∙ e)),
      )
    where
      go : (c : Bool) (u v : ℕ) (w : Maybe ℕ) → (c ≡ true → u ≡ v) → cond c (Some u) w ≡ cond c (Some v) w
      go true u v w h = ap Some (h refl)
      go false u v w h = refl

  -- the first equation that gives the output
  side-from : (n at : ℕ) (es : List Equation) (q : ℕ) (e : Expr) → many (equation_in ns s) n at ≡ value es q → own_value o es ≡ some e → (a : ℕ) × (b : ℕ) × (side_from ns s out n at ≡ Some a) × (expr_in ns s a ≡ value e b)
  unfolding own_value
  side-from n at [] q e m h = absurd (none-ne-some e h)
  side-from zero at (x ∷ es) q e m h = absurd (many-cut (equation_in ns s) at x es q m)
  side-from (suc n) at (x ∷ es) q e m h =
      let a = many_more (equation_in ns s) n at x es q m in
      let d = side-step n at x a.0 a.1 in
      let r = go (is_only o x.lhs) refl d.0 a.0 d.1 (λ g. side-from n a.0 es q e a.2 g) h in
      (r.0, r.1, d.2 ∙ r.2, r.3)
    where
      go : (c : Bool) → is_only o x.lhs ≡ c → (p u : ℕ) → expr_in ns s p ≡ value x.rhs u → (own_value o es ≡ some e → (a : ℕ) × (b : ℕ) × (side_from ns s out n u ≡ Some a) × (expr_in ns s a ≡ value e b))
          → cond (is_only o x.lhs) (some x.rhs) (own_value o es) ≡ some e → (a : ℕ) × (b : ℕ) × (cond (is_only o x.lhs) (Some p) (side_from ns s out n u) ≡ Some a) × (expr_in ns s a ≡ value e b)
      go true f p u r k g = rw f (p, u, refl, r ∙ ap (λ (y : Expr). value y u) (some-injective x.rhs e (ap (λ (b : Bool). cond b (some x.rhs) (own_value o es)) (sym f) ∙ g)))
      go false f p u r k g = rw f (k (ap (λ (b : Bool). cond b (some x.rhs) (own_value o es)) (sym f) ∙ g))

  -- a state's own right side
  side-at : {nm : Name} {ts : List Transition} {k w : ℕ} (at : ℕ) (es : List Equation) (e : Expr) → StateAt ns s at nm es ts k w → own_value o es ≡ some e → (a : ℕ) × (b : ℕ) × (side_t ns s out at ≡ Some a) × (expr_in ns s a ≡ value e b)
  unfolding side_t equations_in counted
  side-at {nm = nm} at es e d h =
      let i = name-number ns s at nm d.to-equations d.name in
      let c = bind-value (u16 s d.to-equations) _ es d.to-transitions d.equations in
      let r = side-from c.0 c.1 es d.to-transitions e c.3 h in
      (r.0, r.1, number-to s at i.i d.to-equations _ i.is ∙ number-to s d.to-equations c.0 c.1 _ c.2 ∙ r.2, r.3)

module _ (ns : List Name) (s offsets t reg qualified old : List ℕ)
    (named : (x : ℕ) → x < length ns → pack_name s offsets x ≡ name_at ns x)
    (copied : (a b : ℕ) (e : Expr) → expr_in ns s a ≡ value e b → (z : State) → render old (raw (slice_of s a (b - a)) ∷ []) z ≡ render old (expr_items e) z)
    (fresh : Fresh [] ns) (out : ℕ) (low : out < length ns) where
  own-alike : {at tr a m u k v w : ℕ} {nm : Name} {ts : List Transition} (p : ℕ) (es : List Equation) (e : Expr) → StateRow t p at tr a m u k → StateAt ns s at nm es ts v w → own_value (name_at ns out) es ≡ some e
      → Alike old (raw (side_bytes ns s out (get_or t p 0)) ∷ []) (expr_items e)
  unfolding side_bytes side_of
  own-alike {at = at} p es e row d h = λ z.
      let r = side-at ns s fresh out low at es e d h in
      ap (λ (y : Maybe ℕ). render old (raw (side_of ns s out y) ∷ []) z) (ap (side_t ns s out) row.drawn ∙ r.2)
      ∙ ap (λ (y : ℕ). render old (raw (slice_of s r.0 (y - r.0)) ∷ []) z) (end-to (expr_in ns s r.0) e r.1 r.3)
      ∙ copied r.0 r.1 e r.3 z

  in-state : {at tr a m u k : ℕ} (v : ℕ → List Item) (f : ℕ → Maybe ℕ) (p : ℕ) → StateRow t p at tr a m u k → in_state_t s t qualified ns out v f p ≡ into (raw (side_bytes ns s out (get_or t p 0)) ∷ []) v (giving_from t f k (p + 6))
  unfolding in_state_t entered_t
  in-state v f p row = λ i. into (raw (side_bytes ns s out (get_or t p 0)) ∷ []) v (giving_from t f (row.regions i) (p + 6))

  -- no region is left
  value-own : (d : Expr) (i g : ℕ) (f : ℕ → Maybe ℕ) (own : Option Expr) (is : List Item) (v : ℕ → List Item) → (is_some own || some_region_covers (name_at ns out) r_nil) ≡ true → ((e : Expr) → own ≡ some e → Alike old is (expr_items e))
      → Alike old (into is v (giving_from t f 0 g)) (expr_items (value_r (name_at ns out) d own i r_nil))
  unfolding giving_from value_r from_option is_some some_region_covers
  value-own d i g f none is v h a = absurd (false≢true h)
  value-own d i g f (some e) is v h a = a e refl

  -- the first of the regions that are left, or those after it
  value-choice : (f : ℕ → Maybe ℕ) (v : ℕ → List Item) (k g e : ℕ) (is : List Item) (c : Bool) (a b : Expr) → get_or t (g + 4) 0 ≡ e → nothing (f g) ≡ c → 0 < g
      → (c ≡ true → Alike old (v g) (expr_items a)) → (c ≡ false → Alike old (into is v (giving_from t f k e)) (expr_items b))
      → Alike old (into is v (giving_from t f (suc k) g)) (expr_items (cond c a b))
  unfolding giving_from
  value-choice f v k g e is true a b h l z x y = rw (l, sym (word-some g z)) (x refl)
  value-choice f v k g e is false a b h l z x y = rw (l, h) (y refl)

  value-regions : (d : Expr) (own : Option Expr) (i j : ℕ) (full : Name) (h : Bool) (ss : ResolvedStates) (rest : ResolvedRegions) → j ≡ suc i + size_s ss → cond (all_states_cover (name_at ns out) ss) (value_s (name_at ns out) d i (suc i) ss) (value_r (name_at ns out) d own j rest) ≡ value_r (name_at ns out) d own i (r_cons full h ss rest)
  unfolding value_r
  value-regions d own i j full h ss rest e = ap (λ (y : ℕ). cond (all_states_cover (name_at ns out) ss) (value_s (name_at ns out) d i (suc i) ss) (value_r (name_at ns out) d own y rest)) e

  covers-regions : (full : Name) (h : Bool) (ss : ResolvedStates) (rest : ResolvedRegions) → some_region_covers (name_at ns out) (r_cons full h ss rest) ≡ (all_states_cover (name_at ns out) ss || some_region_covers (name_at ns out) rest)
  unfolding some_region_covers
  covers-regions full h ss rest = refl

  covers-states : (nn : Name) (es : List Equation) (ts : List Transition) (rs : ResolvedRegions) (rest : ResolvedStates) → all_states_cover (name_at ns out) (s_cons nn es ts rs rest) ≡ ((is_some (own_value (name_at ns out) es) || some_region_covers (name_at ns out) rs) && all_states_cover (name_at ns out) rest)
  unfolding all_states_cover
  covers-states nn es ts rs rest = refl

  value-states : (d : Expr) (up i j : ℕ) (nn : Name) (es : List Equation) (ts : List Transition) (rs : ResolvedRegions) (rest : ResolvedStates) → j ≡ i + size_r rs
      → chain_step (is_name (state_var up) nn) (value_r (name_at ns out) d (own_value (name_at ns out) es) i rs) rest (value_s (name_at ns out) d up j rest) ≡ value_s (name_at ns out) d up i (s_cons nn es ts rs rest)
  unfolding value_s
  value-states d up i j nn es ts rs rest e = ap (λ (y : ℕ). chain_step (is_name (state_var up) nn) (value_r (name_at ns out) d (own_value (name_at ns out) es) i rs) rest (value_s (name_at ns out) d up y rest)) e

  values-step : (F : ℕ → List Item) (q n p e : ℕ) → get_or t (p + 4) 0 ≡ e → values_t t qualified F q (suc n) p ≡ last_or n (test_t t qualified q p) (F p) (values_t t qualified F q n e)
  unfolding values_t
  values-step F q n p e h = ap (λ (y : ℕ). last_or n (test_t t qualified q p) (F p) (values_t t qualified F q n y)) h

  value-parts : (l q n : ℕ) → get_or t (q + 6) 0 ≡ n → value_t s t qualified ns out (suc l) q ≡ values_t t qualified (in_state_t s t qualified ns out (value_t s t qualified ns out l) (uncovered_t ns s t out l)) q n (q + 9)
  unfolding value_t
  value-parts l q n e = ap (λ (y : ℕ). values_t t qualified (in_state_t s t qualified ns out (value_t s t qualified ns out l) (uncovered_t ns s t out l)) q y (q + 9)) e

  whole-states : (nn : Name) (es : List Equation) (ts : List Transition) (rs : ResolvedRegions) (rest : ResolvedStates) → WholeS (s_cons nn es ts rs rest) → WholeR rs × WholeS rest
  unfolding WholeS
  whole-states nn es ts rs rest w = w

  whole-regions : (full : Name) (h : Bool) (ss : ResolvedStates) (rest : ResolvedRegions) → WholeR (r_cons full h ss rest) → Peopled ss × WholeS ss × WholeR rest
  unfolding WholeS
  whole-regions full h ss rest w = w

  peopled : {pre : Name} {up l n p i q j : ℕ} (ss : ResolvedStates) → Peopled ss → HeldS ns s t reg qualified pre up l n p i ss q j → 0 < n
  unfolding Peopled
  peopled s_nil w (h_end a b) = absurd w
  peopled (s_cons nn es ts rs rest) w (h_more row d to f sl ms rg st) = omega arith

  later : (p k e : ℕ) → 0 < p → p + k ≤ e → 0 < e
  later p k e a b = omega arith

  more : (p k : ℕ) → 0 < p → 0 < p + k
  more p k a = omega arith

  mutual
    -- the value by the states that are held of the region at the word q
    link_s : {pre : Name} {l n p u j : ℕ} (d : Expr) (q up i : ℕ) (ss : ResolvedStates) → HeldS ns s t reg qualified pre up l n p i ss u j → get_or t (q + 5) 0 ≡ up → 0 < p → 0 < n → WholeS ss → all_states_cover (name_at ns out) ss ≡ true
        → Alike old (values_t t qualified (in_state_t s t qualified ns out (value_t s t qualified ns out l) (uncovered_t ns s t out l)) q n p) (expr_items (value_s (name_at ns out) d up i ss))
    link_s d q up i s_nil (h_end a b) r h k w c = absurd (omega arith)
    link_s d q up i (s_cons nn es ts rs rest) (h_more row at to f sl ms rg st) r h k w c = λ z.
        let b = (and-eq-true_iff _ _).0 (sym (covers-states nn es ts rs rest) ∙ c) in
        let y = whole-states nn es ts rs rest w in
        ap (λ (is : List Item). render old is z) (values-step _ q _ _ _ row.after)
        ∙ last-alike ns s offsets t reg qualified old named copied rest st _ _ _ (is_name (state_var up) nn) (value_r (name_at ns out) d (own_value (name_at ns out) es) i rs) (value_s (name_at ns out) d up _ rest)
        (alike-by old _ _ (test-alike ns s offsets t reg qualified old named copied q _ nn row sl ∙ ap (λ (x : ℕ). raw (4 ∷ []) ∷ expr_items (is_name (state_var x) nn)) r))
        (λ z. ap (λ (is : List Item). render old is z) (in-state _ _ _ row) ∙ link_r d i (own_value (name_at ns out) es) _ rs rg (more _ 6 h) y.0 b.0 (λ e g. own-alike _ es e row at g) z)
        (λ g. link_s d q up _ rest st r (later _ 6 _ h (end_r ns s t reg qualified rs rg)) g y.1 b.1) z
        ∙ ap (λ (x : Expr). render old (expr_items x) z) (value-states d up i _ nn es ts rs rest (id_r ns s t reg qualified rs rg))

    -- the value in a state by the regions that are held
    link_r : {up st l k p u j : ℕ} (d : Expr) (i : ℕ) (own : Option Expr) (is : List Item) (rs : ResolvedRegions) → HeldR ns s t reg qualified up st l k p i rs u j → 0 < p → WholeR rs → (is_some own || some_region_covers (name_at ns out) rs) ≡ true → ((e : Expr) → own ≡ some e → Alike old is (expr_items e))
        → Alike old (into is (value_t s t qualified ns out l) (giving_from t (uncovered_t ns s t out l) k p)) (expr_items (value_r (name_at ns out) d own i rs))
    link_r d i own is r_nil (g_end a b) h w c x = value-own d i _ _ own is (value_t s t qualified ns out _) c x
    link_r d i own is (r_cons full b ss rest) (g_more row rg lt f pr fu st mo) h w c x = λ z.
        let y = whole-regions full b ss rest w in
        value-choice _ (value_t s t qualified ns out _) _ _ _ is (all_states_cover (name_at ns out) ss) (value_s (name_at ns out) d i (suc i) ss) (value_r (name_at ns out) d own _ rest) row.after (covers-held ns s t reg qualified fresh out low _ ss row st) h
        (λ g z. ap (λ (is : List Item). render old is z) (value-parts _ _ _ row.states) ∙ link_s d _ i (suc i) ss st row.number (more _ 9 h) (peopled ss y.0 st) y.1 g z)
        (λ g. link_r d _ own is rest mo (later _ 9 _ h (end_s ns s t reg qualified ss st)) y.2 (past-false (is_some own) (all_states_cover (name_at ns out) ss) (some_region_covers (name_at ns out) rest) (ap (λ (x : Bool). is_some own || x) (sym (covers-regions full b ss rest)) ∙ c) g) x) z
        ∙ ap (λ (x : Expr). render old (expr_items x) z) (value-regions d own i _ full b ss rest (id_s ns s t reg qualified ss st))

  -- THE LAW: where a region that is held gives the output in all its states, its value is that of the definition, whatever the default
  pub value-held : {x y a m e i n st up l q j : ℕ} {pre : Name} (d : Expr) (p : ℕ) (ss : ResolvedStates) → RegionRow t p x y a m e i n st up → HeldS ns s t reg qualified pre i l n (p + 9) (suc i) ss q j → Peopled ss → WholeS ss → all_states_cover (name_at ns out) ss ≡ true
      → Alike old (value_t s t qualified ns out (suc l) p) (expr_items (value_s (name_at ns out) d i (suc i) ss))
  value-held d p ss row st w v c = λ z. ap (λ (is : List Item). render old is z) (value-parts _ _ _ row.states) ∙ link_s d p _ _ ss st row.number (omega arith) (peopled ss w st) v c z

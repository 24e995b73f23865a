-- Coverage from the layout is coverage of the resolved tree that is laid out.
use Prim.Native.Nat.{ℕ, zero, suc, ◌+◌, ◌<◌, ◌≤◌}
use native.Mathlib.Omega.{arith}
use mathlib.Core.List.{List, [], ◌∷◌}
use mathlib.Core.Bool.{Bool, true, false, cond, ◌&&◌, ◌||◌, or-false, true≢false}
use mathlib.Core.Option.{Option, none, some}
use mathlib.Core.Path.{◌≡◌, refl, sym, ap, ◌∙◌}
use lib.ListN.{length, get_or}
use lib.Dec.{eqb}
use borrow.Author.Tests.{ne_eqb}
use Rattle.wire.specs.Answer.{counted, many, u16, value}
use Rattle.wire.proofs.Answers.{bind-value, map-value}
use Rattle.std.specs.Option.{is_none as nothing, option_and, option_or}
use Rattle.std.specs.Prelude.{Option as Maybe, Some, None}
use Rattle.pack_rules.specs.Names.{Name, eq_name}
use Rattle.pack_rules.specs.Syntax.{Equation, Transition}
use Rattle.machine_rules.specs.Resolved.{ResolvedMachine, ResolvedRegions, ResolvedStates, r_cons, r_nil, s_cons, s_nil}
use Rattle.pack_rules.specs.Forms.{name_at}
use Rattle.pack_rules.specs.Legal.{Fresh}
use Rattle.pack_rules.specs.Report.{first_of}
use Rattle.pack_rules.specs.Read.{equation_in, equations_in, expr_in, name_in, names_in}
use Rattle.machines.specs.declared.cover.OnlyLeft.{OnlyLeft}
use Rattle.machine_rules.specs.Lower.{all_states_cover, is_only, is_some, own_value, some_region_covers}
use Rattle.machine_rules.specs.Checks.{require_cover_regions, require_cover_states, unless_covered, unless_other}
use Rattle.machines.specs.ResolvedIn.{StateAt, end_of}
use Rattle.machines.specs.CheckedReads.{number_in, with}
use Rattle.machines.specs.Layout.{HeldR, HeldS, RegionRow, StateRow, g_end, g_more, h_end, h_more}
use Rattle.machines.specs.EmitAt.{letters_at}
use Rattle.machines.specs.CoverAt.{all_miss, asked, assigned, first_miss, gives_t, miss_t, missed, own_t, some_word, tells, uncovered_t}
use Rattle.machines.proofs.Reading.{many-cut, many-end, many_more, many-over, name-number}
use Rattle.machines.proofs.CheckedReadLaws.{end-to, number-num, number-to}
use Rattle.machines.proofs.CoverLaws.{word-some}
use Rattle.machines.proofs.NamesPlaced.{alone}
use Rattle.machines.proofs.EnumsEmitted.{state-letters}

pub ask-to : {A : Type 0} (x : OnlyLeft) (v : Bool) (q : ℕ) (k : Bool → ℕ → A) → x ≡ assigned v q → asked x k ≡ k v q
unfolding asked
ask-to x v q k e = rw e

module _ (ns : List Name) (s : List ℕ) (fresh : Fresh [] ns) (out : ℕ) (low : out < length ns) where
  -- an equation's left names
  pub lhs-link : (n p : ℕ) (l : List Name) (q : ℕ) → many (name_in ns s) n p ≡ value l q → (eqb n 1 && eqb (number_in s p).value out) ≡ is_only (name_at ns out) l
  unfolding is_only
  lhs-link zero p [] q m = refl
  lhs-link zero p (x ∷ l) q m = absurd (many-cut (name_in ns s) p x l q m)
  lhs-link (suc n) p [] q m = absurd (many-over (name_in ns s) n p q m)
  lhs-link (suc zero) p (x ∷ []) q m =
      let a = many_more (name_in ns s) zero p x [] q m in
      let i = name-number ns s p x a.0 a.1 in
      ap (λ y. eqb y.value out) (number-num s p i.i a.0 i.is) ∙ sym (alone ns fresh out i.i low i.small) ∙ ap (λ y. eq_name y (name_at ns out)) i.named
  lhs-link (suc zero) p (x ∷ y ∷ l) q m =
      let a = many_more (name_in ns s) zero p x (y ∷ l) q m in absurd (many-cut (name_in ns s) a.0 y l q a.2)
  lhs-link (suc (suc n)) p (x ∷ []) q m =
      let a = many_more (name_in ns s) (suc n) p x [] q m in absurd (many-over (name_in ns s) n a.0 q a.2)
  lhs-link (suc (suc n)) p (x ∷ y ∷ l) q m = rw (ne_eqb (suc (suc n)) 1 (λ h. omega arith))

  gives-link : (at : ℕ) (e : Equation) (q : ℕ) → equation_in ns s at ≡ value e q → gives_t ns s out at ≡ assigned (is_only (name_at ns out) e.lhs) q
  unfolding gives_t equation_in names_in counted with
  gives-link at e q r =
      let b = bind-value (names_in ns s at) _ e q r in
      let d = bind-value (u16 s at) _ b.0 b.1 b.2 in
      let m = map-value _ (expr_in ns s b.1) e q b.3 in
      number-to s at d.0 d.1 (λ k p. assigned (eqb k 1 && eqb (number_in s p).value out) (end_of (equation_in ns s at))) d.2
      ∙ ap (λ y. assigned y (end_of (equation_in ns s at))) (lhs-link d.0 d.1 b.0 b.1 d.3 ∙ ap (λ (y : Equation). is_only (name_at ns out) y.lhs) m.2)
      ∙ ap (assigned (is_only (name_at ns out) e.lhs)) (end-to (equation_in ns s at) e q r)

  -- the equations
  own-gather : (n at : ℕ) (es : List Equation) (q : ℕ) (b : Bool) → many (equation_in ns s) n at ≡ value es q → tells (gives_t ns s out) ◌||◌ n at b ≡ assigned (b || is_some (own_value (name_at ns out) es)) q
  unfolding tells own_value is_some
  own-gather zero at [] q b e = ap (assigned b) (many-end (equation_in ns s) at q e) ∙ ap (λ y. assigned y q) (sym (or-false b))
  own-gather zero at (x ∷ es) q b e = absurd (many-cut (equation_in ns s) at x es q e)
  own-gather (suc n) at [] q b e = absurd (many-over (equation_in ns s) n at q e)
  own-gather (suc n) at (x ∷ es) q b e =
      let a = many_more (equation_in ns s) n at x es q e in
      ask-to (gives_t ns s out at) (is_only (name_at ns out) x.lhs) a.0 _ (gives-link at x a.0 a.1)
      ∙ own-gather n a.0 es q (b || is_only (name_at ns out) x.lhs) a.2
      ∙ ap (λ y. assigned y q) (go b (is_only (name_at ns out) x.lhs))
    where
      go : (b c : Bool) → ((b || c) || is_some (own_value (name_at ns out) es)) ≡ (b || is_some (cond c (some x.rhs) (own_value (name_at ns out) es)))
      go true c = refl
      go false true = refl
      go false false = refl

  pub own-link : (at : ℕ) (nm : Name) (es : List Equation) (ts : List Transition) (k b : ℕ) → StateAt ns s at nm es ts k b → own_t ns s out at ≡ is_some (own_value (name_at ns out) es)
  unfolding own_t equations_in counted
  own-link at nm es ts k b h =
      let i = name-number ns s at nm h.to-equations h.name in
      let d = bind-value (u16 s h.to-equations) _ es h.to-transitions h.equations in
      number-to s at i.i h.to-equations _ i.is
      ∙ number-to s h.to-equations d.0 d.1 _ d.2
      ∙ ap (λ (y : OnlyLeft). y.yes) (own-gather d.0 d.1 es h.to-transitions false d.3)

-- a list of states that names none gives the output in all of them
unfoldable pub is_none : Option Name → Bool
is_none none = true
is_none (some n) = false

none_first : (a b : Option Name) → is_none (first_of a b) ≡ (is_none a && is_none b)
unfolding first_of is_none
none_first none b = refl
none_first (some n) b = refl

none-covered : (b : Bool) (a : Option Name) → is_none (unless_covered b a) ≡ (b || is_none a)
unfolding unless_covered is_none
none-covered true a = refl
none-covered false a = refl

none_other : (a : Option Name) (b : Bool) → is_none (unless_other a b) ≡ (is_none a || b)
unfolding unless_other is_none
none_other none b = refl
none_other (some n) true = refl
none_other (some n) false = refl

mutual
  unfolding require_cover_states require_cover_regions all_states_cover some_region_covers is_none

  pub none-states : (o : Name) (ss : ResolvedStates) → is_none (require_cover_states o ss) ≡ all_states_cover o ss
  none-states o s_nil = refl
  none-states o (s_cons n es ts rs rest) =
      none_first (unless_covered (is_some (own_value o es)) (require_cover_regions o n rs)) (require_cover_states o rest)
      ∙ (λ i. (none-covered (is_some (own_value o es)) (require_cover_regions o n rs) ∙ ap (λ (b : Bool). is_some (own_value o es) || b) (none-regions o n rs)) i && none-states o rest i)

  none-regions : (o n : Name) (rs : ResolvedRegions) → is_none (require_cover_regions o n rs) ≡ some_region_covers o rs
  none-regions o n r_nil = refl
  none-regions o n (r_cons i h ss rest) = none_other (require_cover_states o ss) (some_region_covers o rest) ∙ ap (λ (b : Bool). b || some_region_covers o rest) (none-states o ss)

-- what is held ends no earlier than it starts
module _ (ns : List Name) (s t reg qualified : List ℕ) where
  mutual
    pub end_s : {pre : Name} {up l n p i q j : ℕ} (ss : ResolvedStates) → HeldS ns s t reg qualified pre up l n p i ss q j → p ≤ q
    end_s s_nil (h_end a b) = omega (arith, a)
    end_s (s_cons nn es ts rs rest) (h_more row d to f sl ms rg st) = omega (arith, end_r rs rg, end_s rest st)

    pub end_r : {up st l k p i q j : ℕ} (rs : ResolvedRegions) → HeldR ns s t reg qualified up st l k p i rs q j → p ≤ q
    end_r r_nil (g_end a b) = omega (arith, a)
    end_r (r_cons full h ss rest) (g_more row rg lt f pr fu st more) = omega (arith, end_s ss st, end_r rest more)

module _ (t qualified : List ℕ) where
  -- the state that an answer names
  missed-zero : (m : Maybe ℕ) → nothing m ≡ is_none (missed t qualified m)
  unfolding missed is_none
  missed-zero None = refl
  missed-zero (Some m) = refl

  missed-next : (a b : Maybe ℕ) → missed t qualified (option_or a b) ≡ first_of (missed t qualified a) (missed t qualified b)
  unfolding missed first_of
  missed-next None b = refl
  missed-next (Some a) b = refl

  missed-own : (b : Bool) (x : Maybe ℕ) → missed t qualified (cond b None x) ≡ unless_covered b (missed t qualified x)
  unfolding unless_covered missed
  missed-own true x = refl
  missed-own false x = refl

  -- a region, and those after it
  missed-other : (f a : Maybe ℕ) (b : Bool) → (nothing f ≡ false → a ≡ cond b None f) → missed t qualified (option_and f a) ≡ unless_other (missed t qualified f) b
  unfolding unless_other missed
  missed-other None a b h = refl
  missed-other (Some m) a true h = ap (missed t qualified) (h refl)
  missed-other (Some m) a false h = ap (missed t qualified) (h refl)

kept : (m x : Maybe ℕ) → nothing m ≡ false → option_or m x ≡ m
kept None x e = absurd (true≢false e)
kept (Some m) x e = refl

and-as : (x y : Maybe ℕ) → option_and x y ≡ cond (nothing x) None y
and-as None y = refl
and-as (Some m) y = refl

module _ (ns : List Name) (s t reg qualified : List ℕ) (fresh : Fresh [] ns) (out : ℕ) (low : out < length ns) where
  abbrev o : Name
  o = name_at ns out

  -- whether a region gives the output, by its answer
  gives_all : (m : Maybe ℕ) (ss : ResolvedStates) → missed t qualified m ≡ require_cover_states o ss → nothing m ≡ all_states_cover o ss
  gives_all m ss e = missed-zero t qualified m ∙ ap is_none e ∙ none-states o ss

  states-none : (f : ℕ → Maybe ℕ) (p : ℕ) → missed t qualified (first_miss t f 0 p) ≡ require_cover_states o s_nil
  unfolding first_miss missed require_cover_states
  states-none f p = refl

  states-more : (f : ℕ → Maybe ℕ) (n p e : ℕ) (nn : Name) (es : List Equation) (ts : List Transition) (rs : ResolvedRegions) (rest : ResolvedStates) → get_or t (p + 4) 0 ≡ e
      → missed t qualified (f p) ≡ unless_covered (is_some (own_value o es)) (require_cover_regions o nn rs) → missed t qualified (first_miss t f n e) ≡ require_cover_states o rest
      → missed t qualified (first_miss t f (suc n) p) ≡ require_cover_states o (s_cons nn es ts rs rest)
  unfolding first_miss require_cover_states
  states-more f n p e nn es ts rs rest a b c =
      missed-next t qualified (f p) (first_miss t f n (get_or t (p + 4) 0))
      ∙ (λ i. first_of (b i) ((ap (λ (y : ℕ). missed t qualified (first_miss t f n y)) a ∙ c) i))

  -- a state, by its regions
  state-told : {at tr a m e k v w : ℕ} {nm : Name} {ts : List Transition} (f : ℕ → Maybe ℕ) (p : ℕ) (es : List Equation) (x : Option Name) → StateRow t p at tr a m e k → StateAt ns s at nm es ts v w
      → missed t qualified (cond (eqb k 0) (some_word p) (all_miss t f k (p + 6) None)) ≡ x → missed t qualified (miss_t ns s t out f p) ≡ unless_covered (is_some (own_value o es)) x
  unfolding miss_t
  state-told {at = at} f p es x row d h =
      let b = ap (own_t ns s out) row.drawn ∙ own-link ns s fresh out low at _ es _ _ _ d in
      (λ i. missed t qualified (cond (b i) None (cond (eqb (row.regions i) 0) (some_word p) (all_miss t f (row.regions i) (p + 6) None))))
      ∙ missed-own t qualified (is_some (own_value o es)) _ ∙ ap (unless_covered (is_some (own_value o es))) h

  -- the regions of a state: none; the first, by those after it; those after it
  regions-none : (p : ℕ) (nn : Name) → 0 < p → letters_at t qualified p ≡ nn → missed t qualified (some_word p) ≡ require_cover_regions o nn r_nil
  unfolding missed require_cover_regions
  regions-none p nn h e = ap (missed t qualified) (sym (word-some p h)) ∙ ap some e

  regions-first : (f : ℕ → Maybe ℕ) (p k g e : ℕ) (nn full : Name) (h : Bool) (ss : ResolvedStates) (rest : ResolvedRegions) → get_or t (g + 4) 0 ≡ e → missed t qualified (f g) ≡ require_cover_states o ss → ((m : Maybe ℕ) → nothing m ≡ false → all_miss t f k e m ≡ cond (some_region_covers o rest) None m)
      → missed t qualified (cond (eqb (suc k) 0) (some_word p) (all_miss t f (suc k) g None)) ≡ require_cover_regions o nn (r_cons full h ss rest)
  unfolding all_miss require_cover_regions
  regions-first f p k g e nn full h ss rest a b c =
      ap (λ (x : Bool). missed t qualified (cond x (some_word p) (all_miss t f (suc k) g None))) (ne_eqb (suc k) 0 (λ z. omega arith))
      ∙ missed-other t qualified (f g) (all_miss t f k (get_or t (g + 4) 0) (f g)) (some_region_covers o rest) (λ z. ap (λ (y : ℕ). all_miss t f k y (f g)) a ∙ c (f g) z)
      ∙ ap (λ (y : Option Name). unless_other y (some_region_covers o rest)) b

  after_none : (f : ℕ → Maybe ℕ) (g : ℕ) (m : Maybe ℕ) → all_miss t f 0 g m ≡ cond (some_region_covers o r_nil) None m
  unfolding all_miss some_region_covers
  after_none f g m = refl

  after_more : (f : ℕ → Maybe ℕ) (k g e : ℕ) (m : Maybe ℕ) (full : Name) (h : Bool) (ss : ResolvedStates) (rest : ResolvedRegions) → nothing m ≡ false → get_or t (g + 4) 0 ≡ e → missed t qualified (f g) ≡ require_cover_states o ss → all_miss t f k e m ≡ cond (some_region_covers o rest) None m
      → all_miss t f (suc k) g m ≡ cond (some_region_covers o (r_cons full h ss rest)) None m
  unfolding all_miss some_region_covers
  after_more f k g e m full h ss rest z a b c =
      and-as (f g) (all_miss t f k (get_or t (g + 4) 0) (option_or m (f g)))
      ∙ (λ i. cond (gives_all (f g) ss b i) None (all_miss t f k (a i) (kept m (f g) z i)))
      ∙ ap (cond (all_states_cover o ss) None) c ∙ go (all_states_cover o ss)
    where
      go : (x : Bool) → cond x None (cond (some_region_covers o rest) None m) ≡ cond (x || some_region_covers o rest) None m
      go true = refl
      go false = refl

  uncovered-parts : (l g n : ℕ) (x : Option Name) → get_or t (g + 6) 0 ≡ n → missed t qualified (first_miss t (miss_t ns s t out (uncovered_t ns s t out l)) n (g + 9)) ≡ x → missed t qualified (uncovered_t ns s t out (suc l) g) ≡ x
  unfolding uncovered_t
  uncovered-parts l g n x e h = ap (λ (y : ℕ). missed t qualified (first_miss t (miss_t ns s t out (uncovered_t ns s t out l)) y (g + 9))) e ∙ h

  later : (p e : ℕ) → 0 < p → p + 6 ≤ e → 0 < e
  later p e a b = omega arith

  mutual
    -- the answer of states that are held names the first that does not give the output
    link_s : {pre : Name} {up l n p i q j : ℕ} (ss : ResolvedStates) → HeldS ns s t reg qualified pre up l n p i ss q j → 0 < p
        → missed t qualified (first_miss t (miss_t ns s t out (uncovered_t ns s t out l)) n p) ≡ require_cover_states o ss
    link_s s_nil (h_end a b) h = states-none _ _
    link_s (s_cons nn es ts rs rest) (h_more row d to f sl ms rg st) h =
        states-more _ _ _ _ nn es ts rs rest row.after (state-told _ _ es _ row d (link_r nn rs rg h (state-letters t qualified _ nn row sl))) (link_s rest st (later _ _ h (end_r ns s t reg qualified rs rg)))

    link_r : {up st l k p i q j : ℕ} (nn : Name) (rs : ResolvedRegions) → HeldR ns s t reg qualified up st l k p i rs q j → 0 < st → letters_at t qualified st ≡ nn
        → missed t qualified (cond (eqb k 0) (some_word st) (all_miss t (uncovered_t ns s t out l) k p None)) ≡ require_cover_regions o nn rs
    link_r nn r_nil (g_end a b) h e = regions-none _ nn h e
    link_r nn (r_cons full b ss rest) (g_more row rg lt f pr fu st more) h e =
        regions-first _ _ _ _ _ nn full b ss rest row.after (uncovered-parts _ _ _ _ row.states (link_s ss st (omega arith))) (λ m z. link_more rest more m z)

    link_more : {up st l k p i q j : ℕ} (rs : ResolvedRegions) → HeldR ns s t reg qualified up st l k p i rs q j → (m : Maybe ℕ) → nothing m ≡ false
        → all_miss t (uncovered_t ns s t out l) k p m ≡ cond (some_region_covers o rs) None m
    link_more r_nil (g_end a b) m z = after_none _ _ m
    link_more (r_cons full b ss rest) (g_more row rg lt f pr fu st more) m z =
        after_more _ _ _ _ m full b ss rest z row.after (uncovered-parts _ _ _ _ row.states (link_s ss st (omega arith))) (link_more rest more m z)

  -- THE LAW: the answer of a region that is held names the first state that does not give the output
  pub uncovered-held : {x y a m e i n st up v l w q j : ℕ} {pre : Name} (p : ℕ) (ss : ResolvedStates) → RegionRow t p x y a m e i n st up → HeldS ns s t reg qualified pre v l n (p + 9) w ss q j → missed t qualified (uncovered_t ns s t out (suc l) p) ≡ require_cover_states o ss
  uncovered-held p ss row st = uncovered-parts _ _ _ _ row.states (link_s ss st (omega arith))

  pub covers-held : {x y a m e i n st up v l w q j : ℕ} {pre : Name} (p : ℕ) (ss : ResolvedStates) → RegionRow t p x y a m e i n st up → HeldS ns s t reg qualified pre v l n (p + 9) w ss q j → nothing (uncovered_t ns s t out (suc l) p) ≡ all_states_cover o ss
  covers-held p ss row st = gives_all _ ss (uncovered-held p ss row st)

  -- of a machine whose top region is held at the word 0
  pub uncovered-machine : (x : ResolvedMachine) (q j : ℕ) → HeldR ns s t reg qualified 0 0 8 1 0 0 (r_cons x.initial true x.states r_nil) q j → missed t qualified (uncovered_t ns s t out 8 0) ≡ require_cover_states o x.states
  uncovered-machine x q j (g_more row rg lt f pr fu st more) = uncovered-held 0 x.states row st

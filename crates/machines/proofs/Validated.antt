-- Checks on the layout are those of the tree that is laid out: nothing wrong, and every region has states; or the same refusal.
use Prim.Native.Nat.{ℕ, zero, suc, ◌+◌, ◌<◌}
use native.Mathlib.Omega.{arith}
use mathlib.Core.List.{List, [], ◌∷◌, ◌++◌}
use mathlib.Core.Bool.{Bool, true, false, cond, ◌||◌}
use mathlib.Core.Option.{Option, none, some}
use mathlib.Core.Logic.{◌⊎◌, inl, inr}
use mathlib.Core.Path.{◌≡◌, refl, sym, ap, subst, ◌∙◌}
use lib.ListN.{length, get_or}
use lib.Dec.{eqb}
use borrow.Author.Tests.{eq-eqb}
use Rattle.wire.specs.Answer.{counted, many, u16, value}
use Rattle.wire.proofs.Answers.{bind-value, map-value}
use Rattle.pack_rules.specs.Names.{Name, eq_name, member}
use Rattle.pack_rules.specs.Syntax.{Transition}
use Rattle.machine_rules.specs.Resolved.{ResolvedRegions, ResolvedStates, r_cons, r_nil, s_cons, s_nil}
use Rattle.pack_rules.specs.Forms.{name_at}
use Rattle.pack_rules.specs.Legal.{Fresh}
use Rattle.pack_rules.specs.Read.{expr_in, name_in, transition_in}
use Rattle.pack_rules.specs.Report.{Refusal, first_of}
use Rattle.machines.specs.declared.validate.Checked.{Checked}
use Rattle.machines.specs.declared.validate.Checked.TheVariants as ck
use Rattle.machine_rules.specs.Refusals.{unknown_initial, unknown_target}
use Rattle.machine_rules.specs.Resolve.{prefix_transitions}
use Rattle.machines.specs.CheckedReads.{number_in, with}
use Rattle.machines.specs.Layout.{LaidR, LaidS, RegionRow, holed, l_end, l_more, prefix_of, r_end, r_left, r_more}
use Rattle.machines.specs.EmitAt.{letters_at}
use Rattle.machine_rules.specs.Lower.{names_of}
use Rattle.machine_rules.specs.Checks.{bad_initial, bad_target, validate_regions, validate_states}
use Rattle.machines.specs.ValidateAt.{checked_region, checked_state, each_row, has_t, is_state_t, moves_checked, or_then, targets_t}
use Rattle.machines.proofs.Reading.{many-cut, many_more, many-over, name-number}
use Rattle.machines.proofs.CheckedReadLaws.{end-to, number-num, number-to}
use Rattle.machines.proofs.NamesPlaced.{alone}
use Rattle.machines.proofs.Refused.{eq_name-turn}
use Rattle.machines.proofs.EnumsEmitted.{region-letters, state-letters}

-- names under one prefix
eq_name-under : (p a b : Name) → eq_name (p ++ a) (p ++ b) ≡ eq_name a b
unfolding eq_name
eq_name-under [] a b = refl
eq_name-under (x ∷ p) a b = rw (eq-eqb x x refl) (eq_name-under p a b)

then-fine : (c : Checked) → or_then c ck.Fine ≡ c
unfolding or_then
then-fine ck.Fine = refl
then-fine (ck.Initial q) = refl
then-fine (ck.Target p q x) = refl

pub first-none : {A : Type 0} (r : Option A) → first_of r none ≡ r
unfolding first_of
first-none none = refl
first-none (some x) = refl

-- what an answer of the code says of the machine m
module _ (ns : List Name) (t qualified : List ℕ) where
  -- a name as it is called in the region at the word q
  unfoldable pub called_in : ℕ → ℕ → Name
  called_in q x = prefix_of (letters_at t qualified q) ++ name_at ns x

  unfoldable pub Says : Name → Checked → Refusal → Type 0
  Says m ck.Fine r = ⊥
  Says m (ck.Initial q) r = (get_or t q 0 < length ns) × (r ≡ unknown_initial m (called_in q (get_or t q 0)))
  Says m (ck.Target p q x) r = (x < length ns) × (r ≡ unknown_target m (letters_at t qualified p) (called_in q x))

  abbrev pub Wrong : Name → Checked → Option Refusal → Type 0
  Wrong m c r = (x : Refusal) × (r ≡ some x) × Says m c x

  -- nothing wrong on both sides, or the same is
  abbrev Tells : Name → Checked → Option Refusal → Type 0
  Tells m c r = ((c ≡ ck.Fine) × (r ≡ none)) ⊎ Wrong m c r

  -- and where nothing is wrong no region without states was met
  abbrev pub TellsAll : Name → Checked → Option Refusal → Bool → Type 0
  TellsAll m c r h = ((c ≡ ck.Fine) × (r ≡ none) × (h ≡ false)) ⊎ Wrong m c r

  says_then : (m : Name) (c d : Checked) (x : Refusal) → Says m c x → Says m (or_then c d) x
  unfolding Says or_then
  says_then m ck.Fine d x w = absurd w
  says_then m (ck.Initial q) d x w = w
  says_then m (ck.Target p q y) d x w = w

  first_some_lem : (r e : Option Refusal) (x : Refusal) → r ≡ some x → first_of r e ≡ some x
  unfolding first_of
  first_some_lem r e x h = ap (λ y. first_of y e) h

  -- one after the other
  in_order : (m : Name) (a b c : Checked) (x y z : Option Refusal) (f h : Bool) → Tells m a x → TellsAll m b y f → (f ≡ false → TellsAll m c z h) → TellsAll m (or_then (or_then a b) c) (first_of x (first_of y z)) h
  unfolding or_then first_of
  in_order m a b c x y z f h (inr w) g k = inr (w.0, first_some_lem x _ w.0 w.1, says_then m (or_then a b) c w.0 (says_then m a b w.0 w.2))
  in_order m a b c x y z f h (inl (u, v)) (inr w) k =
      inr (w.0, ap (λ i. first_of i (first_of y z)) v ∙ first_some_lem y z w.0 w.1, subst (λ i. Says m (or_then (or_then i b) c) w.0) (sym u) (says_then m b c w.0 w.2))
  in_order m a b c x y z f h (inl (u, v)) (inl (i, j, l)) k =
      subst (λ o. TellsAll m (or_then (or_then o b) c) (first_of x (first_of y z)) h) (sym u)
      (subst (λ o. TellsAll m (or_then o c) (first_of x (first_of y z)) h) (sym i)
      (subst (λ o. TellsAll m c (first_of o (first_of y z)) h) (sym v) (subst (λ o. TellsAll m c (first_of o z) h) (sym j) (k l))))

module _ (ns : List Name) (s t reg qualified : List ℕ) (fresh : Fresh [] ns) (m : Name) where
  -- names of a region's states, as indexes
  among-link : {pre : Name} {up l n p i q j : ℕ} {g h : Bool} (x : ℕ) (ss : ResolvedStates) → x < length ns → LaidS ns s t reg qualified pre up l n p i g ss q j h → is_state_t s t x n p ≡ member (pre ++ name_at ns x) (names_of ss)
  unfolding is_state_t member names_of
  among-link x s_nil lt (l_end a b c) = refl
  among-link {pre} x (s_cons full es ts rs rest) lt (l_more {nm} {n} {p} row d to f sl ms rg st) =
      let v = name-number ns s _ nm d.to-equations d.name in
      let e : eqb (number_in s (get_or t p 0)).value x ≡ eq_name (pre ++ name_at ns x) full =
      ap (λ y. eqb (number_in s y).value x) row.drawn
      ∙ ap (λ y. eqb y.value x) (number-num s _ v.i d.to-equations v.is)
      ∙ sym (alone ns fresh x v.i lt v.small)
      ∙ ap (λ y. eq_name y (name_at ns x)) v.named
      ∙ eq_name-turn nm (name_at ns x)
      ∙ sym (eq_name-under pre (name_at ns x) nm)
      ∙ ap (eq_name (pre ++ name_at ns x)) (sym f) in
      (λ k. e k || (ap (λ y. is_state_t s t x n y) row.after ∙ among-link x rest lt st) k)

  -- where a state is there, the region has states
  laid-some : {pre : Name} {up l n p i q j : ℕ} {g h : Bool} (b : Bool) (y : Name) (ss : ResolvedStates) → LaidS ns s t reg qualified pre up l n p i g ss q j h → member y (names_of ss) ≡ true → holed b n ≡ b
  unfolding member names_of holed
  laid-some b y s_nil (l_end u v w) e = let z : ◌≡◌ {A = ℕ} 0 1 = cc in absurd (omega arith)
  laid-some b y (s_cons full es ts rs rest) (l_more row d to f sl ms rg st) e = refl

  -- the targets of a state at the word p, in a region at the word q with the names all
  module _ (pre : Name) (q : ℕ) (all : List Name) (called : prefix_of (letters_at t qualified q) ≡ pre) (has : (x : ℕ) → x < length ns → has_t s t q x ≡ member (pre ++ name_at ns x) all) where
    moves-link : (p n o : ℕ) (ts : List Transition) (z : ℕ) → many (transition_in ns s) n o ≡ value ts z → Tells ns t qualified m (moves_checked ns s t q p n o) (bad_target m (letters_at t qualified p) all (prefix_transitions pre ts))
    unfolding moves_checked bad_target prefix_transitions Says called_in transition_in
    moves-link p zero o [] z e = inl (refl, refl)
    moves-link p zero o (x ∷ ts) z e = absurd (many-cut (transition_in ns s) o x ts z e)
    moves-link p (suc n) o [] z e = absurd (many-over (transition_in ns s) n o z e)
    moves-link p (suc n) o (x ∷ ts) z e =
        let a = many_more (transition_in ns s) n o x ts z e in
        let b = bind-value (expr_in ns s o) _ x a.0 a.1 in
        let c = map-value _ (name_in ns s b.1) x a.0 b.3 in
        let v = name-number ns s b.1 c.0 a.0 c.1 in
        let tg : name_at ns v.i ≡ x.target = v.named ∙ ap (λ (y : Transition). y.target) c.2 in
        let h : has_t s t q v.i ≡ member (pre ++ x.target) all = has v.i v.small ∙ ap (λ y. member (pre ++ y) all) tg in
        let k : moves_checked ns s t q p (suc n) o ≡ cond (member (pre ++ x.target) all) (moves_checked ns s t q p n a.0) (ck.Target p q v.i) =
        ap (λ y. with (number_in s y) (λ i w. cond (has_t s t q i) (moves_checked ns s t q p n w) (ck.Target p q i))) (end-to (expr_in ns s o) b.0 b.1 b.2)
        ∙ number-to s b.1 v.i a.0 (λ i w. cond (has_t s t q i) (moves_checked ns s t q p n w) (ck.Target p q i)) v.is
        ∙ ap (λ y. cond y (moves_checked ns s t q p n a.0) (ck.Target p q v.i)) h in
        subst (λ y. Tells ns t qualified m y (elim (member (pre ++ x.target) all) [ true ↦ bad_target m (letters_at t qualified p) all (prefix_transitions pre ts) | false ↦ some (unknown_target m (letters_at t qualified p) (pre ++ x.target)) ])) (sym k)
        (go _ v.i (member (pre ++ x.target) all) v.small (moves-link p n a.0 ts z a.2) (ap (λ y. y ++ name_at ns v.i) called ∙ ap (λ y. pre ++ y) tg))
      where
        go : (c : Checked) (i : ℕ) (b : Bool) → i < length ns → Tells ns t qualified m c (bad_target m (letters_at t qualified p) all (prefix_transitions pre ts)) → prefix_of (letters_at t qualified q) ++ name_at ns i ≡ pre ++ x.target
            → Tells ns t qualified m (cond b c (ck.Target p q i)) (elim b [ true ↦ bad_target m (letters_at t qualified p) all (prefix_transitions pre ts) | false ↦ some (unknown_target m (letters_at t qualified p) (pre ++ x.target)) ])
        go c i true lt ih f = ih
        go c i false lt ih f = inr (unknown_target m (letters_at t qualified p) (pre ++ x.target), refl, (lt, ap (unknown_target m (letters_at t qualified p)) (sym f)))

    targets-link : (p tr z : ℕ) (ts tts : List Transition) (full : Name) → get_or t (p + 1) 0 ≡ tr → counted (transition_in ns s) s tr ≡ value ts z → letters_at t qualified p ≡ full → tts ≡ prefix_transitions pre ts
        → Tells ns t qualified m (targets_t ns s t q p) (bad_target m full all tts)
    unfolding counted targets_t
    targets-link p tr z ts tts full r c l e =
        let b = bind-value (u16 s tr) _ ts z c in
        let a : targets_t ns s t q p ≡ moves_checked ns s t q p b.0 b.1 =
        ap (λ y. with (number_in s y) (λ k o. moves_checked ns s t q p k o)) r ∙ number-to s tr b.0 b.1 (λ k o. moves_checked ns s t q p k o) b.2 in
        subst (λ y. Tells ns t qualified m y (bad_target m full all tts)) (sym a)
        (subst (λ y. Tells ns t qualified m (moves_checked ns s t q p b.0 b.1) (bad_target m y all tts)) l
        (subst (λ y. Tells ns t qualified m (moves_checked ns s t q p b.0 b.1) (bad_target m (letters_at t qualified p) all y)) (sym e) (moves-link p b.0 b.1 ts z b.3)))

  -- the states of a region by their indexes; a region's initial state
  region-has : {pre : Name} {up l n i q j a k e id st hi u v : ℕ} {g h : Bool} (w y : ℕ) (ss : ResolvedStates) → RegionRow t w u hi a k e id n st v → y < length ns → LaidS ns s t reg qualified pre up l n (w + 9) i g ss q j h → has_t s t w y ≡ member (pre ++ name_at ns y) (names_of ss)
  unfolding has_t
  region-has w y ss row lt st = ap (λ k. is_state_t s t y k (w + 9)) row.states ∙ among-link y ss lt st

  open-link : (c : Checked) (w x : ℕ) (full : Name) (r e : Option Refusal) (d : Checked) (f h : Bool) (b : Bool) → get_or t w 0 < length ns → has_t s t w (get_or t w 0) ≡ b → full ≡ called_in ns t qualified w (get_or t w 0)
      → (b ≡ true → TellsAll ns t qualified m c r f) → (f ≡ false → TellsAll ns t qualified m d e h)
      → TellsAll ns t qualified m (or_then (cond (has_t s t w (get_or t w 0)) c (ck.Initial w)) d) (first_of (cond b none (some (unknown_initial m full))) (first_of r e)) h
  unfolding or_then first_of Says
  open-link c w x full r e d f h true lt u v k l = subst (λ y. TellsAll ns t qualified m (or_then (cond y c (ck.Initial w)) d) (first_of r e) h) (sym u) (in_order ns t qualified m ck.Fine c d none r e f h (inl (refl, refl)) (k refl) l)
  open-link c w x full r e d f h false lt u v k l =
      subst (λ y. TellsAll ns t qualified m (or_then (cond y c (ck.Initial w)) d) (some (unknown_initial m full)) h) (sym u) (inr (unknown_initial m full, refl, (lt, ap (unknown_initial m) v)))

  -- states of a region, and regions of a state
  mutual
    unfolding each_row checked_state checked_region validate_states validate_regions bad_initial called_in

    pub states-link : {up l n p i q j : ℕ} {g h : Bool} (pre : Name) (w : ℕ) (all : List Name) (ss : ResolvedStates) → prefix_of (letters_at t qualified w) ≡ pre → ((x : ℕ) → x < length ns → has_t s t w x ≡ member (pre ++ name_at ns x) all)
        → LaidS ns s t reg qualified pre up l n p i g ss q j h → g ≡ false → TellsAll ns t qualified m (each_row t (checked_state ns s t (checked_region ns s t l) w) n p) (validate_states m all ss) h
    states-link pre w all s_nil ca has (l_end a b c) e = inl (refl, refl, sym c ∙ e)
    states-link pre w all (s_cons full es ts rs rest) ca has (l_more {l} {n} {p} {f = f2} {h = h2} row d to f sl ms rg st) e =
        in_order ns t qualified m _ _ _ _ _ _ _ _
        (targets-link pre w all ca has p _ d.to-regions _ _ full (row.moves ∙ sym to) d.transitions (state-letters t qualified p full row sl) ms)
        (subst (λ k. TellsAll ns t qualified m (each_row t (checked_region ns s t l) k (p + 6)) (validate_regions m rs) f2) (sym row.regions) (regions-link rs rg e))
        (λ z. subst (λ y. TellsAll ns t qualified m (each_row t (checked_state ns s t (checked_region ns s t l) w) n y) (validate_states m all rest) h2) (sym row.after) (states-link pre w all rest ca has st z))

    pub regions-link : {up st l k p i q j : ℕ} {g h : Bool} (rs : ResolvedRegions) → LaidR ns s t reg qualified up st l k p i g rs q j h → g ≡ false → TellsAll ns t qualified m (each_row t (checked_region ns s t l) k p) (validate_regions m rs) h
    regions-link r_nil (r_end a b c) e = inl (refl, refl, sym c ∙ e)
    regions-link (r_cons full b ss rest) (r_more {pre} {l} {k} {p} {x} {n} {f = f2} {h = h2} row rg lt fl pr fu st more) e =
        let ca = ap prefix_of (region-letters t qualified p row) ∙ pr in
        let hs : has_t s t p (get_or t p 0) ≡ member full (names_of ss) = ap (has_t s t p) row.initial ∙ region-has p x ss row lt st ∙ ap (λ y. member y (names_of ss)) (sym fu) in
        open-link _ p 0 full _ _ _ _ _ (member full (names_of ss)) (subst (λ y. y < length ns) (sym row.initial) lt) hs (fu ∙ (λ i. sym ca i ++ name_at ns (sym row.initial i)))
        (λ z. subst (λ y. TellsAll ns t qualified m (each_row t (checked_state ns s t (checked_region ns s t l) p) y (p + 9)) (validate_states m (names_of ss) ss) f2) (sym row.states) (states-link pre p (names_of ss) ss ca (λ y h. region-has p y ss row h st) st (laid-some _ full ss st z ∙ e)))
        (λ z. subst (λ y. TellsAll ns t qualified m (each_row t (checked_region ns s t (suc l)) k y) (validate_regions m rest) h2) (sym row.after) (regions-link rest more z))
    regions-link (r_cons full b s_nil rest) (r_left more) e = let z : ◌≡◌ {A = ℕ} 0 1 = cc in absurd (omega arith)

  -- a machine that is laid out: its top region's initial state, then its states
  pub machine-valid : {q j : ℕ} {h : Bool} (initial : Name) (ss : ResolvedStates) → LaidR ns s t reg qualified 0 0 8 1 0 0 false (r_cons initial true ss r_nil) q j h
      → TellsAll ns t qualified m (checked_region ns s t 8 0) (first_of (bad_initial m initial (names_of ss)) (validate_states m (names_of ss) ss)) h
  unfolding each_row or_then validate_regions
  machine-valid {h = h} initial ss l =
      subst (λ y. TellsAll ns t qualified m y (first_of (bad_initial m initial (names_of ss)) (validate_states m (names_of ss) ss)) h) (then-fine (checked_region ns s t 8 0))
      (subst (λ y. TellsAll ns t qualified m (or_then (checked_region ns s t 8 0) ck.Fine) (first_of (bad_initial m initial (names_of ss)) y) h) (first-none (validate_states m (names_of ss) ss))
      (regions-link (r_cons initial true ss r_nil) l refl))

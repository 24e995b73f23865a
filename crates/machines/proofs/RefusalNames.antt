-- The names in the refusal of a resolved machine: at most 255 letters, and those of states have letters.
use Prim.Native.Nat.{ℕ, ◌+◌, ◌<◌}
use native.Mathlib.Omega.{arith}
use mathlib.Core.List.{List, [], ◌∷◌, ◌++◌}
use mathlib.Core.Bool.{Bool, true, false, cond, ◌&&◌, and-eq-true_iff}
use mathlib.Core.Option.{Option, none, some}
use mathlib.Core.Path.{◌≡◌, refl, sym, subst}
use lib.ListN.{length, length-append}
use borrow.Author.Tests.{leb-true}
use Rattle.wire.specs.Lists.{All}
use Rattle.pack_rules.specs.Names.{Name, member}
use Rattle.pack_rules.specs.Syntax.{Equation, Transition}
use Rattle.machine_rules.specs.Resolved.{ResolvedRegions, ResolvedStates, r_cons, r_nil, s_cons, s_nil}
use Rattle.pack_rules.specs.Forms.{name_at}
use Rattle.pack_rules.specs.Report.{Refusal, first_of}
use Rattle.pack.proofs.Tables.{all_append}
use Rattle.machine_rules.specs.Refusals.{unknown_initial, unknown_target}
use Rattle.machine_rules.specs.Resolve.{short_name, short_r, short_s, short_targets}
use Rattle.machine_rules.specs.Lower.{is_some, names_of, own_value, some_region_covers}
use Rattle.machine_rules.specs.Checks.{bad_initial, bad_target, collect_region_names, collect_state_names, repeated, require_cover_regions, require_cover_states, unless_covered, unless_other, validate_regions, validate_states}
use Rattle.machines.specs.Layout.{LaidR, LaidS, l_end, l_more, r_end, r_left, r_more}
use Rattle.machines.proofs.Reading.{name-number}
use Rattle.machines.proofs.CountLaws.{short-regions, short-states}

-- at most 255 letters; and at least one
abbrev pub Short : Name → Type 0
Short n = length n < 256

abbrev pub Lettered : Name → Type 0
Lettered n = (0 < length n) × (length n < 256)

-- of what there is
unfoldable pub Maybe : {A : Type 0} → (A → Type 0) → Option A → Type 0
Maybe P none = Unit {0}
Maybe P (some x) = P x

pub maybe-some : {A : Type 0} (P : A → Type 0) (o : Option A) (x : A) → o ≡ some x → Maybe P o → P x
unfolding Maybe
maybe-some P o x e h = subst (Maybe P) e h

pub maybe-first : {A : Type 0} (P : A → Type 0) (a b : Option A) → Maybe P a → Maybe P b → Maybe P (first_of a b)
unfolding Maybe first_of
maybe-first P none b x y = y
maybe-first P (some a) b x y = x

pub all_left : {A : Type 0} (P : A → Type 0) (xs ys : List A) → All P (xs ++ ys) → All P xs
unfolding All
all_left P [] ys h = tt
all_left P (x ∷ xs) ys h = (h.0, all_left P xs ys h.1)

pub all_right : {A : Type 0} (P : A → Type 0) (xs ys : List A) → All P (xs ++ ys) → All P ys
unfolding All
all_right P [] ys h = h
all_right P (x ∷ xs) ys h = all_right P xs ys h.1

-- a name that stands again is one of those
pub repeated-told : (P : Name → Type 0) (seen ns : List Name) → All P ns → Maybe P (repeated seen ns)
unfolding Maybe repeated All
repeated-told P seen [] h = tt
repeated-told P seen (n ∷ ns) h = go (member n seen) h.0 (repeated-told P (n ∷ seen) ns h.1)
  where
    go : (b : Bool) → P n → Maybe P (repeated (n ∷ seen) ns) → Maybe P (elim b [ true ↦ some n | false ↦ repeated (n ∷ seen) ns ])
    go true x y = x
    go false x y = y

-- a state that does not give an output is one of the tree's
maybe-covered : (P : Name → Type 0) (b : Bool) (o : Option Name) → Maybe P o → Maybe P (unless_covered b o)
unfolding Maybe unless_covered
maybe-covered P true o h = tt
maybe-covered P false o h = h

maybe-other : (P : Name → Type 0) (o : Option Name) (b : Bool) → Maybe P o → Maybe P (unless_other o b)
unfolding Maybe unless_other
maybe-other P none b h = tt
maybe-other P (some n) true h = tt
maybe-other P (some n) false h = h

mutual
  unfolding require_cover_states require_cover_regions collect_state_names collect_region_names All Maybe

  pub uncovered-told : (P : Name → Type 0) (o : Name) (ss : ResolvedStates) → All P (collect_state_names ss) → Maybe P (require_cover_states o ss)
  uncovered-told P o s_nil h = tt
  uncovered-told P o (s_cons s es ts rs rest) h =
      maybe-first P _ (require_cover_states o rest)
      (maybe-covered P (is_some (own_value o es)) (require_cover_regions o s rs) (uncovered-regions P o s rs h.0 (all_left P (collect_region_names rs) (collect_state_names rest) h.1)))
      (uncovered-told P o rest (all_right P (collect_region_names rs) (collect_state_names rest) h.1))

  uncovered-regions : (P : Name → Type 0) (o s : Name) (rs : ResolvedRegions) → P s → All P (collect_region_names rs) → Maybe P (require_cover_regions o s rs)
  uncovered-regions P o s r_nil x h = x
  uncovered-regions P o s (r_cons i y ss rest) x h = maybe-other P (require_cover_states o ss) (some_region_covers o rest) (uncovered-told P o ss (all_left P (collect_state_names ss) (collect_region_names rest) h))

-- a refusal of an initial state or a target: its names are short, and the state of a target has letters
unfoldable pub second_of : List Name → Name
second_of [] = []
second_of (a ∷ []) = []
second_of (a ∷ b ∷ ns) = b

pub record Fair (r : Refusal) : Type 0 where
  pub short : All Short r.names
  pub state : r.kind ≡ 3 → 0 < length (second_of r.names)

pub fair-target : (m s t : Name) → Fair (unknown_target m s t) → 0 < length s
unfolding unknown_target second_of
fair-target m s t h = h.state refl

short-name : (n : Name) → short_name 0 n ≡ true → Short n
unfolding short_name
short-name n e = let l = leb-true (0 + length n) 255 e in omega arith

module _ (m : Name) (own : Short m) where
  initial-fair : (i : Name) (ns : List Name) → Short i → Maybe Fair (bad_initial m i ns)
  unfolding Maybe bad_initial unknown_initial All
  initial-fair i ns h = go (member i ns)
    where
      go : (b : Bool) → Maybe Fair (cond b none (some (unknown_initial m i)))
      go true = tt
      go false = record { short = (own, (h, tt)); state = λ e. absurd (omega arith) }

  target-fair : (s : Name) (ns : List Name) (ts : List Transition) → Lettered s → short_targets 0 ts ≡ true → Maybe Fair (bad_target m s ns ts)
  unfolding Maybe bad_target short_targets unknown_target All second_of
  target-fair s ns [] l h = tt
  target-fair s ns (t ∷ ts) l h =
      let a = (and-eq-true_iff (short_name 0 t.target) (short_targets 0 ts)).0 h in
      go (member t.target ns) (short-name t.target a.0) (target-fair s ns ts l a.1)
    where
      go : (b : Bool) → Short t.target → Maybe Fair (bad_target m s ns ts) → Maybe Fair (elim b [ true ↦ bad_target m s ns ts | false ↦ some (unknown_target m s t.target) ])
      go true x y = y
      go false x y = record { short = (own, (l.1, (x, tt))); state = λ e. l.0 }

  short-targets : (s : Name) (es : List Equation) (ts : List Transition) (rs : ResolvedRegions) (rest : ResolvedStates) → short_s 0 (s_cons s es ts rs rest) ≡ true → short_targets 0 ts ≡ true
  unfolding short_s
  short-targets s es ts rs rest e = ((and-eq-true_iff (short_targets 0 ts) (short_r 0 rs && short_s 0 rest)).0 ((and-eq-true_iff (short_name 0 s) (short_targets 0 ts && (short_r 0 rs && short_s 0 rest))).0 e).1).0

  short-initial : (i : Name) (h : Bool) (ss : ResolvedStates) (rest : ResolvedRegions) → short_r 0 (r_cons i h ss rest) ≡ true → short_name 0 i ≡ true
  unfolding short_r
  short-initial i h ss rest e = ((and-eq-true_iff (short_name 0 i) (short_s 0 ss && short_r 0 rest)).0 e).0

  mutual
    unfolding validate_states validate_regions collect_state_names collect_region_names All Maybe

    states-fair : (ns : List Name) (ss : ResolvedStates) → short_s 0 ss ≡ true → All Lettered (collect_state_names ss) → Maybe Fair (validate_states m ns ss)
    states-fair ns s_nil e l = tt
    states-fair ns (s_cons s es ts rs rest) e l =
        let h = short-states s es ts rs rest e in
        maybe-first Fair (bad_target m s ns ts) _ (target-fair s ns ts l.0 (short-targets s es ts rs rest e))
        (maybe-first Fair (validate_regions m rs) (validate_states m ns rest)
        (regions-fair rs h.regions (all_left Lettered (collect_region_names rs) (collect_state_names rest) l.1))
        (states-fair ns rest h.states (all_right Lettered (collect_region_names rs) (collect_state_names rest) l.1)))

    regions-fair : (rs : ResolvedRegions) → short_r 0 rs ≡ true → All Lettered (collect_region_names rs) → Maybe Fair (validate_regions m rs)
    regions-fair r_nil e l = tt
    regions-fair (r_cons i y ss rest) e l =
        let h = short-regions i y ss rest e in
        maybe-first Fair (bad_initial m i (names_of ss)) _ (initial-fair i (names_of ss) (short-name i (short-initial i y ss rest e)))
        (maybe-first Fair (validate_states m (names_of ss) ss) (validate_regions m rest)
        (states-fair (names_of ss) ss h.0 (all_left Lettered (collect_state_names ss) (collect_region_names rest) l))
        (regions-fair rest h.1 (all_right Lettered (collect_state_names ss) (collect_region_names rest) l)))

  -- of a machine: its initial state, then its states
  pub machine-fair : (i : Name) (ss : ResolvedStates) → Short i → short_s 0 ss ≡ true → All Lettered (collect_state_names ss) → Maybe Fair (first_of (bad_initial m i (names_of ss)) (validate_states m (names_of ss) ss))
  machine-fair i ss h e l = maybe-first Fair (bad_initial m i (names_of ss)) (validate_states m (names_of ss) ss) (initial-fair i (names_of ss) h) (states-fair (names_of ss) ss e l)

-- the names of states that are laid out have letters, where the pack's have
module _ (ns : List Name) (s t reg qualified : List ℕ) (filled : (i : ℕ) → i < length ns → 0 < length (name_at ns i)) where
  mutual
    unfolding collect_state_names collect_region_names All

    pub laid-lettered : {pre : Name} {up l n p i q j : ℕ} {g h : Bool} (ss : ResolvedStates) → LaidS ns s t reg qualified pre up l n p i g ss q j h → short_s 0 ss ≡ true → All Lettered (collect_state_names ss)
    laid-lettered s_nil (l_end a b c) e = tt
    laid-lettered {pre} (s_cons full es ts rs rest) (l_more {nm} row d to f sl ms rg st) e =
        let h = short-states full es ts rs rest e in
        let v = name-number ns s _ nm d.to-equations d.name in
        let a : 0 < length nm = subst (λ (y : Name). 0 < length y) v.named (filled v.i v.small) in
        let b : 0 < length full = subst (λ (y : Name). 0 < length y) (sym f) (omega (arith, length-append pre nm)) in
        ((b, h.name), all_append Lettered (collect_region_names rs) (collect_state_names rest) (regions-lettered rs rg h.regions) (laid-lettered rest st h.states))

    regions-lettered : {up st l k p i q j : ℕ} {g h : Bool} (rs : ResolvedRegions) → LaidR ns s t reg qualified up st l k p i g rs q j h → short_r 0 rs ≡ true → All Lettered (collect_region_names rs)
    regions-lettered r_nil (r_end a b c) e = tt
    regions-lettered (r_cons full b ss rest) (r_more row rg lt fl pr fu st more) e =
        let h = short-regions full b ss rest e in
        all_append Lettered (collect_state_names ss) (collect_region_names rest) (laid-lettered ss st h.0) (regions-lettered rest more h.1)
    regions-lettered (r_cons full b s_nil rest) (r_left more) e = let h = short-regions full b s_nil rest e in regions-lettered rest more h.1

-- What laying out keeps of three tables, how far it fills them, and that there is room for it.
use Prim.Native.Nat.{ℕ, ◌+◌, ◌*◌, ◌<◌, ◌≤◌}
use native.Mathlib.Omega.{arith}
use mathlib.Core.List.{List, [], ◌++◌, append_assoc, append-nil}
use mathlib.Core.Bool.{Bool, true, false}
use mathlib.Core.Path.{◌≡◌, refl, sym, ap, ◌∙◌}
use lib.ListN.{length, get_or, take, length-append}
use Rattle.pack_rules.specs.Names.{Name}
use Rattle.machines.specs.Layout.{prefix_of, slice_of}
use Rattle.machines.specs.LayoutAt.{Board}
use Rattle.machines.proofs.LetterLaws.{slice-shared, take_less}

-- one region without states may still be laid out
unfoldable pub spare : Bool → ℕ
spare true = 0
spare false = 1

-- from b to d: what was there is kept, and no more was filled than r regions with states and c states take; xs are the letters said
pub record Step (b d : Board) (r c : ℕ) (xs : List ℕ) : Type 0 where
  pub words : b.c.words ≤ d.c.words
  pub regions : b.c.regions ≤ d.c.regions
  pub t-long : length d.t ≡ length b.t
  pub reg-long : length d.reg ≡ length b.reg
  pub lets-long : length d.qualified ≡ length b.qualified
  pub t-kept : (i : ℕ) → i < b.c.words → get_or d.t i 0 ≡ get_or b.t i 0
  pub reg-kept : (i : ℕ) → i < b.c.regions → get_or d.reg i 0 ≡ get_or b.reg i 0
  pub lets-kept : take b.c.letters d.qualified ≡ take b.c.letters b.qualified
  pub words-full : d.c.words + 9 * spare d.c.hole ≤ b.c.words + (9 * r + 6 * c) + 9 * spare b.c.hole
  pub regions-full : d.c.regions + spare d.c.hole ≤ b.c.regions + r + spare b.c.hole
  pub letters-full : d.c.letters ≡ b.c.letters + length xs
  pub says : take d.c.letters d.qualified ≡ take b.c.letters b.qualified ++ xs

pub step-none : (b : Board) → Step b b 0 0 []
step-none b =
    record {
      words = omega arith;
      regions = omega arith;
      t-long = refl;
      reg-long = refl;
      lets-long = refl;
      t-kept = λ i h. refl;
      reg-kept = λ i h. refl;
      lets-kept = refl;
      words-full = omega arith;
      regions-full = omega arith;
      letters-full = omega arith;
      says = sym (append-nil (take b.c.letters b.qualified));
    }

pub step_then : {b d e : Board} {r c r' c' r'' c'' : ℕ} {xs ys zs : List ℕ} → Step b d r c xs → Step d e r' c' ys → r'' ≡ r + r' → c'' ≡ c + c' → zs ≡ xs ++ ys → Step b e r'' c'' zs
step_then {b} {d} {e} {xs} {ys} {zs} f g i j k =
    let fw = f.words in
    let fr = f.regions in
    let fwf = f.words-full in
    let frf = f.regions-full in
    let flf = f.letters-full in
    let gw = g.words in
    let gr = g.regions in
    let gwf = g.words-full in
    let grf = g.regions-full in
    let glf = g.letters-full in
    let n : length zs ≡ length xs + length ys = ap length k ∙ length-append xs ys in
    record {
      words = omega arith;
      regions = omega arith;
      t-long = g.t-long ∙ f.t-long;
      reg-long = g.reg-long ∙ f.reg-long;
      lets-long = g.lets-long ∙ f.lets-long;
      t-kept = λ i h. g.t-kept i (omega arith) ∙ f.t-kept i h;
      reg-kept = λ i h. g.reg-kept i (omega arith) ∙ f.reg-kept i h;
      lets-kept = take_less b.c.letters d.c.letters e.qualified d.qualified (omega arith) g.lets-kept ∙ f.lets-kept;
      words-full = omega arith;
      regions-full = omega arith;
      letters-full = omega arith;
      says = g.says ∙ ap (λ (y : List ℕ). y ++ ys) f.says ∙ append_assoc (take b.c.letters b.qualified) xs ys ∙ ap (λ (y : List ℕ). take b.c.letters b.qualified ++ y) (sym k);
    }

-- room for as much
pub record Room (b : Board) (r c : ℕ) (xs : List ℕ) : Type 0 where
  pub words : b.c.words + (9 * r + 6 * c) + 9 * spare b.c.hole ≤ length b.t
  pub regions : b.c.regions + r + spare b.c.hole ≤ length b.reg
  pub letters : b.c.letters + length xs ≤ length b.qualified
  pub t-small : length b.t ≤ 4294967296
  pub reg-small : length b.reg ≤ 4294967296
  pub lets-small : length b.qualified ≤ 4294967296

pub room-first : {b : Board} {r c r'' c'' : ℕ} {xs zs : List ℕ} (ys : List ℕ) → Room b r'' c'' zs → r ≤ r'' → c ≤ c'' → zs ≡ xs ++ ys → Room b r c xs
room-first {b} {xs} {zs} ys h i j k =
    let n : length zs ≡ length xs + length ys = ap length k ∙ length-append xs ys in
    let hw = h.words in
    let hr = h.regions in
    let hl = h.letters in
    record { words = omega arith; regions = omega arith; letters = omega arith; t-small = h.t-small; reg-small = h.reg-small; lets-small = h.lets-small }

pub room-then : {b d : Board} {r c r' c' r'' c'' : ℕ} {xs ys zs : List ℕ} → Room b r'' c'' zs → Step b d r c xs → r'' ≡ r + r' → c'' ≡ c + c' → zs ≡ xs ++ ys → Room d r' c' ys
room-then {b} {d} {xs} {ys} {zs} h f i j k =
    let n : length zs ≡ length xs + length ys = ap length k ∙ length-append xs ys in
    let hw = h.words in
    let hr = h.regions in
    let hl = h.letters in
    let fwf = f.words-full in
    let frf = f.regions-full in
    let flf = f.letters-full in
    let lt = f.t-long in
    let lr = f.reg-long in
    let ll = f.lets-long in
    let st = h.t-small in
    let sr = h.reg-small in
    let sl = h.lets-small in
    record { words = omega arith; regions = omega arith; letters = omega arith; t-small = omega arith; reg-small = omega arith; lets-small = omega arith }

-- the prefix p is that of the m letters from a on
pub record Under (b : Board) (a m : ℕ) (p : Name) : Type 0 where
  pub inside : a + m ≤ b.c.letters
  pub is : prefix_of (slice_of b.qualified a m) ≡ p

pub under-then : {b d : Board} {a m : ℕ} {p : Name} {r c : ℕ} {xs : List ℕ} → Under b a m p → Step b d r c xs → Under d a m p
under-then {b} {d} {a} {m} h f =
    let i = h.inside in
    let j = f.letters-full in
    record { inside = omega arith; is = ap prefix_of (slice-shared d.qualified b.qualified a m b.c.letters i f.lets-kept) ∙ h.is }

-- tables that are d's where it went on from b, and as far as letters were said
pub record Agrees (b d : Board) (t reg qualified : List ℕ) : Type 0 where
  pub words : (i : ℕ) → b.c.words ≤ i → i < d.c.words → get_or t i 0 ≡ get_or d.t i 0
  pub regions : (i : ℕ) → b.c.regions ≤ i → i < d.c.regions → get_or reg i 0 ≡ get_or d.reg i 0
  pub letters : take d.c.letters qualified ≡ take d.c.letters d.qualified

pub agrees-all : (b d : Board) → Agrees b d d.t d.reg d.qualified
agrees-all b d = record { words = λ i h k. refl; regions = λ i h k. refl; letters = refl }

pub agrees-later : {b d e : Board} {r c : ℕ} {xs t reg qualified : List ℕ} → Step b d r c xs → Agrees b e t reg qualified → Agrees d e t reg qualified
agrees-later f h =
    let i = f.words in
    let j = f.regions in
    record { words = λ k x y. h.words k (omega arith) y; regions = λ k x y. h.regions k (omega arith) y; letters = h.letters }

pub agrees-before : {b d e : Board} {r c : ℕ} {xs t reg qualified : List ℕ} → Step d e r c xs → Agrees b e t reg qualified → Agrees b d t reg qualified
agrees-before {d} {e} {qualified} f h =
    let i = f.words in
    let j = f.regions in
    let k = f.letters-full in
    record {
      words = λ k x y. h.words k x (omega arith) ∙ f.t-kept k y;
      regions = λ k x y. h.regions k x (omega arith) ∙ f.reg-kept k y;
      letters = take_less d.c.letters e.c.letters qualified e.qualified (omega arith) h.letters ∙ f.lets-kept;
    }

pub under-agrees : {b d : Board} {a m : ℕ} {p : Name} {t reg qualified : List ℕ} → Under d a m p → Agrees b d t reg qualified → prefix_of (slice_of qualified a m) ≡ p
under-agrees {d} {a} {m} {qualified} h f = ap prefix_of (slice-shared qualified d.qualified a m d.c.letters h.inside f.letters) ∙ h.is

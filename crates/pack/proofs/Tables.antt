-- The table of names: places, items under a table, and how spelling completes it.
use Rattle.std.proofs.Common.{◌≡◌, ℕ, zero, suc, ◌+◌, ◌<◌, ◌≤◌, Bool, true, false, cond, not, ◌&&◌, ◌||◌, eqb, ltb, List, [], ◌∷◌, ◌++◌, length, get_or, drop, sym, refl, ap, ◌∙◌, subst, append_assoc, append-nil, arith, length-append, ltb-false, ltb-true, le-ltb, lt-ltb, eq-eqb, ne_eqb, eqb-true}
use mathlib.Core.Bool.{or_assoc}
use borrow.Author.Tests.{not-true}
use Rattle.pack_rules.specs.Names.{Name, eq_name, member}
use Rattle.wire.specs.Answer.{byte, guard, u16, value}
use Rattle.pack_rules.specs.Forms.{name_at}
use Rattle.pack_rules.specs.Read.{char, name, name_byte, name_section, names_after, size}
use Rattle.pack_rules.specs.Write.{At, Found, Item, Missing, Spelt, and_then, before, enc, lookup, new_in, nm, old_in, raw, spell, spell_one, spelt}
use Rattle.wire.specs.Bytes.{two}
use Rattle.wire.specs.Lists.{All, Bytes}
use Rattle.wire.proofs.Formats.{Back, Below, Format, bind_to, enc_all, format16, format_byte, format_guard, format_same, format_times, single}
use Rattle.wire.proofs.Answers.{bind-value, guard-value}
use Rattle.pack_rules.specs.Legal.{Each, Fresh, Known, LegalName, place}

-- no name twice, each legal, and few enough to count
abbrev pub LegalTable : List Name → Type 0
LegalTable ns = (length ns < 65536) × Fresh [] ns × All LegalName ns

pub eq_name-refl : (n : Name) → eq_name n n ≡ true
unfolding eq_name
eq_name-refl [] = refl
eq_name-refl (x ∷ xs) = rw (eq-eqb x x refl, eq_name-refl xs)

pub eq_name-true : (a b : Name) → eq_name a b ≡ true → a ≡ b
unfolding eq_name
eq_name-true [] [] e = refl
eq_name-true [] (y ∷ ys) e = let z : ◌≡◌ {A = ℕ} 0 1 = cc in absurd (omega arith)
eq_name-true (x ∷ xs) [] e = let z : ◌≡◌ {A = ℕ} 0 1 = cc in absurd (omega arith)
eq_name-true (x ∷ xs) (y ∷ ys) e = go (eqb x y) refl (eq_name-true xs ys) e
  where
    go : (b : Bool) → eqb x y ≡ b → (eq_name xs ys ≡ true → xs ≡ ys) → (b && eq_name xs ys) ≡ true → x ∷ xs ≡ y ∷ ys
    go true f ih g = let u : x ≡ y = eqb-true x y f in let w : xs ≡ ys = ih g in cc
    go false f ih g = let z : ◌≡◌ {A = ℕ} 0 1 = cc in absurd (omega arith)

pub eq_name-ne : (a b : Name) → (a ≡ b → ⊥) → eq_name a b ≡ false
eq_name-ne a b h = go (eq_name a b) refl
  where
    go : (t : Bool) → eq_name a b ≡ t → t ≡ false
    go true e = absurd (h (eq_name-true a b e))
    go false e = refl

pub eq_name-false : (a b : Name) → eq_name a b ≡ false → a ≡ b → ⊥
eq_name-false a b e g = let h : eq_name a b ≡ true = ap (eq_name a) (sym g) ∙ eq_name-refl a in let z : ◌≡◌ {A = ℕ} 0 1 = cc in omega arith

pub eq_name-flip : (a b : Name) → eq_name a b ≡ false → eq_name b a ≡ false
eq_name-flip a b e = eq_name-ne b a (λ g. eq_name-false a b e (sym g))

-- not among those before
pub member-cons : (x y : Name) (t : List Name) → member x (y ∷ t) ≡ false → (eq_name x y ≡ false) × (member x t ≡ false)
unfolding member
member-cons x y t e = go (eq_name x y) refl e
  where
    go : (b : Bool) → eq_name x y ≡ b → (b || member x t) ≡ false → (eq_name x y ≡ false) × (member x t ≡ false)
    go true f g = let z : ◌≡◌ {A = ℕ} 0 1 = cc in absurd (omega arith)
    go false f g = (f, g)

pub place_out : (t xs : List Name) (x : Name) → member x t ≡ false → place (t ++ xs) x ≡ length t + place xs x
unfolding place
place_out [] xs x h = omega arith
place_out (y ∷ t) xs x h =
    let g = member-cons x y t h in
    let f : eq_name y x ≡ false = eq_name-flip x y g.0 in
    let i = place_out t xs x g.1 in
    rw f (omega arith)

pub place_here : (x : Name) (xs : List Name) → place (x ∷ xs) x ≡ 0
unfolding place
place_here x xs = rw (eq_name-refl x)

pub place_in : (t xs : List Name) (x : Name) → Known t x → place (t ++ xs) x ≡ place t x
unfolding place
place_in [] xs x h = absurd (omega arith)
place_in (y ∷ t) xs x h = go (eq_name y x) (place_in t xs x) h
  where
    go : (b : Bool) → (Known t x → place (t ++ xs) x ≡ place t x) → cond b 0 (suc (place t x)) < suc (length t) → cond b 0 (suc (place (t ++ xs) x)) ≡ cond b 0 (suc (place t x))
    go true ih k = refl
    go false ih k = ap suc (ih (omega arith))

pub known_more : (t xs : List Name) (x : Name) → Known t x → Known (t ++ xs) x
known_more t xs x h = omega (arith, place_in t xs x h, length-append t xs)

-- a name is known, or it is not a member
pub data Either (ns : List Name) (n : Name) : Type 0 where
  known : Known ns n → Either ns n
  unknown : member n ns ≡ false → Either ns n

pub either : (ns : List Name) (n : Name) → Either ns n
unfolding member place
either [] n = unknown refl
either (m ∷ ms) n = go (eq_name m n) refl (either ms n)
  where
    go : (b : Bool) → eq_name m n ≡ b → Either ms n → Either (m ∷ ms) n
    go true e r = known (rw e (omega arith))
    go false e (known k) = known (rw e (omega arith))
    go false e (unknown u) = unknown (rw (eq_name-flip m n e) u)

pub name-at-place : (ns : List Name) (n : Name) → Known ns n → name_at ns (place ns n) ≡ n
unfolding place name_at
name-at-place [] n h = absurd (omega arith)
name-at-place (m ∷ ms) n h = go (eq_name m n) refl (name-at-place ms n) h
  where
    go : (b : Bool) → eq_name m n ≡ b → (Known ms n → get_or ms (place ms n) [] ≡ n) → cond b 0 (suc (place ms n)) < suc (length ms) → get_or (m ∷ ms) (cond b 0 (suc (place ms n))) [] ≡ n
    go true e ih k = eq_name-true m n e
    go false e ih k = ih (omega arith)

pub place_of : (t xs : List Name) (i : ℕ) → Fresh t xs → i < length xs → place (t ++ xs) (get_or xs i []) ≡ length t + i
unfolding Fresh
place_of t [] i f h = absurd (omega arith)
place_of t (x ∷ xs) zero f h = place_out t (x ∷ xs) x f.0 ∙ ap (λ (k : ℕ). length t + k) (place_here x xs)
place_of t (x ∷ xs) (suc i) f h =
    let g = place_of (t ++ (x ∷ [])) xs i f.1 (omega arith) in
    let a : (t ++ (x ∷ [])) ++ xs ≡ t ++ (x ∷ xs) = append_assoc t (x ∷ []) xs in
    let k : place (t ++ (x ∷ xs)) (get_or xs i []) ≡ length (t ++ (x ∷ [])) + i = ap (λ (l : List Name). place l (get_or xs i [])) (sym a) ∙ g in
    k ∙ omega (arith, length-append t (x ∷ []))

pub place-at-name : (ns : List Name) (i : ℕ) → Fresh [] ns → i < length ns → place ns (name_at ns i) ≡ i
unfolding name_at
place-at-name ns i f h = let g = place_of [] ns i f h in omega arith

pub fresh-append : (t xs ys : List Name) → Fresh t xs → Fresh (t ++ xs) ys → Fresh t (xs ++ ys)
unfolding Fresh
fresh-append t [] ys f g = subst (λ (l : List Name). Fresh l ys) (append-nil t) g
fresh-append t (x ∷ xs) ys f g = (f.0, fresh-append (t ++ (x ∷ [])) xs ys f.1 (subst (λ (l : List Name). Fresh l ys) (sym (append_assoc t (x ∷ []) xs)) g))

-- items under a table
unfoldable pub code : List Name → List Item → List ℕ
code ns [] = []
code ns (raw xs ∷ is) = xs ++ code ns is
code ns (nm n ∷ is) = two (place ns n) ++ code ns is

pub code-append : (ns : List Name) (a b : List Item) → code ns (a ++ b) ≡ code ns a ++ code ns b
unfolding code
code-append ns [] b = refl
code-append ns (raw xs ∷ is) b = ap (λ (l : List ℕ). xs ++ l) (code-append ns is b) ∙ simp append_assoc
code-append ns (nm n ∷ is) b = ap (λ (l : List ℕ). two (place ns n) ++ l) (code-append ns is b) ∙ simp append_assoc

module _ (P : Name → Type 0) where
  pub each_append : (a b : List Item) → Each P a → Each P b → Each P (a ++ b)
  unfolding Each
  each_append [] b h k = k
  each_append (raw xs ∷ a) b h k = each_append a b h k
  each_append (nm n ∷ a) b h k = (h.0, each_append a b h.1 k)

  pub each_left : (a b : List Item) → Each P (a ++ b) → Each P a
  unfolding Each
  each_left [] b h = tt
  each_left (raw xs ∷ a) b h = each_left a b h
  each_left (nm n ∷ a) b h = (h.0, each_left a b h.1)

  pub each_right : (a b : List Item) → Each P (a ++ b) → Each P b
  unfolding Each
  each_right [] b h = h
  each_right (raw xs ∷ a) b h = each_right a b h
  each_right (nm n ∷ a) b h = each_right a b h.1

-- spelling
pub lookup-known : (ns : List Name) (n : Name) (k : ℕ) → Known ns n → lookup ns n k ≡ At (k + place ns n)
unfolding lookup place
lookup-known [] n k h = absurd (omega arith)
lookup-known (m ∷ ms) n k h = go (eq_name m n) refl (lookup-known ms n (k + 1)) h
  where
    go : (b : Bool) → eq_name m n ≡ b → (Known ms n → lookup ms n (k + 1) ≡ At (k + 1 + place ms n)) → cond b 0 (suc (place ms n)) < suc (length ms) → lookup (m ∷ ms) n k ≡ At (k + cond b 0 (suc (place ms n)))
    go true e ih l = let z : k + 0 ≡ k = omega arith in rw (e, z, lookup)
    go false e ih l = let z : k + 1 + place ms n ≡ k + suc (place ms n) = omega arith in rw (e, lookup) (ih (omega arith) ∙ ap At z)

pub lookup-missing : (ns : List Name) (n : Name) (k : ℕ) → member n ns ≡ false → lookup ns n k ≡ Missing (k + length ns)
unfolding lookup
lookup-missing [] n k h = let z : k + 0 ≡ k = omega arith in rw z
lookup-missing (m ∷ ms) n k h =
    let g = member-cons n m ms h in
    let z : k + 1 + length ms ≡ k + suc (length ms) = omega arith in
    rw (eq_name-flip n m g.0, lookup) (lookup-missing ms n (k + 1) g.1 ∙ ap Missing z)

pub spell-step : (olds : List Name) (i : Item) (is : List Item) (ns ms now : List Name) (a b : List ℕ) → spell_one olds i ns ≡ spelt a ms → spell olds is ms ≡ spelt b now → spell olds (i ∷ is) ns ≡ spelt (a ++ b) now
unfolding spell and_then before
spell-step olds i is ns ms now a b e g = ap (λ (r : Spelt). and_then r (λ ms. spell olds is ms)) e ∙ ap (before a) g

pub one_known : (olds : List Name) (n : Name) (ns : List Name) → Known olds n → spell_one olds (nm n) ns ≡ spelt (two (place olds n)) ns
unfolding spell_one old_in
one_known olds n ns k =
    let z : 0 + place olds n ≡ place olds n = omega arith in
    ap (λ (f : Found). old_in f n ns) (lookup-known olds n 0 k) ∙ ap (λ (j : ℕ). spelt (two j) ns) z

pub one_again : (olds : List Name) (n : Name) (ns : List Name) → member n olds ≡ false → Known ns n → spell_one olds (nm n) ns ≡ spelt (two (length olds + place ns n)) ns
unfolding spell_one old_in new_in
one_again olds n ns u k =
    let z : 0 + length olds + (0 + place ns n) ≡ length olds + place ns n = omega arith in
    ap (λ (f : Found). old_in f n ns) (lookup-missing olds n 0 u) ∙ ap (λ (f : Found). new_in f (0 + length olds) n ns) (lookup-known ns n 0 k) ∙ ap (λ (j : ℕ). spelt (two j) ns) z

pub one-new : (olds : List Name) (n : Name) (ns : List Name) → member n olds ≡ false → member n ns ≡ false → spell_one olds (nm n) ns ≡ spelt (two (length olds + length ns)) (ns ++ (n ∷ []))
unfolding spell_one old_in new_in
one-new olds n ns u k =
    let z : 0 + length olds + (0 + length ns) ≡ length olds + length ns = omega arith in
    ap (λ (f : Found). old_in f n ns) (lookup-missing olds n 0 u) ∙ ap (λ (f : Found). new_in f (0 + length olds) n ns) (lookup-missing ns n 0 k) ∙ ap (λ (j : ℕ). spelt (two j) (ns ++ (n ∷ []))) z

pub spell-known : (olds : List Name) (is : List Item) (ns : List Name) → Each (Known olds) is → spell olds is ns ≡ spelt (code olds is) ns
unfolding spell code Each spell_one
spell-known olds [] ns h = refl
spell-known olds (raw xs ∷ is) ns h = spell-step olds (raw xs) is ns ns ns xs (code olds is) refl (spell-known olds is ns h)
spell-known olds (nm n ∷ is) ns h = spell-step olds (nm n) is ns ns ns (two (place olds n)) (code olds is) (one_known olds n ns h.0) (spell-known olds is ns h.1)

pub all_snoc : {A : Type 0} (P : A → Type 0) (xs : List A) (x : A) → All P xs → P x → All P (xs ++ (x ∷ []))
unfolding All
all_snoc P [] x a h = (h, tt)
all_snoc P (y ∷ xs) x a h = (a.0, all_snoc P xs x a.1 h)

pub all_append : {A : Type 0} (P : A → Type 0) (xs ys : List A) → All P xs → All P ys → All P (xs ++ ys)
unfolding All
all_append P [] ys a h = h
all_append P (y ∷ xs) ys a h = (a.0, all_append P xs ys a.1 h)

pub all_map : {A : Type 0} (P Q : A → Type 0) (xs : List A) → ((x : A) → P x → Q x) → All P xs → All Q xs
unfolding All
all_map P Q [] f a = tt
all_map P Q (y ∷ xs) f a = (f y a.0, all_map P Q xs f a.1)

pub all-unit : {A : Type 0} (xs : List A) → All (λ x. Unit {0}) xs
unfolding All
all-unit [] = tt
all-unit (x ∷ xs) = (tt, all-unit xs)

pub member-either : (x : Name) (t u : List Name) → member x (t ++ u) ≡ member x t || member x u
unfolding member
member-either x [] u = refl
member-either x (y ∷ t) u = ap (λ (b : Bool). eq_name x y || b) (member-either x t u) ∙ sym (or_assoc (eq_name x y) (member x t) (member x u))

pub member-append : (x : Name) (t u : List Name) → member x t ≡ false → member x u ≡ false → member x (t ++ u) ≡ false
member-append x t u h k = member-either x t u ∙ (λ i. h i || k i)

pub fresh-snoc : (t xs : List Name) (n : Name) → Fresh t xs → member n t ≡ false → member n xs ≡ false → Fresh t (xs ++ (n ∷ []))
unfolding Fresh
fresh-snoc t xs n f h k = fresh-append t xs (n ∷ []) f (member-append n t xs h k, tt)

-- what spelling makes of items, from the new names so far
pub record Completed (olds : List Name) (is : List Item) (ns : List Name) : Type 0 where
  pub now : List Name
  pub more : List Name
  pub bytes : List ℕ
  pub grows : now ≡ ns ++ more
  pub spells : spell olds is ns ≡ spelt bytes now
  pub same : bytes ≡ code (olds ++ now) is
  pub each : Each (Known (olds ++ now)) is
  pub fresh : Fresh olds ns → Fresh olds now
  pub legal : All LegalName ns → Each LegalName is → All LegalName now

-- one name more
name-step : (olds : List Name) (n : Name) (is : List Item) (ns ms : List Name) (v : ℕ) (extra : List Name) → ms ≡ ns ++ extra → spell_one olds (nm n) ns ≡ spelt (two v) ms → ((more : List Name) → place (olds ++ (ms ++ more)) n ≡ v) → v < length olds + length ms → (Fresh olds ns → Fresh olds ms) → (All LegalName ns → LegalName n → All LegalName ms) → Completed olds is ms → Completed olds (nm n ∷ is) ns
unfolding code Each
name-step olds n is ns ms v extra g e p l f a r =
    let pl : place (olds ++ r.now) n ≡ v = ap (λ (x : List Name). place (olds ++ x) n) r.grows ∙ p r.more in
    let le : length (olds ++ r.now) ≡ length olds + (length ms + length r.more) = ap (λ (x : List Name). length (olds ++ x)) r.grows ∙ simp length-append in
    record {
      now = r.now;
      more = extra ++ r.more;
      bytes = two v ++ r.bytes;
      grows = r.grows ∙ ap (λ (x : List Name). x ++ r.more) g ∙ append_assoc ns extra r.more;
      spells = spell-step olds (nm n) is ns ms r.now (two v) r.bytes e r.spells;
      same = ap (λ (x : List ℕ). two v ++ x) r.same ∙ ap (λ (k : ℕ). two k ++ code (olds ++ r.now) is) (sym pl);
      each = (omega arith, r.each);
      fresh = λ h. r.fresh (f h);
      legal = λ h k. r.legal (a h k.0) k.1;
    }

pub complete : (olds : List Name) (is : List Item) (ns : List Name) → Completed olds is ns
unfolding spell code Each spell_one
complete olds [] ns = record { now = ns; more = []; bytes = []; grows = sym (append-nil ns); spells = refl; same = refl; each = tt; fresh = λ h. h; legal = λ h k. h }
complete olds (raw xs ∷ is) ns =
    let r = complete olds is ns in
    record { now = r.now; more = r.more; bytes = xs ++ r.bytes; grows = r.grows; spells = spell-step olds (raw xs) is ns ns r.now xs r.bytes refl r.spells; same = ap (λ (x : List ℕ). xs ++ x) r.same; each = r.each; fresh = r.fresh; legal = r.legal }
complete olds (nm n ∷ is) ns = go (either olds n) (either ns n) (complete olds is ns) (complete olds is (ns ++ (n ∷ [])))
  where
    go : Either olds n → Either ns n → Completed olds is ns → Completed olds is (ns ++ (n ∷ [])) → Completed olds (nm n ∷ is) ns
    go (known k) d r w = name-step olds n is ns ns (place olds n) [] (sym (append-nil ns)) (one_known olds n ns k) (λ more. place_in olds (ns ++ more) n k) (omega arith) (λ h. h) (λ h i. h) r
    go (unknown u) (known k) r w = name-step olds n is ns ns (length olds + place ns n) [] (sym (append-nil ns)) (one_again olds n ns u k) (λ more. place_out olds (ns ++ more) n u ∙ ap (λ (j : ℕ). length olds + j) (place_in ns more n k)) (omega arith) (λ h. h) (λ h i. h) r
    go (unknown u) (unknown v) r w =
        name-step olds n is ns (ns ++ (n ∷ [])) (length olds + length ns) (n ∷ []) refl (one-new olds n ns u v)
        (λ more. place_out olds ((ns ++ (n ∷ [])) ++ more) n u ∙ ap (λ (j : ℕ). length olds + j) (ap (λ (l : List Name). place l n) (append_assoc ns (n ∷ []) more) ∙ place_out ns (n ∷ more) n v ∙ ap (λ (j : ℕ). length ns + j) (place_here n more) ∙ omega arith))
        (omega (arith, length-append ns (n ∷ []))) (λ h. fresh-snoc olds ns n h u v) (λ h i. all_snoc LegalName ns n h i) w

-- the name section
pub name_byte-small : (b : ℕ) → name_byte b ≡ true → b < 256
unfolding name_byte
name_byte-small b e = go (ltb b 256) refl
  where
    go : (t : Bool) → ltb b 256 ≡ t → b < 256
    go true f = ltb-true b 256 f
    go false f =
        let l : 256 ≤ b = ltb-false b 256 f in
        let z : name_byte b ≡ false = rw (le-ltb b 48 (omega arith), le-ltb b 58 (omega arith), le-ltb b 65 (omega arith), le-ltb b 91 (omega arith), ne_eqb b 95 (λ i. omega arith), le-ltb b 97 (omega arith), le-ltb b 123 (omega arith)) in
        let o : ◌≡◌ {A = ℕ} 0 1 = cc in absurd (omega arith)

pub enc_all-single : (xs : List ℕ) → enc_all single xs ≡ xs
unfolding enc_all single
enc_all-single [] = refl
enc_all-single (x ∷ xs) = ap (λ (l : List ℕ). x ∷ l) (enc_all-single xs)

pub format_name : Format name (λ n. length n ∷ n) LegalName
unfolding name size char single
format_name =
    format_same name _ _ (λ n. length n ∷ n) LegalName
    (format_times size single (λ n. (n < 256) × (ltb 0 n ≡ true)) (format_guard byte single (Below 256) (λ n. ltb 0 n) format_byte)
    char single (λ b. (b < 256) × (name_byte b ≡ true)) (format_guard byte single (Below 256) name_byte format_byte))
    (λ n h. ((h.1, lt-ltb 0 (length n) h.0), all_map (λ b. name_byte b ≡ true) (λ b. (b < 256) × (name_byte b ≡ true)) n (λ b k. (name_byte-small b k, k)) h.2))
    (λ n h. (ltb-true 0 (length n) h.0.1, h.0.0, all_map (λ b. (b < 256) × (name_byte b ≡ true)) (λ b. name_byte b ≡ true) n (λ b k. k.1) h.1))
    (λ n h. ap (λ (l : List ℕ). length n ∷ l) (enc_all-single n))

module _ (s : List ℕ) where
  pub names-back : (xs t : List Name) (at : ℕ) (post : List ℕ) → Fresh t xs → All LegalName xs → drop at s ≡ enc xs ++ post → Back (λ s at. names_after s t (length xs) at) s at (t ++ xs) post
  unfolding names_after enc Fresh All guard
  names-back [] t at post f a e = record { to = at; reads = ap (λ (l : List Name). value l at) (sym (append-nil t)); rest = e }
  names-back (x ∷ xs) t at post f a e =
      let b = format_name.back s at x (enc xs ++ post) a.0 (e ∙ ap (λ (l : List ℕ). length x ∷ l) (append_assoc x (enc xs) post)) in
      let g : guard (λ y. not (member y t)) at (name s at) ≡ value x b.to = rw (b.reads, f.0) in
      let d = names-back xs (t ++ (x ∷ [])) b.to post f.1 a.1 b.rest in
      record { to = d.to; reads = bind_to (guard (λ y. not (member y t)) at (name s at)) x b.to _ _ g d.reads ∙ ap (λ (l : List Name). value l d.to) (append_assoc t (x ∷ []) xs); rest = d.rest }

  pub names-was : Bytes s → (n at : ℕ) (t ns : List Name) (q : ℕ) → names_after s t n at ≡ value ns q → (xs : List Name) × (ns ≡ t ++ xs) × (length xs ≡ n) × Fresh t xs × All LegalName xs × (drop at s ≡ enc xs ++ drop q s)
  unfolding names_after enc Fresh All
  names-was by zero at t ns q e =
      let g : t ≡ ns = cc in let u : at ≡ q = cc in
      ([], sym g ∙ sym (append-nil t), refl, tt, tt, ap (λ (k : ℕ). drop k s) u)
  names-was by (suc n) at t ns q e =
      let b = bind-value (guard (λ y. not (member y t)) at (name s at)) _ ns q e in
      let g = guard-value (λ y. not (member y t)) at (name s at) b.0 b.1 b.2 in
      let r = names-was by n b.1 (t ++ (b.0 ∷ [])) ns q b.3 in (
        b.0 ∷ r.0,
        r.1 ∙ append_assoc t (b.0 ∷ []) r.0,
        ap suc r.2,
        (not-true (member b.0 t) g.1, r.3),
        (format_name.legal s by at b.0 b.1 g.0, r.4),
        format_name.was s by at b.0 b.1 g.0 ∙ ap (λ (l : List ℕ). length b.0 ∷ (b.0 ++ l)) r.5 ∙ ap (λ (l : List ℕ). length b.0 ∷ l) (sym (append_assoc b.0 (enc r.0) (drop q s))),
      )

pub format_names : Format name_section (λ ns. two (length ns) ++ enc ns) LegalTable
unfolding name_section
format_names = record { back = back; legal = λ s by at x q e. (parts s by at x q e).0; was = λ s by at x q e. (parts s by at x q e).1 }
  where
    back : (s : List ℕ) (at : ℕ) (ns : List Name) (post : List ℕ) → LegalTable ns → drop at s ≡ (two (length ns) ++ enc ns) ++ post → Back name_section s at ns post
    back s at ns post o e =
        let b = format16.back s at (length ns) (enc ns ++ post) o.0 (e ∙ append_assoc (two (length ns)) (enc ns) post) in
        let d = names-back s ns [] b.to post o.1 o.2 b.rest in
        record { to = d.to; reads = bind_to (u16 s at) (length ns) b.to _ _ b.reads d.reads; rest = d.rest }

    parts : (s : List ℕ) → Bytes s → (at : ℕ) (ns : List Name) (q : ℕ) → name_section s at ≡ value ns q → LegalTable ns × (drop at s ≡ (two (length ns) ++ enc ns) ++ drop q s)
    parts s by at ns q e =
        let b = bind-value (u16 s at) (λ n p. names_after s [] n p) ns q e in
        let r = names-was s by b.0 b.1 [] ns q b.3 in
        let k = format16.legal s by at b.0 b.1 b.2 in
        subst (λ (y : List Name). LegalTable y × (drop at s ≡ (two (length y) ++ enc y) ++ drop q s)) (sym r.1) (
          (omega (arith, r.2), r.3, r.4),
          format16.was s by at b.0 b.1 b.2 ∙ ap (λ (n : ℕ). two n ++ drop b.1 s) (sym r.2) ∙ ap (λ (l : List ℕ). two (length r.0) ++ l) r.5 ∙ sym (append_assoc (two (length r.0)) (enc r.0) (drop q s)),
        )

pub enc-append : (a b : List Name) → enc (a ++ b) ≡ enc a ++ enc b
unfolding enc
enc-append [] b = refl
enc-append (x ∷ a) b = ap (λ (l : List ℕ). length x ∷ l) (ap (λ (l : List ℕ). x ++ l) (enc-append a b) ∙ sym (append_assoc x (enc a) (enc b)))

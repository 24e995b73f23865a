-- What the lowerings take from the round trip: what is written reads back as the package with its table completed.
use Rattle.std.proofs.Common.{◌≡◌, ℕ, zero, suc, ◌<◌, Bool, true, false, cond, ◌&&◌, ltb, leb, List, [], ◌∷◌, ◌++◌, length, sym, refl, ap, ◌∙◌, subst, append-nil, arith, ltb-false, ltb-true, leb-true}
use Rattle.pack_rules.specs.Limits.{max_bytes}
use Rattle.pack_rules.specs.Names.{Name, eq_name}
use Rattle.pack_rules.specs.Syntax.{Package}
use Rattle.pack_rules.specs.Read.{read, whole}
use Rattle.pack_rules.specs.Write.{Item, encode, nm, package_items, raw, short, shorts, spell}
use Rattle.pack_rules.specs.Outcome.{answers, writes, written, sized}
use Rattle.wire.specs.Lists.{All, Bytes}
use Rattle.pack_rules.specs.Legal.{Allowed, Each, FormedPackage, Fresh, Known, Legal, LegalName, Ready, completed, new_names, new_of, place, with_names}
use Rattle.pack.proofs.Tables.{eq_name-true, spell-known}
use Rattle.pack.proofs.RoundTrip.{read-back-completed}

-- bytes, by a test
unfoldable pub all_small : List ℕ → Bool
all_small [] = true
all_small (b ∷ s) = ltb b 256 && all_small s

-- what holds of all in the table holds of each name used
pub all_known : (P : Name → Type 0) (ns : List Name) (n : Name) → All P ns → Known ns n → P n
unfolding All place
all_known P [] n a k = absurd (omega arith)
all_known P (m ∷ ms) n a k = go (eq_name m n) refl (λ j. all_known P ms n a.1 j) k
  where
    go : (b : Bool) → eq_name m n ≡ b → (Known ms n → P n) → cond b 0 (suc (place ms n)) < suc (length ms) → P n
    go true e ih j = subst P (eq_name-true m n e) a.0
    go false e ih j = ih (omega arith)

pub each-known : (P : Name → Type 0) (ns : List Name) (is : List Item) → All P ns → Each (Known ns) is → Each P is
unfolding Each
each-known P ns [] a k = tt
each-known P ns (raw xs ∷ is) a k = each-known P ns is a k
each-known P ns (nm n ∷ is) a k = (all_known P ns n a k.0, each-known P ns is a k.1)

-- a legal package is its own completion
pub legal-completed : (p : Package) → Legal p → completed p ≡ p
unfolding completed with_names new_names
legal-completed p o =
    let e : new_of (spell p.names (package_items p) []) ≡ [] = ap new_of (spell-known p.names (package_items p) [] o.known) in
    let n : p.names ++ new_of (spell p.names (package_items p) []) ≡ p.names = ap (λ (m : List Name). p.names ++ m) e ∙ append-nil p.names in
    λ j. record { names = n j; enums = p.enums; nodes = p.nodes; machines = p.machines; activations = p.activations; origins = p.origins }

pub legal-ready : (p : Package) → Legal p → Ready p
legal-ready p o = record { fresh = o.fresh; names = o.names; used = each-known LegalName p.names (package_items p) o.names o.known; formed = o.formed; fits = o.fits }

pub shorts-legal : (is : List Item) → Each Allowed is → shorts is ≡ true → Each LegalName is
unfolding Each shorts short
shorts-legal [] a h = tt
shorts-legal (raw xs ∷ is) a h = shorts-legal is a h
shorts-legal (nm n ∷ is) a h = go (leb (length n) 255) refl (shorts-legal is a.1) h
  where
    go : (b : Bool) → leb (length n) 255 ≡ b → (shorts is ≡ true → Each LegalName is) → (b && shorts is) ≡ true → LegalName n × Each LegalName is
    go true e ih k = let l = leb-true (length n) 255 e in ((a.0.0, omega arith, a.0.1), ih k)
    go false e ih k = let z : ◌≡◌ {A = ℕ} 0 1 = cc in absurd (omega arith)

-- a pack that is written reads as the package with its table completed
pub written-reads : (room : ℕ) (p : Package) (b : List ℕ) → Fresh [] p.names → All LegalName p.names → Each Allowed (package_items p) → FormedPackage p → written room p ≡ writes b → read b ≡ whole (completed p)
unfolding written sized
written-reads room p b f n a o e = go (shorts (package_items p)) (ltb max_bytes (length (encode p))) (ltb room (length (encode p))) refl refl e
  where
    go : (s t u : Bool) → shorts (package_items p) ≡ s → ltb max_bytes (length (encode p)) ≡ t → cond s (cond t (answers 8 0) (cond u (answers 9 (length (encode p))) (writes (encode p)))) (answers 8 0) ≡ writes b → read b ≡ whole (completed p)
    go true true u g h i = let z : ◌≡◌ {A = ℕ} 0 1 = cc in absurd (omega arith)
    go true false true g h i = let z : ◌≡◌ {A = ℕ} 0 1 = cc in absurd (omega arith)
    go true false false g h i =
        let same : encode p ≡ b = cc in
        ap read (sym same) ∙ read-back-completed p (record { fresh = f; names = n; used = shorts-legal (package_items p) a g; formed = o; fits = ltb-false max_bytes (length (encode p)) h })
    go false t u g h i = let z : ◌≡◌ {A = ℕ} 0 1 = cc in absurd (omega arith)

pub small_bytes : (s : List ℕ) → all_small s ≡ true → Bytes s
unfolding all_small
small_bytes [] h i = omega arith
small_bytes (b ∷ s) h i = go (ltb b 256) refl (small_bytes s) h i
  where
    go : (t : Bool) → ltb b 256 ≡ t → (all_small s ≡ true → Bytes s) → (t && all_small s) ≡ true → Bytes (b ∷ s)
    go true e ih k zero = ltb-true b 256 e
    go true e ih k (suc j) = ih k j
    go false e ih k j = let z : ◌≡◌ {A = ℕ} 0 1 = cc in absurd (omega arith)

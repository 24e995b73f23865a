-- Names that begin with a prefix.
use mathlib.Core.List.{List, [], ◌∷◌, ◌++◌}
use mathlib.Core.Bool.{Bool, true, false, not, ◌&&◌, ◌||◌}
use mathlib.Core.Path.{◌≡◌, refl, ap₂}
use borrow.Author.Tests.{eq-eqb, not-true}
use Rattle.pack_rules.specs.Names.{Name, eq_name, member}
use Rattle.pack.proofs.Tables.{eq_name-true}
use Rattle.run_rules.specs.DemandPremises.{none_starts}
use Rattle.run_rules.specs.Premises.{starts_with}
use Rattle.run_rules.proofs.Booleans.{&&-true, true-false}

pub starts-append : (p s : Name) → starts_with p (p ++ s) ≡ true
unfolding starts_with
starts-append [] s = refl
starts-append (x ∷ xs) s = ap₂ ◌&&◌ (eq-eqb x x refl) (starts-append xs s)

-- what begins with a prefix is no member of a list of names that do not
pub not-member : (p n : Name) (l : List Name) → starts_with p n ≡ true → none_starts p l ≡ true → member n l ≡ false
unfolding member none_starts
not-member p n [] s h = refl
not-member p n (x ∷ xs) s h = go (eq_name n x) refl (not-member p n xs s q.1)
  where
    q : (not (starts_with p x) ≡ true) × (none_starts p xs ≡ true)
    q = &&-true (not (starts_with p x)) (none_starts p xs) h

    go : (b : Bool) → eq_name n x ≡ b → member n xs ≡ false → eq_name n x || member n xs ≡ false
    go true e r = absurd (true-false {b = starts_with p x} (rw (eq_name-true n x e) at s) (not-true (starts_with p x) q.0))
    go false e r = rw e r

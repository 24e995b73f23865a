-- Laws for looking names up.
use Prim.Native.Nat.{ℕ, ◌+◌, ◌<◌}
use native.Mathlib.Nat.{zero-add}
use native.Mathlib.Omega.{arith}
use mathlib.Core.List.{List, [], ◌∷◌}
use mathlib.Core.Bool.{Bool, true, false}
use mathlib.Core.Path.{◌≡◌, refl, sym, ap, ◌∙◌}
use lib.ListN.{length}
use lib.Dec.{eqb}
use borrow.Author.Tests.{eq-eqb, ne_eqb}
use Rattle.pack_rules.specs.Names.{Name, eq_name}
use Rattle.pack_rules.specs.Forms.{name_at}
use Rattle.pack_rules.specs.Legal.{Fresh, place}
use Rattle.pack_rules.specs.Write.{lookup}
use Rattle.pack.specs.Table.{number_in, seek, tabled}
use Rattle.pack.specs.Intern.{found_of}
use Rattle.std.specs.Prelude.{Ok, Err}
use Rattle.pack.proofs.TableIndex.{seek-tabled}
use Rattle.pack.proofs.Tables.{eq_name-false, eq_name-true, name-at-place, place-at-name}
use Rattle.activation_rules.specs.LastCalls.{last_name}
use Rattle.activations.specs.Walks.{LastIs}
use Rattle.activations.specs.Lookups.{place_in}

found-place : (ns : List Name) (n : Name) (k : ℕ) → number_in (lookup ns n k) ≡ k + place ns n
unfolding lookup place number_in
found-place [] n k = omega arith
found-place (m ∷ ms) n k = go (eq_name m n) refl (found-place ms n (k + 1))
  where
    go : (b : Bool) → eq_name m n ≡ b → number_in (lookup ms n (k + 1)) ≡ k + 1 + place ms n → number_in (lookup (m ∷ ms) n k) ≡ k + place (m ∷ ms) n
    go true e ih = rw (e, lookup, place) (omega arith)
    go false e ih = rw (e, lookup, place) (omega (arith, ih))

-- an answer of either kind is the place
pub found_at : (old : List ℕ) (n : Name) (k : ℕ) → found_of (Ok k) ≡ seek old n → k ≡ place_in old n
unfolding found_of number_in place_in
found_at old n k h = ap number_in h

pub missing_at : (old : List ℕ) (n : Name) (k : ℕ) → found_of (Err k) ≡ seek old n → k ≡ place_in old n
unfolding found_of number_in place_in
missing_at old n k h = ap number_in h

-- in the table of names each has its place among them
pub place-tabled : (ns : List Name) → place_in (tabled ns) ≡ place ns
unfolding place_in
place-tabled ns = λ j n. (ap number_in (seek-tabled ns n) ∙ found-place ns n 0 ∙ zero-add (place ns n)) j

-- the place of `last` tells its name
pub last-is : (ns : List Name) → Fresh [] ns → LastIs ns (place ns last_name)
unfolding LastIs
last-is ns fresh i h = go (eq_name (name_at ns i) last_name) refl
  where
    go : (b : Bool) → eq_name (name_at ns i) last_name ≡ b → eqb i (place ns last_name) ≡ b
    go true e = eq-eqb i (place ns last_name) (sym (place-at-name ns i fresh h) ∙ ap (place ns) (eq_name-true (name_at ns i) last_name e))
    go false e = ne_eqb i (place ns last_name) (λ d. eq_name-false (name_at ns i) last_name e (ap (name_at ns) d ∙ name-at-place ns last_name (let l : i < length ns = h in omega (arith, d, l))))

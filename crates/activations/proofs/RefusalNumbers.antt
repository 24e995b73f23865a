-- Laws of refusals by numbers.
use Prim.Native.Nat.{ℕ, ◌≤◌}
use native.Mathlib.Omega.{arith}
use mathlib.Core.Path.{◌≡◌, refl, ap, subst, sym}
use Rattle.std.specs.Prelude.{Result, Ok, Err}
use Rattle.activations.specs.declared.checks.Refusal.{Refusal}
use Rattle.activations.specs.declared.checks.Refusal.TheVariants as rf
use Rattle.activations.specs.Refusing.{OfVariable, RoomFor, held_kind, held_var, numbers_of}
use Rattle.activations.specs.Verdicts.{refused_in, row_refused}

-- 0 is no refusal's number
pub kind-some : (names : ℕ) (r : Refusal) → (numbers_of names r).kind ≡ 0 → ⊥
unfolding numbers_of
kind-some names rf.NoBranches e = omega arith
kind-some names rf.NoOutputs e = omega arith
kind-some names (rf.OutputUnassigned o b) e = omega arith
kind-some names (rf.DuplicateBranch x) e = omega arith
kind-some names (rf.UnknownOwner x) e = omega arith
kind-some names rf.LastArgs e = omega arith
kind-some names (rf.LastUnknown v) e = omega arith
kind-some names (rf.LastNeedsInit v) e = omega arith
kind-some names rf.EmptyLeft e = omega arith

pub room_for : (names : ℕ) (r : Refusal) → names ≤ 65536 → RoomFor names r
unfolding RoomFor
room_for names rf.NoBranches l = tt
room_for names rf.NoOutputs l = tt
room_for names (rf.OutputUnassigned o b) l = omega arith
room_for names (rf.DuplicateBranch x) l = tt
room_for names (rf.UnknownOwner x) l = tt
room_for names rf.LastArgs l = tt
room_for names (rf.LastUnknown v) l = tt
room_for names (rf.LastNeedsInit v) l = tt
room_for names rf.EmptyLeft l = tt

-- holders that are known, and a refusal of one, by numbers
pub held-ok : (names : ℕ) (v : Result (Unit {0}) Refusal) (u : Unit {0}) → v ≡ Ok u → held_kind names v ≡ 0
unfolding held_kind
held-ok names v u e = subst (λ (y : Result (Unit {0}) Refusal). held_kind names y ≡ 0) (sym e) refl

pub held-err : (names : ℕ) (v : Result (Unit {0}) Refusal) (r : Refusal) → v ≡ Err r → OfVariable v → (held_kind names v ≡ 0 → ⊥) × (row_refused names r ≡ refused_in names (held_kind names v) (held_var names 0 v) names)
unfolding OfVariable held_kind held_var row_refused
held-err names v r e =
    subst (λ (y : Result (Unit {0}) Refusal). OfVariable y → (held_kind names y ≡ 0 → ⊥) × (row_refused names r ≡ refused_in names (held_kind names y) (held_var names 0 y) names)) (sym e)
    (λ o. (kind-some names r, ap (refused_in names (numbers_of names r).kind (numbers_of names r).second) (o names)))

-- Names that stay short and letters, part by part of a tree; how much room a tree takes by the count of its states.
use Prim.Native.Nat.{ℕ, suc, ◌+◌, ◌*◌, ◌<◌, ◌≤◌}
use native.Mathlib.Omega.{arith}
use mathlib.Core.List.{List, ◌∷◌, ◌++◌}
use mathlib.Core.Bool.{Bool, true, ◌&&◌, and-eq-true_iff}
use mathlib.Core.Path.{◌≡◌, ap, ◌∙◌}
use lib.ListN.{length, length-append}
use lib.Dec.{leb}
use borrow.Author.Tests.{leb-true}
use Rattle.pack_rules.specs.Names.{Name}
use Rattle.pack_rules.specs.Syntax.{Equation, Transition}
use Rattle.machine_rules.specs.Resolved.{ResolvedRegions, ResolvedStates, r_cons, r_nil, s_cons, s_nil}
use Rattle.pack_rules.specs.Write.{enc}
use Rattle.pack.proofs.Tables.{enc-append}
use Rattle.machine_rules.specs.Checks.{collect_region_names, collect_state_names}
use Rattle.machines.specs.Counts.{any_s, count_r, count_s, filled_r, filled_s}
use Rattle.machine_rules.specs.Resolve.{short_name, short_r, short_s, short_targets}

-- names that stay short, part by part
pub record ShortS (s : Name) (rs : ResolvedRegions) (rest : ResolvedStates) : Type 0 where
  pub name : length s < 256
  pub regions : short_r 0 rs ≡ true
  pub states : short_s 0 rest ≡ true

pub short-states : (s : Name) (es : List Equation) (ts : List Transition) (rs : ResolvedRegions) (rest : ResolvedStates) → short_s 0 (s_cons s es ts rs rest) ≡ true → ShortS s rs rest
unfolding short_s short_name
short-states s es ts rs rest e =
    let a = (and-eq-true_iff (leb (0 + length s) 255) (short_targets 0 ts && (short_r 0 rs && short_s 0 rest))).0 e in
    let b = (and-eq-true_iff (short_targets 0 ts) (short_r 0 rs && short_s 0 rest)).0 a.1 in
    let c = (and-eq-true_iff (short_r 0 rs) (short_s 0 rest)).0 b.1 in
    let n = leb-true (0 + length s) 255 a.0 in
    record { name = omega arith; regions = c.0; states = c.1 }

pub short-regions : (i : Name) (h : Bool) (ss : ResolvedStates) (rest : ResolvedRegions) → short_r 0 (r_cons i h ss rest) ≡ true → (short_s 0 ss ≡ true) × (short_r 0 rest ≡ true)
unfolding short_r
short-regions i h ss rest e =
    (and-eq-true_iff (short_s 0 ss) (short_r 0 rest)).0 ((and-eq-true_iff (short_name 0 i) (short_s 0 ss && short_r 0 rest)).0 e).1

-- letters, part by part
pub letters-states : (s : Name) (es : List Equation) (ts : List Transition) (rs : ResolvedRegions) (rest : ResolvedStates) → enc (collect_state_names (s_cons s es ts rs rest)) ≡ (length s ∷ s) ++ (enc (collect_region_names rs) ++ enc (collect_state_names rest))
unfolding enc collect_state_names
letters-states s es ts rs rest = ap (λ (y : List ℕ). length s ∷ (s ++ y)) (enc-append (collect_region_names rs) (collect_state_names rest))

pub letters-regions : (i : Name) (h : Bool) (ss : ResolvedStates) (rest : ResolvedRegions) → enc (collect_region_names (r_cons i h ss rest)) ≡ enc (collect_state_names ss) ++ enc (collect_region_names rest)
unfolding collect_region_names
letters-regions i h ss rest = enc-append (collect_state_names ss) (collect_region_names rest)

-- as many regions with states as states, at most
mutual
  unfolding filled_s filled_r count_s count_r any_s

  pub filled-states : (ss : ResolvedStates) → any_s ss + filled_s ss ≤ count_s ss
  filled-states s_nil = omega arith
  filled-states (s_cons s es ts rs rest) = let a = filled-regions rs in let b = filled-states rest in omega arith

  filled-regions : (rs : ResolvedRegions) → filled_r rs ≤ count_r rs
  filled-regions r_nil = omega arith
  filled-regions (r_cons i h ss rest) = let a = filled-states ss in let b = filled-regions rest in omega arith

-- 256 letters for each state, at most
mutual
  unfolding count_s count_r collect_state_names collect_region_names enc

  pub letters-few : (ss : ResolvedStates) → short_s 0 ss ≡ true → length (enc (collect_state_names ss)) ≤ 256 * count_s ss
  letters-few s_nil e = omega arith
  letters-few (s_cons s es ts rs rest) e =
      let h = short-states s es ts rs rest e in
      let n = h.name in
      let a = region-letters-few rs h.regions in
      let b = letters-few rest h.states in
      let i : length (enc (collect_state_names (s_cons s es ts rs rest))) ≡ suc (length s + (length (enc (collect_region_names rs)) + length (enc (collect_state_names rest)))) =
      ap length (letters-states s es ts rs rest) ∙ ap suc (length-append s (enc (collect_region_names rs) ++ enc (collect_state_names rest)) ∙ ap (λ (y : ℕ). length s + y) (length-append (enc (collect_region_names rs)) (enc (collect_state_names rest)))) in
      omega arith

  region-letters-few : (rs : ResolvedRegions) → short_r 0 rs ≡ true → length (enc (collect_region_names rs)) ≤ 256 * count_r rs
  region-letters-few r_nil e = omega arith
  region-letters-few (r_cons i h ss rest) e =
      let g = short-regions i h ss rest e in
      let a = letters-few ss g.0 in
      let b = region-letters-few rest g.1 in
      let j : length (enc (collect_region_names (r_cons i h ss rest))) ≡ length (enc (collect_state_names ss)) + length (enc (collect_region_names rest)) =
      ap length (letters-regions i h ss rest) ∙ length-append (enc (collect_state_names ss)) (enc (collect_region_names rest)) in
      omega arith

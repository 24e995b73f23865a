-- How many enums, locals and equations a machine makes, by the number of its regions.
use Prim.Native.Nat.{ℕ, ◌+◌, ◌*◌, zero, suc}
use native.Mathlib.Omega.{arith}
use mathlib.Core.List.{List, [], ◌∷◌, ◌++◌}
use mathlib.Core.Bool.{Bool, true, false}
use mathlib.Core.Path.{◌≡◌, refl, ap}
use lib.ListN.{length, length-append}
use Rattle.pack_rules.specs.Names.{Name}
use Rattle.pack_rules.specs.Syntax.{Expr, Port}
use Rattle.machine_rules.specs.Resolved.{ResolvedMachine, ResolvedRegions, ResolvedStates, r_cons, r_nil, s_cons, s_nil}
use Rattle.machine_rules.specs.Lower.{active_in, enums_of, enums_r, enums_s, equations_of, equations_r, equations_s, locals_of, locals_s, output_equations, region_equations, region_locals, size_r, size_s, top_equations}
use Rattle.machines.specs.Locals.{inner_locals}
use Rattle.machines.specs.Sections.{enum_count, equation_count, local_count}
use Rattle.machines.proofs.LocalLaws.{locals-states}

mutual
  unfolding enums_s enums_r size_s size_r

  enums-states : (m : Name) (n : ℕ) (ss : ResolvedStates) → length (enums_s m n ss) ≡ size_s ss
  enums-states m n s_nil = refl
  enums-states m n (s_cons s es ts rs rest) =
      let a = enums-regions m n rs in
      let b = enums-states m (n + size_r rs) rest in
      omega (arith, length-append (enums_r m n rs) (enums_s m (n + size_r rs) rest))

  enums-regions : (m : Name) (n : ℕ) (rs : ResolvedRegions) → length (enums_r m n rs) ≡ size_r rs
  enums-regions m n r_nil = refl
  enums-regions m n (r_cons i h ss rest) =
      let a = enums-states m (suc n) ss in
      let b = enums-regions m (suc n + size_s ss) rest in
      omega (arith, length-append (enums_s m (suc n) ss) (enums_r m (suc n + size_s ss) rest))

-- three for each region below the top
inner-count : (m : Name) (id k : ℕ) → length (inner_locals m id k) ≡ 3 * k
unfolding inner_locals region_locals
inner-count m id zero = refl
inner-count m id (suc k) = let a = inner-count m (suc id) k in omega arith

mutual
  unfolding equations_s equations_r size_s size_r region_equations

  equations-states : (top : Bool) (p n : ℕ) (ss : ResolvedStates) → length (equations_s top p n ss) ≡ 3 * size_s ss
  equations-states top p n s_nil = refl
  equations-states top p n (s_cons s es ts rs rest) =
      let a = equations-regions (active_in top p s) n rs in
      let b = equations-states top p (n + size_r rs) rest in
      omega (arith, length-append (equations_r (active_in top p s) n rs) (equations_s top p (n + size_r rs) rest))

  equations-regions : (a : Expr) (n : ℕ) (rs : ResolvedRegions) → length (equations_r a n rs) ≡ 3 * size_r rs
  equations-regions e n r_nil = refl
  equations-regions e n (r_cons i h ss rest) =
      let a = equations-states false n (suc n) ss in
      let b = equations-regions e (suc n + size_s ss) rest in
      omega (arith, length-append (equations_s false n (suc n) ss) (equations_r e (suc n + size_s ss) rest))

output-count : (m : ResolvedMachine) (ps : List Port) → length (output_equations m ps) ≡ length ps
unfolding output_equations
output-count m [] = refl
output-count m (p ∷ ps) = ap suc (output-count m ps)

pub enum-count : (m : ResolvedMachine) → length (enums_of m) ≡ enum_count m
unfolding enums_of enum_count
enum-count m = ap suc (enums-states m.name 1 m.states)

pub local-count : (m : ResolvedMachine) → length (locals_of m) ≡ local_count m
unfolding locals_of local_count region_locals
local-count m =
    let a = ap length (locals-states m.name 1 m.states) in
    let b = inner-count m.name 1 (size_s m.states) in
    omega (arith, length-append m.locals (region_locals m.name 0 ++ locals_s m.name 1 m.states))

pub equation-count : (m : ResolvedMachine) → length (equations_of m) ≡ equation_count m
unfolding equations_of equation_count top_equations
equation-count m =
    let a = equations-states true 0 1 m.states in
    let b = output-count m m.outputs in
    omega (arith, length-append (equations_s true 0 1 m.states) (output_equations m m.outputs))

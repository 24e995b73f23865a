-- The scratch that a call starts with.
use Prim.Native.Nat.{ℕ, zero, suc}
use native.Mathlib.Omega.{arith}
use mathlib.Core.Path.{◌≡◌, refl}
use lib.ListN.{get_or, length-replicate, replicate}
use Rattle.machines.specs.MemoSound.{Blank}
use Rattle.machines.specs.EmitMachineAt.{Long}
use Rattle.machines.specs.CallTables.{Empty}

-- the tables that a call starts with are long enough, and where machines are sought nothing stands
pub zeros : (n k : ℕ) → ◌≡◌ {A = ℕ} (get_or (replicate n 0) k 0) 0
zeros zero k = refl
zeros (suc n) zero = refl
zeros (suc n) (suc k) = zeros n k

pub scratch-long : Long (replicate 7698 0) (replicate 514 0) (replicate 131072 0)
scratch-long =
    let a = length-replicate {A = ℕ} 7698 0 in let b = length-replicate {A = ℕ} 514 0 in let c = length-replicate {A = ℕ} 131072 0 in
    record { words = omega arith; regions = omega arith; letters = omega arith; few_words = omega arith; few_regions = omega arith; few_letters = omega arith }

pub scratch-empty : Empty (replicate 32768 0) (replicate 32768 0) (replicate 5958 0) (replicate 4682 0) (replicate 4682 0) (replicate 4682 0)
scratch-empty =
    let a = length-replicate {A = ℕ} 32768 0 in let b = length-replicate {A = ℕ} 5958 0 in let c = length-replicate {A = ℕ} 4682 0 in
    record { for_names = omega arith; for_machines = omega arith; no_machine = zeros 32768; for_nodes = omega arith; for_places = omega arith; for_goals = omega arith; for_regions = omega arith }

-- a table of zeros keeps nothing
pub scratch-ends : Blank (replicate 58986 0)
scratch-ends = zeros 58986

-- Internal: nothing here has to be believed; laws tie it to what docs/TRUSTED.md lists.
-- Regions without states that follow one another, which visits pass over at once.
use Rattle.std.specs.Prelude.{ℕ, zero, suc, ◌+◌, ◌*◌, ◌<◌, ◌≤◌, List, Bool, true, cond, ◌&&◌, ◌≡◌, eqb, ltb, max}
use Rattle.wire.specs.Bytes.{word_range}
use Rattle.machines.specs.declared.resolve.EmptyRegions.{EmptyRegions}
use Rattle.machines.specs.declared.resolve.SkippedRegions.{SkippedRegions}
use Rattle.machines.specs.declared.layout.RegionHead.{RegionHead}
use Rattle.wire.specs.declared.answer.Number.{Number}
use Rattle.machines.specs.CheckedReads.{region_in, with}
use Rattle.machines.specs.ResolveAt.{len_at}
use Rattle.machines.specs.LayoutAt.{opening, region_from}
use Rattle.machines.specs.Memo.{beside_in, kept_in, of_empty}

-- a region that begins at `at` and was read as g has no states, and so takes five bytes
unfoldable pub empty_at : ℕ → Number → Bool
empty_at at g = eqb g.value 0 && eqb g.next (at + 5)

-- n such regions, one after the other from `at` on
unfoldable pub empty_d : List ℕ → ℕ → ℕ → Bool
empty_d s zero at = true
empty_d s (suc n) at = empty_at at (region_in s at) && empty_d s n (at + 5)

-- the longest name of their initial states, or a
unfoldable pub longest_d : List ℕ → List ℕ → ℕ → ℕ → ℕ → ℕ
longest_d s offsets zero at a = a
longest_d s offsets (suc n) at a = longest_d s offsets n (at + 5) (max a (len_at s offsets at))

-- what was seen of n regions from `at` on: so many have no states
pub record EmptyRun (s offsets : List ℕ) (n at : ℕ) (r : EmptyRegions) : Type 0 where
  pub few : r.count ≤ n
  pub none : empty_d s r.count at ≡ true
  pub longest : r.longest ≡ longest_d s offsets r.count at 0

-- how many of n regions from `at` on are passed at once: one, or several that the table t keeps
pub record AtOnce (t : List ℕ) (n at r : ℕ) : Type 0 where
  pub some : 0 < r
  pub few : r ≤ n
  pub small : r < word_range
  pub kept : 1 < r → r ≡ kept_in t at of_empty

-- k regions from `at` on as resolving takes them: how many states they have and where those are, the longest initial state's name
abbrev pub taken : ℕ → ℕ → ℕ → SkippedRegions
taken n q l = record { states = n; next = q; longest = l }

unfoldable pub taken_of : List ℕ → List ℕ → List ℕ → ℕ → ℕ → SkippedRegions
taken_of s offsets t k at = cond (ltb k 2) (with (region_in s at) λ n q. taken n q (len_at s offsets at)) (taken 0 (at + 5 * k) (beside_in t at))

-- and as laying out opens them
unfoldable pub opened_of : List ℕ → ℕ → ℕ → RegionHead
opened_of s k at = cond (ltb k 2) (region_from s at) (opening 0 0 0 (at + 5 * k))

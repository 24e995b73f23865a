-- Internal: nothing here has to be believed; laws tie it to what docs/TRUSTED.md lists.
-- When a walk over bytes and the resolving of a tree come to the same.
use Rattle.std.specs.Prelude.{ℕ, ◌+◌, ◌<◌, List, Bool, ◌&&◌, ◌≡◌, length, leb}
use Rattle.std.proofs.Math.Option.{Option, none, some}
use Rattle.pack_rules.specs.Limits.{max_name}
use Rattle.pack_rules.specs.Names.{Name}
use Rattle.machine_rules.specs.Resolved.{ResolvedRegions, ResolvedStates}
use Rattle.pack_rules.specs.Forms.{name_at}
use Rattle.pack_rules.specs.Report.{Refusal}
use Rattle.machines.specs.declared.resolve.Resolved.{Resolved}
use Rattle.machines.specs.declared.resolve.Resolved.TheVariants as wk
use Rattle.machine_rules.specs.Refusals.{refine_cycle, too_large, unknown_refine}
use Rattle.machine_rules.specs.Resolve.{Walk, short_r, short_s, stop, went}

-- why a walk of the machine `top` stopped
unfoldable pub why_of : List Name → Name → Resolved → Option Refusal
why_of ns top (wk.Went q c a) = none
why_of ns top (wk.Cycle i) = some (refine_cycle top (name_at ns i))
why_of ns top (wk.Unknown i m) = some (unknown_refine top (name_at ns i) (name_at ns m))
why_of ns top wk.Large = some (too_large top)

-- the indexes in the answer of a walk that stopped are those of names
unfoldable pub WithinNames : List Name → Resolved → Type 0
WithinNames ns (wk.Went q c a) = ⊥
WithinNames ns (wk.Cycle i) = i < length ns
WithinNames ns (wk.Unknown i m) = (i < length ns) × (m < length ns)
WithinNames ns wk.Large = Unit {0}

-- the walk stopped for r, and the indexes in its answer are those of names
abbrev pub Why : List Name → Name → Resolved → Refusal → Type 0
Why ns top v r = (why_of ns top v ≡ some r) × WithinNames ns v

-- both stopped for one reason, or both went: up to q, with one number of states, and `short` is that the longest name stays short
pub data Same {A : Type 0} (ns : List Name) (top : Name) (short : ℕ → A → Bool) (q : ℕ) (w : Walk A) (v : Resolved) : Type 0 where
  stops : {r : Refusal} → w ≡ stop r → Why ns top v r → Same ns top short q w v
  goes : {x : A} {c a : ℕ} → w ≡ went x c → v ≡ wk.Went q c a → ((p : ℕ) → short p x ≡ leb (p + a) max_name) → Same ns top short q w v

-- names stay short after a prefix of p bytes, and so would one of a bytes
unfoldable pub fit_s : ℕ → ℕ → ResolvedStates → Bool
fit_s a p t = leb (p + a) max_name && short_s p t

unfoldable pub fit_r : ℕ → ℕ → ResolvedRegions → Bool
fit_r a p t = leb (p + a) max_name && short_r p t

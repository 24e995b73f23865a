-- Internal: nothing here has to be believed; laws tie it to what docs/TRUSTED.md lists.
-- What the tables of machines stand for: for each machine where it is drawn, the node it goes to, and how many regions it has.
use Rattle.std.specs.Prelude.{ℕ, suc, ◌<◌, List, [], ◌∷◌, ◌≡◌, length, get_or}
use Rattle.std.proofs.Math.Option.{none}
use Rattle.wire.specs.Answer.{value}
use Rattle.wire.specs.Lists.{All, Bytes}
use Rattle.wire.specs.Bytes.{word_range}
use Rattle.pack_rules.specs.Names.{Name}
use Rattle.pack_rules.specs.Syntax.{MachineDef}
use Rattle.machine_rules.specs.Resolved.{ResolvedStates}
use Rattle.pack_rules.specs.Forms.{name_at}
use Rattle.pack_rules.specs.Legal.{Fresh, LegalName}
use Rattle.pack_rules.specs.Read.{machine_in}
use Rattle.pack.specs.Table.{tabled}
use Rattle.machine_rules.specs.Resolve.{as_machine, resolved_states, went}
use Rattle.machine_rules.specs.Lower.{size_s}
use Rattle.machine_rules.specs.Checks.{refusal_of}
use Rattle.machines.specs.EmitAt.{pack_name}
use Rattle.machines.specs.Sections.{Share, fate_of}

-- what holds of the bytes and the names of a checked pack, and of the tables of its names
pub record PackOf (ns : List Name) (s old offsets : List ℕ) : Type 0 where
  pub bytes : Bytes s
  pub legal : All LegalName ns
  pub fresh : Fresh [] ns
  pub few : length ns < word_range
  pub names : old ≡ tabled ns
  pub placed : (i : ℕ) → i < length ns → pack_name s offsets i ≡ name_at ns i

-- the machine of index i is drawn where the table says, and its resolved form is this share
pub record ShownAt (ns : List Name) (s defs receivers regcounts : List ℕ) (i : ℕ) (x : Share) : Type 0 where
  pub drawing : MachineDef
  pub end : ℕ
  pub states : ResolvedStates
  pub read : machine_in ns s (get_or defs i 0) ≡ value drawing end
  pub fate : x.fate ≡ fate_of drawing.owner (as_machine drawing states)
  pub at : x.at ≡ get_or receivers i 0
  pub regions : suc (size_s states) ≡ get_or regcounts i 0
  pub few_regions : get_or regcounts i 0 < word_range

-- the machines from index i on
unfoldable pub Shown : List Name → List ℕ → List ℕ → List ℕ → List ℕ → ℕ → List Share → Type 0
Shown ns s defs receivers regcounts i [] = Unit {0}
Shown ns s defs receivers regcounts i (x ∷ xs) = ShownAt ns s defs receivers regcounts i x × Shown ns s defs receivers regcounts (suc i) xs

-- the same, of a machine that resolves among the machines ms and is not refused
pub record LoweredAt (ms : List MachineDef) (ns : List Name) (s defs receivers regcounts : List ℕ) (i : ℕ) (x : Share) : Type 0 where
  pub shown : ShownAt ns s defs receivers regcounts i x
  pub count : ℕ
  pub resolves : resolved_states ms shown.drawing ≡ went shown.states count
  pub accepted : refusal_of (as_machine shown.drawing shown.states) ≡ none

-- the machines from index i on
unfoldable pub Lowered : List MachineDef → List Name → List ℕ → List ℕ → List ℕ → List ℕ → ℕ → List Share → Type 0
Lowered ms ns s defs receivers regcounts i [] = Unit {0}
Lowered ms ns s defs receivers regcounts i (x ∷ xs) = LoweredAt ms ns s defs receivers regcounts i x × Lowered ms ns s defs receivers regcounts (suc i) xs

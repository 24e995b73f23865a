-- Internal: nothing here has to be believed; laws tie it to what docs/TRUSTED.md lists.
-- What the code's judgement of a machine stands for: the refusal or the machine of the definition.
use Rattle.std.specs.Prelude.{ℕ, ◌<◌, List, [], ◌∷◌, ◌≡◌, Ok, Err}
use Rattle.pack_rules.specs.Syntax.{MachineDef}
use Rattle.pack_rules.specs.Report.{Refusal, entries}
use Rattle.machines.specs.declared.verdicts.VerdictRow.{VerdictRow}
use Rattle.machine_rules.specs.Machines as definition
use Rattle.machine_rules.specs.Machines.{accept, refuse}
use Rattle.machines.specs.ReportEntries.{entry_bytes}
use Rattle.machines.specs.VerdictAt.{Judged, row_of}
use Rattle.machines.specs.Verdicts.{AcceptedAs}

-- the pack, where its names stand, letters; the index of the machine's name
module _ (s offsets qualified : List ℕ) (m : ℕ) where
  -- a refusal: its kind, and what is written of it is the report's entry
  pub record RefusedAs (r : Refusal) (j : VerdictRow) : Type 0 where
    pub kind : j.kind ≡ r.kind
    pub some : 0 < j.kind
    pub entry : entry_bytes s offsets qualified m j ≡ entries (r ∷ [])

  -- the code refuses for it too
  unfoldable pub RefusedFor : Refusal → Judged → Type 0
  RefusedFor r (Ok n) = ⊥
  RefusedFor r (Err w) = RefusedAs r (row_of w)

-- an accepted machine has as many regions as the definition gives it
unfoldable pub JudgedAs : List ℕ → List ℕ → List ℕ → ℕ → List MachineDef → MachineDef → definition.MachineVerdict → Judged → Type 0
JudgedAs s offsets qualified m ms d (refuse r) j = RefusedFor s offsets qualified m r j
JudgedAs s offsets qualified m ms d (accept x) (Ok n) = AcceptedAs ms d x n
JudgedAs s offsets qualified m ms d (accept x) (Err w) = ⊥

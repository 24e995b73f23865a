-- Internal: nothing here has to be believed; laws tie it to what docs/TRUSTED.md lists.
-- The report of refused activations as the code writes it: a refusal's names are the pack's, or the letters of `else`.
use Rattle.std.specs.Prelude.{ℕ, List, [], cond, eqb, ltb}
use Rattle.pack_rules.specs.Limits.{absent}
use Rattle.machines.specs.declared.verdicts.NameRef.{NameRef}
use Rattle.machines.specs.declared.verdicts.VerdictRow.{VerdictRow}
use Rattle.machines.specs.ReportEntries.{entry_bytes}
use Rattle.machines.specs.VerdictAt.{named, no_name, refused_by}
use Rattle.machines.specs.CheckedReads.{number_in}
use Rattle.activations.specs.declared.checks.Refused.{Refused}
use Rattle.activation_rules.specs.Checks.{else_name}
use Rattle.activations.specs.ActTable.{refusal_t, spot_t}

-- a name by its number, where there are so many names: that number is none, past it is `else`
abbrev pub else_called : NameRef
else_called = record { letter = 0; letters = 4; name = absent }

unfoldable pub called_t : ℕ → ℕ → NameRef
called_t names x = cond (ltb x names) (named x) (cond (eqb x names) no_name else_called)

-- a refusal as one of a machine
unfoldable pub judged_as : ℕ → Refused → VerdictRow
judged_as names r = refused_by r.kind (called_t names r.second) (called_t names r.third)

-- whether the activation i is refused, as a number
unfoldable pub is_refused_t : List ℕ → ℕ → ℕ
is_refused_t acts i = cond (eqb (refusal_t acts i).kind 0) 0 1

-- its entry, where it is
unfoldable pub entry_t : ℕ → List ℕ → List ℕ → List ℕ → ℕ → List ℕ
entry_t names s offsets acts i =
    cond (eqb (refusal_t acts i).kind 0) []
    (entry_bytes s offsets else_name (number_in s (spot_t acts i)).value (judged_as names (refusal_t acts i)))

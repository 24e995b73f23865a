-- The call: number, value, output and report of lowering a pack's activations, in the table's order.
use Rattle.std.specs.Prelude.{List, ℕ}
use Rattle.pack_rules.specs.Syntax.{Package}
use Rattle.pack_rules.specs.Read.{read}
use Rattle.pack_rules.specs.Outcome.{Outcome, on_package}
use Rattle.machine_rules.specs.Machines.{Progress}
use Rattle.machine_rules.specs.Call.{report_or_pack}
use Rattle.activation_rules.specs.Activations.{activations_lowered, made_activations}

-- the table, 6 to 9 and 0: a report where something is refused, else the pack
unfoldable pub lower_package_activations : ℕ → ℕ → Package → Outcome
lower_package_activations output report p = let k : Progress = made_activations p in report_or_pack output report k.refusals (activations_lowered p k)

-- the table; the two numbers are the lengths of the output and the report buffer
unfoldable pub lower_activations : List ℕ → ℕ → ℕ → Outcome
lower_activations s output report = on_package s (read s) (lower_package_activations output report)

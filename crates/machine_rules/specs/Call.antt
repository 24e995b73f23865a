-- The call: number, value, output and report of lowering a pack's machines, in the table's order.
use Rattle.std.specs.Prelude.{List, [], ◌∷◌, ℕ}
use Rattle.pack_rules.specs.Syntax.{Package}
use Rattle.pack_rules.specs.Read.{read}
use Rattle.pack_rules.specs.Report.{Refusal, report_bytes}
use Rattle.pack_rules.specs.Outcome.{Outcome, on_package, reported, written}
use Rattle.machine_rules.specs.Machines.{Progress, machines_lowered, made_machines}

-- a report where something is refused, else the pack
unfoldable pub report_or_pack : ℕ → ℕ → List Refusal → Package → Outcome
report_or_pack output report [] p = written output p
report_or_pack output report (r ∷ rs) p = reported report (report_bytes (r ∷ rs))

-- the table, 6 to 9 and 0, for a package that was read: all machines are lowered, and what they made is written, or what is refused reported
unfoldable pub lower_package_machines : ℕ → ℕ → Package → Outcome
lower_package_machines output report p = let k : Progress = made_machines p in report_or_pack output report k.refusals (machines_lowered p k)

-- the two numbers are the lengths of the output and the report buffer
unfoldable pub lower_machines : List ℕ → ℕ → ℕ → Outcome
lower_machines s output report = on_package s (read s) (lower_package_machines output report)

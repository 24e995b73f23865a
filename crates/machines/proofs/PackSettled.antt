-- All machines of a pack settled: the tables that the code fills stand for what the definition lowers.
use Prim.Native.Nat.{ℕ, ◌+◌, ◌<◌, ◌≤◌}
use native.Mathlib.Omega.{arith}
use mathlib.Core.List.{List, []}
use mathlib.Core.Path.{◌≡◌, sym, ap, subst, ◌∙◌}
use lib.ListN.{length, get_or}
use Rattle.wire.specs.Answer.{value}
use Rattle.pack.specs.declared.record.Pack.{Pack}
use Rattle.pack_rules.specs.Limits.{absent}
use Rattle.pack_rules.specs.Syntax.{MachineDef, Package}
use Rattle.pack_rules.specs.Read.{machine_in, node_in}
use Rattle.pack_rules.specs.Report.{entries}
use Rattle.pack.specs.Verdict.{SectionsAt}
use Rattle.machine_rules.specs.Machines.{made_machines}
use Rattle.machines.specs.Sections.{node_names, shares_of}
use Rattle.machines.specs.TableMeaning.{Lowered}
use Rattle.machines.specs.AddedAt.{total_t}
use Rattle.machines.specs.OwnersAt.{Nodes, fill_t, machine_end, node_name_t, nodes_of, nth, refused_t, settle_t}
use Rattle.machines.specs.ReportAt.{bytes_t, of_refused}
use Rattle.machines.specs.Verdicts.{Judgings, NodesAre, Settled, SettledPack, VerdictAs, entry_at, verdicts, verdicts_of}
use Rattle.machines.proofs.NamesPlaced.{section-read}
use Rattle.machines.proofs.VerdictLaws.{package-refuses}
use Rattle.machines.proofs.Settled.{settled}
use Rattle.machines.proofs.SettledTables.{entries-settled, refused-counted, settled-lowered}
use Rattle.machines.proofs.TablesFilled.{fill-length, judgings-filled, nodes-filled}
use Rattle.machines.proofs.PackCounts.{counted-many, pack-counts}

-- THE THEOREM: tables that are filled in the pack's order, and settled
pub pack-settled : (s : List ℕ) (k : Pack) (p : Package) → SectionsAt s k p → length s ≤ 65536
    → (gs : ℕ → ℕ) (defs₀ regcounts₀ receivers₀ nodes₀ defs regcounts nodes : List ℕ) (z : Nodes)
    → length p.machines ≤ length defs₀ → length p.machines ≤ length regcounts₀ → length p.machines ≤ length receivers₀ → length p.nodes + length p.machines ≤ length nodes₀
    → defs ≡ fill_t (nth (machine_end p.names s) (k.machines + 2)) (length p.machines) 0 defs₀
    → regcounts ≡ fill_t gs (length p.machines) 0 regcounts₀
    → nodes ≡ fill_t (node_name_t p.names s (k.nodes + 2)) (length p.nodes) 0 nodes₀
    → z ≡ settle_t s defs regcounts (length p.machines) 0 (nodes_of receivers₀ nodes (length p.nodes))
    → ((i : ℕ) → i < length p.machines → (d : MachineDef) (e : ℕ) → machine_in p.names s (nth (machine_end p.names s) (k.machines + 2) i) ≡ value d e → VerdictAs p.machines d (gs i))
    → SettledPack s p defs z.receivers regcounts
unfolding verdicts_of
pack-settled s k p h short gs defs₀ regcounts₀ receivers₀ nodes₀ defs regcounts nodes z lm lr la ln em er en ez hints =
    let ns = p.names in
    let ms = p.machines in
    let n = length ms in
    let rm = (counted-many (machine_in ns s) s k.machines ms k.activations h.machines).1 in
    let rn = (counted-many (node_in ns s) s k.nodes p.nodes k.machines h.nodes).1 in
    let few = pack-counts s k p h in
    let room : length nodes ≡ length nodes₀ = ap length en ∙ fill-length (node_name_t ns s (k.nodes + 2)) (length p.nodes) 0 nodes₀ in
    let j : Judgings ms ns s defs regcounts 0 ms =
    subst (λ m. Judgings ms ns s m regcounts 0 ms) (sym em)
    (subst (λ r. Judgings ms ns s (fill_t (nth (machine_end ns s) (k.machines + 2)) n 0 defs₀) r 0 ms) (sym er)
    (judgings-filled ns s (k.machines + 2) ms n ms k.activations gs defs₀ regcounts₀ rm lm lr hints)) in
    let nd : NodesAre ns nodes (length p.nodes) (node_names p.nodes) =
    subst (λ t. NodesAre ns t (length p.nodes) (node_names p.nodes)) (sym en)
    (nodes-filled ns s (k.nodes + 2) (length p.nodes) p.nodes k.machines nodes₀ rn (omega arith)) in
    let t = settled ms ns s defs regcounts 0 ms (node_names p.nodes) (nodes_of receivers₀ nodes (length p.nodes)) j (section-read s ns k.enums h.names).fresh nd (omega arith) (omega arith) (omega arith) in
    record {
      judgings = j;
      settled = subst (λ (y : Nodes). Settled ms ns s defs y.receivers regcounts 0 ms (verdicts ms ms (node_names p.nodes))) (sym ez) t;
    }

-- what follows of the refusals, of the report, and of the shares where nothing is refused
module _ (s : List ℕ) (p : Package) (defs receivers regcounts : List ℕ) (h : SettledPack s p defs receivers regcounts) where
  pub pack-refused : total_t (refused_t receivers) (length p.machines) 0 ≡ length (made_machines p).refusals
  unfolding verdicts_of
  pack-refused = refused-counted p.machines p.names s defs receivers regcounts 0 p.machines (verdicts_of p) h.settled ∙ ap length (sym (package-refuses p))

  pub pack-entries : (es : ℕ → List ℕ) → ((i : ℕ) → i < length p.machines → get_or receivers i 0 ≡ absent → es i ≡ entry_at (verdicts_of p) i)
      → bytes_t (of_refused receivers es) (length p.machines) 0 ≡ entries (made_machines p).refusals
  unfolding verdicts_of
  pack-entries es e = entries-settled p.machines p.names s defs receivers regcounts es p.machines (verdicts_of p) h.settled e ∙ ap entries (sym (package-refuses p))

  pub pack-lowered : (made_machines p).refusals ≡ [] → Lowered p.machines p.names s defs receivers regcounts 0 (shares_of p)
  unfolding verdicts_of shares_of
  pack-lowered e = settled-lowered p.machines p.names s defs receivers regcounts 0 p.machines (node_names p.nodes) h.settled (sym (package-refuses p) ∙ e)

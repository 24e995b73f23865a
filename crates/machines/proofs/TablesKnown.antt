-- The tables of a call on a pack that was opened: what they hold is what the definitions say of the pack's machines.
use Prim.Native.Nat.{ℕ, suc, ◌+◌, ◌<◌, ◌≤◌}
use native.Mathlib.Omega.{arith}
use mathlib.Core.List.{List}
use mathlib.Core.Path.{◌≡◌, refl, sym, ap, subst, ◌∙◌}
use lib.ListN.{length}
use Rattle.wire.specs.Answer.{value}
use Rattle.wire.specs.Lists.{Bytes}
use Rattle.pack_rules.specs.Syntax.{MachineDef, Package}
use Rattle.machine_rules.specs.Resolved.{ResolvedMachine}
use Rattle.pack_rules.specs.Read.{machine_in, node_in}
use Rattle.pack.specs.Verdict.{SectionsAt}
use Rattle.pack.specs.declared.record.Pack.{Pack}
use Rattle.wire.specs.declared.answer.Number.{Number}
use Rattle.std.specs.Result.{result_unwrap_or}
use Rattle.machines.specs.CheckedReads.{num, number_in}
use Rattle.machines.specs.Tables.{names_placed}
use Rattle.machine_rules.specs.Resolve.{as_machine}
use Rattle.machine_rules.specs.Lower.{size_s}
use Rattle.machine_rules.specs.Machines as definition
use Rattle.machine_rules.specs.Machines.{accept, judge, refuse}
use Rattle.machines.specs.VerdictAt.{Judged, judge_at}
use Rattle.machines.specs.VerdictMeaning.{JudgedAs}
use Rattle.machines.specs.AddedAt.{small_of}
use Rattle.machines.specs.EmitMachineAt.{Long}
use Rattle.machines.specs.OwnersAt.{HasRegions, fill_t, machine_end, node_name_t, nodes_of, nth, settle_t}
use Rattle.machines.specs.Verdicts.{SettledPack, VerdictAs, VerdictOf}
use Rattle.machines.specs.CallTables.{Empty, Filled, machine_count, node_count}
use Rattle.machines.proofs.CheckedReadLaws.{number-num}
use Rattle.machines.proofs.NamesPlaced.{names-few, section-read}
use Rattle.machines.proofs.Resolved.{Ready, ready}
use Rattle.machines.proofs.AddedLaws.{small_is}
use Rattle.machines.proofs.MachineJudged.{accepted-count, judged, refused-count}
use Rattle.machines.proofs.TablesFilled.{machine-drawn}
use Rattle.machines.proofs.PackCounts.{counted-many, pack-counts}
use Rattle.machines.proofs.PackSettled.{pack-settled}

-- what judging came to says how many regions there are, and nothing else does
told_of : (s offsets qualified : List ℕ) (m : ℕ) (ms : List MachineDef) (d : MachineDef) (v : definition.MachineVerdict) (j : Judged) → JudgedAs s offsets qualified m ms d v j → VerdictOf ms d v (result_unwrap_or j 0)
unfolding JudgedAs VerdictOf
told_of s offsets qualified m ms d (refuse r) j h = refused-count s offsets qualified m r j h
told_of s offsets qualified m ms d (accept x) j h = accepted-count s offsets qualified m ms d x j h

one-count : (ms : List MachineDef) (d : MachineDef) (v : definition.MachineVerdict) (g h : ℕ) → VerdictOf ms d v g → VerdictOf ms d v h → g ≡ h
unfolding VerdictOf as_machine
one-count ms d (refuse r) g h a b = a ∙ sym b
one-count ms d (accept x) g h a b =
    let e : size_s a.states ≡ size_s b.states = ap (λ (y : ResolvedMachine). size_s y.states) (sym a.is ∙ b.is) in
    a.regions ∙ ap suc e ∙ sym b.regions

module _ (s : List ℕ) (k : Pack) (p : Package) (h : SectionsAt s k p) (bytes : Bytes s) (short : length s ≤ 65536) where
  -- the counts of the sections
  machines-counted : number_in s k.machines ≡ num (length p.machines) (k.machines + 2)
  machines-counted = number-num s k.machines _ _ (counted-many (machine_in p.names s) s k.machines p.machines k.activations h.machines).0

  nodes-counted : number_in s k.nodes ≡ num (length p.nodes) (k.nodes + 2)
  nodes-counted = number-num s k.nodes _ _ (counted-many (node_in p.names s) s k.nodes p.nodes k.machines h.nodes).0

  pub machines-here : machine_count s k ≡ length p.machines
  unfolding machine_count
  machines-here =
      ap (λ (y : Number). small_of y.value) machines-counted ∙ sym (small_is (length p.machines) (let c = pack-counts s k p h in omega arith))

  nodes-here : node_count s k ≡ length p.nodes
  unfolding node_count
  nodes-here =
      ap (λ (y : Number). small_of y.value) nodes-counted ∙ sym (small_is (length p.nodes) (let c = pack-counts s k p h in omega arith))

  module _ (offsets₀ to₀ nodes₀ defs₀ receivers₀ regcounts₀ offsets to nodes defs receivers regcounts : List ℕ) (e : Empty offsets₀ to₀ nodes₀ defs₀ receivers₀ regcounts₀)
      (f : Filled p.names s k offsets₀ to₀ nodes₀ defs₀ receivers₀ regcounts₀ offsets to nodes defs receivers regcounts) where
    pub tables-ready : Ready s p.names p.machines offsets to
    tables-ready =
        let few = names-few s p.names (section-read s p.names k.enums h.names) in
        let ls = e.for_names in
        let lt = e.for_machines in
        subst (λ (x : List ℕ). Ready s p.names p.machines x to) (sym f.names)
        (subst (λ (x : List ℕ). Ready s p.names p.machines (names_placed s k.names 2 0 offsets₀) x) (sym f.machines)
        (ready s k p offsets₀ to₀ h short (omega arith) (omega arith) e.no_machine))

    module _ (t reg qualified : List ℕ) (long : Long t reg qualified) where
      -- the regions of each machine, as tables t, reg and lets give them
      abbrev regions_at : ℕ → ℕ
      regions_at i = result_unwrap_or (judge_at p.names s offsets to (nth (machine_end p.names s) (k.machines + 2) i) t reg qualified) 0

      judged-told : (at : ℕ) (d : MachineDef) (q : ℕ) → machine_in p.names s at ≡ value d q → (t' reg' qualified' : List ℕ) → Long t' reg' qualified' → VerdictAs p.machines d (result_unwrap_or (judge_at p.names s offsets to at t' reg' qualified') 0)
      unfolding VerdictAs
      judged-told at d q r t' reg' qualified' l = told_of s offsets _ _ p.machines d (judge p.machines d) _ (judged s p.names p.machines offsets to tables-ready bytes at d q r t' reg' qualified' l)

      has-regions : (i : ℕ) → i < length p.machines → HasRegions p.names s offsets to (nth (machine_end p.names s) (k.machines + 2) i) (regions_at i)
      unfolding HasRegions VerdictAs
      has-regions i l t' reg' qualified' g =
          let m = (counted-many (machine_in p.names s) s k.machines p.machines k.activations h.machines).1 in
          let w = machine-drawn p.names s (k.machines + 2) (length p.machines) p.machines k.activations m i l in
          one-count p.machines w.drawing (judge p.machines w.drawing) _ _
          (judged-told _ w.drawing w.end w.read t' reg' qualified' g) (judged-told _ w.drawing w.end w.read t reg qualified long)

      -- THE LAW: the machines are settled as the definition has it
      pub tables-settled : SettledPack s p defs receivers regcounts
      tables-settled =
          let c = pack-counts s k p h in
          let la = e.for_places in let lb = e.for_regions in let lc = e.for_goals in let ld = e.for_nodes in
          let n = machines-here in
          let from : (number_in s k.machines).next ≡ k.machines + 2 = ap (λ (y : Number). y.next) machines-counted in
          let from' : (number_in s k.nodes).next ≡ k.nodes + 2 = ap (λ (y : Number). y.next) nodes-counted in
          let r : regcounts ≡ fill_t regions_at (machine_count s k) 0 regcounts₀ =
          f.regions regions_at (λ i l. subst (λ (y : ℕ). HasRegions p.names s offsets to (nth (machine_end p.names s) y i) (regions_at i)) (sym from) (has-regions i (subst (λ (y : ℕ). i < y) n l))) in
          pack-settled s k p h short regions_at defs₀ regcounts₀ receivers₀ nodes₀ defs regcounts (fill_t (node_name_t p.names s (k.nodes + 2)) (length p.nodes) 0 nodes₀) (nodes_of receivers nodes f.count)
          (omega arith) (omega arith) (omega arith) (omega arith)
          (f.drawn ∙ λ j. fill_t (nth (machine_end p.names s) (from j)) (n j) 0 defs₀)
          (r ∙ λ j. fill_t regions_at (n j) 0 regcounts₀)
          refl
          (f.settled ∙ λ j. settle_t s defs regcounts (n j) 0 (nodes_of receivers₀ (fill_t (node_name_t p.names s (from' j)) (nodes-here j) 0 nodes₀) (nodes-here j)))
          (λ i l d q g. judged-told _ d q g t reg qualified long)

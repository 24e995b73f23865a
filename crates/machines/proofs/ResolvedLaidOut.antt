-- A machine that the walk went through is laid out: what laying out asks of its tree follows from the walk.
use Prim.Native.Nat.{ℕ, ◌+◌, ◌<◌, ◌≤◌}
use native.Mathlib.Omega.{arith}
use mathlib.Core.List.{List, []}
use mathlib.Core.Bool.{true}
use mathlib.Core.Path.{◌≡◌, sym, ap, ◌∙◌}
use lib.ListN.{length, get_or}
use borrow.Author.Tests.{le-leb}
use Rattle.wire.specs.Lists.{Bytes}
use Rattle.pack_rules.specs.Names.{Name}
use Rattle.pack_rules.specs.Syntax.{MachineDef}
use Rattle.machine_rules.specs.Resolved.{ResolvedStates}
use Rattle.pack_rules.specs.Forms.{name_at}
use Rattle.machines.specs.declared.resolve.Resolved.TheVariants as wk
use Rattle.machines.specs.Counts.{count_s}
use Rattle.machines.specs.LayoutAt.{layout_machine}
use Rattle.machine_rules.specs.Resolve.{resolved_states, short_s, went}
use Rattle.machines.specs.ResolvedIn.{StandsS}
use Rattle.machines.specs.ResolveAt.{machine_w}
use Rattle.machines.proofs.Reading.{MachineRead}
use Rattle.machines.proofs.Resolved.{Ready, machine-walked, same-goes, walked-stands}
use Rattle.machines.proofs.Counted.{resolved-count}
use Rattle.machines.proofs.Longest.{machine-within}
use Rattle.machines.proofs.MachineLaidOut.{LaidMachine, laid-machine}

-- the tree of n states that a walk stands for
pub record Tree (s : List ℕ) (ns : List Name) (ms : List MachineDef) (to : List ℕ) (d : MachineDef) (k b n q : ℕ) : Type 0 where
  pub states : ResolvedStates
  pub resolves : resolved_states ms d ≡ went states n
  pub stands : StandsS ns s (λ j. get_or to j 0) [] 7 k b states q
  pub count : count_s states ≡ n
  pub few : n ≤ 512
  pub short : short_s 0 states ≡ true

module _ (s : List ℕ) (ns : List Name) (ms : List MachineDef) (offsets to : List ℕ) (r : Ready s ns ms offsets to) (bytes : Bytes s)
    (at : ℕ) (d : MachineDef) (q : ℕ) (m : MachineRead ns s at d q) (x : ℕ) (small : x < length ns) (named : name_at ns x ≡ d.name)
    (z n a : ℕ) (went_on : machine_w ns s offsets to x m.to-initial ≡ wk.Went z n a) where
  pub walked-tree : Tree s ns ms to d m.k m.b n q
  walked-tree =
      let y = walked-stands s ns ms offsets to r at d q m x small named z n a went_on in
      let g = same-goes ns d.name q (resolved_states ms d) _ (machine-walked s ns ms offsets to r at d q m x small named) z n a went_on in
      let i : went g.tree n ≡ went y.0 n = sym g.resolves ∙ y.1 in
      let j : g.tree ≡ y.0 = cc in
      let c = resolved-count ms d y.0 n y.1 in
      let l = machine-within ns s offsets bytes to x m.to-initial z n a went_on in
      record {
        states = y.0;
        resolves = y.1;
        stands = y.2;
        count = c.0;
        few = c.1;
        short = ap (short_s 0) (sym j) ∙ g.short 0 (omega arith) ∙ le-leb (0 + a) 255 (omega arith);
      }

  -- THE THEOREM: what is laid out is the tree that resolving gives
  pub walked-laid : (t reg qualified : List ℕ) → 7698 ≤ length t → 514 ≤ length reg → 131072 ≤ length qualified → length t ≤ 4294967296 → length reg ≤ 4294967296 → length qualified ≤ 4294967296
      → LaidMachine ns s (layout_machine ns s offsets to m.to-initial t reg qualified) d.initial walked-tree.states
  walked-laid t reg qualified lt lr ll st sr sl =
      let c = walked-tree.count in
      let f = walked-tree.few in
      laid-machine s ns ms offsets to r m.to-initial d.initial m.k m.b m.head walked-tree.states q walked-tree.stands (omega arith) walked-tree.short t reg qualified lt lr ll st sr sl

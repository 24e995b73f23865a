-- Internal: nothing here has to be believed; laws tie it to what docs/TRUSTED.md lists.
-- What becomes of each machine of a package, and what the tables by which the code settles them say of it.
use Rattle.std.specs.Prelude.{ℕ, zero, suc, ◌<◌, List, [], ◌∷◌, cond, ◌≡◌, length, get_or}
use Rattle.std.proofs.Math.Option.{Option, none, some}
use Rattle.wire.specs.Answer.{value}
use Rattle.wire.specs.Bytes.{word_range}
use Rattle.pack_rules.specs.Limits.{absent}
use Rattle.pack_rules.specs.Names.{Name, member}
use Rattle.pack_rules.specs.Syntax.{MachineDef, Package}
use Rattle.machine_rules.specs.Resolved.{ResolvedMachine, ResolvedStates}
use Rattle.pack_rules.specs.Forms.{name_at}
use Rattle.pack_rules.specs.Read.{machine_in}
use Rattle.pack_rules.specs.Report.{Refusal}
use Rattle.pack_rules.specs.Write.{enc}
use Rattle.machine_rules.specs.Refusals.{unknown_owner}
use Rattle.machine_rules.specs.Resolve.{as_machine, resolved_states, went}
use Rattle.machine_rules.specs.Lower.{size_s}
use Rattle.machine_rules.specs.Checks.{refusal_of}
use Rattle.machine_rules.specs.Machines.{MachineVerdict, accept, judge, refuse}
use Rattle.machines.specs.Sections.{Share, alone, into, node_names, share_of}
use Rattle.machines.specs.RefusalsIn.{names_then}
use Rattle.machines.specs.TableMeaning.{LoweredAt}

-- refused, or a share of the lowered package
pub data Verdict : Type 0 where
  refused_for : Refusal → Verdict
  goes_as : Share → Verdict

-- of one machine, where nodes of these names have been made
unfoldable pub verdict_in : List Name → Option Name → MachineVerdict → Verdict
verdict_in ns o (refuse r) = refused_for r
verdict_in ns none (accept m) = goes_as (share_of ns (alone m))
verdict_in ns (some o) (accept m) = cond (member o ns) (goes_as (share_of ns (into o m))) (refused_for (unknown_owner m.name o))

-- of all machines, from the first
unfoldable pub verdicts : List MachineDef → List MachineDef → List Name → List Verdict
verdicts all [] ns = []
verdicts all (d ∷ ds) ns = verdict_in ns d.owner (judge all d) ∷ verdicts all ds (names_then ns d.owner (judge all d))

-- the refusals among verdicts
unfoldable pub refused_only : List Verdict → List Refusal
refused_only [] = []
refused_only (refused_for r ∷ vs) = r ∷ refused_only vs
refused_only (goes_as x ∷ vs) = refused_only vs

-- the verdicts where all go
unfoldable pub all_go : List Share → List Verdict
all_go [] = []
all_go (x ∷ xs) = goes_as x ∷ all_go xs

-- the entry of a verdict in the report, and that of the verdict of index i
unfoldable pub entry_of : Verdict → List ℕ
entry_of (refused_for r) = r.kind ∷ enc r.names
entry_of (goes_as x) = []

unfoldable pub entry_at : List Verdict → ℕ → List ℕ
entry_at [] i = []
entry_at (v ∷ vs) zero = entry_of v
entry_at (v ∷ vs) (suc i) = entry_at vs i

-- the drawing d is accepted as x, and has g regions
pub record AcceptedAs (ms : List MachineDef) (d : MachineDef) (x : ResolvedMachine) (g : ℕ) : Type 0 where
  pub states : ResolvedStates
  pub count : ℕ
  pub is : x ≡ as_machine d states
  pub resolves : resolved_states ms d ≡ went states count
  pub accepted : refusal_of x ≡ none
  pub regions : g ≡ suc (size_s states)
  pub few : g < word_range

-- what the table of regions tells of a drawing that was judged: 0 where it is refused
unfoldable pub VerdictOf : List MachineDef → MachineDef → MachineVerdict → ℕ → Type 0
VerdictOf ms d (refuse r) g = g ≡ 0
VerdictOf ms d (accept x) g = AcceptedAs ms d x g

-- the same, where it is judged among the machines ms
unfoldable pub VerdictAs : List MachineDef → MachineDef → ℕ → Type 0
VerdictAs ms d g = VerdictOf ms d (judge ms d) g

-- the machine of index i is drawn and judged where and as the tables say
pub record JudgedAt (ms : List MachineDef) (ns : List Name) (s defs regcounts : List ℕ) (i : ℕ) (d : MachineDef) : Type 0 where
  pub end : ℕ
  pub read : machine_in ns s (get_or defs i 0) ≡ value d end
  pub told : VerdictAs ms d (get_or regcounts i 0)

-- the machines from index i on
unfoldable pub Judgings : List MachineDef → List Name → List ℕ → List ℕ → List ℕ → ℕ → List MachineDef → Type 0
Judgings ms ns s defs regcounts i [] = Unit {0}
Judgings ms ns s defs regcounts i (d ∷ ds) = JudgedAt ms ns s defs regcounts i d × Judgings ms ns s defs regcounts (suc i) ds

-- nodes of these names have been made: the indexes of their names stand in the table
pub record NodesAre (ns : List Name) (nodes : List ℕ) (count : ℕ) (names : List Name) : Type 0 where
  pub number : length names ≡ count
  pub small : (j : ℕ) → j < count → get_or nodes j 0 < length ns
  pub named : (j : ℕ) → j < count → name_at ns (get_or nodes j 0) ≡ get_or names j []

-- why a machine is refused: it was judged so, or it has g regions and its owner is not there
pub data Why (ms : List MachineDef) (d : MachineDef) (g : ℕ) (r : Refusal) : Type 0 where
  judged : g ≡ 0 → judge ms d ≡ refuse r → Why ms d g r
  unowned : (g ≡ 0 → ⊥) → (o : Name) → d.owner ≡ some o → r ≡ unknown_owner d.name o → Why ms d g r

-- the tables settle the machine of index i by its verdict
unfoldable pub SettledAs : List MachineDef → List Name → List ℕ → List ℕ → List ℕ → List ℕ → ℕ → MachineDef → Verdict → Type 0
SettledAs ms ns s defs receivers regcounts i d (refused_for r) = (get_or receivers i 0 ≡ absent) × Why ms d (get_or regcounts i 0) r
SettledAs ms ns s defs receivers regcounts i d (goes_as x) = LoweredAt ms ns s defs receivers regcounts i x × (get_or receivers i 0 ≡ absent → ⊥)

-- the machines from index i on
unfoldable pub Settled : List MachineDef → List Name → List ℕ → List ℕ → List ℕ → List ℕ → ℕ → List MachineDef → List Verdict → Type 0
Settled ms ns s defs receivers regcounts i [] [] = Unit {0}
Settled ms ns s defs receivers regcounts i [] (v ∷ vs) = ⊥
Settled ms ns s defs receivers regcounts i (d ∷ ds) [] = ⊥
Settled ms ns s defs receivers regcounts i (d ∷ ds) (v ∷ vs) = SettledAs ms ns s defs receivers regcounts i d v × Settled ms ns s defs receivers regcounts (suc i) ds vs

-- the verdicts of a package's machines
unfoldable pub verdicts_of : Package → List Verdict
verdicts_of p = verdicts p.machines p.machines (node_names p.nodes)

-- the tables settle all machines of a package
pub record SettledPack (s : List ℕ) (p : Package) (defs receivers regcounts : List ℕ) : Type 0 where
  pub judgings : Judgings p.machines p.names s defs regcounts 0 p.machines
  pub settled : Settled p.machines p.names s defs receivers regcounts 0 p.machines (verdicts_of p)

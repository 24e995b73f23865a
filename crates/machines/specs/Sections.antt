-- Internal: nothing here has to be believed; laws tie it to what docs/TRUSTED.md lists.
-- The lowered package in the order in which it is written: each section a list of its own, each node with all that goes to it.
use mathlib.Core.List.{List, [], ◌∷◌, ◌++◌, flat_map}
use Rattle.std.specs.Prelude.{cond, ◌≡◌, ℕ, zero, suc, ◌+◌, ◌*◌, length, eqb}
use Rattle.std.proofs.Math.Option.{Option, none, some}
use Rattle.wire.specs.Bytes.{two}
use Rattle.pack_rules.specs.Names.{Name}
use Rattle.pack_rules.specs.Legal.{Known, place}
use Rattle.pack_rules.specs.Syntax.{Enum, MachineDef, Node, Origin, Package, k_operator, of_machine}
use Rattle.machine_rules.specs.Resolved.{ResolvedMachine}
use Rattle.pack_rules.specs.Write.{Item, activation_items, each, enum_items, equation_items, kind_byte, list, nm, origin_items, port_items, raw}
use Rattle.machine_rules.specs.Lower.{enums_of, equations_of, locals_of, size_s}
use Rattle.machine_rules.specs.Machines.{MachineVerdict, accept, extend, extend_in, judge, node_from, node_named, origin_of, refuse}

-- what becomes of a machine: a node of its own, or a part of the owner of that name
pub data Fate : Type 0 where
  alone : ResolvedMachine → Fate
  into : Name → ResolvedMachine → Fate

-- the fate of a machine, by its owner
unfoldable pub fate_of : Option Name → ResolvedMachine → Fate
fate_of none m = alone m
fate_of (some o) m = into o m

-- the machine of a fate
unfoldable pub fate_machine : Fate → ResolvedMachine
fate_machine (alone m) = m
fate_machine (into o m) = m

-- the fates of the accepted machines, in order
unfoldable pub fate_then : Option Name → MachineVerdict → List Fate → List Fate
fate_then o (refuse r) fs = fs
fate_then o (accept m) fs = fate_of o m ∷ fs

unfoldable pub fates : List MachineDef → List MachineDef → List Fate
fates all [] = []
fates all (d ∷ ds) = fate_then d.owner (judge all d) (fates all ds)

-- the enums of the fates
unfoldable pub enums_made : List Fate → List Enum
enums_made fs = flat_map (λ f. enums_of (fate_machine f)) fs

-- the nodes after a fate, after all
unfoldable pub nodes_with : Fate → List Node → List Node
nodes_with (alone m) ns = ns ++ (node_from m ∷ [])
nodes_with (into o m) ns = extend_in o (locals_of m) (equations_of m) ns

unfoldable pub nodes_after : List Fate → List Node → List Node
nodes_after [] ns = ns
nodes_after (f ∷ fs) ns = nodes_after fs (nodes_with f ns)

-- the origin of a fate among the nodes before it, the origins of all
unfoldable pub origin_found : ResolvedMachine → Option Node → List Origin
origin_found m none = []
origin_found m (some n) = origin_of of_machine m.name [] (equations_of m) n ∷ []

unfoldable pub origin_with : Fate → List Node → List Origin
origin_with (alone m) ns = []
origin_with (into o m) ns = origin_found m (node_named o ns)

unfoldable pub origins_after : List Fate → List Node → List Origin
origins_after [] ns = []
origins_after (f ∷ fs) ns = origin_with f ns ++ origins_after fs (nodes_with f ns)

-- the names of nodes
unfoldable pub node_names : List Node → List Name
node_names [] = []
node_names (n ∷ ns) = n.name ∷ node_names ns

-- a fate and the index of the node that its locals and equations go to
pub record Share : Type 0 where
  pub at : ℕ
  pub fate : Fate

-- the machine of a share
unfoldable pub share_machine : Share → ResolvedMachine
share_machine s = fate_machine s.fate

-- the index of a fate among nodes of these names: a new one, or the owner's, which is the first of its name
unfoldable pub index_of : List Name → Fate → ℕ
index_of ns (alone m) = length ns
index_of ns (into o m) = place ns o

-- the share of a fate among nodes of these names
unfoldable pub share_of : List Name → Fate → Share
share_of ns f = record { at = index_of ns f; fate = f }

-- the names after a fate
unfoldable pub names_with : List Name → Fate → List Name
names_with ns (alone m) = ns ++ (m.name ∷ [])
names_with ns (into o m) = ns

-- the shares of fates in order, each among the names after those before it
unfoldable pub shares : List Name → List Fate → List Share
shares ns [] = []
shares ns (f ∷ fs) = share_of ns f ∷ shares (names_with ns f) fs

-- the node that a machine without owner begins: it has neither locals nor equations yet, its own share brings them
unfoldable pub head_of : ResolvedMachine → Node
head_of m = record { name = m.name; kind = k_operator; inputs = m.inputs; outputs = m.outputs; locals = []; equations = [] }

-- the node that a fate begins, none where the machine has an owner
unfoldable pub head_in : Fate → List Node
head_in (alone m) = head_of m ∷ []
head_in (into o m) = []

-- the nodes that fates begin, in order
unfoldable pub heads : List Fate → List Node
heads fs = flat_map head_in fs

-- what the shares bring to the node of index t: a loop over all that compares indexes
unfoldable pub adds : {A : Type 0} → (ResolvedMachine → List A) → ℕ → Share → List A
adds f t s = cond (eqb s.at t) (f (share_machine s)) []

unfoldable pub added : {A : Type 0} → (ResolvedMachine → List A) → ℕ → List Share → List A
added f t ss = flat_map (adds f t) ss

-- a node of index t with what the shares bring to it; the nodes from index t on
unfoldable pub holding : ℕ → List Share → Node → Node
holding t ss n = extend (added locals_of t ss) (added equations_of t ss) n

unfoldable pub filled : ℕ → List Share → List Node → List Node
filled t ss [] = []
filled t ss (n ∷ ns) = holding t ss n ∷ filled (suc t) ss ns

-- the owner of a fate is among these names; of all, each among the names made so far
unfoldable pub Owned : List Name → Fate → Type 0
Owned ns (alone m) = Unit {0}
Owned ns (into o m) = Known ns o

unfoldable pub OwnedAll : List Name → List Fate → Type 0
OwnedAll ns [] = Unit {0}
OwnedAll ns (f ∷ fs) = Owned ns f × OwnedAll (names_with ns f) fs

-- a machine that is not refused
abbrev pub Accepted : List MachineDef → MachineDef → Type 0
Accepted all d = (m : ResolvedMachine) × (judge all d ≡ accept m)

-- a sum over a list
unfoldable pub total : {A : Type 0} → (A → ℕ) → List A → ℕ
total f [] = 0
total f (x ∷ xs) = f x + total f xs

-- how many enums, locals and equations a machine makes: by its regions, the top one and those below
unfoldable pub enum_count : ResolvedMachine → ℕ
enum_count m = suc (size_s m.states)

unfoldable pub local_count : ResolvedMachine → ℕ
local_count m = length m.locals + (2 + 3 * size_s m.states)

unfoldable pub equation_count : ResolvedMachine → ℕ
equation_count m = 2 + (3 * size_s m.states + length m.outputs)

-- how many the shares bring to the node of index t
unfoldable pub adds_count : (ResolvedMachine → ℕ) → ℕ → Share → ℕ
adds_count f t s = cond (eqb s.at t) (f (share_machine s)) 0

unfoldable pub added_count : (ResolvedMachine → ℕ) → ℕ → List Share → ℕ
added_count f t ss = total (adds_count f t) ss

-- how many equations an old node has, none where the index is a new node's
unfoldable pub old_count : List Node → ℕ → ℕ
old_count [] t = 0
old_count (n ∷ ns) zero = length n.equations
old_count (n ∷ ns) (suc t) = old_count ns t

-- how many equations the node of a share has before it: its own, and those of the shares that are done
unfoldable pub equations_before : List Node → List Share → Share → ℕ
equations_before olds done s = old_count olds s.at + added_count equation_count s.at done

-- the origin of a fate before which its node has n equations
unfoldable pub origin_for : Fate → ℕ → List Origin
origin_for (alone m) n = []
origin_for (into o m) n = record { node = o; kind = of_machine; name = m.name; first = n; after = n + equation_count m; branches = [] } ∷ []

-- the origins of shares after those that are done
unfoldable pub origins_in : List Node → List Share → List Share → List Origin
origins_in olds done [] = []
origins_in olds done (s ∷ ss) =
    origin_for s.fate (equations_before olds done s) ++ origins_in olds (done ++ (s ∷ [])) ss

-- the fates of a package's machines, and their shares
abbrev pub fates_of : Package → List Fate
fates_of p = fates p.machines p.machines

unfoldable pub shares_of : Package → List Share
shares_of p = shares (node_names p.nodes) (fates_of p)

-- the nodes before anything is brought: the old ones, then the new ones
abbrev pub first_forms : Package → List Node
first_forms p = p.nodes ++ heads (fates_of p)

-- how many nodes a fate begins, and how many origins it has
unfoldable pub head_count : Fate → ℕ
head_count (alone m) = 1
head_count (into o m) = 0

unfoldable pub origin_count : Fate → ℕ
origin_count (alone m) = 0
origin_count (into o m) = 1

-- a list that goes on: the count of all, those that there were, then the items of n more
unfoldable pub continued : {A : Type 0} → (A → List Item) → List A → ℕ → List Item → List Item
continued g xs n more = raw (two (length xs + n)) ∷ (each g xs ++ more)

-- the items of what a share brings to the node of index t
unfoldable pub adds_items : {A : Type 0} → (A → List Item) → (ResolvedMachine → List A) → ℕ → Share → List Item
adds_items g f t s = cond (eqb s.at t) (each g (f (share_machine s))) []

-- a node of index t: locals and equations go on with a loop over all shares
unfoldable pub holding_items : List Share → ℕ → Node → List Item
holding_items ss t n =
    nm n.name ∷ raw (kind_byte n.kind ∷ [])
    ∷ (list port_items n.inputs
    ++ (list port_items n.outputs
    ++ (continued port_items n.locals (added_count local_count t ss) (each (adds_items port_items locals_of t) ss)
    ++ continued equation_items n.equations (added_count equation_count t ss) (each (adds_items equation_items equations_of t) ss))))

-- the nodes from index t on
unfoldable pub filled_items : List Share → ℕ → List Node → List Item
filled_items ss t [] = []
filled_items ss t (n ∷ ns) = holding_items ss t n ++ filled_items ss (suc t) ns

-- the node that a fate of index t begins
unfoldable pub head_items : List Share → ℕ → Fate → List Item
head_items ss t (alone m) = holding_items ss t (head_of m)
head_items ss t (into o m) = []

-- the node that a share begins
unfoldable pub begun_items : List Share → Share → List Item
begun_items ss s = head_items ss s.at s.fate

-- the enums of a share
unfoldable pub made_enum_items : Share → List Item
made_enum_items s = each enum_items (enums_of (share_machine s))

-- the origins of shares after those that are done
unfoldable pub origins_items : List Node → List Share → List Share → List Item
origins_items olds done [] = []
origins_items olds done (s ∷ ss) =
    each origin_items (origin_for s.fate (equations_before olds done s)) ++ origins_items olds (done ++ (s ∷ [])) ss

-- what follows the name section of the lowered package, in order
unfoldable pub section_items : Package → List Share → List Item
section_items p ss =
    continued enum_items p.enums (total (λ s. enum_count (share_machine s)) ss) (each made_enum_items ss)
    ++ ((raw (two (length p.nodes + total (λ s. head_count s.fate) ss)) ∷ (filled_items ss 0 p.nodes ++ each (begun_items ss) ss))
    ++ ((raw (two 0) ∷ [])
    ++ (list activation_items p.activations
    ++ continued origin_items p.origins (total (λ s. origin_count s.fate) ss) (origins_items p.nodes [] ss))))

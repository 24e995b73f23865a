-- A pack's six sections, read in order.
use Rattle.std.specs.Prelude.{ℕ, ◌-◌, zero, suc, List, [], ◌∷◌, ◌++◌, Bool, true, false, cond, not, ◌||◌, ◌&&◌, length, get_or, ltb, eqb}
use Rattle.std.proofs.Math.Option.{Option, none, some}
use Rattle.pack_rules.specs.Limits.{absent, max_bytes, max_level}
use Rattle.pack_rules.specs.Names.{Name, member}
use Rattle.pack_rules.specs.Syntax.{Activation, Branch, Enum, Equation, Expr, MachineDef, Node, NodeKind, Origin, OriginKind, Package, Port, RegionDefs, StateDefs, Transition, Ty, def_cons, def_nil, k_function, k_imported, k_operator, of_activation, of_machine, reg_cons, reg_nil}
use Rattle.wire.specs.Answer.{Answer, below, bind, byte, counted, deep, early, guard, illegal, index, many, map_a, u16, value}
use Rattle.pack_rules.specs.Forms.{expr_at, exprs_of, first_type, flag_of, name_at, nth, type_at}

-- a letter, a digit or an underscore
unfoldable pub name_byte : ℕ → Bool
name_byte b = cond (ltb b 48) false (cond (ltb b 58) true (cond (ltb b 65) false (cond (ltb b 91) true (cond (eqb b 95) true (cond (ltb b 97) false (ltb b 123))))))

-- whether all bytes are such
unfoldable pub name_bytes : List ℕ → Bool
name_bytes [] = true
name_bytes (b ∷ bs) = name_byte b && name_bytes bs

-- a bad character is illegal at it
unfoldable pub char : List ℕ → ℕ → Answer ℕ
char s at = guard name_byte at (byte s at)

-- a length byte; 0 is illegal at it
unfoldable pub size : List ℕ → ℕ → Answer ℕ
size s at = guard (λ n. ltb 0 n) at (byte s at)

-- a length byte, then as many characters
unfoldable pub name : List ℕ → ℕ → Answer Name
name s at = bind (size s at) λ n p. many (char s) n p

-- n names after those of t
unfoldable pub names_after : List ℕ → List Name → ℕ → ℕ → Answer (List Name)
names_after s t zero at = value t at
names_after s t (suc n) at = bind (guard (λ x. not (member x t)) at (name s at)) λ x p. names_after s (t ++ (x ∷ [])) n p

-- the name section: a count, then names
unfoldable pub name_section : List ℕ → ℕ → Answer (List Name)
name_section s at = bind (u16 s at) λ n p. names_after s [] n p

-- a name by its index, or none, which is written `absent`
unfoldable pub optional : List Name → ℕ → Option Name
optional ns i = cond (eqb i absent) none (some (name_at ns i))

-- what holds names holds indexes of the name section
module _ (ns : List Name) (s : List ℕ) where
  -- a name, by its index
  unfoldable pub name_in : ℕ → Answer Name
  name_in at = map_a (name_at ns) (index (length ns) s at)

  -- a name or none: a machine's owner, a state's refinement
  unfoldable pub optional_in : ℕ → Answer (Option Name)
  optional_in at = map_a (optional ns) (guard (λ i. ltb i (length ns) || eqb i absent) at (u16 s at))

  -- names after their count
  unfoldable pub names_in : ℕ → Answer (List Name)
  names_in at = counted name_in s at

  -- a type, with names for indexes
  unfoldable pub type_in : ℕ → Answer Ty
  type_in at = map_a (first_type ns) (type_at (length ns) s at)

  -- an expression, with names for indexes
  unfoldable pub expr_in : ℕ → Answer Expr
  expr_in at = map_a (λ ts. nth 0 (exprs_of ns ts)) (expr_at (length ns) s at)

  -- a port: name, then type
  unfoldable pub port_in : ℕ → Answer Port
  port_in at = bind (name_in at) λ n p. map_a (λ (t : Ty). record { name = n; ty = t }) (type_in p)

  -- ports after their count
  unfoldable pub ports_in : ℕ → Answer (List Port)
  ports_in at = counted port_in s at

  -- left names, then the right side
  unfoldable pub equation_in : ℕ → Answer Equation
  equation_in at = bind (names_in at) λ l p. map_a (λ (e : Expr). record { lhs = l; rhs = e }) (expr_in p)

  -- equations after their count
  unfoldable pub equations_in : ℕ → Answer (List Equation)
  equations_in at = counted equation_in s at

  -- enums: name, variants
  unfoldable pub enum_in : ℕ → Answer Enum
  enum_in at = bind (name_in at) λ n p. map_a (λ (vs : List Name). record { name = n; variants = vs }) (names_in p)

  -- kind byte: 0 function, 1 operator, 2 imported
  unfoldable pub kind_of : ℕ → NodeKind
  kind_of k = get_or (k_function ∷ k_operator ∷ k_imported ∷ []) k k_function

  -- a node: name, kind, ports, equations
  unfoldable pub node_in : ℕ → Answer Node
  node_in at =
      bind (name_in at) λ n p.
      bind (below 3 s p) λ k q.
      bind (ports_in q) λ ins r.
      bind (ports_in r) λ outs t.
      bind (ports_in t) λ locs u.
      map_a (λ (es : List Equation). record { name = n; kind = kind_of k; inputs = ins; outputs = outs; locals = locs; equations = es }) (equations_in u)

  -- a transition: guard, target
  unfoldable pub transition_in : ℕ → Answer Transition
  transition_in at = bind (expr_in at) λ g p. map_a (λ (t : Name). record { guard = g; target = t }) (name_in p)

-- one state and one region, before the lists are made
pub record OneState : Type 0 where
  pub name : Name
  pub equations : List Equation
  pub transitions : List Transition
  pub regions : RegionDefs
  pub refines : Option Name

-- a region: initial state, history, states
pub record OneRegion : Type 0 where
  pub initial : Name
  pub history : Bool
  pub states : StateDefs

-- states, from a list of them
unfoldable pub drawn_of : List OneState → StateDefs
drawn_of [] = def_nil
drawn_of (x ∷ xs) = def_cons x.name x.equations x.transitions x.regions x.refines (drawn_of xs)

-- regions, from a list of them
unfoldable pub regions_of : List OneRegion → RegionDefs
regions_of [] = reg_nil
regions_of (x ∷ xs) = reg_cons x.initial x.history x.states (regions_of xs)

-- a state, given how a region is read
unfoldable pub state_with : (ℕ → Answer OneRegion) → List Name → List ℕ → ℕ → Answer OneState
state_with region ns s at =
    bind (name_in ns s at) λ n p.
    bind (equations_in ns s p) λ es q.
    bind (counted (transition_in ns s) s q) λ ts r.
    bind (counted region s r) λ rs t.
    map_a (λ (f : Option Name). record { name = n; equations = es; transitions = ts; regions = regions_of rs; refines = f }) (optional_in ns s t)

-- a region, with so many levels left: with none it may not open
unfoldable pub region_at : ℕ → List Name → List ℕ → ℕ → Answer OneRegion
region_at zero ns s at = deep at
region_at (suc levels) ns s at =
    bind (name_in ns s at) λ i p.
    bind (below 2 s p) λ h q.
    map_a (λ (xs : List OneState). record { initial = i; history = flag_of h; states = drawn_of xs }) (counted (state_with (region_at levels ns s) ns s) s q)

module _ (ns : List Name) (s : List ℕ) where
  -- a top state: its regions open level 2, and the deepest level is the last that may open
  unfoldable pub state_at : ℕ → Answer OneState
  state_at = state_with (region_at (max_level - 1) ns s) ns s

  -- a machine: name, owner, ports, initial state, states
  unfoldable pub machine_in : ℕ → Answer MachineDef
  machine_in at =
      bind (name_in ns s at) λ n p.
      bind (optional_in ns s p) λ o q.
      bind (ports_in ns s q) λ ins r.
      bind (ports_in ns s r) λ outs t.
      bind (ports_in ns s t) λ locs u.
      bind (name_in ns s u) λ i v.
      map_a (λ (xs : List OneState). record { name = n; owner = o; inputs = ins; outputs = outs; locals = locs; initial = i; states = drawn_of xs }) (counted state_at s v)

  -- a branch: name, condition, equations
  unfoldable pub branch_in : ℕ → Answer Branch
  branch_in at =
      bind (name_in ns s at) λ n p.
      bind (expr_in ns s p) λ c q.
      map_a (λ (es : List Equation). record { name = n; condition = c; equations = es }) (equations_in ns s q)

  -- an activation: name, owner (`absent` is illegal here), ports, branches, the equations of else
  unfoldable pub activation_in : ℕ → Answer Activation
  activation_in at =
      bind (name_in ns s at) λ n p.
      bind (name_in ns s p) λ o q.
      bind (ports_in ns s q) λ outs r.
      bind (counted branch_in s r) λ bs t.
      map_a (λ (es : List Equation). record { name = n; owner = o; outputs = outs; branches = bs; else_equations = es }) (equations_in ns s t)

  -- kind byte: 0 machine, 1 activation
  unfoldable pub origin_kind : ℕ → OriginKind
  origin_kind k = cond (flag_of k) of_activation of_machine

  -- an origin: node, kind, name, two equation numbers, branch names
  unfoldable pub origin_in : ℕ → Answer Origin
  origin_in at =
      bind (name_in ns s at) λ n p.
      bind (below 2 s p) λ k q.
      bind (name_in ns s q) λ m r.
      bind (u16 s r) λ a t.
      bind (u16 s t) λ b u.
      map_a (λ (bs : List Name). record { node = n; kind = origin_kind k; name = m; first = a; after = b; branches = bs }) (names_in ns s u)

-- the sections in order
unfoldable pub pack_at : List ℕ → ℕ → Answer Package
pack_at s at =
    bind (name_section s at) λ ns p.
    bind (counted (enum_in ns s) s p) λ es q.
    bind (counted (node_in ns s) s q) λ nds r.
    bind (counted (machine_in ns s) s r) λ ms t.
    bind (counted (activation_in ns s) s t) λ acts u.
    map_a (λ (os : List Origin). record { names = ns; enums = es; nodes = nds; machines = ms; activations = acts; origins = os }) (counted (origin_in ns s) s u)

-- what the whole of the bytes is
pub data Reading : Type 0 where
  too_long : Reading
  ends_early : Reading
  illegal_at : ℕ → Reading
  deep_at : ℕ → Reading
  bytes_after : ℕ → Reading
  whole : Package → Reading

-- bytes after the origins are refused at their offset
unfoldable pub reading_of : ℕ → Answer Package → Reading
reading_of n (value p q) = cond (ltb q n) (bytes_after q) (whole p)
reading_of n early = ends_early
reading_of n (illegal o) = illegal_at o
reading_of n (deep o) = deep_at o

-- the length is tested before anything is read
unfoldable pub read : List ℕ → Reading
read s = cond (ltb max_bytes (length s)) too_long (reading_of (length s) (pack_at s 0))

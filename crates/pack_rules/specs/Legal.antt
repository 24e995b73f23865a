-- Internal: nothing here has to be believed; laws tie it to what docs/TRUSTED.md lists.
-- The packages that a pack can hold: names, numbers and levels in range, and not too long.
use Rattle.std.specs.Prelude.{ℕ, zero, suc, ◌+◌, ◌-◌, ◌≤◌, ◌<◌, List, [], ◌∷◌, ◌++◌, true, false, cond, ◌≡◌, length}
use Rattle.wire.specs.Lists.{All}
use Rattle.wire.specs.Bytes.{word_range}
use Rattle.pack_rules.specs.Names.{Name, eq_name, member}
use Rattle.pack_rules.specs.Limits.{max_bytes, max_level, max_name}
use Rattle.pack_rules.specs.Read.{name_byte}
use Rattle.pack_rules.specs.Syntax.{Activation, Branch, Equation, Expr, Exprs, Lit, MachineDef, Node, Origin, Package, Port, RegionDefs, StateDefs, Transition, Ty, def_cons, def_nil, e_array, e_arrow, e_binary, e_call, e_cast, e_const, e_field, e_if, e_index, e_iterate, e_merge, e_pre, e_struct, e_tuple, e_unary, e_var, e_when, l_bool, l_char, l_float, l_int, reg_cons, reg_nil, t_array, t_bool, t_char, t_float32, t_float64, t_int16, t_int32, t_int64, t_int8, t_named, t_uint16, t_uint32, t_uint64, t_uint8, x_cons, x_nil}
use Rattle.pack_rules.specs.Write.{Item, Spelt, arrays, count_of, encode, flag_byte, nm, package_items, raw, spell, spelt}

-- names of letters, digits and underscores, at least one and within the limit
abbrev pub LegalName : Name → Type 0
LegalName n = (0 < length n) × (length n < max_name + 1) × All (λ b. name_byte b ≡ true) n

-- no name twice: none is among those before it
unfoldable pub Fresh : List Name → List Name → Type 0
Fresh t [] = Unit {0}
Fresh t (x ∷ xs) = (member x t ≡ false) × Fresh (t ++ (x ∷ [])) xs

-- a name's place in a table, or the number of names
unfoldable pub place : List Name → Name → ℕ
place [] n = 0
place (m ∷ ms) n = cond (eq_name m n) 0 (suc (place ms n))

-- a name in the table
abbrev pub Known : List Name → Name → Type 0
Known ns n = place ns n < length ns

-- of each name in items
unfoldable pub Each : (Name → Type 0) → List Item → Type 0
Each P [] = Unit {0}
Each P (raw xs ∷ is) = Each P is
Each P (nm n ∷ is) = P n × Each P is

-- a literal's number fits its bytes
unfoldable pub LegalLit : Lit → Type 0
LegalLit (l_bool b) = Unit {0}
LegalLit (l_int n) = n < 18446744073709551616
LegalLit (l_float n) = n < 18446744073709551616
LegalLit (l_char n) = n < 256

-- a type's numbers are in range
unfoldable pub ShapedTy : Ty → Type 0
ShapedTy t_bool = Unit {0}
ShapedTy t_int8 = Unit {0}
ShapedTy t_int16 = Unit {0}
ShapedTy t_int32 = Unit {0}
ShapedTy t_int64 = Unit {0}
ShapedTy t_uint8 = Unit {0}
ShapedTy t_uint16 = Unit {0}
ShapedTy t_uint32 = Unit {0}
ShapedTy t_uint64 = Unit {0}
ShapedTy t_float32 = Unit {0}
ShapedTy t_float64 = Unit {0}
ShapedTy t_char = Unit {0}
ShapedTy (t_array n t) = (n < 4294967296) × ShapedTy t
ShapedTy (t_named n) = Unit {0}

-- a port's type has its numbers in range
abbrev pub ShapedPort : Port → Type 0
ShapedPort p = ShapedTy p.ty

-- the form of an expression: numbers in range, as many values as fields, an initial value where the flag says so
unfoldable mutual
  pub Formed : Expr → Type 0
  Formed (e_const l) = LegalLit l
  Formed (e_var x) = Unit {0}
  Formed (e_unary o a) = Formed a
  Formed (e_binary o a b) = Formed a × Formed b
  Formed (e_if a b c) = Formed a × Formed b × Formed c
  Formed (e_pre a) = Formed a
  Formed (e_arrow a b) = Formed a × Formed b
  Formed (e_call f xs) = FormedAll xs
  Formed (e_field a f) = Formed a
  Formed (e_index a i) = Formed a × Formed i
  Formed (e_tuple xs) = FormedAll xs
  Formed (e_array xs) = FormedAll xs
  Formed (e_struct n fs xs) = (count_of xs ≡ length fs) × FormedAll xs
  Formed (e_cast t a) = ShapedTy t × Formed a
  Formed (e_when a x b) = Formed a
  Formed (e_merge x a b) = Formed a × Formed b
  Formed (e_iterate k f b xs) = (count_of xs ≡ flag_byte b + arrays b xs) × FormedAll xs

  pub FormedAll : Exprs → Type 0
  FormedAll x_nil = Unit {0}
  FormedAll (x_cons a xs) = Formed a × FormedAll xs

-- an equation is as its right side is
abbrev pub FormedEquation : Equation → Type 0
FormedEquation e = Formed e.rhs

-- a transition is as its guard is
abbrev pub FormedTransition : Transition → Type 0
FormedTransition t = Formed t.guard

-- a node is as its ports and equations are
abbrev pub FormedNode : Node → Type 0
FormedNode n = All ShapedPort n.inputs × All ShapedPort n.outputs × All ShapedPort n.locals × All FormedEquation n.equations

-- one level further in
unfoldable pub Deeper : (ℕ → Type 0) → ℕ → Type 0
Deeper P zero = ⊥
Deeper P (suc levels) = P levels

-- states and regions with so many levels left below them: a region is one level further in
unfoldable mutual
  pub FormedStates : StateDefs → ℕ → Type 0
  FormedStates def_nil levels = Unit {0}
  FormedStates (def_cons s es ts rs f rest) levels = (All FormedEquation es × All FormedTransition ts × FormedRegions rs levels) × FormedStates rest levels

  pub FormedRegions : RegionDefs → ℕ → Type 0
  FormedRegions reg_nil levels = Unit {0}
  FormedRegions (reg_cons i h ss rest) levels = Deeper (λ l. FormedStates ss l) levels × FormedRegions rest levels

-- a machine: top states are level 1
abbrev pub FormedMachine : MachineDef → Type 0
FormedMachine m = All ShapedPort m.inputs × All ShapedPort m.outputs × All ShapedPort m.locals × FormedStates m.states (max_level - 1)

-- a branch is as its condition and equations are
abbrev pub FormedBranch : Branch → Type 0
FormedBranch b = Formed b.condition × All FormedEquation b.equations

-- an activation is as its ports, branches and equations are
abbrev pub FormedActivation : Activation → Type 0
FormedActivation a = All ShapedPort a.outputs × All FormedBranch a.branches × All FormedEquation a.else_equations

-- equation numbers fit 16 bits
abbrev pub FormedOrigin : Origin → Type 0
FormedOrigin o = (o.first < word_range) × (o.after < word_range)

-- a package is as its nodes, machines, activations and origins are
abbrev pub FormedPackage : Package → Type 0
FormedPackage p = All FormedNode p.nodes × All FormedMachine p.machines × All FormedActivation p.activations × All FormedOrigin p.origins

-- a package within the limits: no name twice, each of allowed bytes and within its limit, every used name in the table,
-- numbers in range and regions to the deepest level (`FormedPackage`), and not too long; that the counts fit follows
pub record Legal (p : Package) : Type 0 where
  pub fresh : Fresh [] p.names
  pub names : All LegalName p.names
  pub known : Each (Known p.names) (package_items p)
  pub formed : FormedPackage p
  pub fits : length (encode p) ≤ max_bytes

-- the table completed by the names that are new, in order of first use
abbrev pub new_of : Spelt → List Name
new_of (spelt b ns) = ns

-- the names that a package uses and its table lacks
unfoldable pub new_names : Package → List Name
new_names p = new_of (spell p.names (package_items p) [])

-- a package with another table
unfoldable pub with_names : Package → List Name → Package
with_names p ns = record { names = ns; enums = p.enums; nodes = p.nodes; machines = p.machines; activations = p.activations; origins = p.origins }

-- the table with the new names behind the old ones
unfoldable pub completed : Package → Package
completed p = with_names p (p.names ++ new_names p)

-- a package within the limits once its table is completed: every name used is legal, new or not
pub record Ready (p : Package) : Type 0 where
  pub fresh : Fresh [] p.names
  pub names : All LegalName p.names
  pub used : Each LegalName (package_items p)
  pub formed : FormedPackage p
  pub fits : length (encode p) ≤ max_bytes

-- allowed bytes, at least one; that there are not too many is tested when a pack is written
abbrev pub Allowed : Name → Type 0
Allowed n = (0 < length n) × All (λ b. name_byte b ≡ true) n

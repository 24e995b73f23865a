-- A package as trees: types, expressions, equations, nodes, machines as they are drawn, activations, origins.
-- A list of subtrees is a type of its own (antt has no nested recursion).
use Rattle.std.specs.Prelude.{List, Bool, ℕ}
use Rattle.std.proofs.Math.Option.{Option}
use Rattle.pack_rules.specs.Names.{Name}

-- the 14 types, in the order of the source
pub data Ty : Type 0 where
  t_bool t_int8 t_int16 t_int32 t_int64 t_uint8 t_uint16 t_uint32 t_uint64 t_float32 t_float64 t_char : Ty
  t_array : ℕ → Ty → Ty
  t_named : Name → Ty

-- literals: numbers are as their bits
pub data Lit : Type 0 where
  l_bool : Bool → Lit
  l_int : ℕ → Lit
  l_float : ℕ → Lit
  l_char : ℕ → Lit

-- operators of one operand
pub data UnOp : Type 0 where
  o_not o_neg : UnOp

-- operators of two operands, in the order of the source
pub data BinOp : Type 0 where
  o_and o_or o_xor o_implies o_eq o_neq o_lt o_le o_gt o_ge o_add o_sub o_mul o_div o_mod o_bit_and o_bit_or o_bit_xor o_shl o_shr : BinOp

-- map or fold
pub data IterKind : Type 0 where
  i_map i_fold : IterKind

-- expressions in the order of the source, which is that of their tags, 0 to 16; and lists of them
mutual
  pub data Expr : Type 0 where
    e_const : Lit → Expr
    e_var : Name → Expr
    e_unary : UnOp → Expr → Expr
    e_binary : BinOp → Expr → Expr → Expr
    e_if : Expr → Expr → Expr → Expr
    e_pre : Expr → Expr
    e_arrow : Expr → Expr → Expr
    e_call : Name → Exprs → Expr
    e_field : Expr → Name → Expr
    e_index : Expr → Expr → Expr
    e_tuple : Exprs → Expr
    e_array : Exprs → Expr
    e_struct : Name → List Name → Exprs → Expr
    e_cast : Ty → Expr → Expr
    e_when : Expr → Name → Bool → Expr
    e_merge : Name → Expr → Expr → Expr
    e_iterate : IterKind → Name → Bool → Exprs → Expr

  pub data Exprs : Type 0 where
    x_nil : Exprs
    x_cons : Expr → Exprs → Exprs

-- left names and a right side
pub record Equation : Type 0 where
  pub lhs : List Name
  pub rhs : Expr

-- a guard and a target state
pub record Transition : Type 0 where
  pub guard : Expr
  pub target : Name

-- an input, output or local
pub record Port : Type 0 where
  pub name : Name
  pub ty : Ty

-- an enum and its variants
pub record Enum : Type 0 where
  pub name : Name
  pub variants : List Name

-- machines as they are drawn. States: name, equations, transitions, regions, refinement, and the states that follow.
-- Regions: initial state, history, states, and the regions that follow.
mutual
  pub data StateDefs : Type 0 where
    def_nil : StateDefs
    def_cons : Name → List Equation → List Transition → RegionDefs → Option Name → StateDefs → StateDefs

  pub data RegionDefs : Type 0 where
    reg_nil : RegionDefs
    reg_cons : Name → Bool → StateDefs → RegionDefs → RegionDefs

-- a machine as it is drawn
pub record MachineDef : Type 0 where
  pub name : Name
  pub owner : Option Name
  pub inputs : List Port
  pub outputs : List Port
  pub locals : List Port
  pub initial : Name
  pub states : StateDefs

-- a node's kind
pub data NodeKind : Type 0 where
  k_function k_operator k_imported : NodeKind

-- a node with its equations
pub record Node : Type 0 where
  pub name : Name
  pub kind : NodeKind
  pub inputs : List Port
  pub outputs : List Port
  pub locals : List Port
  pub equations : List Equation

-- a branch of an activation
pub record Branch : Type 0 where
  pub name : Name
  pub condition : Expr
  pub equations : List Equation

-- an activation, with the scope that is taken where no branch is
pub record Activation : Type 0 where
  pub name : Name
  pub owner : Name
  pub outputs : List Port
  pub branches : List Branch
  pub else_equations : List Equation

-- what an origin's equations came from
pub data OriginKind : Type 0 where
  of_machine of_activation : OriginKind

-- the equations of `node` from `first` up to `after` came from `name`
pub record Origin : Type 0 where
  pub node : Name
  pub kind : OriginKind
  pub name : Name
  pub first : ℕ
  pub after : ℕ
  pub branches : List Name

-- a package: what a pack holds
pub record Package : Type 0 where
  pub names : List Name
  pub enums : List Enum
  pub nodes : List Node
  pub machines : List MachineDef
  pub activations : List Activation
  pub origins : List Origin

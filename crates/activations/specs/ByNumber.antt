-- Internal: nothing here has to be believed; laws tie it to what docs/TRUSTED.md lists.
-- Clocks, guards and merges by the number of branches: they do not depend on the conditions.
use Rattle.std.specs.Prelude.{List, [], ◌∷◌, ◌++◌, ℕ, zero, suc}
use Rattle.wire.specs.Bytes.{two}
use Rattle.pack_rules.specs.Names.{Name}
use Rattle.pack_rules.specs.Syntax.{Equation, Expr, Port, e_merge, e_var, t_bool}
use Rattle.pack_rules.specs.Write.{Item, expr_items, nm, raw}
use Rattle.pack_rules.specs.Read.{port_in}
use Rattle.machines.specs.ResolvedIn.{end_of}
use Rattle.machines.specs.CheckedReads.{number_in, with}
use Rattle.machines.specs.EmitAt.{pack_name}
use Rattle.activation_rules.specs.MadeNames.{Scope, branch, clock_var, else_scope, flag_var, value_var}
use Rattle.activations.specs.Vars.{scope_at}
use Rattle.activation_rules.specs.Defines.{eqn}
use Rattle.activation_rules.specs.Clocks.{under}
use Rattle.activation_rules.specs.Merges.{merge_from}

-- a `when` on the clock of branch k, up to its argument
unfoldable pub when_items : Name → ℕ → ℕ → List Item
when_items a k b = raw (14 ∷ []) ∷ nm (clock_var a k) ∷ raw (b ∷ []) ∷ []

-- `under`, up to its argument
unfoldable pub under_items : Name → ℕ → List Item
under_items a zero = []
under_items a (suc k) = when_items a k 0 ++ under_items a k

-- `onto`, up to its argument
unfoldable pub onto_items : Name → ℕ → Scope → List Item
onto_items a n (branch k) = when_items a k 1 ++ under_items a k
onto_items a n else_scope = under_items a n

-- a Boolean local
unfoldable pub bool_port : Name → Port
bool_port x = record { name = x; ty = t_bool }

-- the guard of branch k
unfoldable pub guard_of : Name → ℕ → Equation
guard_of a k = eqn (clock_var a k) (under a k (e_var (flag_var a k)))

-- the guards of n branches from k on
unfoldable pub guards_from : Name → ℕ → ℕ → List Equation
guards_from a k zero = []
guards_from a k (suc n) = guard_of a k ∷ guards_from a (suc k) n

-- an output from the scopes of n branches from k on, and the else scope
unfoldable pub merged_from : Name → Name → ℕ → ℕ → Expr
merged_from a o k zero = e_var (value_var a else_scope o)
merged_from a o k (suc n) = e_merge (clock_var a k) (e_var (value_var a (branch k) o)) (merged_from a o (suc k) n)

-- the merge of branch k of n, up to its last argument
unfoldable pub merge_head_items : Name → Name → ℕ → ℕ → List Item
merge_head_items a o n k = raw (15 ∷ []) ∷ nm (clock_var a k) ∷ expr_items (e_var (value_var a (scope_at n k) o))

-- the equation of an output o, whose left name is written by its index x
unfoldable pub merge_items : Name → ℕ → Name → List Expr → List Item
merge_items a x o cs = raw (two 1) ∷ raw (two x) ∷ expr_items (merge_from a o 0 cs)

-- a pack's names and bytes, where each name stands in it; an activation's name and conditions
module _ (ns : List Name) (s offsets : List ℕ) (a : Name) (cs : List Expr) where
  -- the equations of n outputs from p on, each a name and a type
  unfoldable pub merges_t : ℕ → ℕ → List Item
  merges_t zero p = []
  merges_t (suc n) p = merge_items a (number_in s p).value (pack_name s offsets (number_in s p).value) cs ++ merges_t n (end_of (port_in ns s p))

  -- of the outputs at the offset `at`, after their count
  unfoldable pub port_merges_t : ℕ → List Item
  port_merges_t at = with (number_in s at) λ n p. merges_t n p

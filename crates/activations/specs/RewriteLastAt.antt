-- Internal: nothing here has to be believed; laws tie it to what docs/TRUSTED.md lists.
-- An expression written with its calls of `last` replaced, node by node, as the code does it.
use Rattle.std.specs.Prelude.{ℕ, ◌-◌, List, [], ◌∷◌}
use Rattle.wire.specs.Writer.{State}
use Rattle.pack_rules.specs.Names.{Name}
use Rattle.pack_rules.specs.Write.{Item, nm, raw}
use Rattle.machines.specs.Layout.{slice_of}
use Rattle.machines.specs.EmitAt.{pack_name}
use Rattle.activations.specs.declared.expr_node.ExprNode.{ExprNode}
use Rattle.activations.specs.declared.expr_node.ExprNode.TheVariants as mt
use Rattle.activation_rules.specs.MadeNames.{last_var}
use Rattle.activations.specs.Walks.{walked, write_step}

-- the bytes from p up to q
unfoldable pub copy_items : List ℕ → ℕ → ℕ → List Item
copy_items s p q = raw (slice_of s p (q - p)) ∷ []

-- a node that stands at p: a call of `last` becomes its holder, what is none is copied
unfoldable pub met_items : List ℕ → List ℕ → Name → ExprNode → ℕ → List Item
met_items s offsets a (mt.Last v i q) p = raw (1 ∷ []) ∷ nm (last_var a (pack_name s offsets v)) ∷ []
met_items s offsets a (mt.Bad u q) p = copy_items s p q
met_items s offsets a (mt.Const q) p = copy_items s p q
met_items s offsets a (mt.Var i q) p = copy_items s p q
met_items s offsets a (mt.Clocked c u q) p = copy_items s p q
met_items s offsets a (mt.Other u q) p = copy_items s p q
met_items s offsets a mt.Nothing p = copy_items s p 0

-- the expression at an offset
unfoldable pub rewrite_last_t : List Name → List ℕ → ℕ → List ℕ → List ℕ → Name → ℕ → State → State
rewrite_last_t ns s last old offsets a at z = walked ns s last (write_step old (met_items s offsets a)) 1 at z

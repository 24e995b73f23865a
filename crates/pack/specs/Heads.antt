-- Internal: nothing here has to be believed; laws tie it to what docs/TRUSTED.md lists.
-- How many trees stand under a head: what the reading loops ask of it.
use Rattle.std.specs.Prelude.{ℕ, Bool, cond, List}
use Rattle.wire.specs.Answer.{Answer, map_a}
use Rattle.pack_rules.specs.Forms.{expr_arity, expr_at, expr_head, type_arity, type_head}

-- types under the head at an offset
unfoldable pub type_more : ℕ → List ℕ → ℕ → Answer ℕ
type_more names s at = map_a type_arity (type_head names s at)

-- expressions under the head at an offset
unfoldable pub expr_more : ℕ → List ℕ → ℕ → Answer ℕ
expr_more names s at = map_a expr_arity (expr_head names s at)

-- expressions left to read after the first node of one, or after all its nodes
unfoldable pub expr_left : Bool → ℕ → List ℕ → ℕ → Answer ℕ
expr_left one names s at = cond one (expr_more names s at) (map_a (λ t. 0) (expr_at names s at))

-- Trees that are stored in preorder: a head, which says how many trees stand under it, and then those.
use Rattle.std.specs.Prelude.{ℕ, zero, suc, List}
use Rattle.wire.specs.Answer.{Answer, value, early, bind}

mutual
  -- a head and the trees under it
  pub data Tree (H : Type 0) : Type 0 where
    node : H → Trees H → Tree H

  -- trees in order
  pub data Trees (H : Type 0) : Type 0 where
    nil : Trees H
    cons : Tree H → Trees H → Trees H

-- n trees, one after the other: of each its head, the trees under it, then the rest. The fuel bounds the number of heads.
unfoldable pub trees : {H : Type 0} → (H → ℕ) → (List ℕ → ℕ → Answer H) → ℕ → List ℕ → ℕ → ℕ → Answer (Trees H)
trees arity head zero s zero at = value nil at
trees arity head zero s (suc n) at = early
trees arity head (suc f) s zero at = value nil at
trees arity head (suc f) s (suc n) at =
    bind (head s at) λ h p.
    bind (trees arity head f s (arity h) p) λ under q.
    bind (trees arity head f s n q) λ rest r.
    value (cons (node h under) rest) r

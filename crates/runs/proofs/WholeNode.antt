-- A run of all equations of the node satisfies the block that an origin names: other equations only add conditions.
use Prim.Native.Nat.{ℕ, zero, suc, ◌-◌}
use mathlib.Core.List.{List, [], ◌∷◌}
use mathlib.Core.Option.{some}
use lib.ListN.{drop, take}
use Rattle.pack_rules.specs.Syntax.{Equation, Node, Origin}
use Rattle.run_rules.specs.Run.{Run, Satisfies}
use Rattle.runs.specs.Placement.{block_of, equations_named, slice}

take-satisfies : {O : Type 0} (R : Run O) (N n : ℕ) (es : List Equation) → Satisfies R N es → Satisfies R N (take n es)
take-satisfies R N zero es h = tt
take-satisfies R N (suc n) [] h = tt
take-satisfies R N (suc n) (e ∷ es) h = (h.0, take-satisfies R N n es h.1)

drop-satisfies : {O : Type 0} (R : Run O) (N n : ℕ) (es : List Equation) → Satisfies R N es → Satisfies R N (drop n es)
drop-satisfies R N zero es h = h
drop-satisfies R N (suc n) [] h = tt
drop-satisfies R N (suc n) (e ∷ es) h = drop-satisfies R N n es h.1

pub node-satisfies : {O : Type 0} (R : Run O) (N : ℕ) (r : Origin) (nodes : List Node) → Satisfies R N (equations_named r.node nodes) → Satisfies R N (block_of (some r) nodes)
unfolding block_of slice
node-satisfies R N r nodes h = take-satisfies R N (r.after - r.first) _ (drop-satisfies R N r.first (equations_named r.node nodes) h)

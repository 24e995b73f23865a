-- Internal: nothing here has to be believed; laws tie it to what docs/TRUSTED.md lists.
-- The path of machines as the code keeps it.
use Rattle.std.specs.Prelude.{ℕ, Bool, ◌∷◌, eqb, replicate, take}
use Rattle.std.specs.List.{list_any}
use Rattle.pack_rules.specs.Limits.{absent}
use Rattle.machines.specs.declared.resolve.RefineStack.{RefineStack}

-- the path with nothing but the top machine m
unfoldable pub start_of : ℕ → RefineStack
start_of m = record { names = m ∷ replicate 7 absent }

-- the machine m is entered: it comes first, and each of the others moves back by one
unfoldable pub pushed_of : RefineStack → ℕ → RefineStack
pushed_of p m = record { names = m ∷ take 7 p.names }

-- whether the machine m is on the path
unfoldable pub on_of : RefineStack → ℕ → Bool
on_of p m = list_any (λ x. eqb x m) p.names

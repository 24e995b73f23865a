-- Internal: nothing here has to be believed; laws tie it to what docs/TRUSTED.md lists.
-- The entry of a refused machine, by what the code knows of it: a kind, and where the letters of its names stand.
use Rattle.std.specs.Prelude.{ℕ, ◌%◌, List, [], ◌∷◌, ◌++◌, cond, length, eqb}
use Rattle.pack_rules.specs.Names.{Name}
use Rattle.pack_rules.specs.Limits.{absent}
use Rattle.machines.specs.declared.verdicts.NameRef.{NameRef}
use Rattle.machines.specs.declared.verdicts.VerdictRow.{VerdictRow}
use Rattle.machines.specs.Layout.{prefix_of, slice_of}
use Rattle.machines.specs.EmitAt.{pack_name}

-- a name after its length byte
unfoldable pub name_bytes : Name → List ℕ
name_bytes n = (length n % 256) ∷ n

-- all names of an error, as the section on the report has them
unfoldable pub names_bytes : List Name → List ℕ
names_bytes [] = []
names_bytes (n ∷ ns) = name_bytes n ++ names_bytes ns

-- the pack, where its names stand, letters
module _ (s offsets qualified : List ℕ) where
  -- no name, letters of the layout, or a name of the pack as it is called in a region
  unfoldable pub called_of : NameRef → List Name
  called_of c =
      cond (eqb c.name absent) (cond (eqb c.letters 0) [] (slice_of qualified c.letter c.letters ∷ []))
      ((prefix_of (slice_of qualified c.letter c.letters) ++ pack_name s offsets c.name) ∷ [])

  -- the names of a refusal: the machine's own comes first
  unfoldable pub names_of : ℕ → VerdictRow → List Name
  names_of m j = pack_name s offsets m ∷ (called_of j.second ++ called_of j.third)

  -- the kind byte and the names
  unfoldable pub entry_bytes : ℕ → VerdictRow → List ℕ
  entry_bytes m j = (j.kind % 256) ∷ names_bytes (names_of m j)

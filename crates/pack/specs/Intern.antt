-- Internal: nothing here has to be believed; laws tie it to what docs/TRUSTED.md lists.
-- What writing a name does to the writer's state: an old name keeps its number, a new one is added once, in order of first use.
use Rattle.std.specs.Prelude.{ℕ, ◌+◌, cond, List, [], ◌∷◌, length, take, nat_lt, Result, Ok, Err}
use Rattle.wire.specs.Bytes.{two}
use Rattle.wire.specs.Writer.{State, full, st, puts, swapped}
use Rattle.pack_rules.specs.Limits.{max_bytes, max_name}
use Rattle.pack_rules.specs.Names.{Name}
use Rattle.pack_rules.specs.Write.{Item, raw, nm, Found, At, Missing}
use Rattle.pack.specs.Table.{seek, noted, texts_from, blank}
unfoldable pub use Rattle.pack.specs.Table.{table_f, table}

-- the code's answer to a search
unfoldable pub found_of : Result ℕ ℕ → Found
found_of (Ok k) = At k
found_of (Err k) = Missing k

-- a name more in the index of the second buffer
unfoldable pub noted_in : Name → State → State
noted_in n full = full
noted_in n (st co cm bs md) = st co cm bs (noted n md)

-- a name more in the second buffer, after its length byte
unfoldable pub put_entry : Name → State → State
put_entry n s = swapped (puts (length n ∷ n) (swapped (noted_in n s)))

-- names in order
unfoldable pub put_entries : List Name → State → State
put_entries [] s = s
put_entries (n ∷ ns) s = put_entries ns (put_entry n s)

-- by what was found among the new names: each stands there once
unfoldable pub put_added : Found → ℕ → Name → State → State
put_added (At k) old n s = puts (two (old + k)) s
put_added (Missing k) old n s = puts (two (old + k)) (put_entry n s)

-- a name that is not among the `old` old ones
unfoldable pub put_new : ℕ → Name → State → State
put_new old n full = full
put_new old n (st co cm bs md) = put_added (seek md n) old n (st co cm bs md)

-- by what was found among the old names
unfoldable pub put_found : Found → Name → State → State
put_found (At k) n s = puts (two k) s
put_found (Missing k) n s = put_new k n s

-- a name; one over the limit fills the writer
unfoldable pub put_name : List ℕ → Name → State → State
put_name old n s = cond (nat_lt max_name (length n)) full (put_found (seek old n) n s)

-- a made name, which stands in a buffer of its own
unfoldable pub put_built : List ℕ → State → State → State
put_built old full s = full
put_built old (st co cm bs md) s = put_name old bs s

-- bytes as they are, or a name
unfoldable pub put_item : List ℕ → Item → State → State
put_item old (raw xs) s = puts xs s
put_item old (nm n) s = put_name old n s

-- items in order
unfoldable pub render : List ℕ → List Item → State → State
render old [] s = s
render old (i ∷ is) s = render old is (put_item old i s)

-- a writer's two buffers before anything is written: the second begins with the index
unfoldable pub started : List ℕ → List ℕ → State
started out made = st (length out) (length made) [] (take texts_from made)

-- the same where both are large enough for any pack
unfoldable pub unwritten : State
unwritten = st max_bytes (texts_from + max_bytes) [] blank

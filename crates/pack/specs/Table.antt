-- Internal: nothing here has to be believed; laws tie it to what docs/TRUSTED.md lists.
-- Tables of names: names one after the other, each after its length byte; and the same behind an index of trees, so that a name is
-- found without looking at all others.
use Rattle.std.specs.Prelude.{ℕ, zero, suc, ◌+◌, ◌-◌, ◌*◌, ◌/◌, ◌%◌, ◌<◌, Bool, true, false, cond, ◌&&◌, List, [], ◌∷◌, ◌++◌, length, take, drop, replicate, nat_le, nat_lt, slice_index, slice_set}
use Rattle.wire.specs.Bytes.{word_range}
use Rattle.pack_rules.specs.Names.{Name, eq_name}
use Rattle.pack.specs.Siphash.{hash}
use Rattle.pack.specs.RawNames.{raw_name}
use Rattle.pack_rules.specs.Write.{Found, At, Missing, lookup}
use Rattle.pack.specs.declared.table.Place.{Place}
use Rattle.pack.specs.declared.table.Place.TheVariants as pl
use Rattle.pack_rules.specs.Limits.{max_bytes}

-- the names of a table, each after its length byte; the first number bounds the steps
unfoldable pub table_f : ℕ → List ℕ → List Name
table_f zero t = []
table_f (suc f) [] = []
table_f (suc f) (l ∷ rest) = take l rest ∷ table_f f (drop l rest)

-- the names that a table's bytes stand for
unfoldable pub table : List ℕ → List Name
table t = table_f (length t) t

-- An index stands before the names: how many names it has, the cells, and for each name a spot, all of 16 bits. A spot is where a
-- name's length byte stands among the names. A cell is 1 + the number of a name, or 0 while it is free: the first cells are heads,
-- and two more belong to each name. From a head on the names are a binary tree that branches by the bits of the hash, so that names
-- are found in a few steps even where many share a head.

-- the names that have rows: by counting, a pack holds no more that are different. That is not proved: with more there is no index
unfoldable pub rows_most : ℕ
rows_most = 17408

-- how many heads there are, and how many cells
abbrev pub heads : ℕ
heads = 8192

abbrev pub cells : ℕ
cells = heads + 2 * 17408

-- where the spots begin, and the names
abbrev pub spots_from : ℕ
spots_from = 2 + 2 * cells

unfoldable pub texts_from : ℕ
texts_from = spots_from + 2 * 17408

-- what a table of any pack's names takes
abbrev pub table_room : ℕ
table_room = spots_from + 2 * 17408 + max_bytes

-- where a cell stands, and the spot of a number
abbrev pub cell_at : ℕ → ℕ
cell_at i = 2 + 2 * i

abbrev pub spot_at : ℕ → ℕ
spot_at k = spots_from + 2 * k

-- the cell below the name of the number k, by the lowest bit of h
abbrev pub below : ℕ → ℕ → ℕ
below k h = heads + 2 * k + h % 2

-- 16 bits, lowest byte first
unfoldable pub word : List ℕ → ℕ → ℕ
word t i = slice_index t i + 256 * slice_index t (i + 1)

-- the same put at i
unfoldable pub put_word : List ℕ → ℕ → ℕ → List ℕ
put_word t i v = slice_set (slice_set t i (v % 256)) (i + 1) (v / 256 % 256)

-- the name of a number
unfoldable pub text_of : List ℕ → ℕ → Name
text_of t k = raw_name t (texts_from + word t (spot_at k))

-- The way of a name down its tree: a bit for each step, lowest first, and above those that are left a 1. The bits of the hash come
-- first, but for those that choose the head; then the letters of the name, so that no two names have the same way.
unfoldable pub way : Name → ℕ
way n = hash n / heads + 2251799813685248

-- the way h of the name n after one step more, after which f are left
unfoldable pub further : Name → ℕ → ℕ → ℕ
further n f h = cond (nat_lt h 4) (256 + slice_index n ((17358 - f) / 8)) (h / 2)

-- where a name with the way h is from the cell i on, which holds w, or which cell would be its own; the first number bounds the steps
unfoldable pub place_from : ℕ → List ℕ → Name → ℕ → ℕ → ℕ → Place
place_from zero t n h i w = pl.Lost
place_from (suc f) t n h i zero = pl.Free i
place_from (suc f) t n h i (suc k) = cond (eq_name (text_of t k) n) (pl.Taken k) (place_from f t n (further n f h) (below k h) (word t (cell_at (below k h))))

-- the same from the head of its hash: no path is longer than there are names
unfoldable pub place_of : List ℕ → Name → Place
place_of t n = place_from 17409 t n (way n) (hash n % heads) (word t (cell_at (hash n % heads)))

-- what was found, among d names
unfoldable pub found_in : ℕ → Place → Found
found_in d (pl.Taken k) = At k
found_in d (pl.Free i) = Missing d
found_in d pl.Lost = Missing d

-- a name in a table with an index: by its tree, or one by one where not all names have rows
unfoldable pub seek : List ℕ → Name → Found
seek t n = cond (nat_lt rows_most (word t 0)) (lookup (table (drop texts_from t)) n 0) (found_in (word t 0) (place_of t n))

-- the number in an answer
unfoldable pub number_in : Found → ℕ
number_in (At k) = k
number_in (Missing k) = k

-- the numbers in a place are small, whatever the table's bytes
unfoldable pub Near : Place → Type 0
Near (pl.Taken k) = k < word_range
Near (pl.Free i) = i < 200000
Near pl.Lost = Unit {0}

-- whether a name has a cell that would be its own
unfoldable pub is_free : Place → Bool
is_free (pl.Taken k) = false
is_free (pl.Free i) = true
is_free pl.Lost = false

-- whether the number of one name more and its spot fit
unfoldable pub spare : List ℕ → Bool
spare t = nat_lt (word t 0) rows_most && (nat_le texts_from (length t) && nat_lt (length t) (texts_from + max_bytes))

-- a cell that the index does not have is none
unfoldable pub in_index : Place → Place
in_index (pl.Taken k) = pl.Taken k
in_index (pl.Free i) = cond (nat_lt i cells) (pl.Free i) pl.Lost
in_index pl.Lost = pl.Lost

-- the cell for a name that comes next
unfoldable pub cell_for : List ℕ → Name → Place
cell_for t n = cond (spare t) (in_index (place_of t n)) pl.Lost

-- whether a name can have a row: it is new, and its number and its spot fit
unfoldable pub has_row : List ℕ → Name → Bool
has_row t n = is_free (cell_for t n)

-- the row of the number c, whose cell is i and whose spot is p
unfoldable pub linked : ℕ → ℕ → ℕ → List ℕ → List ℕ
linked c i p t = put_word (put_word (put_word t (spot_at c) p) (cell_at i) (c + 1)) 0 (c + 1)

-- without rows for all
unfoldable pub unindexed : List ℕ → List ℕ
unindexed t = put_word t 0 (rows_most + 1)

-- a row more, for a name whose spot is p, where there is a cell for it
unfoldable pub linked_at : Place → ℕ → List ℕ → List ℕ
linked_at (pl.Taken k) p t = unindexed t
linked_at (pl.Free i) p t = linked (word t 0) i p t
linked_at pl.Lost p t = unindexed t

-- the index with a row for a name that comes next; without rows for all from then on, where it can have none
unfoldable pub noted : Name → List ℕ → List ℕ
noted n t = linked_at (cell_for t n) (length t - texts_from) t

-- a name more
unfoldable pub enter : Name → List ℕ → List ℕ
enter n t = noted n t ++ (length n ∷ n)

-- a table without names
unfoldable pub blank : List ℕ
blank = replicate texts_from 0

-- names entered in order
unfoldable pub entered : List Name → List ℕ → List ℕ
entered [] t = t
entered (n ∷ ns) t = entered ns (enter n t)

-- the table of names
unfoldable pub tabled : List Name → List ℕ
tabled ns = entered ns blank

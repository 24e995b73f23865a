-- Internal: nothing here has to be believed; laws tie it to what docs/TRUSTED.md lists.
-- Laying a resolved machine out: what the code does to its three tables, structural on the levels left.
use Rattle.std.specs.Prelude.{ℕ, zero, suc, ◌+◌, ◌%◌, min, List, [], ◌∷◌, ◌++◌, Bool, false, cond, ◌&&◌, length, get_or, set, eqb, leb, ltb}
use Rattle.std.proofs.lemmas.List.Edits.{sets}
use Rattle.wire.specs.Answer.{counted}
use Rattle.pack_rules.specs.Limits.{absent, max_level}
use Rattle.pack_rules.specs.Names.{Name}
use Rattle.pack_rules.specs.Read.{equations_in, transition_in}
use Rattle.machines.specs.declared.layout.Entered.{Entered}
use Rattle.machines.specs.declared.layout.LayoutPos.{LayoutPos}
use Rattle.machines.specs.declared.layout.RegionHead.{RegionHead}
use Rattle.wire.specs.declared.answer.Number.{Number}
use Rattle.machines.specs.Layout.{holed}
use Rattle.machines.specs.ResolvedIn.{end_of}
use Rattle.machines.specs.CheckedReads.{byte_in, number_in, with}
use Rattle.machines.specs.Tables.{len_of}

-- counts stop at 2³², so that no sum overflows; those of a resolved machine are below 2¹⁸
unfoldable pub sum : ℕ → ℕ → ℕ
sum a b = min (a + b) 4294967296

-- n values from a on, 0 past the end
unfoldable pub values : List ℕ → ℕ → ℕ → List ℕ
values l a zero = []
values l a (suc n) = get_or l a 0 ∷ values l (suc a) n

-- the prefix of the names inside a refined state, whose own name is m letters from a on; none where m is 0
unfoldable pub under : List ℕ → ℕ → ℕ → List ℕ
under qualified a zero = []
under qualified a (suc m) = values qualified a (suc m) ++ (95 ∷ [])

-- how many letters a prefix has
unfoldable pub prefix_len : ℕ → ℕ
prefix_len zero = 0
prefix_len (suc m) = suc m + 1

-- the name i of the pack, under a prefix
unfoldable pub qualifying : List ℕ → List ℕ → ℕ → List ℕ → ℕ → ℕ → List ℕ
qualifying s offsets i qualified a m = under qualified a m ++ values s (suc (get_or offsets i 0)) (len_of s offsets i)

-- whether a word and its length byte fit in at `at`, after the prefix's letters
unfoldable pub fits_at : ℕ → ℕ → ℕ → ℕ → ℕ → Bool
fits_at len a m at n = leb (a + m) at && ltb (at + n) len

-- the word at `at`, after its length byte; where it does not fit in, nothing is written and it counts as empty
unfoldable pub qualified_at : List ℕ → List ℕ → ℕ → List ℕ → ℕ → ℕ → ℕ → List ℕ
qualified_at s offsets i qualified a m at =
    cond (fits_at (length qualified) a m at (length (qualifying s offsets i qualified a m)))
    (sets qualified at (length (qualifying s offsets i qualified a m) % 256 ∷ qualifying s offsets i qualified a m))
    qualified

-- how many letters the word has, 0 where it does not fit in
unfoldable pub qualified_len : List ℕ → List ℕ → ℕ → List ℕ → ℕ → ℕ → ℕ → ℕ
qualified_len s offsets i qualified a m at =
    cond (fits_at (length qualified) a m at (length (qualifying s offsets i qualified a m))) (length (qualifying s offsets i qualified a m)) 0

-- a state's first four words: where it is drawn, where its transitions are, its name's first letter and length
unfoldable pub state_words : List ℕ → ℕ → ℕ → ℕ → ℕ → ℕ → List ℕ
state_words t p at tr a n = set (set (set (set t p at) (p + 1) tr) (p + 2) a) (p + 3) n

-- and its last two: the word after its regions, and how many of them are laid out
unfoldable pub state_ends : List ℕ → ℕ → ℕ → ℕ → List ℕ
state_ends t p q k = set (set t (p + 4) q) (p + 5) k

-- a region before its states: its initial state's name, its history, how many states, and where they are
abbrev pub opening : ℕ → ℕ → ℕ → ℕ → RegionHead
opening x y n q = record { initial = x; history = y; states = n; next = q }

-- that of the region at `at`
unfoldable pub region_from : List ℕ → ℕ → RegionHead
region_from s at = with (number_in s at) λ x p. with (byte_in s p) λ y q. with (number_in s q) λ n r. opening x y n r

-- a machine's states as a region, with a history of its own
unfoldable pub machine_as : List ℕ → ℕ → ℕ → RegionHead
machine_as s y at = with (number_in s at) λ x p. with (number_in s p) λ n q. opening x y n q

-- a region's words without that after its states
unfoldable pub region_words : List ℕ → ℕ → RegionHead → ℕ → ℕ → ℕ → ℕ → ℕ → List ℕ
region_words t p h a m id st up =
    set
    (set (set (set (set (set (set (set t p h.initial) (p + 1) h.history) (p + 2) a) (p + 3) m) (p + 5) id) (p + 6) h.states) (p + 7) st)
    (p + 8)
    up

-- how far the pack was read and the tables are filled; whether a region without states was met
abbrev pub layout_t : ℕ → ℕ → ℕ → ℕ → Bool → LayoutPos
layout_t q w r l g = record { next = q; words = w; regions = r; letters = l; hole = g }

-- a state before its regions: offset, words, letters, how many regions follow, its name's first letter and length
abbrev pub entered : ℕ → ℕ → ℕ → ℕ → ℕ → ℕ → Entered
entered q w l n a m = record { next = q; words = w; letters = l; regions = n; letter = a; length = m }

-- the tables filled as far as before, the pack read up to q
unfoldable pub moved_to : ℕ → LayoutPos → LayoutPos
moved_to q c = layout_t q c.words c.regions c.letters c.hole

-- the three tables
pub record Board : Type 0 where
  pub t : List ℕ
  pub reg : List ℕ
  pub qualified : List ℕ
  pub c : LayoutPos

-- a board by its tables: words, the words of regions by their ids, letters; and how far they are filled
abbrev pub board : List ℕ → List ℕ → List ℕ → LayoutPos → Board
board t reg qualified c = record { t = t; reg = reg; qualified = qualified; c = c }

-- a board, handed to what is made of it
unfoldable pub fed : {A : Type 0} → Board → (Board → A) → A
fed b k = k b

-- n steps
unfoldable pub times : (Board → Board) → ℕ → Board → Board
times r zero b = b
times r (suc n) b = times r n (r b)

-- one region more where words were added
unfoldable pub tally : ℕ → ℕ → ℕ → ℕ
tally k w v = cond (eqb w v) k (sum k 1)

-- n regions, of which k were laid out before, and then what follows
unfoldable pub inner : (Board → Board) → ℕ → ℕ → Board → (ℕ → Board → Board) → Board
inner r zero k b f = f k b
inner r (suc n) k b f = fed (r b) λ d. inner r n (tally k b.c.words d.c.words) d f

-- a region that is not laid out
unfoldable pub passed : ℕ → Board → Board
passed q b = board b.t b.reg b.qualified (moved_to q b.c)

-- a region before its states: its words, its word by its id
unfoldable pub open_region : ℕ → ℕ → ℕ → ℕ → RegionHead → Board → Board
open_region st up a m h b =
    board
    (region_words b.t b.c.words h a m b.c.regions st up)
    (set b.reg b.c.regions b.c.words)
    b.qualified
    (layout_t h.next (sum b.c.words 9) (sum b.c.regions 1) b.c.letters (holed b.c.hole h.states))

-- the region at the word p, after its states
unfoldable pub close_region : ℕ → Board → Board
close_region p b = board (set b.t (p + 4) b.c.words) b.reg b.qualified b.c

-- the state at the word p, after its k regions; q is the offset after it
unfoldable pub close_state : ℕ → ℕ → ℕ → Board → Board
close_state p k q b = board (state_ends b.t p b.c.words k) b.reg b.qualified (moved_to q b.c)

module _ (ns : List Name) (s : List ℕ) where
  -- of the state at `at`: its name's index, where its transitions are, how many regions it has
  unfoldable pub name_number : ℕ → ℕ
  name_number at = (number_in s at).value

  unfoldable pub moves_at : ℕ → ℕ
  moves_at at = end_of (equations_in ns s (number_in s at).next)

  unfoldable pub regions_at : ℕ → Number
  regions_at at = number_in s (end_of (counted (transition_in ns s) s (moves_at at)))

  module _ (offsets : List ℕ) where
    -- the length of the full name of the state where the board stands
    unfoldable pub letters_of : ℕ → ℕ → Board → ℕ
    letters_of a m b = qualified_len s offsets (name_number b.c.next) b.qualified a m b.c.letters

    -- a state before its regions: its words, its name
    unfoldable pub open_state : ℕ → ℕ → Board → Board
    open_state a m b =
        board
        (state_words b.t b.c.words b.c.next (moves_at b.c.next) (sum b.c.letters 1) (letters_of a m b))
        b.reg
        (qualified_at s offsets (name_number b.c.next) b.qualified a m b.c.letters)
        (layout_t (regions_at b.c.next).next (sum b.c.words 6) b.c.regions (sum (sum b.c.letters 1) (letters_of a m b)) b.c.hole)

    -- what the code keeps of it
    unfoldable pub entered_of : ℕ → ℕ → Board → Entered
    entered_of a m b =
        entered
        (regions_at b.c.next).next
        (sum b.c.words 6)
        (sum (sum b.c.letters 1) (letters_of a m b))
        (regions_at b.c.next).value
        (sum b.c.letters 1)
        (letters_of a m b)

    -- and where the initial state of the machine of a name is
    module _ (to : List ℕ) where
      -- an inline region of the state at the word st, which is in the region `up`
      unfoldable pub region_b : (ℕ → ℕ → ℕ → ℕ → RegionHead → Board → Board) → ℕ → ℕ → ℕ → ℕ → Board → Board
      region_b rec st up a m b = rec st up a m (region_from s b.c.next) b

      -- the refinement, under the state's own name, n letters from l on; k regions were laid out before
      unfoldable pub refine_b : (ℕ → ℕ → ℕ → ℕ → RegionHead → Board → Board) → ℕ → ℕ → ℕ → ℕ → ℕ → Board → Board
      refine_b rec st up l n k b =
          with (number_in s b.c.next) λ x q.
          cond (eqb x absent) (close_state st k q b)
          (fed (rec st up l n (machine_as s 0 (get_or to x 0)) b) λ d. close_state st (tally k b.c.words d.c.words) q d)

      -- the state where the board stands, in the region `up`, under the prefix of m letters from a on
      unfoldable pub layout_state : (ℕ → ℕ → ℕ → ℕ → RegionHead → Board → Board) → ℕ → ℕ → ℕ → Board → Board
      layout_state rec up a m b =
          inner (region_b rec b.c.words up a m) (regions_at b.c.next).value 0 (open_state a m b) λ k d.
          refine_b rec b.c.words up (sum b.c.letters 1) (letters_of a m b) k d

      -- a region with so many levels left; of the regions without states only the first is laid out
      unfoldable pub layout_region : ℕ → ℕ → ℕ → ℕ → ℕ → RegionHead → Board → Board
      layout_region zero st up a m h b = passed 0 b
      layout_region (suc l) st up a m h b =
          cond (eqb h.states 0 && b.c.hole) (passed h.next b)
          (close_region b.c.words (times (layout_state (layout_region l) b.c.regions a m) h.states (open_region st up a m h b)))

      -- the machine whose initial state stands at `at`, from the tables' first entries on; the top region keeps its state
      unfoldable pub layout_machine : ℕ → List ℕ → List ℕ → List ℕ → Board
      layout_machine at t reg qualified = layout_region max_level 0 0 0 0 (machine_as s 1 at) (board t reg qualified (layout_t 0 0 0 0 false))

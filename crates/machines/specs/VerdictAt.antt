-- Internal: nothing here has to be believed; laws tie it to what docs/TRUSTED.md lists.
-- What the code judges of a machine, from its answers on the way: a kind and where the names stand.
use Rattle.std.specs.Prelude.{ℕ, zero, suc, ◌+◌, List, false, cond, length, get_or, take, eqb, leb, ltb, Result, Ok, Err, Option, Some, None}
use Rattle.pack_rules.specs.Names.{Name}
use Rattle.pack_rules.specs.Read.{port_in}
use Rattle.pack_rules.specs.Limits.{absent, max_level}
use Rattle.machines.specs.declared.verdicts.NameRef.{NameRef}
use Rattle.machines.specs.declared.verdicts.VerdictRow.{VerdictRow}
use Rattle.machines.specs.declared.verdicts.Refusal.{Refusal}
use Rattle.machines.specs.declared.verdicts.Refusal.TheVariants as no
use Rattle.machines.specs.declared.validate.Checked.{Checked}
use Rattle.machines.specs.declared.validate.Checked.TheVariants as ck
use Rattle.machines.specs.declared.resolve.Resolved.{Resolved}
use Rattle.machines.specs.declared.resolve.Resolved.TheVariants as wk
use Rattle.machines.specs.ResolvedIn.{end_of}
use Rattle.machines.specs.CheckedReads.{number_in, with}
use Rattle.machines.specs.Tables.{initial_in, outputs_in}
use Rattle.machines.specs.ResolveAt.{machine_w}
use Rattle.machines.specs.LayoutAt.{Board, board, layout_machine, layout_t}
use Rattle.machines.specs.ValidateAt.{checked_region}
use Rattle.machines.specs.Duplicates.{duplicate_at}
use Rattle.machines.specs.CoverAt.{uncovered_t}

-- no name; a name of the pack; the name of the state at a word; a name as it is called in the region at a word
abbrev pub no_name : NameRef
no_name = record { letter = 0; letters = 0; name = absent }

abbrev pub named : ℕ → NameRef
named x = record { letter = 0; letters = 0; name = x }

abbrev pub state_called : List ℕ → ℕ → NameRef
state_called t p = record { letter = get_or t (p + 2) 0; letters = get_or t (p + 3) 0; name = absent }

abbrev pub called_at : List ℕ → ℕ → ℕ → NameRef
called_at t q x = record { letter = get_or t (q + 2) 0; letters = get_or t (q + 3) 0; name = x }

-- the name whose length byte stands at d
unfoldable pub again_called : List ℕ → ℕ → NameRef
again_called qualified d = cond (leb 4294967296 d) no_name (record { letter = d + 1; letters = get_or qualified d 0; name = absent })

-- the entry of a refusal of the kind k, with the names a and b after the machine's own
abbrev pub refused_by : ℕ → NameRef → NameRef → VerdictRow
refused_by k a b = record { kind = k; second = a; third = b }

-- the entry of each refusal
abbrev pub row_of : Refusal → VerdictRow
row_of no.NoStates = refused_by 1 no_name no_name
row_of (no.UnknownInitialState n) = refused_by 2 n no_name
row_of (no.UnknownTarget p n) = refused_by 3 p n
row_of (no.OutputUnassigned o p) = refused_by 4 (named o) p
row_of (no.DuplicateState n) = refused_by 5 n no_name
row_of (no.UnknownRefine p m) = refused_by 6 (named p) (named m)
row_of (no.RefineCycle m) = refused_by 7 (named m) no_name
row_of (no.UnknownOwner o) = refused_by 8 (named o) no_name
row_of no.TooLarge = refused_by 17 no_name no_name

-- what is judged of a machine: how many regions it has, or why it is refused
abbrev pub Judged : Type 0
Judged = Result ℕ Refusal

-- the output x, which the state at a word does not give, or else j
unfoldable pub unless_missed : List ℕ → ℕ → Option ℕ → Judged → Judged
unless_missed t x (Some p) j = Err (no.OutputUnassigned x (state_called t p))
unless_missed t x None j = j

-- a name that stands twice in so many letters, or the end of a table that holds fewer, or else j
unfoldable pub unless_again : List ℕ → ℕ → Option ℕ → Judged → Judged
unless_again qualified letters (Some d) j = Err (no.DuplicateState (again_called qualified d))
unless_again qualified letters None j = cond (ltb (length qualified) letters) (Err (no.DuplicateState (again_called qualified (length qualified)))) j

module _ (ns : List Name) (s t : List ℕ) where
  -- n outputs from the offset p on: the first that a state does not give
  unfoldable pub outputs_j : ℕ → ℕ → ℕ → Judged
  outputs_j regions zero p = Ok regions
  outputs_j regions (suc n) p =
      unless_missed t (number_in s p).value (uncovered_t ns s t (number_in s p).value max_level 0) (outputs_j regions n (end_of (port_in ns s p)))

  -- the outputs whose count stands at `at`
  unfoldable pub outputs_at : ℕ → ℕ → Judged
  outputs_at at regions = with (number_in s at) λ n p. outputs_j regions n p

  -- initial states and targets, then the outputs
  unfoldable pub checked_j : Checked → ℕ → ℕ → Judged
  checked_j ck.Fine at regions = outputs_at at regions
  checked_j (ck.Initial q) at regions = Err (no.UnknownInitialState (called_at t q (get_or t q 0)))
  checked_j (ck.Target p q x) at regions = Err (no.UnknownTarget (state_called t p) (called_at t q x))

  -- a machine that is laid out: no states, then a name that stands twice, then the rest
  unfoldable pub laid_j : List ℕ → ℕ → ℕ → ℕ → Judged
  laid_j qualified letters regions outputs =
      cond (eqb (get_or t 6 0) 0) (Err no.NoStates)
      (unless_again qualified letters (duplicate_at (take letters qualified)) (checked_j (checked_region ns s t max_level 0) outputs regions))

module _ (ns : List Name) (s offsets to : List ℕ) where
  -- resolving comes first
  unfoldable pub walked_j : Resolved → Judged → Judged
  walked_j (wk.Went q c a) j = j
  walked_j (wk.Cycle n) j = Err (no.RefineCycle n)
  walked_j (wk.Unknown i m) j = Err (no.UnknownRefine i m)
  walked_j wk.Large j = Err no.TooLarge

  -- and the tables: b where resolving came through, d where it stopped
  unfoldable pub walked_b : Resolved → Board → Board → Board
  walked_b (wk.Went q c a) b d = b
  walked_b (wk.Cycle n) b d = d
  walked_b (wk.Unknown i m) b d = d
  walked_b wk.Large b d = d

  -- the machine at the offset `at`: its walk, its layout, what is judged of it, and the tables after
  unfoldable pub walk_at : ℕ → Resolved
  walk_at at = with (number_in s at) λ m o. machine_w ns s offsets to m (initial_in ns s o)

  unfoldable pub lay_at : ℕ → List ℕ → List ℕ → List ℕ → Board
  lay_at at t reg qualified = layout_machine ns s offsets to (initial_in ns s (number_in s at).next) t reg qualified

  unfoldable pub laid_at : ℕ → Board → Judged
  laid_at at b = laid_j ns s b.t b.qualified b.c.letters b.c.regions (outputs_in ns s (number_in s at).next)

  unfoldable pub judge_at : ℕ → List ℕ → List ℕ → List ℕ → Judged
  judge_at at t reg qualified = walked_j (walk_at at) (laid_at at (lay_at at t reg qualified))

  unfoldable pub board_at : ℕ → List ℕ → List ℕ → List ℕ → Board
  board_at at t reg qualified = walked_b (walk_at at) (lay_at at t reg qualified) (board t reg qualified (layout_t 0 0 0 0 false))

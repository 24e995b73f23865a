-- Internal: nothing here has to be believed; laws tie it to what docs/TRUSTED.md lists.
-- The locals of an activation as the code goes over them: each is written, counted, and left to the owner's next activation.
use Rattle.std.specs.Prelude.{ℕ, zero, suc, ◌+◌, ◌-◌, ◌%◌, List, [], ◌∷◌, Bool, cond, length, get_or, ltb}
use Rattle.wire.specs.Writer.{State, puts, st, state_of}
use Rattle.wire.specs.Bytes.{word_range}
use Rattle.pack_rules.specs.Names.{Name}
use Rattle.pack.specs.Intern.{put_built}
use Rattle.pack_rules.specs.Limits.{max_name}
use Rattle.machines.specs.CheckedReads.{number_in, with}
use Rattle.machines.specs.Fingerprints.{among}
use Rattle.machines.specs.EmitAt.{pack_name}
use Rattle.activations.specs.declared.made_names.Var.{Var}
use Rattle.activations.specs.declared.made_names.Var.TheVariants as vr
use Rattle.activations.specs.declared.parts.Act.{Act}
use Rattle.activations.specs.declared.locals.Passed.{Passed}
use Rattle.activation_rules.specs.MadeNames.{last_var, value_var}
use Rattle.activations.specs.Vars.{branch_var, scope_at}
use Rattle.activations.specs.Cells.{put_t}
use Rattle.activations.specs.Places.{body_in, branch_end, equation_end, first_left_in}
use Rattle.activations.specs.Lookups.{place_built, place_in}
use Rattle.activations.specs.TypeCodes.{typed_t, value_type_t}
use Rattle.activations.specs.TypesAt.{type_bytes}
use Rattle.activations.specs.NameIdsAt.{sample_name_t}
use Rattle.activations.specs.FreeVarsAt.{free_vars_at, join_t}

-- what a pass over locals carries: the types that the next activation sees, the writer's state, how many locals there were, by 16 bits
pub record Left : Type 0 where
  pub later : List ℕ
  pub state : State
  pub count : ℕ

-- the same from a table of types, a writer's two buffers, and the writer and the count that the code passes on
abbrev pub left_of : List ℕ → List ℕ → List ℕ → Passed → Left
left_of l o m p = record { later = l; state = state_of o m p.w; count = p.count }

-- one local more, by 16 bits
unfoldable pub more_t : ℕ → ℕ
more_t n = (n % word_range + 1) % word_range

-- a type's code for the name of index x, where it is an old one
unfoldable pub leave_t : ℕ → ℕ → ℕ → List ℕ → List ℕ
leave_t names x c t = cond (ltb x names) (put_t t x c) t

-- a name as a writer of a name's limit holds it
unfoldable pub built : Name → State
built x = puts x (st max_name 0 [] [])

-- a pack's names and bytes, the old names' bytes, whether some are made
module _ (ns : List Name) (s old : List ℕ) (made : Bool) where
  -- a local of the name that a writer holds and of the type of the code c
  unfoldable pub local_t : State → ℕ → Left → Left
  local_t x c z = record {
    later = leave_t (length ns) (place_built (place_in old) (length ns) made x) c z.later;
    state = puts (type_bytes ns s c) (put_built old x z.state);
    count = more_t z.count;
  }

  -- the same of the name x
  unfoldable pub named_t : Name → ℕ → Left → Left
  named_t x c z = local_t (built x) c z

  -- an activation's name
  module _ (a : Name) where
    -- a variable made for the branch k, of type Bool
    unfoldable pub branch_local_t : Var → ℕ → Left → Left
    branch_local_t v k z = named_t (branch_var v a k) 1 z

    -- of n branches from k on: the flags, of which the last has one only; the clocks
    unfoldable pub flag_locals_t : ℕ → ℕ → Left → Left
    flag_locals_t k zero z = z
    flag_locals_t k (suc zero) z = branch_local_t vr.Flag k z
    flag_locals_t k (suc (suc n)) z = flag_locals_t (suc k) (suc n) (branch_local_t vr.Untaken k (branch_local_t vr.Flag k z))

    unfoldable pub clock_locals_t : ℕ → ℕ → Left → Left
    clock_locals_t k zero z = z
    clock_locals_t k (suc n) z = clock_locals_t (suc k) n (branch_local_t vr.Clock k z)

    -- where names stand, the holders' rows, the types of variables
    module _ (offsets lasts env : List ℕ) where
      -- the holder whose row begins at h, and n from there on
      unfoldable pub holder_local_t : ℕ → Left → Left
      holder_local_t h z = named_t (last_var a (pack_name s offsets (get_or lasts h 0))) (get_or env (get_or lasts (h + 2) 0) 0) z

      unfoldable pub holder_locals_t : ℕ → ℕ → Left → Left
      holder_locals_t h zero z = z
      holder_locals_t h (suc n) z = holder_locals_t (h + 3) n (holder_local_t h z)

    -- where names stand, the types of variables and outputs; the scope k of n branches
    module _ (offsets env outs : List ℕ) (n : ℕ) where
      -- the sample of the name of number x in the scope k
      unfoldable pub sample_local_t : ℕ → ℕ → Left → Left
      sample_local_t k x z = named_t (sample_name_t s offsets (length ns) a n k x) (typed_t env outs (length ns) x) z

      -- of these those that the scope has not sampled yet
      unfoldable pub new_local_t : ℕ → List ℕ → ℕ → Left → Left
      new_local_t k sampled x z = cond (among x sampled) z (sample_local_t k x z)

      unfoldable pub new_locals_t : ℕ → List ℕ → List ℕ → Left → Left
      new_locals_t k sampled [] z = z
      new_locals_t k sampled (x ∷ xs) z = new_locals_t k sampled xs (new_local_t k sampled x z)

      -- the value of the equation at p
      unfoldable pub value_local_t : ℕ → ℕ → Left → Left
      value_local_t k p z = named_t (value_var a (scope_at n k) (pack_name s offsets (first_left_in s p))) (value_type_t env outs (length ns) (first_left_in s p)) z

      -- the equation at p, which reads these
      unfoldable pub equation_local_t : ℕ → List ℕ → List ℕ → ℕ → Left → Left
      equation_local_t k ids sampled p z = value_local_t k p (new_locals_t k sampled ids z)

      -- the index of `last`, the holders' rows
      module _ (last : ℕ) (lasts : List ℕ) (rows : ℕ) where
        -- c equations from p on
        unfoldable pub equation_locals_t : ℕ → ℕ → ℕ → List ℕ → Left → Left
        equation_locals_t k zero p sampled z = z
        equation_locals_t k (suc c) p sampled z =
            equation_locals_t k c (equation_end ns s p) (join_t (free_vars_at lasts rows env outs (length ns) ns s last p) sampled) (equation_local_t k (free_vars_at lasts rows env outs (length ns) ns s last p) sampled p z)

        -- the scope k, whose count of equations stands at an offset
        unfoldable pub scope_locals_t : ℕ → ℕ → Left → Left
        scope_locals_t k at z = with (number_in s at) λ c p. equation_locals_t k c p [] z

        -- c branches from p on, the first of them k
        unfoldable pub branch_locals_t : ℕ → ℕ → ℕ → Left → Left
        branch_locals_t k zero p z = z
        branch_locals_t k (suc c) p z = branch_locals_t (suc k) c (branch_end ns s p) (scope_locals_t k (body_in ns s p) z)

    -- all locals of an activation
    module _ (offsets env outs : List ℕ) (last : ℕ) (lasts : List ℕ) (rows : ℕ) where
      -- holders, flags, clocks from the second branch on, then the samples and values of each branch and of the else scope
      unfoldable pub act_locals_t : Act → Left → Left
      act_locals_t A z =
          scope_locals_t offsets env outs A.n last lasts rows A.n A.other
          (branch_locals_t offsets env outs A.n last lasts rows 0 A.n (number_in s A.branches).next
          (clock_locals_t 1 (A.n - 1)
          (flag_locals_t 0 A.n
          (holder_locals_t offsets lasts env 0 rows z))))

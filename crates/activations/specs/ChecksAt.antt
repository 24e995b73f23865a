-- Internal: nothing here has to be believed; laws tie it to what docs/TRUSTED.md lists.
-- The checks of an activation as the code makes them, by a table of names.
use Rattle.std.specs.Prelude.{ℕ, zero, suc, List, [], ◌∷◌, ◌++◌, Bool, cond, ◌&&◌, ◌||◌, length, get_or, eqb, ltb}
use Rattle.std.proofs.Math.Option.{Option, none, some}
use Rattle.pack_rules.specs.Names.{Name}
use Rattle.pack_rules.specs.Forms.{name_at}
use Rattle.pack_rules.specs.Report.{Refusal}
use Rattle.pack_rules.specs.Read.{equation_in, port_in}
use Rattle.machines.specs.ResolvedIn.{end_of}
use Rattle.machines.specs.CheckedReads.{number_in, with}
use Rattle.activations.specs.declared.parts.Act.{Act}
use Rattle.activations.specs.declared.checks.Refused.{Refused}
use Rattle.activation_rules.specs.Checks.{else_name}
use Rattle.activations.specs.Cells.{clear_t, put_t}
use Rattle.activations.specs.Places.{along, any_t, body_in, branch_end, each_of}
use Rattle.activations.specs.BadLastsAt.{any_bad_last_t, any_branch_t}
use Rattle.activations.specs.Passes.{pass_t}

-- past the equation at p
unfoldable pub over_equation : List Name → List ℕ → ℕ → ℕ
over_equation ns s p = end_of (equation_in ns s p)

-- a refusal by its kind, 0 for none, and the numbers of the names after the activation's own
abbrev pub refused_t : ℕ → ℕ → ℕ → Refused
refused_t k x y = record { kind = k; second = x; third = y }

-- a name by its number: the number of names is none, one more is `else`
unfoldable pub called : List Name → ℕ → List Name
called ns x = cond (ltb x (length ns)) (name_at ns x ∷ []) (cond (eqb x (length ns)) [] (else_name ∷ []))

-- the refusal of the activation a, where it is one
unfoldable pub refusal_by : List Name → Name → Refused → Option Refusal
refusal_by ns a r = cond (eqb r.kind 0) none (some (record { kind = r.kind; names = a ∷ (called ns r.second ++ called ns r.third) }))

-- the scope k has the equation at p: a single left name that all scopes before assign is assigned in one more
unfoldable pub assign_t : List ℕ → ℕ → ℕ → List ℕ → List ℕ
assign_t s k p t = with (number_in s p) λ l q. with (number_in s q) λ x r. cond (eqb l 1 && eqb (get_or t x 0) k) (put_t t x (suc k)) t

module _ (ns : List Name) (s : List ℕ) where
  -- of n branches from p on the name of the first that the table has already, the number of names where there is none
  unfoldable pub repeated_t : ℕ → ℕ → List ℕ → ℕ
  repeated_t zero p t = length ns
  repeated_t (suc n) p t = with (number_in s p) λ i q. cond (eqb (get_or t i 0) 0) (repeated_t n (branch_end ns s p) (put_t t i 1)) i

  -- of all, whose count stands at `at`
  unfoldable pub repeated_in : ℕ → List ℕ → ℕ
  repeated_in at t = with (number_in s at) λ n p. repeated_t n p (clear_t (length ns) t)

  -- the scope k, whose count of equations stands at `at`
  unfoldable pub assign_scope_t : ℕ → ℕ → List ℕ → List ℕ
  assign_scope_t k at t = with (number_in s at) λ n p. each_of (assign_t s k) (over_equation ns s) n p t

  -- for each name the first scope that does not assign it
  unfoldable pub assign_branches_t : ℕ → List ℕ → List ℕ
  assign_branches_t at t = with (number_in s at) λ n p. pass_t (λ m k q z. assign_scope_t k (body_in ns s q) z) (branch_end ns s) n 0 p t

  -- the same with the else scope after the branches, from a table of zeros
  unfoldable pub assigned_t : Act → List ℕ → List ℕ
  assigned_t a t = assign_scope_t a.n a.other (assign_branches_t a.branches (clear_t (length ns) t))

  -- the name of the scope k; the else scope follows the n branches
  unfoldable pub scope_name_t : Act → ℕ → ℕ
  scope_name_t a k = cond (ltb k a.n) (with (number_in s a.branches) λ n p. (number_in s (along (branch_end ns s) k p)).value) (suc (length ns))

  -- of n outputs from p on the first that some scope does not assign
  unfoldable pub unassigned_t : Act → List ℕ → ℕ → ℕ → Refused
  unassigned_t a t zero p = refused_t 0 (length ns) (length ns)
  unassigned_t a t (suc n) p =
      with (number_in s p) λ o q.
      cond (ltb a.n (get_or t o 0)) (unassigned_t a t n (end_of (port_in ns s p))) (refused_t 11 o (scope_name_t a (get_or t o 0)))

  -- of all outputs of an activation
  unfoldable pub in_scopes_t : Act → List ℕ → Refused
  in_scopes_t a t = with (number_in s a.outputs) λ n p. unassigned_t a (assigned_t a t) n p

  -- whether a scope has an equation without left names
  unfoldable pub nameless_t : ℕ → Bool
  nameless_t p = eqb (number_in s p).value 0

  unfoldable pub scope_has_empty_left_t : ℕ → Bool
  scope_has_empty_left_t at = with (number_in s at) λ n p. any_t nameless_t (over_equation ns s) n p

  -- whether one of an activation's scopes has one
  unfoldable pub has_empty_left_t : Act → Bool
  has_empty_left_t a = any_branch_t ns s (λ p. scope_has_empty_left_t (body_in ns s p)) a.branches || scope_has_empty_left_t a.other

  -- a refusal, or what comes after it
  unfoldable pub or_else_t : Refused → Refused → Refused
  or_else_t r x = cond (eqb r.kind 0) x r

  -- all checks in order
  unfoldable pub checks_t : ℕ → Act → List ℕ → List ℕ → Refused
  checks_t last a t u =
      cond (eqb a.n 0) (refused_t 9 (length ns) (length ns))
      (cond (eqb (number_in s a.outputs).value 0) (refused_t 10 (length ns) (length ns))
      (cond (ltb (repeated_in a.branches t) (length ns)) (refused_t 12 (repeated_in a.branches t) (length ns))
      (or_else_t (in_scopes_t a u)
      (cond (any_bad_last_t ns s last a) (refused_t 14 (length ns) (length ns)) (refused_t 0 (length ns) (length ns))))))

-- What the code writes of the branches' flags are the equations of the definition.
use Prim.Native.Nat.{ℕ, zero, suc, ◌<◌, ◌≤◌}
use native.Mathlib.Omega.{arith}
use mathlib.Core.List.{List, [], ◌∷◌, ◌++◌, append_assoc, append-nil}
use mathlib.Core.Option.{none}
use mathlib.Core.Path.{◌≡◌, refl, sym, ap, ◌∙◌}
use lib.ListN.{length}
use borrow.Author.Tests.{lt-ltb}
use Rattle.wire.specs.Answer.{many, value}
use Rattle.wire.specs.Lists.{All, Bytes}
use Rattle.wire.specs.Writer.{State}
use Rattle.pack_rules.specs.Names.{Name}
use Rattle.pack_rules.specs.Syntax.{Activation, Branch, Expr, e_unary, o_not}
use Rattle.pack_rules.specs.Forms.{name_at}
use Rattle.pack_rules.specs.Legal.{Fresh, LegalName}
use Rattle.pack_rules.specs.Read.{activation_in, branch_in, expr_in}
use Rattle.pack_rules.specs.Write.{Item, bin_byte, each, equation_items, expr_items, list, name_items, raw, un_byte}
use Rattle.pack.specs.Table.{tabled}
use Rattle.pack.specs.Intern.{render}
use Rattle.pack.proofs.Interns.{render-append}
use Rattle.machines.specs.CheckedReads.{number_in}
use Rattle.machines.specs.EmitAt.{pack_name}
use Rattle.machines.proofs.Reading.{many-cut, many_more, many-over}
use Rattle.machines.proofs.CheckedReadLaws.{number-to, then_to}
use Rattle.activation_rules.specs.MadeNames.{flag_var, none_var}
use Rattle.activation_rules.specs.Defines.{eqn}
use Rattle.activation_rules.specs.RewriteLast.{conditions_of, rewrite_last}
use Rattle.activation_rules.specs.Flags.{and_also, flag_equations}
use Rattle.activations.specs.Places.{act_at, branch_end}
use Rattle.activations.specs.Walks.{LastIs}
use Rattle.activations.specs.Passes.{pass_t}
use Rattle.activations.specs.FlagsAt.{branch_flags_t, flag_items, flag_t, flags_t, none_flag_items, none_flag_t, prior_items, prior_of}
use Rattle.activations.specs.declared.parts.Act.{Act}
use Rattle.activations.proofs.ActRead.{BranchRead, act-to, activation-value, branch-end-to, branch-number-to, branch-value}
use Rattle.activations.proofs.RewriteLastWritten.{unlast-written}

-- a condition after what stands before it
prior-items : (a : Name) (k : ℕ) (c : Expr) → expr_items (and_also (prior_of a k) c) ≡ prior_items a k ++ expr_items c
unfolding prior_of prior_items and_also expr_items bin_byte
prior-items a zero c = refl
prior-items a (suc k) c = refl

flag-items : (a : Name) (k : ℕ) (c : Expr) → equation_items (eqn (flag_var a k) (and_also (prior_of a k) c)) ≡ flag_items a k ++ expr_items c
unfolding equation_items eqn flag_items
flag-items a k c = ap (λ (l : List Item). list name_items (flag_var a k ∷ []) ++ l) (prior-items a k c) ∙ sym (append_assoc (list name_items (flag_var a k ∷ [])) (prior_items a k) (expr_items c))

not-items : (c : Expr) → expr_items (e_unary o_not c) ≡ (raw (2 ∷ 0 ∷ []) ∷ []) ++ expr_items c
unfolding expr_items un_byte
not-items c = refl

untaken-items : (a : Name) (k : ℕ) (c : Expr) → equation_items (eqn (none_var a k) (and_also (prior_of a k) (e_unary o_not c))) ≡ none_flag_items a k ++ expr_items c
unfolding equation_items eqn none_flag_items
untaken-items a k c =
    ap (λ (l : List Item). list name_items (none_var a k ∷ []) ++ l)
    (prior-items a k (e_unary o_not c) ∙ ap (λ (l : List Item). prior_items a k ++ l) (not-items c) ∙ sym (append_assoc (prior_items a k) (raw (2 ∷ 0 ∷ []) ∷ []) (expr_items c)))
    ∙ sym (append_assoc (list name_items (none_var a k ∷ [])) (prior_items a k ++ (raw (2 ∷ 0 ∷ []) ∷ [])) (expr_items c))

module _ (ns : List Name) (fresh : Fresh [] ns) (few : length ns < 65536) (legal : All LegalName ns) (s : List ℕ) (by : Bytes s) (short : length s ≤ 65536) (last : ℕ) (L : LastIs ns last)
    (offsets : List ℕ) (placed : (i : ℕ) → i < length ns → pack_name s offsets i ≡ name_at ns i) (a : Name) where
  -- one flag, and that none is taken
  flag-written : (k at : ℕ) (c : Expr) (q : ℕ) (z : State) → expr_in ns s at ≡ value c q → flag_t ns s last (tabled ns) offsets a k at z ≡ render (tabled ns) (equation_items (eqn (flag_var a k) (and_also (prior_of a k) (rewrite_last a c)))) z
  unfolding flag_t
  flag-written k at c q z d =
      unlast-written ns fresh few legal s by short last L offsets placed a at c q (render (tabled ns) (flag_items a k) z) d
      ∙ sym (ap (λ (is : List Item). render (tabled ns) is z) (flag-items a k (rewrite_last a c)) ∙ render-append (tabled ns) (flag_items a k) (expr_items (rewrite_last a c)) z)

  untaken-written : (n k at : ℕ) (c : Expr) (q : ℕ) (z : State) → 1 < n → expr_in ns s at ≡ value c q
      → none_flag_t ns s last (tabled ns) offsets a n k at z ≡ render (tabled ns) (equation_items (eqn (none_var a k) (and_also (prior_of a k) (e_unary o_not (rewrite_last a c))))) z
  unfolding none_flag_t
  untaken-written n k at c q z l d =
      rw (lt-ltb 1 n l)
      (unlast-written ns fresh few legal s by short last L offsets placed a at c q (render (tabled ns) (none_flag_items a k) z) d
      ∙ sym (ap (λ (is : List Item). render (tabled ns) is z) (untaken-items a k (rewrite_last a c)) ∙ render-append (tabled ns) (none_flag_items a k) (expr_items (rewrite_last a c)) z))

  untaken-last : (k at : ℕ) (z : State) → none_flag_t ns s last (tabled ns) offsets a 1 k at z ≡ z
  unfolding none_flag_t
  untaken-last k at z = refl

  flags-from : ℕ → List Branch → List Item
  flags-from k bs = each equation_items (flag_equations a (prior_of a k) k (conditions_of a bs))

  -- both of a branch that was read
  branch_to : (n k at : ℕ) (b : Branch) (q : ℕ) (z : State) (r : BranchRead ns s at b q) → branch_flags_t ns s last (tabled ns) offsets a n k at z ≡ none_flag_t ns s last (tabled ns) offsets a n k r.to-condition (flag_t ns s last (tabled ns) offsets a k r.to-condition z)
  unfolding branch_flags_t
  branch_to n k at b q z r = then_to (number_in s at) (branch-number-to ns s at b q r).0 r.to-condition _ (branch-number-to ns s at b q r).3

  last_written : (k at : ℕ) (b : Branch) (q : ℕ) (z : State) → branch_in ns s at ≡ value b q → branch_flags_t ns s last (tabled ns) offsets a 1 k at z ≡ render (tabled ns) (flags-from k (b ∷ [])) z
  unfolding flags-from flag_equations conditions_of each
  last_written k at b q z e =
      let r = branch-value ns s at b q e in
      branch_to 1 k at b q z r
      ∙ untaken-last k r.to-condition (flag_t ns s last (tabled ns) offsets a k r.to-condition z)
      ∙ flag-written k r.to-condition b.condition r.to-equations z r.condition
      ∙ ap (λ (is : List Item). render (tabled ns) is z) (sym (append-nil (equation_items (eqn (flag_var a k) (and_also (prior_of a k) (rewrite_last a b.condition))))))

  two-written : (n k at : ℕ) (b : Branch) (q : ℕ) (z : State) (is : List Item) → 1 < n → branch_in ns s at ≡ value b q
      → render (tabled ns) is (branch_flags_t ns s last (tabled ns) offsets a n k at z) ≡ render (tabled ns) (equation_items (eqn (flag_var a k) (and_also (prior_of a k) (rewrite_last a b.condition))) ++ (equation_items (eqn (none_var a k) (and_also (prior_of a k) (e_unary o_not (rewrite_last a b.condition)))) ++ is)) z
  two-written n k at b q z is l e =
      let r = branch-value ns s at b q e in
      let f = equation_items (eqn (flag_var a k) (and_also (prior_of a k) (rewrite_last a b.condition))) in
      let g = equation_items (eqn (none_var a k) (and_also (prior_of a k) (e_unary o_not (rewrite_last a b.condition)))) in
      ap (render (tabled ns) is)
      (branch_to n k at b q z r
      ∙ untaken-written n k r.to-condition b.condition r.to-equations (flag_t ns s last (tabled ns) offsets a k r.to-condition z) l r.condition
      ∙ ap (render (tabled ns) g) (flag-written k r.to-condition b.condition r.to-equations z r.condition))
      ∙ sym (render-append (tabled ns) f (g ++ is) z ∙ render-append (tabled ns) g is (render (tabled ns) f z))

  branches-written : (n k at : ℕ) (bs : List Branch) (q : ℕ) (z : State) → many (branch_in ns s) n at ≡ value bs q
      → pass_t (branch_flags_t ns s last (tabled ns) offsets a) (branch_end ns s) n k at z ≡ render (tabled ns) (flags-from k bs) z
  unfolding pass_t flags-from flag_equations conditions_of each render prior_of
  branches-written zero k at [] q z e = refl
  branches-written zero k at (b ∷ bs) q z e = absurd (many-cut (branch_in ns s) at b bs q e)
  branches-written (suc n) k at [] q z e = absurd (many-over (branch_in ns s) n at q e)
  branches-written (suc zero) k at (b ∷ []) q z e = let m = many_more (branch_in ns s) 0 at b [] q e in last_written k at b m.0 z m.1
  branches-written (suc zero) k at (b ∷ d ∷ bs) q z e = let m = many_more (branch_in ns s) 0 at b (d ∷ bs) q e in absurd (many-cut (branch_in ns s) m.0 d bs q m.2)
  branches-written (suc (suc n)) k at (b ∷ []) q z e = let m = many_more (branch_in ns s) (suc n) at b [] q e in absurd (many-over (branch_in ns s) n m.0 q m.2)
  branches-written (suc (suc n)) k at (b ∷ d ∷ bs) q z e =
      let m = many_more (branch_in ns s) (suc n) at b (d ∷ bs) q e in
      ap (λ (p : ℕ). pass_t (branch_flags_t ns s last (tabled ns) offsets a) (branch_end ns s) (suc n) (suc k) p (branch_flags_t ns s last (tabled ns) offsets a (suc (suc n)) k at z)) (branch-end-to ns s at b m.0 (branch-value ns s at b m.0 m.1))
      ∙ branches-written (suc n) (suc k) m.0 (d ∷ bs) q (branch_flags_t ns s last (tabled ns) offsets a (suc (suc n)) k at z) m.2
      ∙ two-written (suc (suc n)) k at b m.0 z (flags-from (suc k) (d ∷ bs)) (omega arith) m.1

  -- THE LINK: the flags of the activation that was read there
  pub flags-written : (at : ℕ) (x : Activation) (q : ℕ) (z : State) → activation_in ns s at ≡ value x q → flags_t ns s last (tabled ns) offsets a (act_at ns s at).branches z ≡ render (tabled ns) (each equation_items (flag_equations a none 0 (conditions_of a x.branches))) z
  unfolding flags_t flags-from prior_of
  flags-written at x q z e =
      let r = activation-value ns s at x q e in
      ap (λ (y : Act). flags_t ns s last (tabled ns) offsets a y.branches z) (act-to ns s at x q r).3
      ∙ number-to s r.to-branches (length x.branches) r.b _ r.count
      ∙ branches-written (length x.branches) 0 r.b x.branches r.to-else z r.branches

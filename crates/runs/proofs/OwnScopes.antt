-- Scopes on their own cycles, one activation: its outputs over their scopes' own cycles, and what `last` holds.
use Prim.Native.Nat.{◌<◌, suc, zero, ℕ}
use mathlib.Core.List.{List, [], ◌++◌, ◌∷◌}
use mathlib.Core.Bool.{Bool, ◌&&◌, cond, false, true}
use mathlib.Core.Option.{Option, some-injective, some-ne-none, none, some}
use mathlib.Core.Path.{◌∙◌, ◌≡◌, ap, refl, subst, sym}
use lib.ListN.{length}
use Rattle.pack_rules.specs.Names.{Name, member}
use Rattle.pack_rules.specs.Syntax.{Activation, Branch, Enum, Equation, Expr, Node, Port}
use Rattle.machine_rules.specs.Lower.{is_only, own_value}
use Rattle.machines.proofs.Accepted.{first-none}
use Rattle.activation_rules.specs.Checks.{branchless, checks, outputless}
use Rattle.activation_rules.specs.Clocks.{guard_equations}
use Rattle.activation_rules.specs.Defines.{eqn}
use Rattle.activation_rules.specs.Flags.{flag_equations}
use Rattle.activation_rules.specs.Lower.{act_equations, tail_of}
use Rattle.activation_rules.specs.MadeNames.{Scope, act_prefix, branch, clock_var, else_scope, last_var}
use Rattle.activation_rules.specs.Merges.{merge_equations, merge_from}
use Rattle.activation_rules.specs.FreeVars.{free_vars, reads_of}
use Rattle.activation_rules.specs.Refusals.{no_outputs}
use Rattle.activation_rules.specs.Scopes.{branch_equations, scope_equations}
use Rattle.activation_rules.specs.Sought.{bodies, conditions, expressions, found, right_sides}
use Rattle.activation_rules.specs.Types.{port_names, readable, variables}
use Rattle.activation_rules.specs.RewriteLast.{conditions_of, rewrite_last}
use Rattle.runs.specs.Claim.{may_read}
use Rattle.runs.specs.OwnCycles.{LastMeans, OwnRun, OwnRuns, ScopesRun}
use Rattle.run_rules.specs.Visits.{asks, calls_of, Every, has_source, last_value, scope_is, ScopePremises, side_of, sides_of, simple, visit_value}
use Rattle.run_rules.specs.Premises.{PortsPresent, Present, starts_with}
use Rattle.run_rules.specs.Run.{Run, Agrees, eval, every, Satisfies}
use Rattle.run_rules.specs.Scopes.{Conditions, choice, chosen, eq_scope, scope_clock, scope_in}
use Rattle.runs.proofs.Accepting.{act_accepted, all_assign, assigns, nonempty, outputs_assigned}
use Rattle.runs.proofs.ActRuns.{chosen-assigns, parts, satisfies-split}
use Rattle.runs.proofs.ActsStand.{Lowering}
use Rattle.run_rules.proofs.Booleans.{&&-true, or_split, ≡→T}
use Rattle.runs.proofs.Choosing.{scope-same}
use Rattle.runs.proofs.FullClock.{Base, Reads, Stands, branches-base, conditions-stand, holds, keep-have, scope-base}
use Rattle.runs.proofs.Held.{HeldAs, all-calls, empty, every_append, every-both, every-split, found-have, found-init, held-as, last-starts, ports-start, split, typed-member}
use Rattle.runs.proofs.LastsRead.{fits-have, reads-have}
use Rattle.runs.proofs.Narrow.{narrow-eval}
use Rattle.runs.proofs.NotRefused.{not-refused-act}
use Rattle.runs.proofs.OverSamples.{AllAllowed, Allowed, output-runs}
use Rattle.runs.proofs.Sources.{keeps-source}
use Rattle.runs.proofs.TreeRuns.{member-left, member_right}
use Rattle.pack_rules.specs.Report.{first_of}
use Rattle.activation_rules.specs.Defaults.{default_of}

names-append : (k l : List Port) → port_names (k ++ l) ≡ port_names k ++ port_names l
unfolding port_names
names-append [] l = refl
names-append (p ∷ k) l = ap (λ (z : List Name). p.name ∷ z) (names-append k l)

all-allowed : (a : Name) (vars : List Name) (es : List Equation) → Every (Allowed a vars) (right_sides es) → AllAllowed a vars es
unfolding right_sides
all-allowed a vars [] h = tt
all-allowed a vars (e ∷ es) h = (h.0, all-allowed a vars es h.1)

chosen-allowed : (C : Conditions) (a : Name) (vars : List Name) (t : ℕ) (bs : List Branch) (others : List Equation) → Every (Allowed a vars) (bodies bs) → Every (Allowed a vars) (right_sides others) → AllAllowed a vars (chosen C a t bs others)
unfolding bodies chosen
chosen-allowed C a vars t [] others h k = all-allowed a vars others k
chosen-allowed C a vars t (b ∷ bs) others h k = go (C (rewrite_last a b.condition) t) (chosen-allowed C a vars t bs others p.1 k)
  where
    p : Every (Allowed a vars) (right_sides b.equations) × Every (Allowed a vars) (bodies bs)
    p = every-split (Allowed a vars) (right_sides b.equations) (bodies bs) h

    go : (c : Bool) → AllAllowed a vars (chosen C a t bs others) → AllAllowed a vars (cond c b.equations (chosen C a t bs others))
    go true r = all-allowed a vars b.equations p.0
    go false r = r

module _ {O : Type 0} (R : Run O) (N : ℕ) (a : Name) (free : (x : Name) → starts_with act_prefix x ≡ true → R.enums x ≡ false) where
  clock-present : (bs : List Branch) → nonempty bs ≡ true → (ps : List Port) → outputless a ps ≡ none → PortsPresent R N ps → Satisfies R N (merge_equations a (conditions_of a bs) ps) → Present R N (clock_var a 0)
  unfolding nonempty outputless merge_equations conditions_of merge_from eqn
  clock-present [] n ps o b m = absurd (≡→T false n)
  clock-present (x ∷ bs) n [] o b m = absurd (some-ne-none (no_outputs a) o)
  clock-present (x ∷ bs) n (p ∷ ps) o b m = λ t lt. m.0.0.0 t lt ∙ b.0 t lt

  all-stand : (bs : List Branch) → nonempty bs ≡ true → Satisfies R N (flag_equations a none 0 (conditions_of a bs)) → Satisfies R N (guard_equations a 1 (tail_of (conditions_of a bs))) → Every (Stands R N a free) (conditions bs)
  unfolding nonempty conditions_of tail_of clock_var
  all-stand [] n h g = absurd (≡→T false n)
  all-stand (b ∷ bs) n h g = conditions-stand R N a free bs b none 0 h (λ t lt. refl) g

counted : (a : Name) (bs : List Branch) → nonempty bs ≡ true → (k : ℕ) × (length (conditions_of a bs) ≡ suc k)
unfolding nonempty conditions_of
counted a [] n = absurd (≡→T false n)
counted a (b ∷ bs) n = (length (conditions_of a bs), refl)

-- the equations of the scope of a cycle
next : Scope → Scope
next (branch k) = branch (suc k)
next else_scope = else_scope

choice-next : (C : Conditions) (t k : ℕ) (cs : List Expr) → choice C t (suc k) cs ≡ next (choice C t k cs)
unfolding choice next
choice-next C t k [] = refl
choice-next C t k (c ∷ cs) = go (C c t) (choice-next C t (suc k) cs)
  where
    go : (b : Bool) → choice C t (suc (suc k)) cs ≡ next (choice C t (suc k) cs) → cond b (branch (suc k)) (choice C t (suc (suc k)) cs) ≡ next (cond b (branch k) (choice C t (suc k) cs))
    go true r = refl
    go false r = r

scope-next : (b : Branch) (bs : List Branch) (others : List Equation) (s : Scope) → scope_is (b ∷ bs) others (next s) ≡ scope_is bs others s
unfolding scope_is next
scope-next b bs others (branch k) = refl
scope-next b bs others else_scope = other-same bs
  where
    other-same : (bs : List Branch) → scope_is (b ∷ bs) others else_scope ≡ scope_is bs others else_scope
    other-same [] = refl
    other-same (d ∷ ds) = refl

chosen-in : (C : Conditions) (a : Name) (t : ℕ) (bs : List Branch) (others : List Equation) → chosen C a t bs others ≡ scope_is bs others (choice C t 0 (conditions_of a bs))
unfolding chosen choice conditions_of scope_is
chosen-in C a t [] others = refl
chosen-in C a t (b ∷ bs) others = go (C (rewrite_last a b.condition) t) (chosen-in C a t bs others)
  where
    go : (c : Bool) → chosen C a t bs others ≡ scope_is bs others (choice C t 0 (conditions_of a bs))
        → cond c b.equations (chosen C a t bs others) ≡ scope_is (b ∷ bs) others (cond c (branch 0) (choice C t 1 (conditions_of a bs)))
    go true r = refl
    go false r = r ∙ sym (ap (scope_is (b ∷ bs) others) (choice-next C t 0 (conditions_of a bs)) ∙ scope-next b bs others (choice C t 0 (conditions_of a bs)))

chosen_is : (C : Conditions) (A : Activation) (t : ℕ) → chosen C A.name t A.branches A.else_equations ≡ scope_is A.branches A.else_equations (scope_in C A t)
unfolding scope_in
chosen_is C A t = chosen-in C A.name t A.branches A.else_equations

-- a scope's clock ticks in its cycles
ticks-there : (C : Conditions) (A : Activation) (s : Scope) (t : ℕ) → scope_in C A t ≡ s → scope_clock C A s t ≡ true
unfolding scope_clock
ticks-there C A s t p = ap (λ (x : Scope). eq_scope x s) p ∙ scope-same s

-- what is assigned has a right side
assigned : (o : Name) (es : List Equation) → assigns o es ≡ true → (e : Expr) × (own_value o es ≡ some e)
unfolding assigns own_value
assigned o [] h = absurd (≡→T false h)
assigned o (e ∷ es) h = go (is_only o e.lhs) refl (λ (k : assigns o es ≡ true). assigned o es k)
  where
    go : (b : Bool) → is_only o e.lhs ≡ b → (assigns o es ≡ true → (d : Expr) × (own_value o es ≡ some d)) → (d : Expr) × (cond b (some e.rhs) (own_value o es) ≡ some d)
    go true q r = (e.rhs, refl)
    go false q r = r (or_split (is_only o e.lhs) (assigns o es) h q)

module _ {O : Type 0} (R : Run O) (N : ℕ) (C : Conditions) (es : List Enum) (A : Activation) (owner : Node) (w : Lowering es A owner) (P : ScopePremises R N C A owner)
    (sat : Satisfies R N (act_equations A w.holders (may_read A owner w.ports))) where
  ok : act_accepted A ≡ true
  ok = not-refused-act A w.unrefused

  branches-there : (nonempty A.branches ≡ true) × (outputs_assigned A.branches A.else_equations A.outputs ≡ true)
  unfolding act_accepted
  branches-there = &&-true (nonempty A.branches) (outputs_assigned A.branches A.else_equations A.outputs) ok

  outputs-there : outputless A.name A.outputs ≡ none
  unfolding checks
  outputs-there = (first-none (outputless A.name A.outputs) _ (first-none (branchless A.name A.branches) _ w.unrefused).1).0

  holders-hold : Satisfies R N w.holders
  unfolding act_equations
  holders-hold = (satisfies-split R N w.holders _ sat).0

  own_read : (x : Name) → member x (port_names (variables owner)) ≡ true → member x (may_read A owner w.ports) ≡ true
  unfolding may_read readable
  own_read x m =
      member-left x (port_names (variables owner ++ w.ports)) (port_names A.outputs)
      (subst (λ (l : List Name). member x l ≡ true) (sym (names-append (variables owner) w.ports)) (member-left x (port_names (variables owner)) (port_names w.ports) m))

  holder-read : (x : Name) → member x (port_names w.ports) ≡ true → member x (may_read A owner w.ports) ≡ true
  unfolding may_read readable
  holder-read x m =
      member-left x (port_names (variables owner ++ w.ports)) (port_names A.outputs)
      (subst (λ (l : List Name). member x l ≡ true) (sym (names-append (variables owner) w.ports)) (member_right x (port_names (variables owner)) (port_names w.ports) m))

  read-free : (x : Name) → member x (may_read A owner w.ports) ≡ true → R.enums x ≡ false
  unfolding may_read readable
  read-free x m =
      split {P = R.enums x ≡ false} x (port_names (variables owner ++ w.ports)) (port_names A.outputs) m
      (λ q. split {P = R.enums x ≡ false} x (port_names (variables owner)) (port_names w.ports) (subst (λ (l : List Name). member x l ≡ true) (names-append (variables owner) w.ports) q)
      (λ r. P.apart x (member-left x (port_names (variables owner)) (port_names A.outputs) r))
      (λ r. P.act.free x (ports-start es A.name A.outputs (found (expressions A) []) (variables owner) w.ports w.holders w.holding x r)))
      (λ q. P.apart x (member_right x (port_names (variables owner)) (port_names A.outputs) q))

  as-held : (v : Name) → asks v (found (expressions A) []) ≡ true → HeldAs R N es A.name (variables owner) A.outputs (found (expressions A) []) v w.ports
  as-held v m = held-as R N es A.name A.outputs (found (expressions A) []) (variables owner) w.ports w.holders w.holding holders-hold v m

  held-free : (v : Name) → HeldAs R N es A.name (variables owner) A.outputs (found (expressions A) []) v w.ports → R.enums v ≡ false
  held-free v h = go (starts_with act_prefix v) refl
    where
      go : (b : Bool) → starts_with act_prefix v ≡ b → R.enums v ≡ false
      go true e = P.act.free v e
      go false e = P.apart v (typed-member (variables owner) A.outputs v h.type (h.drawn e))

  pieces : Satisfies R N (flag_equations A.name none 0 (conditions_of A.name A.branches))
      × Satisfies R N (guard_equations A.name 1 (tail_of (conditions_of A.name A.branches)))
      × Satisfies R N (branch_equations A.name (length (conditions_of A.name A.branches)) (may_read A owner w.ports) 0 A.branches)
      × Satisfies R N (scope_equations A.name (length (conditions_of A.name A.branches)) (may_read A owner w.ports) else_scope [] A.else_equations)
      × Satisfies R N (merge_equations A.name (conditions_of A.name A.branches) A.outputs)
  pieces = parts R N C A w.holders (may_read A owner w.ports) ok P.act sat

  full : Present R N (clock_var A.name 0)
  full = clock-present R N A.name P.act.free A.branches branches-there.0 A.outputs outputs-there P.act.base pieces.4

  -- a holder on the full clock
  by-cycle : (v : Name) (i : Expr) → (0 < N → R.at (last_var A.name v) 0 ≡ eval R i every 0) → ((t : ℕ) → suc t < N → R.at (last_var A.name v) (suc t) ≡ R.at v t)
      → (t : ℕ) → t < N → R.at (last_var A.name v) t ≡ last_value R i v t
  unfolding last_value
  by-cycle v i first later zero lt = first lt
  by-cycle v i first later (suc t) lt = later t lt

  means : (v : Name) → asks v (found (expressions A) []) ≡ true → Base R N A.name P.act.free (last_var A.name v) → LastMeans R N es A owner v
  means v m b =
      let h = as-held v m in
      let holds-so = holds R N A.name v h.initial (λ t lt. b t lt ∙ full t lt) h.equation (held-free v h) in
      record {
        type = h.type;
        drawn = h.drawn;
        initial = h.initial;
        given = subst (λ (x : Option Expr). first_of x (default_of es h.type) ≡ some h.initial) (found-init v (expressions A)) h.given;
        holds = by-cycle v h.initial holds-so.first holds-so.later;
      }

  abbrev Has : Expr → Type 0
  Has e = (v : Name) → asks v (calls_of e) ≡ true → asks v (found (expressions A) []) ≡ true

  abbrev Simple : Expr → Type 0
  Simple e = simple (rewrite_last A.name e) ≡ true

  abbrev Claim : Expr → Type 0
  Claim e = (v : Name) → asks v (calls_of e) ≡ true → LastMeans R N es A owner v

  all_have : Every Has (conditions A.branches) × Every Has (sides_of A)
  unfolding expressions sides_of
  all_have = every-split Has (conditions A.branches) (bodies A.branches ++ right_sides A.else_equations) (found-have (expressions A))

  in-condition : (e : Expr) → (Stands R N A.name P.act.free e) → Simple e → Has e → Claim e
  in-condition e st pl ha v m =
      means v (ha v m) (λ t lt. fits-have R N A.name v e st.0 pl st.2 m (P.act.free (last_var A.name v) (last-starts A.name v)) t lt ∙ st.1 t lt)

  n : ℕ
  n = length (conditions_of A.name A.branches)

  less : (k : ℕ) × (length (conditions_of A.name A.branches) ≡ suc k)
  less = counted A.name A.branches branches-there.0

  abbrev Side : Expr → Type 0
  Side e = Reads R N A.name P.act.free (length (conditions_of A.name A.branches)) less.0 less.1 (may_read A owner w.ports) e

  in-side : (e : Expr) → Side e → Simple e → Has e → Claim e
  unfolding reads_of
  in-side e rd pl ha v m =
      means v (ha v m)
      (rd (last_var A.name v)
      (keep-have (may_read A owner w.ports) (free_vars (rewrite_last A.name e) []) (last_var A.name v) (reads-have A.name v e [] pl m) (holder-read (last_var A.name v) (as-held v (ha v m)).port))
      (P.act.free (last_var A.name v) (last-starts A.name v)))

  sides-base : Every Side (sides_of A)
  unfolding sides_of
  sides-base =
      every_append Side (bodies A.branches) (right_sides A.else_equations)
      (branches-base R N A.name P.act.free (length (conditions_of A.name A.branches)) less.0 less.1 (may_read A owner w.ports) 0 A.branches pieces.2)
      (scope-base R N A.name P.act.free (length (conditions_of A.name A.branches)) less.0 less.1 (may_read A owner w.ports) else_scope A.else_equations [] (λ x m f. absurd (empty x m)) pieces.3)

  lasts-mean : Every Claim (expressions A)
  unfolding expressions sides_of
  lasts-mean =
      every_append Claim (conditions A.branches) (sides_of A)
      (every-both (λ e. Stands R N A.name P.act.free e) (λ e. Simple e × Has e) Claim (λ e x y. in-condition e x y.0 y.1) (conditions A.branches)
      (all-stand R N A.name P.act.free A.branches branches-there.0 pieces.0 pieces.1)
      (every-both Simple Has (λ e. Simple e × Has e) (λ e x y. (x, y)) (conditions A.branches) P.simple-conditions all_have.0))
      (every-both Side (λ e. Simple e × Has e) Claim (λ e x y. in-side e x y.0 y.1) (sides_of A) sides-base
      (every-both Simple Has (λ e. Simple e × Has e) (λ e x y. (x, y)) (sides_of A) P.simple-sides all_have.1))

  -- the outputs
  allowed-sides : Every (Allowed A.name (may_read A owner w.ports)) (sides_of A)
  allowed-sides =
      every-both (λ e. Simple e × Has e) (λ e. has_source (port_names (variables owner)) e ≡ true) (Allowed A.name (may_read A owner w.ports))
      (λ e x y. (x.0, keeps-source A.name (port_names (variables owner)) (may_read A owner w.ports) e own_read (λ v m. holder-read (last_var A.name v) (as-held v (x.1 v m)).port) x.0 y))
      (sides_of A) (every-both Simple Has (λ e. Simple e × Has e) (λ e x y. (x, y)) (sides_of A) P.simple-sides all_have.1) P.sources

  allowed : (t : ℕ) → AllAllowed A.name (may_read A owner w.ports) (chosen C A.name t A.branches A.else_equations)
  unfolding sides_of
  allowed t =
      let p = every-split (Allowed A.name (may_read A owner w.ports)) (bodies A.branches) (right_sides A.else_equations) allowed-sides in
      chosen-allowed C A.name (may_read A owner w.ports) t A.branches A.else_equations p.0 p.1

  output-is : (o : Name) → Present R N o → all_assign o A.branches ≡ true → assigns o A.else_equations ≡ true → Agrees R N (o ∷ []) (merge_from A.name o 0 (conditions_of A.name A.branches)) → OwnRun R N C A o
  unfolding side_of visit_value
  output-is o po ab ao mg =
      record {
        side = λ t. let g = assigned o (chosen C A.name t A.branches A.else_equations) (chosen-assigns R N A.name 0 [] C t o A.branches A.else_equations ab ao) in
            (g.0, ap (own_value o) (sym (chosen_is C A t)) ∙ g.1);
        runs = λ s e q t lt p.
            let g = output-runs R N C A w.holders (may_read A owner w.ports) ok P.act sat read-free allowed o po ab ao mg t lt in
            let k : g.0 ≡ e = some-injective g.0 e (sym g.1 ∙ ap (own_value o) (chosen_is C A t) ∙ ap (λ (x : Scope). own_value o (scope_is A.branches A.else_equations x)) p ∙ q) in
            in-cycle s e t lt p (subst (λ (x : Expr). simple (rewrite_last A.name x) ≡ true) k g.2) (subst (λ (x : Expr). R.at o t ≡ eval R (rewrite_last A.name x) (scope_clock C A (scope_in C A t)) t) k g.3);
      }
    where
      in-cycle : (s : Scope) (e : Expr) (t : ℕ) → t < N → scope_in C A t ≡ s → simple (rewrite_last A.name e) ≡ true → R.at o t ≡ eval R (rewrite_last A.name e) (scope_clock C A (scope_in C A t)) t
          → R.at o t ≡ visit_value R N C A s e t
      in-cycle s e t lt p si r =
          r
          ∙ (ap (λ (x : Scope). eval R (rewrite_last A.name e) (scope_clock C A x) t) p
          ∙ narrow-eval R (scope_clock C A s) N (rewrite_last A.name e) si t lt (ticks-there C A s t p))

  all-run : (ps : List Port) → PortsPresent R N ps → outputs_assigned A.branches A.else_equations ps ≡ true → Satisfies R N (merge_equations A.name (conditions_of A.name A.branches) ps) → OwnRuns R N C A ps
  unfolding outputs_assigned merge_equations eqn
  all-run [] b h m = tt
  all-run (p ∷ ps) b h m =
      let x = &&-true (all_assign p.name A.branches && assigns p.name A.else_equations) (outputs_assigned A.branches A.else_equations ps) h in
      let y = &&-true (all_assign p.name A.branches) (assigns p.name A.else_equations) x.0 in
      (output-is p.name b.0 y.0 y.1 m.0, all-run ps b.1 x.1 m.1)

  pub scopes-run : ScopesRun R N C es A owner
  scopes-run = record { outputs = all-run A.outputs P.act.base branches-there.1 pieces.4; lasts = all-calls (λ v. LastMeans R N es A owner v) (expressions A) lasts-mean }

-- Machines lowered, then activations of the result: the machines' equations still stand, with the same runs.
use Prim.Native.Nat.{ℕ, zero, suc, ◌-◌, ◌≤◌, ◌<◌}
use native.Mathlib.Omega.{arith}
use mathlib.Core.List.{List, [], ◌∷◌, ◌++◌, append_assoc}
use mathlib.Core.Option.{Option, none, some, none-ne-some}
use mathlib.Core.Path.{◌≡◌, refl, sym, ap, subst, ◌∙◌}
use lib.ListN.{drop, length, length-append, length-drop, take}
use lib.Seq.{drop-append-le, take-append-le}
use mathlib.Core.Logic.{⊎_elim}
use Rattle.wire.specs.Lists.{Bytes}
use Rattle.wire.proofs.Writers.{lt-or-le}
use Rattle.pack_rules.specs.Names.{Name}
use Rattle.pack_rules.specs.Outcome.{writes}
use Rattle.pack_rules.specs.Syntax.{Activation, Equation, Node, Origin, OriginKind, Package}
use Rattle.machine_rules.specs.Resolved.{ResolvedMachine}
use Rattle.machine_rules.specs.Lower.{equations_of}
use Rattle.machine_rules.specs.Machines.{Progress, start}
use Rattle.machine_rules.specs.Resolve.{as_machine}
use Rattle.activation_rules.specs.Call.{lower_activations}
use Rattle.runs.specs.Claim.{ActClaim, ActivationsKept, MachinesKept, MachinesLowered}
use Rattle.run_rules.specs.Run.{Run, Satisfies}
use Rattle.runs.specs.Placement.{Block, PlacedIn, entry, machine_equations_in, machines_before, slice}
use Rattle.runs.proofs.ActsStand.{acts-grow}
use Rattle.runs.proofs.Demand.{activations-lowered, own-stands}
use Rattle.runs.proofs.Growing.{Extended, grown, node-grown}
use Rattle.runs.proofs.ReadsBack.{whole_same}

entry_more : {A : Type 0} (n : ℕ) (l r : List A) (x : A) → entry n l ≡ some x → entry n (l ++ r) ≡ some x
unfolding entry
entry_more n [] r x e = absurd (none-ne-some x e)
entry_more zero (y ∷ l) r x e = e
entry_more (suc n) (y ∷ l) r x e = entry_more n l r x e

entry_kept : (n : ℕ) (k l : List Node) (x : Node) → grown k l → entry n k ≡ some x → (y : Node) × (entry n l ≡ some y) × Extended x y
unfolding entry
entry_kept n [] l x g e = absurd (none-ne-some x e)
entry_kept n (z ∷ k) [] x g e = absurd g
entry_kept zero (z ∷ k) (y ∷ l) x g e = let s : z ≡ x = cc in (y, refl, subst (λ (w : Node). Extended w y) s g.0)
entry_kept (suc n) (z ∷ k) (y ∷ l) x g e = entry_kept n k l x g.1 e

slice_kept : (first after : ℕ) (es later : List Equation) → after ≤ length es → slice first after (es ++ later) ≡ slice first after es
unfolding slice
slice_kept first after es later h = ⊎_elim
    (λ (g : after < first). let z : after - first ≡ 0 = omega arith in ap (λ (n : ℕ). take n (drop first (es ++ later))) z ∙ sym (ap (λ (n : ℕ). take n (drop first es)) z))
    (λ (g : first ≤ after).
    ap (λ (x : List Equation). take (after - first) x) (drop-append-le first es later (omega arith))
    ∙ take-append-le (after - first) (drop first es) later (let l = length-drop first es in omega arith))
    (lt-or-le after first)

-- a block that only grows
block-kept : {kind : OriginKind} {name owner : Name} {branches : List Name} {es : List Equation} {k : Progress} {nodes nodes' : List Node} {origins origins' : List Origin}
    → grown nodes nodes' → ((later : List Origin) × (origins' ≡ origins ++ later)) → Block kind name owner branches es k nodes origins → Block kind name owner branches es k nodes' origins'
block-kept {owner = owner} {k = k} {nodes = nodes} {nodes' = nodes'} {origins = origins} g o s =
    let f = node-grown owner nodes nodes' s.node g s.named in
    record {
      origin = s.origin;
      recorded = ap (λ (os : List Origin). entry (length k.origins) os) o.1 ∙ entry_more (length k.origins) origins o.0 s.origin s.recorded;
      names-node = s.names-node;
      of-kind = s.of-kind;
      of-name = s.of-name;
      of-branches = s.of-branches;
      node = f.node;
      named = f.here;
      within = let l = ap (λ (x : List Equation). length x) f.more.equations in let h = s.within in omega (arith, l, length-append s.node.equations f.more.later);
      stands =
          ap (λ (x : List Equation). slice s.origin.first s.origin.after x) f.more.equations
          ∙ (slice_kept s.origin.first s.origin.after s.node.equations f.more.later s.within ∙ s.stands);
    }

-- what stands for a machine still does
stands-kept : (o : Option Name) (m : ResolvedMachine) (k : Progress) (nodes nodes' : List Node) (origins origins' : List Origin)
    → grown nodes nodes' → ((later : List Origin) × (origins' ≡ origins ++ later)) → PlacedIn o m k nodes origins → PlacedIn o m k nodes' origins'
stands-kept none m k nodes nodes' origins origins' g o s =
    let e = entry_kept (length k.nodes) nodes nodes' s.node g s.stays in
    record {
      node = e.0;
      stays = e.1;
      named = e.2.name ∙ s.named;
      later = s.later ++ e.2.later;
      stands = e.2.equations ∙ (ap (λ (x : List Equation). x ++ e.2.later) s.stands ∙ append_assoc (equations_of m) s.later e.2.later);
    }
stands-kept (some x) m k nodes nodes' origins origins' g o s = block-kept g o s

-- and a run of what stands for it then is a run of what stood for it before
runs-kept : {O : Type 0} (R : Run O) (N : ℕ) (w : Option Name) (m : ResolvedMachine) (k : Progress) (nodes nodes' : List Node) (origins origins' : List Origin)
    → grown nodes nodes' → ((later : List Origin) × (origins' ≡ origins ++ later)) → PlacedIn w m k nodes origins → Satisfies R N (machine_equations_in w m k nodes' origins') → Satisfies R N (machine_equations_in w m k nodes origins)
runs-kept R N w m k nodes nodes' origins origins' g o s sat =
    subst (λ (es : List Equation). Satisfies R N es) (own-stands w m k nodes' origins' (stands-kept w m k nodes nodes' origins origins' g o s) ∙ sym (own-stands w m k nodes origins s)) sat

-- both calls answered 0, the second on the pack that the first wrote
pub both-lowered : (O : Type 0) (s b c : List ℕ) (output report : ℕ) → MachinesLowered O s b → Bytes b → lower_activations b output report ≡ writes c → MachinesKept O s c
unfolding start
both-lowered O s b c output report L by e =
    let A = activations-lowered O b output report c by e in
    let q : A.input ≡ L.output = whole_same A.input L.output (sym A.reads ∙ L.reads_back) in
    let g = acts-grow A.input in
    let nodes : grown L.output.nodes A.output.nodes = subst (λ (x : Package). grown x.nodes A.output.nodes) q (subst (λ (x : List Node). grown A.input.nodes x) (sym A.nodes) g.nodes) in
    let origins : (later : List Origin) × (A.output.origins ≡ L.output.origins ++ later) = (g.origins.0, A.origins ∙ (g.origins.1 ∙ ap (λ (x : Package). x.origins ++ g.origins.0) q)) in
    record {
      input = L.input;
      reads = L.reads;
      output = A.output;
      reads_back = A.reads_back;
      for_each = λ pre d post h.
          let m = L.for_each pre d post h in
          let k = machines_before L.input pre in
          record {
            states = m.states;
            count = m.count;
            resolved = m.resolved;
            stands = stands-kept d.owner (as_machine d m.states) k L.output.nodes A.output.nodes L.output.origins A.output.origins nodes origins m.stands;
            runs = λ R N G P sat. m.runs R N G P (runs-kept R N d.owner (as_machine d m.states) k L.output.nodes A.output.nodes L.output.origins A.output.origins nodes origins m.stands sat);
          };
    }

-- and of the activations, which the first call left as they were
pub acts-kept : (O : Type 0) (s b c : List ℕ) (output report : ℕ) → MachinesLowered O s b → Bytes b → lower_activations b output report ≡ writes c → ActivationsKept O s b c
acts-kept O s b c output report m by e =
    let L = activations-lowered O b output report c by e in
    let q : L.input ≡ m.output = whole_same L.input m.output (sym L.reads ∙ m.reads_back) in
    record {
      machines = m;
      activations = L;
      for_each = λ pre A post h. subst (λ (x : Package). x.activations ≡ pre ++ (A ∷ post) → ActClaim O x L.output pre A) q (λ k. L.for_each pre A post k) (m.activations ∙ h);
    }

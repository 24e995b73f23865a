-- Where nothing is refused, each machine is accepted and each owner found, and enums, nodes and origins are folds of their own.
use Prim.Native.Nat.{ℕ, ◌<◌, suc}
use native.Mathlib.Omega.{arith}
use mathlib.Core.List.{List, [], ◌∷◌, ◌++◌, append_assoc, append-nil, flat_map}
use mathlib.Core.Bool.{Bool, true, false, cond}
use mathlib.Core.Option.{Option, none, some}
use mathlib.Core.Path.{◌≡◌, refl, sym, ap, subst, ◌∙◌}
use lib.ListN.{length, length-append}
use Rattle.wire.specs.Lists.{All}
use Rattle.pack_rules.specs.Names.{Name, eq_name}
use Rattle.pack_rules.specs.Legal.{Known, place}
use Rattle.pack_rules.specs.Syntax.{Enum, Equation, MachineDef, Node, Origin, Package, Port}
use Rattle.machine_rules.specs.Resolved.{ResolvedMachine}
use Rattle.machine_rules.specs.Lower.{enums_of, equations_of, locals_of}
use Rattle.machine_rules.specs.Machines.{MachineVerdict, Progress, accept, add_machine, add_refusal, extend, extend_in, judge, lower_each, made_machines, merged, node_from, node_named, refuse, standalone, start}
use Rattle.machines.specs.Sections.{Accepted, Fate, Owned, OwnedAll, alone, enums_made, fate_machine, fate_of, fate_then, fates, fates_of, into, names_with, node_names, nodes_after, nodes_with, origin_found, origin_with, origins_after}

pub not-snoc : {A : Type 0} (xs : List A) (x : A) → xs ++ (x ∷ []) ≡ [] → ⊥
not-snoc xs x e = omega (arith, length-append xs (x ∷ []), ap length e)

-- a node that is found is known
found-known : (o : Name) (ns : List Node) (n : Node) → node_named o ns ≡ some n → Known (node_names ns) o
unfolding node_named node_names place
found-known o [] n e = let z : ◌≡◌ {A = ℕ} 0 1 = cc in absurd (omega arith)
found-known o (x ∷ xs) n e = go (eq_name x.name o) (found-known o xs n) e
  where
    go : (b : Bool) → (node_named o xs ≡ some n → Known (node_names xs) o) → cond b (some x) (node_named o xs) ≡ some n
        → cond b 0 (suc (place (node_names xs) o)) < suc (length (node_names xs))
    go true ih g = omega arith
    go false ih g = let h : place (node_names xs) o < length (node_names xs) = ih g in omega arith

-- names: a node made at the end, and none where one is extended
pub names-append : (a b : List Node) → node_names (a ++ b) ≡ node_names a ++ node_names b
unfolding node_names
names-append [] b = refl
names-append (n ∷ a) b = ap (λ l. n.name ∷ l) (names-append a b)

pub names-extend : (o : Name) (ls : List Port) (es : List Equation) (ns : List Node) → node_names (extend_in o ls es ns) ≡ node_names ns
unfolding extend_in extend node_names
names-extend o ls es [] = refl
names-extend o ls es (x ∷ xs) = go (eq_name x.name o) (names-extend o ls es xs)
  where
    go : (b : Bool) → node_names (extend_in o ls es xs) ≡ node_names xs
        → node_names (cond b (extend ls es x ∷ xs) (x ∷ extend_in o ls es xs)) ≡ x.name ∷ node_names xs
    go true ih = refl
    go false ih = ap (λ l. x.name ∷ l) ih

pub names-with : (f : Fate) (ns : List Node) → node_names (nodes_with f ns) ≡ names_with (node_names ns) f
unfolding nodes_with names_with node_from node_names
names-with (alone m) ns = names-append ns (node_from m ∷ [])
names-with (into o m) ns = names-extend o (locals_of m) (equations_of m) ns

-- what a machine that is not refused makes of what has been made so far
record Laid (f : Fate) (k l : Progress) : Type 0 where
  enums : l.enums ≡ k.enums ++ enums_of (fate_machine f)
  nodes : l.nodes ≡ nodes_with f k.nodes
  origins : l.origins ≡ k.origins ++ origin_with f k.nodes
  refusals : l.refusals ≡ k.refusals
  owned : Owned (node_names k.nodes) f

laid-into : (o : Name) (m : ResolvedMachine) (k : Progress) (n : Option Node) → node_named o k.nodes ≡ n → (merged m o n k).refusals ≡ [] → Laid (into o m) k (merged m o n k)
unfolding merged add_refusal fate_machine nodes_with origin_with origin_found Owned
laid-into o m k none e g = absurd (not-snoc k.refusals _ g)
laid-into o m k (some n) e g =
    record { enums = refl; nodes = refl; origins = rw e; refusals = refl; owned = found-known o k.nodes n e }

laid : (o : Option Name) (j : MachineVerdict) (k : Progress) → (add_machine o j k).refusals ≡ [] → (m : ResolvedMachine) × (j ≡ accept m) × Laid (fate_of o m) k (add_machine o j k)
unfolding add_machine fate_of add_refusal standalone fate_machine nodes_with origin_with Owned
laid none (refuse r) k g = absurd (not-snoc k.refusals _ g)
laid (some o) (refuse r) k g = absurd (not-snoc k.refusals _ g)
laid none (accept m) k g = (m, refl, record { enums = refl; nodes = refl; origins = sym (append-nil _); refusals = refl; owned = tt })
laid (some o) (accept m) k g = (m, refl, laid-into o m k _ refl g)

-- what machines of these fates make of `k`: enums, nodes and origins each by themselves
pub record Folds (fs : List Fate) (k l : Progress) : Type 0 where
  pub enums : l.enums ≡ k.enums ++ enums_made fs
  pub nodes : l.nodes ≡ nodes_after fs k.nodes
  pub origins : l.origins ≡ k.origins ++ origins_after fs k.nodes
  pub owned : OwnedAll (node_names k.nodes) fs

folds-nil : (k : Progress) → Folds [] k k
unfolding enums_made flat_map nodes_after origins_after OwnedAll
folds-nil k = record { enums = sym (append-nil k.enums); nodes = refl; origins = sym (append-nil k.origins); owned = tt }

folds-cons : (f : Fate) (fs : List Fate) (k l e : Progress) → Laid f k l → Folds fs l e → Folds (f ∷ fs) k e
unfolding enums_made flat_map nodes_after origins_after OwnedAll
folds-cons f fs k l e h r =
    record {
      enums = r.enums ∙ (ap (λ (x : List Enum). x ++ enums_made fs) h.enums ∙ append_assoc k.enums _ _);
      nodes = r.nodes ∙ ap (nodes_after fs) h.nodes;
      origins =
          r.origins
          ∙ (ap (λ (x : List Origin). x ++ origins_after fs l.nodes) h.origins
          ∙ (append_assoc k.origins _ _
          ∙ ap (λ (x : List Node). k.origins ++ (origin_with f k.nodes ++ origins_after fs x)) h.nodes));
      owned = (h.owned, subst (λ (x : List Name). OwnedAll x fs) (ap node_names h.nodes ∙ names-with f k.nodes) r.owned);
    }

module _ (all : List MachineDef) where
  clean : (ds : List MachineDef) (k : Progress) → (lower_each all ds k).refusals ≡ [] → k.refusals ≡ []
  unfolding lower_each
  clean [] k e = e
  clean (d ∷ ds) k e =
      let g : (add_machine d.owner (judge all d) k).refusals ≡ [] = clean ds _ e in
      sym (laid d.owner (judge all d) k g).2.refusals ∙ g

  -- an accepted machine's fate
  pub fates-cons : (d : MachineDef) (ds : List MachineDef) (m : ResolvedMachine) → judge all d ≡ accept m → fates all (d ∷ ds) ≡ fate_of d.owner m ∷ fates all ds
  unfolding fates fate_then
  fates-cons d ds m e = ap (λ (j : MachineVerdict). fate_then d.owner j (fates all ds)) e

  pub lowered : (ds : List MachineDef) (k : Progress) → (lower_each all ds k).refusals ≡ [] → All (Accepted all) ds × Folds (fates all ds) k (lower_each all ds k)
  unfolding lower_each fates All
  lowered [] k e = (tt, folds-nil k)
  lowered (d ∷ ds) k e =
      let s = laid d.owner (judge all d) k (clean ds _ e) in
      let r = lowered ds _ e in (
        ((s.0, s.1), r.0),
        subst (λ (fs : List Fate). Folds fs k (lower_each all (d ∷ ds) k)) (sym (fates-cons d ds s.0 s.1)) (folds-cons _ _ k _ _ s.2 r.1),
      )

  -- as many fates as machines
  pub fates-length : (ds : List MachineDef) → All (Accepted all) ds → length (fates all ds) ≡ length ds
  unfolding All fates
  fates-length [] h = refl
  fates-length (d ∷ ds) h = ap length (fates-cons d ds h.0.0 h.0.1) ∙ ap suc (fates-length ds h.1)

-- the machines of a package
pub machines-folds : (p : Package) → (made_machines p).refusals ≡ [] → All (Accepted p.machines) p.machines × Folds (fates_of p) (start p) (made_machines p)
unfolding made_machines
machines-folds p e = lowered p.machines p.machines (start p) e

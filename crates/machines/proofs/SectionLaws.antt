-- The lowered package section by section: enums, nodes and origins as the code writes them.
use Prim.Native.Nat.{ℕ, ◌+◌, ◌<◌, zero, suc}
use native.Mathlib.Omega.{arith}
use mathlib.Core.List.{List, [], ◌∷◌, ◌++◌, flat_map}
use mathlib.Core.Bool.{Bool, true, false, cond}
use mathlib.Core.Path.{◌≡◌, refl, sym, ap, ◌∙◌}
use lib.ListN.{get_or, length, length-append}
use lib.Dec.{eqb}
use Rattle.wire.specs.Bytes.{two}
use Rattle.wire.specs.Lists.{All}
use Rattle.pack_rules.specs.Names.{Name}
use Rattle.pack_rules.specs.Syntax.{Node, Origin, Package}
use Rattle.machine_rules.specs.Resolved.{ResolvedMachine}
use Rattle.pack_rules.specs.Write.{Item, activation_items, each, enum_items, equation_items, kind_byte, list, nm, node_items, origin_items, package_items, port_items, raw}
use Rattle.machine_rules.specs.Lower.{enums_of, equations_of, locals_of}
use Rattle.machine_rules.specs.Machines.{extend, machines_lowered, made_machines, start}
use Rattle.machines.specs.Sections.{Accepted, Fate, OwnedAll, Share, added, adds, adds_items, alone, begun_items, continued, enum_count, enums_made, equation_count, equations_before, fate_machine, fates_of, filled, filled_items, first_forms, head_count, head_in, head_items, head_of, heads, holding, holding_items, index_of, into, local_count, made_enum_items, names_with, node_names, nodes_after, origin_count, origin_for, origins_after, origins_in, origins_items, section_items, share_machine, share_of, shares, shares_of, total}
use Rattle.machines.proofs.LocalLaws.{each_append}
use Rattle.machines.proofs.Fates.{machines-folds}
use Rattle.machines.proofs.RegionCounts.{enum-count, equation-count, local-count}
use Rattle.machines.proofs.Shares.{AllBelow, brought-count, filled-append, filled_none, flat-count, length-names, nodes-filled, origins-in}

-- the sections of what the machines make
pub record MadeSections (p : Package) : Type 0 where
  pub accepted : All (Accepted p.machines) p.machines
  pub owned : OwnedAll (node_names p.nodes) (fates_of p)
  pub enums : (made_machines p).enums ≡ p.enums ++ enums_made (fates_of p)
  pub nodes : (made_machines p).nodes ≡ filled 0 (shares_of p) (first_forms p)
  pub origins : (made_machines p).origins ≡ p.origins ++ origins_in p.nodes [] (shares_of p)

pub made-sections : (p : Package) → (made_machines p).refusals ≡ [] → MadeSections p
unfolding start shares_of All AllBelow
made-sections p e =
    let h = machines-folds p e in
    let fs = fates_of p in
    record {
      accepted = h.0;
      owned = h.1.owned;
      enums = h.1.enums;
      nodes = h.1.nodes ∙ (ap (nodes_after fs) (sym (filled_none 0 p.nodes)) ∙ nodes-filled fs [] p.nodes tt h.1.owned);
      origins =
          h.1.origins
          ∙ ap (λ (l : List Origin). p.origins ++ l)
          (ap (origins_after fs) (sym (filled_none 0 p.nodes)) ∙ origins-in fs [] p.nodes p.nodes tt h.1.owned (λ k. refl));
    }

-- a node by its index
pub filled_at : (t : ℕ) (ss : List Share) (ns : List Node) (i : ℕ) (d : Node) → i < length ns → get_or (filled t ss ns) i d ≡ holding (t + i) ss (get_or ns i d)
unfolding filled
filled_at t ss [] i d h = absurd (omega arith)
filled_at t ss (n ∷ ns) zero d h = ap (λ k. holding k ss n) (omega arith)
filled_at t ss (n ∷ ns) (suc i) d h = filled_at (suc t) ss ns i d (omega arith) ∙ ap (λ k. holding k ss (get_or ns i d)) (omega arith)

pub filled-length : (t : ℕ) (ss : List Share) (ns : List Node) → length (filled t ss ns) ≡ length ns
unfolding filled
filled-length t ss [] = refl
filled-length t ss (n ∷ ns) = ap suc (filled-length (suc t) ss ns)

-- the final node of index t: its first form, then what the shares bring to t
pub final-node : (p : Package) → (made_machines p).refusals ≡ [] → (t : ℕ) (d : Node) → t < length (first_forms p)
    → get_or (made_machines p).nodes t d ≡ holding t (shares_of p) (get_or (first_forms p) t d)
final-node p e t d h =
    ap (λ l. get_or l t d) (made-sections p e).nodes
    ∙ (filled_at 0 (shares_of p) _ t d h ∙ ap (λ k. holding k (shares_of p) (get_or (first_forms p) t d)) (omega arith))

-- items of lists made of lists
each-flat : {A B : Type 0} (g : B → List Item) (f : A → List B) (h : A → List Item) → ((x : A) → each g (f x) ≡ h x) → (xs : List A) → each g (flat_map f xs) ≡ each h xs
unfolding each flat_map
each-flat g f h e [] = refl
each-flat g f h e (x ∷ xs) = each_append g (f x) (flat_map f xs) ∙ λ i. e x i ++ each-flat g f h e xs i

brings-items : {A : Type 0} (g : A → List Item) (f : ResolvedMachine → List A) (t : ℕ) (s : Share) → each g (adds f t s) ≡ adds_items g f t s
unfolding adds adds_items each
brings-items g f t s = go (eqb s.at t)
  where
    go : (b : Bool) → each g (cond b (f (share_machine s)) []) ≡ cond b (each g (f (share_machine s))) []
    go true = refl
    go false = refl

brought-items : {A : Type 0} (g : A → List Item) (f : ResolvedMachine → List A) (t : ℕ) (ss : List Share) → each g (added f t ss) ≡ each (adds_items g f t) ss
unfolding added
brought-items g f t ss = each-flat g (adds f t) (adds_items g f t) (brings-items g f t) ss

list-continued : {A : Type 0} (g : A → List Item) (xs ys : List A) (n : ℕ) (more : List Item) → length ys ≡ n → each g ys ≡ more → list g (xs ++ ys) ≡ continued g xs n more
unfolding list continued
list-continued g xs ys n more a b =
    λ i. raw (two ((length-append xs ys ∙ ap (λ k. length xs + k) a) i)) ∷ (each_append g xs ys ∙ ap (λ l. each g xs ++ l) b) i

-- a node, and all nodes
holding-items : (ss : List Share) (t : ℕ) (n : Node) → node_items (holding t ss n) ≡ holding_items ss t n
unfolding node_items holding extend holding_items
holding-items ss t n =
    λ i. nm n.name ∷ raw (kind_byte n.kind ∷ [])
    ∷ (list port_items n.inputs
    ++ (list port_items n.outputs
    ++ (list-continued port_items n.locals _ _ _ (brought-count locals_of local_count local-count t ss) (brought-items port_items locals_of t ss) i
    ++ list-continued equation_items n.equations _ _ _ (brought-count equations_of equation_count equation-count t ss) (brought-items equation_items equations_of t ss) i)))

filled-items : (ss : List Share) (t : ℕ) (ns : List Node) → each node_items (filled t ss ns) ≡ filled_items ss t ns
unfolding filled each filled_items
filled-items ss t [] = refl
filled-items ss t (n ∷ ns) = λ i. holding-items ss t n i ++ filled-items ss (suc t) ns i

-- the new nodes, one for each share that begins one
begun-items : (ss : List Share) (t : ℕ) (ns : List Name) (fs : List Fate) → t ≡ length ns → filled_items ss t (heads fs) ≡ each (begun_items ss) (shares ns fs)
unfolding heads flat_map head_in filled_items shares share_of index_of names_with each begun_items head_items
begun-items ss t ns [] e = refl
begun-items ss t ns (alone m ∷ fs) e =
    λ i. holding_items ss (e i) (head_of m) ++ begun-items ss (suc t) (ns ++ (m.name ∷ [])) fs (omega (arith, length-append ns (m.name ∷ []))) i
begun-items ss t ns (into o m ∷ fs) e = begun-items ss t ns fs e

-- over fates or over their shares
over-shares : {B : Type 0} (g : Fate → List B) (ns : List Name) (fs : List Fate) → flat_map g fs ≡ flat_map (λ (s : Share). g s.fate) (shares ns fs)
unfolding flat_map shares share_of
over-shares g ns [] = refl
over-shares g ns (f ∷ fs) = ap (λ l. g f ++ l) (over-shares g (names_with ns f) fs)

heads-count : (f : Fate) → length (head_in f) ≡ head_count f
unfolding head_in head_count
heads-count (alone m) = refl
heads-count (into o m) = refl

origins-items : (olds : List Node) (done ss : List Share) → each origin_items (origins_in olds done ss) ≡ origins_items olds done ss
unfolding origins_in origins_items each
origins-items olds done [] = refl
origins-items olds done (s ∷ ss) =
    each_append origin_items (origin_for s.fate (equations_before olds done s)) (origins_in olds (done ++ (s ∷ [])) ss)
    ∙ ap (λ l. each origin_items (origin_for s.fate (equations_before olds done s)) ++ l) (origins-items olds (done ++ (s ∷ [])) ss)

origin-count : (f : Fate) (n : ℕ) → length (origin_for f n) ≡ origin_count f
unfolding origin_for origin_count
origin-count (alone m) n = refl
origin-count (into o m) n = refl

origins-count : (olds : List Node) (done ss : List Share) → length (origins_in olds done ss) ≡ total (λ (s : Share). origin_count s.fate) ss
unfolding origins_in total
origins-count olds done [] = refl
origins-count olds done (s ∷ ss) =
    length-append (origin_for s.fate (equations_before olds done s)) (origins_in olds (done ++ (s ∷ [])) ss)
    ∙ λ i. origin-count s.fate (equations_before olds done s) i + origins-count olds (done ++ (s ∷ [])) ss i

-- the enums, the nodes, the origins
module _ (p : Package) (fs : List Fate) where
  ss : List Share
  ss = shares (node_names p.nodes) fs

  enum-section : list enum_items (p.enums ++ enums_made fs) ≡ continued enum_items p.enums (total (λ (s : Share). enum_count (share_machine s)) ss) (each made_enum_items ss)
  unfolding ss enums_made made_enum_items share_machine
  enum-section =
      ap (λ l. list enum_items (p.enums ++ l)) (over-shares (λ f. enums_of (fate_machine f)) (node_names p.nodes) fs)
      ∙ list-continued enum_items p.enums _ _ _ (flat-count _ _ (λ s. enum-count (share_machine s)) ss) (each-flat enum_items _ made_enum_items (λ s. refl) ss)

  node-section : list node_items (filled 0 ss (p.nodes ++ heads fs))
      ≡ raw (two (length p.nodes + total (λ (s : Share). head_count s.fate) ss)) ∷ (filled_items ss 0 p.nodes ++ each (begun_items ss) ss)
  unfolding list ss heads
  node-section =
      λ i. raw (two (many i))
      ∷ (ap (each node_items) (filled-append 0 ss p.nodes (heads fs))
      ∙ (each_append node_items (filled 0 ss p.nodes) (filled (0 + length p.nodes) ss (heads fs))
      ∙ (λ j. filled-items ss 0 p.nodes j ++ (filled-items ss (0 + length p.nodes) (heads fs) ∙ begun-items ss (0 + length p.nodes) (node_names p.nodes) fs (omega (arith, length-names p.nodes))) j))) i
    where
      many : length (filled 0 ss (p.nodes ++ heads fs)) ≡ length p.nodes + total (λ (s : Share). head_count s.fate) ss
      many =
          filled-length 0 ss _
          ∙ (length-append p.nodes (heads fs)
          ∙ ap (λ n. length p.nodes + n) (ap length (over-shares head_in (node_names p.nodes) fs) ∙ flat-count _ _ (λ s. heads-count s.fate) ss))

  origin-section : list origin_items (p.origins ++ origins_in p.nodes [] ss) ≡ continued origin_items p.origins (total (λ (s : Share). origin_count s.fate) ss) (origins_items p.nodes [] ss)
  origin-section = list-continued origin_items p.origins _ _ _ (origins-count p.nodes [] ss) (origins-items p.nodes [] ss)

-- where nothing is refused, what is written is this list
pub section-items : (p : Package) → (made_machines p).refusals ≡ [] → package_items (machines_lowered p (made_machines p)) ≡ section_items p (shares_of p)
unfolding package_items machines_lowered section_items shares_of ss list each
section-items p e =
    let h = made-sections p e in
    let fs = fates_of p in
    λ i. (ap (list enum_items) h.enums ∙ enum-section p fs) i
    ++ ((ap (list node_items) h.nodes ∙ node-section p fs) i
    ++ ((raw (two 0) ∷ [])
    ++ (list activation_items p.activations
    ++ (ap (list origin_items) h.origins ∙ origin-section p fs) i)))

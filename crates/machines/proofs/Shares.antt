-- Nodes and origins by index: every node is its first form with what the shares bring to its index, in order.
use Prim.Native.Nat.{ℕ, ◌+◌, ◌≤◌, ◌<◌, zero, suc}
use native.Mathlib.Omega.{arith}
use mathlib.Core.List.{List, [], ◌∷◌, ◌++◌, append_assoc, append-nil, flat_map}
use mathlib.Core.Bool.{Bool, true, false, cond}
use mathlib.Core.Option.{Option, some}
use mathlib.Core.Path.{◌≡◌, refl, sym, ap, subst, ◌∙◌}
use lib.ListN.{length, length-append}
use lib.Dec.{eqb}
use borrow.Author.Tests.{eq-eqb, ne_eqb}
use Rattle.wire.specs.Lists.{All}
use Rattle.pack_rules.specs.Names.{Name, eq_name}
use Rattle.pack_rules.specs.Legal.{Known, place}
use Rattle.pack_rules.specs.Syntax.{Equation, Node, Port, of_machine}
use Rattle.machine_rules.specs.Resolved.{ResolvedMachine}
use Rattle.pack.proofs.Tables.{eq_name-true, place_in}
use Rattle.machine_rules.specs.Lower.{equations_of, locals_of}
use Rattle.machine_rules.specs.Machines.{extend, extend_in, node_from, node_named, origin_of}
use Rattle.machines.specs.Sections.{Fate, Owned, OwnedAll, Share, added, added_count, adds, adds_count, alone, equation_count, equations_before, fate_machine, filled, head_in, head_of, heads, holding, index_of, into, names_with, node_names, nodes_after, nodes_with, old_count, origin_for, origin_found, origin_with, origins_after, origins_in, share_machine, share_of, shares, total}
use Rattle.machines.proofs.Fates.{names-append}
use Rattle.machines.proofs.RegionCounts.{equation-count}

pub flat_append : {A B : Type 0} (f : A → List B) (a b : List A) → flat_map f (a ++ b) ≡ flat_map f a ++ flat_map f b
unfolding flat_map
flat_append f [] b = refl
flat_append f (x ∷ a) b = ap (λ l. f x ++ l) (flat_append f a b) ∙ sym (append_assoc (f x) _ _)

brought-snoc : {A : Type 0} (f : ResolvedMachine → List A) (t : ℕ) (ss : List Share) (s : Share) → added f t (ss ++ (s ∷ [])) ≡ added f t ss ++ adds f t s
unfolding added flat_map
brought-snoc f t ss s = flat_append (adds f t) ss (s ∷ []) ∙ ap (λ l. flat_map (adds f t) ss ++ l) (append-nil (adds f t s))

-- a share brings all to its index, and nothing to another
brings-here : {A : Type 0} (f : ResolvedMachine → List A) (t : ℕ) (s : Share) → s.at ≡ t → adds f t s ≡ f (share_machine s)
unfolding adds
brings-here f t s e = rw (eq-eqb s.at t e)

brings-none : {A : Type 0} (f : ResolvedMachine → List A) (t : ℕ) (s : Share) → (s.at ≡ t → ⊥) → adds f t s ≡ []
unfolding adds
brings-none f t s e = rw (ne_eqb s.at t e)

brought-here : {A : Type 0} (f : ResolvedMachine → List A) (t : ℕ) (ss : List Share) (s : Share) → s.at ≡ t → added f t (ss ++ (s ∷ [])) ≡ added f t ss ++ f (share_machine s)
brought-here f t ss s e = brought-snoc f t ss s ∙ ap (λ l. added f t ss ++ l) (brings-here f t s e)

brought-other : {A : Type 0} (f : ResolvedMachine → List A) (t : ℕ) (ss : List Share) (s : Share) → (s.at ≡ t → ⊥) → added f t (ss ++ (s ∷ [])) ≡ added f t ss
brought-other f t ss s e = brought-snoc f t ss s ∙ (ap (λ l. added f t ss ++ l) (brings-none f t s e) ∙ append-nil _)

-- all shares are below an index
unfoldable pub AllBelow : ℕ → List Share → Type 0
AllBelow n ss = All (λ s. s.at < n) ss

brought-none : {A : Type 0} (f : ResolvedMachine → List A) (t : ℕ) (ss : List Share) → AllBelow t ss → added f t ss ≡ []
unfolding added flat_map AllBelow All
brought-none f t [] h = refl
brought-none f t (s ∷ ss) h = ap (λ l. l ++ flat_map (adds f t) ss) (brings-none f t s (λ e. omega (arith, h.0))) ∙ brought-none f t ss h.1

-- a node extended twice
pub extend-extend : (a c : List Port) (b d : List Equation) (n : Node) → extend c d (extend a b n) ≡ extend (a ++ c) (b ++ d) n
unfolding extend
extend-extend a c b d n =
    λ i. record {
      name = n.name;
      kind = n.kind;
      inputs = n.inputs;
      outputs = n.outputs;
      locals = append_assoc n.locals a c i;
      equations = append_assoc n.equations b d i;
    }

-- one share more, of the node's index and of another
holding-here : (t : ℕ) (ss : List Share) (s : Share) (n : Node) → s.at ≡ t
    → extend (locals_of (share_machine s)) (equations_of (share_machine s)) (holding t ss n) ≡ holding t (ss ++ (s ∷ [])) n
unfolding holding
holding-here t ss s n e =
    extend-extend _ _ _ _ n ∙ λ i. extend (sym (brought-here locals_of t ss s e) i) (sym (brought-here equations_of t ss s e) i) n

holding-other : (t : ℕ) (ss : List Share) (s : Share) (n : Node) → (s.at ≡ t → ⊥) → holding t (ss ++ (s ∷ [])) n ≡ holding t ss n
unfolding holding
holding-other t ss s n e = λ i. extend (brought-other locals_of t ss s e i) (brought-other equations_of t ss s e i) n

-- a share of an index outside changes no node
filled-other : (t : ℕ) (ss : List Share) (s : Share) (ns : List Node) → ((i : ℕ) → t ≤ i → i < t + length ns → s.at ≡ i → ⊥)
    → filled t (ss ++ (s ∷ [])) ns ≡ filled t ss ns
unfolding filled holding
filled-other t ss s [] h = refl
filled-other t ss s (n ∷ ns) h =
    λ i. holding-other t ss s n (h t (omega arith) (omega arith)) i ∷ filled-other (suc t) ss s ns (λ j a b. h j (omega arith) (omega arith)) i

pub filled-append : (t : ℕ) (ss : List Share) (a b : List Node) → filled t ss (a ++ b) ≡ filled t ss a ++ filled (t + length a) ss b
unfolding filled holding
filled-append t ss [] b = let e : t + 0 ≡ t = omega arith in rw e
filled-append t ss (n ∷ a) b =
    let e : t + suc (length a) ≡ suc t + length a = omega arith in
    rw e (ap (λ l. holding t ss n ∷ l) (filled-append (suc t) ss a b))

pub length-names : (ns : List Node) → length (node_names ns) ≡ length ns
unfolding node_names
length-names [] = refl
length-names (n ∷ ns) = ap suc (length-names ns)

-- as many shares as fates
pub shares-length : (ns : List Name) (fs : List Fate) → length (shares ns fs) ≡ length fs
unfolding shares
shares-length ns [] = refl
shares-length ns (f ∷ fs) = ap suc (shares-length (names_with ns f) fs)

-- an owner's index stays, whatever nodes come after
pub index_stays : (o : Name) (m : ResolvedMachine) (ns ms : List Name) → Owned ns (into o m) → index_of (ns ++ ms) (into o m) ≡ index_of ns (into o m)
unfolding Owned index_of
index_stays o m ns ms h = place_in ns ms o h

-- a machine with an owner: the node of the owner's index holds one share more
filled-into : (o : Name) (m : ResolvedMachine) (t : ℕ) (ss : List Share) (ns : List Node) (k : ℕ) → k ≡ t + place (node_names ns) o
    → extend_in o (locals_of m) (equations_of m) (filled t ss ns) ≡ filled t (ss ++ (record { at = k; fate = into o m } ∷ [])) ns
unfolding filled node_names extend_in place holding share_machine fate_machine extend
filled-into o m t ss [] k e = refl
filled-into o m t ss (n ∷ ns) k e = go (eq_name n.name o) e (filled-into o m (suc t) ss ns k)
  where
    s : Share
    s = record { at = k; fate = into o m }

    go : (b : Bool) → k ≡ t + cond b 0 (suc (place (node_names ns) o))
        → (k ≡ suc t + place (node_names ns) o → extend_in o (locals_of m) (equations_of m) (filled (suc t) ss ns) ≡ filled (suc t) (ss ++ (s ∷ [])) ns)
        → cond b (extend (locals_of m) (equations_of m) (holding t ss n) ∷ filled (suc t) ss ns) (holding t ss n ∷ extend_in o (locals_of m) (equations_of m) (filled (suc t) ss ns))
        ≡ holding t (ss ++ (s ∷ [])) n ∷ filled (suc t) (ss ++ (s ∷ [])) ns
    go true g ih = λ i. holding-here t ss s n (omega arith) i ∷ sym (filled-other (suc t) ss s ns (λ j a b c. omega arith)) i
    go false g ih = λ i. sym (holding-other t ss s n (λ c. omega arith)) i ∷ ih (omega arith) i

-- a machine without owner: a node more, which holds its share alone
holding-first : (t : ℕ) (ss : List Share) (m : ResolvedMachine) → AllBelow t ss → extend (locals_of m) (equations_of m) (holding t ss (head_of m)) ≡ node_from m
unfolding holding extend head_of node_from
holding-first t ss m h =
    λ i. extend (locals_of m) (equations_of m) (extend (brought-none locals_of t ss h i) (brought-none equations_of t ss h i) (head_of m))

filled-alone : (m : ResolvedMachine) (ss : List Share) (ns : List Node) (k : ℕ) → k ≡ length ns → AllBelow k ss
    → filled 0 ss ns ++ (node_from m ∷ []) ≡ filled 0 (ss ++ (record { at = k; fate = alone m } ∷ [])) (ns ++ (head_of m ∷ []))
unfolding filled share_machine fate_machine
filled-alone m ss ns k e h =
    sym (filled-append 0 (ss ++ (s ∷ [])) ns (head_of m ∷ [])
    ∙ (λ i. filled-other 0 ss s ns (λ j a b c. omega arith) i ++ (node i ∷ [])))
  where
    s : Share
    s = record { at = k; fate = alone m }

    node : holding (0 + length ns) (ss ++ (s ∷ [])) (head_of m) ≡ node_from m
    node =
        sym (holding-here (0 + length ns) ss s (head_of m) (omega arith))
        ∙ holding-first (0 + length ns) ss m (subst (λ n. AllBelow n ss) (omega arith) h)

-- one fate more
filled-with : (f : Fate) (ss : List Share) (ns : List Node) → AllBelow (length ns) ss
    → nodes_with f (filled 0 ss ns) ≡ filled 0 (ss ++ (share_of (node_names ns) f ∷ [])) (ns ++ head_in f)
unfolding nodes_with share_of index_of head_in
filled-with (alone m) ss ns h =
    filled-alone m ss ns (length (node_names ns)) (length-names ns) (subst (λ n. AllBelow n ss) (sym (length-names ns)) h)
filled-with (into o m) ss ns h =
    filled-into o m 0 ss ns (place (node_names ns) o) (omega arith)
    ∙ ap (filled 0 (ss ++ (record { at = place (node_names ns) o; fate = into o m } ∷ []))) (sym (append-nil ns))

names-head : (f : Fate) (ns : List Node) → node_names (ns ++ head_in f) ≡ names_with (node_names ns) f
unfolding head_in head_of names_with node_names
names-head (alone m) ns = names-append ns (head_of m ∷ [])
names-head (into o m) ns = ap node_names (append-nil ns)

below-snoc : (n k : ℕ) (ss : List Share) (s : Share) → n ≤ k → AllBelow n ss → s.at < k → AllBelow k (ss ++ (s ∷ []))
unfolding AllBelow All
below-snoc n k [] s g h l = (l, tt)
below-snoc n k (x ∷ ss) s g h l = (omega (arith, h.0), below-snoc n k ss s g h.1 l)

below-with : (f : Fate) (ss : List Share) (ns : List Node) → AllBelow (length ns) ss → Owned (node_names ns) f
    → AllBelow (length (ns ++ head_in f)) (ss ++ (share_of (node_names ns) f ∷ []))
unfolding share_of index_of head_in Owned
below-with (alone m) ss ns h w =
    below-snoc (length ns) _ ss _ (omega (arith, length-append ns (head_of m ∷ []))) h (omega (arith, length-names ns, length-append ns (head_of m ∷ [])))
below-with (into o m) ss ns h w =
    below-snoc (length ns) _ ss _ (omega (arith, length-append ns [])) h (omega (arith, w, length-names ns, length-append ns []))

-- the nodes in the end
pub nodes-filled : (fs : List Fate) (ss : List Share) (ns : List Node) → AllBelow (length ns) ss → OwnedAll (node_names ns) fs
    → nodes_after fs (filled 0 ss ns) ≡ filled 0 (ss ++ shares (node_names ns) fs) (ns ++ heads fs)
unfolding nodes_after OwnedAll shares heads flat_map
nodes-filled [] ss ns h w = λ i. filled 0 (sym (append-nil ss) i) (sym (append-nil ns) i)
nodes-filled (f ∷ fs) ss ns h w =
    ap (nodes_after fs) (filled-with f ss ns h)
    ∙ (nodes-filled fs (ss ++ (share_of (node_names ns) f ∷ [])) (ns ++ head_in f) (below-with f ss ns h w.0) (subst (λ x. OwnedAll x fs) (sym (names-head f ns)) w.1)
    ∙ (λ i. filled 0 (ss⁺ i) (append_assoc ns (head_in f) (heads fs) i)))
  where
    ss⁺ : (ss ++ (share_of (node_names ns) f ∷ [])) ++ shares (node_names (ns ++ head_in f)) fs ≡ ss ++ (share_of (node_names ns) f ∷ shares (names_with (node_names ns) f) fs)
    ss⁺ = append_assoc ss (share_of (node_names ns) f ∷ []) _ ∙ ap (λ x. ss ++ (share_of (node_names ns) f ∷ shares x fs)) (names-head f ns)

-- sums
pub flat-count : {A B : Type 0} (f : A → List B) (g : A → ℕ) → ((x : A) → length (f x) ≡ g x) → (xs : List A) → length (flat_map f xs) ≡ total g xs
unfolding flat_map total
flat-count f g h [] = refl
flat-count f g h (x ∷ xs) = let a = flat-count f g h xs in let b = h x in omega (arith, length-append (f x) (flat_map f xs))

brings-count : {A : Type 0} (f : ResolvedMachine → List A) (g : ResolvedMachine → ℕ) → ((m : ResolvedMachine) → length (f m) ≡ g m) → (t : ℕ) (s : Share) → length (adds f t s) ≡ adds_count g t s
unfolding adds adds_count
brings-count f g h t s = go (eqb s.at t)
  where
    go : (b : Bool) → length (cond b (f (share_machine s)) []) ≡ cond b (g (share_machine s)) 0
    go true = h (share_machine s)
    go false = refl

pub brought-count : {A : Type 0} (f : ResolvedMachine → List A) (g : ResolvedMachine → ℕ) → ((m : ResolvedMachine) → length (f m) ≡ g m) → (t : ℕ) (ss : List Share) → length (added f t ss) ≡ added_count g t ss
unfolding added added_count
brought-count f g h t ss = flat-count (adds f t) (adds_count g t) (brings-count f g h t) ss

-- the owner as it is found: its name, and how many equations it has by then
record FoundAt (o : Name) (ss : List Share) (at first : ℕ) (x : Option Node) : Type 0 where
  node : Node
  found : x ≡ some node
  named : node.name ≡ o
  many : length node.equations ≡ first + length (added equations_of at ss)

found_at : (o : Name) (t : ℕ) (ss : List Share) (ns : List Node) (at : ℕ) → at ≡ t + place (node_names ns) o → Known (node_names ns) o
    → FoundAt o ss at (old_count ns (place (node_names ns) o)) (node_named o (filled t ss ns))
unfolding node_names place filled node_named old_count holding extend
found_at o t ss [] at e h = absurd (omega (arith, h))
found_at o t ss (n ∷ ns) at e h = go (eq_name n.name o) refl e h (found_at o (suc t) ss ns at)
  where
    go : (b : Bool) → eq_name n.name o ≡ b
        → at ≡ t + cond b 0 (suc (place (node_names ns) o))
        → cond b 0 (suc (place (node_names ns) o)) < suc (length (node_names ns))
        → (at ≡ suc t + place (node_names ns) o → Known (node_names ns) o → FoundAt o ss at (old_count ns (place (node_names ns) o)) (node_named o (filled (suc t) ss ns)))
        → FoundAt o ss at (old_count (n ∷ ns) (cond b 0 (suc (place (node_names ns) o)))) (cond b (some (holding t ss n)) (node_named o (filled (suc t) ss ns)))
    go true f g k ih =
        record {
          node = holding t ss n;
          found = refl;
          named = eq_name-true n.name o f;
          many = length-append n.equations _ ∙ ap (λ i. length n.equations + length (added equations_of i ss)) (omega arith);
        }
    go false f g k ih = ih (omega arith) (omega arith)

-- a new node brings no count
count-heads : (f : Fate) (ns : List Node) (k : ℕ) → old_count (ns ++ head_in f) k ≡ old_count ns k
unfolding old_count head_in head_of
count-heads (alone m) [] zero = refl
count-heads (alone m) [] (suc k) = refl
count-heads (alone m) (n ∷ ns) zero = refl
count-heads (alone m) (n ∷ ns) (suc k) = count-heads (alone m) ns k
count-heads (into o m) ns k = ap (λ l. old_count l k) (append-nil ns)

origin-into : (o : Name) (m : ResolvedMachine) (ss : List Share) (at first : ℕ) (x : Option Node) → FoundAt o ss at first x
    → origin_found m x ≡ origin_for (into o m) (first + added_count equation_count at ss)
unfolding origin_found origin_of origin_for
origin-into o m ss at first x h =
    ap (origin_found m) h.found
    ∙ (λ i. record { node = h.named i; kind = of_machine; name = m.name; first = many i; after = many i + equation-count m i; branches = [] } ∷ [])
  where
    many : length h.node.equations ≡ first + added_count equation_count at ss
    many = h.many ∙ ap (λ n. first + n) (brought-count equations_of equation_count equation-count at ss)

origin-with : (f : Fate) (ss : List Share) (ns olds : List Node) → ((k : ℕ) → old_count ns k ≡ old_count olds k) → Owned (node_names ns) f
    → origin_with f (filled 0 ss ns) ≡ origin_for f (old_count olds (index_of (node_names ns) f) + added_count equation_count (index_of (node_names ns) f) ss)
unfolding origin_with index_of Owned origin_for
origin-with (alone m) ss ns olds h w = refl
origin-with (into o m) ss ns olds h w =
    origin-into o m ss _ _ _ (found_at o 0 ss ns (place (node_names ns) o) (omega arith) w)
    ∙ ap (λ n. origin_for (into o m) (n + added_count equation_count (place (node_names ns) o) ss)) (h (place (node_names ns) o))

-- the origins in the end
pub origins-in : (fs : List Fate) (ss : List Share) (ns olds : List Node) → AllBelow (length ns) ss → OwnedAll (node_names ns) fs → ((k : ℕ) → old_count ns k ≡ old_count olds k)
    → origins_after fs (filled 0 ss ns) ≡ origins_in olds ss (shares (node_names ns) fs)
unfolding origins_after OwnedAll shares origins_in share_of equations_before
origins-in [] ss ns olds h w c = refl
origins-in (f ∷ fs) ss ns olds h w c =
    (λ i. origin-with f ss ns olds c w.0 i ++ origins_after fs (filled-with f ss ns h i))
    ∙ ap (λ l. origin_for f (old_count olds (index_of (node_names ns) f) + added_count equation_count (index_of (node_names ns) f) ss) ++ l)
    (origins-in fs (ss ++ (share_of (node_names ns) f ∷ [])) (ns ++ head_in f) olds (below-with f ss ns h w.0)
    (subst (λ x. OwnedAll x fs) (sym (names-head f ns)) w.1)
    (λ k. count-heads f ns k ∙ c k)
    ∙ ap (λ x. origins_in olds (ss ++ (share_of (node_names ns) f ∷ [])) (shares x fs)) (names-head f ns))

-- no share yet
pub filled_none : (t : ℕ) (ns : List Node) → filled t [] ns ≡ ns
unfolding filled holding added flat_map extend
filled_none t [] = refl
filled_none t (n ∷ ns) =
    λ i. record {
      name = n.name;
      kind = n.kind;
      inputs = n.inputs;
      outputs = n.outputs;
      locals = append-nil n.locals i;
      equations = append-nil n.equations i;
    }
    ∷ filled_none (suc t) ns i

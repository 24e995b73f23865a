-- Nodes and activations that were read stand where the tables say, and an activation's node is the first of its owner's name.
use Prim.Native.Nat.{ℕ, zero, suc, ◌+◌, ◌%◌, ◌<◌, ◌≤◌}
use native.Mathlib.Nat.{mod-eq_of_lt}
use native.Mathlib.Omega.{arith}
use mathlib.Core.List.{List, [], ◌∷◌, ◌++◌}
use mathlib.Core.Option.{some}
use mathlib.Core.Path.{◌≡◌, refl, sym, ap, subst, ◌∙◌}
use lib.ListN.{length, get_or, length-replicate, replicate}
use borrow.Author.Tests.{eq-eqb, le-ltb, lt-ltb}
use Rattle.wire.specs.Answer.{many, u16, value}
use Rattle.wire.specs.Lists.{Bytes}
use Rattle.wire.proofs.Answers.{u16-value}
use Rattle.pack.specs.declared.record.Pack.{Pack}
use Rattle.pack_rules.specs.Names.{Name}
use Rattle.pack_rules.specs.Legal.{Fresh, place}
use Rattle.pack_rules.specs.Syntax.{Activation, Node, Package}
use Rattle.pack_rules.specs.Forms.{name_at}
use Rattle.pack_rules.specs.Read.{activation_in, name_in, node_in}
use Rattle.pack.specs.Verdict.{SectionsAt}
use Rattle.pack.proofs.Tables.{format_names}
use Rattle.wire.specs.declared.answer.Number.{Number}
use Rattle.machines.specs.Sections.{node_names}
use Rattle.machines.specs.OwnersAt.{fill_t, node_end, node_name_t, nth}
use Rattle.machines.specs.CheckedReads.{number_in, with}
use Rattle.machines.specs.Verdicts.{NodesAre}
use Rattle.machines.proofs.PackCounts.{counted-many}
use Rattle.machines.proofs.Reading.{many-cut, many_more, many-over, name-number}
use Rattle.machines.proofs.OwnerLaws.{nth-start, nth-step}
use Rattle.machines.proofs.Settled.{found-place}
use Rattle.machines.proofs.ShownCounts.{node-value}
use Rattle.machines.proofs.CheckedReadLaws.{number-num, number-to}
use Rattle.machines.proofs.TablesFilled.{fill-at, node-ends, nodes-filled}
use Rattle.activation_rules.specs.Refusals.{unknown_owner}
use Rattle.activations.specs.Cells.{put_t}
use Rattle.activations.specs.ChecksAt.{called, refusal_by, refused_t}
use Rattle.activation_rules.specs.Lower.{refuse}
use Rattle.activations.specs.Passes.{pass_t}
use Rattle.activations.specs.Places.{act_end}
use Rattle.activations.specs.ActTable.{goal_t, made_t, refusal_t, spot_t}
use Rattle.activations.specs.Fates.{Drawn, FateIs, NodesFrom}
use Rattle.activations.specs.OwnersAt.{draw_t, named_t, owners_t, place_acts_t, place_nodes_t}
use Rattle.activations.proofs.ActCounts.{acts-few, nodes-few}
use Rattle.activations.proofs.ActRead.{act-end-to, activation-value}
use Rattle.activations.proofs.ActTableLaws.{judged-goal, judged-spot, other-refusal, own-refusal}
use Rattle.activations.proofs.OwnerLaws.{draw-length, owner_at}
use Rattle.activations.proofs.RowsNoted.{put-length, put_other, put_same}
use Rattle.activations.proofs.LookupLaws.{place-most}

module _ (ns : List Name) (s : List ℕ) (short : length s ≤ 65536) where
  -- an offset at which a name stands is below 65,536
  low : (at : ℕ) (n : Name) (q : ℕ) → name_in ns s at ≡ value n q → at < 65536
  low at n q e = let i = name-number ns s at n q e in let v = (u16-value s at i.i q i.is).inside in omega arith

  -- nodes
  module _ (from n : ℕ) (nodes : List ℕ) (filled : (j : ℕ) → j < n → get_or nodes j 0 ≡ nth (node_end ns s) from j % 65536) where
    nodes-from : (m k : ℕ) (xs : List Node) (q : ℕ) → k + m ≤ n → many (node_in ns s) m (nth (node_end ns s) from k) ≡ value xs q
        → NodesFrom ns s nodes k xs × ((j : ℕ) → j < m → get_or nodes (k + j) 0 ≡ nth (node_end ns s) from (k + j))
    unfolding NodesFrom
    nodes-from zero k [] q l e = (tt, λ j h. absurd (omega arith))
    nodes-from zero k (x ∷ xs) q l e = absurd (many-cut (node_in ns s) _ x xs q e)
    nodes-from (suc m) k [] q l e = absurd (many-over (node_in ns s) m _ q e)
    nodes-from (suc m) k (x ∷ xs) q l e =
        let a = many_more (node_in ns s) m _ x xs q e in
        let r = node-value ns s _ x a.0 a.1 in
        let here : get_or nodes k 0 ≡ nth (node_end ns s) from k = filled k (omega arith) ∙ mod-eq_of_lt (low _ x.name r.to-kind r.name) in
        let next : nth (node_end ns s) from (suc k) ≡ a.0 = sym (nth-step (node_end ns s) from k) ∙ node-ends ns s _ x a.0 a.1 in
        let rest = nodes-from m (suc k) xs q (omega arith) (ap (many (node_in ns s) m) next ∙ a.2) in
        ((record { end = a.0; read = ap (node_in ns s) here ∙ a.1 }, rest.0), at here rest.1)
      where
        at : get_or nodes k 0 ≡ nth (node_end ns s) from k → ((j : ℕ) → j < m → get_or nodes (suc k + j) 0 ≡ nth (node_end ns s) from (suc k + j))
            → (j : ℕ) → j < suc m → get_or nodes (k + j) 0 ≡ nth (node_end ns s) from (k + j)
        at h g zero b = let z : k ≡ k + 0 = omega arith in subst (λ y. get_or nodes y 0 ≡ nth (node_end ns s) from y) z h
        at h g (suc j) b = let z : suc k + j ≡ k + suc j = omega arith in subst (λ y. get_or nodes y 0 ≡ nth (node_end ns s) from y) z (g j (omega arith))

  -- the indexes of their names, as a table filled in order has them
  owners-are : (from n : ℕ) (xs : List Node) (q : ℕ) (nodes : List ℕ) → many (node_in ns s) n from ≡ value xs q → ((j : ℕ) → j < n → get_or nodes j 0 ≡ nth (node_end ns s) from j) → NodesAre ns (owners_t s nodes n) n (node_names xs)
  unfolding node_name_t
  owners-are from n xs q nodes e h =
      record {
        number = z.number;
        small = λ j l. subst (λ y. y < length ns) (same j l) (z.small j l);
        named = λ j l. ap (name_at ns) (sym (same j l)) ∙ z.named j l;
      }
    where
      T : List ℕ
      T = fill_t (node_name_t ns s from) n 0 (replicate n 0)

      z : NodesAre ns T n (node_names xs)
      z = nodes-filled ns s from n xs q (replicate n 0) e (omega (arith, length-replicate {A = ℕ} n 0))

      same : (j : ℕ) → j < n → get_or T j 0 ≡ get_or (owners_t s nodes n) j 0
      same j l =
          fill-at (node_name_t ns s from) n 0 (replicate n 0) j (omega arith) (omega arith) (omega (arith, length-replicate {A = ℕ} n 0))
          ∙ ap (λ y. (number_in s y).value) (sym (h j l)) ∙ sym (owner_at s nodes n j l)

-- the row of an activation
pub record Row (ns : List Name) (s : List ℕ) (nodes : List Name) (acts : List ℕ) (i : ℕ) (A : Activation) : Type 0 where
  pub end : ℕ
  pub read : activation_in ns s (spot_t acts i) ≡ value A end
  pub goal : goal_t acts i ≡ place nodes A.owner
  pub refused : refusal_by ns A.name (refusal_t acts i) ≡ some (unknown_owner A.name A.owner)

-- a row that is the same in two tables
record SameRow (t u : List ℕ) (i : ℕ) : Type 0 where
  spot : spot_t u i ≡ spot_t t i
  goal : goal_t u i ≡ goal_t t i
  refused : refusal_t u i ≡ refusal_t t i

same_rows : (t u v : List ℕ) (i : ℕ) → SameRow t u i → SameRow u v i → SameRow t v i
same_rows t u v i a b = record { spot = b.spot ∙ a.spot; goal = b.goal ∙ a.goal; refused = b.refused ∙ a.refused }

row_kept : (ns : List Name) (s : List ℕ) (nodes : List Name) (t u : List ℕ) (i : ℕ) (A : Activation) → SameRow t u i → Row ns s nodes t i A → Row ns s nodes u i A
row_kept ns s nodes t u i A h r =
    record {
      end = r.end;
      read = ap (activation_in ns s) h.spot ∙ r.read;
      goal = h.goal ∙ r.goal;
      refused = ap (refusal_by ns A.name) h.refused ∙ r.refused;
    }

-- an activation without owner, in numbers
unowned : (ns : List Name) (a : Name) (o : ℕ) (n : Name) → o < length ns → name_at ns o ≡ n → refusal_by ns a (refused_t 13 o (length ns)) ≡ some (unknown_owner a n)
unfolding refusal_by called unknown_owner
unowned ns a o n l e =
    rw (lt-ltb o (length ns) l, le-ltb (length ns) (length ns) (omega arith), eq-eqb (length ns) (length ns) refl)
    (ap (λ (x : Name). some (record { kind = 13; names = a ∷ x ∷ [] })) e)

-- a row is drawn: others stay
module _ (names : ℕ) (s nodes : List ℕ) (n i p : ℕ) (t : List ℕ) (low : i < 6656) where
  spotted : (k c : ℕ) → (c ≡ i → ⊥) → (c ≡ 6656 + i → ⊥) → get_or (put_t (put_t t i p) (6656 + i) k) c 0 ≡ get_or t c 0
  spotted k c d e = put_other _ (6656 + i) k c e ∙ put_other t i p c d

  drawn-other : (j : ℕ) → j < 6656 → (j ≡ i → ⊥) → SameRow t (draw_t names s nodes n i p t) j
  unfolding draw_t with spot_t goal_t refusal_t
  drawn-other j l d =
      let k : ℕ = named_t s nodes n (number_in s (number_in s p).next).value in
      let a = spotted k (13312 + j) (λ e. omega arith) (λ e. omega arith) in
      let b = spotted k (19968 + j) (λ e. omega arith) (λ e. omega arith) in
      let c = spotted k (26624 + j) (λ e. omega arith) (λ e. omega arith) in
      record {
        spot = judged-spot _ i _ 0 low j l ∙ spotted k j d (λ e. omega arith);
        goal = judged-goal _ i _ 0 low j l ∙ spotted k (6656 + j) (λ e. omega arith) (λ e. d (omega arith));
        refused = other-refusal _ i _ 0 low j l d ∙ λ x. refused_t (a x) (b x) (c x);
      }

-- and its own is that of the activation that was read there
module _ (ns : List Name) (s : List ℕ) (short : length s ≤ 65536) (few : length ns < 65536) (fresh : Fresh [] ns) (nodes : List ℕ) (n : ℕ) (N : List Name) (owners : NodesAre ns (owners_t s nodes n) n N) (small : n < 65536) where
  drawn-own : (i p : ℕ) (t : List ℕ) (A : Activation) (q : ℕ) → i < 6656 → 39936 ≤ length t → activation_in ns s p ≡ value A q → Row ns s N (draw_t (length ns) s nodes n i p t) i A
  unfolding draw_t with spot_t goal_t named_t
  drawn-own i p t A q l long e =
      let r = activation-value ns s p A q e in
      let x = name-number ns s p A.name r.to-owner r.name in
      let o = name-number ns s r.to-owner A.owner r.to-outputs r.owner in
      let v : (number_in s (number_in s p).next).value ≡ o.i =
      ap (λ (y : Number). (number_in s y.next).value) (number-num s p x.i r.to-owner x.is) ∙ ap (λ (y : Number). y.value) (number-num s r.to-owner o.i r.to-outputs o.is) in
      let small-o : (number_in s (number_in s p).next).value < length ns = subst (λ y. y < length ns) (sym v) o.small in
      let named-o : name_at ns (number_in s (number_in s p).next).value ≡ A.owner = ap (name_at ns) v ∙ o.named in
      let f : named_t s nodes n (number_in s (number_in s p).next).value ≡ place N A.owner = found-place ns fresh (owners_t s nodes n) n N owners _ A.owner small-o named-o in
      let k : place N A.owner ≤ length N = place-most N A.owner in
      let few-k : named_t s nodes n (number_in s (number_in s p).next).value < 65536 = omega (arith, f, k, owners.number) in
      let lp : p < 65536 = low ns s short p A.name r.to-owner r.name in
      let m = put-length t i p in
      let g = put-length (put_t t i p) (6656 + i) (named_t s nodes n (number_in s (number_in s p).next).value) in
      let spot : spot_t (draw_t (length ns) s nodes n i p t) i ≡ p = judged-spot _ i _ 0 l i l ∙ put_other _ (6656 + i) _ i (λ z. omega arith) ∙ put_same t i p (omega arith) lp in
      record {
        end = q;
        read = ap (activation_in ns s) spot ∙ e;
        goal = judged-goal _ i _ 0 l i l ∙ put_same (put_t t i p) (6656 + i) _ (omega arith) few-k ∙ f;
        refused = ap (refusal_by ns A.name) (own-refusal _ i _ 0 l (omega arith) (omega arith) (omega arith) few) ∙ unowned ns A.name _ A.owner small-o named-o;
      }

  -- all rows, one after the other
  rows-kept : (m i p : ℕ) (t : List ℕ) (j : ℕ) → i + m ≤ 6656 → j < i → SameRow t (pass_t (λ k. draw_t (length ns) s nodes n) (act_end ns s) m i p t) j
  unfolding pass_t
  rows-kept zero i p t j l h = record { spot = refl; goal = refl; refused = refl }
  rows-kept (suc m) i p t j l h =
      same_rows t (draw_t (length ns) s nodes n i p t) _ j (drawn-other (length ns) s nodes n i p t (omega arith) j (omega arith) (λ e. omega arith))
      (rows-kept m (suc i) (act_end ns s p) (draw_t (length ns) s nodes n i p t) j (omega arith) (omega arith))

  rows : (before : List Activation) (A : Activation) (post : List Activation) (m i p q : ℕ) (t : List ℕ) → i + m ≤ 6656 → 39936 ≤ length t → many (activation_in ns s) m p ≡ value (before ++ (A ∷ post)) q
      → Row ns s N (pass_t (λ k. draw_t (length ns) s nodes n) (act_end ns s) m i p t) (i + length before) A
  unfolding pass_t
  rows [] A post zero i p q t l long e = absurd (many-cut (activation_in ns s) p A post q e)
  rows [] A post (suc m) i p q t l long e =
      let a = many_more (activation_in ns s) m p A post q e in
      let z : i ≡ i + 0 = omega arith in
      subst (λ j. Row ns s N (pass_t (λ k. draw_t (length ns) s nodes n) (act_end ns s) m (suc i) (act_end ns s p) (draw_t (length ns) s nodes n i p t)) j A) z
      (row_kept ns s N (draw_t (length ns) s nodes n i p t) _ i A (rows-kept m (suc i) (act_end ns s p) (draw_t (length ns) s nodes n i p t) i (omega arith) (omega arith)) (drawn-own i p t A a.0 (omega arith) long a.1))
  rows (B ∷ before) A post zero i p q t l long e = absurd (many-cut (activation_in ns s) p B (before ++ (A ∷ post)) q e)
  rows (B ∷ before) A post (suc m) i p q t l long e =
      let a = many_more (activation_in ns s) m p B (before ++ (A ∷ post)) q e in
      let z : suc i + length before ≡ i + suc (length before) = omega arith in
      let d : act_end ns s p ≡ a.0 = act-end-to ns s p B a.0 (activation-value ns s p B a.0 a.1) in
      let k : 39936 ≤ length (draw_t (length ns) s nodes n i p t) = omega (arith, draw-length (length ns) s nodes n i p t) in
      subst (λ j. Row ns s N (pass_t (λ k. draw_t (length ns) s nodes n) (act_end ns s) m (suc i) (act_end ns s p) (draw_t (length ns) s nodes n i p t)) j A) z
      (rows before A post m (suc i) (act_end ns s p) q (draw_t (length ns) s nodes n i p t) (omega arith) k (ap (many (activation_in ns s) m) d ∙ a.2))

  rows_long : (m i p : ℕ) (t : List ℕ) → length (pass_t (λ k. draw_t (length ns) s nodes n) (act_end ns s) m i p t) ≡ length t
  unfolding pass_t
  rows_long zero i p t = refl
  rows_long (suc m) i p t = rows_long m (suc i) (act_end ns s p) (draw_t (length ns) s nodes n i p t) ∙ draw-length (length ns) s nodes n i p t

-- the table of nodes, as it is filled
nodes-filled-are : (ns : List Name) (s : List ℕ) (at m : ℕ) (t : List ℕ) → u16 s at ≡ value m (at + 2) → place_nodes_t ns s at t ≡ fill_t (λ i. nth (node_end ns s) (at + 2) i % 65536) m 0 t
unfolding place_nodes_t
nodes-filled-are ns s at m t e = number-to s at m (at + 2) _ e

acts-passed-are : (ns : List Name) (s nodes : List ℕ) (n at m : ℕ) (t : List ℕ) → u16 s at ≡ value m (at + 2) → place_acts_t ns s nodes n at t ≡ pass_t (λ k. draw_t (length ns) s nodes n) (act_end ns s) m 0 (at + 2) t
unfolding place_acts_t
acts-passed-are ns s nodes n at m t e = number-to s at m (at + 2) _ e

-- what the tables say of a pack with m nodes and n activations
pub record Placed (s : List ℕ) (p : Package) (m n : ℕ) (nodes acts : List ℕ) : Type 0 where
  pub count_nodes : m ≡ length p.nodes
  pub count_acts : n ≡ length p.activations
  pub long : 39936 ≤ length acts
  pub stand : NodesFrom p.names s nodes 0 p.nodes
  pub rows : (before : List Activation) (A : Activation) (post : List Activation) → p.activations ≡ before ++ (A ∷ post) → Row p.names s (node_names p.nodes) acts (length before) A

module _ (s : List ℕ) (k : Pack) (p : Package) (h : SectionsAt s k p) (bytes : Bytes s) (short : length s ≤ 65536) where
  few : length p.names < 65536
  few = (format_names.legal s bytes 0 p.names k.enums h.names).0

  fresh : Fresh [] p.names
  fresh = (format_names.legal s bytes 0 p.names k.enums h.names).1

  nodes-read : (u16 s k.nodes ≡ value (length p.nodes) (k.nodes + 2)) × (many (node_in p.names s) (length p.nodes) (k.nodes + 2) ≡ value p.nodes k.machines)
  nodes-read = counted-many (node_in p.names s) s k.nodes p.nodes k.machines h.nodes

  acts-read : (u16 s k.activations ≡ value (length p.activations) (k.activations + 2)) × (many (activation_in p.names s) (length p.activations) (k.activations + 2) ≡ value p.activations k.origins)
  acts-read = counted-many (activation_in p.names s) s k.activations p.activations k.origins h.activations

  module _ (nodes₀ nodes : List ℕ) (room : 5957 ≤ length nodes₀) (is : nodes ≡ place_nodes_t p.names s k.nodes nodes₀) where
    filled : (j : ℕ) → j < length p.nodes → get_or nodes j 0 ≡ nth (node_end p.names s) (k.nodes + 2) j % 65536
    filled j l =
        ap (λ (t : List ℕ). get_or t j 0) (is ∙ nodes-filled-are p.names s k.nodes (length p.nodes) nodes₀ nodes-read.0)
        ∙ fill-at (λ i. nth (node_end p.names s) (k.nodes + 2) i % 65536) (length p.nodes) 0 nodes₀ j (omega arith) (omega arith) (omega (arith, nodes-few s k p h short))

    nodes-stand : NodesFrom p.names s nodes 0 p.nodes × ((j : ℕ) → j < length p.nodes → get_or nodes (0 + j) 0 ≡ nth (node_end p.names s) (k.nodes + 2) (0 + j))
    nodes-stand = nodes-from p.names s short (k.nodes + 2) (length p.nodes) nodes filled (length p.nodes) 0 p.nodes k.machines (omega arith) (ap (many (node_in p.names s) (length p.nodes)) (sym (nth-start (node_end p.names s) (k.nodes + 2))) ∙ nodes-read.1)

    owners : NodesAre p.names (owners_t s nodes (length p.nodes)) (length p.nodes) (node_names p.nodes)
    owners =
        owners-are p.names s short (k.nodes + 2) (length p.nodes) p.nodes k.machines nodes nodes-read.1
        (λ j l. let z : 0 + j ≡ j = omega arith in subst (λ y. get_or nodes y 0 ≡ nth (node_end p.names s) (k.nodes + 2) y) z (nodes-stand.1 j l))

    -- THE LAW: of a pack that was read, the tables say where its nodes and activations stand; all are refused for their owner
    pub placed : (m n : ℕ) (acts₀ acts : List ℕ) → 39936 ≤ length acts₀ → m ≡ (number_in s k.nodes).value → n ≡ (number_in s k.activations).value → acts ≡ place_acts_t p.names s nodes m k.activations acts₀ → Placed s p m n nodes acts
    placed m n acts₀ acts long a b e =
        let c : m ≡ length p.nodes = a ∙ ap (λ (y : Number). y.value) (number-num s k.nodes (length p.nodes) (k.nodes + 2) nodes-read.0) in
        let d : n ≡ length p.activations = b ∙ ap (λ (y : Number). y.value) (number-num s k.activations (length p.activations) (k.activations + 2) acts-read.0) in
        let small : length p.nodes < 65536 = omega (arith, nodes-few s k p h short) in
        let passed : acts ≡ pass_t (λ i. draw_t (length p.names) s nodes (length p.nodes)) (act_end p.names s) (length p.activations) 0 (k.activations + 2) acts₀ =
        e ∙ ap (λ y. place_acts_t p.names s nodes y k.activations acts₀) c ∙ acts-passed-are p.names s nodes (length p.nodes) k.activations (length p.activations) acts₀ acts-read.0 in
        record {
          count_nodes = c;
          count_acts = d;
          long = omega (arith, ap length passed, rows_long p.names s short few fresh nodes (length p.nodes) (node_names p.nodes) owners small (length p.activations) 0 (k.activations + 2) acts₀);
          stand = nodes-stand.0;
          rows = λ before A post f.
              let z : 0 + length before ≡ length before = omega arith in
              subst (λ (t : List ℕ). Row p.names s (node_names p.nodes) t (length before) A) (sym passed)
              (subst (λ j. Row p.names s (node_names p.nodes) (pass_t (λ i. draw_t (length p.names) s nodes (length p.nodes)) (act_end p.names s) (length p.activations) 0 (k.activations + 2) acts₀) j A) z
              (rows p.names s short few fresh nodes (length p.nodes) (node_names p.nodes) owners small before A post (length p.activations) 0 (k.activations + 2) k.origins acts₀ (omega (arith, acts-few s k p h short)) long
              (acts-read.1 ∙ ap (λ (xs : List Activation). value xs k.origins) f)));
        }

-- in the words of the definitions
module _ (s : List ℕ) (p : Package) (m n : ℕ) (nodes acts : List ℕ) (h : Placed s p m n nodes acts) where
  pub placed-drawn : Drawn p.names s p.enums p.nodes p.activations acts
  placed-drawn before A post e = let r = h.rows before A post e in record { end = r.end; read = r.read; goal = r.goal }

  pub placed-fate : (before : List Activation) (A : Activation) (post : List Activation) → p.activations ≡ before ++ (A ∷ post)
      → FateIs p.names A.name (refusal_t acts (length before)) (made_t acts (length before)) (refuse (unknown_owner A.name A.owner))
  unfolding FateIs
  placed-fate before A post e = (h.rows before A post e).refused

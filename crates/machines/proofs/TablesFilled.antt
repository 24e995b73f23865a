-- Tables filled by the index: where machines are drawn and their regions, and the names of nodes.
use Prim.Native.Nat.{ℕ, zero, suc, ◌+◌, ◌<◌, ◌≤◌}
use native.Mathlib.Omega.{arith}
use mathlib.Core.List.{List, [], ◌∷◌}
use mathlib.Core.Bool.{Bool, true, false}
use mathlib.Core.Path.{◌≡◌, refl, sym, ap, subst, ◌∙◌}
use lib.ListN.{length, get_or, set, length-set}
use lib.Seq.{get_or-set_other, get_or-set_same}
use lib.Dec.{eqb}
use borrow.Author.Tests.{eqb-false, eqb-true}
use Rattle.wire.specs.Answer.{many, value}
use Rattle.wire.proofs.Answers.{many-length}
use Rattle.pack_rules.specs.Names.{Name}
use Rattle.pack_rules.specs.Syntax.{MachineDef, Node}
use Rattle.pack_rules.specs.Forms.{name_at}
use Rattle.pack_rules.specs.Read.{machine_in, node_in}
use Rattle.wire.specs.declared.answer.Number.{Number}
use Rattle.machines.specs.CheckedReads.{number_in}
use Rattle.machines.specs.Tables.{initial_in, states_end}
use Rattle.machines.specs.Sections.{node_names}
use Rattle.machines.specs.OwnersAt.{fill_t, machine_end, node_end, node_name_t, nth}
use Rattle.machines.specs.Verdicts.{Judgings, NodesAre, VerdictAs}
use Rattle.machines.proofs.Reading.{machine-value, many-cut, many_more, many-over, name-number}
use Rattle.machines.proofs.CheckedReadLaws.{number-num, number-to}
use Rattle.machines.proofs.MachinesPlaced.{initial-to, states-to}
use Rattle.machines.proofs.Shares.{length-names}
use Rattle.machines.proofs.ShownCounts.{node-end-to, node-value}
use Rattle.machines.proofs.OwnerLaws.{nth-step}

-- a filled table
module _ (f : ℕ → ℕ) where
  pub fill-length : (n i : ℕ) (t : List ℕ) → length (fill_t f n i t) ≡ length t
  unfolding fill_t
  fill-length zero i t = refl
  fill-length (suc n) i t = fill-length n (suc i) (set t i (f i)) ∙ length-set t i (f i)

  pub fill-before : (n i : ℕ) (t : List ℕ) (j : ℕ) → j < i → get_or (fill_t f n i t) j 0 ≡ get_or t j 0
  unfolding fill_t
  fill-before zero i t j h = refl
  fill-before (suc n) i t j h = fill-before n (suc i) (set t i (f i)) j (omega arith) ∙ get_or-set_other t i j (f i) 0 (λ e. omega arith)

  pub fill-at : (n i : ℕ) (t : List ℕ) (j : ℕ) → i ≤ j → j < i + n → j < length t → get_or (fill_t f n i t) j 0 ≡ f j
  unfolding fill_t
  fill-at zero i t j a b c = absurd (omega arith)
  fill-at (suc n) i t j a b c = go (eqb j i) refl (λ d. fill-at n (suc i) (set t i (f i)) j d (omega arith) (omega (arith, length-set t i (f i))))
    where
      go : (x : Bool) → eqb j i ≡ x → (suc i ≤ j → get_or (fill_t f n (suc i) (set t i (f i))) j 0 ≡ f j) → get_or (fill_t f n (suc i) (set t i (f i))) j 0 ≡ f j
      go true e r =
          let k = eqb-true j i e in
          fill-before n (suc i) (set t i (f i)) j (omega arith)
          ∙ ap (λ y. get_or (set t i (f i)) y 0) k ∙ get_or-set_same t i (f i) 0 (omega arith) ∙ ap f (sym k)
      go false e r = let k = eqb-false j i e in r (omega arith)

module _ (ns : List Name) (s : List ℕ) where
  -- past what was read
  pub machine-ends : (at : ℕ) (d : MachineDef) (e : ℕ) → machine_in ns s at ≡ value d e → machine_end ns s at ≡ e
  unfolding machine_end
  machine-ends at d e h =
      let r = machine-value ns s at d e h in
      let n = name-number ns s at d.name r.to-owner r.name in
      number-to s at n.i r.to-owner (λ m p. states_end ns s (initial_in ns s p)) n.is
      ∙ ap (states_end ns s) (initial-to ns s at d e r)
      ∙ states-to ns s at d e r

  pub node-ends : (at : ℕ) (x : Node) (q : ℕ) → node_in ns s at ≡ value x q → node_end ns s at ≡ q
  unfolding node_end
  node-ends at x q h = node-end-to ns s at x q (node-value ns s at x q h)

  -- at an offset stands the drawing of index i
  pub record DrawnAt (at : ℕ) (ds : List MachineDef) (i : ℕ) : Type 0 where
    pub drawing : MachineDef
    pub end : ℕ
    pub read : machine_in ns s at ≡ value drawing end
    pub among : (z : MachineDef) → get_or ds i z ≡ drawing

  module _ (from : ℕ) where
    next : (k : ℕ) (d : MachineDef) (e : ℕ) → machine_in ns s (nth (machine_end ns s) from k) ≡ value d e → nth (machine_end ns s) from (suc k) ≡ e
    next k d e h = sym (nth-step (machine_end ns s) from k) ∙ machine-ends (nth (machine_end ns s) from k) d e h

    drawn-from : (m k : ℕ) (ds : List MachineDef) (q : ℕ) → many (machine_in ns s) m (nth (machine_end ns s) from k) ≡ value ds q → (i : ℕ) → i < m → DrawnAt (nth (machine_end ns s) from (k + i)) ds i
    drawn-from zero k ds q e i l = absurd (omega arith)
    drawn-from (suc m) k [] q e i l = absurd (many-over (machine_in ns s) m _ q e)
    drawn-from (suc m) k (d ∷ ds) q e zero l =
        let a = many_more (machine_in ns s) m _ d ds q e in
        let z : k ≡ k + 0 = omega arith in
        record { drawing = d; end = a.0; read = ap (λ y. machine_in ns s (nth (machine_end ns s) from y)) (sym z) ∙ a.1; among = λ y. refl }
    drawn-from (suc m) k (d ∷ ds) q e (suc i) l =
        let a = many_more (machine_in ns s) m _ d ds q e in
        let z : suc k + i ≡ k + suc i = omega arith in
        let r = drawn-from m (suc k) ds q (ap (many (machine_in ns s) m) (next k d a.0 a.1) ∙ a.2) i (omega arith) in
        record { drawing = r.drawing; end = r.end; read = ap (λ y. machine_in ns s (nth (machine_end ns s) from y)) (sym z) ∙ r.read; among = r.among }

    -- each of the machines that were read stands where the one before it ends
    pub machine-drawn : (n : ℕ) (ds : List MachineDef) (q : ℕ) → many (machine_in ns s) n from ≡ value ds q → (i : ℕ) → i < n → DrawnAt (nth (machine_end ns s) from i) ds i
    unfolding nth
    machine-drawn n ds q e i l =
        let z : 0 + i ≡ i = omega arith in
        subst (λ k. DrawnAt (nth (machine_end ns s) from k) ds i) z (drawn-from n 0 ds q e i l)

    module _ (ms : List MachineDef) (n : ℕ) (defs regcounts : List ℕ) (gs : ℕ → ℕ) (drawn : (i : ℕ) → i < n → get_or defs i 0 ≡ nth (machine_end ns s) from i) (found : (i : ℕ) → i < n → get_or regcounts i 0 ≡ gs i)
        (hints : (i : ℕ) → i < n → (d : MachineDef) (e : ℕ) → machine_in ns s (nth (machine_end ns s) from i) ≡ value d e → VerdictAs ms d (gs i)) where
      judgings-from : (m k : ℕ) (ds : List MachineDef) (q : ℕ) → k + m ≤ n → many (machine_in ns s) m (nth (machine_end ns s) from k) ≡ value ds q → Judgings ms ns s defs regcounts k ds
      unfolding Judgings
      judgings-from m k [] q l e = tt
      judgings-from zero k (d ∷ ds) q l e = absurd (many-cut (machine_in ns s) _ d ds q e)
      judgings-from (suc m) k (d ∷ ds) q l e =
          let a = many_more (machine_in ns s) m _ d ds q e in (
            record {
              end = a.0;
              read = ap (machine_in ns s) (drawn k (omega arith)) ∙ a.1;
              told = subst (VerdictAs ms d) (sym (found k (omega arith))) (hints k (omega arith) d a.0 a.1);
            },
            judgings-from m (suc k) ds q (omega arith) (ap (many (machine_in ns s) m) (next k d a.0 a.1) ∙ a.2),
          )

    -- THE LAW: machines that were read are drawn and judged as the filled tables say
    pub judgings-filled : (ms : List MachineDef) (n : ℕ) (ds : List MachineDef) (q : ℕ) (gs : ℕ → ℕ) (defs regcounts : List ℕ) → many (machine_in ns s) n from ≡ value ds q → n ≤ length defs → n ≤ length regcounts
        → ((i : ℕ) → i < n → (d : MachineDef) (e : ℕ) → machine_in ns s (nth (machine_end ns s) from i) ≡ value d e → VerdictAs ms d (gs i))
        → Judgings ms ns s (fill_t (nth (machine_end ns s) from) n 0 defs) (fill_t gs n 0 regcounts) 0 ds
    unfolding nth
    judgings-filled ms n ds q gs defs regcounts e a b t =
        judgings-from ms n (fill_t (nth (machine_end ns s) from) n 0 defs) (fill_t gs n 0 regcounts) gs
        (λ i l. fill-at (nth (machine_end ns s) from) n 0 defs i (omega arith) (omega arith) (omega arith)) (λ i l. fill-at gs n 0 regcounts i (omega arith) (omega arith) (omega arith))
        t n 0 ds q (omega arith) e

    -- the names of nodes that were read
    name-here : (at : ℕ) (x : Node) (q : ℕ) → node_in ns s at ≡ value x q → ((number_in s at).value < length ns) × (name_at ns (number_in s at).value ≡ x.name)
    name-here at x q e =
        let r = node-value ns s at x q e in
        let n = name-number ns s at x.name r.to-kind r.name in
        let v : (number_in s at).value ≡ n.i = ap (λ (y : Number). y.value) (number-num s at n.i r.to-kind n.is) in
        (subst (λ y. y < length ns) (sym v) n.small, ap (name_at ns) v ∙ n.named)

    named-from : (m k : ℕ) (xs : List Node) (q : ℕ) → many (node_in ns s) m (nth (node_end ns s) from k) ≡ value xs q
        → (j : ℕ) → j < m → (node_name_t ns s from (k + j) < length ns) × (name_at ns (node_name_t ns s from (k + j)) ≡ get_or (node_names xs) j [])
    unfolding node_name_t node_names
    named-from zero k xs q e j l = absurd (omega arith)
    named-from (suc m) k [] q e j l = absurd (many-over (node_in ns s) m _ q e)
    named-from (suc m) k (x ∷ xs) q e zero l =
        let a = many_more (node_in ns s) m _ x xs q e in
        let z : k ≡ k + 0 = omega arith in
        name-here (nth (node_end ns s) from (k + 0)) x a.0 (ap (λ y. node_in ns s (nth (node_end ns s) from y)) (sym z) ∙ a.1)
    named-from (suc m) k (x ∷ xs) q e (suc j) l =
        let a = many_more (node_in ns s) m _ x xs q e in
        let z : suc k + j ≡ k + suc j = omega arith in
        let p : nth (node_end ns s) from (suc k) ≡ a.0 = sym (nth-step (node_end ns s) from k) ∙ node-ends (nth (node_end ns s) from k) x a.0 a.1 in
        let r = named-from m (suc k) xs q (ap (many (node_in ns s) m) p ∙ a.2) j (omega arith) in
        (subst (λ y. node_name_t ns s from y < length ns) z r.0, ap (λ y. name_at ns (node_name_t ns s from y)) (sym z) ∙ r.1)

    -- THE LAW: the filled table holds the names of the nodes that were read
    pub nodes-filled : (n : ℕ) (xs : List Node) (q : ℕ) (nodes : List ℕ) → many (node_in ns s) n from ≡ value xs q → n ≤ length nodes → NodesAre ns (fill_t (node_name_t ns s from) n 0 nodes) n (node_names xs)
    unfolding nth
    nodes-filled n xs q nodes e l =
        record {
          number = length-names xs ∙ many-length (node_in ns s) n from xs q e;
          small = λ j h. subst (λ y. y < length ns) (sym (at j h)) (name j h).0;
          named = λ j h. ap (name_at ns) (at j h) ∙ (name j h).1;
        }
      where
        at : (j : ℕ) → j < n → get_or (fill_t (node_name_t ns s from) n 0 nodes) j 0 ≡ node_name_t ns s from j
        at j h = fill-at (node_name_t ns s from) n 0 nodes j (omega arith) (omega arith) (omega arith)

        name : (j : ℕ) → j < n → (node_name_t ns s from j < length ns) × (name_at ns (node_name_t ns s from j) ≡ get_or (node_names xs) j [])
        name j h =
            let z : 0 + j ≡ j = omega arith in
            subst (λ k. (node_name_t ns s from k < length ns) × (name_at ns (node_name_t ns s from k) ≡ get_or (node_names xs) j [])) z (named-from n 0 xs q e j h)

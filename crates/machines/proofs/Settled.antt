-- What the code settles by tables is the verdict of each machine.
use Prim.Native.Nat.{ℕ, zero, suc, ◌+◌, ◌<◌, ◌≤◌}
use native.Mathlib.Omega.{arith}
use mathlib.Core.List.{List, [], ◌∷◌, ◌++◌, append-nil}
use mathlib.Core.Bool.{Bool, true, false, cond}
use mathlib.Core.Option.{Option, none, some}
use mathlib.Core.Path.{◌≡◌, refl, sym, ap, subst, ◌∙◌}
use lib.ListN.{length, get_or, set, length-append, length-set, get_or-append}
use lib.Seq.{get_or-append_seam, get_or-set_other, get_or-set_same}
use lib.Dec.{eqb}
use borrow.Author.Tests.{eq-eqb, eqb-false, eqb-true, ne_eqb}
use Rattle.wire.specs.Answer.{value}
use Rattle.pack_rules.specs.Limits.{absent}
use Rattle.pack_rules.specs.Names.{Name, eq_name, member}
use Rattle.pack_rules.specs.Syntax.{MachineDef}
use Rattle.machine_rules.specs.Resolved.{ResolvedMachine}
use Rattle.pack_rules.specs.Forms.{name_at}
use Rattle.pack_rules.specs.Legal.{Fresh, place}
use Rattle.pack_rules.specs.Read.{machine_in, optional_in}
use Rattle.pack_rules.specs.Report.{Refusal}
use Rattle.pack.proofs.Tables.{Either, either, known, place_out, unknown}
use Rattle.wire.specs.declared.answer.Number.{Number}
use Rattle.machine_rules.specs.Refusals.{unknown_owner}
use Rattle.machine_rules.specs.Resolve.{as_machine}
use Rattle.machine_rules.specs.Checks.{refusal_of}
use Rattle.machine_rules.specs.Machines.{MachineVerdict, accept, judge, refuse}
use Rattle.machines.specs.Sections.{fate_of, index_of, share_of}
use Rattle.machines.specs.RefusalsIn.{names_then}
use Rattle.machines.specs.TableMeaning.{LoweredAt}
use Rattle.machines.specs.CheckedReads.{number_in, with}
use Rattle.machines.specs.OwnersAt.{Nodes, find_t, goes_to, joined, nodes_of, settle_t, settled_t}
use Rattle.machines.specs.Verdicts.{AcceptedAs, JudgedAt, Judgings, NodesAre, Settled, SettledAs, VerdictAs, VerdictOf, judged, unowned, verdict_in, verdicts}
use Rattle.machines.proofs.Reading.{machine-value, name-number, optional-none, optional-some}
use Rattle.machines.proofs.CheckedReadLaws.{number-num, number-to}
use Rattle.machines.proofs.NamesPlaced.{alone}
use Rattle.machines.proofs.OwnerLaws.{goes-alone, goes-nowhere, goes-refused, goes-there}

-- a search for a name's index among nodes finds the place of the name
find-place : (ns : List Name) → Fresh [] ns → (t : List ℕ) (x : ℕ) → x < length ns → (names : List Name) (n i : ℕ) → length names ≡ n
    → ((j : ℕ) → j < n → get_or t (i + j) 0 < length ns)
    → ((j : ℕ) → j < n → name_at ns (get_or t (i + j) 0) ≡ get_or names j [])
    → find_t t x n i ≡ i + place names (name_at ns x)
unfolding find_t place
find-place ns f t x l [] zero i e a b = omega arith
find-place ns f t x l [] (suc n) i e a b = absurd (omega arith)
find-place ns f t x l (y ∷ ys) zero i e a b = absurd (omega arith)
find-place ns f t x l (y ∷ ys) (suc n) i e a b =
    let z : i + 0 ≡ i = omega arith in
    let small : get_or t i 0 < length ns = subst (λ k. get_or t k 0 < length ns) z (a 0 (omega arith)) in
    let name : name_at ns (get_or t i 0) ≡ y = ap (λ k. name_at ns (get_or t k 0)) (sym z) ∙ b 0 (omega arith) in
    let same : eq_name y (name_at ns x) ≡ eqb (get_or t i 0) x = ap (λ n. eq_name n (name_at ns x)) (sym name) ∙ alone ns f x (get_or t i 0) l small in
    let shift : (j : ℕ) → i + suc j ≡ suc i + j = λ j. omega arith in
    let rest = find-place ns f t x l ys n (suc i) (omega arith) (λ j h. subst (λ k. get_or t k 0 < length ns) (shift j) (a (suc j) (omega arith))) (λ j h. ap (λ k. name_at ns (get_or t k 0)) (sym (shift j)) ∙ b (suc j) (omega arith)) in
    rw same (go (eqb (get_or t i 0) x) rest)
  where
    go : (c : Bool) → find_t t x n (suc i) ≡ suc i + place ys (name_at ns x) → cond c i (find_t t x n (suc i)) ≡ i + cond c 0 (suc (place ys (name_at ns x)))
    go true h = omega arith
    go false h = omega arith

pub found-place : (ns : List Name) → Fresh [] ns → (t : List ℕ) (count : ℕ) (names : List Name) → NodesAre ns t count names → (x : ℕ) (n : Name) → x < length ns → name_at ns x ≡ n → find_t t x count 0 ≡ place names n
found-place ns f t count names h x n l e =
    let z : (j : ℕ) → j ≡ 0 + j = λ j. omega arith in
    find-place ns f t x l names count 0 h.number (λ j k. subst (λ y. get_or t y 0 < length ns) (z j) (h.small j k)) (λ j k. ap (λ y. name_at ns (get_or t y 0)) (sym (z j)) ∙ h.named j k)
    ∙ omega arith
    ∙ ap (place names) e

-- a name is at its place, or it is no member
place-member : (names : List Name) (n : Name) → member n names ≡ true → place names n < length names
place-member names n e = go (either names n)
  where
    go : Either names n → place names n < length names
    go (known k) = k
    go (unknown u) = let z : true ≡ false = sym e ∙ u in let y : ◌≡◌ {A = ℕ} 0 1 = ap (λ b. cond b 0 1) z in absurd (omega arith)

place-missing : (names : List Name) (n : Name) → member n names ≡ false → place names n ≡ length names
unfolding place
place-missing names n e = ap (λ l. place l n) (sym (append-nil names)) ∙ place_out names [] n e ∙ omega arith

-- a node more
node-more : (ns : List Name) (t : List ℕ) (count : ℕ) (names : List Name) (x : ℕ) (n : Name) → count < length t → x < length ns → name_at ns x ≡ n
    → NodesAre ns t count names → NodesAre ns (set t count x) (count + 1) (names ++ (n ∷ []))
node-more ns t count names x n l k e h =
    let m = h.number in
    record {
      number = omega (arith, length-append names (n ∷ []));
      small = λ j i. small j (eqb j count) refl i;
      named = λ j i. named j (eqb j count) refl i;
    }
  where
    small : (j : ℕ) (b : Bool) → eqb j count ≡ b → j < count + 1 → get_or (set t count x) j 0 < length ns
    small j true g i = subst (λ y. y < length ns) (sym (ap (λ y. get_or (set t count x) y 0) (eqb-true j count g) ∙ get_or-set_same t count x 0 l)) k
    small j false g i =
        let d = eqb-false j count g in
        subst (λ y. y < length ns) (sym (get_or-set_other t count j x 0 d)) (h.small j (omega arith))

    named : (j : ℕ) (b : Bool) → eqb j count ≡ b → j < count + 1 → name_at ns (get_or (set t count x) j 0) ≡ get_or (names ++ (n ∷ [])) j []
    named j true g i =
        let c : j ≡ length names = omega (arith, eqb-true j count g, h.number) in
        ap (name_at ns) (ap (λ y. get_or (set t count x) y 0) (eqb-true j count g) ∙ get_or-set_same t count x 0 l) ∙ e
        ∙ sym (ap (λ y. get_or (names ++ (n ∷ [])) y []) c ∙ get_or-append_seam names n [] [])
    named j false g i =
        let d = eqb-false j count g in
        let m = h.number in
        ap (name_at ns) (get_or-set_other t count j x 0 d) ∙ h.named j (omega arith) ∙ sym (get_or-append names (n ∷ []) [] j (omega arith))

-- where a machine goes is written at its index, and nowhere else
joined-ats : (i m k : ℕ) (x : Nodes) → (joined i m k x).receivers ≡ set x.receivers i k
unfolding joined
joined-ats i m k x = go (eqb k x.count)
  where
    go : (b : Bool) → (cond b (nodes_of (set x.receivers i k) (set x.nodes x.count m) (x.count + 1)) (nodes_of (set x.receivers i k) x.nodes x.count)).receivers ≡ set x.receivers i k
    go true = refl
    go false = refl

module _ (s defs regcounts : List ℕ) where
  settled-other : (i j : ℕ) (x : Nodes) → j < i → get_or (settled_t s defs regcounts i x).receivers j 0 ≡ get_or x.receivers j 0
  unfolding settled_t with
  settled-other i j x h = ap (λ l. get_or l j 0) (joined-ats i _ _ x) ∙ get_or-set_other x.receivers i j _ 0 (λ e. omega arith)

  -- entries before the index are left alone
  pub settle-before : (n i j : ℕ) (x : Nodes) → j < i → get_or (settle_t s defs regcounts n i x).receivers j 0 ≡ get_or x.receivers j 0
  unfolding settle_t
  settle-before zero i j x h = refl
  settle-before (suc n) i j x h = settle-before n (suc i) j (settled_t s defs regcounts i x) (omega arith) ∙ settled-other i j x h

-- the number of an owner
unfoldable OwnerIs : List Name → Option Name → ℕ → Type 0
OwnerIs ns none v = v ≡ absent
OwnerIs ns (some o) v = (v ≡ absent → ⊥) × (v < length ns) × (name_at ns v ≡ o)

owner-is : (ns : List Name) (s : List ℕ) (at : ℕ) (o : Option Name) (q : ℕ) → optional_in ns s at ≡ value o q → OwnerIs ns o (number_in s at).value
unfolding OwnerIs
owner-is ns s at none q e = ap (λ (y : Number). y.value) (number-num s at absent q (optional-none ns s at q e))
owner-is ns s at (some o) q e =
    let h = optional-some ns s at o q e in
    let v : (number_in s at).value ≡ h.i = ap (λ (y : Number). y.value) (number-num s at h.i q h.is) in
    (λ z. h.present (sym v ∙ z), subst (λ y. y < length ns) (sym v) h.small, ap (name_at ns) v ∙ h.named)

module _ (ms : List MachineDef) (ns : List Name) (s defs regcounts : List ℕ) where
  -- the tables x and, after the machine of index i, y
  record Step (i : ℕ) (d : MachineDef) (names : List Name) (o : Option Name) (j : MachineVerdict) (x y : Nodes) : Type 0 where
    receivers : length y.receivers ≡ length x.receivers
    room : length y.nodes ≡ length x.nodes
    count : y.count ≤ x.count + 1
    nodes : NodesAre ns y.nodes y.count (names_then names o j)
    here : (receivers : List ℕ) → get_or receivers i 0 ≡ get_or y.receivers i 0 → SettledAs ms ns s defs receivers regcounts i d (verdict_in names o j)

  module _ (i : ℕ) (d : MachineDef) (names : List Name) (x : Nodes) (m : ℕ) (inside : i < length x.receivers) where
    -- the machine makes no node, or the next one
    step-old : (o : Option Name) (j : MachineVerdict) (k : ℕ) → (k ≡ x.count → ⊥) → NodesAre ns x.nodes x.count (names_then names o j)
        → ((receivers : List ℕ) → get_or receivers i 0 ≡ k → SettledAs ms ns s defs receivers regcounts i d (verdict_in names o j)) → Step i d names o j x (joined i m k x)
    unfolding joined
    step-old o j k e n h =
        rw (ne_eqb k x.count e)
        (record { receivers = length-set x.receivers i k; room = refl; count = omega arith; nodes = n; here = λ l g. h l (g ∙ get_or-set_same x.receivers i k 0 inside) })

    step-new : (o : Option Name) (j : MachineVerdict) (k : ℕ) → k ≡ x.count → NodesAre ns (set x.nodes x.count m) (x.count + 1) (names_then names o j)
        → ((receivers : List ℕ) → get_or receivers i 0 ≡ k → SettledAs ms ns s defs receivers regcounts i d (verdict_in names o j)) → Step i d names o j x (joined i m k x)
    unfolding joined
    step-new o j k e n h =
        rw (eq-eqb k x.count e)
        (record { receivers = length-set x.receivers i k; room = length-set x.nodes x.count m; count = omega arith; nodes = n; here = λ l g. h l (g ∙ get_or-set_same x.receivers i k 0 inside) })

    -- an accepted machine that goes to the node k
    module _ (end : ℕ) (read : machine_in ns s (get_or defs i 0) ≡ value d end) where
      lowered-here : (o : Option Name) → d.owner ≡ o → (y : ResolvedMachine) → AcceptedAs ms d y (get_or regcounts i 0) → (k : ℕ) (receivers : List ℕ) → get_or receivers i 0 ≡ k → LoweredAt ms ns s defs receivers regcounts i (record { at = k; fate = fate_of o y })
      lowered-here o owner y a k receivers e =
          record {
            shown = record { drawing = d; end = end; states = a.states; read = read; fate = λ t. fate_of (sym owner t) (a.is t); at = sym e; regions = sym a.regions; few_regions = a.few };
            count = a.count;
            resolves = a.resolves;
            accepted = ap refusal_of (sym a.is) ∙ a.accepted;
          }

      module _ (fresh : Fresh [] ns) (low : m < length ns) (name : name_at ns m ≡ d.name) (h : NodesAre ns x.nodes x.count names) (few : x.count < 65535) (room : x.count < length x.nodes) where
        its-name : (y : ResolvedMachine) → AcceptedAs ms d y (get_or regcounts i 0) → y.name ≡ d.name
        unfolding as_machine
        its-name y a = ap (λ (z : ResolvedMachine). z.name) a.is

        some-regions : (y : ResolvedMachine) → AcceptedAs ms d y (get_or regcounts i 0) → get_or regcounts i 0 ≡ 0 → ⊥
        some-regions y a e = let r = a.regions in omega arith

        -- one that was judged so is refused
        step-refused : (o : Option Name) (r : Refusal) (v : ℕ) → judge ms d ≡ refuse r → get_or regcounts i 0 ≡ 0 → Step i d names o (refuse r) x (joined i m (goes_to x.nodes x.count (get_or regcounts i 0) v) x)
        unfolding verdict_in names_then SettledAs
        step-refused o r v e z =
            let k = sym (goes-refused x.nodes x.count (get_or regcounts i 0) v z) in
            step-old o (refuse r) _ (λ c. omega arith) h (λ receivers g. (g ∙ k, judged z e))

        -- one without owner begins a node
        step-alone : (y : ResolvedMachine) (v : ℕ) → d.owner ≡ none → AcceptedAs ms d y (get_or regcounts i 0) → v ≡ absent → Step i d names none (accept y) x (joined i m (goes_to x.nodes x.count (get_or regcounts i 0) v) x)
        unfolding verdict_in names_then SettledAs share_of index_of fate_of
        step-alone y v w a z =
            let k = sym (goes-alone x.nodes x.count (get_or regcounts i 0) v (some-regions y a) z) in
            let c = h.number in
            step-new none (accept y) _ k (node-more ns x.nodes x.count names m y.name room low (name ∙ sym (its-name y a)) h)
            (λ receivers g. (lowered-here none w y a (length names) receivers (g ∙ k ∙ sym c), λ b. omega (arith, k, sym g ∙ b)))

        -- one with an owner goes to its node, or is refused
        step-into : (n : Name) (y : ResolvedMachine) (v : ℕ) → d.owner ≡ some n → AcceptedAs ms d y (get_or regcounts i 0) → OwnerIs ns (some n) v → Step i d names (some n) (accept y) x (joined i m (goes_to x.nodes x.count (get_or regcounts i 0) v) x)
        unfolding verdict_in names_then SettledAs share_of index_of fate_of OwnerIs
        step-into n y v w a z = go (member n names) refl
          where
            found : find_t x.nodes v x.count 0 ≡ place names n
            found = found-place ns fresh x.nodes x.count names h v n z.1 z.2

            go : (b : Bool) → member n names ≡ b → Step i d names (some n) (accept y) x (joined i m (goes_to x.nodes x.count (get_or regcounts i 0) v) x)
            go true e =
                let c = h.number in
                let l = place-member names n e in
                let k = sym (goes-there x.nodes x.count (get_or regcounts i 0) v (place names n) (some-regions y a) z.0 (sym found) (omega arith)) in
                step-old (some n) (accept y) _ (λ q. omega arith) h
                (λ receivers g. rw e (lowered-here (some n) w y a (place names n) receivers (g ∙ k), λ b. omega (arith, k, sym g ∙ b)))
            go false e =
                let c = h.number in
                let l = place-missing names n e in
                let k = sym (goes-nowhere x.nodes x.count (get_or regcounts i 0) v (place names n) (some-regions y a) z.0 (sym found) (omega arith)) in
                step-old (some n) (accept y) _ (λ q. omega arith) h
                (λ receivers g. rw e (g ∙ k, unowned (some-regions y a) n w (ap (λ u. unknown_owner u n) (its-name y a))))

        step-judged : (o : Option Name) (j : MachineVerdict) (v : ℕ) → d.owner ≡ o → judge ms d ≡ j → VerdictOf ms d j (get_or regcounts i 0) → OwnerIs ns o v → Step i d names o j x (joined i m (goes_to x.nodes x.count (get_or regcounts i 0) v) x)
        unfolding VerdictOf OwnerIs
        step-judged none (refuse r) v w e a z = step-refused none r v e a
        step-judged (some n) (refuse r) v w e a z = step-refused (some n) r v e a
        step-judged none (accept y) v w e a z = step-alone y v w a z
        step-judged (some n) (accept y) v w e a z = step-into n y v w a z

  -- the machine of index i settled
  step : (i : ℕ) (d : MachineDef) (names : List Name) (x : Nodes) → JudgedAt ms ns s defs regcounts i d → Fresh [] ns → NodesAre ns x.nodes x.count names
      → i < length x.receivers → x.count < 65535 → x.count < length x.nodes → Step i d names d.owner (judge ms d) x (settled_t s defs regcounts i x)
  unfolding settled_t VerdictAs
  step i d names x h fresh nodes inside few room =
      let at = get_or defs i 0 in
      let r = machine-value ns s at d h.end h.read in
      let n = name-number ns s at d.name r.to-owner r.name in
      let v = (number_in s r.to-owner).value in
      subst (λ y. Step i d names d.owner (judge ms d) x y)
      (sym (number-to s at n.i r.to-owner (λ m p. joined i m (goes_to x.nodes x.count (get_or regcounts i 0) (number_in s p).value) x) n.is))
      (step-judged i d names x n.i inside h.end h.read fresh n.small n.named nodes few room d.owner (judge ms d) v refl refl h.told (owner-is ns s r.to-owner d.owner r.to-inputs r.owner))

  -- THE THEOREM: the tables settle each machine by its verdict
  pub settled : (i : ℕ) (ds : List MachineDef) (names : List Name) (x : Nodes) → Judgings ms ns s defs regcounts i ds → Fresh [] ns → NodesAre ns x.nodes x.count names
      → x.count + length ds ≤ length x.nodes → i + length ds ≤ length x.receivers → x.count + length ds < 65535
      → Settled ms ns s defs (settle_t s defs regcounts (length ds) i x).receivers regcounts i ds (verdicts ms ds names)
  unfolding Judgings Settled verdicts settle_t
  settled i [] names x h fresh nodes a b c = tt
  settled i (d ∷ ds) names x h fresh nodes a b c =
      let y = settled_t s defs regcounts i x in
      let t = step i d names x h.0 fresh nodes (omega arith) (omega arith) (omega arith) in
      let ta = t.receivers in
      let tr = t.room in
      let tc = t.count in (
        t.here (settle_t s defs regcounts (length ds) (suc i) y).receivers (settle-before s defs regcounts (length ds) (suc i) i y (omega arith)),
        settled (suc i) ds (names_then names d.owner (judge ms d)) y h.1 fresh t.nodes (omega arith) (omega arith) (omega arith),
      )

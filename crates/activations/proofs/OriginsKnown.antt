-- The origins that the code writes are those of the definition.
use Prim.Native.Nat.{ℕ, zero, suc, ◌+◌, ◌*◌, ◌<◌}
use native.Mathlib.Omega.{arith}
use mathlib.Core.List.{List, [], ◌∷◌, ◌++◌, append_assoc}
use mathlib.Core.Bool.{Bool, true, false, cond}
use mathlib.Core.Option.{Option, some, none-ne-some, some-injective}
use mathlib.Core.Path.{◌≡◌, refl, sym, ap, subst, ◌∙◌}
use lib.ListN.{length, get_or, length-append}
use Rattle.wire.specs.Answer.{many, u16, value}
use Rattle.wire.specs.Bytes.{two}
use Rattle.wire.specs.Writer.{State, put, puts}
use Rattle.wire.proofs.Writers.{puts-append}
use Rattle.pack_rules.specs.Names.{Name, eq_name}
use Rattle.pack_rules.specs.Legal.{place}
use Rattle.pack_rules.specs.Syntax.{Activation, Branch, Enum, Node, Origin, of_activation}
use Rattle.pack_rules.specs.Forms.{name_at}
use Rattle.pack_rules.specs.Read.{activation_in, branch_in, node_in}
use Rattle.pack.specs.Intern.{put_item, put_name, render}
use Rattle.pack_rules.specs.Write.{Item, each, list, name_items, nm, origin_byte, origin_items, raw}
use Rattle.pack.specs.Table.{tabled}
use Rattle.pack.proofs.Interns.{render-append}
use Rattle.pack.proofs.Tables.{eq_name-true}
use Rattle.wire.specs.declared.answer.Number.{Number}
use Rattle.machines.specs.AddedAt.{each_t, node_equations_in, total_t}
use Rattle.machine_rules.specs.Machines.{origin_of}
use Rattle.machines.specs.Sections.{node_names}
use Rattle.machines.specs.TableMeaning.{PackOf}
use Rattle.machines.specs.CheckedReads.{number_in, with}
use Rattle.machines.proofs.LocalLaws.{each_append}
use Rattle.machines.proofs.Reading.{many-cut, many_more, many-over, name-number}
use Rattle.machines.proofs.ShownCounts.{equations-number, node-equations-to, node-value}
use Rattle.machines.proofs.CheckedReadLaws.{number-to}
use Rattle.machines.proofs.MachineEmitted.{numbered}
use Rattle.activations.specs.declared.parts.Act.{Act}
use Rattle.activation_rules.specs.Checks.{branch_names, else_name}
use Rattle.activations.specs.Places.{act_at, branch_end}
use Rattle.activations.specs.ActTable.{goal_t, spot_t}
use Rattle.activations.specs.CountsAt.{adds_equations_t, equation_count_t}
use Rattle.activations.specs.Fates.{Drawn, Fates, NodeAt, NodesFrom}
use Rattle.activations.specs.Joining.{fate_in, joined, node_of, origin_in, origins_of, owner_of, refusals_of}
use Rattle.activation_rules.specs.Lower.{Lowered}
use Rattle.activations.specs.OriginsAt.{branches_t, first_t, numbers_t, origin_t, scope_names_t}
use Rattle.activations.proofs.ActRead.{act-to, activation-value, branch-end-to, branch-number-to, branch-value}
use Rattle.activations.proofs.AddedKnown.{AcceptedIn, accepted-each, row-equations, some-bring, two-more}
use Rattle.activations.proofs.Joined.{joined-name}
use Rattle.activations.proofs.OriginLaws.{numbers-put}

-- the node of a name's place, where there is one
record NodeOf (N : List Node) (x : Name) (f : Node → Node) (o : Node) : Type 0 where
  pre : List Node
  node : Node
  later : List Node
  among : N ≡ pre ++ (node ∷ later)
  place_is : place (node_names N) x ≡ length pre
  named : node.name ≡ x
  becomes : f node ≡ o

node-of : (N : List Node) (x : Name) (f : Node → Node) (o : Node) → node_of f N (place (node_names N) x) ≡ some o → NodeOf N x f o
unfolding node_of node_names place
node-of [] x f o e = absurd (none-ne-some o e)
node-of (y ∷ ys) x f o e = go (eq_name y.name x) refl e (λ h. node-of ys x f o h)
  where
    go : (b : Bool) → eq_name y.name x ≡ b → node_of f (y ∷ ys) (cond b 0 (suc (place (node_names ys) x))) ≡ some o → (node_of f ys (place (node_names ys) x) ≡ some o → NodeOf ys x f o) → NodeOf (y ∷ ys) x f o
    go true d h rest =
        record { pre = []; node = y; later = ys; among = refl; place_is = ap (λ b. cond b 0 (suc (place (node_names ys) x))) d; named = eq_name-true y.name x d; becomes = some-injective (f y) o h }
    go false d h rest =
        let r = rest h in
        record {
          pre = y ∷ r.pre;
          node = r.node;
          later = r.later;
          among = ap (λ (l : List Node). y ∷ l) r.among;
          place_is = ap (λ b. cond b 0 (suc (place (node_names ys) x))) d ∙ ap suc r.place_is;
          named = r.named;
          becomes = r.becomes;
        }

-- where it stands
node-stands : (ns : List Name) (s nodes : List ℕ) (k : ℕ) (pre : List Node) (n : Node) (later : List Node) → NodesFrom ns s nodes k (pre ++ (n ∷ later)) → NodeAt ns s nodes (k + length pre) n
unfolding NodesFrom
node-stands ns s nodes k [] n later h = let z : k ≡ k + 0 = omega arith in subst (λ j. NodeAt ns s nodes j n) z h.0
node-stands ns s nodes k (x ∷ pre) n later h =
    let z : suc k + length pre ≡ k + suc (length pre) = omega arith in
    subst (λ j. NodeAt ns s nodes j n) z (node-stands ns s nodes (suc k) pre n later h.1)

module _ (ns : List Name) (s old offsets : List ℕ) (P : PackOf ns s old offsets) where
  -- an old name by its index
  by_number : (x : ℕ) (n : Name) → x < length ns → name_at ns x ≡ n → (z : State) → puts (two x) z ≡ put_name (tabled ns) n z
  by_number x n l e z = numbered ns P.fresh P.legal P.few s P.bytes x l z ∙ ap (λ (y : Name). put_name (tabled ns) y z) e

  -- the names of branches
  branches-known : (n p : ℕ) (bs : List Branch) (q : ℕ) (z : State) → many (branch_in ns s) n p ≡ value bs q → render (tabled ns) (branches_t ns s n p) z ≡ render (tabled ns) (each name_items (branch_names bs)) z
  unfolding branches_t branch_names each name_items render put_item
  branches-known zero p [] q z e = refl
  branches-known zero p (b ∷ bs) q z e = absurd (many-cut (branch_in ns s) p b bs q e)
  branches-known (suc n) p [] q z e = absurd (many-over (branch_in ns s) n p q e)
  branches-known (suc n) p (b ∷ bs) q z e =
      let a = many_more (branch_in ns s) n p b bs q e in
      let r = branch-value ns s p b a.0 a.1 in
      let i = branch-number-to ns s p b a.0 r in
      let v : puts (two (number_in s p).value) z ≡ put_name (tabled ns) b.name z = ap (λ (y : Number). puts (two y.value) z) i.3 ∙ by_number i.0 b.name i.1 i.2 z in
      let d : branch_end ns s p ≡ a.0 = branch-end-to ns s p b a.0 r in
      (λ j. render (tabled ns) (branches_t ns s n (d j)) (v j)) ∙ branches-known n a.0 bs q (put_name (tabled ns) b.name z) a.2

  names-long : (bs : List Branch) → length (branch_names bs) ≡ length bs
  unfolding branch_names
  names-long [] = refl
  names-long (b ∷ bs) = ap suc (names-long bs)

  names-written : (n p : ℕ) (bs : List Branch) (q : ℕ) (z : State) → many (branch_in ns s) n p ≡ value bs q
      → render (tabled ns) (raw (two (n + 1)) ∷ (branches_t ns s n p ++ (nm else_name ∷ []))) z ≡ render (tabled ns) (raw (two (n + 1)) ∷ each name_items (branch_names bs ++ (else_name ∷ []))) z
  unfolding render put_item each name_items
  names-written n p bs q z e =
      render-append (tabled ns) (branches_t ns s n p) (nm else_name ∷ []) (puts (two (n + 1)) z)
      ∙ ap (put_name (tabled ns) else_name) (branches-known n p bs q (puts (two (n + 1)) z) e)
      ∙ sym (render-append (tabled ns) (each name_items (branch_names bs)) (nm else_name ∷ []) (puts (two (n + 1)) z))
      ∙ ap (λ (is : List Item). render (tabled ns) is (puts (two (n + 1)) z)) (sym (each_append name_items (branch_names bs) (else_name ∷ [])))

  -- those of all scopes
  scopes-known : (at : ℕ) (A : Activation) (q : ℕ) (z : State) → activation_in ns s at ≡ value A q → render (tabled ns) (scope_names_t ns s (act_at ns s at)) z ≡ render (tabled ns) (list name_items (branch_names A.branches ++ (else_name ∷ []))) z
  unfolding scope_names_t list
  scopes-known at A q z e =
      let r = activation-value ns s at A q e in
      let bs : List Branch = A.branches in
      let c : length (branch_names bs ++ (else_name ∷ [])) ≡ length bs + 1 = length-append (branch_names bs) (else_name ∷ []) ∙ ap (λ y. y + 1) (names-long bs) in
      ap (λ (a : Act). render (tabled ns) (scope_names_t ns s a) z) (act-to ns s at A q r).3
      ∙ ap (λ (is : List Item). render (tabled ns) is z) (number-to s r.to-branches (length bs) r.b _ r.count)
      ∙ names-written (length bs) r.b bs r.to-else z r.branches
      ∙ ap (λ y. render (tabled ns) (raw (two y) ∷ each name_items (branch_names bs ++ (else_name ∷ []))) z) (sym c)

  -- an origin, part by part
  origin-written : (o a : Name) (f g : ℕ) (bs : List Name) (z : State)
      → render (tabled ns) (list name_items bs) (puts (two g) (puts (two f) (put_name (tabled ns) a (put 1 (put_name (tabled ns) o z))))) ≡ render (tabled ns) (origin_items (record { node = o; kind = of_activation; name = a; first = f; after = g; branches = bs })) z
  unfolding origin_items origin_byte render put_item puts
  origin-written o a f g bs z = ap (render (tabled ns) (list name_items bs)) (sym (puts-append (two f) (two g) (put_name (tabled ns) a (put 1 (put_name (tabled ns) o z)))))

  -- the numbers of an origin
  module _ (ov av F E f g : ℕ) (o a : Name) where
    numbers-known : ov < length ns → name_at ns ov ≡ o → av < length ns → name_at ns av ≡ a → two F ≡ two f → two (F + E) ≡ two g → (z : State) → render (tabled ns) (numbers_t ov av F E) z ≡ puts (two g) (puts (two f) (put_name (tabled ns) a (put 1 (put_name (tabled ns) o z))))
    numbers-known lo io la ia ef eg z =
        sym (numbers-put (tabled ns) ov av F E z)
        ∙ (λ j. puts (eg j) (puts (ef j) (puts (two av) (put 1 (by_number ov o lo io z j)))))
        ∙ ap (λ y. puts (two g) (puts (two f) y)) (by_number av a la ia (put 1 (put_name (tabled ns) o z)))

  -- an origin as the code writes it
  origin-shown : (z : State) (at : ℕ) (o : Name) (av ov p q F E f g : ℕ) → u16 s at ≡ value av p → u16 s p ≡ value ov q → (A : Activation) (end : ℕ) → activation_in ns s at ≡ value A end → av < length ns → name_at ns av ≡ A.name → ov < length ns → name_at ns ov ≡ o → two F ≡ two f → two (F + E) ≡ two g
      → render (tabled ns) (with (number_in s at) λ a u. with (number_in s u) λ b v. numbers_t b a F E ++ scope_names_t ns s (act_at ns s at)) z ≡ render (tabled ns) (origin_items (record { node = o; kind = of_activation; name = A.name; first = f; after = g; branches = branch_names A.branches ++ (else_name ∷ []) })) z
  origin-shown z at o av ov p q F E f g ea eo A end read la ia lo io ef eg =
      ap (λ (is : List Item). render (tabled ns) is z)
      (number-to s at av p (λ a u. with (number_in s u) λ b v. numbers_t b a F E ++ scope_names_t ns s (act_at ns s at)) ea ∙ number-to s p ov q (λ b v. numbers_t b av F E ++ scope_names_t ns s (act_at ns s at)) eo)
      ∙ render-append (tabled ns) (numbers_t ov av F E) (scope_names_t ns s (act_at ns s at)) z
      ∙ ap (render (tabled ns) (scope_names_t ns s (act_at ns s at))) (numbers-known ov av F E f g o A.name lo io la ia ef eg z)
      ∙ scopes-known at A end _ read
      ∙ origin-written o A.name f g (branch_names A.branches ++ (else_name ∷ [])) z

  module _ (es : List Enum) (N : List Node) (As : List Activation) (acts : List ℕ) (drawn : Drawn ns s es N As acts) (fates : Fates ns s es N As acts) (accepted : refusals_of es N [] As ≡ []) (nodes : List ℕ) (stand : NodesFrom ns s nodes 0 N) where
    module _ (before : List Activation) (A : Activation) (post : List Activation) (e : As ≡ before ++ (A ∷ post)) where
      owned : AcceptedIn es A (owner_of es N before A)
      owned = accepted-each es N As accepted before A post e

      its : NodeOf N A.owner (joined es (node_names N) (place (node_names N) A.owner) before) owned.owner
      unfolding owner_of
      its = node-of N A.owner (joined es (node_names N) (place (node_names N) A.owner) before) owned.owner owned.found

      -- its node's equations are counted
      first-long : (number_in s (node_equations_in ns s (get_or nodes (length its.pre) 0))).value ≡ length its.node.equations
      first-long =
          let h = node-stands ns s nodes 0 its.pre its.node its.later (subst (λ (X : List Node). NodesFrom ns s nodes 0 X) its.among stand) in
          let z : 0 + length its.pre ≡ length its.pre = omega arith in
          let at : ℕ = get_or nodes (length its.pre) 0 in
          let e : node_in ns s at ≡ value its.node h.end = ap (λ j. node_in ns s (get_or nodes j 0)) (sym z) ∙ h.read in
          let r = node-value ns s at its.node h.end e in
          ap (λ y. (number_in s y).value) (node-equations-to ns s at its.node h.end r)
          ∙ ap (λ (y : Number). y.value) (equations-number ns s old offsets P r.to-equations its.node.equations h.end r.equations).0

      -- how many equations its node has before it
      first-known : (q : ℕ) × (length owned.owner.equations ≡ first_t ns s nodes acts (length before) + 65536 * q)
      unfolding first_t joined
      first-known =
          let k : goal_t acts (length before) ≡ length its.pre = (drawn before A post e).goal ∙ its.place_is in
          let b = some-bring ns s es N As acts drawn fates accepted its.pre its.node its.later its.among [] before (A ∷ post) e in
          let o : owned.owner ≡ joined es (node_names N) (length its.pre) before its.node = sym its.becomes ∙ ap (λ j. joined es (node_names N) j before its.node) its.place_is in
          let l = ap (λ (x : Node). length x.equations) o in
          let f : (number_in s (node_equations_in ns s (get_or nodes (goal_t acts (length before)) 0))).value ≡ length its.node.equations = ap (λ j. (number_in s (node_equations_in ns s (get_or nodes j 0))).value) k ∙ first-long in
          let t = ap (λ j. total_t (adds_equations_t s acts j) (length before) 0) k in
          let c = b.2 in
          (b.0, omega arith)

      -- its origin
      origin-of : Origin
      origin-of = origin_of of_activation A.name (branch_names A.branches ++ (else_name ∷ [])) owned.equations owned.owner

      origin-in : origin_in A (fate_in es A (owner_of es N before A)) (owner_of es N before A) ≡ origin-of ∷ []
      unfolding origin-of origin_in fate_in
      origin-in = ap (λ (x : Option Node). origin_in A (fate_in es A x) x) owned.found ∙ ap (λ (l : Lowered). origin_in A l (some owned.owner)) owned.is

      parts-of : (z : State) → render (tabled ns) (origin_t ns s nodes acts (length before)) z ≡ render (tabled ns) (origin_items origin-of) z
      unfolding origin_t origin-of origin_of
      parts-of z =
          let d = drawn before A post e in
          let at : ℕ = spot_t acts (length before) in
          let F : ℕ = first_t ns s nodes acts (length before) in
          let E : ℕ = equation_count_t s acts (length before) in
          let r = activation-value ns s at A d.end d.read in
          let n = name-number ns s at A.name r.to-owner r.name in
          let o = name-number ns s r.to-owner A.owner r.to-outputs r.owner in
          let x = first-known in
          let y = row-equations ns s es N As acts drawn fates accepted before A post e owned.owner owned.locals owned.equations owned.found owned.is in
          let xe = x.1 in
          let ye = y.1 in
          let w : owned.owner.name ≡ A.owner = ap (λ (v : Node). v.name) (sym its.becomes) ∙ joined-name es (node_names N) (place (node_names N) A.owner) before its.node ∙ its.named in
          let f : two F ≡ two (length owned.owner.equations) = sym (ap two x.1 ∙ two-more F x.0) in
          let sum : length owned.owner.equations + length owned.equations ≡ (F + E) + 65536 * (x.0 + y.0) = omega arith in
          let g : two (F + E) ≡ two (length owned.owner.equations + length owned.equations) = sym (ap two sum ∙ two-more (F + E) (x.0 + y.0)) in
          origin-shown z at owned.owner.name n.i o.i r.to-owner r.to-outputs F E (length owned.owner.equations) (length owned.owner.equations + length owned.equations) n.is o.is A d.end d.read n.small n.named o.small (o.named ∙ sym w) f g

    -- of all that follow some
    origins-from : (before rest : List Activation) → As ≡ before ++ rest → (z : State) → render (tabled ns) (each_t (origin_t ns s nodes acts) (length rest) (length before)) z ≡ render (tabled ns) (each origin_items (origins_of es N before rest)) z
    unfolding each_t origins_of each
    origins-from before [] e z = refl
    origins-from before (A ∷ rest) e z =
        let c : length (before ++ (A ∷ [])) ≡ suc (length before) = length-append before (A ∷ []) ∙ omega arith in
        let O : Origin = origin-of before A rest e in
        let more : List Origin = origins_of es N (before ++ (A ∷ [])) rest in
        let w = origins-from (before ++ (A ∷ [])) rest (e ∙ sym (append_assoc before (A ∷ []) rest)) (render (tabled ns) (origin_items O) z) in
        render-append (tabled ns) (origin_t ns s nodes acts (length before)) (each_t (origin_t ns s nodes acts) (length rest) (suc (length before))) z
        ∙ ap (render (tabled ns) (each_t (origin_t ns s nodes acts) (length rest) (suc (length before)))) (parts-of before A rest e z)
        ∙ ap (λ j. render (tabled ns) (each_t (origin_t ns s nodes acts) (length rest) j) (render (tabled ns) (origin_items O) z)) (sym c)
        ∙ w
        ∙ sym (render-append (tabled ns) (origin_items O) (each origin_items more) z)
        ∙ ap (λ (os : List Origin). render (tabled ns) (each origin_items (os ++ more)) z) (sym (origin-in before A rest e))

    -- THE LAW: where no activation is refused, the origins written are those of the definition
    pub origins-written : (n : ℕ) → n ≡ length As → (z : State) → render old (each_t (origin_t ns s nodes acts) n 0) z ≡ render old (each origin_items (origins_of es N [] As)) z
    origins-written n c z =
        (λ j. render (P.names j) (each_t (origin_t ns s nodes acts) (c j) 0) z)
        ∙ origins-from [] As refl z
        ∙ ap (λ (o : List ℕ). render o (each origin_items (origins_of es N [] As)) z) (sym P.names)

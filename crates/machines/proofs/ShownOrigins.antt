-- The origins that the code writes by the tables are those of the shares.
use Prim.Native.Nat.{ℕ, suc, ◌+◌, ◌<◌}
use native.Mathlib.Nat.{zero-add}
use native.Mathlib.Omega.{arith}
use mathlib.Core.List.{List, [], ◌∷◌, ◌++◌}
use mathlib.Core.Bool.{cond}
use mathlib.Core.Option.{Option, none, some}
use mathlib.Core.Path.{◌≡◌, refl, sym, ap, ◌∙◌}
use lib.ListN.{length, get_or}
use lib.Dec.{eqb}
use borrow.Author.Tests.{ne_eqb}
use Rattle.wire.specs.Answer.{many, value}
use Rattle.wire.specs.Bytes.{two}
use Rattle.wire.specs.Lists.{All}
use Rattle.wire.specs.Writer.{State, puts}
use Rattle.pack_rules.specs.Limits.{absent}
use Rattle.pack_rules.specs.Names.{Name}
use Rattle.pack_rules.specs.Syntax.{Node, Origin, of_machine}
use Rattle.machine_rules.specs.Resolved.{ResolvedMachine}
use Rattle.pack_rules.specs.Forms.{name_at}
use Rattle.pack_rules.specs.Legal.{Each, Fresh, Known, LegalName, place}
use Rattle.pack_rules.specs.Read.{node_in, optional_in}
use Rattle.pack_rules.specs.Write.{Item, each, list, origin_byte, origin_items}
use Rattle.pack.specs.Table.{tabled}
use Rattle.pack.specs.Intern.{render}
use Rattle.pack.proofs.Tables.{code, place-at-name}
use Rattle.pack.proofs.Interns.{render-append}
use Rattle.pack.proofs.Copies.{render-known}
use Rattle.machine_rules.specs.Resolve.{as_machine}
use Rattle.machines.specs.Sections.{Share, added_count, adds_count, equation_count, equations_before, fate_of, origin_for, origins_items, total}
use Rattle.machines.specs.CheckedReads.{number_in, with}
use Rattle.machines.specs.TableMeaning.{PackOf, Shown, ShownAt}
use Rattle.machines.specs.AddedAt.{adds_equations_t, before_t, each_t, equation_count_t, first_t, given_origin_t, old_t, origin_t, own_origin_t, total_t}
use Rattle.machines.proofs.Reading.{optional-none, optional-some}
use Rattle.machines.proofs.CheckedReadLaws.{number-to}
use Rattle.machines.proofs.AddedLaws.{total-end}
use Rattle.machines.proofs.ShownCounts.{brings-equations-shown, equations-shown, its-machine, its-read, named, old-shown}

-- the origin of the machine m that goes to o, whose equations are e from f on
abbrev origin : Name → Name → ℕ → ℕ → Origin
origin o m f e = record { node = o; kind = of_machine; name = m; first = f; after = f + e; branches = [] }

-- what is brought, with one more at the end
brought-end : (g : ResolvedMachine → ℕ) (k : ℕ) (done : List Share) (x : Share) → added_count g k (done ++ (x ∷ [])) ≡ added_count g k done + adds_count g k x
unfolding added_count total
brought-end g k [] x = omega arith
brought-end g k (y ∷ done) x = let a = brought-end g k done x in omega arith

module _ (ns : List Name) (s : List ℕ) (legal : All LegalName ns) (fresh : Fresh [] ns) where
  -- an origin's bytes
  origin-code : (o m : Name) (f e : ℕ) → code ns (origin_t (place ns o) (place ns m) f e) ≡ code ns (each origin_items (origin o m f e ∷ []))
  unfolding code origin_t each origin_items origin_byte list two
  origin-code o m f e = refl

  origin-raw : (o m f e : ℕ) → Each (Known ns) (origin_t o m f e)
  unfolding Each origin_t
  origin-raw o m f e = tt

  origin-known : (o m : Name) (f e : ℕ) → Known ns o → Known ns m → Each (Known ns) (each origin_items (origin o m f e ∷ []))
  unfolding Each each origin_items list
  origin-known o m f e a b = (a, (b, tt))

  origin-same : (i j : ℕ) (o m : Name) (f e : ℕ) (z : State) → i < length ns → name_at ns i ≡ o → j < length ns → name_at ns j ≡ m → render (tabled ns) (origin_t i j f e) z ≡ render (tabled ns) (each origin_items (origin o m f e ∷ [])) z
  origin-same i j o m f e z hi ei hj ej =
      let a : place ns o ≡ i = ap (place ns) (sym ei) ∙ place-at-name ns i fresh hi in
      let b : place ns m ≡ j = ap (place ns) (sym ej) ∙ place-at-name ns j fresh hj in
      render-known ns (origin_t i j f e) z legal (origin-raw i j f e)
      ∙ ap (λ c. puts c z) ((λ t. code ns (origin_t (sym a t) (sym b t) f e)) ∙ origin-code o m f e)
      ∙ sym (render-known ns (each origin_items (origin o m f e ∷ [])) z legal (origin-known o m f e (omega arith) (omega arith)))

  -- by the owner
  owner-none : (at q j f e n : ℕ) (m : ResolvedMachine) (old : List ℕ) (z : State) → optional_in ns s at ≡ value none q
      → render old (with (number_in s at) (λ o q. cond (eqb o absent) [] (origin_t o j f e))) z ≡ render old (each origin_items (origin_for (fate_of none m) n)) z
  unfolding origin_for fate_of each
  owner-none at q j f e n m old z h =
      ap (λ (is : List Item). render old is z) (number-to s at absent q (λ o q. cond (eqb o absent) [] (origin_t o j f e)) (optional-none ns s at q h) ∙ refl)

  owner-some : (at q j f e : ℕ) (o : Name) (m : ResolvedMachine) (z : State) → optional_in ns s at ≡ value (some o) q → j < length ns → name_at ns j ≡ m.name → e ≡ equation_count m
      → render (tabled ns) (with (number_in s at) (λ o q. cond (eqb o absent) [] (origin_t o j f e))) z ≡ render (tabled ns) (each origin_items (origin_for (fate_of (some o) m) f)) z
  unfolding origin_for fate_of
  owner-some at q j f e o m z h hj ej ee =
      let i = optional-some ns s at o q h in
      ap (λ (is : List Item). render (tabled ns) is z) (number-to s at i.i q (λ o q. cond (eqb o absent) [] (origin_t o j f e)) i.is ∙ (rw (ne_eqb i.i absent i.present)))
      ∙ origin-same i.i j o m.name f e z i.small i.named hj ej
      ∙ ap (λ y. render (tabled ns) (each origin_items (origin o m.name f y ∷ [])) z) ee

  owner-known : (old : List ℕ) → old ≡ tabled ns → (at q j f e : ℕ) (o : Name) (m : ResolvedMachine) (z : State) → optional_in ns s at ≡ value (some o) q → j < length ns → name_at ns j ≡ m.name → e ≡ equation_count m
      → render old (with (number_in s at) (λ o q. cond (eqb o absent) [] (origin_t o j f e))) z ≡ render old (each origin_items (origin_for (fate_of (some o) m) f)) z
  owner-known old is at q j f e o m z h hj ej ee =
      ap (λ y. render y (with (number_in s at) (λ o q. cond (eqb o absent) [] (origin_t o j f e))) z) is
      ∙ owner-some at q j f e o m z h hj ej ee
      ∙ ap (λ y. render y (each origin_items (origin_for (fate_of (some o) m) f)) z) (sym is)

module _ (ns : List Name) (s old offsets : List ℕ) (P : PackOf ns s old offsets) (defs receivers regcounts : List ℕ) (count from : ℕ) (olds : List Node) (q : ℕ) (nodes : many (node_in ns s) count from ≡ value olds q) where
  -- the equations that the shares done bring are those of the machines before i
  abbrev Done : ℕ → List Share → Type 0
  Done i done = (k : ℕ) → total_t (adds_equations_t ns s defs receivers regcounts k) i 0 ≡ added_count equation_count k done

  module _ (i : ℕ) (x : Share) (h : ShownAt ns s defs receivers regcounts i x) (done : List Share) (d : Done i done) where
    first-shown : first_t ns s defs receivers regcounts count from i ≡ equations_before olds done x
    unfolding first_t before_t equations_before
    first-shown =
        ap (λ k. old_t ns s count from k + total_t (adds_equations_t ns s defs receivers regcounts k) i 0) (sym h.at)
        ∙ λ j. old-shown ns s old offsets P count from olds q x.at nodes j + d x.at j

    origin-one : (z : State) → render old (own_origin_t ns s defs receivers regcounts count from i) z ≡ render old (each origin_items (origin_for x.fate (equations_before olds done x))) z
    unfolding own_origin_t given_origin_t as_machine
    origin-one z =
        let r = its-read ns s old offsets P defs receivers regcounts i x h in
        let n = named ns s old offsets P (get_or defs i 0) h.drawing h.end r in
        ap (λ (is : List Item). render old is z) (number-to s (get_or defs i 0) n.i r.to-owner _ n.is)
        ∙ ap (λ f. render old (with (number_in s r.to-owner) (λ o q. cond (eqb o absent) [] (origin_t o n.i f (equation_count_t ns s (get_or defs i 0) (get_or regcounts i 0))))) z) first-shown
        ∙ go h.drawing.owner r.owner
        ∙ ap (λ f. render old (each origin_items (origin_for f (equations_before olds done x))) z) (sym h.fate)
      where
        go : (o : Option Name) → optional_in ns s (its-read ns s old offsets P defs receivers regcounts i x h).to-owner ≡ value o (its-read ns s old offsets P defs receivers regcounts i x h).to-inputs
            → render old (with (number_in s (its-read ns s old offsets P defs receivers regcounts i x h).to-owner) (λ o q. cond (eqb o absent) [] (origin_t o (named ns s old offsets P (get_or defs i 0) h.drawing h.end (its-read ns s old offsets P defs receivers regcounts i x h)).i (equations_before olds done x) (equation_count_t ns s (get_or defs i 0) (get_or regcounts i 0))))) z
            ≡ render old (each origin_items (origin_for (fate_of o (as_machine h.drawing h.states)) (equations_before olds done x))) z
        go none e = owner-none ns s P.legal P.fresh _ _ _ _ _ _ _ old z e
        go (some o) e =
            let n = named ns s old offsets P (get_or defs i 0) h.drawing h.end (its-read ns s old offsets P defs receivers regcounts i x h) in
            owner-known ns s P.legal P.fresh old P.names _ _ _ _ _ o _ z e n.small n.named (equations-shown ns s old offsets P defs receivers regcounts i x h ∙ ap equation_count (its-machine ns s old offsets P defs receivers regcounts i x h))

    done_more : Done (suc i) (done ++ (x ∷ []))
    done_more k =
        let z = zero-add i in
        total-end (adds_equations_t ns s defs receivers regcounts k) i 0
        ∙ ap (λ y. total_t (adds_equations_t ns s defs receivers regcounts k) i 0 + adds_equations_t ns s defs receivers regcounts k y) z
        ∙ (λ j. d k j + brings-equations-shown ns s old offsets P defs receivers regcounts i x h k j)
        ∙ sym (brought-end equation_count k done x)

  origins-from : (i : ℕ) (done xs : List Share) → Shown ns s defs receivers regcounts i xs → Done i done → (z : State) → render old (each_t (own_origin_t ns s defs receivers regcounts count from) (length xs) i) z ≡ render old (origins_items olds done xs) z
  unfolding Shown each_t origins_items
  origins-from i done [] h d z = refl
  origins-from i done (x ∷ xs) h d z =
      render-append old (own_origin_t ns s defs receivers regcounts count from i) (each_t (own_origin_t ns s defs receivers regcounts count from) (length xs) (suc i)) z
      ∙ ap (render old (each_t (own_origin_t ns s defs receivers regcounts count from) (length xs) (suc i))) (origin-one i x h.0 done d z)
      ∙ origins-from (suc i) (done ++ (x ∷ [])) xs h.1 (done_more i x h.0 done d) _
      ∙ sym (render-append old (each origin_items (origin_for x.fate (equations_before olds done x))) (origins_items olds (done ++ (x ∷ [])) xs) z)

  none_done : Done 0 []
  unfolding total_t added_count total
  none_done k = refl

  -- THE LAW: the origins that the loop over all machines writes
  pub origins-written : (xs : List Share) → Shown ns s defs receivers regcounts 0 xs → (z : State) → render old (each_t (own_origin_t ns s defs receivers regcounts count from) (length xs) 0) z ≡ render old (origins_items olds [] xs) z
  origins-written xs h z = origins-from 0 [] xs h none_done z

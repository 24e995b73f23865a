-- The sections that the code writes are those of the lowered package.
use Prim.Native.Nat.{ℕ, suc, ◌+◌, ◌-◌}
use native.Mathlib.Omega.{arith}
use mathlib.Core.List.{List, [], ◌∷◌, ◌++◌, append_assoc}
use mathlib.Core.Option.{Option, some}
use mathlib.Core.Path.{◌≡◌, refl, sym, ap, ◌∙◌}
use lib.ListN.{length, length-append}
use Rattle.wire.specs.Answer.{Answer, counted, value}
use Rattle.wire.specs.Bytes.{two}
use Rattle.wire.specs.Writer.{State, puts}
use Rattle.wire.proofs.Bounds.{Within, within-counted}
use Rattle.pack_rules.specs.Names.{Name}
use Rattle.pack_rules.specs.Syntax.{Activation, Enum, Node, Package}
use Rattle.pack_rules.specs.Read.{enum_in, machine_in, origin_in}
use Rattle.pack_rules.specs.Write.{Item, activation_items, each, enum_items, list, machine_items, node_items, origin_items, package_items}
use Rattle.pack.specs.Verdict.{SectionsAt}
use Rattle.pack.specs.Intern.{put_item, render}
use Rattle.pack.specs.declared.record.Pack.{Pack}
use Rattle.pack.proofs.Interns.{render-append}
use Rattle.pack.proofs.TypeFormats.{Fmt}
use Rattle.pack.proofs.PartFormats.{ShapedEnum, ShapedMachine, ShapedOrigin, fmt_enum, fmt_machine, fmt_origin}
use Rattle.pack.proofs.Bounds.{w-enum_in, w-machine_in, w-origin_in}
use Rattle.pack.proofs.Copies.{lies-list, lies-rest}
use Rattle.wire.specs.declared.answer.Number.{Number}
use Rattle.machines.specs.AddedAt.{each_t}
use Rattle.machines.specs.Layout.{slice_of}
use Rattle.machines.specs.Sections.{node_names}
use Rattle.machines.specs.TableMeaning.{PackOf}
use Rattle.machines.specs.CheckedReads.{num, number_in}
use Rattle.machines.proofs.ListsShown.{copied, counted-parts}
use Rattle.machines.proofs.ShownItems.{raw-first}
use Rattle.activations.specs.declared.pack_info.PackInfo.{PackInfo}
use Rattle.activation_rules.specs.Activations.{activations_lowered, made_activations}
use Rattle.activations.specs.Joining.{each_at, fate_in, joined, origin_in as origin_for, origins_of, owner_of}
use Rattle.activations.proofs.Joined.{activations-enums, activations-nodes, activations-origins}
use Rattle.activations.specs.PackInfoAt.{Basis}
use Rattle.activations.specs.AddedParts.{Settled}
use Rattle.activations.specs.OriginsAt.{origin_t}
use Rattle.activations.proofs.AddedKnown.{AcceptedIn, accepted-each}
use Rattle.activations.proofs.NodesWritten.{goes_on}
use Rattle.activations.proofs.OriginsKnown.{origins-written}

each-length : (f : ℕ → Node → Node) (k : ℕ) (N : List Node) → length (each_at f k N) ≡ length N
unfolding each_at
each-length f k [] = refl
each-length f k (n ∷ N) = ap suc (each-length f (suc k) N)

-- an origin for each activation that is accepted
one-origin : (es : List Enum) (A : Activation) (o : Option Node) → AcceptedIn es A o → length (origin_for A (fate_in es A o) o) ≡ 1
unfolding origin_for fate_in
one-origin es A o a = ap (λ (y : Option Node). length (origin_for A (fate_in es A y) y)) a.found ∙ ap (λ l. length (origin_for A l (some a.owner))) a.is

origins-length : (es : List Enum) (N : List Node) (As : List Activation) → ((before : List Activation) (A : Activation) (post : List Activation) → As ≡ before ++ (A ∷ post) → AcceptedIn es A (owner_of es N before A)) → (before rest : List Activation) → As ≡ before ++ rest → length (origins_of es N before rest) ≡ length rest
unfolding origins_of
origins-length es N As h before [] e = refl
origins-length es N As h before (A ∷ rest) e =
    let a = one-origin es A (owner_of es N before A) (h before A rest e) in
    let b = origins-length es N As h (before ++ (A ∷ [])) rest (e ∙ sym (append_assoc before (A ∷ []) rest)) in
    length-append (origin_for A (fate_in es A (owner_of es N before A)) (owner_of es N before A)) (origins_of es N (before ++ (A ∷ [])) rest) ∙ (λ i. a i + b i) ∙ (let z : 1 + length rest ≡ suc (length rest) = omega arith in z)

-- no activations
none_written : (old : List ℕ) (z : State) → render old (list activation_items []) z ≡ puts (two 0) z
unfolding render put_item list each
none_written old z = refl

-- five lists, written one after the other
five-written : (old : List ℕ) (a b c d e : List Item) (z₀ z₁ z₂ z₃ z₄ z₅ : State) → z₁ ≡ render old a z₀ → z₂ ≡ render old b z₁ → z₃ ≡ render old c z₂ → z₄ ≡ render old d z₃ → z₅ ≡ render old e z₄ → z₅ ≡ render old (a ++ (b ++ (c ++ (d ++ e)))) z₀
five-written old a b c d e z₀ z₁ z₂ z₃ z₄ z₅ f g h i j =
    j ∙ ap (render old e) (i ∙ ap (render old d) (h ∙ ap (render old c) (g ∙ ap (render old b) f)))
    ∙ sym (render-append old d e (render old c (render old b (render old a z₀))))
    ∙ sym (render-append old c (d ++ e) (render old b (render old a z₀)))
    ∙ sym (render-append old b (c ++ (d ++ e)) (render old a z₀))
    ∙ sym (render-append old a (b ++ (c ++ (d ++ e))) z₀)

module _ (s old offsets : List ℕ) (k : Pack) (p : Package) (h : SectionsAt s k p) (b : PackInfo) (B : Basis p.names p.enums old s offsets b) (nodes acts : List ℕ) (m n : ℕ)
    (S : Settled p.names s p.enums p.nodes p.activations nodes acts m n) where
  abbrev ns : List Name
  ns = p.names

  P : PackOf p.names s old offsets
  P = B.pack

  -- a section as it stands
  stays : {A : Type 0} (r : List ℕ → ℕ → Answer A) (g : A → List Item) (shape : A → Type 0) → Fmt ns r g shape → ((t : List ℕ) → Within (length t) (r t)) → (at : ℕ) (xs : List A) (e : ℕ) → counted (r s) s at ≡ value xs e
      → (us : List ℕ) (z₀ z₁ : State) → us ≡ slice_of s at (e - at) → z₁ ≡ puts us z₀ → z₁ ≡ render old (list g xs) z₀
  stays r g shape F w at xs e c us z₀ z₁ eu f = f ∙ ap (λ (l : List ℕ). puts l z₀) eu ∙ copied ns s old offsets P at (list g xs) e (lies-list ns P.fresh P.few s P.bytes r g shape F (λ t. within-counted t (r t) (w t)) at xs e c) z₀

  pub sections-are : (o : Number) (us vs ws : List ℕ) (z₀ z₁ z₂ z₃ z₄ z₅ z₆ z₇ z₈ : State) → o ≡ number_in s k.origins → us ≡ slice_of s k.enums (k.nodes - k.enums) → z₁ ≡ puts us z₀ → z₂ ≡ puts (two m) z₁
      → z₃ ≡ render old (each node_items (each_at (λ j. joined p.enums (node_names p.nodes) j p.activations) 0 p.nodes)) z₂ → vs ≡ slice_of s k.machines (k.activations - k.machines) → z₄ ≡ puts vs z₃ → z₅ ≡ puts (two 0) z₄
      → z₆ ≡ puts (two (o.value + n)) z₅ → ws ≡ slice_of s o.next (k.end - o.next) → z₇ ≡ puts ws z₆ → z₈ ≡ render old (each_t (origin_t p.names s nodes acts) n 0) z₇
      → z₈ ≡ render old (package_items (activations_lowered p (made_activations p))) z₀
  unfolding package_items activations_lowered list
  sections-are o us vs ws z₀ z₁ z₂ z₃ z₄ z₅ z₆ z₇ z₈ eo eu f₁ f₂ f₃ ev f₄ f₅ f₆ ew f₇ f₈ =
      let N' = each_at (λ j. joined p.enums (node_names p.nodes) j p.activations) 0 p.nodes in
      let more = origins_of p.enums p.nodes [] p.activations in
      let c = counted-parts (origin_in ns s) s k.origins p.origins k.end h.origins in
      let co : o ≡ num (length p.origins) (k.origins + 2) = eo ∙ c.0 in
      let w₁ : z₁ ≡ render old (list enum_items p.enums) z₀ = stays (enum_in ns) enum_items ShapedEnum (fmt_enum ns P.fresh P.few) (w-enum_in ns) k.enums p.enums k.nodes h.enums us z₀ z₁ eu f₁ in
      let w₃ : z₃ ≡ render old (list node_items N') z₁ =
      f₃ ∙ ap (render old (each node_items N')) (f₂ ∙ ap (λ (i : ℕ). puts (two i) z₁) (sym S.many ∙ sym (each-length _ 0 p.nodes))) ∙ sym (raw-first old (two (length N')) (each node_items N') z₁) in
      let w₄ : z₄ ≡ render old (list machine_items p.machines) z₃ = stays (machine_in ns) machine_items ShapedMachine (fmt_machine ns P.fresh P.few) (w-machine_in ns) k.machines p.machines k.activations h.machines vs z₃ z₄ ev f₄ in
      let w₅ : z₅ ≡ render old (list activation_items []) z₄ = f₅ ∙ sym (none_written old z₄) in
      let count : n ≡ length more = sym S.count ∙ sym (origins-length p.enums p.nodes p.activations (accepted-each p.enums p.nodes p.activations S.accepted) [] p.activations refl) in
      let w₇ : z₇ ≡ render old (each origin_items p.origins) z₆ =
      f₇ ∙ ap (λ (l : List ℕ). puts l z₆) (ew ∙ ap (λ (y : Number). slice_of s y.next (k.end - y.next)) co)
      ∙ copied ns s old offsets P (k.origins + 2) (each origin_items p.origins) k.end (lies-rest ns P.fresh P.few s P.bytes (origin_in ns) origin_items ShapedOrigin (fmt_origin ns P.fresh P.few) (λ t. within-counted t (origin_in ns t) (w-origin_in ns t)) k.origins p.origins k.end h.origins) z₆ in
      let w₈ : z₈ ≡ render old (each origin_items more) z₇ = f₈ ∙ origins-written ns s old offsets P p.enums p.nodes p.activations acts S.drawn S.fates S.accepted nodes S.stand n (sym S.count) z₇ in
      let w₆ : z₈ ≡ render old (list origin_items (p.origins ++ more)) z₅ =
      goes_on old origin_items p.origins more n (ap two (ap (λ (i : ℕ). length p.origins + i) count ∙ sym (length-append p.origins more))) z₅ z₆ z₇ z₈ (f₆ ∙ ap (λ (y : Number). puts (two (y.value + n)) z₅) co) w₇ w₈ in
      five-written old (list enum_items p.enums) (list node_items N') (list machine_items p.machines) (list activation_items []) (list origin_items (p.origins ++ more)) z₀ z₁ z₃ z₄ z₅ z₈ w₁ w₃ w₄ w₅ w₆
      ∙ (λ i. render old (list enum_items (sym (activations-enums p) i) ++ (list node_items (sym (activations-nodes p) i) ++ (list machine_items p.machines ++ (list activation_items [] ++ list origin_items (sym (activations-origins p) i))))) z₀)

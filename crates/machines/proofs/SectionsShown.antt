-- What the code writes by the tables of machines is the lowered package: all that follows the names.
use Prim.Native.Nat.{ℕ, ◌+◌, ◌-◌, ◌<◌}
use mathlib.Core.List.{List, [], ◌∷◌}
use mathlib.Core.Path.{◌≡◌, refl, sym, ap, subst, ◌∙◌}
use lib.ListN.{length, get_or}
use Rattle.wire.specs.Answer.{Answer, counted, value}
use Rattle.wire.specs.Bytes.{two}
use Rattle.wire.specs.Writer.{State, puts}
use Rattle.wire.proofs.Bounds.{Within, within-counted}
use Rattle.pack_rules.specs.Names.{Name}
use Rattle.pack_rules.specs.Syntax.{Activation, Enum, Node, Origin, Package}
use Rattle.pack_rules.specs.Read.{activation_in, enum_in, node_in, origin_in}
use Rattle.pack_rules.specs.Write.{Item, activation_items, each, enum_items, list, origin_items, raw}
use Rattle.pack.specs.Verdict.{SectionsAt}
use Rattle.pack.specs.Intern.{put_item, render}
use Rattle.pack.specs.declared.record.Pack.{Pack}
use Rattle.pack.proofs.TypeFormats.{Fmt, fmt_counted}
use Rattle.pack.proofs.PartFormats.{ShapedActivation, ShapedEnum, ShapedOrigin, fmt_activation, fmt_enum, fmt_origin}
use Rattle.pack.proofs.Bounds.{w-activation_in, w-enum_in, w-origin_in}
use Rattle.pack.proofs.Copies.{lies-list, lies-rest}
use Rattle.machines.specs.Layout.{slice_of}
use Rattle.machines.specs.Sections.{Share, continued, enum_count, made_enum_items, origin_count, origins_items, section_items, share_machine, total}
use Rattle.machines.specs.CheckedReads.{number_in, with}
use Rattle.machines.specs.TableMeaning.{Lowered, PackOf, Shown}
use Rattle.machines.specs.AddedAt.{each_t, own_origin_t, owned_t, regions_t, small_of, total_t}
use Rattle.machines.specs.EmitMachineAt.{Writes, enums_at, equations_at}
use Rattle.machines.specs.WriteNodesAt.{enums_part_t, origins_part_t, sections_t}
use Rattle.machines.proofs.CheckedReadLaws.{then_to}
use Rattle.machines.proofs.Resolved.{Ready}
use Rattle.machines.proofs.ChainsEmitted.{Alike, alike-append}
use Rattle.machines.proofs.ShownCounts.{owners-shown, regions-shown}
use Rattle.machines.proofs.ShownOrigins.{origins-written}
use Rattle.machines.proofs.Relaying.{enums-again, equations-again, items_at, lowered-shown, made_equation_items}
use Rattle.machines.proofs.ListsShown.{copied, counted-parts, each_at_lem, goes_on}
use Rattle.machines.proofs.NodesShown.{nodes-written}

pub raw-only : (old xs : List ℕ) (z : State) → render old (raw xs ∷ []) z ≡ puts xs z
unfolding render put_item
raw-only old xs z = refl

module _ (ns : List Name) (s old offsets : List ℕ) (P : PackOf ns s old offsets) where
  -- a section that goes on, where it was read
  section-on : {A : Type 0} (r : List ℕ → ℕ → Answer A) (g : A → List Item) (shape : A → Type 0) → Fmt ns r g shape → ((s : List ℕ) → Within (length s) (r s))
      → (at : ℕ) (xs : List A) (e c d : ℕ) (is js : List Item) → counted (r s) s at ≡ value xs e → c ≡ d → Alike old is js
      → Alike old (raw (two (small_of (length xs) + c)) ∷ raw (slice_of s (at + 2) (e - (at + 2))) ∷ is) (continued g xs d js)
  section-on r g shape F w at xs e c d is js h f m = λ z.
      goes_on ns s old offsets P g xs (at + 2) e c d is js ((fmt_counted ns r g shape F).legal s P.bytes at xs e h).0.0
      (lies-rest ns P.fresh P.few s P.bytes r g shape F (λ t. within-counted t (r t) (w t)) at xs e h) f m z

  -- activations stay
  activations-stay : (at : ℕ) (acts : List Activation) (e : ℕ) → counted (activation_in ns s) s at ≡ value acts e → Alike old (raw (slice_of s at (e - at)) ∷ []) (list activation_items acts)
  activations-stay at acts e h = λ z.
      raw-only old _ z
      ∙ copied ns s old offsets P at (list activation_items acts) e
      (lies-list ns P.fresh P.few s P.bytes (activation_in ns) activation_items ShapedActivation (fmt_activation ns P.fresh P.few) (λ t. within-counted t (activation_in ns t) (w-activation_in ns t)) at acts e h) z

  module _ (defs receivers regcounts : List ℕ) (xs : List Share) (h : Shown ns s defs receivers regcounts 0 xs) where
    -- the section of enums
    enums-written : (at : ℕ) (es : List Enum) (e : ℕ) → counted (enum_in ns s) s at ≡ value es e
        → Alike old (enums_part_t ns s defs receivers regcounts offsets (length xs) (items_at made_enum_items xs) at e) (continued enum_items es (total (λ (x : Share). enum_count (share_machine x)) xs) (each made_enum_items xs))
    unfolding enums_part_t
    enums-written at es e r = λ z.
        ap (λ (is : List Item). render old is z)
        (then_to (number_in s at) (length es) (at + 2) (λ c b. raw (two (small_of c + total_t (regions_t regcounts) (length xs) 0)) ∷ raw (slice_of s b (e - b)) ∷ each_t (items_at made_enum_items xs) (length xs) 0) (counted-parts (enum_in ns s) s at es e r).0)
        ∙ section-on (enum_in ns) enum_items ShapedEnum (fmt_enum ns P.fresh P.few) (w-enum_in ns) at es e _ _ _ _ r
        (regions-shown ns s old offsets P defs receivers regcounts 0 xs h)
        (λ y. ap (λ (is : List Item). render old is y) (each_at_lem (items_at made_enum_items xs) made_enum_items xs (λ j l. refl))) z

    -- the section of origins
    origins-all : (at : ℕ) (os : List Origin) (e nodes : ℕ) (olds : List Node) (q : ℕ) → counted (origin_in ns s) s at ≡ value os e → counted (node_in ns s) s nodes ≡ value olds q
        → Alike old (origins_part_t ns s defs receivers regcounts offsets (length xs) at e nodes) (continued origin_items os (total (λ (x : Share). origin_count x.fate) xs) (origins_items olds [] xs))
    unfolding origins_part_t
    origins-all at os e nodes olds q r m = λ z.
        let c = counted-parts (node_in ns s) s nodes olds q m in
        let more : ℕ → ℕ → List Item = λ o f. each_t (own_origin_t ns s defs receivers regcounts o f) (length xs) 0 in
        let whole : ℕ → ℕ → ℕ → ℕ → List Item = λ c b o f. raw (two (small_of c + total_t (owned_t s defs) (length xs) 0)) ∷ raw (slice_of s b (e - b)) ∷ more o f in
        ap (λ (is : List Item). render old is z)
        (then_to (number_in s at) (length os) (at + 2) (λ c b. with (number_in s nodes) (λ o f. whole c b o f)) (counted-parts (origin_in ns s) s at os e r).0
        ∙ then_to (number_in s nodes) (length olds) (nodes + 2) (λ o f. whole (length os) (at + 2) o f) c.0)
        ∙ section-on (origin_in ns) origin_items ShapedOrigin (fmt_origin ns P.fresh P.few) (w-origin_in ns) at os e _ _ _ _ r
        (owners-shown ns s old offsets P defs receivers regcounts 0 xs h)
        (origins-written ns s old offsets P defs receivers regcounts (length olds) (nodes + 2) olds q c.1 xs h) z

-- what is written of the machines and of all sections, by n machines of the tables
pub record SectionsWritten (p : Package) (s old offsets to defs receivers regcounts : List ℕ) (n : ℕ) (xs : List Share) (k : Pack) : Type 0 where
  pub eqs : ℕ → List Item
  pub ens : ℕ → List Item
  pub equations : (i : ℕ) → i < n → Writes old (equations_at p.names s offsets to) (get_or defs i 0) (eqs i)
  pub enums : (i : ℕ) → i < n → Writes old (enums_at p.names s offsets to) (get_or defs i 0) (ens i)
  pub sections : (z : State) → render old (sections_t p.names s defs receivers regcounts offsets n eqs ens k) z ≡ render old (section_items p xs) z

module _ (p : Package) (s old offsets to defs receivers regcounts : List ℕ) (k : Pack) (stands : SectionsAt s k p) (P : PackOf p.names s old offsets) (r : Ready s p.names p.machines offsets to)
    (xs : List Share) (h : Lowered p.machines p.names s defs receivers regcounts 0 xs) where
  shown : Shown p.names s defs receivers regcounts 0 xs
  shown = lowered-shown p.machines p.names s defs receivers regcounts 0 xs h

  all-sections : Alike old (sections_t p.names s defs receivers regcounts offsets (length xs) (items_at made_equation_items xs) (items_at made_enum_items xs) k) (section_items p xs)
  unfolding sections_t section_items
  all-sections =
      let ns = p.names in
      alike-append old _ _ _ _ (enums-written ns s old offsets P defs receivers regcounts xs shown k.enums p.enums k.nodes stands.enums)
      (alike-append old _ _ _ _ (nodes-written ns s old offsets P defs receivers regcounts xs shown k.nodes p.nodes k.machines stands.nodes)
      (alike-append old (raw (two 0) ∷ []) (raw (two 0) ∷ []) _ _ (λ z. refl)
      (alike-append old (raw (slice_of s k.activations (k.origins - k.activations)) ∷ []) _ _ _ (activations-stay ns s old offsets P k.activations p.activations k.origins stands.activations)
      (origins-all ns s old offsets P defs receivers regcounts xs shown k.origins p.origins k.end k.nodes p.nodes k.machines stands.origins stands.nodes))))

  -- THE THEOREM: what is written by the tables is the lowered package
  pub sections-written : (n : ℕ) → n ≡ length xs → SectionsWritten p s old offsets to defs receivers regcounts n xs k
  sections-written n e =
      subst (λ m. SectionsWritten p s old offsets to defs receivers regcounts m xs k) (sym e)
      (record {
        eqs = items_at made_equation_items xs;
        ens = items_at made_enum_items xs;
        equations = equations-again p.names s old offsets P p.machines to r defs receivers regcounts xs h;
        enums = enums-again p.names s old offsets P p.machines to r defs receivers regcounts xs h;
        sections = all-sections;
      })

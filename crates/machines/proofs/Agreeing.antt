-- Resolving on bytes comes to what resolving the tree that is read there comes to.
use Prim.Native.Nat.{ℕ, ◌+◌, ◌-◌, ◌<◌, ◌≤◌, zero, suc, max}
use native.Mathlib.Omega.{arith}
use mathlib.Core.List.{List, [], ◌∷◌}
use mathlib.Core.Bool.{Bool, true, false, cond, and-true}
use mathlib.Core.Option.{Option, none, some}
use mathlib.Core.Path.{◌≡◌, refl, sym, ap, subst, ◌∙◌}
use lib.ListN.{length, get_or}
use lib.Dec.{eqb, leb}
use borrow.Author.Tests.{eq-eqb, ne_eqb}
use Rattle.wire.specs.Answer.{many, value}
use Rattle.pack_rules.specs.Limits.{absent, max_level, max_name}
use Rattle.pack_rules.specs.Names.{Name, member}
use Rattle.pack_rules.specs.Syntax.{MachineDef}
use Rattle.machine_rules.specs.Resolved.{ResolvedRegions, r_cons, s_cons}
use Rattle.pack_rules.specs.Forms.{name_at}
use Rattle.pack_rules.specs.Legal.{Fresh}
use Rattle.pack_rules.specs.Read.{OneRegion, OneState, drawn_of, optional_in, region_at, regions_of, state_with}
use Rattle.machines.specs.declared.resolve.RefineStack.{RefineStack}
use Rattle.machines.specs.declared.resolve.Resolved.{Resolved}
use Rattle.machines.specs.declared.resolve.Resolved.TheVariants as wk
use Rattle.machine_rules.specs.Refusals.{refine_cycle, too_large, unknown_refine}
use Rattle.machine_rules.specs.Resolve.{Target, Walk, machine_of, open_level, refine_at, refine_with, resolve_r, resolve_s, short_r, short_s, stop, walk_on, with_refine, with_target}
use Rattle.machines.specs.CheckedReads.{machine_from, number_in, region_in, with}
use Rattle.machines.specs.Tables.{len_of}
use Rattle.machines.specs.RefineStack.{pushed_of}
use Rattle.machines.specs.ResolveAt.{enter_w, go_on, head_t, len_at, qualify_of, refine_w, region_w, rounds, state_w, walk}
use Rattle.machines.specs.ResolveAgrees.{Same, Why, WithinNames, fit_r, fit_s, goes, stops, why_of}
use Rattle.machines.proofs.Reading.{many-cut, many-end, many_more, many-over, optional-none, optional-some, region-none, region-value, state-value}
use Rattle.machines.proofs.ResolvedAtOffset.{Found}
use Rattle.machines.proofs.CheckedReadLaws.{machine-to, number-to, region-to, then_to}
use Rattle.machines.proofs.MachinesPlaced.{Places}
use Rattle.machines.proofs.Lengths.{region-law, state-law}
use Rattle.machines.proofs.ResolveSame.{Knows, arrive_same, go_on-assoc, head-is, large-why, len-at, less-known, machine-named, push, qualify-same, same_by, same_map, same-onward, stays, walk_on-assoc}

module _ (ns : List Name) (s offsets to : List ℕ) (top : Name) (ms : List MachineDef)
    (fresh : Fresh [] ns)
    (right : (i : ℕ) → i < length ns → len_of s offsets i ≡ length (name_at ns i))
    (places : Places ns s ms to) where
  abbrev R : ℕ → List Name → ℕ → Name → Name → ℕ → Walk Target
  R f path = refine_at f top ms path

  abbrev W : ℕ → RefineStack → ℕ → ℕ → ℕ → Resolved
  W l = walk ns s offsets to l

  -- n states read at `at` and walked there, with l levels left
  abbrev pub Agreeing : ℕ → Type 0
  Agreeing l = (f levels n at : ℕ) (path : List Name) (p : RefineStack) (xs : List OneState) (q c a : ℕ) → l ≤ f → levels ≤ max_level - 1 → Knows ns l path p → many (state_with (region_at levels ns s) ns s) n at ≡ value xs q
      → Same ns top (fit_s a) q (resolve_s top (R f path) l (drawn_of xs) c) (rounds (state_w ns s offsets to (W l) p) n at c a)

  abbrev Below : ℕ → Type 0
  Below l = (j : ℕ) → l ≡ suc j → Agreeing j

  -- the inline regions
  regions-same : (l : ℕ) → Below l → (f levels n at : ℕ) (path : List Name) (p : RefineStack) (rs : List OneRegion) (q c a : ℕ) → l ≤ f → levels ≤ max_level - 1 → Knows ns l path p → many (region_at levels ns s) n at ≡ value rs q
      → Same ns top (fit_r a) q (resolve_r top (R f path) l (regions_of rs) c) (rounds (region_w ns s offsets to (W l) p) n at c a)
  unfolding resolve_r regions_of rounds open_level fit_r short_r walk region_w go_on
  regions-same l low f levels zero at path p [] q c a fu fw kn r =
      goes refl (ap (λ y. wk.Went y c a) (many-end (region_at levels ns s) at q r)) (λ k. and-true (leb (k + a) max_name))
  regions-same l low f levels zero at path p (x ∷ rs) q c a fu fw kn r = absurd (many-cut (region_at levels ns s) at x rs q r)
  regions-same l low f levels (suc n) at path p [] q c a fu fw kn r = absurd (many-over (region_at levels ns s) n at q r)
  regions-same l low f zero (suc n) at path p (x ∷ rs) q c a fu fw kn r =
      let d = many_more (region_at zero ns s) n at x rs q r in absurd (region-none ns s at x d.0 d.1)
  regions-same zero low f (suc levels) (suc n) at path p (x ∷ rs) q c a fu fw kn r =
      let d = many_more (region_at (suc levels) ns s) n at x rs q r in
      let b = region-value ns s levels at x d.0 d.1 in
      stops refl (stays ns top (region_w ns s offsets to (W zero) p at c) _ (too_large top) (subst (λ v. Why ns top v (too_large top)) (sym (then_to (region_in s at) b.k b.b _ (region-to ns s at x.initial x.history b.k b.b b.head))) (large-why ns top)))
  regions-same (suc l) low f (suc levels) (suc n) at path p (x ∷ rs) q c a fu fw kn r =
      let d = many_more (region_at (suc levels) ns s) n at x rs q r in
      let b = region-value ns s levels at x d.0 d.1 in
      let i : len_at s offsets at ≡ length x.initial = len-at ns s offsets right at x.initial b.head.to-history b.head.initial in
      let u = low l refl f levels b.k b.b path p b.xs d.0 c 0 (omega arith) (omega arith) (less-known ns l path p kn) b.inside in
      same_by ns top (fit_r a) q _ _ _ _ refl
      (ap (λ y. go_on y (λ q d w. rounds (region_w ns s offsets to (W (suc l)) p) n q d (max a w))) (then_to (region_in s at) b.k b.b _ (region-to ns s at x.initial x.history b.k b.b b.head))
      ∙ go_on-assoc (W (suc l) p b.k b.b c) _ _)
      (same-onward ns top (fit_s 0) d.0 (fit_r a) q (resolve_s top (R f path) l x.states c) (W (suc l) p b.k b.b c) _ _
      (same_by ns top (fit_s 0) d.0 _ _ _ _ (ap (λ y. resolve_s top (R f path) l y c) (sym b.same)) refl u)
      (λ us e w law. same_map ns top (fit_r (max a (max (len_at s offsets at) w))) (fit_r a) q (resolve_r top (R f path) (suc l) (regions_of rs) e) _ (λ vs. r_cons x.initial x.history us vs)
      (regions-same (suc l) low f (suc levels) n d.0 path p rs q e (max a (max (len_at s offsets at) w)) fu fw kn d.2)
      (λ vs z g k. region-law k a (len_at s offsets at) w z x.initial x.history us vs i (law k) (g k))))

  -- where the refinement x of the state i leads, with l levels left
  enter-both : (B : Type 0) (th : ℕ → B → Bool) (z : ℕ) (path : List Name) (p : RefineStack) (l i x c : ℕ) (enter : MachineDef → ℕ → ℕ → Walk Target) (k : Target → ℕ → Walk B) (j : ℕ → ℕ → ℕ → Resolved)
      → Knows ns l path p → i < length ns → x < length ns → (x ≡ absent → ⊥)
      → ((d : MachineDef) (g : Found ns s (λ j. get_or to j 0) x d) → d.name ≡ name_at ns x → Same ns top th z (walk_on (enter d l c) k) (j g.b g.k (len_at s offsets (get_or to x 0))))
      → Same ns top th z (walk_on (refine_with top ms path enter l (name_at ns i) (name_at ns x) c) k) (go_on (enter_w s offsets to p i x) j)
  unfolding refine_with enter_w walk_on go_on why_of WithinNames
  enter-both B th z path p l i x c enter k j kn is xs xn h = rw (kn.same x xs xn) (go (member (name_at ns x) path) (machine_of ms (name_at ns x)) refl)
    where
      go : (b : Bool) (o : Option MachineDef) → machine_of ms (name_at ns x) ≡ o
          → Same ns top th z (walk_on (elim b [ true ↦ stop (refine_cycle top (name_at ns x)) | false ↦ elim o [ none ↦ stop (unknown_refine top (name_at ns i) (name_at ns x)) | some m ↦ enter m l c ] ]) k)
          (go_on (cond b (wk.Cycle x) (cond (eqb (get_or to x 0) 0) (wk.Unknown i x) (with (machine_from s (get_or to x 0)) λ k b. wk.Went b k (len_at s offsets (get_or to x 0))))) j)
      go true o e = stops refl (refl, xs)
      go false none e = rw (eq-eqb (get_or to x 0) 0 (places.misses x xs e)) (stops refl (refl, (is, xs)))
      go false (some d) e =
          let g = places.finds x d xs e in
          rw (ne_eqb (get_or to x 0) 0 (places.hits x d xs e), then_to (machine_from s (get_or to x 0)) g.k g.b (λ k b. wk.Went b k (len_at s offsets (get_or to x 0))) (machine-to ns s (get_or to x 0) d.initial g.k g.b g.head))
          (h d g (machine-named ms (name_at ns x) d e))

  -- the machine found, and its names qualified; the fuel of the definition is enough
  enter-same : (l : ℕ) → Below l → (f : ℕ) (path : List Name) (p : RefineStack) (i x : ℕ) (qs : ResolvedRegions) (e c h b : ℕ) → l ≤ f → Knows ns l path p → i < length ns → x < length ns → (x ≡ absent → ⊥)
      → ((k : ℕ) → fit_r h k qs ≡ leb (k + b) max_name)
      → Same ns top (fit_r h) e (walk_on (R f path l (name_at ns i) (name_at ns x) c) (λ t k. with_target top (R f path) (name_at ns i) qs t k))
      (go_on (enter_w s offsets to p i x) (λ o k f. go_on (W l (pushed_of p x) k o c) (λ q d w. qualify_of (len_of s offsets i) (max f w) b e d)))
  unfolding refine_at walk open_level walk_on go_on
  enter-same l low zero path p i x qs e c h b fu kn is xs xn law =
      enter-both ResolvedRegions (fit_r h) e path p l i x c _ _ _ kn is xs xn (λ d g named.
      let z : l ≡ 0 = omega arith in
      same_by ns top (fit_r h) e _ _ _ _ refl (ap (λ y. go_on (W y (pushed_of p x) g.k g.b c) (λ q d w. qualify_of (len_of s offsets i) (max (len_at s offsets (get_or to x 0)) w) b e d)) z) (stops refl (large-why ns top)))
  enter-same zero low (suc f) path p i x qs e c h b fu kn is xs xn law =
      enter-both ResolvedRegions (fit_r h) e path p zero i x c _ _ _ kn is xs xn (λ d g named. stops refl (large-why ns top))
  enter-same (suc l) low (suc f) path p i x qs e c h b fu kn is xs xn law =
      enter-both ResolvedRegions (fit_r h) e path p (suc l) i x c _ _ _ kn is xs xn (λ d g named.
      let u = low l refl f (max_level - 1) g.k g.b (d.name ∷ path) (pushed_of p x) g.xs g.q c 0 (omega arith) (omega arith) (push ns l path p x d.name fresh kn xs named) g.reads in
      same_by ns top (fit_r h) e _ _ _ _ (walk_on-assoc (resolve_s top (R f (d.name ∷ path)) l d.states c) _ _) refl
      (same-onward ns top (fit_s 0) g.q (fit_r h) e (resolve_s top (R f (d.name ∷ path)) l d.states c) (W (suc l) (pushed_of p x) g.k g.b c) _ _
      (same_by ns top (fit_s 0) g.q _ _ _ _ (ap (λ y. resolve_s top (R f (d.name ∷ path)) l y c) (sym g.same)) refl u)
      (λ ss n w fits. qualify-same ns top (R (suc f) path) (name_at ns i) d.initial qs ss n e h b (len_of s offsets i) (len_at s offsets (get_or to x 0)) w (right i is) (len-at ns s offsets right (get_or to x 0) d.initial g.head.to-states g.head.initial) law fits)))

  -- the refinement
  refine-same : (l : ℕ) → Below l → (f : ℕ) (path : List Name) (p : RefineStack) (i : ℕ) (nm : Name) (at : ℕ) (o : Option Name) (e : ℕ) (qs : ResolvedRegions) (c h b : ℕ) → l ≤ f → Knows ns l path p → i < length ns → name_at ns i ≡ nm → optional_in ns s at ≡ value o e
      → ((k : ℕ) → fit_r h k qs ≡ leb (k + b) max_name)
      → Same ns top (fit_r h) e (with_refine top (R f path) l nm o qs c) (refine_w ns s offsets to (W l) p i at c b)
  unfolding with_refine refine_w
  refine-same l low f path p i nm at none e qs c h b fu kn is named r law =
      goes {a = b} refl (number-to s at absent e _ (optional-none ns s at e r) ∙ refl) law
  refine-same l low f path p i nm at (some n) e qs c h b fu kn is named r law =
      let a = optional-some ns s at n e r in
      let v : with (number_in s at) (λ m e. cond (eqb m absent) (wk.Went e c b) (go_on (enter_w s offsets to p i m) (λ o k f. go_on (W l (pushed_of p m) k o c) (λ q d w. qualify_of (len_of s offsets i) (max f w) b e d))))
      ≡ go_on (enter_w s offsets to p i a.i) (λ o k f. go_on (W l (pushed_of p a.i) k o c) (λ q d w. qualify_of (len_of s offsets i) (max f w) b e d)) =
      number-to s at a.i e _ a.is ∙ rw (ne_eqb a.i absent a.present) refl in
      same_by ns top (fit_r h) e _ _ _ _ refl v
      (subst (λ y. Same ns top (fit_r h) e (walk_on (R f path l y n c) (λ t k. with_target top (R f path) y qs t k)) (go_on (enter_w s offsets to p i a.i) (λ o k f. go_on (W l (pushed_of p a.i) k o c) (λ q d w. qualify_of (len_of s offsets i) (max f w) b e d)))) named
      (subst (λ y. Same ns top (fit_r h) e (walk_on (R f path l (name_at ns i) y c) (λ t k. with_target top (R f path) (name_at ns i) qs t k)) (go_on (enter_w s offsets to p i a.i) (λ o k f. go_on (W l (pushed_of p a.i) k o c) (λ q d w. qualify_of (len_of s offsets i) (max f w) b e d)))) a.named
      (enter-same l low f path p i a.i qs e c h b fu kn is a.small a.present law)))

  -- the states
  states-same : (l : ℕ) → Below l → Agreeing l
  unfolding resolve_s drawn_of rounds state_w fit_s short_s go_on
  states-same l low f levels zero at path p [] q c a fu fw kn r =
      goes refl (ap (λ y. wk.Went y c a) (many-end (state_with (region_at levels ns s) ns s) at q r)) (λ k. and-true (leb (k + a) max_name))
  states-same l low f levels zero at path p (x ∷ xs) q c a fu fw kn r = absurd (many-cut (state_with (region_at levels ns s) ns s) at x xs q r)
  states-same l low f levels (suc n) at path p [] q c a fu fw kn r = absurd (many-over (state_with (region_at levels ns s) ns s) n at q r)
  states-same l low f levels (suc n) at path p (x ∷ xs) q c a fu fw kn r =
      let d = many_more (state_with (region_at levels ns s) ns s) n at x xs q r in
      let b = state-value ns s (region_at levels ns s) at x d.0 d.1 in
      let g = head-is ns s offsets right at x.name x.equations x.transitions b.k b.b b.head in
      arrive_same ns top (R f path) (fit_s a) q c _ _ _
      (same_by ns top (fit_s a) q _ _ _ _ refl
      (ap (λ y. go_on y (λ q d w. rounds (state_w ns s offsets to (W l) p) n q d (max a w)))
      (then_to (head_t ns s offsets at) g.a b.head.to-regions _ g.head ∙ number-to s b.head.to-regions b.k b.b _ b.head.regions)
      ∙ go_on-assoc (rounds (region_w ns s offsets to (W l) p) b.k b.b (c + 1) g.a) _ _)
      (same-onward ns top (fit_r g.a) b.m (fit_s a) q (resolve_r top (R f path) l x.regions (c + 1)) (rounds (region_w ns s offsets to (W l) p) b.k b.b (c + 1) g.a) _ _
      (same_by ns top (fit_r g.a) b.m _ _ _ _ (ap (λ y. resolve_r top (R f path) l y (c + 1)) (sym b.same)) refl (regions-same l low f levels b.k b.b path p b.rs b.m (c + 1) g.a fu fw kn b.inline))
      (λ qs e v law. same_by ns top (fit_s a) q _ _ _ _ refl (ap (λ y. go_on y (λ q d w. rounds (state_w ns s offsets to (W l) p) n q d (max a w))) (number-to s at g.i g.o (λ i x. refine_w ns s offsets to (W l) p i b.m e v) g.is))
      (same-onward ns top (fit_r g.a) d.0 (fit_s a) q (with_refine top (R f path) l x.name x.refines qs e) (refine_w ns s offsets to (W l) p g.i b.m e v) _ _
      (refine-same l low f path p g.i x.name b.m x.refines d.0 qs e g.a v fu kn g.small g.named b.last law)
      (λ us m w fits. same_map ns top (fit_s (max a w)) (fit_s a) q (resolve_s top (R f path) l (drawn_of xs) m) _ (λ vs. s_cons x.name x.equations x.transitions us vs)
      (states-same l low f levels n d.0 path p xs q m (max a w) fu fw kn d.2)
      (λ vs y h k. state-law k a g.a w y x.name x.equations x.transitions us vs (g.law k) (fits k) (h k)))))))

  pub agreeing : (l : ℕ) → Agreeing l
  agreeing zero = states-same zero (λ j e. let z : ◌≡◌ {A = ℕ} 0 1 = cc in absurd (omega arith))
  agreeing (suc l) = states-same (suc l) (λ j e. let i : l ≡ j = cc in subst Agreeing i (agreeing l))

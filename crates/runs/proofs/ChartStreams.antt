-- The interpreter finds in each cycle what the streams of the regions have there.
use Prim.Native.Nat.{ℕ, zero, suc}
use native.Mathlib.Omega.{arith}
use mathlib.Core.List.{List, [], ◌∷◌, ◌++◌, append_assoc, append-nil}
use mathlib.Core.Bool.{Bool, true, ◌&&◌}
use mathlib.Core.Path.{◌≡◌, refl, sym, ap, ap₂, ◌∙◌}
use lib.ListN.{length, length-append}
use lib.Seq.{drop_at}
use Rattle.pack_rules.specs.Names.{Name, eq_name}
use Rattle.machine_rules.specs.Resolved.{ResolvedMachine, ResolvedRegions, ResolvedStates, r_cons, r_nil, s_cons, s_nil}
use Rattle.machine_rules.specs.Lower.{size_r, size_s}
use Rattle.run_rules.specs.Chart.{Guards, RegionMemory, RegionStep, at_first, cycle, first_memory, found_in, founds, memories_after, memories_in, start_r, start_s, step_region, step_regions, step_states, top_of}
use Rattle.run_rules.specs.StatedDirectly.{always, within}
use Rattle.runs.proofs.Streams.{chart, chart_r, chart_s, found_at, kept_at, top_found}

-- streams in a cycle
unfoldable pub at_each : {A : Type 0} → ℕ → List (ℕ → A) → List A
at_each t [] = []
at_each t (f ∷ fs) = f t ∷ at_each t fs

pub each_append : {A : Type 0} (t : ℕ) (k l : List (ℕ → A)) → at_each t (k ++ l) ≡ at_each t k ++ at_each t l
unfolding at_each
each_append t [] l = refl
each_append t (f ∷ k) l = ap (λ x. f t ∷ x) (each_append t k l)

pub each-length : {A : Type 0} (t : ℕ) (k : List (ℕ → A)) → length (at_each t k) ≡ length k
unfolding at_each
each-length t [] = refl
each-length t (f ∷ k) = ap suc (each-length t k)

founds-append : (k l : List RegionStep) → founds (k ++ l) ≡ founds k ++ founds l
unfolding founds
founds-append [] l = refl
founds-append (x ∷ k) l = ap (λ y. x.found ∷ y) (founds-append k l)

kepts-append : (k l : List RegionStep) → memories_after (k ++ l) ≡ memories_after k ++ memories_after l
unfolding memories_after
kepts-append [] l = refl
kepts-append (x ∷ k) l = ap (λ y. x.kept ∷ y) (kepts-append k l)

-- what the regions keep, in preorder
unfoldable mutual
  pub kepts_s : Guards → (ℕ → Bool) → (ℕ → Name) → ResolvedStates → List (ℕ → RegionMemory)
  kepts_s G A f s_nil = []
  kepts_s G A f (s_cons s es ts rs rest) = kepts_r G (within A f s) rs ++ kepts_s G A f rest

  pub kepts_r : Guards → (ℕ → Bool) → ResolvedRegions → List (ℕ → RegionMemory)
  kepts_r G A r_nil = []
  kepts_r G A (r_cons i h ss rest) = kept_at G i h ss A ∷ (kepts_s G A (found_at G i h ss A) ss ++ kepts_r G A rest)

-- one for each region
mutual
  unfolding kepts_s size_s at_each

  pub sized_s : (G : Guards) (A : ℕ → Bool) (f : ℕ → Name) (ss : ResolvedStates) (t : ℕ) → length (at_each t (kepts_s G A f ss)) ≡ size_s ss
  sized_s G A f s_nil t = refl
  sized_s G A f (s_cons s es ts rs rest) t =
      rw (each_append t (kepts_r G (within A f s) rs) (kepts_s G A f rest), length-append (at_each t (kepts_r G (within A f s) rs)) (at_each t (kepts_s G A f rest)), sized_r G (within A f s) rs t, sized_s G A f rest t)

  pub sized_r : (G : Guards) (A : ℕ → Bool) (rs : ResolvedRegions) (t : ℕ) → length (at_each t (kepts_r G A rs)) ≡ size_r rs
  sized_r G A r_nil t = refl
  sized_r G A (r_cons i h ss rest) t =
      rw (each_append t (kepts_s G A (found_at G i h ss A) ss) (kepts_r G A rest), length-append (at_each t (kepts_s G A (found_at G i h ss A) ss)) (at_each t (kepts_r G A rest)), sized_s G A (found_at G i h ss A) ss t, sized_r G A rest t) (omega arith)

-- what is kept at first
mutual
  unfolding start_s kepts_s kept_at at_first at_each

  first_s : (G : Guards) (A : ℕ → Bool) (f : ℕ → Name) (ss : ResolvedStates) → start_s ss ≡ at_each 0 (kepts_s G A f ss)
  first_s G A f s_nil = refl
  first_s G A f (s_cons s es ts rs rest) = ap₂ ◌++◌ (first_r G (within A f s) rs) (first_s G A f rest) ∙ sym (each_append 0 (kepts_r G (within A f s) rs) (kepts_s G A f rest))

  first_r : (G : Guards) (A : ℕ → Bool) (rs : ResolvedRegions) → start_r rs ≡ at_each 0 (kepts_r G A rs)
  first_r G A r_nil = refl
  first_r G A (r_cons i h ss rest) =
      ap (λ x. at_first i ∷ x) (ap₂ ◌++◌ (first_s G A (found_at G i h ss A) ss) (first_r G A rest) ∙ sym (each_append 0 (kepts_s G A (found_at G i h ss A) ss) (kepts_r G A rest)))

-- the turns of a cycle: found is what the streams have then, kept what they have in the next
abbrev Turned : ℕ → List RegionStep → List (ℕ → Name) → List (ℕ → RegionMemory) → Type 0
Turned t xs fs ks = (founds xs ≡ at_each t fs) × (memories_after xs ≡ at_each (suc t) ks)

turned-append : (t : ℕ) (xs ys : List RegionStep) (fs gs : List (ℕ → Name)) (ks ls : List (ℕ → RegionMemory)) → Turned t xs fs ks → Turned t ys gs ls → Turned t (xs ++ ys) (fs ++ gs) (ks ++ ls)
turned-append t xs ys fs gs ks ls p q = (
  founds-append xs ys ∙ ap₂ ◌++◌ p.0 q.0 ∙ sym (each_append t fs gs),
  kepts-append xs ys ∙ ap₂ ◌++◌ p.1 q.1 ∙ sym (each_append (suc t) ks ls),
)

-- the first of what is kept, and the rest
here : {A : Type 0} (t : ℕ) (k l : List (ℕ → A)) (more : List A) → at_each t (k ++ l) ++ more ≡ at_each t k ++ (at_each t l ++ more)
here t k l more = ap (λ x. x ++ more) (each_append t k l) ∙ append_assoc (at_each t k) (at_each t l) more

mutual
  unfolding step_states chart_s kepts_s within founds memories_after at_each step_region first_memory found_at kept_at

  turned_s : (G : Guards) (A : ℕ → Bool) (f : ℕ → Name) (ss : ResolvedStates) (t : ℕ) (more : List RegionMemory)
      → Turned t (step_states (λ g. G g t) (A t) (f t) ss (at_each t (kepts_s G A f ss) ++ more)) (chart_s G A f ss) (kepts_s G A f ss)
  turned_s G A f s_nil t more = (refl, refl)
  turned_s G A f (s_cons s es ts rs rest) t more =
      let W = within A f s in
      let kr = kepts_r G W rs in
      let ks = kepts_s G A f rest in
      let now = here t kr ks more in
      let then = drop_at (at_each t kr) (at_each t ks ++ more) (size_r rs) (sized_r G W rs t) in
      rw (now, then)
      (turned-append t (step_regions (λ g. G g t) (A t && eq_name (f t) s) rs (at_each t kr ++ (at_each t ks ++ more))) (step_states (λ g. G g t) (A t) (f t) rest (at_each t ks ++ more)) (chart_r G W rs) (chart_s G A f rest) kr ks
      (turned_r G W rs t (at_each t ks ++ more)) (turned_s G A f rest t more))

  turned_r : (G : Guards) (A : ℕ → Bool) (rs : ResolvedRegions) (t : ℕ) (more : List RegionMemory)
      → Turned t (step_regions (λ g. G g t) (A t) rs (at_each t (kepts_r G A rs) ++ more)) (chart_r G A rs) (kepts_r G A rs)
  turned_r G A r_nil t more = (refl, refl)
  turned_r G A (r_cons i h ss rest) t more =
      let F = found_at G i h ss A in
      let ks = kepts_s G A F ss in
      let kr = kepts_r G A rest in
      let now = here t ks kr more in
      let then = drop_at (at_each t ks) (at_each t kr ++ more) (size_s ss) (sized_s G A F ss t) in
      let p = turned-append t (step_states (λ g. G g t) (A t) (F t) ss (at_each t ks ++ (at_each t kr ++ more))) (step_regions (λ g. G g t) (A t) rest (at_each t kr ++ more)) (chart_s G A F ss) (chart_r G A rest) ks kr
      (turned_s G A F ss t (at_each t kr ++ more)) (turned_r G A rest t more) in
      rw (now, then) (ap (λ x. F t ∷ x) p.0, ap (λ x. kept_at G i h ss A (suc t) ∷ x) p.1)

-- what is kept before a cycle, and found in it
pub kept-is : (G : Guards) (m : ResolvedMachine) (t : ℕ) → memories_in G m t ≡ at_each t (kepts_r G always (top_of m))
unfolding memories_in cycle
kept-is G m zero = first_r G always (top_of m)
kept-is G m (suc t) =
    ap (λ ks. memories_after (step_regions (λ g. G g t) true (top_of m) ks)) (kept-is G m t ∙ sym (append-nil (at_each t (kepts_r G always (top_of m)))))
    ∙ (turned_r G always (top_of m) t []).1

pub found-is : (G : Guards) (m : ResolvedMachine) (t : ℕ) → found_in G m t ≡ at_each t (chart G m)
unfolding found_in cycle top_of chart top_found chart_s
found-is G m t =
    ap (λ ks. founds (step_regions (λ g. G g t) true (top_of m) ks)) (kept-is G m t ∙ sym (append-nil (at_each t (kepts_r G always (top_of m)))))
    ∙ (turned_r G always (top_of m) t []).0
    ∙ ap (at_each t) (append-nil (chart G m))

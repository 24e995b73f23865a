-- What settled tables count, write and stand for.
use Prim.Native.Nat.{ℕ, zero, suc, ◌+◌, ◌<◌}
use native.Mathlib.Omega.{arith}
use mathlib.Core.List.{List, [], ◌∷◌, ◌++◌}
use mathlib.Core.Path.{◌≡◌, refl, sym, ap, subst, ◌∙◌}
use lib.ListN.{length, get_or}
use borrow.Author.Tests.{eq-eqb, ne_eqb}
use Rattle.pack_rules.specs.Limits.{absent}
use Rattle.pack_rules.specs.Names.{Name}
use Rattle.pack_rules.specs.Syntax.{MachineDef}
use Rattle.pack_rules.specs.Report.{Refusal, entries}
use Rattle.pack_rules.specs.Write.{enc}
use Rattle.machines.specs.Sections.{Share, fates, shares}
use Rattle.machines.specs.TableMeaning.{Lowered}
use Rattle.machines.specs.AddedAt.{total_t}
use Rattle.machines.specs.OwnersAt.{refused_t}
use Rattle.machines.specs.ReportAt.{Enters, EntersAll, bytes_t, entry_t, of_refused}
use Rattle.machines.specs.EmitMachineAt.{Long}
use Rattle.machines.specs.Verdicts.{JudgedAt, Judgings, Settled, SettledAs, Verdict, Why, all_go, entry_at, entry_of, goes_as, refused_for, refused_only, verdicts}
use Rattle.machines.proofs.VerdictLaws.{verdicts-go}

module _ (ms : List MachineDef) (ns : List Name) (s defs receivers regcounts : List ℕ) where
  -- how many are refused
  pub refused-counted : (i : ℕ) (ds : List MachineDef) (vs : List Verdict) → Settled ms ns s defs receivers regcounts i ds vs → total_t (refused_t receivers) (length ds) i ≡ length (refused_only vs)
  unfolding Settled SettledAs total_t refused_t refused_only
  refused-counted i [] [] h = refl
  refused-counted i [] (v ∷ vs) h = absurd h
  refused-counted i (d ∷ ds) [] h = absurd h
  refused-counted i (d ∷ ds) (refused_for r ∷ vs) h = let l = refused-counted (suc i) ds vs h.1 in rw (eq-eqb (get_or receivers i 0) absent h.0.0) (omega arith)
  refused-counted i (d ∷ ds) (goes_as x ∷ vs) h = let l = refused-counted (suc i) ds vs h.1 in rw (ne_eqb (get_or receivers i 0) absent h.0.1) (omega arith)

  -- where all go, the tables stand for the shares
  go-lowered : (i : ℕ) (ds : List MachineDef) (xs : List Share) → Settled ms ns s defs receivers regcounts i ds (all_go xs) → Lowered ms ns s defs receivers regcounts i xs
  unfolding Settled SettledAs all_go Lowered
  go-lowered i [] [] h = tt
  go-lowered i [] (x ∷ xs) h = absurd h
  go-lowered i (d ∷ ds) [] h = absurd h
  go-lowered i (d ∷ ds) (x ∷ xs) h = (h.0.0, go-lowered (suc i) ds xs h.1)

  pub settled-lowered : (i : ℕ) (ds : List MachineDef) (names : List Name) → Settled ms ns s defs receivers regcounts i ds (verdicts ms ds names) → refused_only (verdicts ms ds names) ≡ [] → Lowered ms ns s defs receivers regcounts i (shares names (fates ms ds))
  settled-lowered i ds names h e = go-lowered i ds (shares names (fates ms ds)) (subst (Settled ms ns s defs receivers regcounts i ds) (verdicts-go ms ds names e) h)

  -- the report
  module _ (es : ℕ → List ℕ) where
    entry_here : (i : ℕ) (e rest : List ℕ) → get_or receivers i 0 ≡ absent → es i ≡ e → of_refused receivers es i ++ rest ≡ e ++ rest
    unfolding of_refused
    entry_here i e rest h g = rw (eq-eqb (get_or receivers i 0) absent h, g)

    entry-not : (i : ℕ) (rest : List ℕ) → (get_or receivers i 0 ≡ absent → ⊥) → of_refused receivers es i ++ rest ≡ rest
    unfolding of_refused
    entry-not i rest h = rw (ne_eqb (get_or receivers i 0) absent h)

    later : (i n : ℕ) (v : Verdict) (vs : List Verdict) → ((j : ℕ) → j < suc n → get_or receivers (i + j) 0 ≡ absent → es (i + j) ≡ entry_at (v ∷ vs) j)
        → (j : ℕ) → j < n → get_or receivers (suc i + j) 0 ≡ absent → es (suc i + j) ≡ entry_at vs j
    unfolding entry_at
    later i n v vs e j l g =
        let k : suc i + j ≡ i + suc j = omega arith in
        ap es k ∙ e (suc j) (omega arith) (ap (λ y. get_or receivers y 0) (sym k) ∙ g)

    entries_from : (i : ℕ) (ds : List MachineDef) (vs : List Verdict) → Settled ms ns s defs receivers regcounts i ds vs
        → ((j : ℕ) → j < length ds → get_or receivers (i + j) 0 ≡ absent → es (i + j) ≡ entry_at vs j)
        → bytes_t (of_refused receivers es) (length ds) i ≡ entries (refused_only vs)
    unfolding Settled SettledAs bytes_t refused_only entries entry_at entry_of
    entries_from i [] [] h e = refl
    entries_from i [] (v ∷ vs) h e = absurd h
    entries_from i (d ∷ ds) [] h e = absurd h
    entries_from i (d ∷ ds) (refused_for r ∷ vs) h e =
        let z : i + 0 ≡ i = omega arith in
        entry_here i (r.kind ∷ enc r.names) _ h.0.0 (ap es (sym z) ∙ e 0 (omega arith) (ap (λ y. get_or receivers y 0) z ∙ h.0.0))
        ∙ ap (λ l. r.kind ∷ (enc r.names ++ l)) (entries_from (suc i) ds vs h.1 (later i (length ds) (refused_for r) vs e))
    entries_from i (d ∷ ds) (goes_as x ∷ vs) h e =
        entry-not i _ h.0.1 ∙ entries_from (suc i) ds vs h.1 (later i (length ds) (goes_as x) vs e)

    -- THE LAW: the entries of refused machines are those of the refusals
    pub entries-settled : (ds : List MachineDef) (vs : List Verdict) → Settled ms ns s defs receivers regcounts 0 ds vs
        → ((i : ℕ) → i < length ds → get_or receivers i 0 ≡ absent → es i ≡ entry_at vs i)
        → bytes_t (of_refused receivers es) (length ds) 0 ≡ entries (refused_only vs)
    entries-settled ds vs h e =
        entries_from 0 ds vs h (λ j l g. let z : 0 + j ≡ j = omega arith in ap es z ∙ e j l (ap (λ y. get_or receivers y 0) (sym z) ∙ g))

  -- the machine of index i with its verdict, whose entry is e
  pub record SettledHere (i : ℕ) (e : List ℕ) : Type 0 where
    pub drawing : MachineDef
    pub verdict : Verdict
    pub judged : JudgedAt ms ns s defs regcounts i drawing
    pub settled : SettledAs ms ns s defs receivers regcounts i drawing verdict
    pub entry : e ≡ entry_of verdict

  here-from : (i : ℕ) (ds : List MachineDef) (vs : List Verdict) → Judgings ms ns s defs regcounts i ds → Settled ms ns s defs receivers regcounts i ds vs → (j : ℕ) → j < length ds → SettledHere (i + j) (entry_at vs j)
  unfolding Judgings Settled entry_at
  here-from i [] vs a h j l = absurd (omega arith)
  here-from i (d ∷ ds) [] a h j l = absurd h
  here-from i (d ∷ ds) (v ∷ vs) a h zero l =
      let z : i ≡ i + 0 = omega arith in
      subst (λ k. SettledHere k (entry_of v)) z (record { drawing = d; verdict = v; judged = a.0; settled = h.0; entry = refl })
  here-from i (d ∷ ds) (v ∷ vs) a h (suc j) l =
      let z : suc i + j ≡ i + suc j = omega arith in
      subst (λ k. SettledHere k (entry_at vs j)) z (here-from (suc i) ds vs a.1 h.1 j (omega arith))

  pub settled_at : (ds : List MachineDef) (vs : List Verdict) → Judgings ms ns s defs regcounts 0 ds → Settled ms ns s defs receivers regcounts 0 ds vs → (i : ℕ) → i < length ds → SettledHere i (entry_at vs i)
  settled_at ds vs a h i l = let z : 0 + i ≡ i = omega arith in subst (λ k. SettledHere k (entry_at vs i)) z (here-from 0 ds vs a h i l)

  -- a refused machine: its refusal, whose entry is e
  pub record RefusedHere (i : ℕ) (e : List ℕ) : Type 0 where
    pub drawing : MachineDef
    pub refusal : Refusal
    pub judged : JudgedAt ms ns s defs regcounts i drawing
    pub why : Why ms drawing (get_or regcounts i 0) refusal
    pub entry : e ≡ refusal.kind ∷ enc refusal.names

  pub refused-at : (i : ℕ) (e : List ℕ) → SettledHere i e → get_or receivers i 0 ≡ absent → RefusedHere i e
  unfolding SettledAs entry_of
  refused-at i e h g = go h.verdict h.settled h.entry
    where
      go : (v : Verdict) → SettledAs ms ns s defs receivers regcounts i h.drawing v → e ≡ entry_of v → RefusedHere i e
      go (refused_for r) a f = record { drawing = h.drawing; refusal = r; judged = h.judged; why = a.1; entry = f }
      go (goes_as x) a f = absurd (a.1 g)

  -- the entries that the code writes, where each refused machine has its entry
  pub enters-all : (offsets to : List ℕ) (ds : List MachineDef) (vs : List Verdict) → Judgings ms ns s defs regcounts 0 ds → Settled ms ns s defs receivers regcounts 0 ds vs
      → ((i : ℕ) (e : List ℕ) → i < length ds → RefusedHere i e → (t reg qualified : List ℕ) → Long t reg qualified → entry_t ns s offsets to defs regcounts i t reg qualified ≡ e)
      → EntersAll ns s offsets to defs regcounts receivers (length ds) (entry_at vs)
  unfolding Enters
  enters-all offsets to ds vs a h f i l g = f i (entry_at vs i) l (refused-at i (entry_at vs i) (settled_at ds vs a h i l) g)

-- Laws for the code of the call, step by step.
use Prim.Native.Nat.{ℕ, ◌+◌, ◌<◌, ◌≤◌}
use native.Mathlib.Omega.{arith}
use mathlib.Core.List.{List, ◌++◌}
use mathlib.Core.Path.{◌≡◌, sym, ap, subst, ◌∙◌}
use lib.ListN.{length, drop, length-append, length-drop, length-take}
use borrow.Author.Tests.{lt-ltb, le-ltb}
use Rattle.wire.specs.Bytes.{two}
use Rattle.wire.specs.Writer.{State, overwritten}
use Rattle.pack_rules.specs.Names.{Name}
use Rattle.pack_rules.specs.Write.{Item}
use Rattle.pack.specs.Intern.{render, table, unwritten}
use Rattle.pack_rules.specs.Outcome.{Answers, Gives, number_of, output_of, report_of, reported, value_of}
use Rattle.pack.specs.Finish.{answered}
use Rattle.pack.specs.Table.{tabled}
use Rattle.pack.specs.declared.record.Pack.{Pack}
use Rattle.pack.proofs.Finished.{carried}
use Rattle.wire.specs.declared.answer.Number.{Number}
use Rattle.machines.specs.CheckedReads.{number_in}
use Rattle.machines.specs.Tables.{machines_placed, names_placed}
use Rattle.machines.specs.Layout.{slice_of}
use Rattle.machines.specs.AddedAt.{small_of, total_t}
use Rattle.machines.specs.EmitMachineAt.{AllWrite}
use Rattle.machines.specs.OwnersAt.{HasRegions, fill_t, machine_end, node_name_t, nodes_of, nth, refused_t, settle_t}
use Rattle.machines.specs.ReportAt.{EntersAll, RoomForAll, bytes_t, of_refused}
use Rattle.machines.specs.CallTables.{Filled, Reports, machine_count, node_count}
use Rattle.machines.proofs.Overwriting.{over-start}

-- the machines that are counted
pub counted-machines : (s : List ℕ) (k : Pack) (m : Number) (n : ℕ) → m ≡ number_in s k.machines → n ≡ small_of m.value → n ≡ machine_count s k
unfolding machine_count
counted-machines s k m n e f = f ∙ ap (λ (y : Number). small_of y.value) e

-- the tables that were filled
module _ (ns : List Name) (s : List ℕ) (k : Pack) (c m : Number) (old n : ℕ) (ec : c ≡ number_in s k.nodes) (em : m ≡ number_in s k.machines) (eo : old ≡ small_of c.value) (en : n ≡ small_of m.value) where
  counted-nodes : old ≡ node_count s k
  unfolding node_count
  counted-nodes = eo ∙ ap (λ (y : Number). small_of y.value) ec

  pub filled : (offsets₀ to₀ nodes₀ defs₀ receivers₀ regcounts₀ offsets to nodes₁ nodes defs receivers regcounts : List ℕ) (r : ℕ) → offsets ≡ names_placed s k.names 2 0 offsets₀ → to ≡ machines_placed ns s k.machines to₀
      → nodes₁ ≡ fill_t (node_name_t ns s c.next) old 0 nodes₀ → defs ≡ fill_t (nth (machine_end ns s) m.next) n 0 defs₀
      → ((gs : ℕ → ℕ) → ((i : ℕ) → i < n → HasRegions ns s offsets to (nth (machine_end ns s) m.next i) (gs i)) → regcounts ≡ fill_t gs n 0 regcounts₀)
      → nodes_of receivers nodes r ≡ settle_t s defs regcounts n 0 (nodes_of receivers₀ nodes₁ old)
      → Filled ns s k offsets₀ to₀ nodes₀ defs₀ receivers₀ regcounts₀ offsets to nodes defs receivers regcounts
  filled offsets₀ to₀ nodes₀ defs₀ receivers₀ regcounts₀ offsets to nodes₁ nodes defs receivers regcounts r a b d f g h =
      let from : m.next ≡ (number_in s k.machines).next = ap (λ (y : Number). y.next) em in
      let from' : c.next ≡ (number_in s k.nodes).next = ap (λ (y : Number). y.next) ec in
      record {
        count = r;
        names = a;
        machines = b;
        drawn = f ∙ λ j. fill_t (nth (machine_end ns s) (from j)) (counted-machines s k m n em en j) 0 defs₀;
        regions = λ gs w. g gs (λ i l. subst (λ (y : ℕ). HasRegions ns s offsets to (nth (machine_end ns s) y i) (gs i)) (sym from) (w i (subst (λ (y : ℕ). i < y) (counted-machines s k m n em en) l))) ∙ ap (λ y. fill_t gs y 0 regcounts₀) (counted-machines s k m n em en);
        settled = h ∙ λ j. settle_t s defs regcounts (counted-machines s k m n em en j) 0 (nodes_of receivers₀ ((d ∙ λ i. fill_t (node_name_t ns s (from' i)) (counted-nodes i) 0 nodes₀) j) (counted-nodes j));
      }

  pub refused_all : (receivers : List ℕ) (r : ℕ) → r ≡ total_t (refused_t receivers) n 0 → r ≡ total_t (refused_t receivers) (machine_count s k) 0
  refused_all receivers r e = e ∙ ap (λ y. total_t (refused_t receivers) y 0) (counted-machines s k m n em en)

-- a report that is too long for its buffer, and one that fits
module _ (k b : ℕ) (xs : List ℕ) (e : b ≡ 2 + length xs) (output report : List ℕ) where
  report-size : length (two k ++ xs) ≡ b
  unfolding two
  report-size = length-append (two k) xs ∙ sym e

  pub report-long : length report < b → Answers (reported (length report) (two k ++ xs)) 7 b output output report report
  unfolding reported number_of value_of output_of report_of
  report-long h =
      let l : length report < length (two k ++ xs) = subst (λ y. length report < y) (sym report-size) h in
      record {
        gives = record { number_is = rw (lt-ltb (length report) (length (two k ++ xs)) l); value-is = rw (lt-ltb (length report) (length (two k ++ xs)) l) (sym report-size); output-is = rw (lt-ltb (length report) (length (two k ++ xs)) l) };
        report-is = rw (lt-ltb (length report) (length (two k ++ xs)) l);
      }

  pub report-put : (report' : List ℕ) → b ≤ length report → report' ≡ overwritten 0 (two k ++ xs) report → Answers (reported (length report) (two k ++ xs)) 6 b output output report report'
  unfolding reported number_of value_of output_of report_of
  report-put report' h g =
      let l : length (two k ++ xs) ≤ length report = subst (λ y. y ≤ length report) (sym report-size) h in
      record {
        gives = record { number_is = rw (le-ltb (length report) (length (two k ++ xs)) l); value-is = rw (le-ltb (length report) (length (two k ++ xs)) l) (sym report-size); output-is = rw (le-ltb (length report) (length (two k ++ xs)) l) };
        report-is = rw (le-ltb (length report) (length (two k ++ xs)) l) (g ∙ over-start (two k ++ xs) report);
      }

-- where the counted length fits, there is room
pub room_for : (s offsets to defs regcounts receivers : List ℕ) (names n b room : ℕ) → Reports s offsets to defs regcounts receivers names n
    → ((ns : List Name) → length ns ≡ names → (es : ℕ → List ℕ) → EntersAll ns s offsets to defs regcounts receivers n es → b ≡ 2 + length (bytes_t (of_refused receivers es) n 0)) → b ≤ room → RoomForAll s offsets to defs regcounts receivers names n room
room_for s offsets to defs regcounts receivers names n b room w f h =
    let g = f w.ns w.count w.es w.enters in
    record { ns = w.ns; count = w.count; es = w.es; enters = w.enters; fits = omega arith }

-- the old names as they were lent, and by where they stand
pub write_as : (old old' x : List ℕ) → old' ≡ x → old ≡ x → (f : ℕ → List ℕ → List ℕ → List ℕ → List Item) (defs : List ℕ) (n : ℕ) (g : ℕ → List Item) → AllWrite old f defs n g → AllWrite old' f defs n g
write_as old old' x a b f defs n g h = subst (λ (o : List ℕ). AllWrite o f defs n g) (b ∙ sym a) h

pub finished_as : (room : ℕ) (names names' old old' x : List ℕ) (is : List Item) (z e : State) (number value : ℕ) (d d' : List ℕ) → names' ≡ names → old' ≡ x → old ≡ x → z ≡ render old' is e → e ≡ unwritten
    → Gives (answered room names' z) number value d d' → Gives (answered room names (render old is unwritten)) number value d d'
finished_as room names names' old old' x is z e number value d d' n a b c f g =
    let o : old' ≡ old = a ∙ sym b in
    carried _ _ number value d d' (ap (answered room names') (c ∙ ap (render old' is) f) ∙ λ j. answered room (n j) (render (o j) is unwritten)) g

-- the table of the names that stand there
pub tabled-as : (t u names : List ℕ) → t ≡ tabled (table u) → u ≡ names → t ≡ tabled (table names)
tabled-as t u names e f = e ∙ ap (λ (l : List ℕ). tabled (table l)) f

pub names-short : (s names : List ℕ) (a n : ℕ) → length s ≤ 65536 → names ≡ slice_of s a n → length names ≤ 65536
unfolding slice_of
names-short s names a n h e = omega (arith, ap length e, length-take n (drop a s), length-drop a s)

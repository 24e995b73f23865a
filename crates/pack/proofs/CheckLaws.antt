-- Laws of the check: the sections one after the other, and what the verdict on them tells.
use Rattle.std.proofs.Common.{◌≡◌, ℕ, zero, suc, ◌+◌, ◌*◌, ◌<◌, ◌≤◌, Bool, true, false, cond, not, ltb, List, [], ◌∷◌, ◌++◌, length, replicate, sym, refl, ap, ◌∙◌, subst, ⊎_elim, arith, length-append, ltb-false, le-ltb, lt-ltb}
use lib.ListN.{length-replicate}
use Rattle.pack.specs.declared.finish.CallError.{CallError}
use Rattle.pack.specs.declared.finish.CallError.TheVariants as ce
use Rattle.pack.specs.Finish.{error_number, error_value, number_for, value_for}
use Rattle.pack.specs.declared.record.Pack.{Pack}
use Rattle.wire.specs.Answer.{Answer, bind, byte, counted, deep, early, guard, illegal, many, map_a, u16, value}
use Rattle.std.specs.Prelude.{Result, Ok, Err, ⊤}
use Rattle.wire.specs.declared.answer.Number.{Number}
use Rattle.wire.specs.declared.answer.Stop.{Stop}
use Rattle.wire.specs.declared.answer.Stop.TheVariants.{Early, Illegal, Deep}
use Rattle.wire.specs.Code.{Read, Skipped, next, onward, read_of, skip, skips}
use Rattle.wire.proofs.Codes.{bind-steps, last_step, read_found, steps, steps-err}
use Rattle.wire.proofs.Answers.{bind-value, map-value}
use Rattle.wire.proofs.Bounds.{offset_in}
use Rattle.pack.proofs.Bounds.{within-pack}
use Rattle.pack.proofs.RoundTrip.{body_in, read-value}
use Rattle.pack_rules.specs.Names.{Name, member}
use Rattle.pack_rules.specs.Syntax.{Package}
use Rattle.pack_rules.specs.Read.{Reading, activation_in, bytes_after, deep_at, ends_early, enum_in, illegal_at, machine_in, name, name_section, names_after, node_in, origin_in, pack_at, read, reading_of, too_long, whole}
use Rattle.pack_rules.specs.Outcome.{Outcome, answers, check, number_of, on_package, returned, value_of}
use Rattle.pack.specs.Verdict.{SectionsAt, count_of, empty_package, empty_record, judged_of, name_count, names_of, names_or, past_activations, past_enums, past_machines, past_names, past_nodes, past_origins, record_of, offset_of, sections_of, verdict_of}

-- how many names the name section has
names-length : (s : List ℕ) (t : List Name) (n at : ℕ) (ns : List Name) (q : ℕ) → names_after s t n at ≡ value ns q → length ns ≡ length t + n
unfolding names_after
names-length s t zero at ns q e = let g : t ≡ ns = cc in omega (arith, ap length g)
names-length s t (suc n) at ns q e =
    let b = bind-value (guard (λ x. not (member x t)) at (name s at)) _ ns q e in
    omega (arith, names-length s (t ++ (b.0 ∷ [])) n b.1 ns q b.3, length-append t (b.0 ∷ []))

section-length : (s : List ℕ) (ns : List Name) (q : ℕ) → name_section s 0 ≡ value ns q → (n : ℕ) × (p : ℕ) × (u16 s 0 ≡ value n p) × (length ns ≡ n)
unfolding name_section
section-length s ns q e = let b = bind-value (u16 s 0) _ ns q e in (b.0, b.1, b.2, omega (arith, names-length s [] b.0 b.1 ns q b.3))

pub count-ok : (s : List ℕ) (n : Number) → Ok n ≡ read_of (u16 s 0) → n.value ≡ name_count s
unfolding name_count count_of
count-ok s n e = sym (ap count_of (read_found (u16 s 0) n e))

pub count-err : (s : List ℕ) (e : Stop) → Err e ≡ read_of (u16 s 0) → 0 ≡ name_count s
unfolding name_count count_of read_of
count-err s e h = go (u16 s 0) h
  where
    go : (x : Answer ℕ) → Err e ≡ read_of x → 0 ≡ count_of x
    go (value n q) h = cc
    go early h = refl
    go (illegal o) h = refl
    go (deep o) h = refl

-- where the name section is read, it has as many names as it counts
pub count-is : (s : List ℕ) (ns : List Name) (q : ℕ) → name_section s 0 ≡ value ns q → length ns ≡ name_count s
unfolding name_count count_of
count-is s ns q e = let l = section-length s ns q e in l.3 ∙ sym (ap count_of l.2)

names-enough : (s : List ℕ) (x : Answer (List Name)) → name_section s 0 ≡ x → length (names_or (name_count s) x) ≡ name_count s
unfolding names_or
names-enough s (value ns q) e = count-is s ns q e
names-enough s early e = length-replicate (name_count s) []
names-enough s (illegal o) e = length-replicate (name_count s) []
names-enough s (deep o) e = length-replicate (name_count s) []

-- the table that the sections are read with has so many names
names-count : (s : List ℕ) → length (names_of s) ≡ name_count s
unfolding names_of
names-count s = names-enough s (name_section s 0) refl

-- the sections after the names
module _ (ns : List Name) (s : List ℕ) where
  abbrev section_parts : List (ℕ → Skipped)
  section_parts = skips (counted (enum_in ns s) s) ∷ skips (counted (node_in ns s) s) ∷ skips (counted (machine_in ns s) s) ∷ skips (counted (activation_in ns s) s) ∷ skips (counted (origin_in ns s) s) ∷ []

  section-parts : (p : ℕ) → skip (body_in ns s p) ≡ steps section_parts (Ok p)
  unfolding body_in
  section-parts p = bind-steps (counted (enum_in ns s) s) p _ _ (λ x0 p0. bind-steps (counted (node_in ns s) s) p0 _ _ (λ x1 p1. bind-steps (counted (machine_in ns s) s) p1 _ _ (λ x2 p2. bind-steps (counted (activation_in ns s) s) p2 _ _ (λ x3 p3. last_step (counted (origin_in ns s) s) p3 _))))

-- reading section by section is reading the pack
module _ (s : List ℕ) where
  chain : past_origins s ≡ steps (section_parts (names_of s) s) (past_names s)
  unfolding past_enums past_nodes past_machines past_activations past_origins onward steps
  chain = refl

  stuck : (r : Skipped) → past_names s ≡ r → ((fs : List (ℕ → Skipped)) → r ≡ steps fs r) → past_origins s ≡ r
  stuck r g h = chain ∙ ap (steps (section_parts (names_of s) s)) g ∙ sym (h (section_parts (names_of s) s))

  names-read : (ns : List Name) (q : ℕ) → name_section s 0 ≡ value ns q → names_of s ≡ ns
  unfolding names_of names_or
  names-read ns q e = ap (names_or (name_count s)) e

  names-past : (x : Answer (List Name)) → name_section s 0 ≡ x → past_names s ≡ skip x
  unfolding past_names
  names-past x e = ap skip e

  pass : (x : Answer (List Name)) → name_section s 0 ≡ x → past_origins s ≡ skip (bind x (λ ns p. body_in ns s p))
  unfolding skip bind
  pass (value ns q) g = chain ∙ ap (steps (section_parts (names_of s) s)) (names-past (value ns q) g) ∙ ap (λ (t : List Name). steps (section_parts t s) (Ok q)) (names-read ns q g) ∙ sym (section-parts ns s q)
  pass early g = stuck (Err Early) (names-past early g) (λ fs. steps-err fs Early)
  pass (illegal o) g = stuck (Err (Illegal o)) (names-past (illegal o) g) (λ fs. steps-err fs (Illegal o))
  pass (deep o) g = stuck (Err (Deep o)) (names-past (deep o) g) (λ fs. steps-err fs (Deep o))

  past-pack : past_origins s ≡ skip (pack_at s 0)
  unfolding pack_at body_in
  past-pack = pass (name_section s 0) refl

-- what the code has: the count of names, and where each section ended
pub record Went (s : List ℕ) (names : ℕ) (a b c d e f : Skipped) : Type 0 where
  pub few : names ≡ name_count s
  pub past-names : a ≡ skip (name_section s 0)
  pub past-enums : (ns : List Name) → length ns ≡ names → b ≡ onward (counted (enum_in ns s) s) a
  pub past-nodes : (ns : List Name) → length ns ≡ names → c ≡ onward (counted (node_in ns s) s) b
  pub past-machines : (ns : List Name) → length ns ≡ names → d ≡ onward (counted (machine_in ns s) s) c
  pub past-activations : (ns : List Name) → length ns ≡ names → e ≡ onward (counted (activation_in ns s) s) d
  pub past-origins : (ns : List Name) → length ns ≡ names → f ≡ onward (counted (origin_in ns s) s) e

module _ (s : List ℕ) (names : ℕ) (a b c d e f : Skipped) (w : Went s names a b c d e f) where
  enough : length (names_of s) ≡ names
  enough = names-count s ∙ sym w.few

  went-names : a ≡ past_names s
  unfolding past_names
  went-names = w.past-names

  went-enums : b ≡ past_enums s
  unfolding past_enums
  went-enums = w.past-enums (names_of s) enough ∙ ap (onward _) went-names

  went-nodes : c ≡ past_nodes s
  unfolding past_nodes
  went-nodes = w.past-nodes (names_of s) enough ∙ ap (onward _) went-enums

  went-machines : d ≡ past_machines s
  unfolding past_machines
  went-machines = w.past-machines (names_of s) enough ∙ ap (onward _) went-nodes

  went-activations : e ≡ past_activations s
  unfolding past_activations
  went-activations = w.past-activations (names_of s) enough ∙ ap (onward _) went-machines

  went-origins : f ≡ past_origins s
  unfolding past_origins
  went-origins = w.past-origins (names_of s) enough ∙ ap (onward _) went-activations

  pub went-skip : f ≡ skip (pack_at s 0)
  went-skip = went-origins ∙ past-pack s

  pub went-record : (k : Pack) → k.names ≡ names → k.enums ≡ offset_of a → k.nodes ≡ offset_of b → k.machines ≡ offset_of c → k.activations ≡ offset_of d → k.origins ≡ offset_of e → k.end ≡ offset_of f → k ≡ sections_of s
  unfolding sections_of
  went-record k hn ha hb hc hd he hf =
      let gn = hn ∙ w.few in
      let ga = ha ∙ ap offset_of went-names in
      let gb = hb ∙ ap offset_of went-enums in
      let gc = hc ∙ ap offset_of went-nodes in
      let gd = hd ∙ ap offset_of went-machines in
      let ge = he ∙ ap offset_of went-activations in
      let gf = hf ∙ ap offset_of went-origins in
      λ i. record { names = gn i; enums = ga i; nodes = gb i; machines = gc i; activations = gd i; origins = ge i; end = gf i }

-- where reading stands, by an offset
onward-to : {A : Type 0} (r : ℕ → Answer A) (from to : Skipped) (p q : ℕ) (x : A) → from ≡ Ok p → to ≡ onward r from → r p ≡ value x q → to ≡ Ok q
unfolding onward next skips skip
onward-to r from to p q x e g h = g ∙ ap (onward r) e ∙ ap skip h

placed : {A : Type 0} (r : ℕ → Answer A) (i j p q : ℕ) (x : A) → i ≡ p → j ≡ q → r p ≡ value x q → r i ≡ value x j
placed r i j p q x e g h = ap r e ∙ h ∙ ap (value x) (sym g)

at_offset : (r : Skipped) (q : ℕ) → r ≡ Ok q → offset_of r ≡ q
unfolding offset_of
at_offset r q g = ap offset_of g

-- the sections of a pack that is read stand where its record says
module _ (s : List ℕ) where
  -- a section's step with the names that were read
  stepped : {A : Type 0} (r : List Name → ℕ → Answer A) (ns : List Name) (from to : Skipped) (p q : ℕ) (x : A) → names_of s ≡ ns → from ≡ Ok p → to ≡ onward (r (names_of s)) from → r ns p ≡ value x q → to ≡ Ok q
  stepped r ns from to p q x n e g h = onward-to (r ns) from to p q x e (g ∙ ap (λ (t : List Name). onward (r t) from) n) h

  pub sections-stand : (p : Package) (q : ℕ) → pack_at s 0 ≡ value p q → SectionsAt s (sections_of s) p
  unfolding pack_at skip sections_of past_enums past_nodes past_machines past_activations past_origins
  sections-stand p q g =
      let b0 = bind-value (name_section s 0) _ p q g in
      let ns = b0.0 in
      let n = names-read s ns b0.1 b0.2 in
      let b1 = bind-value (counted (enum_in ns s) s b0.1) _ p q b0.3 in
      let b2 = bind-value (counted (node_in ns s) s b1.1) _ p q b1.3 in
      let b3 = bind-value (counted (machine_in ns s) s b2.1) _ p q b2.3 in
      let b4 = bind-value (counted (activation_in ns s) s b3.1) _ p q b3.3 in
      let b5 = map-value _ (counted (origin_in ns s) s b4.1) p q b4.3 in
      let ta : past_names s ≡ Ok b0.1 = names-past s _ b0.2 in
      let tb = stepped (λ t. counted (enum_in t s) s) ns (past_names s) (past_enums s) _ _ _ n ta refl b1.2 in
      let tc = stepped (λ t. counted (node_in t s) s) ns (past_enums s) (past_nodes s) _ _ _ n tb refl b2.2 in
      let td = stepped (λ t. counted (machine_in t s) s) ns (past_nodes s) (past_machines s) _ _ _ n tc refl b3.2 in
      let te = stepped (λ t. counted (activation_in t s) s) ns (past_machines s) (past_activations s) _ _ _ n td refl b4.2 in
      let tf = stepped (λ t. counted (origin_in t s) s) ns (past_activations s) (past_origins s) _ _ _ n te refl b5.1 in
      let ka = at_offset _ _ ta in
      let kb = at_offset _ _ tb in
      let kc = at_offset _ _ tc in
      let kd = at_offset _ _ td in
      let ke = at_offset _ _ te in
      let kf = at_offset _ _ tf in
      subst (λ (x : Package). SectionsAt s (sections_of s) x) b5.2
      (record {
        count = count-is s ns b0.1 b0.2;
        names = placed (name_section s) 0 _ 0 _ _ refl ka b0.2;
        enums = placed (counted (enum_in ns s) s) _ _ _ _ _ ka kb b1.2;
        nodes = placed (counted (node_in ns s) s) _ _ _ _ _ kb kc b2.2;
        machines = placed (counted (machine_in ns s) s) _ _ _ _ _ kc kd b3.2;
        activations = placed (counted (activation_in ns s) s) _ _ _ _ _ kd ke b4.2;
        origins = placed (counted (origin_in ns s) s) _ _ _ _ _ ke kf b5.1;
      })

-- the verdict on what reading all sections came to
judged-reading : (n : ℕ) (x : Answer Package) → judged_of (skip x) n ≡ verdict_of n (reading_of n x)
unfolding judged_of skip verdict_of reading_of
judged-reading n (value p q) = go (ltb q n)
  where
    go : (t : Bool) → cond t (Err (ce.BytesAfter q)) (Ok tt) ≡ verdict_of n (cond t (bytes_after q) (whole p))
    go true = refl
    go false = refl
judged-reading n early = refl
judged-reading n (illegal o) = refl
judged-reading n (deep o) = refl

pub open-long : (s : List ℕ) → 65536 < length s → Err ce.TooLong ≡ verdict_of (length s) (read s)
unfolding read verdict_of
open-long s h = rw (lt-ltb 65536 (length s) h)

pub record-long : (s : List ℕ) → 65536 < length s → empty_record ≡ record_of s
unfolding record_of
record-long s h = rw (lt-ltb 65536 (length s) h)

pub record-short : (s : List ℕ) → length s ≤ 65536 → sections_of s ≡ record_of s
unfolding record_of
record-short s h = rw (le-ltb 65536 (length s) h)

read_short : (s : List ℕ) → length s ≤ 65536 → read s ≡ reading_of (length s) (pack_at s 0)
unfolding read
read_short s h = rw (le-ltb 65536 (length s) h)

pub open-short : (s : List ℕ) (v : Result ⊤ CallError) → length s ≤ 65536 → v ≡ judged_of (skip (pack_at s 0)) (length s) → v ≡ verdict_of (length s) (read s)
open-short s v h e = e ∙ judged-reading (length s) (pack_at s 0) ∙ ap (verdict_of (length s)) (sym (read_short s h))

-- a whole pack's sections stand where its record says
pub record-stands : (s : List ℕ) (p : Package) → read s ≡ whole p → SectionsAt s (record_of s) p
record-stands s p e =
    let r = read-value s p e in
    subst (λ (k : Pack). SectionsAt s k p) (record-short s r.0) (sections-stand s p r.1 r.2)

empty-read : pack_at (replicate 12 0) 0 ≡ value empty_package 12
unfolding pack_at empty_package name_section names_after bind map_a byte u16 many counted
empty-read = refl

-- and so do those of the pack that holds nothing
pub empty_stands : SectionsAt (replicate 12 0) empty_record empty_package
unfolding empty_record
empty_stands = sections-stand (replicate 12 0) empty_package 12 empty-read

-- a pack that is not whole, whatever is done with a package
pub stopped-reading : (s : List ℕ) (e : CallError) (k : Package → Outcome) → Err e ≡ verdict_of (length s) (read s) → on_package s (read s) k ≡ answers (error_number e) (error_value e)
unfolding on_package verdict_of
stopped-reading s e k h = go (read s) h
  where
    go : (r : Reading) → Err e ≡ verdict_of (length s) r → on_package s r k ≡ answers (error_number e) (error_value e)
    go too_long h = let g : ce.TooLong ≡ e = cc in ap (λ (x : CallError). answers (error_number x) (error_value x)) g
    go ends_early h = let g : ce.EndsEarly (length s) ≡ e = cc in ap (λ (x : CallError). answers (error_number x) (error_value x)) g
    go (illegal_at o) h = let g : ce.Illegal o ≡ e = cc in ap (λ (x : CallError). answers (error_number x) (error_value x)) g
    go (deep_at o) h = let g : ce.TooDeep o ≡ e = cc in ap (λ (x : CallError). answers (error_number x) (error_value x)) g
    go (bytes_after o) h = let g : ce.BytesAfter o ≡ e = cc in ap (λ (x : CallError). answers (error_number x) (error_value x)) g
    go (whole p) h = cc

-- a whole one
pub whole-reading : (s : List ℕ) → Ok tt ≡ verdict_of (length s) (read s) → (p : Package) × (read s ≡ whole p)
unfolding verdict_of
whole-reading s h = go (read s) refl h
  where
    go : (r : Reading) → read s ≡ r → Ok tt ≡ verdict_of (length s) r → (p : Package) × (read s ≡ whole p)
    go (whole p) g h = (p, g)
    go too_long g h = cc
    go ends_early g h = cc
    go (illegal_at o) g h = cc
    go (deep_at o) g h = cc
    go (bytes_after o) g h = cc

-- the number and the value of the check
abbrev pub Checked : List ℕ → Result ℕ CallError → Type 0
Checked s r = (number_for r ≡ number_of (check s)) × (value_for r ≡ value_of (check s))

pub check-err : (s : List ℕ) (e : CallError) → Err e ≡ verdict_of (length s) (read s) → Checked s (Err e)
unfolding check number_of value_of
check-err s e h = let t = stopped-reading s e (λ p. answers 0 (length s)) h in (sym (ap number_of t), sym (ap value_of t))

pub check-ok : (s : List ℕ) → Ok tt ≡ verdict_of (length s) (read s) → Checked s (Ok (length s))
unfolding check on_package number_of value_of
check-ok s h = let w = whole-reading s h in rw w.1 (refl, refl)

-- a verdict as the check answers it, for n bytes
unfoldable pub answer_of : ℕ → Result ⊤ CallError → Result ℕ CallError
answer_of n (Ok u) = Ok n
answer_of n (Err e) = Err e

pub check-is : (s : List ℕ) (v : Result ⊤ CallError) → v ≡ verdict_of (length s) (read s) → Checked s (answer_of (length s) v)
unfolding answer_of
check-is s (Ok u) e = check-ok s e
check-is s (Err x) e = check-err s x e

-- the number and the value, in one word
pub word-check : (s : List ℕ) (v : Result ⊤ CallError) (number value : ℕ) → v ≡ verdict_of (length s) (read s) → number ≡ number_for (answer_of (length s) v) → value ≡ value_for (answer_of (length s) v) → number * 4294967296 + value ≡ returned (check s)
unfolding returned
word-check s v n w e f g =
    let h = check-is s v e in
    λ i. (f ∙ h.0) i * 4294967296 + (g ∙ h.1) i

-- both are small
reading_small : (n : ℕ) (x : Answer Package) (e : CallError) → n ≤ 65536 → offset_in x ≤ n → Err e ≡ verdict_of n (reading_of n x) → error_value e ≤ 65536
unfolding reading_of verdict_of offset_in
reading_small n (value p q) e h l i = go (ltb q n) i
  where
    go : (t : Bool) → Err e ≡ verdict_of n (cond t (bytes_after q) (whole p)) → error_value e ≤ 65536
    go true i = let g : ce.BytesAfter q ≡ e = cc in subst (λ (x : CallError). error_value x ≤ 65536) g (omega arith)
    go false i = cc
reading_small n early e h l i = let g : ce.EndsEarly n ≡ e = cc in subst (λ (x : CallError). error_value x ≤ 65536) g h
reading_small n (illegal o) e h l i = let g : ce.Illegal o ≡ e = cc in subst (λ (x : CallError). error_value x ≤ 65536) g (omega arith)
reading_small n (deep o) e h l i = let g : ce.TooDeep o ≡ e = cc in subst (λ (x : CallError). error_value x ≤ 65536) g (omega arith)

pub value-small : (s : List ℕ) (e : CallError) → Err e ≡ verdict_of (length s) (read s) → error_value e ≤ 65536
unfolding read verdict_of
value-small s e h = go (ltb 65536 (length s)) refl h
  where
    go : (t : Bool) → ltb 65536 (length s) ≡ t → Err e ≡ verdict_of (length s) (cond t too_long (reading_of (length s) (pack_at s 0))) → error_value e ≤ 65536
    go true g i = let z : ce.TooLong ≡ e = cc in subst (λ (x : CallError). error_value x ≤ 65536) z (omega arith)
    go false g i = reading_small (length s) (pack_at s 0) e (ltb-false 65536 (length s) g) (within-pack s 0 (omega arith)) i

pub whole-small : (s : List ℕ) → Ok tt ≡ verdict_of (length s) (read s) → length s ≤ 65536
whole-small s h = let w = whole-reading s h in (read-value s w.0 w.1).0

pub number_small : (e : CallError) → error_number e ≤ 9
number_small ce.TooLong = omega arith
number_small (ce.EndsEarly n) = omega arith
number_small (ce.Illegal o) = omega arith
number_small (ce.TooDeep o) = omega arith
number_small (ce.BytesAfter o) = omega arith
number_small (ce.Refused n) = omega arith
number_small (ce.ReportRoom n) = omega arith
number_small ce.TooLarge = omega arith
number_small (ce.OutputRoom n) = omega arith

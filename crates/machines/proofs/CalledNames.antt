-- The names that the code knows of a refusal, and its entry in the report.
use Prim.Native.Nat.{ℕ, ◌+◌, ◌<◌, ◌≤◌}
use native.Mathlib.Omega.{arith}
use mathlib.Core.List.{List, [], ◌∷◌, ◌++◌, append_assoc}
use mathlib.Core.Bool.{cond}
use mathlib.Core.Path.{◌≡◌, refl, sym, ap, subst, ◌∙◌}
use lib.ListN.{length, get_or, take, drop, take-append-drop}
use lib.Seq.{drop-append-add, get_or-append_seam, take-append_seam}
use borrow.Author.Tests.{lt-leb, ne_eqb}
use Rattle.wire.specs.Lists.{All}
use Rattle.pack_rules.specs.Names.{Name}
use Rattle.pack_rules.specs.Forms.{name_at}
use Rattle.pack_rules.specs.Report.{Refusal, entries}
use Rattle.pack_rules.specs.Write.{enc}
use Rattle.pack.proofs.Tables.{enc-append}
use Rattle.machines.specs.declared.verdicts.NameRef.{NameRef}
use Rattle.machines.specs.Layout.{prefix_of, slice_of}
use Rattle.machines.specs.EmitAt.{letters_at, pack_name}
use Rattle.machines.specs.ReportEntries.{called_of, names_of}
use Rattle.machines.specs.VerdictAt.{again_called, called_at, named, no_name, refused_by, state_called}
use Rattle.machines.specs.VerdictMeaning.{RefusedAs}
use Rattle.machines.proofs.NamesPlaced.{SpotAt, right-name}
use Rattle.machines.proofs.DuplicateLaws.{Again}
use Rattle.machines.proofs.Validated.{called_in}
use Rattle.machines.proofs.EntryLaws.{entry-is}
use Rattle.machines.proofs.RefusalNames.{Short}

module _ (s offsets qualified : List ℕ) where
  -- a name by its three cases: none, letters of the layout, a name of the pack after a prefix
  pub called-no : called_of s offsets qualified no_name ≡ []
  unfolding called_of
  called-no = refl

  called-letters : (a n : ℕ) → 0 < length (slice_of qualified a n) → called_of s offsets qualified (record { letter = a; letters = n; name = 65535 }) ≡ slice_of qualified a n ∷ []
  unfolding called_of slice_of
  called-letters a n h = rw (ne_eqb n 0 (λ e. none e)) refl
    where
      none : n ≡ 0 → ⊥
      none e = let l = subst (λ k. 0 < length (take k (drop a qualified))) e h in omega arith

  called-after : (a n x : ℕ) → (x ≡ 65535 → ⊥) → called_of s offsets qualified (record { letter = a; letters = n; name = x }) ≡ (prefix_of (slice_of qualified a n) ++ pack_name s offsets x) ∷ []
  unfolding called_of
  called-after a n x h = rw (ne_eqb x 65535 h) refl

  -- the name of a state
  pub called-state : (t : List ℕ) (p : ℕ) → 0 < length (letters_at t qualified p) → called_of s offsets qualified (state_called t p) ≡ letters_at t qualified p ∷ []
  unfolding letters_at
  called-state t p h = called-letters (get_or t (p + 2) 0) (get_or t (p + 3) 0) h

  -- the name whose length byte stands at d
  again-here : (d : ℕ) (xs ys : List ℕ) (n : Name) → qualified ≡ xs ++ (length n ∷ (n ++ ys)) → d ≡ length xs → d < 4294967296 → 0 < length n → called_of s offsets qualified (again_called qualified d) ≡ n ∷ []
  unfolding again_called slice_of
  again-here d xs ys n e f h l =
      let w : List ℕ = length n ∷ (n ++ ys) in
      let a : get_or qualified d 0 ≡ length n = (λ i. get_or (e i) (f i) 0) ∙ get_or-append_seam xs (length n) (n ++ ys) 0 in
      let b : slice_of qualified (d + 1) (length n) ≡ n = (λ i. take (length n) (drop (f i + 1) (e i))) ∙ ap (take (length n)) (drop-append-add xs w 1) ∙ take-append_seam n ys in
      ap (λ c. called_of s offsets qualified (cond c no_name (record { letter = d + 1; letters = get_or qualified d 0; name = 65535 }))) (lt-leb 4294967296 d h)
      ∙ ap (λ k. called_of s offsets qualified (record { letter = d + 1; letters = k; name = 65535 })) a
      ∙ called-letters (d + 1) (length n) (subst (λ (y : Name). 0 < length y) (sym b) l)
      ∙ ap (λ (y : Name). y ∷ []) b

  -- a name that stands again, in a table of names
  pub called-again : (all : List Name) (k d : ℕ) (n : Name) → take k qualified ≡ enc all → d < 4294967296 → Again all d n → 0 < length n → called_of s offsets qualified (again_called qualified d) ≡ n ∷ []
  unfolding enc
  called-again all k d n e h a l =
      let i : enc all ≡ enc a.before ++ (length n ∷ (n ++ enc a.after)) = ap enc a.names ∙ enc-append a.before (n ∷ a.after) in
      let j : qualified ≡ enc a.before ++ (length n ∷ (n ++ (enc a.after ++ drop k qualified))) =
      sym (take-append-drop k qualified) ∙ ap (λ (y : List ℕ). y ++ drop k qualified) (e ∙ i)
      ∙ append_assoc (enc a.before) (length n ∷ (n ++ enc a.after)) (drop k qualified)
      ∙ ap (λ (y : List ℕ). enc a.before ++ (length n ∷ y)) (append_assoc n (enc a.after) (drop k qualified)) in
      again-here d (enc a.before) (enc a.after ++ drop k qualified) n j a.offset h l

-- where the table of names is right
module _ (s : List ℕ) (ns : List Name) (offsets qualified : List ℕ) (spot : (i : ℕ) → i < length ns → SpotAt s (get_or offsets i 0) (name_at ns i)) (few : length ns ≤ 65535) where
  pub called-name : (i : ℕ) → i < length ns → called_of s offsets qualified (named i) ≡ name_at ns i ∷ []
  unfolding prefix_of slice_of
  called-name i h = called-after s offsets qualified 0 0 i (λ e. omega arith) ∙ ap (λ n. n ∷ []) (right-name s offsets i (name_at ns i) (spot i h))

  pub called-inside : (t : List ℕ) (q x : ℕ) → x < length ns → called_of s offsets qualified (called_at t q x) ≡ called_in ns t qualified q x ∷ []
  unfolding called_in letters_at
  called-inside t q x h =
      called-after s offsets qualified (get_or t (q + 2) 0) (get_or t (q + 3) 0) x (λ e. omega arith)
      ∙ ap (λ n. (prefix_of (slice_of qualified (get_or t (q + 2) 0) (get_or t (q + 3) 0)) ++ n) ∷ []) (right-name s offsets x (name_at ns x) (spot x h))

  -- THE LAW: a refusal with these names is the report's entry
  pub refused_as : (m k : ℕ) (a b : NameRef) (own : Name) (xs ys : List Name) (r : Refusal) → m < length ns → name_at ns m ≡ own → 0 < k → k < 256
      → called_of s offsets qualified a ≡ xs → called_of s offsets qualified b ≡ ys → r ≡ record { kind = k; names = own ∷ (xs ++ ys) } → All Short r.names
      → RefusedAs s offsets qualified m r (refused_by k a b)
  unfolding names_of
  refused_as m k a b own xs ys r h e lo hi f g c l =
      let n : names_of s offsets qualified m (refused_by k a b) ≡ own ∷ (xs ++ ys) = λ i. (right-name s offsets m (name_at ns m) (spot m h) ∙ e) i ∷ (f i ++ g i) in
      let o : names_of s offsets qualified m (refused_by k a b) ≡ r.names = n ∙ sym (ap (λ (y : Refusal). y.names) c) in
      record {
        kind = sym (ap (λ (y : Refusal). y.kind) c);
        some = lo;
        entry = entry-is s offsets qualified m (refused_by k a b) hi (subst (All Short) (sym o) l)
            ∙ ap (λ (y : Refusal). entries (y ∷ [])) (ap (λ (y : List Name). record { kind = k; names = y }) n ∙ sym c);
      }

-- The first name that stood before: the steps of the search, and what it finds in a table of names.
use Prim.Native.Nat.{ℕ, zero, suc, ◌+◌, ◌-◌, ◌≤◌, ◌<◌, min}
use native.Mathlib.Omega.{arith}
use mathlib.Core.List.{List, [], ◌∷◌, ◌++◌, append_assoc}
use mathlib.Core.Option.{Option, none, some}
use Rattle.std.specs.Prelude.{Option as Maybe, Some, None}
use mathlib.Core.Bool.{Bool, true, false, cond, ◌||◌}
use mathlib.Core.Logic.{◌⊎◌, inl, inr, ⊎_elim}
use mathlib.Core.Path.{◌≡◌, refl, sym, ap, subst, ◌∙◌}
use lib.ListN.{length, get_or, take, drop, length-append}
use lib.Seq.{drop-append-add, get_or-append_seam, take_all, take-append_seam, take-length}
use lib.Dec.{ltb}
use borrow.Author.Tests.{le-ltb, lt-ltb, ltb-true}
use Rattle.wire.proofs.Writers.{lt-or-le}
use Rattle.pack_rules.specs.Names.{Name, eq_name, member}
use Rattle.pack_rules.specs.Write.{At, Found, Missing, enc, lookup}
use Rattle.pack.specs.Intern.{found_of, table}
use Rattle.std.specs.Prelude.{Result, Ok, Err}
use Rattle.std.specs.Result.{is_ok}
use Rattle.machines.specs.Duplicates.{duplicate_at, duplicate_in, end_at, first_again, word_at}
use Rattle.machine_rules.specs.Checks.{repeated}
use Rattle.pack.proofs.TableIndex.{enc-more, table-enc}
use Rattle.machines.proofs.Refused.{eq_name-turn}

-- a name that is found is a member
unfoldable found : Found → Bool
found (At k) = true
found (Missing k) = false

found-member : (ns : List Name) (n : Name) (k : ℕ) → found (lookup ns n k) ≡ member n ns
unfolding found lookup member
found-member [] n k = refl
found-member (m ∷ ms) n k = go (eq_name m n) refl (found-member ms n (k + 1))
  where
    go : (b : Bool) → eq_name m n ≡ b → found (lookup ms n (k + 1)) ≡ member n ms → found (elim b [ true ↦ At k | false ↦ lookup ms n (k + 1) ]) ≡ (eq_name n m || member n ms)
    go true e h = sym (ap (λ b. b || member n ms) (eq_name-turn n m ∙ e))
    go false e h = h ∙ sym (ap (λ b. b || member n ms) (eq_name-turn n m ∙ e))

pub found-is : (t n : List ℕ) (f : Result ℕ ℕ) → found_of f ≡ lookup (table t) n 0 → is_ok f ≡ member n (table t)
unfolding found_of found
found-is t n f e = held f ∙ ap found e ∙ found-member (table t) n 0
  where
    held : (f : Result ℕ ℕ) → is_ok f ≡ found (found_of f)
    held (Ok k) = refl
    held (Err k) = refl

-- steps enough are steps enough
again-past : (f : ℕ) (t : List ℕ) (at : ℕ) → length t ≤ at → first_again f t at ≡ None
unfolding first_again
again-past zero t at h = refl
again-past (suc f) t at h = rw (le-ltb at (length t) h)

end_after : (t : List ℕ) (at : ℕ) → at < length t → at < end_at t at
unfolding end_at
end_after t at h = omega arith

again-enough : (f g : ℕ) (t : List ℕ) (at : ℕ) → length t ≤ at + f → length t ≤ at + g → first_again f t at ≡ first_again g t at
unfolding first_again
again-enough zero g t at h k = sym (again-past g t at (omega arith))
again-enough (suc f) zero t at h k = again-past (suc f) t at (omega arith)
again-enough (suc f) (suc g) t at h k = go (ltb at (length t)) refl (λ l. again-enough f g t (end_at t at) (let m = end_after t at l in omega arith) (let m = end_after t at l in omega arith))
  where
    go : (b : Bool) → ltb at (length t) ≡ b → (at < length t → first_again f t (end_at t at) ≡ first_again g t (end_at t at))
        → cond b (cond (member (word_at t at) (table (take at t))) (Some at) (first_again f t (end_at t at))) None ≡ cond b (cond (member (word_at t at) (table (take at t))) (Some at) (first_again g t (end_at t at))) None
    go true e ih = ap (λ y. cond (member (word_at t at) (table (take at t))) (Some at) y) (ih (ltb-true at (length t) e))
    go false e ih = refl

-- the search: a name more, one that stood before, the end
pub again-start : (t : List ℕ) → first_again (length t - 0) t 0 ≡ duplicate_at t
unfolding duplicate_at
again-start t = ap (λ f. first_again f t 0) (omega arith)

again-step : (t : List ℕ) (at : ℕ) → at < length t → first_again (length t - at) t at ≡ cond (member (word_at t at) (table (take at t))) (Some at) (first_again (length t - end_at t at) t (end_at t at))
unfolding first_again
again-step t at h =
    let f : length t - at ≡ suc (length t - at - 1) = omega arith in
    ap (λ y. first_again y t at) f
    ∙ ap (λ b. cond b (cond (member (word_at t at) (table (take at t))) (Some at) (first_again (length t - at - 1) t (end_at t at))) None) (lt-ltb at (length t) h)
    ∙ ap (λ y. cond (member (word_at t at) (table (take at t))) (Some at) y) (again-enough (length t - at - 1) (length t - end_at t at) t (end_at t at) (let m = end_after t at h in omega arith) (omega arith))

module _ (t : List ℕ) (at e : ℕ) (b : ℕ) (z : Maybe ℕ) (r : Bool) (h : at < length t) (p : e ≡ min (at + 1 + get_or t at 0) (length t)) (q : r ≡ member (take (e - (at + 1)) (drop (at + 1) t)) (table (take at t))) where
  same : r ≡ member (word_at t at) (table (take at t))
  unfolding word_at end_at
  same = q ∙ ap (λ y. member (take (y - (at + 1)) (drop (at + 1) t)) (table (take at t))) p

  pub again-here : r ≡ true → first_again (length t - at) t at ≡ z → Some at ≡ z
  again-here g d = sym (ap (λ y. cond y (Some at) (first_again (length t - end_at t at) t (end_at t at))) (sym same ∙ g)) ∙ sym (again-step t at h) ∙ d

  pub again-past-it : r ≡ false → first_again (length t - at) t at ≡ z → first_again (length t - e) t e ≡ z
  unfolding end_at
  again-past-it g d = ap (λ y. first_again (length t - y) t y) p ∙ sym (ap (λ y. cond y (Some at) (first_again (length t - end_at t at) t (end_at t at))) (sym same ∙ g)) ∙ sym (again-step t at h) ∙ d

pub again-end : (t : List ℕ) (at : ℕ) (z : Maybe ℕ) → length t ≤ at → first_again (length t - at) t at ≡ z → None ≡ z
again-end t at z h d = sym (again-past (length t - at) t at h) ∙ d

-- the first n bytes, or all where there are fewer
pub again_cut : (l : List ℕ) (n e : ℕ) (r : Maybe ℕ) → e ≡ min n (length l) → r ≡ duplicate_at (take e l) → r ≡ duplicate_at (take n l)
again_cut l n e r p q = q ∙ ap duplicate_at (⊎_elim (λ (h : length l < n). over h) (λ (h : n ≤ length l). let g : e ≡ n = omega arith in ap (λ y. take y l) g) (lt-or-le (length l) n))
  where
    over : length l < n → take e l ≡ take n l
    over h = let g : e ≡ length l = omega arith in ap (λ y. take y l) g ∙ take-length l ∙ sym (take_all n l (omega arith))

-- one name more in a table
enc-move : (pre : List Name) (m : Name) (ms : List Name) → enc pre ++ enc (m ∷ ms) ≡ enc (pre ++ (m ∷ [])) ++ enc ms
unfolding enc
enc-move pre m ms = sym (ap (λ (l : List ℕ). l ++ enc ms) (enc-more pre m) ∙ append_assoc (enc pre) (length m ∷ m) (enc ms))

-- in a table of names, after those that were looked at
end-here : (xs m ys : List ℕ) → end_at (xs ++ (length m ∷ (m ++ ys))) (length xs) ≡ length xs + 1 + length m
unfolding end_at
end-here xs m ys = rw (get_or-append_seam xs (length m) (m ++ ys) 0) (omega (arith, length-append xs (length m ∷ (m ++ ys)), length-append m ys))

word-here : (xs m ys : List ℕ) → word_at (xs ++ (length m ∷ (m ++ ys))) (length xs) ≡ m
unfolding word_at
word-here xs m ys =
    let t : List ℕ = xs ++ (length m ∷ (m ++ ys)) in
    let n : end_at t (length xs) - (length xs + 1) ≡ length m = let e = end-here xs m ys in omega arith in
    ap (λ k. take k (drop (length xs + 1) t)) n ∙ ap (take (length m)) (drop-append-add xs (length m ∷ (m ++ ys)) 1) ∙ take-append_seam m ys

again-in : (pre rest : List Name) (t : List ℕ) → t ≡ enc pre ++ enc rest → first_again (length t - length (enc pre)) t (length (enc pre)) ≡ duplicate_in pre rest (length (enc pre))
unfolding duplicate_in enc
again-in pre [] t e = again-past _ t _ (omega (arith, ap length e, length-append {A = ℕ} (enc pre) []))
again-in pre (m ∷ ms) t e =
    let at : ℕ = length (enc pre) in
    let more : List Name = pre ++ (m ∷ []) in
    let l : at < length t = omega (arith, ap length e, length-append (enc pre) (length m ∷ (m ++ enc ms))) in
    let w : word_at t at ≡ m = ap (λ y. word_at y at) e ∙ word-here (enc pre) m (enc ms) in
    let s : table (take at t) ≡ pre = ap table (ap (take at) e ∙ take-append_seam (enc pre) _) ∙ table-enc pre in
    let n : at + 1 + length m ≡ length (enc more) = omega (arith, ap length (enc-more pre m), length-append (enc pre) (length m ∷ m)) in
    let z : end_at t at ≡ at + 1 + length m = ap (λ y. end_at y at) e ∙ end-here (enc pre) m (enc ms) in
    again-step t at l
    ∙ (λ j. cond (member (w j) (s j)) (Some at) (first_again (length t - (z ∙ n) j) t ((z ∙ n) j)))
    ∙ ap (λ y. cond (member m pre) (Some at) y) (again-in more ms t (e ∙ enc-move pre m ms) ∙ ap (duplicate_in more ms) (sym n))

-- the table of names: where the first stands that stood before
pub again-names : (ns : List Name) → duplicate_at (enc ns) ≡ duplicate_in [] ns 0
unfolding duplicate_at enc
again-names ns = (let h : length (enc ns) ≡ length (enc ns) - 0 = omega arith in ap (λ f. first_again f (enc ns) 0) h) ∙ again-in [] ns (enc ns) refl

-- what `repeated` says of it: the order of those seen does not matter
module _ where
  member-snoc : (x n : Name) (seen : List Name) → member x (seen ++ (n ∷ [])) ≡ member x (n ∷ seen)
  unfolding member
  member-snoc x n [] = refl
  member-snoc x n (y ∷ ys) = ap (λ b. eq_name x y || b) (member-snoc x n ys) ∙ go (eq_name x y) (eq_name x n) (member x ys)
    where
      go : (a b c : Bool) → (a || (b || c)) ≡ (b || (a || c))
      go true true c = refl
      go true false c = refl
      go false b c = refl

-- a name by its offset in a table
pub record Again (ns : List Name) (at : ℕ) (n : Name) : Type 0 where
  pub before : List Name
  pub after : List Name
  pub names : ns ≡ before ++ (n ∷ after)
  pub offset : at ≡ length (enc before)

-- none of the rest stands again, or the first that does is where the search stops
abbrev pub Said : List Name → Option Name → Maybe ℕ → Type 0
Said all r at = ((r ≡ none) × (at ≡ None)) ⊎ ((n : Name) × (d : ℕ) × (r ≡ some n) × (at ≡ Some d) × Again all d n)

again-said : (pre seen rest : List Name) (at : ℕ) → ((x : Name) → member x pre ≡ member x seen) → at ≡ length (enc pre) → Said (pre ++ rest) (repeated seen rest) (duplicate_in pre rest at)
unfolding repeated duplicate_in member
again-said pre seen [] at same e = inl (refl, refl)
again-said pre seen (n ∷ ns) at same e = subst (λ b. Said (pre ++ (n ∷ ns)) (elim (member n seen) [ true ↦ some n | false ↦ repeated (n ∷ seen) ns ]) (cond b (Some at) (duplicate_in (pre ++ (n ∷ [])) ns (at + 1 + length n)))) (sym (same n)) (go (member n seen) refl
    (again-said (pre ++ (n ∷ [])) (n ∷ seen) ns (at + 1 + length n) (λ x. member-snoc x n pre ∙ ap (λ b. eq_name x n || b) (same x)) (omega (arith, ap length (enc-more pre n), length-append (enc pre) (length n ∷ n)))))
  where
    go : (b : Bool) → member n seen ≡ b → Said ((pre ++ (n ∷ [])) ++ ns) (repeated (n ∷ seen) ns) (duplicate_in (pre ++ (n ∷ [])) ns (at + 1 + length n))
        → Said (pre ++ (n ∷ ns)) (elim b [ true ↦ some n | false ↦ repeated (n ∷ seen) ns ]) (cond b (Some at) (duplicate_in (pre ++ (n ∷ [])) ns (at + 1 + length n)))
    go true f ih = inr (n, at, refl, refl, record { before = pre; after = ns; names = refl; offset = e })
    go false f ih = subst (λ (l : List Name). Said l (repeated (n ∷ seen) ns) (duplicate_in (pre ++ (n ∷ [])) ns (at + 1 + length n))) (append_assoc pre (n ∷ []) ns) ih

-- of a table of names: none stands twice and the answer is its length, or the answer is where the first of those stands
pub repeated-said : (ns : List Name) → Said ns (repeated [] ns) (duplicate_at (enc ns))
unfolding enc
repeated-said ns = subst (Said ns (repeated [] ns)) (sym (again-names ns)) (again-said [] [] ns 0 (λ x. refl) refl)

-- Reading the first part of some bytes: it ends early, or it finds what reading all of them finds.
use Rattle.std.proofs.Common.{◌≡◌, ℕ, zero, suc, ◌+◌, ◌<◌, ◌≤◌, Bool, not, ltb, ◌⊎◌, List, [], ◌∷◌, ◌++◌, length, take, refl, ap, ◌∙◌, inl, inr, ⊎_elim, arith, length-take, get_or-take, le-ltb, lt-ltb}
use Rattle.wire.specs.Answer.{Answer, bind, byte, deep, early, guard, illegal, many, value}
use Rattle.std.specs.Prelude.{Err}
use Rattle.wire.specs.declared.answer.Stop.TheVariants.{Early}
use Rattle.wire.specs.Code.{Skipped, skip}
use Rattle.wire.proofs.Writers.{lt-or-le}
use Rattle.pack_rules.specs.Names.{Name, member}
use Rattle.pack_rules.specs.Read.{char, name, name_byte, names_after, size}

abbrev Ahead : {A : Type 0} → Answer A → Answer A → Type 0
Ahead a b = (a ≡ early) ⊎ (a ≡ b)

ahead-guard : {A : Type 0} (t : A → Bool) (at : ℕ) (a b : Answer A) → Ahead a b → Ahead (guard t at a) (guard t at b)
unfolding guard
ahead-guard t at a b (inl e) = inl (ap (guard t at) e)
ahead-guard t at a b (inr e) = inr (ap (guard t at) e)

ahead-bind : {A B : Type 0} (a b : Answer A) (k l : A → ℕ → Answer B) → Ahead a b → ((x : A) (p : ℕ) → Ahead (k x p) (l x p)) → Ahead (bind a k) (bind b l)
unfolding bind
ahead-bind a b k l (inl e) h = inl (ap (λ x. bind x k) e)
ahead-bind a b k l (inr e) h = go a h e
  where
    go : (a : Answer _) → ((x : _) (p : ℕ) → Ahead (k x p) (l x p)) → a ≡ b → Ahead (bind a k) (bind b l)
    go (value x p) h e = ⊎_elim (λ g. inl g) (λ g. inr (g ∙ ap (λ y. bind y l) e)) (h x p)
    go early h e = inl refl
    go (illegal o) h e = inr (ap (λ y. bind y l) e)
    go (deep o) h e = inr (ap (λ y. bind y l) e)

module _ (s : List ℕ) (m : ℕ) where
  ahead-byte : (at : ℕ) → Ahead (byte (take m s) at) (byte s at)
  unfolding byte
  ahead-byte at = ⊎_elim
      (λ (h : at < length (take m s)).
      inr (rw (lt-ltb at (length (take m s)) h, lt-ltb at (length s) (omega (arith, length-take m s))) (ap (λ v. value v (at + 1)) (get_or-take m s at 0 (omega (arith, length-take m s))))))
      (λ (h : length (take m s) ≤ at). inl (rw (le-ltb at (length (take m s)) h)))
      (lt-or-le at (length (take m s)))

  ahead-char : (at : ℕ) → Ahead (char (take m s) at) (char s at)
  unfolding char
  ahead-char at = ahead-guard name_byte at _ _ (ahead-byte at)

  ahead-chars : (n at : ℕ) → Ahead (many (char (take m s)) n at) (many (char s) n at)
  unfolding many
  ahead-chars zero at = inr refl
  ahead-chars (suc n) at = ahead-bind _ _ _ _ (ahead-char at) (λ x p. ahead-bind _ _ _ _ (ahead-chars n p) (λ xs q. inr refl))

  ahead-name : (at : ℕ) → Ahead (name (take m s) at) (name s at)
  unfolding name size
  ahead-name at = ahead-bind _ _ _ _ (ahead-guard (λ n. ltb 0 n) at _ _ (ahead-byte at)) ahead-chars

  ahead-names : (t : List Name) (n at : ℕ) → Ahead (names_after (take m s) t n at) (names_after s t n at)
  unfolding names_after
  ahead-names t zero at = inr refl
  ahead-names t (suc n) at = ahead-bind _ _ _ _ (ahead-guard (λ x. not (member x t)) at _ _ (ahead-name at)) (λ x p. ahead-names (t ++ (x ∷ [])) n p)

  -- names of the first part that do not end early are those of the whole
  pub names-ahead : (n at : ℕ) (r : Skipped) → (r ≡ Err Early → ⊥) → r ≡ skip (names_after (take m s) [] n at) → r ≡ skip (names_after s [] n at)
  unfolding skip
  names-ahead n at r h e = ⊎_elim
      (λ (g : names_after (take m s) [] n at ≡ early). absurd (h (e ∙ ap skip g)))
      (λ (g : names_after (take m s) [] n at ≡ names_after s [] n at). e ∙ ap skip g)
      (ahead-names [] n at)

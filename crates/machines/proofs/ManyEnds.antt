-- Where things that stand one after the other end, by where each of them ends.
use Prim.Native.Nat.{ℕ, zero, suc, ◌-◌, ◌<◌, ◌≤◌}
use native.Mathlib.Omega.{arith}
use mathlib.Core.List.{List, ◌∷◌}
use mathlib.Core.Path.{◌≡◌, refl, sym, ap, ◌∙◌}
use Rattle.wire.specs.Answer.{Answer, bind, counted, deep, early, illegal, many, u16, value}
use Rattle.wire.specs.Code.{read_of}
use Rattle.pack_rules.specs.Names.{Name}
use Rattle.pack_rules.specs.Read.{OneState, state_at}
use Rattle.wire.specs.declared.answer.Number.{Number}
use Rattle.machines.specs.ResolvedIn.{end_of, over_in}
use Rattle.machines.specs.CheckedReads.{number_in, sure_of}
use Rattle.machines.proofs.Reading.{state-value}
use Rattle.machines.proofs.PackCounts.{optional-takes}

module _ {A : Type 0} (f : ℕ → Answer A) where
  -- things one by one, where what reads ends past 0: one that does not read
  pub many-stopped : ((p : ℕ) (x : A) (q : ℕ) → f p ≡ value x q → 0 < q) → (n p e z : ℕ) → e ≡ end_of (f p) → e ≡ 0 → 0 < n → end_of (many f n p) ≡ z → 0 ≡ z
  unfolding many bind end_of
  many-stopped h zero p e z i j l d = absurd (omega arith)
  many-stopped h (suc n) p e z i j l d = go (f p) refl ∙ d
    where
      go : (a : Answer A) → f p ≡ a → 0 ≡ end_of (bind a λ x q. bind (many f n q) λ xs r. value (x ∷ xs) r)
      go (value x q) g = let k = h p x q g in let m : q ≡ 0 = sym (i ∙ ap end_of g) ∙ j in absurd (omega arith)
      go early g = refl
      go (illegal o) g = refl
      go (deep o) g = refl

  -- one more
  pub many-went : (n p e z : ℕ) → e ≡ end_of (f p) → (e ≡ 0 → ⊥) → 0 < n → end_of (many f n p) ≡ z → end_of (many f (n - 1) e) ≡ z
  unfolding many bind end_of
  many-went zero p e z i m l d = absurd (omega arith)
  many-went (suc n) p e z i m l d = let j : suc n - 1 ≡ n = omega arith in rw j (go (f p) refl ∙ d)
    where
      same : (x : A) (a : Answer (List A)) → end_of a ≡ end_of (bind a λ xs r. value (x ∷ xs) r)
      same x (value xs r) = refl
      same x early = refl
      same x (illegal o) = refl
      same x (deep o) = refl

      go : (a : Answer A) → f p ≡ a → end_of (many f n e) ≡ end_of (bind a λ x q. bind (many f n q) λ xs r. value (x ∷ xs) r)
      go (value x q) g = ap (λ (y : ℕ). end_of (many f n y)) (i ∙ ap end_of g) ∙ same x (many f n q)
      go early g = absurd (m (i ∙ ap end_of g))
      go (illegal o) g = absurd (m (i ∙ ap end_of g))
      go (deep o) g = absurd (m (i ∙ ap end_of g))

-- none is left
pub many-done : {A : Type 0} (f : ℕ → Answer A) (n p z : ℕ) → n ≤ 0 → end_of (many f n p) ≡ z → p ≡ z
unfolding many end_of
many-done f zero p z l d = d
many-done f (suc n) p z l d = absurd (omega arith)

-- as many as the number before them says; where there is no number, none at 0
pub counted-ends : {A : Type 0} (f : ℕ → Answer A) (s : List ℕ) (at : ℕ) (c : Number) → c ≡ number_in s at → end_of (many f c.value c.next) ≡ end_of (counted f s at)
unfolding counted many bind end_of number_in sure_of read_of
counted-ends f s at c e = ap (λ (y : Number). end_of (many f y.value y.next)) e ∙ go (u16 s at)
  where
    go : (a : Answer ℕ) → end_of (many f (sure_of (read_of a)).value (sure_of (read_of a)).next) ≡ end_of (bind a λ n p. many f n p)
    go (value n p) = refl
    go early = refl
    go (illegal o) = refl
    go (deep o) = refl

pub counted-done : {A : Type 0} (f : ℕ → Answer A) (s : List ℕ) (at n p : ℕ) (c : Number) → c ≡ number_in s at → n ≤ 0 → end_of (many f n p) ≡ end_of (many f c.value c.next) → p ≡ end_of (counted f s at)
counted-done f s at n p c e l d = many-done f n p _ l d ∙ counted-ends f s at c e

-- a state that reads ends with an optional name, past 0
pub state-past : (ns : List Name) (s : List ℕ) (p : ℕ) (x : OneState) (q : ℕ) → state_at ns s p ≡ value x q → 0 < q
unfolding state_at
state-past ns s p x q e =
    let r = state-value ns s _ p x q e in
    let i = optional-takes ns s r.m x.refines q r.last in
    omega arith

-- where a state ends, as reading says
pub over-end : (ns : List Name) (s : List ℕ) (p e : ℕ) → e ≡ over_in ns s p → e ≡ end_of (state_at ns s p)
unfolding over_in
over-end ns s p e i = i

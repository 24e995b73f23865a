-- Laws for the code that keeps equations, guards, regions and states, and looks them up.
use Prim.Native.Nat.{ℕ, ◌+◌, ◌*◌, ◌-◌, ◌/◌, ◌%◌, ◌<◌, ◌≤◌}
use native.Mathlib.Omega.{arith}
use mathlib.Core.List.{List}
use mathlib.Core.Path.{◌≡◌, refl, sym, ap, subst, ◌∙◌}
use lib.ListN.{length}
use Rattle.wire.specs.Answer.{counted}
use Rattle.pack_rules.specs.Names.{Name}
use Rattle.pack_rules.specs.Read.{equation_in, equations_in, expr_in, transition_in}
use Rattle.machines.specs.declared.resolve.EmptyRegions.{EmptyRegions}
use Rattle.machines.specs.declared.memo.UnknownTarget.{UnknownTarget}
use Rattle.wire.specs.declared.answer.Number.{Number}
use Rattle.machines.specs.ResolvedIn.{end_of, over_in}
use Rattle.machines.specs.CheckedReads.{num, number_in}
use Rattle.machines.specs.ResolveAt.{head_t}
use Rattle.machines.specs.LayoutAt.{moves_at, regions_at}
use Rattle.machines.specs.UnknownTargets.{unknown_target_d, unknown_targets}
use Rattle.machines.specs.EmptyRegions.{EmptyRun, longest_d}
use Rattle.machines.specs.Memo.{beside_in, kept_in, longest_in, mark_in, moves_in, of_empty, of_equation, of_guard, of_strays, past_in, regions_in, row_mark, row_put, state_put, value_in}
use Rattle.machines.specs.MemoSound.{Blank, HeadRead, MemoSound, RowSound, RowsSound, StateSound}
use Rattle.machines.proofs.MemoLaws.{kept-cases, regions-none, rows_none, rows-put, rows-state, states-more, states-put}

-- what is kept of a thing of the kind k is what its row says
pub row_kept : (P : ℕ → Type 0) (t : List ℕ) (p k e : ℕ) → e ≡ kept_in t p k → 0 < e → (p < 65536 → 0 < value_in t p → mark_in t p % 32 ≡ p % 5 + k → P (value_in t p)) → P e
row_kept P t p k e q l f =
    subst P (sym q) (kept-cases (λ (x : ℕ). 0 < x → P x) t p k (λ z. absurd (omega (arith, z))) (λ i m z. f i z m) (subst (λ (x : ℕ). 0 < x) q l))

pub end_kept : (s : List ℕ) (names : ℕ) (t : List ℕ) (at e : ℕ) → RowsSound s names t → e ≡ kept_in t at of_equation → 0 < e
    → (ns : List Name) → length ns ≡ names → e ≡ end_of (equation_in ns s at)
end_kept s names t at e h q l ns n = row_kept (λ (x : ℕ). x ≡ end_of (equation_in ns s at)) t at of_equation e q l (λ i z m. (h.rows ns n at i z).equation m)

pub guard-kept : (s : List ℕ) (names : ℕ) (t : List ℕ) (at e : ℕ) → RowsSound s names t → e ≡ kept_in t at of_guard → 0 < e
    → (ns : List Name) → length ns ≡ names → e ≡ end_of (expr_in ns s at)
guard-kept s names t at e h q l ns n = row_kept (λ (x : ℕ). x ≡ end_of (expr_in ns s at)) t at of_guard e q l (λ i z m. (h.rows ns n at i z).guard m)

pub strays-kept : (s : List ℕ) (names : ℕ) (t : List ℕ) (f v x n : ℕ) (c : Number) → RowsSound s names t → 5 ≤ f → v ≡ kept_in t (f - 5) of_strays → 0 < v → x ≡ beside_in t (f - 5) → c ≡ number_in s (f - 2) → c.value ≡ n
    → (ns : List Name) → length ns ≡ names → unknown_target_d ns s n f ≡ unknown_targets x (v - 1)
unfolding beside_in
strays-kept s names t f v x n c h b q l g d w ns e =
    let m : f ≡ f - 5 + 5 = omega (arith, b) in
    let o : f - 2 ≡ f - 5 + 3 = omega (arith, b) in
    (λ i. unknown_target_d ns s ((sym w ∙ ap (λ (y : Number). y.value) (d ∙ ap (number_in s) o)) i) (m i))
    ∙ row_kept (λ (y : ℕ). unknown_target_d ns s (number_in s (f - 5 + 3)).value (f - 5 + 5) ≡ unknown_targets (mark_in t (f - 5) / 32) (y - 1)) t (f - 5) of_strays v q l (λ i z k. (h.rows ns e (f - 5) i z).stray k)
    ∙ ap (λ (y : ℕ). unknown_targets y (v - 1)) (sym g)

-- what stands there of a state
state-kept : (s : List ℕ) (names : ℕ) (t : List ℕ) (at r : ℕ) → RowsSound s names t → r ≡ regions_in t at → 0 < r
    → (ns : List Name) → length ns ≡ names → StateSound ns s at (moves_in t at) (past_in t at) (regions_in t at)
state-kept s names t at r h q l ns n = h.states ns n at (subst (λ (x : ℕ). 0 < x) q l)

pub moves-kept : (s : List ℕ) (names : ℕ) (t : List ℕ) (at r m : ℕ) → RowsSound s names t → r ≡ regions_in t at → 0 < r → m ≡ moves_in t at
    → (ns : List Name) → length ns ≡ names → m ≡ moves_at ns s at
moves-kept s names t at r m h q l w ns n = w ∙ (state-kept s names t at r h q l ns n).moves

pub past-kept : (s : List ℕ) (names : ℕ) (t : List ℕ) (at r o : ℕ) → RowsSound s names t → r ≡ regions_in t at → 0 < r → o ≡ past_in t at
    → (ns : List Name) → length ns ≡ names → o ≡ over_in ns s at
past-kept s names t at r o h q l w ns n = w ∙ (state-kept s names t at r h q l ns n).past

pub regions-kept : (s : List ℕ) (names : ℕ) (t : List ℕ) (at r : ℕ) (c : Number) → RowsSound s names t → r ≡ regions_in t at → 0 < r → c ≡ number_in s r
    → (ns : List Name) → length ns ≡ names → c ≡ regions_at ns s at
unfolding regions_at
regions-kept s names t at r c h q l w ns n = w ∙ ap (number_in s) (q ∙ (state-kept s names t at r h q l ns n).regions)

pub head-kept : (s : List ℕ) (names : ℕ) (offsets t : List ℕ) (at r l : ℕ) → MemoSound s names offsets t → r ≡ regions_in t at → 0 < r → l ≡ longest_in t at
    → (ns : List Name) → length ns ≡ names → num l r ≡ head_t ns s offsets at
head-kept s names offsets t at r l h q g w ns n = (λ i. num (w i) (q i)) ∙ h.heads ns n at (subst (λ (x : ℕ). 0 < x) q g)

-- what is read of a state that is not kept
pub moves_read : (ns : List Name) (s : List ℕ) (at m : ℕ) (i : Number) → i ≡ number_in s at → m ≡ end_of (equations_in ns s i.next) → m ≡ moves_at ns s at
unfolding moves_at
moves_read ns s at m i e q = q ∙ ap (λ (x : Number). end_of (equations_in ns s x.next)) e

pub moves_from : (ns : List Name) (s : List ℕ) (at m : ℕ) (i : Number) → i ≡ number_in s at → m ≡ moves_at ns s at → m ≡ end_of (equations_in ns s i.next)
unfolding moves_at
moves_from ns s at m i e q = q ∙ ap (λ (x : Number). end_of (equations_in ns s x.next)) (sym e)

pub regions-read : (ns : List Name) (s : List ℕ) (at m r : ℕ) (c : Number) → m ≡ moves_at ns s at → r ≡ end_of (counted (transition_in ns s) s m) → c ≡ number_in s r → c ≡ regions_at ns s at
unfolding regions_at
regions-read ns s at m r c e q w = w ∙ ap (number_in s) (q ∙ ap (λ (x : ℕ). end_of (counted (transition_in ns s) s x)) e)

-- whose a mark is
kind-of : (p k x : ℕ) → k ≤ 16 → row_mark p k x % 32 ≡ p % 5 + k
unfolding row_mark
kind-of p k x h = omega arith

-- the kinds of two things of one row are told apart by five: a mark that is right for one of them means that one
told : (p q k j : ℕ) → q / 5 ≡ p / 5 → k % 5 ≡ 1 → j % 5 ≡ 1 → p % 5 + k ≡ q % 5 + j → p ≡ q
told p q k j a b c d = omega arith

mine : (p q k j x : ℕ) → q / 5 ≡ p / 5 → k % 5 ≡ 1 → k ≤ 16 → j % 5 ≡ 1 → row_mark p k x % 32 ≡ q % 5 + j → p ≡ q
mine p q k j x a b c d e = told p q k j a b d (sym (kind-of p k x c) ∙ e)

-- one row more, of the kind k
row_put_lem : (s : List ℕ) (names : ℕ) (t : List ℕ) (at k x v : ℕ) → k % 5 ≡ 1 → k ≤ 16 → ((ns : List Name) → length ns ≡ names → RowSound ns s at (row_mark at k x) v)
    → (u : List ℕ) → u ≡ row_put t at (row_mark at k x) v → (offsets : List ℕ) → (row_mark at k x % 32 ≡ at % 5 + of_empty → row_mark at k x / 32 ≡ longest_d s offsets v at 0)
    → MemoSound s names offsets t → MemoSound s names offsets u
row_put_lem s names t at k x v c b r u q offsets l h =
    subst (MemoSound s names offsets) (sym q) (record {
      ends = record {
        rows = λ ns n. rows-put (RowSound ns s) t at (row_mark at k x) v (h.ends.rows ns n) (λ p g. record {
          equation = λ y. (subst (λ (z : ℕ). RowSound ns s z (row_mark at k x) v) (mine at p k 1 x g c b refl y) (r ns n)).equation y;
          guard = λ y. (subst (λ (z : ℕ). RowSound ns s z (row_mark at k x) v) (mine at p k 6 x g c b refl y) (r ns n)).guard y;
          stray = λ y. (subst (λ (z : ℕ). RowSound ns s z (row_mark at k x) v) (mine at p k 11 x g c b refl y) (r ns n)).stray y;
          empty = λ y. (subst (λ (z : ℕ). RowSound ns s z (row_mark at k x) v) (mine at p k 16 x g c b refl y) (r ns n)).empty y;
        });
        states = λ ns n. states-put (λ p l m o r. StateSound ns s p m o r) t at (row_mark at k x) v (h.ends.states ns n);
      };
      heads = λ ns n. states-put (λ p l m o r. num l r ≡ head_t ns s offsets p) t at (row_mark at k x) v (h.heads ns n);
      empties = rows-put (λ p m v. m % 32 ≡ p % 5 + of_empty → m / 32 ≡ longest_d s offsets v p 0) t at (row_mark at k x) v h.empties (λ p g y.
          let e = mine at p k 16 x g c b refl y in
          l (y ∙ ap (λ (z : ℕ). z % 5 + of_empty) (sym e)) ∙ ap (λ (z : ℕ). longest_d s offsets v z 0) e);
    })

pub end-put : (s : List ℕ) (names : ℕ) (t u : List ℕ) (at e : ℕ) → ((ns : List Name) → length ns ≡ names → e ≡ end_of (equation_in ns s at)) → u ≡ row_put t at (row_mark at of_equation 0) e
    → (offsets : List ℕ) → MemoSound s names offsets t → MemoSound s names offsets u
unfolding row_mark
end-put s names t u at e r q offsets =
    row_put_lem s names t at of_equation 0 e refl (omega arith) (λ ns n. record { equation = λ x. r ns n; guard = λ x. absurd (omega arith); stray = λ x. absurd (omega arith); empty = λ x. absurd (omega arith) }) u q offsets
    (λ x. absurd (omega arith))

pub guard-put : (s : List ℕ) (names : ℕ) (t u : List ℕ) (at e : ℕ) → ((ns : List Name) → length ns ≡ names → e ≡ end_of (expr_in ns s at)) → u ≡ row_put t at (row_mark at of_guard 0) e
    → (offsets : List ℕ) → MemoSound s names offsets t → MemoSound s names offsets u
unfolding row_mark
guard-put s names t u at e r q offsets =
    row_put_lem s names t at of_guard 0 e refl (omega arith) (λ ns n. record { equation = λ x. absurd (omega arith); guard = λ x. r ns n; stray = λ x. absurd (omega arith); empty = λ x. absurd (omega arith) }) u q offsets
    (λ x. absurd (omega arith))

pub strays-put : (s : List ℕ) (names : ℕ) (t u : List ℕ) (f : ℕ) (c : Number) (r : UnknownTarget) → 5 ≤ f → c ≡ number_in s (f - 2) → ((ns : List Name) → length ns ≡ names → r ≡ unknown_target_d ns s c.value f)
    → u ≡ row_put t (f - 5) (row_mark (f - 5) of_strays r.fine) (r.name + 1) → (offsets : List ℕ) → MemoSound s names offsets t → MemoSound s names offsets u
unfolding row_mark
strays-put s names t u f c r b d g q offsets =
    let m : f - 5 + 5 ≡ f = omega (arith, b) in
    let o : f - 5 + 3 ≡ f - 2 = omega (arith, b) in
    let x : r.fine ≡ ((f - 5) % 5 + of_strays + 32 * r.fine) / 32 = omega arith in
    let y : r.name ≡ r.name + 1 - 1 = omega arith in
    row_put_lem s names t (f - 5) of_strays r.fine (r.name + 1) refl (omega arith) (λ ns e. record {
      equation = λ z. absurd (omega arith);
      guard = λ z. absurd (omega arith);
      stray = λ z. (λ i. unknown_target_d ns s (ap (λ (w : Number). w.value) (ap (number_in s) o ∙ sym d) i) (m i)) ∙ sym (g ns e) ∙ (λ i. unknown_targets (x i) (y i));
      empty = λ z. absurd (omega arith);
    }) u q offsets
    (λ z. absurd (omega arith))

pub empties-put : (s : List ℕ) (names : ℕ) (offsets t u : List ℕ) (at n : ℕ) (e : EmptyRegions) → EmptyRun s offsets n at e → u ≡ row_put t at (row_mark at of_empty e.longest) e.count
    → MemoSound s names offsets t → MemoSound s names offsets u
unfolding row_mark
empties-put s names offsets t u at n e h q =
    let l : (at % 5 + of_empty + 32 * e.longest) / 32 ≡ e.longest = omega arith in
    row_put_lem s names t at of_empty e.longest e.count refl (omega arith) (λ ns d. record { equation = λ x. absurd (omega arith); guard = λ x. absurd (omega arith); stray = λ x. absurd (omega arith); empty = λ x. h.none }) u q offsets
    (λ x. l ∙ h.longest)

-- one state more
pub state-put : (t u : List ℕ) (at : ℕ) (h : Number) (m o r : ℕ) → h.next ≡ r → u ≡ state_put t at h.value m o r
    → (s : List ℕ) (names : ℕ) (offsets : List ℕ) → MemoSound s names offsets t → HeadRead s names offsets at h m o r → MemoSound s names offsets u
state-put t u at h m o r e q s names offsets k d =
    subst (MemoSound s names offsets) (sym q) (record {
      ends = record {
        rows = λ ns n. rows-state (RowSound ns s) t at h.value m o r (k.ends.rows ns n);
        states = λ ns n. states-more (λ p l m o r. StateSound ns s p m o r) t at h.value m o r (k.ends.states ns n) (d.state ns n);
      };
      heads = λ ns n. states-more (λ p l m o r. num l r ≡ head_t ns s offsets p) t at h.value m o r (k.heads ns n) (ap (λ (x : ℕ). num h.value x) (sym e) ∙ d.head ns n);
      empties = rows-state (λ p m v. m % 32 ≡ p % 5 + of_empty → m / 32 ≡ longest_d s offsets v p 0) t at h.value m o r k.empties;
    })

-- a table of zeros is right
pub blank-right : (s : List ℕ) (names : ℕ) (offsets t : List ℕ) → Blank t → MemoSound s names offsets t
blank-right s names offsets t h = record {
  ends = record {
    rows = λ ns n p l z. absurd (omega (arith, rows_none t p h, z));
    states = λ ns n p l. absurd (omega (arith, regions-none t p h, l));
  };
  heads = λ ns n p l. absurd (omega (arith, regions-none t p h, l));
  empties = λ p l z. absurd (omega (arith, rows_none t p h, z));
}

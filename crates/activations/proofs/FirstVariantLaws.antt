-- Laws for the code that keeps what enums start from, step by step.
use Prim.Native.Nat.{ℕ, ◌+◌, ◌≤◌}
use mathlib.Core.List.{List}
use mathlib.Core.Path.{◌≡◌, refl, ap, ◌∙◌}
use Rattle.pack_rules.specs.Names.{Name}
use Rattle.wire.specs.declared.answer.Number.{Number}
use Rattle.machines.specs.CheckedReads.{number_in}
use Rattle.machines.proofs.CheckedReadLaws.{no, on, yes}
use Rattle.activations.specs.Cells.{put_t}
use Rattle.activations.specs.Places.{each_of}
use Rattle.activations.specs.TypesAt.{enum_end}
use Rattle.activations.specs.FirstVariantsAt.{first_t, firsts_t, kept_t}
use Rattle.activations.proofs.PlaceLaws.{each-end}

pub kept-none : (s : List ℕ) (i k p : ℕ) (t : List ℕ) → k ≡ 0 → t ≡ kept_t s i k p t
unfolding kept_t
kept-none s i k p t e = yes k 0 _ _ t e refl

pub kept-some : (s : List ℕ) (i k p : ℕ) (v : Number) (t u : List ℕ) → (k ≡ 0 → ⊥) → v ≡ number_in s p → u ≡ put_t t (32768 + i) (v.value + 1) → u ≡ kept_t s i k p t
unfolding kept_t
kept-some s i k p v t u n e f = no k 0 _ _ u n (f ∙ ap (λ (y : Number). put_t t (32768 + i) (y.value + 1)) e)

pub firsts-done : (ns : List Name) (s : List ℕ) (enums : ℕ) (c : Number) (n p : ℕ) (t z : List ℕ) → c ≡ number_in s enums → n ≤ 0 → each_of (first_t s) (enum_end ns s) n p t ≡ each_of (first_t s) (enum_end ns s) c.value c.next z → t ≡ firsts_t ns s enums z
unfolding firsts_t
firsts-done ns s enums c n p t z e l h = on c _ _ _ e (each-end (first_t s) (enum_end ns s) n p t _ l h)

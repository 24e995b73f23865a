-- Laws for the code that notes where nodes and activations stand, step by step.
use Prim.Native.Nat.{ℕ, ◌+◌, ◌%◌, ◌<◌}
use native.Mathlib.Omega.{arith}
use mathlib.Core.List.{List}
use mathlib.Core.Path.{◌≡◌, sym, ap, ◌∙◌}
use lib.ListN.{length, get_or, length-replicate, replicate}
use Rattle.pack_rules.specs.Names.{Name}
use Rattle.wire.specs.declared.answer.Number.{Number}
use Rattle.machines.specs.OwnersAt.{fill_t, find_t, node_end, nth}
use Rattle.machines.specs.CheckedReads.{number_in, with}
use Rattle.machines.proofs.CheckedReadLaws.{on}
use Rattle.machines.proofs.TablesFilled.{fill-at}
use Rattle.activations.specs.declared.checks.Refused.{Refused}
use Rattle.activations.specs.Cells.{put_t}
use Rattle.activations.specs.ChecksAt.{refused_t}
use Rattle.activations.specs.Passes.{pass_t}
use Rattle.activations.specs.Places.{act_end}
use Rattle.activations.specs.ActTable.{judged_t}
use Rattle.activations.specs.OwnersAt.{draw_t, named_t, owners_t, place_acts_t, place_nodes_t}
use Rattle.activations.proofs.ActTableLaws.{judged-length}
use Rattle.activations.proofs.RowsNoted.{put-length}

pub nodes-placed : (ns : List Name) (s : List ℕ) (at : ℕ) (c : Number) (t z : List ℕ) → c ≡ number_in s at → t ≡ fill_t (λ i. nth (node_end ns s) c.next i % 65536) c.value 0 z → t ≡ place_nodes_t ns s at z
unfolding place_nodes_t
nodes-placed ns s at c t z e f = on c _ _ t e f

-- the index of the name of the node i
pub owner_at : (s nodes : List ℕ) (n i : ℕ) → i < n → get_or (owners_t s nodes n) i 0 ≡ (number_in s (get_or nodes i 0)).value
unfolding owners_t
owner_at s nodes n i l = fill-at (λ j. (number_in s (get_or nodes j 0)).value) n 0 (replicate n 0) i (omega arith) (omega arith) (omega (arith, length-replicate {A = ℕ} n 0))

pub owner-is : (s nodes : List ℕ) (n i at : ℕ) (x : Number) → i < n → at ≡ get_or nodes i 0 → x ≡ number_in s at → x.value ≡ get_or (owners_t s nodes n) i 0
owner-is s nodes n i at x l e f = ap (λ (y : Number). y.value) (f ∙ ap (number_in s) e) ∙ sym (owner_at s nodes n i l)

pub named-is : (s nodes : List ℕ) (n x r : ℕ) → r ≡ find_t (owners_t s nodes n) x n 0 → r ≡ named_t s nodes n x
unfolding named_t
named-is s nodes n x r e = e

pub draw-is : (names : ℕ) (s nodes : List ℕ) (n i p : ℕ) (acts t u : List ℕ) (a o : Number) (k : ℕ) (r : Refused) → a ≡ number_in s p → o ≡ number_in s a.next → k ≡ named_t s nodes n o.value → r ≡ refused_t 13 o.value names
    → t ≡ put_t (put_t acts i p) (6656 + i) k → u ≡ judged_t t i r 0 → u ≡ draw_t names s nodes n i p acts
unfolding draw_t
draw-is names s nodes n i p acts t u a o k r e f g h d l =
    on a _ _ u e (on o _ _ u f
    (l ∙ (λ j. judged_t (d j) i (h j) 0) ∙ ap (λ y. judged_t (put_t (put_t acts i p) (6656 + i) y) i (refused_t 13 o.value names) 0) g))

pub acts-placed : (ns : List Name) (s nodes : List ℕ) (n at : ℕ) (c : Number) (t z : List ℕ) → c ≡ number_in s at → t ≡ pass_t (λ k. draw_t (length ns) s nodes n) (act_end ns s) c.value 0 c.next z → t ≡ place_acts_t ns s nodes n at z
unfolding place_acts_t
acts-placed ns s nodes n at c t z e f = on c _ _ t e f

pub draw-length : (names : ℕ) (s nodes : List ℕ) (n i p : ℕ) (acts : List ℕ) → length (draw_t names s nodes n i p acts) ≡ length acts
unfolding draw_t with
draw-length names s nodes n i p acts = judged-length _ i _ 0 ∙ put-length _ (6656 + i) _ ∙ put-length acts i p

pub draw-by : (ns : List Name) (names : ℕ) (s nodes : List ℕ) (n i p : ℕ) (acts t : List ℕ) → length ns ≡ names → t ≡ draw_t names s nodes n i p acts → t ≡ draw_t (length ns) s nodes n i p acts
draw-by ns names s nodes n i p acts t e h = h ∙ ap (λ y. draw_t y s nodes n i p acts) (sym e)

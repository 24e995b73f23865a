-- Laws for the code that lays machines out again and writes their equations and enums.
use Prim.Native.Nat.{suc, ℕ, ◌+◌, ◌-◌, ◌<◌, ◌≤◌}
use native.Mathlib.Omega.{arith}
use mathlib.Core.List.{List, [], ◌++◌}
use mathlib.Core.Bool.{Bool, true, false, cond}
use mathlib.Core.Path.{◌≡◌, refl, sym, ap, ◌∙◌}
use lib.ListN.{length, get_or}
use lib.Dec.{eqb}
use borrow.Author.Tests.{eq-eqb, ne_eqb}
use Rattle.wire.specs.declared.writer.Writer.{Writer}
use Rattle.wire.specs.Writer.{State, state_of}
use Rattle.pack_rules.specs.Names.{Name}
use Rattle.pack_rules.specs.Write.{Item}
use Rattle.pack.specs.Intern.{render}
use Rattle.pack.proofs.Interns.{render-append}
use Rattle.machines.specs.declared.layout.LayoutPos.{LayoutPos}
use Rattle.wire.specs.declared.answer.Number.{Number}
use Rattle.machines.specs.CheckedReads.{number_in}
use Rattle.machines.specs.Tables.{initial_in, outputs_in}
use Rattle.machines.specs.LayoutAt.{Board, board, fed, layout_machine}
use Rattle.machines.specs.EmitAt.{enums_t, pack_name, regions_t}
use Rattle.machines.specs.ValueAt.{port_outputs_t}
use Rattle.machines.specs.VerdictAt.{lay_at}
use Rattle.machines.specs.AddedAt.{each_t}
use Rattle.machines.specs.EmitMachineAt.{AllWrite, Long, Writes, added_at, enums_at, equations_at}
use Rattle.machines.specs.WriteNodesAt.{added_equations_t}
use Rattle.machines.proofs.AddedLaws.{each_first, each_more, each_next}

-- tables of the same lengths
pub long_kept : (t reg qualified u v l : List ℕ) → length u ≡ length t → length v ≡ length reg → length l ≡ length qualified → Long t reg qualified → Long u v l
long_kept t reg qualified u v l a b c h = record {
  words = omega (arith, h.words);
  regions = omega (arith, h.regions);
  letters = omega (arith, h.letters);
  few_words = omega (arith, h.few_words);
  few_regions = omega (arith, h.few_regions);
  few_letters = omega (arith, h.few_letters);
}

-- a machine that is laid out again
module _ (ns : List Name) (s offsets to : List ℕ) (at i : ℕ) (m : Number) (t reg qualified u v l : List ℕ) (y : LayoutPos)
    (em : m ≡ number_in s at) (ei : i ≡ initial_in ns s m.next) (ey : board u v l y ≡ layout_machine ns s offsets to i t reg qualified) where
  laid-again : board u v l y ≡ lay_at ns s offsets to at t reg qualified
  unfolding lay_at
  laid-again = ey ∙ ap (λ x. layout_machine ns s offsets to x t reg qualified) (ei ∙ ap (λ (x : Number). initial_in ns s x.next) em)

  pub equations-put : (o : ℕ) (old : List ℕ) (z a w : State) → o ≡ outputs_in ns s m.next → a ≡ render old (regions_t s offsets u l ns v 0 y.regions) z → w ≡ render old (port_outputs_t s u l ns o) a → w ≡ render old (equations_at ns s offsets to at t reg qualified) z
  unfolding equations_at fed
  equations-put o old z a w eo ea ew =
      ew
      ∙ ap (render old (port_outputs_t s u l ns o)) ea
      ∙ sym (render-append old (regions_t s offsets u l ns v 0 y.regions) (port_outputs_t s u l ns o) z)
      ∙ ap (λ x. render old (regions_t s offsets u l ns v 0 y.regions ++ port_outputs_t s u l ns x) z) (eo ∙ ap (λ (x : Number). outputs_in ns s x.next) em)
      ∙ ap (λ (b : Board). render old (regions_t s offsets b.t b.qualified ns b.reg 0 b.c.regions ++ port_outputs_t s b.t b.qualified ns (outputs_in ns s (number_in s at).next)) z) laid-again

  pub enums-put : (n : Name) (old : List ℕ) (z w : State) → n ≡ pack_name s offsets m.value → w ≡ render old (enums_t u l v n 0 y.regions) z → w ≡ render old (enums_at ns s offsets to at t reg qualified) z
  unfolding enums_at fed
  enums-put n old z w en ew =
      ew
      ∙ ap (λ (x : Name). render old (enums_t u l v x 0 y.regions) z) (en ∙ ap (λ (x : Number). pack_name s offsets x.value) em)
      ∙ ap (λ (b : Board). render old (enums_t b.t b.qualified b.reg (pack_name s offsets (number_in s at).value) 0 b.c.regions) z) laid-again

-- where it goes to the node k, and where not
module _ (ns : List Name) (s offsets to t reg qualified defs receivers : List ℕ) (k i a m : ℕ) (ea : a ≡ get_or receivers i 0) (em : m ≡ get_or defs i 0) (old : List ℕ) where
  pub goes-there : (z w : State) → a ≡ k → w ≡ render old (equations_at ns s offsets to m t reg qualified) z → w ≡ render old (added_at ns s offsets to defs receivers k i t reg qualified) z
  unfolding added_at
  goes-there z w h e = rw (← ea, eq-eqb a k h, ← em) e

  pub goes-elsewhere : (z : State) → (a ≡ k → ⊥) → z ≡ render old (added_at ns s offsets to defs receivers k i t reg qualified) z
  unfolding added_at render
  goes-elsewhere z h = rw (← ea, ne_eqb a k h) refl

-- nor does it bring equations
pub no-equations : (receivers : List ℕ) (eqs : ℕ → List Item) (k i : ℕ) → (get_or receivers i 0 ≡ k → ⊥) → added_equations_t receivers eqs k i ≡ []
unfolding added_equations_t
no-equations receivers eqs k i h = rw (ne_eqb (get_or receivers i 0) k h)

-- one machine more, whatever the tables held
module _ (ns : List Name) (sb offsets to old defs : List ℕ) (n i : ℕ) (t reg qualified : List ℕ) (long : Long t reg qualified) (here : i < n) where
  wrote : (f : ℕ → List ℕ → List ℕ → List ℕ → List Item) (g : ℕ → List Item) → AllWrite old f defs n g → (y : State) → render old (f (get_or defs i 0) t reg qualified) y ≡ render old (g i) y
  unfolding Writes
  wrote f g h y = h i here t reg qualified long y

  wrote-brought : (eqs : ℕ → List Item) (receivers : List ℕ) (k : ℕ) → AllWrite old (equations_at ns sb offsets to) defs n eqs → (y : State) → render old (added_at ns sb offsets to defs receivers k i t reg qualified) y ≡ render old (added_equations_t receivers eqs k i) y
  unfolding added_equations_t added_at
  wrote-brought eqs receivers k h y = go (eqb (get_or receivers i 0) k)
    where
      go : (b : Bool) → render old (cond b (equations_at ns sb offsets to (get_or defs i 0) t reg qualified) []) y ≡ render old (cond b (eqs i) []) y
      go true = wrote (equations_at ns sb offsets to) eqs h y
      go false = refl

  pub equations-next : (eqs : ℕ → List Item) (receivers : List ℕ) (k c d j : ℕ) (o m : List ℕ) (w : Writer) (s z : State) → AllWrite old (equations_at ns sb offsets to) defs n eqs → i < c → state_of o m w ≡ render old (added_at ns sb offsets to defs receivers k i t reg qualified) s → d ≡ cond w.full 0 c
      → i + 1 ≤ j → ((p : ℕ) → i + 1 ≤ p → p < j → get_or receivers p 0 ≡ k → ⊥) → render old (each_t (added_equations_t receivers eqs k) (c - i) i) s ≡ z → render old (each_t (added_equations_t receivers eqs k) (d - j) j) (state_of o m w) ≡ z
  equations-next eqs receivers k c d j o m w s z h l e g r q = each_next old (added_equations_t receivers eqs k) i c d j o m w s z l (e ∙ wrote-brought eqs receivers k h s) g r (λ p a b. no-equations receivers eqs k p (q p a b))

  enums-written : (ens : ℕ → List Item) (a : ℕ) (s w : State) → AllWrite old (enums_at ns sb offsets to) defs n ens → a ≡ get_or defs i 0 → w ≡ render old (enums_at ns sb offsets to a t reg qualified) s → w ≡ render old (ens i) s
  enums-written ens a s w h ea e = e ∙ ap (λ x. render old (enums_at ns sb offsets to x t reg qualified) s) ea ∙ wrote (enums_at ns sb offsets to) ens h s

  pub enums-more : (ens : ℕ → List Item) (a c d : ℕ) (x s z : State) → AllWrite old (enums_at ns sb offsets to) defs n ens → c ≡ suc d → a ≡ get_or defs i 0 → x ≡ render old (enums_at ns sb offsets to a t reg qualified) s → render old (each_t ens c i) s ≡ z → render old (each_t ens d (i + 1)) x ≡ z
  enums-more ens a c d x s z h l ea e = each_more old ens i c d x s z l (enums-written ens a s x h ea e)

-- where such a loop begins
pub equations-first : (old receivers : List ℕ) (eqs : ℕ → List Item) (k n j : ℕ) (s : State) → 0 ≤ j → ((p : ℕ) → 0 ≤ p → p < j → get_or receivers p 0 ≡ k → ⊥) → render old (each_t (added_equations_t receivers eqs k) (n - j) j) s ≡ render old (each_t (added_equations_t receivers eqs k) n 0) s
equations-first old receivers eqs k n j s l h = each_first old (added_equations_t receivers eqs k) n j s l (λ p a b. no-equations receivers eqs k p (h p a b))

-- The merges that are written from the ports of a pack that was read are those of the definition.
use Prim.Native.Nat.{ℕ, zero, suc, ◌<◌}
use mathlib.Core.List.{List, [], ◌∷◌, ◌++◌}
use mathlib.Core.Path.{◌≡◌, refl, sym, ap, ◌∙◌}
use lib.ListN.{length}
use Rattle.wire.specs.Answer.{counted, many, u16, value}
use Rattle.wire.specs.Bytes.{two}
use Rattle.wire.specs.Writer.{State, puts}
use Rattle.wire.proofs.Answers.{bind-value}
use Rattle.pack_rules.specs.Names.{Name}
use Rattle.pack_rules.specs.Syntax.{Expr, Port}
use Rattle.pack_rules.specs.Forms.{name_at}
use Rattle.pack_rules.specs.Read.{port_in, ports_in}
use Rattle.pack_rules.specs.Write.{Item, each, equation_items, expr_items}
use Rattle.pack.specs.Intern.{put_item, put_name, render}
use Rattle.machines.specs.ResolvedIn.{end_of}
use Rattle.machines.specs.CheckedReads.{number_in}
use Rattle.machines.specs.EmitAt.{pack_name}
use Rattle.machines.proofs.Reading.{many-cut, many_more, many-over}
use Rattle.machines.proofs.CheckedReadLaws.{end-to, number-to}
use Rattle.machines.proofs.ChainsEmitted.{Alike, alike-append, alike-by}
use Rattle.machines.proofs.OutputsEmitted.{port-value}
use Rattle.activation_rules.specs.Defines.{eqn}
use Rattle.activation_rules.specs.Merges.{merge_equations, merge_from}
use Rattle.activations.specs.ByNumber.{merge_items, merges_t, port_merges_t}
use Rattle.activations.proofs.ScopesKnown.{equation-parts}

-- where each name stands, and what an old name's number does
module _ (ns : List Name) (s offsets old : List ℕ)
    (named : (x : ℕ) → x < length ns → pack_name s offsets x ≡ name_at ns x)
    (numbered : (x : ℕ) → x < length ns → (z : State) → puts (two x) z ≡ put_name old (name_at ns x) z)
    (a : Name) (cs : List Expr) where
  merge-alike : (i : ℕ) (n : Name) → i < length ns → name_at ns i ≡ n → Alike old (merge_items a i (pack_name s offsets i) cs) (equation_items (eqn n (merge_from a n 0 cs)))
  unfolding merge_items render put_item
  merge-alike i n h f = λ z.
      ap (λ (x : Name). render old (expr_items (merge_from a x 0 cs)) (puts (two i) (puts (two 1) z))) (named i h ∙ f)
      ∙ ap (render old (expr_items (merge_from a n 0 cs))) (numbered i h (puts (two 1) z) ∙ ap (λ (x : Name). put_name old x (puts (two 1) z)) f)
      ∙ ap (λ (is : List Item). render old is z) (sym (equation-parts n (merge_from a n 0 cs)))

  merges-end : (p : ℕ) → merges_t ns s offsets a cs 0 p ≡ each equation_items (merge_equations a cs [])
  unfolding merges_t merge_equations each
  merges-end p = refl

  merges-step : (n p i o : ℕ) → (number_in s p).value ≡ i → end_of (port_in ns s p) ≡ o → merges_t ns s offsets a cs (suc n) p ≡ merge_items a i (pack_name s offsets i) cs ++ merges_t ns s offsets a cs n o
  unfolding merges_t
  merges-step n p i o e f = λ k. merge_items a (e k) (pack_name s offsets (e k)) cs ++ merges_t ns s offsets a cs n (f k)

  equations-step : (p : Port) (ps : List Port) → equation_items (eqn p.name (merge_from a p.name 0 cs)) ++ each equation_items (merge_equations a cs ps) ≡ each equation_items (merge_equations a cs (p ∷ ps))
  unfolding merge_equations each
  equations-step p ps = refl

  merges-alike : (n p : ℕ) (ps : List Port) (u : ℕ) → many (port_in ns s) n p ≡ value ps u → Alike old (merges_t ns s offsets a cs n p) (each equation_items (merge_equations a cs ps))
  merges-alike zero p [] u e = alike-by old _ _ (merges-end p)
  merges-alike zero p (y ∷ ps) u e = absurd (many-cut (port_in ns s) p y ps u e)
  merges-alike (suc n) p [] u e = absurd (many-over (port_in ns s) n p u e)
  merges-alike (suc n) p (y ∷ ps) u e = λ z.
      let b = many_more (port_in ns s) n p y ps u e in
      let m = port-value ns s p y b.0 b.1 in
      ap (λ (is : List Item). render old is z) (merges-step n p m.i b.0 m.is (end-to (port_in ns s p) y b.0 b.1))
      ∙ alike-append old _ _ _ _ (merge-alike m.i y.name m.small m.named) (merges-alike n b.0 ps u b.2) z
      ∙ ap (λ (is : List Item). render old is z) (equations-step y ps)

  -- THE LAW: the merges of the outputs that stand at `at`
  pub merges-read : (ps : List Port) (at u : ℕ) → ports_in ns s at ≡ value ps u → Alike old (port_merges_t ns s offsets a cs at) (each equation_items (merge_equations a cs ps))
  unfolding port_merges_t ports_in counted
  merges-read ps at u e = λ z.
      let b = bind-value (u16 s at) _ ps u e in
      ap (λ (is : List Item). render old is z) (number-to s at b.0 b.1 _ b.2)
      ∙ merges-alike b.0 b.1 ps u b.3 z

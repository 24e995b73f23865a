-- The equations of outputs that are written from the layout are those of the definition.
use Prim.Native.Nat.{ℕ, zero, suc, ◌-◌, ◌<◌}
use mathlib.Core.List.{List, [], ◌∷◌, ◌++◌}
use mathlib.Core.Bool.{true}
use mathlib.Core.Option.{none}
use mathlib.Core.Path.{◌≡◌, refl, sym, ap, ◌∙◌}
use lib.ListN.{length}
use Rattle.wire.specs.Answer.{counted, many, u16, value}
use Rattle.wire.specs.Bytes.{two}
use Rattle.wire.specs.Writer.{State, puts}
use Rattle.wire.proofs.Answers.{bind-value, map-value}
use Rattle.pack_rules.specs.Names.{Name}
use Rattle.pack_rules.specs.Syntax.{Equation, Expr, Port}
use Rattle.machine_rules.specs.Resolved.{ResolvedMachine, r_cons, r_nil}
use Rattle.pack_rules.specs.Forms.{name_at}
use Rattle.pack_rules.specs.Legal.{Fresh}
use Rattle.pack_rules.specs.Read.{expr_in, name_in, port_in, ports_in, type_in}
use Rattle.pack_rules.specs.Write.{Item, each, equation_items, expr_items, list, name_items, raw}
use Rattle.pack.specs.Intern.{put_item, put_name, render}
use Rattle.machines.specs.ResolvedIn.{end_of}
use Rattle.machines.specs.CheckedReads.{number_in}
use Rattle.machines.specs.Layout.{HeldR, g_more, slice_of}
use Rattle.machine_rules.specs.Lower.{all_states_cover, default_expr_for_type, output_equations, value_s}
use Rattle.machine_rules.specs.Checks.{uncovered}
use Rattle.machines.specs.EmitAt.{pack_name}
use Rattle.machines.specs.ValueAt.{Peopled, WholeS, output_t, outputs_t, port_outputs_t, value_t}
use Rattle.machines.proofs.Reading.{many-cut, many_more, many-over, name-number}
use Rattle.machines.proofs.CheckedReadLaws.{end-to, number-num, number-to}
use Rattle.machines.proofs.ChainsEmitted.{Alike, alike-append, alike-by}
use Rattle.machines.proofs.ValuesEmitted.{value-held}
use Rattle.machines.proofs.Accepted.{Accepted, output-covered}

-- a port that was read: the number of its name
pub record PortAt (ns : List Name) (s : List ℕ) (at : ℕ) (x : Port) : Type 0 where
  pub i : ℕ
  pub is : (number_in s at).value ≡ i
  pub small : i < length ns
  pub named : name_at ns i ≡ x.name

pub port-value : (ns : List Name) (s : List ℕ) (at : ℕ) (x : Port) (q : ℕ) → port_in ns s at ≡ value x q → PortAt ns s at x
unfolding port_in
port-value ns s at x q e =
    let b = bind-value (name_in ns s at) _ x q e in
    let m = map-value _ (type_in ns s b.1) x q b.3 in
    let n = name-number ns s at b.0 b.1 b.2 in
    record { i = n.i; is = ap (λ y. y.value) (number-num s at n.i b.1 n.is); small = n.small; named = n.named ∙ ap (λ (y : Port). y.name) m.2 }

-- the equation of one output
unfoldable output_equation : Name → Expr → Equation
output_equation n e = record { lhs = n ∷ []; rhs = e }

equation-parts : (n : Name) (e : Expr) → equation_items (output_equation n e) ≡ raw (two 1) ∷ (name_items n ++ expr_items e)
unfolding equation_items output_equation list each name_items
equation-parts n e = refl

-- and what an old name's number does
module _ (ns : List Name) (s offsets t reg qualified old : List ℕ)
    (named : (x : ℕ) → x < length ns → pack_name s offsets x ≡ name_at ns x)
    (copied : (a b : ℕ) (e : Expr) → expr_in ns s a ≡ value e b → (z : State) → render old (raw (slice_of s a (b - a)) ∷ []) z ≡ render old (expr_items e) z)
    (numbered : (x : ℕ) → x < length ns → (z : State) → puts (two x) z ≡ put_name old (name_at ns x) z)
    (fresh : Fresh [] ns) where
  output-alike : (i : ℕ) (n : Name) (e : Expr) → i < length ns → name_at ns i ≡ n → Alike old (value_t s t qualified ns i 8 0) (expr_items e) → Alike old (output_t s t qualified ns i) (equation_items (output_equation n e))
  unfolding output_t render put_item name_items
  output-alike i n e h f g = λ z.
      ap (render old (value_t s t qualified ns i 8 0)) (numbered i h (puts (two 1) z) ∙ ap (λ (x : Name). put_name old x (puts (two 1) z)) f)
      ∙ g (put_name old n (puts (two 1) z)) ∙ ap (λ (is : List Item). render old is z) (sym (equation-parts n e))

  value-top : (x : ResolvedMachine) (q j i : ℕ) (n : Name) (d : Expr) → HeldR ns s t reg qualified 0 0 8 1 0 0 (r_cons x.initial true x.states r_nil) q j → Peopled x.states → WholeS x.states → i < length ns → name_at ns i ≡ n → all_states_cover n x.states ≡ true
      → Alike old (value_t s t qualified ns i 8 0) (expr_items (value_s n d 0 1 x.states))
  value-top x q j i n d (g_more row rg lt f pr fu st more) w v h e c = λ z.
      value-held ns s offsets t reg qualified old named copied fresh i h d 0 x.states row st w v (ap (λ (y : Name). all_states_cover y x.states) e ∙ c) z
      ∙ ap (λ (y : Name). render old (expr_items (value_s y d 0 1 x.states)) z) e

  outputs-end : (p : ℕ) (x : ResolvedMachine) → outputs_t s t qualified ns 0 p ≡ each equation_items (output_equations x [])
  unfolding outputs_t output_equations each
  outputs-end p x = refl

  outputs-step : (n p i o : ℕ) → (number_in s p).value ≡ i → end_of (port_in ns s p) ≡ o → outputs_t s t qualified ns (suc n) p ≡ output_t s t qualified ns i ++ outputs_t s t qualified ns n o
  unfolding outputs_t
  outputs-step n p i o e f = λ k. output_t s t qualified ns (e k) ++ outputs_t s t qualified ns n (f k)

  equations-step : (x : ResolvedMachine) (p : Port) (ps : List Port) → equation_items (output_equation p.name (value_s p.name (default_expr_for_type p.ty) 0 1 x.states)) ++ each equation_items (output_equations x ps) ≡ each equation_items (output_equations x (p ∷ ps))
  unfolding output_equations output_equation each
  equations-step x p ps = refl

  outputs-alike : (x : ResolvedMachine) (q j : ℕ) → HeldR ns s t reg qualified 0 0 8 1 0 0 (r_cons x.initial true x.states r_nil) q j → Peopled x.states → WholeS x.states → (n p : ℕ) (ps : List Port) (u : ℕ) → many (port_in ns s) n p ≡ value ps u → uncovered x.name x.states ps ≡ none
      → Alike old (outputs_t s t qualified ns n p) (each equation_items (output_equations x ps))
  outputs-alike x q j h w v zero p [] u e c = alike-by old _ _ (outputs-end p x)
  outputs-alike x q j h w v zero p (y ∷ ps) u e c = absurd (many-cut (port_in ns s) p y ps u e)
  outputs-alike x q j h w v (suc n) p [] u e c = absurd (many-over (port_in ns s) n p u e)
  outputs-alike x q j h w v (suc n) p (y ∷ ps) u e c = λ z.
      let a = many_more (port_in ns s) n p y ps u e in
      let m = port-value ns s p y a.0 a.1 in
      let d = output-covered x.name x.states y ps c in
      ap (λ (is : List Item). render old is z) (outputs-step n p m.i a.0 m.is (end-to (port_in ns s p) y a.0 a.1))
      ∙ alike-append old _ _ _ _ (output-alike m.i y.name (value_s y.name (default_expr_for_type y.ty) 0 1 x.states) m.small m.named (value-top x q j m.i y.name (default_expr_for_type y.ty) h w v m.small m.named d.0))
      (outputs-alike x q j h w v n a.0 ps u a.2 d.1) z
      ∙ ap (λ (is : List Item). render old is z) (equations-step x y ps)

  -- the equations of the outputs of a machine whose top region is held at the word 0, and whose ports stand at `at`
  pub outputs-machine : (x : ResolvedMachine) (q j at u : ℕ) → HeldR ns s t reg qualified 0 0 8 1 0 0 (r_cons x.initial true x.states r_nil) q j → ports_in ns s at ≡ value x.outputs u → Accepted x
      → Alike old (port_outputs_t s t qualified ns at) (each equation_items (output_equations x x.outputs))
  unfolding port_outputs_t ports_in counted
  outputs-machine x q j at u h e c = λ z.
      let b = bind-value (u16 s at) _ x.outputs u e in
      ap (λ (is : List Item). render old is z) (number-to s at b.0 b.1 _ b.2)
      ∙ outputs-alike x q j h c.peopled c.whole b.0 b.1 x.outputs u b.3 c.covered z

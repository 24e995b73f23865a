-- All equations of a machine that is not refused, written from its layout on a pack that was read, are those of the definition.
use Prim.Native.Nat.{ℕ, suc, ◌-◌, ◌<◌}
use mathlib.Core.List.{List, [], ◌∷◌, ◌++◌, append_assoc, append-nil}
use mathlib.Core.Bool.{true}
use mathlib.Core.Option.{none}
use mathlib.Core.Path.{◌≡◌, sym, ap, subst, ◌∙◌}
use lib.ListN.{length, get_or}
use Rattle.wire.specs.Answer.{value}
use Rattle.wire.specs.Bytes.{two}
use Rattle.wire.specs.Lists.{All, Bytes}
use Rattle.wire.specs.Writer.{State, puts}
use Rattle.pack_rules.specs.Names.{Name}
use Rattle.pack_rules.specs.Syntax.{Expr}
use Rattle.machine_rules.specs.Resolved.{ResolvedMachine, r_cons, r_nil}
use Rattle.pack_rules.specs.Forms.{name_at}
use Rattle.pack_rules.specs.Legal.{Each, Fresh, LegalName, place}
use Rattle.pack_rules.specs.Read.{expr_in, ports_in}
use Rattle.pack_rules.specs.Write.{Item, each, equation_items, expr_items, nm, raw}
use Rattle.pack.specs.Table.{tabled}
use Rattle.pack.specs.Intern.{put_item, put_name, render}
use Rattle.pack.proofs.Copies.{copied-expr, render-known}
use Rattle.pack.proofs.Tables.{code, place-at-name}
use Rattle.machines.specs.Layout.{HeldR, slice_of}
use Rattle.machine_rules.specs.Lower.{equations_of, equations_s, output_equations, size_s, top_equations}
use Rattle.machine_rules.specs.Checks.{refusal_of}
use Rattle.machines.specs.EmitAt.{pack_name, regions_t}
use Rattle.machines.specs.ValueAt.{port_outputs_t}
use Rattle.machines.proofs.NamesPlaced.{SpotAt}
use Rattle.machines.proofs.LocalLaws.{each_append}
use Rattle.machines.proofs.ChainsEmitted.{Alike, alike-append}
use Rattle.machines.proofs.EquationsEmitted.{equations-machine}
use Rattle.machines.proofs.Accepted.{accepted}
use Rattle.machines.proofs.OutputsEmitted.{outputs-machine}

-- names that are all legal and stand once, and a pack of bytes
module _ (ns : List Name) (fresh : Fresh [] ns) (legal : All LegalName ns) (few : length ns < 65536) (s : List ℕ) (by : Bytes s) where
  -- an expression that was read is written by its bytes, an old name by its number
  pub copied-raw : (a b : ℕ) (e : Expr) → expr_in ns s a ≡ value e b → (z : State) → render (tabled ns) (raw (slice_of s a (b - a)) ∷ []) z ≡ render (tabled ns) (expr_items e) z
  unfolding render put_item slice_of
  copied-raw a b e h z = sym (copied-expr ns fresh legal s by few a e b h z)

  pub numbered : (x : ℕ) → x < length ns → (z : State) → puts (two x) z ≡ put_name (tabled ns) (name_at ns x) z
  unfolding render put_item code Each
  numbered x h z =
      let p = place-at-name ns x fresh h in
      ap (λ (y : ℕ). puts (two y) z) (sym p) ∙ ap (λ (l : List ℕ). puts l z) (sym (append-nil (two (place ns (name_at ns x)))))
      ∙ sym (render-known ns (nm (name_at ns x) ∷ []) z legal (subst (λ (y : ℕ). y < length ns) (sym p) h, tt))

  module _ (offsets t reg qualified : List ℕ) (spot : (i : ℕ) → i < length ns → SpotAt s (get_or offsets i 0) (name_at ns i)) where
    named-spot : (x : ℕ) → x < length ns → pack_name s offsets x ≡ name_at ns x
    unfolding pack_name
    named-spot x h = (spot x h).is

    equations-split : (x : ResolvedMachine) → each equation_items (equations_of x) ≡ each equation_items (top_equations x.initial x.states ++ equations_s true 0 1 x.states) ++ each equation_items (output_equations x x.outputs)
    unfolding equations_of
    equations-split x =
        ap (each equation_items) (sym (append_assoc (top_equations x.initial x.states) (equations_s true 0 1 x.states) (output_equations x x.outputs)))
        ∙ each_append equation_items (top_equations x.initial x.states ++ equations_s true 0 1 x.states) (output_equations x x.outputs)

    -- THE LAW: the equations of the regions and of the outputs
    pub machine-equations : (x : ResolvedMachine) (q j at u : ℕ) → HeldR ns s t reg qualified 0 0 8 1 0 0 (r_cons x.initial true x.states r_nil) q j → ports_in ns s at ≡ value x.outputs u → refusal_of x ≡ none
        → Alike (tabled ns) (regions_t s offsets t qualified ns reg 0 (suc (size_s x.states)) ++ port_outputs_t s t qualified ns at) (each equation_items (equations_of x))
    machine-equations x q j at u h e c = λ z.
        alike-append (tabled ns) _ _ _ _ (equations-machine ns s offsets t reg qualified (tabled ns) named-spot copied-raw x q j h) (outputs-machine ns s offsets t reg qualified (tabled ns) named-spot copied-raw numbered fresh x q j at u h e (accepted x c)) z
        ∙ ap (λ (is : List Item). render (tabled ns) is z) (sym (equations-split x))

-- What the code writes of a holder's row is the holder's equation.
use Prim.Native.Nat.{ℕ, ◌-◌, ◌<◌}
use native.Mathlib.Omega.{arith}
use mathlib.Core.List.{List, [], ◌∷◌}
use mathlib.Core.Option.{Option, none, some, none-ne-some}
use mathlib.Core.Path.{◌≡◌, refl, sym, ap, ◌∙◌}
use lib.ListN.{length, get_or, take, drop}
use borrow.Author.Tests.{eq-eqb, ne_eqb}
use Rattle.wire.specs.Answer.{counted, value}
use Rattle.wire.specs.Bytes.{two}
use Rattle.wire.specs.Lists.{All, Bytes}
use Rattle.wire.specs.Writer.{State, put, puts}
use Rattle.pack_rules.specs.Names.{Name}
use Rattle.pack_rules.specs.Report.{first_of}
use Rattle.pack_rules.specs.Syntax.{Enum, Expr, Ty, e_arrow, e_const, e_pre, e_var}
use Rattle.pack_rules.specs.Forms.{name_at}
use Rattle.pack_rules.specs.Legal.{Fresh, LegalName}
use Rattle.pack_rules.specs.Read.{enum_in, expr_in}
use Rattle.pack_rules.specs.Write.{each, equation_items, expr_items, list, lit_bytes, name_items, nm, raw}
use Rattle.pack.specs.Table.{tabled}
use Rattle.pack.specs.Intern.{put_item, put_name, render}
use Rattle.pack.proofs.Copies.{copied-expr}
use Rattle.pack.proofs.Interns.{render-append}
use Rattle.machines.specs.Layout.{slice_of}
use Rattle.machines.specs.EmitAt.{pack_name}
use Rattle.machines.proofs.CheckedReadLaws.{end-to}
use Rattle.machines.proofs.MachineEmitted.{numbered}
use Rattle.activations.specs.declared.pack_info.PackInfo.{PackInfo}
use Rattle.std.specs.Prelude.{Option as Maybe, Some, None}
use Rattle.activations.specs.declared.types.TypeDefault.{TypeDefault}
use Rattle.activations.specs.declared.types.TypeDefault.TheVariants as sr
use Rattle.activation_rules.specs.MadeNames.{last_var}
use Rattle.activation_rules.specs.Defines.{eqn}
use Rattle.activation_rules.specs.Defaults.{default_of}
use Rattle.activation_rules.specs.Sought.{Sought}
use Rattle.activation_rules.specs.Holders.{holder_equation}
use Rattle.activations.specs.Walks.{InitAt}
use Rattle.activations.specs.TypesAt.{Coded, DefaultIn, default_expr, default_t, zero_of}
use Rattle.activations.specs.FirstVariantsAt.{FirstsAre}
use Rattle.activations.specs.LastsAt.{RowInit, RowIs, word_t}
use Rattle.activations.specs.HoldersAt.{default_bytes, holder_items, init_bytes, row_items}
use Rattle.activations.proofs.Starts.{start_is}

-- the expression, where there is one
unfoldable expr_or : Expr → Option Expr → Expr
expr_or d none = d
expr_or d (some e) = e

equation-steps : (old : List ℕ) (n v : Name) (e : Expr) (z : State) → render old (equation_items (eqn n (e_arrow e (e_pre (e_var v))))) z ≡ render old (raw (5 ∷ []) ∷ raw (1 ∷ []) ∷ nm v ∷ []) (render old (expr_items e) (render old (raw (two 1) ∷ nm n ∷ raw (6 ∷ []) ∷ []) z))
unfolding equation_items eqn list each name_items expr_items render put_item
equation-steps old n v e z = render-append old (expr_items e) (raw (5 ∷ []) ∷ raw (1 ∷ []) ∷ nm v ∷ []) (puts (6 ∷ []) (put_name old n (puts (two 1) z)))

module _ (ns : List Name) (fresh : Fresh [] ns) (legal : All LegalName ns) (few : length ns < 65536) (s : List ℕ) (by : Bytes s) where
  literal-written : (tag : ℕ) (z : State) → puts (0 ∷ lit_bytes (zero_of tag)) z ≡ render (tabled ns) (expr_items (e_const (zero_of tag))) z
  unfolding expr_items render put_item
  literal-written tag z = refl

  name-written : (v : ℕ) → v < length ns → (z : State) → puts (1 ∷ two v) z ≡ render (tabled ns) (expr_items (e_var (name_at ns v))) z
  unfolding expr_items render put_item puts
  name-written v l z = numbered ns fresh legal few s by v l (put 1 z)

  start-written : (t : Maybe TypeDefault) (e : Expr) → default_expr ns t ≡ some e → DefaultIn ns t → (z : State) → puts (default_bytes t) z ≡ render (tabled ns) (expr_items e) z
  unfolding default_expr DefaultIn default_bytes expr_or
  start-written None e h i z = absurd (none-ne-some e h)
  start-written (Some (sr.Literal tag)) e h i z = literal-written tag z ∙ ap (λ y. render (tabled ns) (expr_items (expr_or e y)) z) h
  start-written (Some (sr.Name v)) e h i z = name-written v i z ∙ ap (λ y. render (tabled ns) (expr_items (expr_or e y)) z) h

  module _ (b : PackInfo) (enums : List Enum) (q : ℕ) (E : counted (enum_in ns s) s b.enums ≡ value enums q) (offsets : List ℕ) (F : FirstsAre ns s b.enums offsets) where
    init-written : (i : Option Expr) (init c : ℕ) (t : Ty) (e : Expr) → RowInit ns s i init → Coded ns s c (some t) → first_of i (default_of enums t) ≡ some e → (z : State) → puts (init_bytes ns s b offsets init c) z ≡ render (tabled ns) (expr_items e) z
    unfolding init_bytes RowInit InitAt first_of expr_or slice_of
    init-written none init c t e r h f z =
        let k = start_is ns fresh few s by b.enums enums q E offsets F c t h in
        rw (eq-eqb init 0 r.1) (start-written (default_t ns s b.enums offsets c) e (k.0 ∙ f) k.1 z)
    init-written (some d) init c t e r h f z =
        rw (ne_eqb init 0 (λ y. let l = r.1.0 in omega arith))
        (ap (λ y. puts (take (y - init) (drop init s)) z) (end-to (expr_in ns s init) d r.0 r.1.1)
        ∙ sym (copied-expr ns fresh legal s by few init d r.0 r.1.1 z)
        ∙ ap (λ y. render (tabled ns) (expr_items (expr_or e y)) z) f)

    -- THE LINK: a row whose type and initial value are known
    pub row_written : ((i : ℕ) → i < length ns → pack_name s offsets i ≡ name_at ns i) → (a : Name) (env lasts : List ℕ) (h : ℕ) (x : Sought) (t : Ty) (e : Expr) → RowIs ns s lasts h x → Coded ns s (get_or env (word_t lasts h 2) 0) (some t) → first_of x.init (default_of enums t) ≡ some e
        → (z : State) → render (tabled ns) (row_items ns s b offsets a env lasts h) z ≡ render (tabled ns) (equation_items (holder_equation a x.var e)) z
    unfolding row_items holder_items RowIs holder_equation render put_item puts
    row_written placed a env lasts h x t e r k f z =
        let v = word_t lasts h 0 in
        let n : pack_name s offsets v ≡ x.var = placed v r.0 ∙ r.1 in
        let y = put 6 (put_name (tabled ns) (last_var a x.var) (puts (two 1) z)) in
        ap (λ m. puts (two v) (put 1 (put 5 (puts (init_bytes ns s b offsets (word_t lasts h 1) (get_or env (word_t lasts h 2) 0)) (put 6 (put_name (tabled ns) (last_var a m) (puts (two 1) z))))))) n
        ∙ ap (λ w. puts (two v) (put 1 (put 5 w))) (init-written x.init (word_t lasts h 1) (get_or env (word_t lasts h 2) 0) t e r.2 k f y)
        ∙ numbered ns fresh legal few s by v r.0 (put 1 (put 5 (render (tabled ns) (expr_items e) y)))
        ∙ ap (λ m. put_name (tabled ns) m (put 1 (put 5 (render (tabled ns) (expr_items e) y)))) r.1
        ∙ sym (equation-steps (tabled ns) (last_var a x.var) x.var e z)

-- Laws of a region's equations as the code writes them.
use Prim.Native.Nat.{ℕ, zero, suc, ◌+◌, ◌<◌, ◌≤◌, min, zero-le}
use native.Mathlib.Omega.{arith}
use native.Mathlib.Nat.{zero-add}
use native.Mathlib.Numerals.{add-one}
use mathlib.Core.List.{List, [], ◌∷◌, ◌++◌}
use mathlib.Core.Bool.{Bool, true, false, cond}
use mathlib.Core.Logic.{⊎_elim}
use mathlib.Core.Path.{◌≡◌, refl, sym, ap, ◌∙◌}
use lib.ListN.{length, get_or, take}
use lib.Dec.{eqb, leb}
use borrow.Author.Tests.{eq-eqb, ne_eqb, le-leb, lt-leb}
use Rattle.wire.specs.declared.writer.Writer.{Writer}
use Rattle.wire.specs.Writer.{State, full, put, puts, st, state_of}
use Rattle.wire.proofs.Writers.{lt-or-le, puts-fit, take_part}
use Rattle.pack_rules.specs.Names.{Name}
use Rattle.pack_rules.specs.Syntax.{e_var}
use Rattle.pack_rules.specs.Forms.{flag_of}
use Rattle.pack_rules.specs.Write.{Item, equation_items, expr_items, list, name_items}
use Rattle.pack.specs.Intern.{put_item, render}
use Rattle.pack.proofs.Interns.{name-long, render-append}
use Rattle.pack.proofs.Written.{render-full}
use Rattle.machines.specs.declared.made_names.Var.TheVariants as vr
use Rattle.machine_rules.specs.MadeNames.{active_var, next_var, state_var}
use Rattle.machines.specs.Vars.{var_name}
use Rattle.machine_rules.specs.Lower.{previous_next, state_rhs}
use Rattle.machines.specs.Equations.{active_equation, state_equation}
use Rattle.machines.specs.EmitAt.{active_t, chain_t, in_region, letters_at, next_rhs_t, next_t, region_t, regions_t, state_t}
use Rattle.machines.proofs.TermLaws.{held-term, state-equation, state-history, state-restart, var-term}

-- the top region, an inner one
pub active-none : (old t qualified : List ℕ) (q id : ℕ) (s : State) → id ≡ get_or t (q + 5) 0 → id ≡ 0 → s ≡ render old (active_t t qualified q) s
unfolding active_t render
active-none old t qualified q id s e h = rw (eq-eqb (get_or t (q + 5) 0) 0 (sym e ∙ h))

active-is : (old t qualified : List ℕ) (q : ℕ) (s : State) → (get_or t (q + 5) 0 ≡ 0 → ⊥) → render old (equation_items (active_equation (get_or t (q + 5) 0) (eqb (get_or t (q + 8) 0) 0) (get_or t (q + 8) 0) (letters_at t qualified (get_or t (q + 7) 0)))) s ≡ render old (active_t t qualified q) s
unfolding active_t
active-is old t qualified q s h = rw (ne_eqb (get_or t (q + 5) 0) 0 h)

pub active-some : (old t qualified n : List ℕ) (q id up p : ℕ) (top : Bool) (s : State) → id ≡ get_or t (q + 5) 0 → (id ≡ 0 → ⊥) → up ≡ get_or t (q + 8) 0 → p ≡ get_or t (q + 7) 0 → n ≡ letters_at t qualified p → top ≡ eqb up 0 → render old (equation_items (active_equation id top up n)) s ≡ render old (active_t t qualified q) s
active-some old t qualified n q id up p top s a h b c d e =
    let f : top ≡ eqb (get_or t (q + 8) 0) 0 = e ∙ ap (λ (y : ℕ). eqb y 0) b in
    let g : n ≡ letters_at t qualified (get_or t (q + 7) 0) = d ∙ ap (letters_at t qualified) c in
    (λ i. render old (equation_items (active_equation (a i) (f i) (b i) (g i))) s) ∙ active-is old t qualified q s (λ z. h (a ∙ z))

-- a name that is too long fills the writer
var-long : (old n : List ℕ) (s : State) → 255 < length n → render old (expr_items (e_var n)) s ≡ full
var-long old n s h = sym (var-term old n s) ∙ sym (name-long old n (put 1 s) h)

put_full : (b : ℕ) → put b full ≡ full
unfolding put
put_full b = refl

held-long : (old i : List ℕ) (id : ℕ) (s : State) → 255 < length i → render old (expr_items (previous_next id i)) s ≡ full
held-long old i id s h =
    sym (held-term old i id s)
    ∙ ap (λ (x : State). render old (expr_items (e_var (var_name vr.Next id))) (put 5 x)) (var-long old i (put 6 s) h)
    ∙ ap (render old (expr_items (e_var (var_name vr.Next id)))) (put_full 5)
    ∙ render-full old (expr_items (e_var (var_name vr.Next id)))

rhs-long : (old i : List ℕ) (id : ℕ) (h : Bool) (s : State) → 255 < length i → render old (expr_items (state_rhs id i h)) s ≡ full
rhs-long old i id true s l = sym (state-history old i id true s refl) ∙ held-long old i id s l
rhs-long old i id false s l = sym (state-restart old i id false s refl) ∙ held-long old i id _ l

state-long : (old i : List ℕ) (id : ℕ) (h : Bool) (s : State) → 255 < length i → full ≡ render old (equation_items (state_equation id i h)) s
state-long old i id h s l = sym (rhs-long old i id h (render old (list name_items (var_name vr.State id ∷ [])) s) l) ∙ state-equation old i id h s

-- a text in a buffer of 255 bytes: too long, or there
module _ (buf n : List ℕ) (v : Writer) (e : state_of buf [] v ≡ puts n (st 255 0 [] [])) where
  text-fit : state_of buf [] v ≡ cond (leb (length n) 255) (st 255 0 n []) full
  text-fit = e ∙ puts-fit 255 0 [] n [] zero-le ∙ rw zero-add

  pub built-over : v.full ≡ true → 255 < length n
  unfolding state_of
  built-over f = ⊎_elim
      (λ (o : 255 < length n). o)
      (λ (o : length n ≤ 255).
      let g : full ≡ st 255 0 n [] = rw (f, le-leb _ _ o) at text-fit in
      absurd (let z : ◌≡◌ {A = ℕ} 0 1 = cc in omega arith))
      (lt-or-le 255 (length n))

  built-at : v.full ≡ false → (take v.at buf ≡ n) × (length buf ≡ 255)
  unfolding state_of
  built-at f = ⊎_elim
      (λ (o : 255 < length n).
      let g : st (length buf) 0 (take v.at buf) (take v.made []) ≡ full = rw (f, lt-leb _ _ o) at text-fit in
      absurd (let z : ◌≡◌ {A = ℕ} 0 1 = cc in omega arith))
      (λ (o : length n ≤ 255).
      let g : st (length buf) 0 (take v.at buf) (take v.made []) ≡ st 255 0 n [] = rw (f, le-leb _ _ o) at text-fit in
      (cc, cc))
      (lt-or-le 255 (length n))

  pub built-text : (k : ℕ) → v.full ≡ false → k ≡ min v.at 255 → take k buf ≡ n
  built-text k f h = take_part buf v.at k (h ∙ ap (min v.at) (sym (built-at f).1)) ∙ (built-at f).0

-- a region's state, by whether its initial state's name is too long
module _ (old sb offsets t qualified : List ℕ) where
  state-parts : (q id x : ℕ) (i : Name) (h : Bool) (s : State) → id ≡ get_or t (q + 5) 0 → x ≡ get_or t q 0 → h ≡ flag_of (get_or t (q + 1) 0) → i ≡ in_region sb offsets t qualified q x → render old (equation_items (state_equation id i h)) s ≡ render old (state_t sb offsets t qualified q) s
  unfolding state_t
  state-parts q id x i h s a b c d =
      let f : i ≡ in_region sb offsets t qualified q (get_or t q 0) = d ∙ ap (in_region sb offsets t qualified q) b in
      λ j. render old (equation_items (state_equation (a j) (f j) (c j))) s

  flag_is : (q y : ℕ) (h : Bool) → h ≡ eqb y 1 → y ≡ get_or t (q + 1) 0 → h ≡ flag_of (get_or t (q + 1) 0)
  unfolding flag_of
  flag_is q y h a b = a ∙ ap (λ (k : ℕ). eqb k 1) b

  pub state-some : (q id x y : ℕ) (i : Name) (h : Bool) (s : State) → id ≡ get_or t (q + 5) 0 → x ≡ get_or t q 0 → y ≡ get_or t (q + 1) 0 → h ≡ eqb y 1 → i ≡ in_region sb offsets t qualified q x → render old (equation_items (state_equation id i h)) s ≡ render old (state_t sb offsets t qualified q) s
  state-some q id x y i h s a b c d e = state-parts q id x i h s a b (flag_is q y h d c) e

  pub state-over : (q x : ℕ) (s : State) → x ≡ get_or t q 0 → 255 < length (in_region sb offsets t qualified q x) → full ≡ render old (state_t sb offsets t qualified q) s
  unfolding state_t
  state-over q x s b l =
      state-long old (in_region sb offsets t qualified q x) (get_or t (q + 5) 0) (flag_of (get_or t (q + 1) 0)) s l
      ∙ ap (λ (y : ℕ). render old (equation_items (state_equation (get_or t (q + 5) 0) (in_region sb offsets t qualified q y) (flag_of (get_or t (q + 1) 0)))) s) b

module _ (old sb offsets t qualified : List ℕ) (ns : List Name) where
  -- a region's next state: the top one, an inner one
  pub next-top : (q id : ℕ) (x s : State) → id ≡ get_or t (q + 5) 0 → id ≡ 0 → x ≡ render old (chain_t sb offsets t qualified ns q (get_or t (q + 6) 0) (q + 9)) s → x ≡ render old (next_rhs_t sb offsets t qualified ns q) s
  unfolding next_rhs_t
  next-top q id x s e h f = rw (eq-eqb (get_or t (q + 5) 0) 0 (sym e ∙ h)) f

  next-parts : (q : ℕ) (s : State) → (get_or t (q + 5) 0 ≡ 0 → ⊥) → render old (expr_items (e_var (var_name vr.State (get_or t (q + 5) 0)))) (render old (chain_t sb offsets t qualified ns q (get_or t (q + 6) 0) (q + 9)) (render old (expr_items (e_var (var_name vr.Active (get_or t (q + 5) 0)))) (put 4 s))) ≡ render old (next_rhs_t sb offsets t qualified ns q) s
  unfolding next_rhs_t var_name render put_item puts
  next-parts q s h = rw (ne_eqb (get_or t (q + 5) 0) 0 h) (joined (expr_items (e_var (active_var (get_or t (q + 5) 0)))) (chain_t sb offsets t qualified ns q (get_or t (q + 6) 0) (q + 9)) (expr_items (e_var (state_var (get_or t (q + 5) 0)))))
    where
      joined : (a b c : List Item) → render old c (render old b (render old a (put 4 s))) ≡ render old (a ++ (b ++ c)) (put 4 s)
      joined a b c = sym (render-append old a (b ++ c) (put 4 s) ∙ render-append old b c (render old a (put 4 s)))

  pub next-inner : (q id : ℕ) (s : State) → id ≡ get_or t (q + 5) 0 → (id ≡ 0 → ⊥) → render old (expr_items (e_var (var_name vr.State id))) (render old (chain_t sb offsets t qualified ns q (get_or t (q + 6) 0) (q + 9)) (render old (expr_items (e_var (var_name vr.Active id))) (put 4 s))) ≡ render old (next_rhs_t sb offsets t qualified ns q) s
  next-inner q id s e h =
      (λ i. render old (expr_items (e_var (var_name vr.State (e i)))) (render old (chain_t sb offsets t qualified ns q (get_or t (q + 6) 0) (q + 9)) (render old (expr_items (e_var (var_name vr.Active (e i)))) (put 4 s))))
      ∙ next-parts q s (λ z. h (e ∙ z))

  pub next-equation : (q id : ℕ) (s : State) → id ≡ get_or t (q + 5) 0 → render old (next_rhs_t sb offsets t qualified ns q) (render old (list name_items (var_name vr.Next id ∷ [])) s) ≡ render old (next_t sb offsets t qualified ns q) s
  unfolding next_t var_name
  next-equation q id s e =
      ap (λ (y : ℕ). render old (next_rhs_t sb offsets t qualified ns q) (render old (list name_items (next_var y ∷ [])) s)) e
      ∙ sym (render-append old (list name_items (next_var (get_or t (q + 5) 0) ∷ [])) (next_rhs_t sb offsets t qualified ns q) s)

  pub region-term : (q : ℕ) (s : State) → render old (next_t sb offsets t qualified ns q) (render old (state_t sb offsets t qualified q) (render old (active_t t qualified q) s)) ≡ render old (region_t sb offsets t qualified ns q) s
  unfolding region_t
  region-term q s =
      sym (render-append old (active_t t qualified q) (state_t sb offsets t qualified q ++ next_t sb offsets t qualified ns q) s
      ∙ render-append old (state_t sb offsets t qualified q) (next_t sb offsets t qualified ns q) (render old (active_t t qualified q) s))

  regions-step : (reg : List ℕ) (i n : ℕ) (s : State) → render old (regions_t sb offsets t qualified ns reg i (suc n)) s ≡ render old (regions_t sb offsets t qualified ns reg (suc i) n) (render old (region_t sb offsets t qualified ns (get_or reg i 0)) s)
  unfolding regions_t
  regions-step reg i n s = render-append old (region_t sb offsets t qualified ns (get_or reg i 0)) (regions_t sb offsets t qualified ns reg (suc i) n) s

  -- the loop over regions: one more, and the end
  pub regions-more : (reg : List ℕ) (i n k q : ℕ) (x s z : State) → n ≡ suc k → q ≡ get_or reg i 0 → x ≡ render old (region_t sb offsets t qualified ns q) s → render old (regions_t sb offsets t qualified ns reg i n) s ≡ z → render old (regions_t sb offsets t qualified ns reg (i + 1) k) x ≡ z
  regions-more reg i n k q x s z l a e h =
      (λ y. render old (regions_t sb offsets t qualified ns reg (add-one i y) k) ((e ∙ ap (λ (x : ℕ). render old (region_t sb offsets t qualified ns x) s) a) y))
      ∙ sym (regions-step reg i k s) ∙ ap (λ (y : ℕ). render old (regions_t sb offsets t qualified ns reg i y) s) (sym l) ∙ h

  pub regions-none : (reg : List ℕ) (i n : ℕ) (s z : State) → n ≤ 0 → render old (regions_t sb offsets t qualified ns reg i n) s ≡ z → s ≡ z
  unfolding regions_t render
  regions-none reg i zero s z l h = h
  regions-none reg i (suc n) s z l h = absurd (omega arith)

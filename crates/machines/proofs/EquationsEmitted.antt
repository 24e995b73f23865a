-- The equations of regions that are written from the layout are those of the definition.
use Prim.Native.Nat.{ℕ, zero, suc, ◌+◌, ◌-◌, ◌<◌}
use native.Mathlib.Nat.{zero-add, suc-add}
use native.Mathlib.Omega.{arith}
use mathlib.Core.List.{List, [], ◌∷◌, ◌++◌, append_assoc, append-nil}
use mathlib.Core.Bool.{Bool, true, false}
use mathlib.Core.Path.{◌≡◌, refl, sym, ap, ◌∙◌}
use lib.ListN.{length, get_or}
use lib.Dec.{eqb}
use borrow.Author.Tests.{eq-eqb, ne_eqb}
use Rattle.wire.specs.Answer.{value}
use Rattle.wire.specs.Writer.{State}
use Rattle.pack_rules.specs.Names.{Name}
use Rattle.pack_rules.specs.Syntax.{Equation, Expr, e_if, e_var}
use Rattle.machine_rules.specs.Resolved.{ResolvedMachine, ResolvedRegions, ResolvedStates, r_cons, r_nil, s_cons, s_nil}
use Rattle.pack_rules.specs.Forms.{flag_of, name_at}
use Rattle.pack_rules.specs.Read.{expr_in}
use Rattle.pack_rules.specs.Write.{Item, each, equation_items, expr_items, list, name_items, raw}
use Rattle.pack.specs.Intern.{render}
use Rattle.machine_rules.specs.MadeNames.{active_var, next_var, state_var}
use Rattle.machines.specs.Layout.{HeldR, HeldS, RegionRow, g_end, g_more, h_end, h_more, prefix_of, slice_of}
use Rattle.machine_rules.specs.Lower.{active_in, equations_r, equations_s, next_chain, region_equations, size_r, size_s, state_rhs, top_equations}
use Rattle.machines.specs.Equations.{active_equation, state_equation}
use Rattle.machines.specs.EmitAt.{active_t, chain_t, in_region, letters_at, next_rhs_t, next_t, pack_name, region_t, regions_t, state_t}
use Rattle.machines.proofs.LocalLaws.{each_append}
use Rattle.machines.proofs.EnumsEmitted.{id_r, id_s, region-letters, state-letters}
use Rattle.machines.proofs.ChainsEmitted.{Alike, alike-append, alike-by, chain-alike, in-region}

-- the third equation of an inner region, the second of the top one
unfoldable next_equation : ℕ → Expr → Equation
next_equation i e = record { lhs = next_var i ∷ []; rhs = e }

-- whether an inner region is active; the top one is
active-held : {x y a m e i n st up : ℕ} (t qualified : List ℕ) (p : ℕ) (nn : Name) → RegionRow t p x y a m e i n st up → (i ≡ 0 → ⊥) → letters_at t qualified st ≡ nn → active_t t qualified p ≡ equation_items (active_equation i (eqb up 0) up nn)
unfolding active_t
active-held t qualified p nn row h f =
    let g = ap (letters_at t qualified) row.state ∙ f in
    rw (ne_eqb (get_or t (p + 5) 0) 0 (λ z. h (sym row.number ∙ z)))
    (λ j. equation_items (active_equation (row.number j) (eqb (row.holder j) 0) (row.holder j) (g j)))

active-top : {x y a m e i n st up : ℕ} (t qualified : List ℕ) (p : ℕ) → RegionRow t p x y a m e i n st up → i ≡ 0 → active_t t qualified p ≡ []
unfolding active_t
active-top t qualified p row h = rw (eq-eqb (get_or t (p + 5) 0) 0 (row.number ∙ h))

region-parts : (i : ℕ) (b : Bool) (up : ℕ) (nn full : Name) (h : Bool) (ss : ResolvedStates)
    → each equation_items (region_equations i (active_in b up nn) full h ss) ≡ equation_items (active_equation i b up nn) ++ (equation_items (state_equation i full h) ++ (equation_items (next_equation i (e_if (e_var (active_var i)) (next_chain (state_var i) ss) (e_var (state_var i)))) ++ []))
unfolding region_equations active_equation state_equation next_equation each
region-parts i b up nn full h ss = refl

top-parts : (full : Name) (ss : ResolvedStates) → each equation_items (top_equations full ss) ≡ equation_items (state_equation 0 full true) ++ (equation_items (next_equation 0 (next_chain (state_var 0) ss)) ++ [])
unfolding top_equations state_equation state_rhs next_equation each
top-parts full ss = refl

module _ (ns : List Name) (s offsets t reg qualified old : List ℕ)
    (named : (x : ℕ) → x < length ns → pack_name s offsets x ≡ name_at ns x)
    (copied : (a b : ℕ) (e : Expr) → expr_in ns s a ≡ value e b → (z : State) → render old (raw (slice_of s a (b - a)) ∷ []) z ≡ render old (expr_items e) z) where
  region-prefix : {x y a m e i n st up : ℕ} (p : ℕ) (pre : Name) → RegionRow t p x y a m e i n st up → prefix_of (slice_of qualified a m) ≡ pre → prefix_of (letters_at t qualified p) ≡ pre
  region-prefix p pre row f = ap prefix_of (region-letters t qualified p row) ∙ f

  -- a region's state
  state-held : {x y a m e i n st up : ℕ} (p : ℕ) (pre full : Name) (h : Bool) → RegionRow t p x y a m e i n st up → x < length ns → flag_of y ≡ h → prefix_of (slice_of qualified a m) ≡ pre → full ≡ pre ++ name_at ns x → state_t s offsets t qualified p ≡ equation_items (state_equation i full h)
  unfolding state_t
  state-held p pre full h row l f g k =
      let c = in-region ns s offsets t reg qualified old named copied p _ pre _ (region-prefix p pre row g) l refl in
      let d = ap (in_region s offsets t qualified p) row.initial ∙ c ∙ sym k in
      let b = ap flag_of row.history ∙ f in
      λ j. equation_items (state_equation (row.number j) (d j) (b j))

  -- its next state
  chain_held : {x y a m e i n st up v l w q j : ℕ} {pre : Name} (p : ℕ) (ss : ResolvedStates) → RegionRow t p x y a m e i n st up → prefix_of (slice_of qualified a m) ≡ pre → HeldS ns s t reg qualified pre v l n (p + 9) w ss q j
      → Alike old (chain_t s offsets t qualified ns p (get_or t (p + 6) 0) (p + 9)) (expr_items (next_chain (state_var i) ss))
  chain_held p ss row g st = λ z.
      ap (λ (k : ℕ). render old (chain_t s offsets t qualified ns p k (p + 9)) z) row.states
      ∙ chain-alike ns s offsets t reg qualified old named copied p ss (region-prefix p _ row g) st z
      ∙ ap (λ (k : ℕ). render old (expr_items (next_chain (state_var k) ss)) z) row.number

  rhs-inner : {x y a m e i n st up v l w q j : ℕ} {pre : Name} (p : ℕ) (ss : ResolvedStates) → RegionRow t p x y a m e i n st up → (i ≡ 0 → ⊥) → prefix_of (slice_of qualified a m) ≡ pre → HeldS ns s t reg qualified pre v l n (p + 9) w ss q j
      → Alike old (next_rhs_t s offsets t qualified ns p) (raw (4 ∷ []) ∷ (expr_items (e_var (active_var i)) ++ (expr_items (next_chain (state_var i) ss) ++ expr_items (e_var (state_var i)))))
  unfolding next_rhs_t
  rhs-inner {i = i} p ss row h g st =
      rw (ne_eqb (get_or t (p + 5) 0) 0 (λ z. h (sym row.number ∙ z)))
      (alike-append old _ _ _ _ (alike-by old (raw (4 ∷ []) ∷ expr_items (e_var (active_var (get_or t (p + 5) 0)))) (raw (4 ∷ []) ∷ expr_items (e_var (active_var i))) (ap (λ (k : ℕ). raw (4 ∷ []) ∷ expr_items (e_var (active_var k))) row.number))
      (alike-append old _ _ _ _ (chain_held p ss row g st) (alike-by old (expr_items (e_var (state_var (get_or t (p + 5) 0)))) (expr_items (e_var (state_var i))) (ap (λ (k : ℕ). expr_items (e_var (state_var k))) row.number))))

  rhs-top : {x y a m e i n st up v l w q j : ℕ} {pre : Name} (p : ℕ) (ss : ResolvedStates) → RegionRow t p x y a m e i n st up → i ≡ 0 → prefix_of (slice_of qualified a m) ≡ pre → HeldS ns s t reg qualified pre v l n (p + 9) w ss q j
      → Alike old (next_rhs_t s offsets t qualified ns p) (expr_items (next_chain (state_var i) ss))
  unfolding next_rhs_t
  rhs-top p ss row h g st = rw (eq-eqb (get_or t (p + 5) 0) 0 (row.number ∙ h)) (chain_held p ss row g st)

  next-held : {x y a m e i n st up : ℕ} (p : ℕ) (rhs : Expr) → RegionRow t p x y a m e i n st up → Alike old (next_rhs_t s offsets t qualified ns p) (expr_items rhs) → Alike old (next_t s offsets t qualified ns p) (equation_items (next_equation i rhs))
  unfolding next_t equation_items next_equation
  next-held p rhs row h = alike-append old _ _ _ _ (alike-by old _ _ (ap (λ (k : ℕ). list name_items (next_var k ∷ [])) row.number)) h

  if-items : (i : ℕ) (e : Expr) → raw (4 ∷ []) ∷ (expr_items (e_var (active_var i)) ++ (expr_items e ++ expr_items (e_var (state_var i)))) ≡ expr_items (e_if (e_var (active_var i)) e (e_var (state_var i)))
  unfolding expr_items
  if-items i e = refl

  -- the items of three equations, of two
  three-alike : (q : ℕ) (a b c : List Item) → active_t t qualified q ≡ a → state_t s offsets t qualified q ≡ b → Alike old (next_t s offsets t qualified ns q) c → Alike old (region_t s offsets t qualified ns q) (a ++ (b ++ (c ++ [])))
  unfolding region_t
  three-alike q a b c e f g =
      alike-append old (active_t t qualified q) a _ _ (alike-by old _ _ e)
      (alike-append old (state_t s offsets t qualified q) b _ _ (alike-by old _ _ f) (λ z. g z ∙ ap (λ (is : List Item). render old is z) (sym (append-nil c))))

  -- an inner region, the top one
  region-held : {x y a m e n st up v l w q j : ℕ} {pre : Name} (i p : ℕ) (full nn : Name) (h : Bool) (ss : ResolvedStates) → RegionRow t p x y a m e i n st up → (i ≡ 0 → ⊥) → x < length ns → flag_of y ≡ h → prefix_of (slice_of qualified a m) ≡ pre → full ≡ pre ++ name_at ns x → HeldS ns s t reg qualified pre v l n (p + 9) w ss q j → letters_at t qualified st ≡ nn
      → Alike old (region_t s offsets t qualified ns p) (each equation_items (region_equations i (active_in (eqb up 0) up nn) full h ss))
  region-held i p full nn h ss row nz lt f g k st d = λ z.
      three-alike p _ _ _ (active-held t qualified p nn row nz d) (state-held p _ full h row lt f g k)
      (next-held p (e_if (e_var (active_var i)) (next_chain (state_var i) ss) (e_var (state_var i))) row (λ z. rhs-inner p ss row nz g st z ∙ ap (λ (is : List Item). render old is z) (if-items i (next_chain (state_var i) ss)))) z
      ∙ ap (λ (is : List Item). render old is z) (sym (region-parts i _ _ nn full h ss))

  top-held : {x y a m e n st up v l w q j : ℕ} {pre : Name} (i p : ℕ) (full : Name) (ss : ResolvedStates) → RegionRow t p x y a m e i n st up → i ≡ 0 → x < length ns → flag_of y ≡ true → prefix_of (slice_of qualified a m) ≡ pre → full ≡ pre ++ name_at ns x → HeldS ns s t reg qualified pre v l n (p + 9) w ss q j
      → Alike old (region_t s offsets t qualified ns p) (each equation_items (top_equations full ss))
  top-held i p full ss row z0 lt f g k st = λ z.
      three-alike p [] _ _ (active-top t qualified p row z0) (state-held p _ full true row lt f g k) (next-held p (next_chain (state_var i) ss) row (rhs-top p ss row z0 g st)) z
      ∙ ap (λ (k : ℕ). render old (equation_items (state_equation k full true) ++ (equation_items (next_equation k (next_chain (state_var k) ss)) ++ [])) z) z0
      ∙ ap (λ (is : List Item). render old is z) (sym (top-parts full ss))

  -- regions one after the other
  abbrev up_to : ℕ → ℕ → List Item
  up_to i n = regions_t s offsets t qualified ns reg i n

  regions-none : (i : ℕ) → up_to i 0 ≡ []
  unfolding regions_t
  regions-none i = refl

  regions-append : (i a b : ℕ) → up_to i (a + b) ≡ up_to i a ++ up_to (i + a) b
  unfolding regions_t
  regions-append i zero b = let z : i + 0 ≡ i = omega arith in rw (zero-add b, z)
  regions-append i (suc a) b =
      let e : suc i + a ≡ i + suc a = omega arith in
      rw suc-add
      (ap (λ (is : List Item). region_t s offsets t qualified ns (get_or reg i 0) ++ is) (regions-append (suc i) a b ∙ ap (λ (k : ℕ). up_to (suc i) a ++ up_to k b) e)
      ∙ sym (append_assoc (region_t s offsets t qualified ns (get_or reg i 0)) (up_to (suc i) a) (up_to (i + suc a) b)))

  regions-join : (i a b o : ℕ) (xs : List Equation) (ys : ℕ → List Equation) → o ≡ i + a → Alike old (up_to i a) (each equation_items xs) → Alike old (up_to o b) (each equation_items (ys o)) → Alike old (up_to i (a + b)) (each equation_items (xs ++ ys (i + a)))
  regions-join i a b o xs ys e f g = λ z.
      ap (λ (is : List Item). render old is z) (regions-append i a b)
      ∙ alike-append old (up_to i a) (each equation_items xs) (up_to (i + a) b) (each equation_items (ys (i + a))) f
      (λ z. ap (λ (k : ℕ). render old (up_to k b) z) (sym e) ∙ g z ∙ ap (λ (k : ℕ). render old (each equation_items (ys k)) z) e) z
      ∙ ap (λ (is : List Item). render old is z) (sym (each_append equation_items xs (ys (i + a))))

  regions-step : (i p n : ℕ) → get_or reg i 0 ≡ p → up_to i (suc n) ≡ region_t s offsets t qualified ns p ++ up_to (suc i) n
  unfolding regions_t
  regions-step i p n e = ap (λ (k : ℕ). region_t s offsets t qualified ns k ++ up_to (suc i) n) e

  regions-first : (i p n : ℕ) (xs ys : List Equation) → get_or reg i 0 ≡ p → Alike old (region_t s offsets t qualified ns p) (each equation_items xs) → Alike old (up_to (suc i) n) (each equation_items ys) → Alike old (up_to i (suc n)) (each equation_items (xs ++ ys))
  regions-first i p n xs ys e f g = λ z.
      ap (λ (is : List Item). render old is z) (regions-step i p n e)
      ∙ alike-append old (region_t s offsets t qualified ns p) (each equation_items xs) (up_to (suc i) n) (each equation_items ys) f g z
      ∙ ap (λ (is : List Item). render old is z) (sym (each_append equation_items xs ys))

  nothing : (i : ℕ) → Alike old (up_to i 0) (each equation_items [])
  unfolding each
  nothing i = alike-by old _ _ (regions-none i)

  -- the top region alone has the id 0
  below_top : (i n : ℕ) (ss : ResolvedStates) → (i ≡ 0 → ⊥) → Alike old (up_to (suc i) n) (each equation_items (equations_s (eqb i 0) i (suc i) ss)) → Alike old (up_to (suc i) n) (each equation_items (equations_s false i (suc i) ss))
  below_top i n ss h f = λ z. f z ∙ ap (λ (b : Bool). render old (each equation_items (equations_s b i (suc i) ss)) z) (ne_eqb i 0 h)

  later : (i a o : ℕ) → o ≡ i + a → (i ≡ 0 → ⊥) → o ≡ 0 → ⊥
  later i a o e h z = h (omega arith)

  after_first : (i a o : ℕ) → o ≡ suc i + a → o ≡ 0 → ⊥
  after_first i a o e z = omega arith

  -- all equations below, in order of ids
  mutual
    unfolding equations_s equations_r size_s size_r

    pub equations-states : {pre : Name} {l n p q j : ℕ} (up i : ℕ) (ss : ResolvedStates) → HeldS ns s t reg qualified pre up l n p i ss q j → (i ≡ 0 → ⊥) → Alike old (up_to i (size_s ss)) (each equation_items (equations_s (eqb up 0) up i ss))
    equations-states up i s_nil (h_end a b) nz = nothing i
    equations-states up i (s_cons nn es ts rs rest) (h_more row d to f sl ms rg st) nz =
        let e = id_r ns s t reg qualified rs rg in
        regions-join i (size_r rs) (size_s rest) _ _ (λ k. equations_s (eqb up 0) up k rest) e
        (equations-regions up i nn rs rg nz (state-letters t qualified _ nn row sl)) (equations-states up _ rest st (later i (size_r rs) _ e nz))

    pub equations-regions : {st l k p q j : ℕ} (up i : ℕ) (nn : Name) (rs : ResolvedRegions) → HeldR ns s t reg qualified up st l k p i rs q j → (i ≡ 0 → ⊥) → letters_at t qualified st ≡ nn → Alike old (up_to i (size_r rs)) (each equation_items (equations_r (active_in (eqb up 0) up nn) i rs))
    equations-regions up i nn r_nil (g_end a b) nz d = nothing i
    equations-regions up i nn (r_cons full h ss rest) (g_more row rg lt f pr fu st more) nz d = λ z.
        let e = id_s ns s t reg qualified ss st in
        ap (λ (n : ℕ). render old (up_to i n) z) (suc-add (size_s ss) (size_r rest))
        ∙ regions-first i _ (size_s ss + size_r rest) _ _ rg (region-held i _ full nn h ss row nz lt f pr fu st d)
        (regions-join (suc i) (size_s ss) (size_r rest) _ _ (λ k. equations_r (active_in (eqb up 0) up nn) k rest) e
        (below_top i (size_s ss) ss nz (equations-states i (suc i) ss st (λ z. omega arith))) (equations-regions up _ nn rest more (after_first i (size_s ss) _ e) d)) z

  top-regions : {up st l k p q j : ℕ} (i : ℕ) (full : Name) (h : Bool) (ss : ResolvedStates) (rest : ResolvedRegions) → HeldR ns s t reg qualified up st l k p i (r_cons full h ss rest) q j → i ≡ 0 → h ≡ true → Alike old (up_to i (suc (size_s ss))) (each equation_items (top_equations full ss ++ equations_s (eqb i 0) i (suc i) ss))
  top-regions i full h ss rest (g_more row rg lt f pr fu st more) z0 e = regions-first i _ (size_s ss) _ _ rg (top-held i _ full ss row z0 lt (f ∙ e) pr fu st) (equations-states i (suc i) ss st (λ z. omega arith))

  -- the equations of the regions of a machine whose top region is held at the word 0
  pub equations-machine : (x : ResolvedMachine) (q j : ℕ) → HeldR ns s t reg qualified 0 0 8 1 0 0 (r_cons x.initial true x.states r_nil) q j
      → Alike old (regions_t s offsets t qualified ns reg 0 (suc (size_s x.states))) (each equation_items (top_equations x.initial x.states ++ equations_s true 0 1 x.states))
  equations-machine x q j h = top-regions 0 x.initial true x.states r_nil h refl refl

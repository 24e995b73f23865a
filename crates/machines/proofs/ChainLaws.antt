-- Laws of a region's next state as the code writes it.
use Prim.Native.Nat.{ℕ, zero, suc, ◌+◌, ◌-◌, ◌<◌, ◌≤◌}
use native.Mathlib.Omega.{arith}
use mathlib.Core.List.{List}
use mathlib.Core.Path.{◌≡◌, refl, sym, ap, ◌∙◌}
use lib.ListN.{get_or}
use Rattle.wire.specs.Writer.{State, put, puts}
use Rattle.pack_rules.specs.Names.{Name}
use Rattle.pack_rules.specs.Syntax.{e_var}
use Rattle.pack_rules.specs.Read.{expr_in}
use Rattle.pack_rules.specs.Write.{Item, expr_items}
use Rattle.pack.specs.Intern.{put_item, put_name, render}
use Rattle.pack.proofs.Interns.{render-append}
use Rattle.machines.specs.declared.made_names.Var.TheVariants as vr
use Rattle.wire.specs.declared.answer.Number.{Number}
use Rattle.machine_rules.specs.MadeNames.{state_var}
use Rattle.machines.specs.Vars.{var_name}
use Rattle.machines.specs.ResolvedIn.{end_of}
use Rattle.machines.specs.CheckedReads.{number_in, with}
use Rattle.machines.specs.Layout.{slice_of}
use Rattle.machine_rules.specs.Lower.{is_name}
use Rattle.machines.specs.EmitAt.{chain_t, in_region, last_or, letters_at, move_t, moves_t, test_t, transitions_t}
use Rattle.machines.proofs.CheckedReadLaws.{on}

-- the lines of a transition
pub move-term : (old sb offsets t qualified g : List ℕ) (q at e x : ℕ) (s : State) → g ≡ slice_of sb at (e - at) → put_name old (in_region sb offsets t qualified q x) (put 1 (puts g (put 4 s))) ≡ render old (move_t sb offsets t qualified q at e x) s
unfolding move_t render put_item puts
move-term old sb offsets t qualified g q at e x s h = ap (λ (y : List ℕ). put_name old (in_region sb offsets t qualified q x) (put 1 (puts y (put 4 s)))) h

pub test-term : (old t qualified n : List ℕ) (q p id : ℕ) (s : State) → id ≡ get_or t (q + 5) 0 → n ≡ letters_at t qualified p → render old (expr_items (is_name (state_var id) n)) (put 4 s) ≡ render old (test_t t qualified q p) s
unfolding test_t render put_item puts
test-term old t qualified n q p id s e f = λ i. render old (expr_items (is_name (state_var (e i)) (f i))) (put 4 s)

module _ (old sb offsets t qualified : List ℕ) (ns : List Name) where
  moves-step : (q n at : ℕ) (s : State) → render old (moves_t sb offsets t qualified ns q (suc n) at) s ≡ with (number_in sb (end_of (expr_in ns sb at))) (λ x o. render old (moves_t sb offsets t qualified ns q n o) (render old (move_t sb offsets t qualified q at (end_of (expr_in ns sb at)) x) s))
  unfolding moves_t with
  moves-step q n at s = render-append old (move_t sb offsets t qualified q at (end_of (expr_in ns sb at)) _) (moves_t sb offsets t qualified ns q n _) s

  -- the loop over transitions: one more, and the end
  pub moves_more : (q n k at e : ℕ) (x : Number) (y s z : State) → n ≡ suc k → e ≡ end_of (expr_in ns sb at) → x ≡ number_in sb e → y ≡ render old (move_t sb offsets t qualified q at e x.value) s → render old (moves_t sb offsets t qualified ns q n at) s ≡ z → render old (moves_t sb offsets t qualified ns q k x.next) y ≡ z
  moves_more q n k at e x y s z l a b c h =
      ap (render old (moves_t sb offsets t qualified ns q k x.next)) (c ∙ ap (λ (y : ℕ). render old (move_t sb offsets t qualified q at y x.value) s) a)
      ∙ on x (number_in sb (end_of (expr_in ns sb at))) (λ y o. render old (moves_t sb offsets t qualified ns q k o) (render old (move_t sb offsets t qualified q at (end_of (expr_in ns sb at)) y) s)) _ (b ∙ ap (number_in sb) a) refl
      ∙ sym (moves-step q k at s) ∙ ap (λ (y : ℕ). render old (moves_t sb offsets t qualified ns q y at) s) (sym l) ∙ h

  pub moves-none : (q n at id : ℕ) (s z : State) → n ≤ 0 → id ≡ get_or t (q + 5) 0 → render old (moves_t sb offsets t qualified ns q n at) s ≡ z → render old (expr_items (e_var (var_name vr.State id))) s ≡ z
  unfolding moves_t var_name
  moves-none q zero at id s z l e h = ap (λ (y : ℕ). render old (expr_items (e_var (state_var y))) s) e ∙ h
  moves-none q (suc n) at id s z l e h = absurd (omega arith)

  pub transitions-is : (q p at : ℕ) (c : Number) (x s : State) → at ≡ get_or t (p + 1) 0 → c ≡ number_in sb at → x ≡ render old (moves_t sb offsets t qualified ns q c.value c.next) s → x ≡ render old (transitions_t sb offsets t qualified ns q p) s
  unfolding transitions_t
  transitions-is q p at c x s e f g =
      g ∙ ap (λ (is : List Item). render old is s) (on c (number_in sb (get_or t (p + 1) 0)) (λ n o. moves_t sb offsets t qualified ns q n o) _ (f ∙ ap (number_in sb) e) refl)

  chain-step : (q n p : ℕ) (s : State) → render old (chain_t sb offsets t qualified ns q (suc (suc n)) p) s ≡ render old (chain_t sb offsets t qualified ns q (suc n) (get_or t (p + 4) 0)) (render old (transitions_t sb offsets t qualified ns q p) (render old (test_t t qualified q p) s))
  unfolding chain_t last_or
  chain-step q n p s =
      render-append old (test_t t qualified q p) _ s
      ∙ render-append old (transitions_t sb offsets t qualified ns q p) (chain_t sb offsets t qualified ns q (suc n) (get_or t (p + 4) 0)) _

  -- the loop over states: one more, none, and the last
  pub chain_more : (q n k p r : ℕ) (y a s z : State) → n ≡ suc k → 0 < k → a ≡ render old (test_t t qualified q p) s → y ≡ render old (transitions_t sb offsets t qualified ns q p) a → r ≡ get_or t (p + 4) 0 → render old (chain_t sb offsets t qualified ns q n p) s ≡ z → render old (chain_t sb offsets t qualified ns q k r) y ≡ z
  chain_more q n zero p r y a s z l g e f c h = absurd (omega arith)
  chain_more q n (suc k) p r y a s z l g e f c h =
      (λ i. render old (chain_t sb offsets t qualified ns q (suc k) (c i)) ((f ∙ ap (render old (transitions_t sb offsets t qualified ns q p)) e) i))
      ∙ sym (chain-step q k p s) ∙ ap (λ (y : ℕ). render old (chain_t sb offsets t qualified ns q y p) s) (sym l) ∙ h

  pub chain-none : (q n p id : ℕ) (s z : State) → n ≡ 0 → id ≡ get_or t (q + 5) 0 → render old (chain_t sb offsets t qualified ns q n p) s ≡ z → render old (expr_items (e_var (var_name vr.State id))) s ≡ z
  unfolding chain_t var_name
  chain-none q zero p id s z l e h = ap (λ (y : ℕ). render old (expr_items (e_var (state_var y))) s) e ∙ h
  chain-none q (suc n) p id s z l e h = absurd (omega arith)

  pub chain-last : (q n p : ℕ) (s z : State) → n ≤ 1 → (n ≡ 0 → ⊥) → render old (chain_t sb offsets t qualified ns q n p) s ≡ z → render old (transitions_t sb offsets t qualified ns q p) s ≡ z
  unfolding chain_t last_or
  chain-last q zero p s z l e h = absurd (e refl)
  chain-last q (suc zero) p s z l e h = h
  chain-last q (suc (suc n)) p s z l e h = absurd (omega arith)

  chain-start : (q n p r : ℕ) (s : State) → (0 < n → p ≡ r) → render old (chain_t sb offsets t qualified ns q n p) s ≡ render old (chain_t sb offsets t qualified ns q n r) s
  unfolding chain_t
  chain-start q zero p r s h = refl
  chain-start q (suc n) p r s h = ap (λ (y : ℕ). render old (chain_t sb offsets t qualified ns q (suc n) y) s) (h (omega arith))

  -- where the states start matters only where there is one
  pub chain-from : (q k n p r : ℕ) (s : State) → k ≡ n → (0 < n → p ≡ r) → render old (chain_t sb offsets t qualified ns q k p) s ≡ render old (chain_t sb offsets t qualified ns q n r) s
  chain-from q k n p r s e h = ap (λ (y : ℕ). render old (chain_t sb offsets t qualified ns q y p) s) e ∙ chain-start q n p r s h

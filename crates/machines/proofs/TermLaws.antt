-- Laws of the fixed expressions: their items as the code writes them.
use Prim.Native.Nat.{ℕ}
use mathlib.Core.List.{List, [], ◌∷◌, ◌++◌}
use mathlib.Core.Bool.{Bool, true, false}
use mathlib.Core.Path.{◌≡◌, refl, sym, ◌∙◌}
use Rattle.wire.specs.Bytes.{two}
use Rattle.pack_rules.specs.Write.{bin_byte, each, equation_items, expr_items, flag_byte, list, lit_bytes, name_items, un_byte}
use Rattle.machines.specs.Equations.{active_equation, state_equation}
use Rattle.machines.specs.declared.made_names.Var.TheVariants as vr
use Rattle.wire.specs.Writer.{State, put, puts}
use Rattle.pack_rules.specs.Syntax.{e_var}
use Rattle.pack.specs.Intern.{put_item, put_name, render}
use Rattle.pack.proofs.Interns.{render-append}
use Rattle.machine_rules.specs.MadeNames.{active_var, state_var}
use Rattle.machines.specs.Vars.{var_name}
use Rattle.machine_rules.specs.Lower.{active_in, is_name, just_entered, previous_next, state_rhs}

pub var-term : (old n : List ℕ) (s : State) → put_name old n (put 1 s) ≡ render old (expr_items (e_var n)) s
unfolding expr_items render put_item puts
var-term old n s = refl

pub held-term : (old i : List ℕ) (id : ℕ) (s : State) → render old (expr_items (e_var (var_name vr.Next id))) (put 5 (render old (expr_items (e_var i)) (put 6 s))) ≡ render old (expr_items (previous_next id i)) s
unfolding previous_next expr_items render put_item puts var_name
held-term old i id s = refl

pub entered-term : (old : List ℕ) (id : ℕ) (s : State) → render old (expr_items (e_var (var_name vr.Active id))) (puts (6 ∷ 0 ∷ 0 ∷ 1 ∷ 2 ∷ 0 ∷ 5 ∷ []) (render old (expr_items (e_var (var_name vr.Active id))) (puts (3 ∷ 0 ∷ []) s))) ≡ render old (expr_items (just_entered id)) s
unfolding just_entered expr_items lit_bytes un_byte bin_byte flag_byte render put_item puts var_name
entered-term old id s = refl

pub state-history : (old i : List ℕ) (id : ℕ) (h : Bool) (s : State) → h ≡ true → render old (expr_items (previous_next id i)) s ≡ render old (expr_items (state_rhs id i h)) s
unfolding state_rhs
state-history old i id h s e = rw e

pub state-restart : (old i : List ℕ) (id : ℕ) (h : Bool) (s : State) → h ≡ false → render old (expr_items (previous_next id i)) (render old (expr_items (e_var i)) (render old (expr_items (just_entered id)) (put 4 s))) ≡ render old (expr_items (state_rhs id i h)) s
unfolding state_rhs expr_items render put_item puts
state-restart old i id h s e =
    rw e
    (sym (render-append old (expr_items (just_entered id)) (expr_items (e_var i) ++ expr_items (previous_next id i)) (put 4 s)
    ∙ render-append old (expr_items (e_var i)) (expr_items (previous_next id i)) (render old (expr_items (just_entered id)) (put 4 s))))

pub is-term : (old n : List ℕ) (id : ℕ) (s : State) → render old (expr_items (e_var n)) (render old (expr_items (e_var (var_name vr.State id))) (puts (3 ∷ 4 ∷ []) s)) ≡ render old (expr_items (is_name (state_var id) n)) s
unfolding is_name expr_items bin_byte render put_item puts var_name
is-term old n id s = refl

pub active-top : (old n : List ℕ) (t : Bool) (id : ℕ) (s : State) → t ≡ true → render old (expr_items (is_name (state_var id) n)) s ≡ render old (expr_items (active_in t id n)) s
unfolding active_in
active-top old n t id s e = rw e

pub active-inner : (old n : List ℕ) (t : Bool) (id : ℕ) (s : State) → t ≡ false → render old (expr_items (is_name (state_var id) n)) (render old (expr_items (e_var (var_name vr.Active id))) (puts (3 ∷ 0 ∷ []) s)) ≡ render old (expr_items (active_in t id n)) s
unfolding active_in is_name expr_items bin_byte render put_item puts var_name
active-inner old n t id s e = rw e

-- equations
pub left-term : (old n : List ℕ) (s : State) → put_name old n (puts (two 1) s) ≡ render old (list name_items (n ∷ [])) s
unfolding list each name_items render put_item
left-term old n s = refl

pub active-equation : (old n : List ℕ) (id : ℕ) (t : Bool) (p : ℕ) (s : State) → render old (expr_items (active_in t p n)) (render old (list name_items (var_name vr.Active id ∷ [])) s) ≡ render old (equation_items (active_equation id t p n)) s
unfolding equation_items active_equation var_name
active-equation old n id t p s = sym (render-append old (list name_items (active_var id ∷ [])) (expr_items (active_in t p n)) s)

pub state-equation : (old i : List ℕ) (id : ℕ) (h : Bool) (s : State) → render old (expr_items (state_rhs id i h)) (render old (list name_items (var_name vr.State id ∷ [])) s) ≡ render old (equation_items (state_equation id i h)) s
unfolding equation_items state_equation var_name
state-equation old i id h s = sym (render-append old (list name_items (state_var id ∷ [])) (expr_items (state_rhs id i h)) s)

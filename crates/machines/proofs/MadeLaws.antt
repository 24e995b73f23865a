-- Laws of made names: the texts that the code puts together are the names of the definition.
use Prim.Native.Nat.{ℕ, zero, suc}
use mathlib.Core.List.{List, [], ◌∷◌, ◌++◌}
use mathlib.Core.Path.{◌≡◌, refl, sym, ap, ◌∙◌}
use Rattle.machines.specs.declared.made_names.Var.{Var}
use Rattle.machines.specs.declared.made_names.Var.TheVariants as vr
use Rattle.wire.specs.Writer.{State, puts}
use Rattle.wire.specs.Decimal.{decimal}
use Rattle.wire.proofs.Writers.{puts-append}
use Rattle.pack_rules.specs.Names.{Name}
use Rattle.machine_rules.specs.MadeNames.{active_var, enum_name, next_var, sm_prefix, state_var}
use Rattle.machines.specs.Vars.{region_prefix, var_name}

pub region-text : (id : ℕ) (tail : List ℕ) (s : State) → puts tail (puts (decimal id) (puts region_prefix s)) ≡ puts (region_prefix ++ (decimal id ++ tail)) s
region-text id tail s = sym (puts-append region_prefix (decimal id ++ tail) s ∙ puts-append (decimal id) tail (puts region_prefix s))

-- by the variable that is meant
pub var-is : (v u : Var) (id : ℕ) (x y : State) → v ≡ u → x ≡ puts (var_name u id) y → x ≡ puts (var_name v id) y
var-is v u id x y e h = h ∙ ap (λ (t : Var). puts (var_name t id) y) (sym e)

pub state-top : (id : ℕ) → id ≡ 0 → 95 ∷ 95 ∷ 115 ∷ 109 ∷ 95 ∷ 115 ∷ 116 ∷ 97 ∷ 116 ∷ 101 ∷ [] ≡ var_name vr.State id
unfolding var_name state_var sm_prefix
state-top id e = rw e

pub state-inner : (id : ℕ) → (id ≡ 0 → ⊥) → region_prefix ++ (decimal id ++ (95 ∷ 115 ∷ 116 ∷ 97 ∷ 116 ∷ 101 ∷ [])) ≡ var_name vr.State id
unfolding var_name state_var sm_prefix region_prefix
state-inner zero h = absurd (h refl)
state-inner (suc n) h = refl

pub next-top : (id : ℕ) → id ≡ 0 → 95 ∷ 95 ∷ 115 ∷ 109 ∷ 95 ∷ 110 ∷ 101 ∷ 120 ∷ 116 ∷ 95 ∷ 115 ∷ 116 ∷ 97 ∷ 116 ∷ 101 ∷ [] ≡ var_name vr.Next id
unfolding var_name next_var sm_prefix
next-top id e = rw e

pub next-inner : (id : ℕ) → (id ≡ 0 → ⊥) → region_prefix ++ (decimal id ++ (95 ∷ 110 ∷ 101 ∷ 120 ∷ 116 ∷ [])) ≡ var_name vr.Next id
unfolding var_name next_var sm_prefix region_prefix
next-inner zero h = absurd (h refl)
next-inner (suc n) h = refl

pub active-any : (id : ℕ) → region_prefix ++ (decimal id ++ (95 ∷ 97 ∷ 99 ∷ 116 ∷ 105 ∷ 118 ∷ 101 ∷ [])) ≡ var_name vr.Active id
unfolding var_name active_var sm_prefix region_prefix
active-any id = refl

pub put_is : (a b : List ℕ) (x y : State) → a ≡ b → x ≡ puts a y → x ≡ puts b y
put_is a b x y e h = h ∙ ap (λ (l : List ℕ). puts l y) e

-- an enum's name
pub enum-top : (m : Name) (id : ℕ) (s : State) → id ≡ 0 → puts (95 ∷ 83 ∷ 116 ∷ 97 ∷ 116 ∷ 101 ∷ 69 ∷ 110 ∷ 117 ∷ 109 ∷ []) (puts m s) ≡ puts (enum_name m id) s
unfolding enum_name
enum-top m id s e = rw e (sym (puts-append m _ s))

pub enum-inner : (m : Name) (id : ℕ) (s : State) → (id ≡ 0 → ⊥) → puts (95 ∷ 83 ∷ 116 ∷ 97 ∷ 116 ∷ 101 ∷ 69 ∷ 110 ∷ 117 ∷ 109 ∷ []) (puts (decimal id) (puts (95 ∷ 114 ∷ []) (puts m s))) ≡ puts (enum_name m id) s
unfolding enum_name puts
enum-inner m zero s h = absurd (h refl)
enum-inner m (suc n) s h = sym (puts-append m _ s ∙ puts-append (decimal (suc n)) _ (puts (95 ∷ 114 ∷ []) (puts m s)))

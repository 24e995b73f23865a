-- Laws of the locals: their items as the code writes them, and that they depend on the number of regions only.
use Prim.Native.Nat.{ℕ, zero, suc, ◌+◌, ◌≤◌}
use native.Mathlib.Nat.{zero-add, suc-add}
use native.Mathlib.Numerals.{add-one}
use native.Mathlib.Omega.{arith}
use mathlib.Core.List.{List, [], ◌∷◌, ◌++◌, append_assoc, append-nil}
use mathlib.Core.Path.{◌≡◌, refl, sym, ap, ◌∙◌}
use Rattle.machines.specs.declared.made_names.Var.{Var}
use Rattle.machines.specs.declared.made_names.Var.TheVariants as vr
use Rattle.wire.specs.Writer.{State, put, puts}
use Rattle.pack_rules.specs.Names.{Name}
use Rattle.pack_rules.specs.Syntax.{Port}
use Rattle.machine_rules.specs.Resolved.{ResolvedRegions, ResolvedStates, r_cons, r_nil, s_cons, s_nil}
use Rattle.pack_rules.specs.Write.{Item, each, one, port_items, ty_items}
use Rattle.pack.specs.Intern.{put_item, put_name, render}
use Rattle.pack.proofs.Interns.{render-append}
use Rattle.machine_rules.specs.MadeNames.{enum_name}
use Rattle.machines.specs.Vars.{var_name}
use Rattle.machine_rules.specs.Lower.{locals_r, locals_s, region_locals, size_r, size_s}
use Rattle.machines.specs.Locals.{active_port, inner_locals, state_port}

pub state-port : (old : List ℕ) (v : Var) (m : Name) (id : ℕ) (s : State) → put_name old (enum_name m id) (put 13 (put_name old (var_name v id) s)) ≡ render old (port_items (state_port v m id)) s
unfolding port_items ty_items state_port render put_item puts
state-port old v m id s = refl

pub active-port : (old : List ℕ) (id : ℕ) (s : State) → put 0 (put_name old (var_name vr.Active id) s) ≡ render old (port_items (active_port id)) s
unfolding port_items ty_items one active_port render put_item puts var_name
active-port old id s = refl

pub region-locals : (old : List ℕ) (m : Name) (id : ℕ) (s : State) → render old (port_items (state_port vr.Next m id)) (render old (port_items (state_port vr.State m id)) s) ≡ render old (each port_items (region_locals m id)) s
unfolding region_locals state_port var_name each
region-locals old m id s =
    sym (render-append old (port_items (state_port vr.State m id)) _ s
    ∙ ap (λ (is : List Item). render old is (render old (port_items (state_port vr.State m id)) s)) (append-nil (port_items (state_port vr.Next m id))))

pub each_append : {A : Type 0} (f : A → List Item) (xs ys : List A) → each f (xs ++ ys) ≡ each f xs ++ each f ys
unfolding each
each_append f [] ys = refl
each_append f (x ∷ xs) ys = ap (λ (l : List Item). f x ++ l) (each_append f xs ys) ∙ sym (append_assoc (f x) (each f xs) (each f ys))

each-one : (p : Port) → each port_items (p ∷ []) ≡ port_items p
unfolding each
each-one p = append-nil (port_items p)

split : (old : List ℕ) (m : Name) (id n : ℕ) (s : State) → render old (each port_items ((region_locals m id ++ (active_port id ∷ [])) ++ inner_locals m (suc id) n)) s ≡ render old (each port_items (inner_locals m (suc id) n)) (render old (port_items (active_port id)) (render old (each port_items (region_locals m id)) s))
split old m id n s =
    ap (λ (is : List Item). render old is s) (each_append port_items (region_locals m id ++ (active_port id ∷ [])) (inner_locals m (suc id) n))
    ∙ render-append old (each port_items (region_locals m id ++ (active_port id ∷ []))) _ s
    ∙ ap (render old (each port_items (inner_locals m (suc id) n)))
    (ap (λ (is : List Item). render old is s) (each_append port_items (region_locals m id) (active_port id ∷ []))
    ∙ render-append old (each port_items (region_locals m id)) _ s
    ∙ ap (λ (is : List Item). render old is (render old (each port_items (region_locals m id)) s)) (each-one (active_port id)))

-- the loop over regions: one more, and the end
pub inner-more : (old : List ℕ) (m : Name) (id n k : ℕ) (s t u z : State) → n ≡ suc k → t ≡ render old (each port_items (region_locals m id)) s → u ≡ render old (port_items (active_port id)) t → render old (each port_items (inner_locals m id n)) s ≡ z → render old (each port_items (inner_locals m (id + 1) k)) u ≡ z
unfolding inner_locals
inner-more old m id n k s t u z l e g h =
    rw (add-one id)
    (ap (render old (each port_items (inner_locals m (suc id) k))) (g ∙ ap (render old (port_items (active_port id))) e)
    ∙ sym (split old m id k s) ∙ ap (λ (y : ℕ). render old (each port_items (inner_locals m id y)) s) (sym l) ∙ h)

pub inner-none : (old : List ℕ) (m : Name) (id n : ℕ) (s z : State) → n ≤ 0 → render old (each port_items (inner_locals m id n)) s ≡ z → s ≡ z
unfolding inner_locals each render
inner-none old m id zero s z l h = h
inner-none old m id (suc n) s z l h = absurd (omega arith)

-- the locals of a tree are those of as many regions as it has
inner-append : (m : Name) (id a b : ℕ) → inner_locals m id (a + b) ≡ inner_locals m id a ++ inner_locals m (id + a) b
unfolding inner_locals
inner-append m id zero b = let z : id + 0 ≡ id = omega arith in rw (zero-add b, z)
inner-append m id (suc a) b =
    let e : suc id + a ≡ id + suc a = omega arith in
    rw suc-add
    (ap (λ (l : List Port). (region_locals m id ++ (active_port id ∷ [])) ++ l) (inner-append m (suc id) a b ∙ ap (λ (k : ℕ). inner_locals m (suc id) a ++ inner_locals m k b) e)
    ∙ sym (append_assoc (region_locals m id ++ (active_port id ∷ [])) (inner_locals m (suc id) a) (inner_locals m (id + suc a) b)))

mutual
  unfolding locals_s locals_r size_s size_r inner_locals active_port

  pub locals-states : (m : Name) (id : ℕ) (ss : ResolvedStates) → locals_s m id ss ≡ inner_locals m id (size_s ss)
  locals-states m id s_nil = refl
  locals-states m id (s_cons s es ts rs rest) =
      ap (λ (l : List Port). l ++ locals_s m (id + size_r rs) rest) (locals-regions m id rs)
      ∙ ap (λ (l : List Port). inner_locals m id (size_r rs) ++ l) (locals-states m (id + size_r rs) rest)
      ∙ sym (inner-append m id (size_r rs) (size_s rest))

  pub locals-regions : (m : Name) (id : ℕ) (rs : ResolvedRegions) → locals_r m id rs ≡ inner_locals m id (size_r rs)
  locals-regions m id r_nil = refl
  locals-regions m id (r_cons i h ss rest) =
      let a = locals-states m (suc id) ss in
      let b = locals-regions m (suc id + size_s ss) rest in
      ap (λ (l : List Port). region_locals m id ++ ((active_port id ∷ []) ++ l)) ((λ j. a j ++ b j) ∙ sym (inner-append m (suc id) (size_s ss) (size_r rest)))
      ∙ sym (append_assoc (region_locals m id) (active_port id ∷ []) (inner_locals m (suc id) (size_s ss + size_r rest)))
      ∙ ap (inner_locals m id) (sym (suc-add (size_s ss) (size_r rest)))

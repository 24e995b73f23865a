-- Laws for names by number: as the code writes and finds them.
use Prim.Native.Nat.{ℕ, zero, suc, ◌+◌, ◌-◌, ◌<◌, ◌≤◌}
use native.Mathlib.Omega.{arith}
use mathlib.Core.List.{List, [], ◌∷◌, ◌++◌}
use mathlib.Core.Bool.{Bool, cond}
use mathlib.Core.Path.{◌≡◌, sym, ap, ◌∙◌}
use lib.ListN.{get_or}
use borrow.Author.Tests.{eq-eqb, le-ltb, lt-ltb, ne_eqb}
use Rattle.wire.specs.Bytes.{two}
use Rattle.wire.specs.Writer.{State, puts}
use Rattle.pack_rules.specs.Names.{Name}
use Rattle.pack.specs.Intern.{put_item, put_name, render}
use Rattle.machines.specs.EmitAt.{pack_name}
use Rattle.activation_rules.specs.MadeNames.{Scope, act_prefix, last_var, made_name, sample_var, tag}
use Rattle.activations.specs.Vars.{scope_at}
use Rattle.activations.specs.NameIdsAt.{id_items, last_id_t, last_row_t, name_t, sample_name_t}
use Rattle.activations.proofs.MadeLaws.{scoped-text}

-- a sample's name is its beginning and the variable's name
pub sample-start : (a : Name) (c : Scope) (s : State) → puts (95 ∷ []) (puts (tag c) (puts (95 ∷ 115 ∷ []) (puts (act_prefix ++ a) s))) ≡ puts (sample_var a c []) s
unfolding sample_var made_name puts
sample-start a c s = scoped-text a (95 ∷ 115 ∷ []) (tag c) [] s

pub sample-whole : (a : Name) (c : Scope) (v : Name) (s : State) → puts v (puts (sample_var a c []) s) ≡ puts (sample_var a c v) s
unfolding sample_var made_name
sample-whole a c v s = ap (puts v) (sym (sample-start a c s)) ∙ scoped-text a (95 ∷ 115 ∷ []) (tag c) v s

module _ (s offsets : List ℕ) (names : ℕ) (a : Name) where
  pub id-old : (old : List ℕ) (x : ℕ) (y z : State) → x < names → y ≡ puts (two x) z → y ≡ render old (id_items s offsets names a x) z
  unfolding id_items render put_item
  id-old old x y z l e = rw (lt-ltb x names l) e

  pub id-held : (old : List ℕ) (x : ℕ) (v : Name) (y z : State) → names ≤ x → v ≡ pack_name s offsets (x - names) → y ≡ put_name old (last_var a v) z → y ≡ render old (id_items s offsets names a x) z
  unfolding id_items render put_item
  id-held old x v y z l e f = rw (le-ltb x names l) (f ∙ ap (λ (n : Name). put_name old (last_var a n) z) e)

  pub sample-is : (n k x : ℕ) (w y z : State) → y ≡ puts (sample_var a (scope_at n k) []) z → w ≡ puts (name_t s offsets names a x) y → w ≡ puts (sample_name_t s offsets names a n k x) z
  unfolding sample_name_t
  sample-is n k x w y z e f = f ∙ ap (puts (name_t s offsets names a x)) e ∙ sample-whole a (scope_at n k) (name_t s offsets names a x) z

-- the search for a row: found, one more, and the end
module _ (lasts : List ℕ) (v : ℕ) where
  pub row-found : (n h r t c : ℕ) {rest : ℕ} → n ≡ suc rest → c ≡ get_or lasts h 0 → c ≡ v → r ≡ get_or lasts (h + 2) 0 → last_row_t lasts v n h ≡ t → r ≡ t
  unfolding last_row_t
  row-found zero h r t c l d e f g = absurd (omega arith)
  row-found (suc n) h r t c {rest} l d e f g = f ∙ sym (ap (λ (b : Bool). cond b (get_or lasts (h + 2) 0) (last_row_t lasts v n (h + 3))) (eq-eqb (get_or lasts h 0) v (sym d ∙ e))) ∙ g

  pub row_on : (n h t c : ℕ) {rest next : ℕ} → n ≡ suc rest → next ≡ h + 3 → c ≡ get_or lasts h 0 → (c ≡ v → ⊥) → last_row_t lasts v n h ≡ t → last_row_t lasts v rest next ≡ t
  unfolding last_row_t
  row_on zero h t c l k d e g = absurd (omega arith)
  row_on (suc n) h t c {rest} l k d e g =
      let i : rest ≡ n = omega arith in
      (λ j. last_row_t lasts v (i j) (k j))
      ∙ sym (ap (λ (b : Bool). cond b (get_or lasts (h + 2) 0) (last_row_t lasts v n (h + 3))) (ne_eqb (get_or lasts h 0) v (λ f. e (d ∙ f)))) ∙ g

  pub row-end : (n h rows : ℕ) → n ≤ 0 → last_row_t lasts v n h ≡ last_row_t lasts v rows 0 → 65536 ≡ last_id_t lasts rows v
  unfolding last_id_t last_row_t
  row-end zero h rows l e = e
  row-end (suc n) h rows l e = absurd (omega arith)

  pub row_is : (r rows : ℕ) → r ≡ last_row_t lasts v rows 0 → r ≡ last_id_t lasts rows v
  unfolding last_id_t
  row_is r rows e = e

-- What holds of every number that an expression reads: of an old name and of a holder that has a row, where they have a type.
use Prim.Native.Nat.{ℕ, ◌+◌, ◌%◌, ◌<◌, ◌≤◌}
use native.Mathlib.Nat.{mod-eq_of_lt}
use native.Mathlib.Omega.{arith}
use mathlib.Core.List.{List, [], ◌∷◌, ◌++◌}
use mathlib.Core.Bool.{Bool, cond}
use mathlib.Core.Path.{◌≡◌, refl, sym, ap, subst, ◌∙◌}
use lib.ListN.{length}
use lib.Dec.{eqb, ltb}
use borrow.Author.Tests.{eq-eqb, eqb-false}
use Rattle.wire.specs.Answer.{value}
use Rattle.wire.specs.Lists.{All, Bytes}
use Rattle.pack_rules.specs.Names.{Name}
use Rattle.pack_rules.specs.Syntax.{Expr}
use Rattle.pack_rules.specs.Forms.{name_at}
use Rattle.pack_rules.specs.Read.{expr_in}
use Rattle.pack.proofs.Tables.{all_append}
use Rattle.machines.specs.Fingerprints.{among}
use Rattle.activations.specs.declared.expr_node.ExprNode.{ExprNode}
use Rattle.activations.specs.Walks.{LastIs, through}
use Rattle.activations.specs.Ids.{holder_id}
use Rattle.activations.specs.Asked.{Asked}
use Rattle.activations.specs.TypeCodes.{typed_t}
use Rattle.activations.specs.NameIdsAt.{last_id_t}
use Rattle.activations.specs.FreeVarsAt.{free_vars_t, note_t, push_t, read_by, read_step}
use Rattle.activations.proofs.IdLaws.{holder-below}
use Rattle.activations.proofs.Views.{View, to_come, v_array, v_arrow, v_bad, v_binary, v_call, v_cast, v_const, v_field, v_if, v_index, v_iterate, v_last, v_merge, v_pre, v_struct, v_tuple, v_unary, v_var, v_when}
use Rattle.activations.proofs.Walking.{walks-by}
use Rattle.activations.proofs.AskedLaws.{asked-last, asked-under}
use Rattle.activations.proofs.NameIdsKnown.{by_bool}

-- a function that does nothing
through_same : {Z : Type 0} (es : List Expr) (y : Z) → through (λ e x. x) es y ≡ y
unfolding through
through_same [] y = refl
through_same (e ∷ es) y = through_same es y

-- a pack that was read; an activation's name; what holds of the variables that have rows; what is to hold of what is read
module _ (ns : List Name) (few : length ns + length ns ≤ 65536) (s : List ℕ) (by : Bytes s) (short : length s ≤ 65536) (last : ℕ) (L : LastIs ns last)
    (a : Name) (lasts : List ℕ) (rows : ℕ) (env outs : List ℕ) (P : Name → Type 0)
    (rowed : (v : ℕ) → v < length ns → P (name_at ns v) → last_id_t lasts rows v ≡ holder_id ns a v) (none_told : typed_t env outs (length ns) 65536 ≡ 0)
    (Q : ℕ → Type 0) (old : (x : ℕ) → x < length ns → (typed_t env outs (length ns) x ≡ 0 → ⊥) → Q x)
    (new : (v : ℕ) → v < length ns → P (name_at ns v) → (typed_t env outs (length ns) (holder_id ns a v) ≡ 0 → ⊥) → Q (holder_id ns a v)) where
  push-each : (x : ℕ) (z : List ℕ) → x < 65536 → Q x → All Q z → All Q (push_t x z)
  unfolding push_t All
  push-each x z l q h =
      by_bool (λ (b : Bool). All Q (cond b z (cond (ltb (length z) 21848) (z ++ (x % 65536 ∷ [])) z))) (among x z) (λ e. h)
      (λ e. by_bool (λ (b : Bool). All Q (cond b (z ++ (x % 65536 ∷ [])) z)) (ltb (length z) 21848) (λ f. all_append Q z (x % 65536 ∷ []) h (subst Q (sym (mod-eq_of_lt l)) q, tt)) (λ f. h))

  note-each : (x : ℕ) (z : List ℕ) → x < 65536 → ((typed_t env outs (length ns) x ≡ 0 → ⊥) → Q x) → All Q z → All Q (note_t env outs (length ns) x z)
  unfolding note_t
  note-each x z l q h =
      by_bool (λ (b : Bool). (eqb (typed_t env outs (length ns) x) 0 ≡ b) → All Q (cond b z (push_t x z))) (eqb (typed_t env outs (length ns) x) 0)
      (λ e d. h) (λ e d. push-each x z l (q (eqb-false (typed_t env outs (length ns) x) 0 d)) h) refl

  note-none : (z : List ℕ) → All Q z → All Q (note_t env outs (length ns) 65536 z)
  unfolding note_t
  note-none z h = subst (All Q) (sym (ap (λ (b : Bool). cond b z (push_t 65536 z)) (eq-eqb (typed_t env outs (length ns) 65536) 0 none_told))) h

  -- what a node reads: nothing, an old name, a holder
  data ReadAs : ℕ → Type 0 where
    read_none : ReadAs 65536
    read_old : {x : ℕ} → x < length ns → ReadAs x
    read_held : {x : ℕ} → (v : ℕ) → v < length ns → P (name_at ns v) → x ≡ last_id_t lasts rows v → ReadAs x

  read_as : (e : Expr) (m : ExprNode) → View ns s e m → Asked P e → ReadAs (read_by lasts rows m)
  unfolding read_by
  read_as e m (v_last {var = v} {init = i} {next = next} k l n d) h = read_held v l (asked-last P ns s e v i next (v_last k l n d) h) refl
  read_as e m (v_bad k) h = read_none
  read_as e m (v_call k) h = read_none
  read_as e m v_const h = read_none
  read_as e m (v_var l n) h = read_old l
  read_as e m (v_when l n) h = read_old l
  read_as e m (v_merge l n) h = read_old l
  read_as e m v_unary h = read_none
  read_as e m v_binary h = read_none
  read_as e m v_if h = read_none
  read_as e m v_pre h = read_none
  read_as e m v_arrow h = read_none
  read_as e m v_field h = read_none
  read_as e m v_index h = read_none
  read_as e m v_tuple h = read_none
  read_as e m v_array h = read_none
  read_as e m v_struct h = read_none
  read_as e m v_cast h = read_none
  read_as e m v_iterate h = read_none

  note-read : (x : ℕ) (z : List ℕ) → ReadAs x → All Q z → All Q (note_t env outs (length ns) x z)
  note-read x z read_none h = note-none z h
  note-read x z (read_old l) h = note-each x z (omega arith) (old x l) h
  note-read x z (read_held v l p e) h =
      let b = holder-below ns a v l in
      subst (λ (y : ℕ). All Q (note_t env outs (length ns) y z)) (sym (e ∙ rowed v l p)) (note-each (holder_id ns a v) z (omega arith) (new v l p) h)

  -- THE LAW: every number that is listed
  pub reads-each : (at : ℕ) (e : Expr) (q : ℕ) → expr_in ns s at ≡ value e q → Asked P e → All Q (free_vars_t lasts rows env outs (length ns) ns s last at)
  unfolding free_vars_t read_step All
  reads-each at e q d h =
      walks-by ns s (omega arith) by short last L (read_step lasts rows env outs (length ns)) (λ (e : Expr) (y : ℕ). y) (λ (p : ℕ) (z : List ℕ) (y : ℕ). All Q z) (Asked P)
      (λ p e q m z y d g v k r. (y, sym (through_same (to_come m e) y), note-read (read_by lasts rows m) z (read_as e m v k) r, asked-under P ns s e m v k))
      at e q [] 0 d h tt

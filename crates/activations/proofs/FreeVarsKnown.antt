-- What the code lists of an expression that was read is what the definition says that it reads.
use Prim.Native.Nat.{ℕ, ◌+◌, ◌-◌, ◌*◌, ◌%◌, ◌<◌, ◌≤◌}
use native.Mathlib.Nat.{mod-eq_of_lt}
use native.Mathlib.Omega.{arith}
use mathlib.Core.List.{List, [], ◌∷◌, ◌++◌, append-nil}
use mathlib.Core.Bool.{Bool, true, false, cond, ◌||◌}
use mathlib.Core.Path.{◌≡◌, refl, sym, ap, subst, ◌∙◌}
use lib.ListN.{length, drop, length-append, length-drop}
use lib.Dec.{eqb}
use borrow.Author.Tests.{eq-eqb, lt-ltb}
use Rattle.wire.specs.Answer.{many, value}
use Rattle.wire.specs.Bytes.{two}
use Rattle.wire.specs.Lists.{All, Bytes}
use Rattle.pack_rules.specs.Names.{Name, eq_name, member}
use Rattle.pack_rules.specs.Syntax.{Expr, Exprs, e_call, e_merge, e_var, e_when, x_cons, x_nil}
use Rattle.pack_rules.specs.Forms.{name_at}
use Rattle.pack_rules.specs.Legal.{Fresh}
use Rattle.pack_rules.specs.Read.{expr_in}
use Rattle.pack_rules.specs.Write.{Item, expr_items}
use Rattle.pack.proofs.Tables.{all_append, code, eq_name-true}
use Rattle.pack.proofs.Copies.{Lies, lies-expr}
use Rattle.machines.specs.Fingerprints.{among}
use Rattle.machines.proofs.Reading.{many-end}
use Rattle.machines.proofs.Refused.{eq_name-turn}
use Rattle.machines.proofs.CheckedReadLaws.{or-none}
use Rattle.activations.specs.declared.expr_node.ExprNode.{ExprNode}
use Rattle.activations.specs.declared.expr_node.ExprNode.TheVariants as mt
use Rattle.activation_rules.specs.LastCalls.{plain}
use Rattle.activation_rules.specs.MadeNames.{last_var}
use Rattle.activation_rules.specs.RewriteLast.{rewrite_last, rewrite_lasts}
use Rattle.activation_rules.specs.FreeVars.{free_vars, free_vars_in, keep_in, push, reads_of}
use Rattle.activations.specs.Kids.{head_items, kids, list_of}
use Rattle.activations.specs.ExprNodes.{expr_node_at, onward_t}
use Rattle.activations.specs.Walks.{LastIs, through}
use Rattle.activations.specs.Ids.{IsId, held_id, holder_id, name_of, names_of, old_id}
use Rattle.activations.specs.Asked.{Asked}
use Rattle.activations.specs.TypeCodes.{typed_t}
use Rattle.activations.specs.NameIdsAt.{last_id_t}
use Rattle.activations.specs.FreeVarsAt.{free_vars_t, note_t, push_t, read_by, read_step}
use Rattle.activations.proofs.NodesRead.{expr-moves}
use Rattle.activations.proofs.Views.{View, to_come, v_array, v_arrow, v_bad, v_binary, v_call, v_cast, v_const, v_field, v_if, v_index, v_iterate, v_last, v_merge, v_pre, v_struct, v_tuple, v_unary, v_var, v_when, viewed}
use Rattle.activations.proofs.Walking.{walks-by}
use Rattle.activations.proofs.HeadCopies.{Kept, head-lies}
use Rattle.activations.proofs.RewriteLastWritten.{bad-call, last-call, plain-call}
use Rattle.activations.proofs.AskedLaws.{asked-last, asked-under}
use Rattle.activations.proofs.IdLaws.{id_below, ids-tell, name-of-holder, name-of-old}
use Rattle.activations.proofs.NameIdsKnown.{by_bool, eqb-turns}

-- what lies between two offsets is as long as they are apart
pub lies-length : (ns : List Name) (s : List ℕ) (at : ℕ) (is : List Item) (q : ℕ) → Lies ns s at is q → at + length (code ns is) ≡ q
lies-length ns s at is q l =
    let a = l.from in
    let b = l.to in
    let e : length s - at ≡ length (code ns is) + (length s - q) = sym (length-drop at s) ∙ ap length l.bytes ∙ length-append (code ns is) (drop q s) ∙ ap (λ (x : ℕ). length (code ns is) + x) (length-drop q s) in
    omega arith

-- names kept: one more that is among them, one more that is not
module _ (vars : List Name) where
  keep-member : (n : Name) (y : List Name) → member n vars ≡ true → member n (keep_in vars y) ≡ member n y
  unfolding keep_in member
  keep-member n [] h = refl
  keep-member n (x ∷ xs) h = by_bool (λ (b : Bool). member n (cond b (x ∷ keep_in vars xs) (keep_in vars xs)) ≡ eq_name n x || member n xs) (member x vars)
      (λ e. ap (λ (b : Bool). eq_name n x || b) (keep-member n xs h))
      (λ e. keep-member n xs h ∙ ap (λ (b : Bool). b || member n xs) (sym (other x e)))
    where
      other : (x : Name) → member x vars ≡ false → eq_name n x ≡ false
      other x e = go (eq_name n x) refl
        where
          go : (b : Bool) → eq_name n x ≡ b → b ≡ false
          go true f = sym h ∙ ap (λ (m : Name). member m vars) (eq_name-true n x f) ∙ e
          go false f = refl

  keep_append : (xs ys : List Name) → keep_in vars (xs ++ ys) ≡ keep_in vars xs ++ keep_in vars ys
  unfolding keep_in
  keep_append [] ys = refl
  keep_append (x ∷ xs) ys = by_bool (λ (b : Bool). cond b (x ∷ keep_in vars (xs ++ ys)) (keep_in vars (xs ++ ys)) ≡ cond b (x ∷ keep_in vars xs) (keep_in vars xs) ++ keep_in vars ys) (member x vars)
      (λ e. ap (λ (l : List Name). x ∷ l) (keep_append xs ys)) (λ e. keep_append xs ys)

  keep-in : (n : Name) (y : List Name) → member n vars ≡ true → keep_in vars (push n y) ≡ push n (keep_in vars y)
  unfolding push keep_in
  keep-in n y h =
      by_bool (λ (b : Bool). keep_in vars (cond b y (y ++ (n ∷ []))) ≡ cond b (keep_in vars y) (keep_in vars y ++ (n ∷ []))) (member n y)
      (λ e. refl) (λ e. keep_append y (n ∷ []) ∙ ap (λ (b : Bool). keep_in vars y ++ cond b (n ∷ []) []) h)
      ∙ ap (λ (b : Bool). cond b (keep_in vars y) (keep_in vars y ++ (n ∷ []))) (sym (keep-member n y h))

  keep_out : (n : Name) (y : List Name) → member n vars ≡ false → keep_in vars (push n y) ≡ keep_in vars y
  unfolding push keep_in
  keep_out n y h = by_bool (λ (b : Bool). keep_in vars (cond b y (y ++ (n ∷ []))) ≡ keep_in vars y) (member n y)
      (λ e. refl) (λ e. keep_append y (n ∷ []) ∙ ap (λ (b : Bool). keep_in vars y ++ cond b (n ∷ []) []) h ∙ append-nil (keep_in vars y))

-- the pass on names: what each node reads
module _ (ns : List Name) (a : Name) where
  unfoldable name_step : ExprNode → List Name → List Name
  name_step (mt.Last v i q) y = push (last_var a (name_at ns v)) y
  name_step (mt.Bad u q) y = y
  name_step (mt.Const q) y = y
  name_step (mt.Var i q) y = push (name_at ns i) y
  name_step (mt.Clocked c u q) y = push (name_at ns c) y
  name_step (mt.Other u q) y = y
  name_step mt.Nothing y = y

  unfoldable reads_all : Expr → List Name → List Name
  reads_all e y = free_vars (rewrite_last a e) y

  in_order : (xs : Exprs) (y : List Name) → free_vars_in (rewrite_lasts a xs) y ≡ through reads_all (list_of xs) y
  unfolding free_vars_in rewrite_lasts through list_of reads_all
  in_order x_nil y = refl
  in_order (x_cons x xs) y = in_order xs (free_vars (rewrite_last a x) y)

  follows : (s : List ℕ) (e : Expr) (m : ExprNode) (y : List Name) → View ns s e m → reads_all e y ≡ through reads_all (to_come m e) (name_step m y)
  unfolding reads_all name_step through to_come kids rewrite_last free_vars
  follows s e m y (v_last {f = f} {v = v} {xs = xs} {i = i} k l n d) = ap (λ (x : Expr). free_vars x y) (last-call a f xs v i k) ∙ ap (λ (x : Name). push (last_var a x) y) (sym n)
  follows s e m y (v_bad {f = f} {xs = xs} k) = ap (λ (x : Expr). free_vars x y) (bad-call a f xs k) ∙ in_order xs y
  follows s e m y (v_call {f = f} {xs = xs} k) = ap (λ (x : Expr). free_vars x y) (plain-call a f xs plain k refl) ∙ in_order xs y
  follows s e m y v_const = refl
  follows s e m y (v_var l n) = ap (λ (x : Name). push x y) (sym n)
  follows s e m y (v_when {a = b} l n) = ap (λ (x : Name). free_vars (rewrite_last a b) (push x y)) (sym n)
  follows s e m y (v_merge {a = b} {b = c} l n) = ap (λ (x : Name). free_vars (rewrite_last a c) (free_vars (rewrite_last a b) (push x y))) (sym n)
  follows s e m y v_unary = refl
  follows s e m y v_binary = refl
  follows s e m y v_if = refl
  follows s e m y v_pre = refl
  follows s e m y v_arrow = refl
  follows s e m y v_field = refl
  follows s e m y v_index = refl
  follows s e m y (v_tuple {xs = xs}) = in_order xs y
  follows s e m y (v_array {xs = xs}) = in_order xs y
  follows s e m y (v_struct {xs = xs}) = in_order xs y
  follows s e m y v_cast = refl
  follows s e m y (v_iterate {xs = xs}) = in_order xs y

-- numbers and their names
module _ (ns : List Name) (a : Name) (fresh : Fresh [] ns) where
  -- a number is among numbers where its name is among their names
  pub among-is : (x : ℕ) (z : List ℕ) → IsId ns a x → All (IsId ns a) z → among x z ≡ member (name_of ns a x) (names_of ns a z)
  unfolding among member names_of All
  among-is x [] i h = refl
  among-is x (y ∷ ys) i h =
      let e = ids-tell ns a fresh y x h.0 i ∙ eq_name-turn (name_of ns a y) (name_of ns a x) in
      let f = among-is x ys i h.1 in
      λ j. e j || f j

  pub names-append : (z w : List ℕ) → names_of ns a (z ++ w) ≡ names_of ns a z ++ names_of ns a w
  unfolding names_of
  names-append [] w = refl
  names-append (x ∷ xs) w = ap (λ (l : List Name). name_of ns a x ∷ l) (names-append xs w)

  pub pushed-names : (x : ℕ) (z : List ℕ) → IsId ns a x → All (IsId ns a) z → names_of ns a (cond (among x z) z (z ++ (x ∷ []))) ≡ push (name_of ns a x) (names_of ns a z)
  unfolding push names_of
  pushed-names x z i h =
      by_bool (λ (b : Bool). names_of ns a (cond b z (z ++ (x ∷ []))) ≡ cond b (names_of ns a z) (names_of ns a z ++ (name_of ns a x ∷ []))) (among x z) (λ e. refl) (λ e. names-append z (x ∷ []))
      ∙ ap (λ (b : Bool). cond b (names_of ns a z) (names_of ns a z ++ (name_of ns a x ∷ []))) (among-is x z i h)

  pub pushed-ids : (x : ℕ) (z : List ℕ) → IsId ns a x → All (IsId ns a) z → All (IsId ns a) (cond (among x z) z (z ++ (x ∷ [])))
  unfolding All
  pushed-ids x z i h = by_bool (λ (b : Bool). All (IsId ns a) (cond b z (z ++ (x ∷ [])))) (among x z) (λ e. h) (λ e. all_append (IsId ns a) z (x ∷ []) h (i, tt))

pub pushed-length : (x : ℕ) (z : List ℕ) → length (cond (among x z) z (z ++ (x ∷ []))) ≤ length z + 1
pushed-length x z = by_bool (λ (b : Bool). length (cond b z (z ++ (x ∷ []))) ≤ length z + 1) (among x z) (λ e. omega arith) (λ e. let l = length-append z (x ∷ []) in omega arith)

-- there is room for one more
pub push-fits : (x : ℕ) (z : List ℕ) → x < 65536 → length z < 21848 → push_t x z ≡ cond (among x z) z (z ++ (x ∷ []))
unfolding push_t
push-fits x z h l =
    ap (λ (b : Bool). cond (among x z) z (cond b (z ++ (x % 65536 ∷ [])) z)) (lt-ltb (length z) 21848 l)
    ∙ ap (λ (y : ℕ). cond (among x z) z (z ++ (y ∷ []))) (mod-eq_of_lt h)

-- no number twice
unfoldable pub Once : List ℕ → Type 0
Once [] = Unit {0}
Once (x ∷ xs) = (among x xs ≡ false) × Once xs

-- one number more at the end
pub among-snoc : (y x : ℕ) (z : List ℕ) → eqb x y ≡ false → among y (z ++ (x ∷ [])) ≡ among y z
unfolding among
among-snoc y x [] e = ap (λ (b : Bool). b || false) e
among-snoc y x (w ∷ ws) e = ap (λ (b : Bool). eqb w y || b) (among-snoc y x ws e)

once-snoc : (x : ℕ) (z : List ℕ) → among x z ≡ false → Once z → Once (z ++ (x ∷ []))
unfolding among Once
once-snoc x [] e h = (refl, tt)
once-snoc x (y ∷ ys) e h =
    let o = or-none (eqb y x) (among x ys) e in
    (among-snoc y x ys (eqb-turns x y ∙ o.0) ∙ h.0, once-snoc x ys o.1 h.1)

pushed-once : (x : ℕ) (z : List ℕ) → Once z → Once (cond (among x z) z (z ++ (x ∷ [])))
pushed-once x z h = by_bool (λ (b : Bool). (among x z ≡ b) → Once (cond b z (z ++ (x ∷ [])))) (among x z) (λ e g. h) (λ e g. once-snoc x z g h) refl

-- a pack that was read; an activation's name; the variables that are known; what holds of the variables that have rows
module _ (ns : List Name) (fresh : Fresh [] ns) (few : length ns + length ns ≤ 65536) (s : List ℕ) (by : Bytes s) (short : length s ≤ 65536) (last : ℕ) (L : LastIs ns last)
    (a : Name) (lasts : List ℕ) (rows : ℕ) (env outs : List ℕ) (vars : List Name) (P : Name → Type 0) where
  -- the tables say of x whether its name is among the known variables
  abbrev pub Tells : ℕ → Type 0
  Tells x = eqb (typed_t env outs (length ns) x) 0 ≡ cond (member (name_of ns a x) vars) false true

  module _ (rowed : (v : ℕ) → v < length ns → P (name_at ns v) → last_id_t lasts rows v ≡ holder_id ns a v)
      (old-told : (x : ℕ) → x < length ns → Tells x) (held-told : (v : ℕ) → v < length ns → P (name_at ns v) → Tells (holder_id ns a v))
      (none_told : typed_t env outs (length ns) 65536 ≡ 0) where
    -- numbers listed since the offset `start`, by the names read so far: each comes from at least three bytes
    abbrev Listed : ℕ → ℕ → List ℕ → List Name → Type 0
    Listed start p z y = All (IsId ns a) z × (names_of ns a z ≡ keep_in vars y) × (start + 3 * length z ≤ p) × Once z

    note-is : (x : ℕ) (z : List ℕ) → Tells x → note_t env outs (length ns) x z ≡ cond (member (name_of ns a x) vars) (push_t x z) z
    unfolding note_t
    note-is x z t = ap (λ (b : Bool). cond b z (push_t x z)) t ∙ go (member (name_of ns a x) vars)
      where
        go : (b : Bool) → cond (cond b false true) z (push_t x z) ≡ cond b (push_t x z) z
        go true = refl
        go false = refl

    listed_more : (start p q x : ℕ) (z : List ℕ) (y : List Name) → IsId ns a x → Tells x → p ≤ length s → p + 3 ≤ q → Listed start p z y → Listed start q (note_t env outs (length ns) x z) (push (name_of ns a x) y)
    listed_more start p q x z y i t l m r =
        subst (λ (w : List ℕ). Listed start q w (push (name_of ns a x) y)) (sym (note-is x z t))
        (by_bool (λ (b : Bool). (member (name_of ns a x) vars ≡ b) → Listed start q (cond b (push_t x z) z) (push (name_of ns a x) y)) (member (name_of ns a x) vars)
        (λ e h. subst (λ (w : List ℕ). Listed start q w (push (name_of ns a x) y)) (sym (push-fits x z (let b = id_below ns a x i in omega arith) (let c = r.2 in omega arith)))
        (pushed-ids ns a fresh x z i r.0, pushed-names ns a fresh x z i r.0 ∙ ap (push (name_of ns a x)) r.1 ∙ sym (keep-in vars (name_of ns a x) y h), (let c = r.2 in let d = pushed-length x z in omega arith), pushed-once x z r.3))
        (λ e h. (r.0, r.1 ∙ sym (keep_out vars (name_of ns a x) y h), (let c = r.2 in omega arith), r.3))
        refl)

    listed_same : (start p q : ℕ) (z : List ℕ) (y : List Name) → p ≤ q → Listed start p z y → Listed start q (note_t env outs (length ns) 65536 z) y
    unfolding note_t
    listed_same start p q z y l r =
        subst (λ (w : List ℕ). Listed start q w y) (sym (ap (λ (b : Bool). cond b z (push_t 65536 z)) (eq-eqb (typed_t env outs (length ns) 65536) 0 none_told)))
        (r.0, r.1, (let c = r.2 in omega arith), r.3)

    under-few : length ns < 65536
    under-few = omega arith

    -- a node that reads takes at least three bytes
    three-var : (p : ℕ) (x : Name) (q i next : ℕ) → expr_in ns s p ≡ value (e_var x) q → mt.Var i next ≡ expr_node_at ns s last p → p + 3 ≤ next
    unfolding code head_items two Kept onward_t
    three-var p x q i next d g =
        let e : p + length (code ns (head_items (e_var x))) ≡ onward_t (expr_node_at ns s last p) = lies-length ns s p (head_items (e_var x)) (onward_t (expr_node_at ns s last p)) (head-lies ns fresh under-few s by last L p (e_var x) q d (subst Kept g tt)) in
        let f : next ≡ onward_t (expr_node_at ns s last p) = ap onward_t g in
        omega arith

    three-clock : (p : ℕ) (e : Expr) (q i u next : ℕ) → 3 ≤ length (code ns (head_items e)) → expr_in ns s p ≡ value e q → mt.Clocked i u next ≡ expr_node_at ns s last p → p + 3 ≤ next
    unfolding Kept onward_t
    three-clock p e q i u next h d g =
        let l : p + length (code ns (head_items e)) ≡ onward_t (expr_node_at ns s last p) = lies-length ns s p (head_items e) (onward_t (expr_node_at ns s last p)) (head-lies ns fresh under-few s by last L p e q d (subst Kept g tt)) in
        let f : next ≡ onward_t (expr_node_at ns s last p) = ap onward_t g in
        omega arith

    call_long : (f : Name) (xs : Exprs) → 3 ≤ length (code ns (expr_items (e_call f xs)))
    unfolding expr_items code two
    call_long f xs = omega arith

    when-long : (b : Expr) (x : Name) (o : Bool) → 3 ≤ length (code ns (head_items (e_when b x o)))
    unfolding head_items code two
    when-long b x o = omega arith

    merge-long : (x : Name) (b c : Expr) → 3 ≤ length (code ns (head_items (e_merge x b c)))
    unfolding head_items code two
    merge-long x b c = omega arith

    three-last : (p : ℕ) (f : Name) (xs : Exprs) (q v i next : ℕ) → expr_in ns s p ≡ value (e_call f xs) q → mt.Last v i next ≡ expr_node_at ns s last p → p + 3 ≤ next
    unfolding to_come onward_t
    three-last p f xs q v i next d g =
        let w = subst (λ (m : ExprNode). many (expr_in ns s) (length (to_come m (e_call f xs))) (onward_t m) ≡ value (to_come m (e_call f xs)) q) (sym g) (viewed ns s under-few by last L p (e_call f xs) q d).to in
        let h : next ≡ q = many-end (expr_in ns s) next q w in
        let l : p + length (code ns (expr_items (e_call f xs))) ≡ q = lies-length ns s p (expr_items (e_call f xs)) q (lies-expr ns fresh under-few s by p (e_call f xs) q d) in
        let k = call_long f xs in
        omega arith

    listed-name : (start q : ℕ) (x u : ℕ) (m : Name) (z : List ℕ) (y : List Name) → u ≡ x → name_of ns a x ≡ m → Listed start q (note_t env outs (length ns) x z) (push (name_of ns a x) y) → Listed start q (note_t env outs (length ns) u z) (push m y)
    listed-name start q x u m z y e f r = subst (λ (w : ℕ). Listed start q (note_t env outs (length ns) w z) (push m y)) (sym e) (subst (λ (w : Name). Listed start q (note_t env outs (length ns) x z) (push w y)) f r)

    step-listed : (start p : ℕ) (e : Expr) (q : ℕ) (m : ExprNode) (z : List ℕ) (y : List Name) → expr_in ns s p ≡ value e q → m ≡ expr_node_at ns s last p → View ns s e m → Asked P e → p ≤ length s → p ≤ onward_t m → Listed start p z y
        → Listed start (onward_t m) (read_step lasts rows env outs (length ns) m p z) (name_step ns a m y)
    unfolding read_step read_by name_step onward_t
    step-listed start p e q m z y d g (v_last {f = f} {xs = xs} {var = v} {init = i} {next = next} k l n w) h o b r =
        let u = asked-last P ns s e v i next (v_last k l n w) h in
        listed-name start next (holder_id ns a v) (last_id_t lasts rows v) (last_var a (name_at ns v)) z y (rowed v l u) (name-of-holder ns a v)
        (listed_more start p next (holder_id ns a v) z y (held_id v l refl) (held-told v l u) o (three-last p f xs q v i next d g) r)
    step-listed start p e q m z y d g (v_bad {next = next} k) h o b r = listed_same start p next z y b r
    step-listed start p e q m z y d g (v_call {next = next} k) h o b r = listed_same start p next z y b r
    step-listed start p e q m z y d g (v_const {next = next}) h o b r = listed_same start p next z y b r
    step-listed start p e q m z y d g (v_var {x = x} {i = i} {next = next} l n) h o b r =
        listed-name start next i i (name_at ns i) z y refl (name-of-old ns a i l) (listed_more start p next i z y (old_id l) (old-told i l) o (three-var p x q i next d g) r)
    step-listed start p e q m z y d g (v_when {a = c} {x = x} {b = t} {i = i} {u = u} {next = next} l n) h o b r =
        listed-name start next i i (name_at ns i) z y refl (name-of-old ns a i l) (listed_more start p next i z y (old_id l) (old-told i l) o (three-clock p (e_when c x t) q i u next (when-long c x t) d g) r)
    step-listed start p e q m z y d g (v_merge {x = x} {a = c} {b = t} {i = i} {u = u} {next = next} l n) h o b r =
        listed-name start next i i (name_at ns i) z y refl (name-of-old ns a i l) (listed_more start p next i z y (old_id l) (old-told i l) o (three-clock p (e_merge x c t) q i u next (merge-long x c t) d g) r)
    step-listed start p e q m z y d g (v_unary {next = next}) h o b r = listed_same start p next z y b r
    step-listed start p e q m z y d g (v_binary {next = next}) h o b r = listed_same start p next z y b r
    step-listed start p e q m z y d g (v_if {next = next}) h o b r = listed_same start p next z y b r
    step-listed start p e q m z y d g (v_pre {next = next}) h o b r = listed_same start p next z y b r
    step-listed start p e q m z y d g (v_arrow {next = next}) h o b r = listed_same start p next z y b r
    step-listed start p e q m z y d g (v_field {next = next}) h o b r = listed_same start p next z y b r
    step-listed start p e q m z y d g (v_index {next = next}) h o b r = listed_same start p next z y b r
    step-listed start p e q m z y d g (v_tuple {next = next}) h o b r = listed_same start p next z y b r
    step-listed start p e q m z y d g (v_array {next = next}) h o b r = listed_same start p next z y b r
    step-listed start p e q m z y d g (v_struct {next = next}) h o b r = listed_same start p next z y b r
    step-listed start p e q m z y d g (v_cast {next = next}) h o b r = listed_same start p next z y b r
    step-listed start p e q m z y d g (v_iterate {next = next}) h o b r = listed_same start p next z y b r

    moves-on : (p : ℕ) (e : Expr) (q : ℕ) (m : ExprNode) → expr_in ns s p ≡ value e q → m ≡ expr_node_at ns s last p → p ≤ onward_t m
    moves-on p e q m d g = let h = (viewed ns s under-few by last L p e q d).moves in let i = ap onward_t g in omega arith

    -- THE LAW: the numbers listed are those of names, their names are what is read, they are no more than a third of the bytes, and
    -- none stands twice
    pub reads_known : (at : ℕ) (e : Expr) (q : ℕ) → expr_in ns s at ≡ value e q → Asked P e
        → All (IsId ns a) (free_vars_t lasts rows env outs (length ns) ns s last at) × (names_of ns a (free_vars_t lasts rows env outs (length ns) ns s last at) ≡ reads_of vars (rewrite_last a e)) × (at + 3 * length (free_vars_t lasts rows env outs (length ns) ns s last at) ≤ q) × Once (free_vars_t lasts rows env outs (length ns) ns s last at)
    unfolding free_vars_t reads_all reads_of names_of keep_in All Once
    reads_known at e q d h =
        walks-by ns s under-few by short last L (read_step lasts rows env outs (length ns)) (reads_all ns a) (Listed at) (Asked P)
        (λ p e q m z y d g v k r. (name_step ns a m y, follows ns a s e m y v, step-listed at p e q m z y d g v k (let o = expr-moves ns s p e q d in let i = o.0 in let j = o.1 in omega arith) (moves-on p e q m d g) r, asked-under P ns s e m v k))
        at e q [] [] d h (tt, refl, omega arith, tt)

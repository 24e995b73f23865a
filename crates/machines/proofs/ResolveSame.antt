-- Steps that a walk over bytes and the resolving of a tree make together.
use Prim.Native.Nat.{ℕ, ◌+◌, ◌<◌, ◌≤◌, zero, suc, max}
use native.Mathlib.Omega.{arith}
use mathlib.Core.List.{List, [], ◌∷◌, ◌++◌}
use mathlib.Core.Bool.{Bool, true, false, cond, ◌&&◌, ◌||◌, and-true, and_assoc, true≢false}
use mathlib.Core.Option.{Option, none, some}
use mathlib.Core.Path.{◌≡◌, refl, sym, ap, ◌∙◌}
use lib.ListN.{length, get_or, take, length-append}
use lib.Seq.{length-take-le, take-length}
use Rattle.std.specs.List.{list_any}
use Rattle.std.proofs.lemmas.List.{get_or-replicate, get_or-take}
use Rattle.std.proofs.lemmas.List.Folds.{list_any_more}
use Rattle.std.proofs.Math.Bool.{or-false}
use lib.Dec.{ltb, leb, eqb}
use borrow.Author.Tests.{eq-eqb, eqb-true, ne_eqb}
use Rattle.wire.specs.Answer.{counted, many, u16, value}
use Rattle.wire.proofs.Answers.{bind-value, map-value}
use Rattle.pack_rules.specs.Limits.{absent, max_name, max_states}
use Rattle.pack_rules.specs.Names.{Name, eq_name, member}
use Rattle.pack_rules.specs.Syntax.{Equation, MachineDef, Transition}
use Rattle.machine_rules.specs.Resolved.{ResolvedRegions, ResolvedStates}
use Rattle.pack_rules.specs.Forms.{name_at}
use Rattle.pack_rules.specs.Legal.{Fresh}
use Rattle.pack_rules.specs.Read.{equations_in, expr_in, name_in, transition_in}
use Rattle.pack_rules.specs.Report.{Refusal, first_of}
use Rattle.pack.proofs.Tables.{eq_name-true}
use Rattle.machines.specs.declared.resolve.RefineStack.{RefineStack}
use Rattle.machines.specs.declared.resolve.Resolved.{Resolved}
use Rattle.machines.specs.declared.resolve.Resolved.TheVariants as wk
use Rattle.machine_rules.specs.Refusals.{too_large}
use Rattle.machine_rules.specs.Resolve.{Target, Walk, append_region, as_target, count_state, machine_of, prefix_s, short_name, short_r, short_s, short_targets, stop, walk_on, went, with_target}
use Rattle.machines.specs.ResolvedIn.{StateAt}
use Rattle.machines.specs.CheckedReads.{num, number_in, turns, with}
use Rattle.machines.specs.Tables.{len_of}
use Rattle.machines.specs.RefineStack.{on_of, pushed_of, start_of}
use Rattle.machines.specs.ResolveAt.{go_on, head_t, len_at, qualify_of, target_t}
use Rattle.machines.specs.ResolveAgrees.{Same, Why, WithinNames, fit_r, fit_s, goes, stops, why_of}
use Rattle.machines.proofs.Reading.{name-number}
use Rattle.machines.proofs.CheckedReadLaws.{end-to, number-to, then_to}
use Rattle.machines.proofs.NamesPlaced.{alone}
use Rattle.machines.proofs.Lengths.{absorb, name-prefix, short-max, short-snoc, states-prefix}

-- what stopped stays so
pub stays : (ns : List Name) (top : Name) (v : Resolved) (j : ℕ → ℕ → ℕ → Resolved) (r : Refusal) → Why ns top v r → Why ns top (go_on v j) r
unfolding why_of go_on WithinNames
stays ns top (wk.Went q c a) j r e = absurd e.1
stays ns top (wk.Cycle i) j r e = e
stays ns top (wk.Unknown i m) j r e = e
stays ns top wk.Large j r e = e

pub large-why : (ns : List Name) (top : Name) → Why ns top wk.Large (too_large top)
unfolding why_of WithinNames
large-why ns top = (refl, tt)

-- one law carries every stop: both go on from what both came to
pub same-onward : {A B : Type 0} (ns : List Name) (top : Name) (sh : ℕ → A → Bool) (q : ℕ) (th : ℕ → B → Bool) (z : ℕ) (w : Walk A) (v : Resolved) (k : A → ℕ → Walk B) (j : ℕ → ℕ → ℕ → Resolved)
    → Same ns top sh q w v → ((x : A) (c a : ℕ) → ((p : ℕ) → sh p x ≡ leb (p + a) max_name) → Same ns top th z (k x c) (j q c a)) → Same ns top th z (walk_on w k) (go_on v j)
unfolding walk_on go_on
same-onward ns top sh q th z w v k j (stops {r} e f) h = stops (ap (λ y. walk_on y k) e) (stays ns top v j r f)
same-onward ns top sh q th z w v k j (goes {x} {c} {a} e f g) h = rw (e, f) (h x c a g)

pub same_by : {A : Type 0} (ns : List Name) (top : Name) (sh : ℕ → A → Bool) (q : ℕ) (w y : Walk A) (v z : Resolved) → w ≡ y → v ≡ z → Same ns top sh q y z → Same ns top sh q w v
same_by ns top sh q w y v z e f h = rw (e, f) h

pub same_map : {A B : Type 0} (ns : List Name) (top : Name) (sh : ℕ → A → Bool) (th : ℕ → B → Bool) (q : ℕ) (w : Walk A) (v : Resolved) (f : A → B)
    → Same ns top sh q w v → ((x : A) (a : ℕ) → ((p : ℕ) → sh p x ≡ leb (p + a) max_name) → (p : ℕ) → th p (f x) ≡ leb (p + a) max_name) → Same ns top th q (walk_on w (λ x c. went (f x) c)) v
unfolding walk_on
same_map ns top sh th q w v f (stops {r} e g) h = stops (ap (λ y. walk_on y (λ x c. went (f x) c)) e) g
same_map ns top sh th q w v f (goes {x} {c} {a} e g l) h = goes (ap (λ y. walk_on y (λ x c. went (f x) c)) e) g (h x a l)

pub walk_on-assoc : {A B C : Type 0} (w : Walk A) (k : A → ℕ → Walk B) (j : B → ℕ → Walk C) → walk_on (walk_on w k) j ≡ walk_on w (λ x c. walk_on (k x c) j)
unfolding walk_on
walk_on-assoc (stop r) k j = refl
walk_on-assoc (went x c) k j = refl

pub go_on-assoc : (v : Resolved) (k j : ℕ → ℕ → ℕ → Resolved) → go_on (go_on v k) j ≡ go_on v (λ q c a. go_on (k q c a) j)
unfolding go_on
go_on-assoc (wk.Went q c a) k j = refl
go_on-assoc (wk.Cycle i) k j = refl
go_on-assoc (wk.Unknown i m) k j = refl
go_on-assoc wk.Large k j = refl

pub arrive_same : {A : Type 0} (ns : List Name) (top : Name) (refine : ℕ → Name → Name → ℕ → Walk Target) (sh : ℕ → A → Bool) (q c : ℕ) (k : ℕ → Walk A) (v : Resolved) (j : ℕ → ℕ → ℕ → Resolved)
    → Same ns top sh q (k (c + 1)) (go_on v j) → Same ns top sh q (count_state top refine c k) (go_on (cond (ltb c max_states) v wk.Large) j)
unfolding count_state
arrive_same {A} ns top refine sh q c k v j h = go (ltb c max_states)
  where
    go : (b : Bool) → Same ns top sh q (elim b [ true ↦ k (c + 1) | false ↦ stop (too_large top) ]) (go_on (cond b v wk.Large) j)
    go true = h
    go false = stops refl (stays ns top wk.Large j (too_large top) (large-why ns top))

-- the code's path has the machines of the definition's, and room for l more: its last places are free
pub record Knows (ns : List Name) (l : ℕ) (path : List Name) (p : RefineStack) : Type 0 where
  pub same : (i : ℕ) → i < length ns → (i ≡ absent → ⊥) → on_of p i ≡ member (name_at ns i) path
  pub long : length p.names ≡ 8
  pub room : l ≤ 7
  pub free : (k : ℕ) → 7 ≤ k + l → k < 7 → get_or p.names (suc k) 0 ≡ absent

pub less-known : (ns : List Name) (l : ℕ) (path : List Name) (p : RefineStack) → Knows ns (suc l) path p → Knows ns l path p
less-known ns l path p k = record { same = k.same; long = k.long; room = omega (arith, k.room); free = λ j a b. k.free j (omega (arith, a)) b }

eqb-swap : (a b : ℕ) → eqb a b ≡ eqb b a
eqb-swap a b = go (eqb a b) refl
  where
    go : (x : Bool) → eqb a b ≡ x → x ≡ eqb b a
    go true e = sym (eq-eqb b a (sym (eqb-true a b e)))
    go false e = sym (ne_eqb b a (λ h. absurd (true≢false (sym (eq-eqb a b (sym h)) ∙ e))))

shifted : (p : RefineStack) (m i : ℕ) → (i ≡ absent → ⊥) → length p.names ≡ 8 → get_or p.names 7 0 ≡ absent → on_of (pushed_of p m) i ≡ (eqb i m || on_of p i)
unfolding on_of pushed_of
shifted p m i n l e = λ j. eqb-swap m i j || kept j
  where
    kept : list_any (λ x. eqb x i) (take 7 p.names) ≡ list_any (λ x. eqb x i) p.names
    kept =
        sym (or-false (list_any (λ x. eqb x i) (take 7 p.names)))
        ∙ ap (λ b. list_any (λ x. eqb x i) (take 7 p.names) || b) (sym (ap (λ x. eqb x i) e ∙ ne_eqb absent i (λ h. n (sym h))))
        ∙ sym (list_any_more (λ x. eqb x i) p.names 7 0 (omega (arith, l)))
        ∙ ap (list_any (λ x. eqb x i)) (ap (λ k. take k p.names) (sym l) ∙ take-length p.names)

pub push : (ns : List Name) (l : ℕ) (path : List Name) (p : RefineStack) (m : ℕ) (d : Name) → Fresh [] ns → Knows ns (suc l) path p → m < length ns → d ≡ name_at ns m → Knows ns l (d ∷ path) (pushed_of p m)
unfolding pushed_of member
push ns l path p m d fresh k small e =
    record {
      same = λ i h n.
          shifted p m i n k.long (k.free 6 (omega arith) (omega arith)) ∙ ap (λ y. eqb i m || y) (k.same i h n)
          ∙ ap (λ y. y || member (name_at ns i) path) (sym (alone ns fresh m i small h) ∙ ap (eq_name (name_at ns i)) (sym e));
      long = ap suc (length-take-le 7 p.names (omega (arith, k.long)));
      room = omega (arith, k.room);
      free = free;
    }
  where
    free : (j : ℕ) → 7 ≤ j + l → j < 7 → get_or (take 7 p.names) j 0 ≡ absent
    free zero a b = absurd (omega (arith, k.room))
    free (suc j) a b = get_or-take 7 p.names (suc j) 0 b ∙ k.free j (omega arith) (omega arith)

pub start-known : (ns : List Name) (n : Name) (x : ℕ) → Fresh [] ns → x < length ns → n ≡ name_at ns x → Knows ns 7 (n ∷ []) (start_of x)
unfolding start_of on_of member
start-known ns n x fresh small e =
    record {
      same = λ i h k. rw (ne_eqb absent i (λ z. k (sym z))) (ap (λ y. y || false) (eqb-swap x i ∙ sym (alone ns fresh x i small h) ∙ ap (eq_name (name_at ns i)) (sym e)));
      long = refl;
      room = omega arith;
      free = λ j a b. get_or-replicate 7 j absent 0 b;
    }

pub machine-named : (ms : List MachineDef) (n : Name) (d : MachineDef) → machine_of ms n ≡ some d → d.name ≡ n
unfolding machine_of first_of
machine-named [] n d e = let z : ◌≡◌ {A = ℕ} 0 1 = cc in absurd (omega arith)
machine-named (m ∷ ms) n d e = go (machine_of ms n) refl (eq_name m.name n) refl e (λ h. machine-named ms n d h)
  where
    go : (o : Option MachineDef) → machine_of ms n ≡ o → (b : Bool) → eq_name m.name n ≡ b → first_of o (cond b (some m) none) ≡ some d → (machine_of ms n ≡ some d → d.name ≡ n) → d.name ≡ n
    go (some c) f b g x ih = ih (f ∙ x)
    go none f true g x ih = let i : m ≡ d = cc in ap (λ (y : MachineDef). y.name) (sym i) ∙ eq_name-true m.name n g
    go none f false g x ih = let z : ◌≡◌ {A = ℕ} 0 1 = cc in absurd (omega arith)

-- lengths are right
module _ (ns : List Name) (s offsets : List ℕ) (right : (i : ℕ) → i < length ns → len_of s offsets i ≡ length (name_at ns i)) where
  pub len-at : (at : ℕ) (n : Name) (q : ℕ) → name_in ns s at ≡ value n q → len_at s offsets at ≡ length n
  unfolding len_at
  len-at at n q e =
      let i = name-number ns s at n q e in
      number-to s at i.i q _ i.is ∙ right i.i i.small ∙ ap length i.named

  -- the names of a state
  gather-targets : (n at a : ℕ) (ts : List Transition) (q : ℕ) → many (transition_in ns s) n at ≡ value ts q
      → (b : ℕ) × (turns (target_t ns s offsets) max n at a ≡ num b q) × ((p : ℕ) → (leb (p + a) max_name && short_targets p ts) ≡ leb (p + b) max_name)
  unfolding many turns short_targets target_t transition_in short_name
  gather-targets zero at a ts q e =
      let i : [] ≡ ts = cc in let j : at ≡ q = cc in
      (a, ap (num a) j, λ p. ap (λ y. leb (p + a) max_name && short_targets p y) (sym i) ∙ and-true (leb (p + a) max_name))
  gather-targets (suc n) at a ts q e =
      let b = bind-value (transition_in ns s at) _ ts q e in
      let d = bind-value (many (transition_in ns s) n b.1) _ ts q b.3 in
      let g = bind-value (expr_in ns s at) _ b.0 b.1 b.2 in
      let m = map-value _ (name_in ns s g.1) b.0 b.1 g.3 in
      let w = name-number ns s g.1 m.0 b.1 m.1 in
      let i : b.0 ∷ d.0 ≡ ts = cc d.3 in
      let j : d.1 ≡ q = cc d.3 in
      let l : len_of s offsets w.i ≡ length b.0.target = right w.i w.small ∙ ap length w.named ∙ ap (λ (t : Transition). length t.target) m.2 in
      let u = gather-targets n b.1 (max a (len_of s offsets w.i)) d.0 d.1 d.2 in (
        u.0,
        then_to (target_t ns s offsets at) (len_of s offsets w.i) b.1 _
            (ap (λ y. with (number_in s y) (λ i q. num (len_of s offsets i) q)) (end-to (expr_in ns s at) g.0 g.1 g.2) ∙ number-to s g.1 w.i b.1 _ w.is)
            ∙ u.1 ∙ ap (num u.0) j,
        λ p. ap (λ y. leb (p + a) max_name && short_targets p y) (sym i)
            ∙ sym (and_assoc (leb (p + a) max_name) (leb (p + length b.0.target) max_name) (short_targets p d.0))
            ∙ ap (λ y. leb (p + a) max_name && leb (p + y) max_name && short_targets p d.0) (sym l)
            ∙ ap (λ y. y && short_targets p d.0) (sym (short-max p a (len_of s offsets w.i)))
            ∙ u.2 p,
      )

-- what a state's head says
pub record HeadIs (ns : List Name) (s offsets : List ℕ) (at : ℕ) (nm : Name) (ts : List Transition) (z : ℕ) : Type 0 where
  pub i : ℕ
  pub o : ℕ
  pub a : ℕ
  pub is : u16 s at ≡ value i o
  pub small : i < length ns
  pub named : name_at ns i ≡ nm
  pub head : head_t ns s offsets at ≡ num a z
  pub law : (p : ℕ) → (short_name p nm && short_targets p ts) ≡ leb (p + a) max_name

pub head-is : (ns : List Name) (s offsets : List ℕ) → ((i : ℕ) → i < length ns → len_of s offsets i ≡ length (name_at ns i))
    → (at : ℕ) (nm : Name) (es : List Equation) (ts : List Transition) (k b : ℕ) → (h : StateAt ns s at nm es ts k b) → HeadIs ns s offsets at nm ts h.to-regions
unfolding counted head_t short_name
head-is ns s offsets right at nm es ts k b h =
    let i = name-number ns s at nm h.to-equations h.name in
    let d = bind-value (u16 s h.to-transitions) _ ts h.to-regions h.transitions in
    let g = gather-targets ns s offsets right d.0 d.1 (len_of s offsets i.i) ts h.to-regions d.3 in
    let l : len_of s offsets i.i ≡ length nm = right i.i i.small ∙ ap length i.named in
    record {
      i = i.i;
      o = h.to-equations;
      a = g.0;
      is = i.is;
      small = i.small;
      named = i.named;
      head = number-to s at i.i h.to-equations _ i.is
          ∙ ap (λ y. with (number_in s y) (λ n r. turns (target_t ns s offsets) max n r (len_of s offsets i.i))) (end-to (equations_in ns s h.to-equations) es h.to-transitions h.equations)
          ∙ number-to s h.to-transitions d.0 d.1 _ d.2 ∙ g.1;
      law = λ p. ap (λ y. leb (p + y) max_name && short_targets p ts) (sym l) ∙ g.2 p;
    }

-- a state's name and `_` in front
pub qualify-same : (ns : List Name) (top : Name) (refine : ℕ → Name → Name → ℕ → Walk Target) (nm init : Name) (qs : ResolvedRegions) (ss : ResolvedStates) (c e h b l f w : ℕ) → l ≡ length nm → f ≡ length init
    → ((p : ℕ) → fit_r h p qs ≡ leb (p + b) max_name) → ((p : ℕ) → fit_s 0 p ss ≡ leb (p + w) max_name) → Same ns top (fit_r h) e (with_target top refine nm qs (as_target init ss) c) (qualify_of l (max f w) b e c)
unfolding with_target as_target qualify_of fit_r fit_s short_name
qualify-same ns top refine nm init qs ss c e h b l f w x y lq ls =
    let t : (k : ℕ) → leb (k + max f w) max_name ≡ (leb (k + length init) max_name && short_s k ss) =
    λ k. short-max k f w ∙ ap (λ z. leb (k + f) max_name && z) (sym (ls k)) ∙ absorb k f (short_s k ss) ∙ ap (λ z. leb (k + z) max_name && short_s k ss) y in
    let g : (p : ℕ) → fit_r h p (append_region qs ((nm ++ (95 ∷ [])) ++ init) (prefix_s (nm ++ (95 ∷ [])) ss)) ≡ leb (p + max b (l + 1 + max f w)) max_name = λ p.
    let o : length (nm ++ (95 ∷ [])) ≡ l + 1 = length-append nm (95 ∷ []) ∙ ap (λ k. k + 1) (sym x) in
    let u : p + (l + 1) + max f w ≡ p + (l + 1 + max f w) = omega arith in
    ap (λ z. leb (p + h) max_name && z) (short-snoc p qs ((nm ++ (95 ∷ [])) ++ init) (prefix_s (nm ++ (95 ∷ [])) ss))
    ∙ sym (and_assoc (leb (p + h) max_name) (short_r p qs) (short_name p ((nm ++ (95 ∷ [])) ++ init) && short_s p (prefix_s (nm ++ (95 ∷ [])) ss)))
    ∙ ap (λ z. z && (short_name p ((nm ++ (95 ∷ [])) ++ init) && short_s p (prefix_s (nm ++ (95 ∷ [])) ss))) (lq p)
    ∙ ap (λ z. leb (p + b) max_name && (z && short_s p (prefix_s (nm ++ (95 ∷ [])) ss))) (name-prefix p (nm ++ (95 ∷ [])) init)
    ∙ ap (λ z. leb (p + b) max_name && (short_name (p + length (nm ++ (95 ∷ []))) init && z)) (states-prefix p (nm ++ (95 ∷ [])) ss)
    ∙ ap (λ z. leb (p + b) max_name && (short_name (p + z) init && short_s (p + z) ss)) o
    ∙ ap (λ z. leb (p + b) max_name && z) (sym (t (p + (l + 1))))
    ∙ ap (λ z. leb (p + b) max_name && leb z max_name) u
    ∙ sym (short-max p b (l + 1 + max f w)) in
    let k : leb (l + 1 + max f w) max_name ≡ (leb (length nm + 1 + length init) max_name && short_s (length nm + 1) ss) =
    t (l + 1) ∙ ap (λ z. leb (z + 1 + length init) max_name && short_s (z + 1) ss) x in
    rw k (go (leb (length nm + 1 + length init) max_name && short_s (length nm + 1) ss) g)
  where
    go : (z : Bool) → ((p : ℕ) → fit_r h p (append_region qs ((nm ++ (95 ∷ [])) ++ init) (prefix_s (nm ++ (95 ∷ [])) ss)) ≡ leb (p + max b (l + 1 + max f w)) max_name)
        → Same ns top (fit_r h) e (cond z (went (append_region qs ((nm ++ (95 ∷ [])) ++ init) (prefix_s (nm ++ (95 ∷ [])) ss)) c) (stop (too_large top))) (cond z (wk.Went e c (max b (l + 1 + max f w))) wk.Large)
    go true g = goes refl refl g
    go false g = stops refl (large-why ns top)

-- The next state that is written from the layout is that of the definition: equal in what every writer comes to.
use Prim.Native.Nat.{ℕ, zero, suc, ◌+◌, ◌-◌, ◌<◌}
use native.Mathlib.Omega.{arith}
use mathlib.Core.List.{List, [], ◌∷◌, ◌++◌}
use mathlib.Core.Path.{◌≡◌, refl, sym, ap, ◌∙◌}
use lib.ListN.{length, get_or}
use Rattle.wire.specs.Answer.{counted, many, u16, value}
use Rattle.wire.specs.Writer.{State, puts}
use Rattle.wire.proofs.Answers.{bind-value, map-value}
use Rattle.pack_rules.specs.Names.{Name}
use Rattle.pack_rules.specs.Syntax.{Equation, Expr, Transition, e_var}
use Rattle.machine_rules.specs.Resolved.{ResolvedRegions, ResolvedStates, s_cons, s_nil}
use Rattle.pack_rules.specs.Forms.{name_at}
use Rattle.pack_rules.specs.Read.{expr_in, name_in, transition_in}
use Rattle.pack_rules.specs.Write.{Item, expr_items, raw}
use Rattle.pack.specs.Intern.{put_item, put_name, render}
use Rattle.pack.proofs.Interns.{render-append}
use Rattle.machine_rules.specs.MadeNames.{state_var}
use Rattle.machine_rules.specs.Resolve.{prefix_transitions}
use Rattle.machines.specs.ResolvedIn.{StateAt, end_of}
use Rattle.machines.specs.CheckedReads.{number_in, with}
use Rattle.machines.specs.Layout.{HeldS, StateRow, h_end, h_more, prefix_of, slice_of}
use Rattle.machine_rules.specs.Lower.{chain_step, is_name, next_chain, transitions_of}
use Rattle.machines.specs.EmitAt.{chain_t, in_region, last_or, letters_at, move_t, moves_t, pack_name, test_t, transitions_t}
use Rattle.machines.proofs.Reading.{many-cut, many_more, many-over, name-number}
use Rattle.machines.proofs.CheckedReadLaws.{end-to, number-to}
use Rattle.machines.proofs.EnumsEmitted.{state-letters}

-- two lists of items that every writer takes alike
abbrev pub Alike : List ℕ → List Item → List Item → Type 0
Alike old is js = (z : State) → render old is z ≡ render old js z

pub alike-append : (old : List ℕ) (a b c d : List Item) → Alike old a b → Alike old c d → Alike old (a ++ c) (b ++ d)
alike-append old a b c d f g = λ z. render-append old a c z ∙ g (render old a z) ∙ ap (render old d) (f z) ∙ sym (render-append old b d z)

pub alike-by : (old : List ℕ) (a b : List Item) → a ≡ b → Alike old a b
alike-by old a b e = λ z. ap (λ (is : List Item). render old is z) e

-- a transition that was read
record MoveAt (ns : List Name) (s : List ℕ) (at : ℕ) (x : Transition) (q : ℕ) : Type 0 where
  to : ℕ
  i : ℕ
  guard : expr_in ns s at ≡ value x.guard to
  is : u16 s to ≡ value i q
  small : i < length ns
  target : name_at ns i ≡ x.target

move-value : (ns : List Name) (s : List ℕ) (at : ℕ) (x : Transition) (q : ℕ) → transition_in ns s at ≡ value x q → MoveAt ns s at x q
unfolding transition_in
move-value ns s at x q e =
    let b = bind-value (expr_in ns s at) _ x q e in
    let m = map-value _ (name_in ns s b.1) x q b.3 in
    let n = name-number ns s b.1 m.0 q m.1 in
    record {
      to = b.1;
      i = n.i;
      guard = b.2 ∙ ap (λ (y : Transition). value y.guard b.1) m.2;
      is = n.is;
      small = n.small;
      target = n.named ∙ ap (λ (y : Transition). y.target) m.2;
    }

-- the pack, its names, the layout, the table of old names; where names stand; and what copying an expression does
module _ (ns : List Name) (s offsets t reg qualified old : List ℕ)
    (named : (x : ℕ) → x < length ns → pack_name s offsets x ≡ name_at ns x)
    (copied : (a b : ℕ) (e : Expr) → expr_in ns s a ≡ value e b → (z : State) → render old (raw (slice_of s a (b - a)) ∷ []) z ≡ render old (expr_items e) z) where
  -- a name in a region with the prefix pre
  pub in-region : (q x : ℕ) (pre n : Name) → prefix_of (letters_at t qualified q) ≡ pre → x < length ns → name_at ns x ≡ n → in_region s offsets t qualified q x ≡ pre ++ n
  unfolding in_region
  in-region q x pre n e h f = λ i. e i ++ (named x h ∙ f) i

  move-alike : (q at e x : ℕ) (g : Expr) (n : Name) (is js : List Item) → expr_in ns s at ≡ value g e → in_region s offsets t qualified q x ≡ n → Alike old is js
      → Alike old (move_t s offsets t qualified q at e x ++ is) (raw (4 ∷ []) ∷ (expr_items g ++ (expr_items (e_var n) ++ js)))
  unfolding move_t render put_item expr_items
  move-alike q at e x g n is js f h k = λ z.
      (λ i. render old is (put_name old (h i) (puts (1 ∷ []) (copied at e g f (puts (4 ∷ []) z) i))))
      ∙ k (put_name old n (puts (1 ∷ []) (render old (expr_items g) (puts (4 ∷ []) z))))
      ∙ sym (render-append old (expr_items g) (expr_items (e_var n) ++ js) (puts (4 ∷ []) z))

  moves-end : (q at : ℕ) (pre : Name) → moves_t s offsets t qualified ns q 0 at ≡ expr_items (transitions_of (state_var (get_or t (q + 5) 0)) (prefix_transitions pre []))
  unfolding moves_t transitions_of prefix_transitions
  moves-end q at pre = refl

  moves-step : (q n at : ℕ) → moves_t s offsets t qualified ns q (suc n) at ≡ with (number_in s (end_of (expr_in ns s at))) (λ x o. move_t s offsets t qualified q at (end_of (expr_in ns s at)) x ++ moves_t s offsets t qualified ns q n o)
  unfolding moves_t
  moves-step q n at = refl

  moves-parts : (q n at : ℕ) (x : Transition) (o : ℕ) → (m : MoveAt ns s at x o) → moves_t s offsets t qualified ns q (suc n) at ≡ move_t s offsets t qualified q at m.to m.i ++ moves_t s offsets t qualified ns q n o
  moves-parts q n at x o m =
      let e = end-to (expr_in ns s at) x.guard m.to m.guard in
      moves-step q n at
      ∙ ap (λ (y : ℕ). with (number_in s y) (λ x o. move_t s offsets t qualified q at y x ++ moves_t s offsets t qualified ns q n o)) e
      ∙ number-to s m.to m.i o _ m.is

  move-items : (v pre : Name) (x : Transition) (ts : List Transition) → raw (4 ∷ []) ∷ (expr_items x.guard ++ (expr_items (e_var (pre ++ x.target)) ++ expr_items (transitions_of v (prefix_transitions pre ts)))) ≡ expr_items (transitions_of v (prefix_transitions pre (x ∷ ts)))
  unfolding expr_items transitions_of prefix_transitions
  move-items v pre x ts = refl

  moves-alike : (q : ℕ) (pre : Name) → prefix_of (letters_at t qualified q) ≡ pre → (n at : ℕ) (ts : List Transition) (o : ℕ) → many (transition_in ns s) n at ≡ value ts o
      → Alike old (moves_t s offsets t qualified ns q n at) (expr_items (transitions_of (state_var (get_or t (q + 5) 0)) (prefix_transitions pre ts)))
  moves-alike q pre f zero at [] o e = alike-by old _ _ (moves-end q at pre)
  moves-alike q pre f zero at (x ∷ ts) o e = absurd (many-cut (transition_in ns s) at x ts o e)
  moves-alike q pre f (suc n) at [] o e = absurd (many-over (transition_in ns s) n at o e)
  moves-alike q pre f (suc n) at (x ∷ ts) o e =
      let a = many_more (transition_in ns s) n at x ts o e in
      let m = move-value ns s at x a.0 a.1 in
      λ z. ap (λ (is : List Item). render old is z) (moves-parts q n at x a.0 m)
      ∙ move-alike q at m.to m.i x.guard (pre ++ x.target) _ _ m.guard (in-region q m.i pre x.target f m.small m.target) (moves-alike q pre f n a.0 ts o a.2) z
      ∙ ap (λ (is : List Item). render old is z) (move-items (state_var (get_or t (q + 5) 0)) pre x ts)

  -- the transitions of a state
  transitions-alike : {at tr a m e k v w : ℕ} {nn : Name} {es : List Equation} (q p : ℕ) (pre : Name) (ts tts : List Transition) → prefix_of (letters_at t qualified q) ≡ pre → StateRow t p at tr a m e k → (d : StateAt ns s at nn es ts v w) → d.to-transitions ≡ tr → tts ≡ prefix_transitions pre ts
      → Alike old (transitions_t s offsets t qualified ns q p) (expr_items (transitions_of (state_var (get_or t (q + 5) 0)) tts))
  unfolding transitions_t counted
  transitions-alike q p pre ts tts f row d h g =
      let b = bind-value (u16 s d.to-transitions) _ ts d.to-regions d.transitions in
      λ z. ap (λ (is : List Item). render old is z) (ap (λ (y : ℕ). with (number_in s y) (λ n o. moves_t s offsets t qualified ns q n o)) (row.moves ∙ sym h) ∙ number-to s d.to-transitions b.0 b.1 _ b.2)
      ∙ moves-alike q pre f b.0 b.1 ts d.to-regions b.3 z
      ∙ ap (λ (us : List Transition). render old (expr_items (transitions_of (state_var (get_or t (q + 5) 0)) us)) z) (sym g)

  -- a part of a chain: the rest counts where the part is not the last
  pub last-alike : {pre : Name} {up l n p i q j : ℕ} (rest : ResolvedStates) → HeldS ns s t reg qualified pre up l n p i rest q j → (test val chain : List Item) (a b c : Expr) → Alike old test (raw (4 ∷ []) ∷ expr_items a) → Alike old val (expr_items b) → (0 < n → Alike old chain (expr_items c))
      → Alike old (last_or n test val chain) (expr_items (chain_step a b rest c))
  unfolding last_or chain_step expr_items
  last-alike s_nil (h_end x y) test val chain a b c f g h = g
  last-alike (s_cons nn es ts rs rest) (h_more row d to fu sl ms rg st) test val chain a b c f g h =
      alike-append old test (raw (4 ∷ []) ∷ expr_items a) (val ++ chain) (expr_items b ++ expr_items c) f (alike-append old val (expr_items b) chain (expr_items c) g (h (omega arith)))

  pub test-alike : {at tr a m e k : ℕ} (q p : ℕ) (full : Name) → StateRow t p at tr a m e k → slice_of qualified a m ≡ full → test_t t qualified q p ≡ raw (4 ∷ []) ∷ expr_items (is_name (state_var (get_or t (q + 5) 0)) full)
  unfolding test_t
  test-alike q p full row f = ap (λ (n : Name). raw (4 ∷ []) ∷ expr_items (is_name (state_var (get_or t (q + 5) 0)) n)) (state-letters t qualified p full row f)

  chain-end : (q p : ℕ) → chain_t s offsets t qualified ns q 0 p ≡ expr_items (next_chain (state_var (get_or t (q + 5) 0)) s_nil)
  unfolding chain_t next_chain
  chain-end q p = refl

  chain-step : (q n p e : ℕ) → get_or t (p + 4) 0 ≡ e → chain_t s offsets t qualified ns q (suc n) p ≡ last_or n (test_t t qualified q p) (transitions_t s offsets t qualified ns q p) (chain_t s offsets t qualified ns q n e)
  unfolding chain_t
  chain-step q n p e f = ap (λ (y : ℕ). last_or n (test_t t qualified q p) (transitions_t s offsets t qualified ns q p) (chain_t s offsets t qualified ns q n y)) f

  next-step : (v nn : Name) (es : List Equation) (ts : List Transition) (rs : ResolvedRegions) (rest : ResolvedStates) → expr_items (chain_step (is_name v nn) (transitions_of v ts) rest (next_chain v rest)) ≡ expr_items (next_chain v (s_cons nn es ts rs rest))
  unfolding next_chain
  next-step v nn es ts rs rest = refl

  -- the next state by the states that are held
  pub chain-alike : {pre : Name} {up l n p i e j : ℕ} (q : ℕ) (ss : ResolvedStates) → prefix_of (letters_at t qualified q) ≡ pre → HeldS ns s t reg qualified pre up l n p i ss e j → Alike old (chain_t s offsets t qualified ns q n p) (expr_items (next_chain (state_var (get_or t (q + 5) 0)) ss))
  chain-alike q s_nil f (h_end x y) = alike-by old _ _ (chain-end q _)
  chain-alike q (s_cons nn es ts rs rest) f (h_more row d to fu sl ms rg st) = λ z.
      ap (λ (is : List Item). render old is z) (chain-step q _ _ _ row.after)
      ∙ last-alike rest st _ _ _ (is_name (state_var (get_or t (q + 5) 0)) nn) (transitions_of (state_var (get_or t (q + 5) 0)) ts) (next_chain (state_var (get_or t (q + 5) 0)) rest)
      (alike-by old _ _ (test-alike q _ nn row sl)) (transitions-alike q _ _ _ ts f row d to ms) (λ h. chain-alike q rest f st) z
      ∙ ap (λ (is : List Item). render old is z) (next-step (state_var (get_or t (q + 5) 0)) nn es ts rs rest)

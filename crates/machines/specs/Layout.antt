-- Internal: nothing here has to be believed; laws tie it to what docs/TRUSTED.md lists.
-- The layout of a resolved machine: words in preorder that say where each state is drawn, made once for all that looks at it.
use Rattle.std.specs.Prelude.{ℕ, zero, suc, ◌+◌, ◌<◌, List, [], ◌∷◌, ◌++◌, Bool, true, ◌≡◌, length, get_or, take, drop}
use Rattle.pack_rules.specs.Names.{Name}
use Rattle.pack_rules.specs.Syntax.{Equation, Transition}
use Rattle.machine_rules.specs.Resolved.{ResolvedRegions, ResolvedStates, r_cons, r_nil, s_cons, s_nil}
use Rattle.pack_rules.specs.Forms.{flag_of, name_at}
use Rattle.machine_rules.specs.Resolve.{prefix_transitions}
use Rattle.machines.specs.ResolvedIn.{StateAt}

-- n letters from a on
unfoldable pub slice_of : List ℕ → ℕ → ℕ → Name
slice_of qualified a n = take n (drop a qualified)

-- the prefix of the names inside a refined state: its name and `_`; at the top there is none
unfoldable pub prefix_of : Name → Name
prefix_of [] = []
prefix_of (c ∷ n) = (c ∷ n) ++ (95 ∷ [])

-- a state in six words: where it is drawn, where its transitions are; its name's first letter and length;
-- the word after its regions, and how many of them are laid out
pub record StateRow (t : List ℕ) (p at tr a n q k : ℕ) : Type 0 where
  pub drawn : get_or t p 0 ≡ at
  pub moves : get_or t (p + 1) 0 ≡ tr
  pub letter : get_or t (p + 2) 0 ≡ a
  pub letters : get_or t (p + 3) 0 ≡ n
  pub after : get_or t (p + 4) 0 ≡ q
  pub regions : get_or t (p + 5) 0 ≡ k

-- a region in nine words: its initial state's name, its history; the first letter and length of the refined
-- state's name, 0 where there is none; the word after its states, its id,
-- how many states; the word of the state that holds it, and the id of the region that this state is in
pub record RegionRow (t : List ℕ) (p x y a n q id k st up : ℕ) : Type 0 where
  pub initial : get_or t p 0 ≡ x
  pub history : get_or t (p + 1) 0 ≡ y
  pub letter : get_or t (p + 2) 0 ≡ a
  pub letters : get_or t (p + 3) 0 ≡ n
  pub after : get_or t (p + 4) 0 ≡ q
  pub number : get_or t (p + 5) 0 ≡ id
  pub states : get_or t (p + 6) 0 ≡ k
  pub state : get_or t (p + 7) 0 ≡ st
  pub holder : get_or t (p + 8) 0 ≡ up

-- whether a region without states was met: of such regions only the first is laid out
unfoldable pub holed : Bool → ℕ → Bool
holed g zero = true
holed g (suc n) = g

-- names, the pack's bytes, words, the words of regions by their ids, letters
mutual
  -- n states of the region `up` from the word p on, with so many levels left below, under the prefix pre of their names;
  -- the next region has the id i
  pub data LaidS (ns : List Name) (s t reg qualified : List ℕ) : Name → ℕ → ℕ → ℕ → ℕ → ℕ → Bool → ResolvedStates → ℕ → ℕ → Bool → Type 0 where
    l_end : {pre : Name} {up l p i q j : ℕ} {g h : Bool} → p ≡ q → i ≡ j → g ≡ h → LaidS ns s t reg qualified pre up l zero p i g s_nil q j h
    l_more : {pre nm full : Name} {up l n p i q j at tr a m e k v w o : ℕ} {g f h : Bool} {es : List Equation} {ts tts : List Transition} {rs : ResolvedRegions} {rest : ResolvedStates}
        → StateRow t p at tr a m e k
        → (d : StateAt ns s at nm es ts v w)
        → d.to-transitions ≡ tr
        → full ≡ pre ++ nm
        → slice_of qualified a m ≡ full
        → tts ≡ prefix_transitions pre ts
        → LaidR ns s t reg qualified up p l k (p + 6) i g rs e o f
        → LaidS ns s t reg qualified pre up l n e o f rest q j h
        → LaidS ns s t reg qualified pre up l (suc n) p i g (s_cons full es tts rs rest) q j h

  -- k regions of the state at the word st, which is in the region `up`, from the word p on
  pub data LaidR (ns : List Name) (s t reg qualified : List ℕ) : ℕ → ℕ → ℕ → ℕ → ℕ → ℕ → Bool → ResolvedRegions → ℕ → ℕ → Bool → Type 0 where
    r_end : {up st l p i q j : ℕ} {g h : Bool} → p ≡ q → i ≡ j → g ≡ h → LaidR ns s t reg qualified up st l zero p i g r_nil q j h
    r_more : {pre full : Name} {up st l k p i q j x y a m e n o : ℕ} {g f h b : Bool} {ss : ResolvedStates} {rest : ResolvedRegions}
        → RegionRow t p x y a m e i n st up
        → get_or reg i 0 ≡ p
        → x < length ns
        → flag_of y ≡ b
        → prefix_of (slice_of qualified a m) ≡ pre
        → full ≡ pre ++ name_at ns x
        → LaidS ns s t reg qualified pre i l n (p + 9) (suc i) (holed g n) ss e o f
        → LaidR ns s t reg qualified up st (suc l) k e o f rest q j h
        → LaidR ns s t reg qualified up st (suc l) (suc k) p i g (r_cons full b ss rest) q j h
    r_left : {full : Name} {up st l k p i q j : ℕ} {h b : Bool} {rest : ResolvedRegions}
        → LaidR ns s t reg qualified up st (suc l) k p i true rest q j h
        → LaidR ns s t reg qualified up st (suc l) k p i true (r_cons full b s_nil rest) q j h

-- the same where every region has states, so that all are laid out
mutual
  pub data HeldS (ns : List Name) (s t reg qualified : List ℕ) : Name → ℕ → ℕ → ℕ → ℕ → ℕ → ResolvedStates → ℕ → ℕ → Type 0 where
    h_end : {pre : Name} {up l p i q j : ℕ} → p ≡ q → i ≡ j → HeldS ns s t reg qualified pre up l zero p i s_nil q j
    h_more : {pre nm full : Name} {up l n p i q j at tr a m e k v w o : ℕ} {es : List Equation} {ts tts : List Transition} {rs : ResolvedRegions} {rest : ResolvedStates}
        → StateRow t p at tr a m e k
        → (d : StateAt ns s at nm es ts v w)
        → d.to-transitions ≡ tr
        → full ≡ pre ++ nm
        → slice_of qualified a m ≡ full
        → tts ≡ prefix_transitions pre ts
        → HeldR ns s t reg qualified up p l k (p + 6) i rs e o
        → HeldS ns s t reg qualified pre up l n e o rest q j
        → HeldS ns s t reg qualified pre up l (suc n) p i (s_cons full es tts rs rest) q j

  pub data HeldR (ns : List Name) (s t reg qualified : List ℕ) : ℕ → ℕ → ℕ → ℕ → ℕ → ℕ → ResolvedRegions → ℕ → ℕ → Type 0 where
    g_end : {up st l p i q j : ℕ} → p ≡ q → i ≡ j → HeldR ns s t reg qualified up st l zero p i r_nil q j
    g_more : {pre full : Name} {up st l k p i q j x y a m e n o : ℕ} {b : Bool} {ss : ResolvedStates} {rest : ResolvedRegions}
        → RegionRow t p x y a m e i n st up
        → get_or reg i 0 ≡ p
        → x < length ns
        → flag_of y ≡ b
        → prefix_of (slice_of qualified a m) ≡ pre
        → full ≡ pre ++ name_at ns x
        → HeldS ns s t reg qualified pre i l n (p + 9) (suc i) ss e o
        → HeldR ns s t reg qualified up st (suc l) k e o rest q j
        → HeldR ns s t reg qualified up st (suc l) (suc k) p i (r_cons full b ss rest) q j

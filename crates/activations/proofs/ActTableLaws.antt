-- Laws for the table of activations: its columns, and a row that is judged.
use Prim.Native.Nat.{ℕ, ◌+◌, ◌<◌, ◌≤◌}
use native.Mathlib.Omega.{arith}
use mathlib.Core.List.{List, []}
use mathlib.Core.Path.{◌≡◌, refl, sym, subst, ◌∙◌}
use lib.ListN.{length, get_or, length-replicate, replicate}
use Rattle.pack_rules.specs.Names.{Name}
use Rattle.machines.specs.CheckedReads.{with}
use Rattle.activations.specs.declared.parts.Act.{Act}
use Rattle.activations.specs.declared.checks.Refused.{Refused}
use Rattle.activations.specs.Cells.{put_t}
use Rattle.activations.specs.ChecksAt.{refused_t}
use Rattle.activations.specs.Places.{act_at, act_of}
use Rattle.activations.specs.ActTable.{goal_t, judged_t, made_t, refusal_t, spot_t}
use Rattle.machines.proofs.CheckedReadLaws.{number_small}
use Rattle.activations.proofs.RowsNoted.{put-length, put_other, put_same}

-- an activation has few branches
at-few : (ns : List Name) (s : List ℕ) (at : ℕ) → ((i : ℕ) → get_or s i 0 < 256) → (act_at ns s at).n < 65536
unfolding act_at act_of with
at-few ns s at by = number_small s _ _ by refl

pub act-few : (a : Act) (s : List ℕ) (names at : ℕ) → ((i : ℕ) → get_or s i 0 < 256) → ((ns : List Name) → length ns ≡ names → a ≡ act_at ns s at) → a.n < 65536
act-few a s names at by h =
    let ns : List Name = replicate names [] in
    subst (λ (x : Act). x.n < 65536) (sym (h ns (length-replicate names []))) (at-few ns s at by)

-- the row i once it is judged
module _ (acts : List ℕ) (i : ℕ) (r : Refused) (n : ℕ) where
  pub judged-length : length (judged_t acts i r n) ≡ length acts
  unfolding judged_t
  judged-length = put-length _ _ _ ∙ put-length _ _ _ ∙ put-length _ _ _ ∙ put-length _ _ _

  elsewhere : (c : ℕ) → (c ≡ 13312 + i → ⊥) → (c ≡ 19968 + i → ⊥) → (c ≡ 26624 + i → ⊥) → (c ≡ 33280 + i → ⊥) → get_or (judged_t acts i r n) c 0 ≡ get_or acts c 0
  unfolding judged_t
  elsewhere c e f g h = put_other _ _ _ c h ∙ put_other _ _ _ c g ∙ put_other _ _ _ c f ∙ put_other _ _ _ c e

  module _ (low : i < 6656) where
    -- where the activations stand and their nodes stay
    pub judged-spot : (j : ℕ) → j < 6656 → spot_t (judged_t acts i r n) j ≡ spot_t acts j
    unfolding spot_t
    judged-spot j l = elsewhere j (λ e. omega arith) (λ e. omega arith) (λ e. omega arith) (λ e. omega arith)

    pub judged-goal : (j : ℕ) → j < 6656 → goal_t (judged_t acts i r n) j ≡ goal_t acts j
    unfolding goal_t
    judged-goal j l = elsewhere (6656 + j) (λ e. omega arith) (λ e. omega arith) (λ e. omega arith) (λ e. omega arith)

    -- and what was judged of others
    module _ (j : ℕ) (l : j < 6656) (d : j ≡ i → ⊥) where
      pub other-refusal : refusal_t (judged_t acts i r n) j ≡ refusal_t acts j
      unfolding refusal_t
      other-refusal =
          let a = elsewhere (13312 + j) (λ e. d (omega arith)) (λ e. omega arith) (λ e. omega arith) (λ e. omega arith) in
          let b = elsewhere (19968 + j) (λ e. omega arith) (λ e. d (omega arith)) (λ e. omega arith) (λ e. omega arith) in
          let c = elsewhere (26624 + j) (λ e. omega arith) (λ e. omega arith) (λ e. d (omega arith)) (λ e. omega arith) in
          λ k. refused_t (a k) (b k) (c k)

      pub other-made : made_t (judged_t acts i r n) j ≡ made_t acts j
      unfolding made_t
      other-made = elsewhere (33280 + j) (λ e. omega arith) (λ e. omega arith) (λ e. omega arith) (λ e. d (omega arith))

    -- its own is what is put
    module _ (long : 39936 ≤ length acts) where
      abbrev A : List ℕ
      A = put_t acts (13312 + i) r.kind

      abbrev B : List ℕ
      B = put_t A (19968 + i) r.second

      abbrev C : List ℕ
      C = put_t B (26624 + i) r.third

      long_a : length A ≡ length acts
      long_a = put-length acts (13312 + i) r.kind

      long_b : length B ≡ length acts
      long_b = put-length A (19968 + i) r.second ∙ long_a

      long_c : length C ≡ length acts
      long_c = put-length B (26624 + i) r.third ∙ long_b

      pub own-refusal : r.kind < 65536 → r.second < 65536 → r.third < 65536 → refusal_t (judged_t acts i r n) i ≡ r
      unfolding refusal_t judged_t
      own-refusal k x y =
          let a : get_or (put_t C (33280 + i) n) (13312 + i) 0 ≡ r.kind =
          put_other C _ n (13312 + i) (λ e. omega arith) ∙ put_other B _ r.third (13312 + i) (λ e. omega arith) ∙ put_other A _ r.second (13312 + i) (λ e. omega arith) ∙ put_same acts (13312 + i) r.kind (omega arith) k in
          let b : get_or (put_t C (33280 + i) n) (19968 + i) 0 ≡ r.second =
          put_other C _ n (19968 + i) (λ e. omega arith) ∙ put_other B _ r.third (19968 + i) (λ e. omega arith) ∙ put_same A (19968 + i) r.second (omega (arith, long_a)) x in
          let c : get_or (put_t C (33280 + i) n) (26624 + i) 0 ≡ r.third =
          put_other C _ n (26624 + i) (λ e. omega arith) ∙ put_same B (26624 + i) r.third (omega (arith, long_b)) y in
          λ j. refused_t (a j) (b j) (c j)

      pub own-made : n < 65536 → made_t (judged_t acts i r n) i ≡ n
      unfolding made_t judged_t
      own-made l = put_same C (33280 + i) n (omega (arith, long_c)) l

-- No offset that reading a pack answers is past its end.
use Rattle.std.proofs.Common.{ℕ, zero, suc, ◌≤◌, not, ◌||◌, eqb, ltb, List, [], ◌∷◌, ◌++◌, length, get_or}
use Rattle.wire.specs.Answer.{Answer, illegal, index, u16}
use Rattle.wire.proofs.Bounds.{Within, offset_in, within-below, within-bind, within-byte, within-cond, within-counted, within-guard, within-index, within-many, within-map, within-trees, within-u16, within-u32, within-u64, within-value}
use Rattle.pack_rules.specs.Names.{Name, member}
use Rattle.pack_rules.specs.Read.{OneRegion, activation_in, branch_in, char, enum_in, equation_in, equations_in, expr_in, machine_in, name, name_byte, name_in, name_section, names_after, names_in, node_in, optional_in, origin_in, pack_at, port_in, ports_in, region_at, size, state_at, state_with, transition_in, type_in}
use Rattle.pack_rules.specs.Forms.{ExprHead, call_fields, expr_arity, expr_at, expr_fields, expr_head, expr_rows, iterate_fields, literal, literal_of, struct_fields, type_arity, type_at, type_fields, type_head, when_fields}
use Rattle.pack_rules.specs.Limits.{absent}

module _ (s : List ℕ) where
  w-char : Within (length s) (char s)
  unfolding char
  w-char p h = within-guard (length s) name_byte p _ h (within-byte s p)

  w-name : Within (length s) (name s)
  unfolding name size
  w-name p h = within-bind (length s) _ _ (within-guard (length s) _ p _ h (within-byte s p)) (λ n. within-many (length s) (char s) w-char n)

  w-names : (n : ℕ) (t : List Name) → Within (length s) (names_after s t n)
  unfolding names_after
  w-names zero t p h = within-value (length s) t p h
  w-names (suc n) t p h = within-bind (length s) _ _ (within-guard (length s) (λ x. not (member x t)) p _ h (w-name p h)) (λ x. w-names n (t ++ (x ∷ [])))

  w-section : Within (length s) (name_section s)
  unfolding name_section
  w-section p h = within-bind (length s) (u16 s p) _ (within-u16 s p) (λ n. w-names n [])

module _ (names : ℕ) (s : List ℕ) where
  w-type-head : Within (length s) (type_head names s)
  unfolding type_head type_fields
  w-type-head p h = within-bind (length s) _ _ (within-below s 14 p h) (λ t q l.
      within-cond (length s) (eqb t 12) _ _ (within-map (length s) _ _ (within-u32 s q))
      (within-cond (length s) (eqb t 13) _ _ (within-map (length s) _ _ (within-index s names q l))
      (within-value (length s) _ q l)))

  w-type : Within (length s) (type_at names s)
  unfolding type_at
  w-type p h = within-trees s type_arity (type_head names) w-type-head (suc (length s)) 1 p h

  w-literal : Within (length s) (literal s)
  unfolding literal literal_of
  w-literal p h = within-bind (length s) _ _ (within-below s 4 p h) (λ t q l.
      within-cond (length s) (eqb t 0) _ _ (within-map (length s) _ _ (within-below s 2 q l))
      (within-cond (length s) (eqb t 1) _ _ (within-map (length s) _ _ (within-u64 s q))
      (within-cond (length s) (eqb t 2) _ _ (within-map (length s) _ _ (within-u64 s q))
      (within-map (length s) _ _ (within-byte s q)))))

  -- what holds of each row holds of the row of any tag
  unfoldable AllWithin : ℕ → List (Answer ExprHead) → Type 0
  AllWithin m [] = Unit {0}
  AllWithin m (a ∷ l) = (offset_in a ≤ m) × AllWithin m l

  row_within : (m : ℕ) (l : List (Answer ExprHead)) (k p : ℕ) → AllWithin m l → p ≤ m → offset_in (get_or l k (illegal p)) ≤ m
  unfolding AllWithin offset_in
  row_within m [] k p e h = h
  row_within m (a ∷ l) zero p e h = e.0
  row_within m (a ∷ l) (suc k) p e h = row_within m l k p e.1 h

  w-rows : (p : ℕ) → p ≤ length s → AllWithin (length s) (expr_rows names s p)
  unfolding AllWithin expr_rows call_fields struct_fields when_fields iterate_fields
  w-rows p h =
      let n = length s in
      let i = within-index s names in (
        within-map n _ _ (w-literal p h),
        (
          within-map n _ _ (i p h),
          (
            within-map n _ _ (within-below s 2 p h),
            (
              within-map n _ _ (within-below s 20 p h),
              (
                within-value n _ p h,
                (
                  within-value n _ p h,
                  (
                    within-value n _ p h,
                    (
                      within-bind n _ _ (i p h) (λ x q l. within-map n _ _ (within-u16 s q)),
                      (
                        within-map n _ _ (i p h),
                        (
                          within-value n _ p h,
                          (
                            within-map n _ _ (within-u16 s p),
                            (
                              within-map n _ _ (within-u16 s p),
                              (
                                within-bind n _ _ (i p h) (λ x q l. within-bind n _ _ (within-u16 s q) (λ k r m. within-map n _ _ (within-many n (index names s) i k r m))),
                                (
                                  within-map n _ _ (w-type p h),
                                  (
                                    within-bind n _ _ (i p h) (λ x q l. within-map n _ _ (within-below s 2 q l)),
                                    (
                                      within-map n _ _ (i p h),
                                      (within-bind n _ _ (within-below s 2 p h) (λ k q l. within-bind n _ _ (i q l) (λ x r m. within-bind n _ _ (within-below s 2 r m) (λ b t o. within-map n _ _ (within-u16 s t)))), tt),
                                    ),
                                  ),
                                ),
                              ),
                            ),
                          ),
                        ),
                      ),
                    ),
                  ),
                ),
              ),
            ),
          ),
        ),
      )

  w-head : Within (length s) (expr_head names s)
  unfolding expr_head expr_fields
  w-head p h = within-bind (length s) _ _ (within-below s 17 p h) (λ t q l. row_within (length s) (expr_rows names s q) t q (w-rows q l) l)

  w-expr : Within (length s) (expr_at names s)
  unfolding expr_at
  w-expr p h = within-trees s expr_arity (expr_head names) w-head (suc (length s)) 1 p h

module _ (ns : List Name) (s : List ℕ) where
  pub w-name_in : Within (length s) (name_in ns s)
  unfolding name_in
  w-name_in p h = within-map (length s) _ _ (within-index s (length ns) p h)

  pub w-optional_in : Within (length s) (optional_in ns s)
  unfolding optional_in
  w-optional_in p h = within-map (length s) _ _ (within-guard (length s) (λ i. ltb i (length ns) || eqb i absent) p _ h (within-u16 s p))

  pub w-names_in : Within (length s) (names_in ns s)
  unfolding names_in
  w-names_in p h = within-counted s (name_in ns s) w-name_in p h

  pub w-type_in : Within (length s) (type_in ns s)
  unfolding type_in
  w-type_in p h = within-map (length s) _ _ (w-type (length ns) s p h)

  pub w-expr_in : Within (length s) (expr_in ns s)
  unfolding expr_in
  w-expr_in p h = within-map (length s) _ _ (w-expr (length ns) s p h)

  pub w-ports_in : Within (length s) (ports_in ns s)
  unfolding ports_in port_in
  w-ports_in p h = within-counted s (port_in ns s) (λ q l. within-bind (length s) _ _ (w-name_in q l) (λ x r m. within-map (length s) _ _ (w-type_in r m))) p h

  pub w-equations_in : Within (length s) (equations_in ns s)
  unfolding equations_in equation_in
  w-equations_in p h = within-counted s (equation_in ns s) (λ q l. within-bind (length s) _ _ (w-names_in q l) (λ x r m. within-map (length s) _ _ (w-expr_in r m))) p h

  pub w-transition_in : Within (length s) (transition_in ns s)
  unfolding transition_in
  w-transition_in p h = within-bind (length s) _ _ (w-expr_in p h) (λ x q l. within-map (length s) _ _ (w-name_in q l))

  pub w-enum_in : Within (length s) (enum_in ns s)
  unfolding enum_in
  w-enum_in p h = within-bind (length s) _ _ (w-name_in p h) (λ x q l. within-map (length s) _ _ (w-names_in q l))

  pub w-node_in : Within (length s) (node_in ns s)
  unfolding node_in
  w-node_in p h =
      let n = length s in
      within-bind n _ _ (w-name_in p h) (λ x q l.
      within-bind n _ _ (within-below s 3 q l) (λ k r m.
      within-bind n _ _ (w-ports_in r m) (λ i t o.
      within-bind n _ _ (w-ports_in t o) (λ u v e.
      within-bind n _ _ (w-ports_in v e) (λ w z f.
      within-map n _ _ (w-equations_in z f))))))

  w-state : (region : ℕ → Answer OneRegion) → Within (length s) region → Within (length s) (state_with region ns s)
  unfolding state_with
  w-state region g p h =
      let n = length s in
      within-bind n _ _ (w-name_in p h) (λ x q l.
      within-bind n _ _ (w-equations_in q l) (λ k r m.
      within-bind n _ _ (within-counted s (transition_in ns s) w-transition_in r m) (λ i t o.
      within-bind n _ _ (within-counted s region g t o) (λ u v e.
      within-map n _ _ (w-optional_in v e)))))

  w-region : (levels : ℕ) → Within (length s) (region_at levels ns s)
  unfolding region_at offset_in
  w-region zero p h = h
  w-region (suc levels) p h =
      let n = length s in
      within-bind n _ _ (w-name_in p h) (λ x q l.
      within-bind n _ _ (within-below s 2 q l) (λ k r m.
      within-map n _ _ (within-counted s (state_with (region_at levels ns s) ns s) (w-state (region_at levels ns s) (w-region levels)) r m)))

  pub w-machine_in : Within (length s) (machine_in ns s)
  unfolding machine_in state_at
  w-machine_in p h =
      let n = length s in
      within-bind n _ _ (w-name_in p h) (λ x q l.
      within-bind n _ _ (w-optional_in q l) (λ k r m.
      within-bind n _ _ (w-ports_in r m) (λ i t o.
      within-bind n _ _ (w-ports_in t o) (λ u v e.
      within-bind n _ _ (w-ports_in v e) (λ w z f.
      within-bind n _ _ (w-name_in z f) (λ y a b.
      within-map n _ _ (within-counted s (state_at ns s) (w-state _ (w-region _)) a b)))))))

  w-branch_in : Within (length s) (branch_in ns s)
  unfolding branch_in
  w-branch_in p h = within-bind (length s) _ _ (w-name_in p h) (λ x q l. within-bind (length s) _ _ (w-expr_in q l) (λ c r m. within-map (length s) _ _ (w-equations_in r m)))

  pub w-activation_in : Within (length s) (activation_in ns s)
  unfolding activation_in
  w-activation_in p h =
      let n = length s in
      within-bind n _ _ (w-name_in p h) (λ x q l.
      within-bind n _ _ (w-name_in q l) (λ k r m.
      within-bind n _ _ (w-ports_in r m) (λ i t o.
      within-bind n _ _ (within-counted s (branch_in ns s) w-branch_in t o) (λ u v e.
      within-map n _ _ (w-equations_in v e)))))

  pub w-origin_in : Within (length s) (origin_in ns s)
  unfolding origin_in
  w-origin_in p h =
      let n = length s in
      within-bind n _ _ (w-name_in p h) (λ x q l.
      within-bind n _ _ (within-below s 2 q l) (λ k r m.
      within-bind n _ _ (w-name_in r m) (λ i t o.
      within-bind n _ _ (within-u16 s t) (λ u v e.
      within-bind n _ _ (within-u16 s v) (λ w z f.
      within-map n _ _ (w-names_in z f))))))

pub within-pack : (s : List ℕ) → Within (length s) (pack_at s)
unfolding pack_at
within-pack s p h =
    let n = length s in
    within-bind n _ _ (w-section s p h) (λ ns q l.
    within-bind n _ _ (within-counted s (enum_in ns s) (w-enum_in ns s) q l) (λ k r m.
    within-bind n _ _ (within-counted s (node_in ns s) (w-node_in ns s) r m) (λ i t o.
    within-bind n _ _ (within-counted s (machine_in ns s) (w-machine_in ns s) t o) (λ u v e.
    within-bind n _ _ (within-counted s (activation_in ns s) (w-activation_in ns s) v e) (λ w z f.
    within-map n _ _ (within-counted s (origin_in ns s) (w-origin_in ns s) z f))))))

-- A pack with two machines, one without owner and one whose owner is not there: what the laws on tables ask holds of it.
use Prim.Native.Nat.{ℕ, zero, suc, ◌<◌}
use native.Mathlib.Omega.{arith}
use mathlib.Core.List.{List, [], ◌∷◌}
use mathlib.Core.Option.{Option, none, some}
use mathlib.Core.Path.{◌≡◌, refl, sym, subst, ◌∙◌}
use Rattle.wire.specs.Answer.{bind, byte, counted, guard, index, many, map_a, u16, value}
use Rattle.pack.specs.declared.record.Pack.{Pack}
use Rattle.pack_rules.specs.Names.{Name, eq_name, member}
use Rattle.pack_rules.specs.Syntax.{MachineDef, Package, def_cons, def_nil, reg_nil}
use Rattle.machine_rules.specs.Resolved.{ResolvedStates, r_nil, s_cons, s_nil}
use Rattle.pack_rules.specs.Forms.{name_at}
use Rattle.pack_rules.specs.Read.{char, drawn_of, equations_in, machine_in, name, name_byte, name_in, name_section, names_after, optional, optional_in, ports_in, region_at, regions_of, size, state_at, state_with}
use Rattle.pack_rules.specs.Report.{as_refusal, first_of}
use Rattle.pack.specs.Verdict.{SectionsAt}
use Rattle.machine_rules.specs.Refusals.{unknown_owner}
use Rattle.machine_rules.specs.Resolve.{as_machine, count_state, open_level, resolve_r, resolve_s, resolved_states, walk_on, with_refine}
use Rattle.machine_rules.specs.Checks.{bad_initial, bad_target, check_no_states, collect_region_names, collect_state_names, refusal_of, repeated, uncovered, validate_regions, validate_states}
use Rattle.machine_rules.specs.Lower.{names_of, size_r, size_s}
use Rattle.machine_rules.specs.Machines.{accept, checked, judge, resolved}
use Rattle.machines.specs.Sections.{alone, index_of, node_names, share_of}
use Rattle.machines.specs.RefusalsIn.{names_then}
use Rattle.machines.specs.OwnersAt.{fill_t, machine_end, node_name_t, nodes_of, nth, settle_t}
use Rattle.machines.specs.Verdicts.{AcceptedAs, SettledPack, VerdictAs, goes_as, refused_for, verdict_in, verdicts, verdicts_of}
use Rattle.machines.proofs.VerdictLaws.{told-accepted}
use Rattle.machines.proofs.TablesFilled.{DrawnAt, machine-drawn}
use Rattle.machines.proofs.PackCounts.{counted-many}
use Rattle.machines.proofs.PackSettled.{pack-settled}

abbrev ns : List Name
ns = (77 ∷ []) ∷ (97 ∷ []) ∷ []

abbrev s : List ℕ
s =
    2 ∷ 0 ∷ 1 ∷ 77 ∷ 1 ∷ 97 ∷ 0 ∷ 0 ∷ 0 ∷ 0 ∷ 2 ∷ 0
    ∷ 0 ∷ 0 ∷ 255 ∷ 255 ∷ 0 ∷ 0 ∷ 0 ∷ 0 ∷ 0 ∷ 0 ∷ 1 ∷ 0 ∷ 1 ∷ 0 ∷ 1 ∷ 0 ∷ 0 ∷ 0 ∷ 0 ∷ 0 ∷ 0 ∷ 0 ∷ 255 ∷ 255
    ∷ 0 ∷ 0 ∷ 1 ∷ 0 ∷ 0 ∷ 0 ∷ 0 ∷ 0 ∷ 0 ∷ 0 ∷ 1 ∷ 0 ∷ 1 ∷ 0 ∷ 1 ∷ 0 ∷ 0 ∷ 0 ∷ 0 ∷ 0 ∷ 0 ∷ 0 ∷ 255 ∷ 255
    ∷ 0 ∷ 0 ∷ 0 ∷ 0 ∷ []

abbrev drawn : Option Name → MachineDef
drawn o = record { name = 77 ∷ []; owner = o; inputs = []; outputs = []; locals = []; initial = 97 ∷ []; states = def_cons (97 ∷ []) [] [] reg_nil none def_nil }

abbrev tree : ResolvedStates
tree = s_cons (97 ∷ []) [] [] r_nil s_nil

abbrev ms : List MachineDef
ms = drawn none ∷ drawn (some (97 ∷ [])) ∷ []

abbrev p : Package
p = record { names = ns; enums = []; nodes = []; machines = ms; activations = []; origins = [] }

abbrev k : Pack
k = record { names = 2; enums = 6; nodes = 8; machines = 10; activations = 60; origins = 62; end = 64 }

stands : SectionsAt s k p
unfolding name_section names_after name size char name_byte member eq_name machine_in counted many name_in optional_in optional ports_in state_at state_with region_at drawn_of regions_of equations_in name_at index guard bind map_a byte u16
stands = record { count = refl; names = refl; enums = refl; nodes = refl; machines = refl; activations = refl; origins = refl }

-- each has one region
accepted : (o : Option Name) → judge ms (drawn o) ≡ accept (as_machine (drawn o) tree)
unfolding judge resolved checked resolved_states resolve_s resolve_r count_state open_level with_refine walk_on as_machine refusal_of check_no_states repeated collect_state_names collect_region_names bad_initial validate_states validate_regions bad_target uncovered first_of as_refusal member eq_name names_of
accepted none = refl
accepted (some n) = refl

one-region : (o : Option Name) → AcceptedAs ms (drawn o) (as_machine (drawn o) tree) 1
unfolding resolved_states resolve_s resolve_r count_state open_level with_refine walk_on as_machine refusal_of check_no_states repeated collect_state_names collect_region_names bad_initial validate_states validate_regions bad_target uncovered first_of as_refusal member eq_name names_of size_s size_r
one-region o = record { states = tree; count = 1; is = refl; resolves = refl; accepted = refl; regions = refl; few = omega arith }

told : (o : Option Name) → VerdictAs ms (drawn o) 1
told o = told-accepted ms (drawn o) 1 (as_machine (drawn o) tree) (accepted o) (one-region o)

told_here : (i : ℕ) → i < 2 → (d : MachineDef) (e : ℕ) → machine_in ns s (nth (machine_end ns s) 12 i) ≡ value d e → VerdictAs ms d 1
told_here i l d e h = go i (machine-drawn ns s 12 2 ms 60 (counted-many (machine_in ns s) s 10 ms 60 stands.machines).1 i l)
  where
    same : (j : ℕ) (x : DrawnAt ns s (nth (machine_end ns s) 12 i) ms j) → x.drawing ≡ d
    same j x = let g : value x.drawing x.end ≡ value d e = sym x.read ∙ h in cc

    go : (j : ℕ) → DrawnAt ns s (nth (machine_end ns s) 12 i) ms j → VerdictAs ms d 1
    go zero x = subst (λ y. VerdictAs ms y 1) (x.among (drawn none) ∙ same zero x) (told none)
    go (suc zero) x = subst (λ y. VerdictAs ms y 1) (x.among (drawn none) ∙ same (suc zero) x) (told (some (97 ∷ [])))
    go (suc (suc j)) x = subst (λ y. VerdictAs ms y 1) (x.among (drawn none) ∙ same (suc (suc j)) x) (told none)

-- the tables settle them
settled_here : SettledPack s p (fill_t (nth (machine_end ns s) 12) 2 0 (0 ∷ 0 ∷ []))
    (settle_t s (fill_t (nth (machine_end ns s) 12) 2 0 (0 ∷ 0 ∷ [])) (fill_t (λ i. 1) 2 0 (0 ∷ 0 ∷ [])) 2 0 (nodes_of (0 ∷ 0 ∷ []) (fill_t (node_name_t ns s 10) 0 0 (0 ∷ 0 ∷ [])) 0)).receivers
    (fill_t (λ i. 1) 2 0 (0 ∷ 0 ∷ []))
settled_here =
    pack-settled s k p stands (omega arith) (λ i. 1) (0 ∷ 0 ∷ []) (0 ∷ 0 ∷ []) (0 ∷ 0 ∷ []) (0 ∷ 0 ∷ []) _ _ _ _
    (omega arith) (omega arith) (omega arith) (omega arith) refl refl refl refl told_here

-- and these are the verdicts
verdicts-here : verdicts_of p ≡ goes_as (record { at = 0; fate = alone (as_machine (drawn none) tree) }) ∷ refused_for (unknown_owner (77 ∷ []) (97 ∷ [])) ∷ []
unfolding verdicts_of verdicts verdict_in names_then node_names share_of index_of judge resolved checked resolved_states resolve_s resolve_r count_state open_level with_refine walk_on as_machine refusal_of check_no_states repeated collect_state_names collect_region_names bad_initial validate_states validate_regions bad_target uncovered first_of as_refusal member eq_name names_of
verdicts-here = refl

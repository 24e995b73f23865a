-- A small package that meets the premise: a machine without owner, one that an old node owns, one that the new node owns.
use Prim.Native.Nat.{ℕ}
use mathlib.Core.List.{List, [], ◌∷◌}
use mathlib.Core.Option.{Option, none, some}
use mathlib.Core.Path.{◌≡◌, refl}
use Rattle.pack_rules.specs.Legal.{place}
use Rattle.pack_rules.specs.Names.{Name, eq_name, member}
use Rattle.pack_rules.specs.Report.{as_refusal, first_of}
use Rattle.pack_rules.specs.Syntax.{MachineDef, Package, def_cons, def_nil, e_var, k_function, of_machine, reg_nil}
use Rattle.pack_rules.specs.Write.{package_items}
use Rattle.machine_rules.specs.Checks.{bad_initial, bad_target, check_no_states, collect_region_names, collect_state_names, refusal_of, repeated, uncovered, validate_regions, validate_states}
use Rattle.machine_rules.specs.Lower.{names_of, size_r, size_s}
use Rattle.machine_rules.specs.Machines.{add_machine, checked, extend, extend_in, judge, lower_each, machines_lowered, made_machines, merged, node_from, node_named, resolved, standalone, start}
use Rattle.machine_rules.specs.Resolve.{as_machine, count_state, open_level, resolve_r, resolve_s, resolved_states, walk_on, with_refine}
use Rattle.machines.specs.Sections.{Share, added_count, adds_count, equation_count, equations_before, fate_machine, fate_of, fate_then, fates, index_of, names_with, node_names, old_count, origin_for, origins_in, section_items, share_machine, share_of, shares, shares_of, total}
use Rattle.machines.proofs.SectionLaws.{section-items}

-- a machine of one state
machine : Name → Option Name → MachineDef
machine n o = record { name = n; owner = o; inputs = []; outputs = []; locals = []; initial = 83 ∷ []; states = def_cons (83 ∷ []) [] [] reg_nil none def_nil }

-- node `N` of one equation; machines `A`, `B` of `N` and `C` of `A`
small : Package
unfolding machine
small =
    record {
      names = [];
      enums = [];
      nodes = record { name = 78 ∷ []; kind = k_function; inputs = []; outputs = []; locals = []; equations = record { lhs = (120 ∷ []) ∷ []; rhs = e_var (121 ∷ []) } ∷ [] } ∷ [];
      machines = machine (65 ∷ []) none ∷ machine (66 ∷ []) (some (78 ∷ [])) ∷ machine (67 ∷ []) (some (65 ∷ [])) ∷ [];
      activations = [];
      origins = [];
    }

small-lowers : (made_machines small).refusals ≡ []
unfolding small machine made_machines start lower_each add_machine judge resolved checked resolved_states resolve_s resolve_r count_state open_level with_refine walk_on as_machine refusal_of check_no_states repeated collect_state_names collect_region_names bad_initial validate_states validate_regions bad_target uncovered first_of as_refusal member eq_name names_of standalone merged node_named node_from extend_in extend
small-lowers = refl

small-items : package_items (machines_lowered small (made_machines small)) ≡ section_items small (shares_of small)
small-items = section-items small small-lowers

-- the indexes of the nodes that they go to
indexes : List Share → List ℕ
indexes [] = []
indexes (s ∷ ss) = s.at ∷ indexes ss

small-indexes : indexes (shares_of small) ≡ 1 ∷ 0 ∷ 1 ∷ []
unfolding indexes shares_of shares share_of index_of names_with node_names place fates fate_then fate_of small machine judge resolved checked resolved_states resolve_s resolve_r count_state open_level with_refine walk_on as_machine refusal_of check_no_states repeated collect_state_names collect_region_names bad_initial validate_states validate_regions bad_target uncovered first_of as_refusal member eq_name names_of
small-indexes = refl

-- `B` follows the equation of `N`, `C` follows the two of `A`
small-origins : origins_in small.nodes [] (shares_of small)
    ≡ record { node = 78 ∷ []; kind = of_machine; name = 66 ∷ []; first = 1; after = 3; branches = [] }
    ∷ record { node = 65 ∷ []; kind = of_machine; name = 67 ∷ []; first = 2; after = 4; branches = [] }
    ∷ []
unfolding origins_in origin_for equations_before old_count added_count adds_count total equation_count size_s size_r share_machine fate_machine shares_of shares share_of index_of names_with node_names place fates fate_then fate_of small machine judge resolved checked resolved_states resolve_s resolve_r count_state open_level with_refine walk_on as_machine refusal_of check_no_states repeated collect_state_names collect_region_names bad_initial validate_states validate_regions bad_target uncovered first_of as_refusal member eq_name names_of
small-origins = refl

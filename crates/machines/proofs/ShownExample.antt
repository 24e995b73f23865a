-- The tables of a pack with one machine: what the laws on shares ask of a pack and of its tables holds of it.
use Prim.Native.Nat.{ℕ, zero, suc, ◌<◌}
use native.Mathlib.Omega.{arith}
use mathlib.Core.List.{List, [], ◌∷◌}
use mathlib.Core.Option.{none}
use mathlib.Core.Path.{◌≡◌, refl, subst}
use lib.ListN.{length}
use Rattle.wire.specs.Answer.{bind, byte, counted, guard, index, many, map_a, u16, value}
use Rattle.wire.specs.Lists.{All, Bytes}
use Rattle.pack_rules.specs.Names.{Name, eq_name, member}
use Rattle.pack_rules.specs.Syntax.{MachineDef, Package, def_cons, def_nil, reg_nil}
use Rattle.machine_rules.specs.Resolved.{ResolvedStates, r_nil, s_cons, s_nil}
use Rattle.pack_rules.specs.Forms.{name_at}
use Rattle.pack_rules.specs.Legal.{Fresh}
use Rattle.pack.specs.RawNames.{raw_name}
use Rattle.pack_rules.specs.Read.{activation_in, char, drawn_of, enum_in, equations_in, machine_in, name, name_byte, name_in, name_section, names_after, node_in, optional, optional_in, origin_in, ports_in, region_at, regions_of, size, state_at, state_with}
use Rattle.pack_rules.specs.Report.{as_refusal, first_of}
use Rattle.pack.specs.Verdict.{SectionsAt}
use Rattle.pack.specs.declared.record.Pack.{Pack}
use Rattle.pack.specs.Table.{tabled}
use Rattle.machine_rules.specs.Checks.{bad_initial, bad_target, check_no_states, collect_region_names, collect_state_names, refusal_of, repeated, uncovered, validate_regions, validate_states}
use Rattle.machine_rules.specs.Resolve.{as_machine, count_state, resolve_r, resolve_s, resolved_states, walk_on, with_refine}
use Rattle.machine_rules.specs.Lower.{names_of, size_r, size_s}
use Rattle.machines.specs.EmitAt.{pack_name}
use Rattle.machines.specs.Sections.{Share, alone, fate_of}
use Rattle.machines.specs.TableMeaning.{Lowered, PackOf, Shown}
use Rattle.machines.specs.Tables.{machines_placed, names_placed, next_name}
use Rattle.machines.proofs.CallScratch.{zeros as none-at}
use Rattle.machines.proofs.Resolved.{Ready, ready}
use Rattle.machines.proofs.SectionsShown.{SectionsWritten, sections-written}

abbrev ns : List Name
ns = (77 ∷ []) ∷ (97 ∷ []) ∷ []

abbrev s : List ℕ
s = 2 ∷ 0 ∷ 1 ∷ 77 ∷ 1 ∷ 97 ∷ 0 ∷ 0 ∷ 0 ∷ 0 ∷ 1 ∷ 0 ∷ 0 ∷ 0 ∷ 255 ∷ 255 ∷ 0 ∷ 0 ∷ 0 ∷ 0 ∷ 0 ∷ 0 ∷ 1 ∷ 0 ∷ 1 ∷ 0 ∷ 1 ∷ 0 ∷ 0 ∷ 0 ∷ 0 ∷ 0 ∷ 0 ∷ 0 ∷ 255 ∷ 255 ∷ 0 ∷ 0 ∷ 0 ∷ 0 ∷ []

abbrev M : MachineDef
M = record { name = 77 ∷ []; owner = none; inputs = []; outputs = []; locals = []; initial = 97 ∷ []; states = def_cons (97 ∷ []) [] [] reg_nil none def_nil }

abbrev tree : ResolvedStates
tree = s_cons (97 ∷ []) [] [] r_nil s_nil

abbrev share : Share
share = record { at = 0; fate = alone (as_machine M tree) }

read_here : machine_in ns s 12 ≡ value M 36
unfolding machine_in counted many name_in optional_in optional ports_in state_at state_with region_at drawn_of regions_of equations_in name_at index guard bind map_a byte u16
read_here = refl

shown-here : Shown ns s (12 ∷ []) (0 ∷ []) (1 ∷ []) 0 (share ∷ [])
unfolding Shown fate_of size_s size_r
shown-here = (record { drawing = M; end = 36; states = tree; read = read_here; fate = refl; at = refl; regions = refl; few_regions = omega arith }, tt)

each-byte : (l : List ℕ) → All (λ b. b < 256) l → Bytes l
unfolding All
each-byte [] a i = omega arith
each-byte (b ∷ l) a zero = a.0
each-byte (b ∷ l) a (suc i) = each-byte l a.1 i

pack-here : PackOf ns s (tabled ns) (2 ∷ 4 ∷ [])
unfolding All Fresh member eq_name name_byte pack_name raw_name name_at
pack-here = record { bytes = each-byte s bytes; legal = ((omega arith, omega arith, (refl, tt)), ((omega arith, omega arith, (refl, tt)), tt)); fresh = (refl, (refl, tt)); few = omega arith; names = refl; placed = placed }
  where
    bytes : All (λ b. b < 256) s
    bytes = (omega arith, (omega arith, (omega arith, (omega arith, (omega arith, (omega arith, (omega arith, (omega arith, (omega arith, (omega arith, (omega arith, (omega arith, (omega arith, (omega arith, (omega arith, (omega arith, (omega arith, (omega arith, (omega arith, (omega arith, (omega arith, (omega arith, (omega arith, (omega arith, (omega arith, (omega arith, (omega arith, (omega arith, (omega arith, (omega arith, (omega arith, (omega arith, (omega arith, (omega arith, (omega arith, (omega arith, (omega arith, (omega arith, (omega arith, (omega arith, tt))))))))))))))))))))))))))))))))))))))))

    placed : (i : ℕ) → i < length ns → pack_name s (2 ∷ 4 ∷ []) i ≡ name_at ns i
    placed zero h = refl
    placed (suc zero) h = refl
    placed (suc (suc i)) h = absurd (omega arith)

-- the whole pack: nothing but the machine, which is lowered to a node of its own
abbrev whole : Package
whole = record { names = ns; enums = []; nodes = []; machines = M ∷ []; activations = []; origins = [] }

abbrev sections : Pack
sections = record { names = 2; enums = 6; nodes = 8; machines = 10; activations = 36; origins = 38; end = 40 }

stands_here : SectionsAt s sections whole
unfolding name_section names_after name size char name_byte member eq_name enum_in node_in machine_in activation_in origin_in counted many name_in optional_in optional ports_in state_at state_with region_at drawn_of regions_of equations_in name_at index guard bind map_a byte u16
stands_here = record { count = refl; names = refl; enums = refl; nodes = refl; machines = refl; activations = refl; origins = refl }

lowered-here : Lowered (M ∷ []) ns s (12 ∷ []) (0 ∷ []) (1 ∷ []) 0 (share ∷ [])
unfolding Lowered fate_of size_s size_r resolved_states resolve_s resolve_r count_state with_refine walk_on as_machine refusal_of check_no_states repeated collect_state_names collect_region_names bad_initial validate_states validate_regions bad_target uncovered first_of as_refusal member eq_name names_of
lowered-here = (
  record {
    shown = record { drawing = M; end = 36; states = tree; read = read_here; fate = refl; at = refl; regions = refl; few_regions = omega arith };
    count = 1;
    resolves = refl;
    accepted = refl;
  },
  tt,
)

abbrev zeros : List ℕ
zeros = 0 ∷ 0 ∷ []

spots-here : names_placed s 2 2 0 zeros ≡ 2 ∷ 4 ∷ []
unfolding names_placed next_name
spots-here = refl

-- what is written of it is the lowered package
sections-here : SectionsWritten whole s (tabled ns) (2 ∷ 4 ∷ []) (machines_placed ns s 10 zeros) (12 ∷ []) (0 ∷ []) (1 ∷ []) 1 (share ∷ []) sections
sections-here =
    let r = ready s sections whole zeros zeros stands_here (omega arith) (omega arith) (omega arith) (none-at 2) in
    sections-written whole s (tabled ns) (2 ∷ 4 ∷ []) (machines_placed ns s 10 zeros) (12 ∷ []) (0 ∷ []) (1 ∷ []) sections stands_here pack-here
    (subst (λ (y : List ℕ). Ready s ns (M ∷ []) y (machines_placed ns s 10 zeros)) spots-here r) (share ∷ []) lowered-here 1 refl

-- Packs with what lowering their machines gives, to be held to what the definition computes.
use mathlib.Core.List.{List, [], ◌∷◌}
use Prim.Native.Nat.{ℕ}
use Rattle.wire.specs.Answer
use Rattle.wire.specs.Bytes
use Rattle.wire.specs.Decimal
use Rattle.wire.specs.Preorder
use Rattle.pack_rules.specs.Names
use Rattle.pack_rules.specs.Forms
use Rattle.pack_rules.specs.Read
use Rattle.pack_rules.specs.Write
use Rattle.pack_rules.specs.Report
use Rattle.pack_rules.specs.Outcome
use Rattle.machine_rules.specs.Refusals
use Rattle.machine_rules.specs.MadeNames
use Rattle.machine_rules.specs.Resolve
use Rattle.machine_rules.specs.Lower
use Rattle.machine_rules.specs.Checks
use Rattle.machine_rules.specs.Machines
use Rattle.machine_rules.specs.Call
use Rattle.pack_rules.specs.Outcome.{Outcome}
use Rattle.machine_rules.specs.Call.{lower_machines}

-- the definition with everything unfolded; both buffers have so many bytes
unfoldable pub machines_given : List ℕ → ℕ → Outcome
unfolding Answer.bind Answer.map_a Answer.guard Answer.byte Answer.u16 Answer.u32 Answer.u64 Answer.index Answer.below Answer.many Answer.counted Bytes.bytes Bytes.two Decimal.digits Decimal.decimal Preorder.trees Names.eq_name Names.member Forms.type_arity Forms.type_fields Forms.type_head Forms.type_at Forms.expr_arity Forms.flag_of Forms.literal_of Forms.literal Forms.call_fields Forms.struct_fields Forms.when_fields Forms.iterate_fields Forms.expr_rows Forms.expr_fields Forms.expr_head Forms.expr_at Forms.name_at Forms.plain_types Forms.type_over Forms.type_of Forms.un_ops Forms.bin_ops Forms.iter_kinds Forms.nth Forms.names_at Forms.expr_over Forms.expr_of Read.name_byte Read.char Read.size Read.name Read.names_after Read.name_section Read.name_in Read.optional Read.optional_in Read.names_in Read.type_in Read.expr_in Read.port_in Read.ports_in Read.equation_in Read.equations_in Read.enum_in Read.kind_of Read.node_in Read.transition_in Read.drawn_of Read.regions_of Read.state_with Read.region_at Read.state_at Read.machine_in Read.branch_in Read.activation_in Read.origin_kind Read.origin_in Read.pack_at Read.reading_of Read.read Write.one Write.flag_byte Write.each Write.list Write.name_items Write.option_items Write.ty_items Write.lit_bytes Write.un_byte Write.bin_byte Write.iter_byte Write.count_of Write.arrays Write.expr_items Write.port_items Write.equation_items Write.transition_items Write.enum_items Write.kind_byte Write.node_items Write.drawn_count Write.region_count Write.drawn_items Write.machine_items Write.branch_items Write.activation_items Write.origin_byte Write.origin_items Write.package_items Write.enc Write.lookup Write.new_in Write.old_in Write.spell_one Write.before Write.and_then Write.spell Write.joined Write.encode Write.short Write.shorts Report.first_of Report.as_refusal Report.entries Report.report_bytes Outcome.on_package Outcome.reported Outcome.sized Outcome.written Refusals.no_states Refusals.unknown_initial Refusals.unknown_target Refusals.unassigned Refusals.duplicate_state Refusals.unknown_refine Refusals.refine_cycle Refusals.unknown_owner Refusals.too_large MadeNames.sm_prefix MadeNames.state_var MadeNames.next_var MadeNames.active_var MadeNames.enum_name Resolve.walk_on Resolve.prefix_transitions Resolve.short_name Resolve.short_targets Resolve.append_region Resolve.open_level Resolve.count_state Resolve.with_target Resolve.with_refine Resolve.machine_of Resolve.refine_with Resolve.as_target Resolve.refine_at Resolve.resolved_states Resolve.as_machine Lower.transitions_of Lower.is_name Lower.chain_step Lower.next_chain Lower.previous_next Lower.top_equations Lower.just_entered Lower.state_rhs Lower.region_equations Lower.active_in Lower.names_of Lower.region_locals Lower.is_only Lower.own_value Lower.is_some Lower.default_expr_for_type Lower.from_option Lower.output_equations Lower.equations_of Lower.enums_of Lower.locals_of Checks.check_no_states Checks.repeated Checks.bad_initial Checks.bad_target Checks.unless_covered Checks.unless_other Checks.uncovered Checks.refusal_of Machines.checked Machines.resolved Machines.judge Machines.node_named Machines.extend Machines.extend_in Machines.add_refusal Machines.origin_of Machines.node_from Machines.standalone Machines.merged Machines.add_machine Machines.lower_each Machines.start Machines.made_machines Machines.machines_lowered Call.report_or_pack Call.lower_package_machines Call.lower_machines Resolve.prefix_s Resolve.prefix_r Resolve.short_s Resolve.short_r Resolve.resolve_s Resolve.resolve_r Lower.size_s Lower.size_r Lower.equations_s Lower.equations_r Lower.locals_s Lower.locals_r Lower.enums_s Lower.enums_r Lower.all_states_cover Lower.some_region_covers Lower.value_s Lower.value_r Checks.collect_state_names Checks.collect_region_names Checks.validate_states Checks.validate_regions Checks.require_cover_states Checks.require_cover_regions
machines_given s room = lower_machines s room room

-- a pack, the length of both buffers, and what is given
pub record Chart : Type 0 where
  pub pack : List ℕ
  pub room : ℕ
  pub outcome : Outcome

-- what the definition gives for each
unfoldable pub given : List Chart → List Outcome
given [] = []
given (c ∷ cs) = machines_given c.pack c.room ∷ given cs

-- what is stated of each
unfoldable pub stated : List Chart → List Outcome
stated [] = []
stated (c ∷ cs) = c.outcome ∷ stated cs

-- What instances compute: lowerings, readings and tests with everything unfolded.
use mathlib.Core.List.{List, []}
use mathlib.Core.Bool.{Bool}
use mathlib.Core.Option.{Option}
use Prim.Native.Nat.{ℕ}
use Rattle.wire.specs.Answer
use Rattle.wire.specs.Bytes
use Rattle.wire.specs.Decimal
use Rattle.wire.specs.Preorder
use Rattle.pack_rules.specs.Names
use Rattle.pack_rules.specs.Forms
use Rattle.pack_rules.specs.Read
use Rattle.pack_rules.specs.Write
use Rattle.pack_rules.specs.Report
use Rattle.pack_rules.specs.Outcome
use Rattle.machine_rules.specs.Refusals
use Rattle.machine_rules.specs.MadeNames
use Rattle.machine_rules.specs.Resolve
use Rattle.machine_rules.specs.Lower
use Rattle.machine_rules.specs.Checks
use Rattle.machine_rules.specs.Machines
use Rattle.machine_rules.specs.Call
use Rattle.activation_rules.specs.Refusals as ActRefusals
use Rattle.activation_rules.specs.MadeNames as ActNames
use Rattle.activation_rules.specs.LastCalls
use Rattle.activation_rules.specs.BadLasts
use Rattle.activation_rules.specs.Sought
use Rattle.activation_rules.specs.RewriteLast
use Rattle.activation_rules.specs.FreeVars
use Rattle.activation_rules.specs.Renames
use Rattle.activation_rules.specs.SampledConstants
use Rattle.activation_rules.specs.Defines
use Rattle.activation_rules.specs.Flags
use Rattle.activation_rules.specs.Clocks
use Rattle.activation_rules.specs.Samples
use Rattle.activation_rules.specs.Scopes
use Rattle.activation_rules.specs.Merges
use Rattle.activation_rules.specs.Types
use Rattle.activation_rules.specs.Defaults
use Rattle.activation_rules.specs.Holders
use Rattle.activation_rules.specs.Checks as ActChecks
use Rattle.activation_rules.specs.EmptyLeft
use Rattle.activation_rules.specs.Lower as ActLower
use Rattle.activation_rules.specs.Activations
use Rattle.activation_rules.specs.Call as ActCall
use Rattle.run_rules.specs.Run
use Rattle.run_rules.specs.Chart
use Rattle.run_rules.specs.Premises
use Rattle.runs.specs.Placement
use Rattle.run_rules.specs.DemandPremises
use Rattle.run_rules.specs.Scopes as RunScopes
use Rattle.run_rules.specs.Visits
use Rattle.run_rules.proofs.Tested
use Rattle.run_rules.proofs.PremisesTested
use Rattle.pack.proofs.WrittenBack
use Rattle.pack_rules.specs.Limits.{max_bytes}
use Rattle.pack_rules.specs.Names.{Name}
use Rattle.pack_rules.specs.Forms.{name_at}
use Rattle.pack_rules.specs.Syntax.{Activation, Equation, Expr, MachineDef, Node, Package}
use Rattle.machine_rules.specs.Resolved.{ResolvedMachine, ResolvedStates}
use Rattle.pack_rules.specs.Read.{Reading, read}
use Rattle.pack_rules.specs.Write.{encode}
use Rattle.pack_rules.specs.Outcome.{Outcome, answers, number_of, reports, writes}
use Rattle.pack.proofs.WrittenBack.{all_small}
use Rattle.machine_rules.specs.Resolve.{Walk, as_machine, resolved_states}
use Rattle.machine_rules.specs.Machines.{made_machines, node_named}
use Rattle.machine_rules.specs.Call.{lower_machines}
use Rattle.activation_rules.specs.Sought.{expressions, found}
use Rattle.activation_rules.specs.Types.{variables}
use Rattle.activation_rules.specs.Holders.{Holding, make_holders}
use Rattle.activation_rules.specs.Activations.{made_activations}
use Rattle.activation_rules.specs.Call.{lower_activations}
use Rattle.run_rules.specs.Run.{Run}
use Rattle.run_rules.specs.Chart.{Guards, found_in, selected}
use Rattle.runs.specs.Placement.{act_equations_in, activations_before, entry, equations_from, machine_equations_in, machines_before}
use Rattle.run_rules.proofs.Tested.{satisfied}
use Rattle.run_rules.proofs.PremisesTested.{act_test, machine_test, scopes_test}

-- a package's pack
unfoldable pub packed : Package → List ℕ
unfolding Answer.bind Answer.map_a Answer.guard Answer.byte Answer.u16 Answer.u32 Answer.u64 Answer.index Answer.below Answer.many Answer.counted Bytes.bytes Bytes.two Decimal.digits Decimal.decimal Preorder.trees Names.eq_name Names.member Forms.type_arity Forms.type_fields Forms.type_head Forms.type_at Forms.expr_arity Forms.flag_of Forms.literal_of Forms.literal Forms.call_fields Forms.struct_fields Forms.when_fields Forms.iterate_fields Forms.expr_rows Forms.expr_fields Forms.expr_head Forms.expr_at Forms.name_at Forms.plain_types Forms.type_over Forms.type_of Forms.un_ops Forms.bin_ops Forms.iter_kinds Forms.nth Forms.names_at Forms.expr_over Forms.expr_of Read.name_byte Read.char Read.size Read.name Read.names_after Read.name_section Read.name_in Read.optional Read.optional_in Read.names_in Read.type_in Read.expr_in Read.port_in Read.ports_in Read.equation_in Read.equations_in Read.enum_in Read.kind_of Read.node_in Read.transition_in Read.drawn_of Read.regions_of Read.state_with Read.region_at Read.state_at Read.machine_in Read.branch_in Read.activation_in Read.origin_kind Read.origin_in Read.pack_at Read.reading_of Read.read Write.one Write.flag_byte Write.each Write.list Write.name_items Write.option_items Write.ty_items Write.lit_bytes Write.un_byte Write.bin_byte Write.iter_byte Write.count_of Write.arrays Write.expr_items Write.port_items Write.equation_items Write.transition_items Write.enum_items Write.kind_byte Write.node_items Write.drawn_count Write.region_count Write.drawn_items Write.machine_items Write.branch_items Write.activation_items Write.origin_byte Write.origin_items Write.package_items Write.enc Write.lookup Write.new_in Write.old_in Write.spell_one Write.before Write.and_then Write.spell Write.joined Write.encode Write.short Write.shorts
packed p = encode p

-- a package's pack: every byte is one, and it reads as the package
unfoldable pub small : Package → Bool
unfolding WrittenBack.all_small Answer.bind Answer.map_a Answer.guard Answer.byte Answer.u16 Answer.u32 Answer.u64 Answer.index Answer.below Answer.many Answer.counted Bytes.bytes Bytes.two Decimal.digits Decimal.decimal Preorder.trees Names.eq_name Names.member Forms.type_arity Forms.type_fields Forms.type_head Forms.type_at Forms.expr_arity Forms.flag_of Forms.literal_of Forms.literal Forms.call_fields Forms.struct_fields Forms.when_fields Forms.iterate_fields Forms.expr_rows Forms.expr_fields Forms.expr_head Forms.expr_at Forms.name_at Forms.plain_types Forms.type_over Forms.type_of Forms.un_ops Forms.bin_ops Forms.iter_kinds Forms.nth Forms.names_at Forms.expr_over Forms.expr_of Read.name_byte Read.char Read.size Read.name Read.names_after Read.name_section Read.name_in Read.optional Read.optional_in Read.names_in Read.type_in Read.expr_in Read.port_in Read.ports_in Read.equation_in Read.equations_in Read.enum_in Read.kind_of Read.node_in Read.transition_in Read.drawn_of Read.regions_of Read.state_with Read.region_at Read.state_at Read.machine_in Read.branch_in Read.activation_in Read.origin_kind Read.origin_in Read.pack_at Read.reading_of Read.read Write.one Write.flag_byte Write.each Write.list Write.name_items Write.option_items Write.ty_items Write.lit_bytes Write.un_byte Write.bin_byte Write.iter_byte Write.count_of Write.arrays Write.expr_items Write.port_items Write.equation_items Write.transition_items Write.enum_items Write.kind_byte Write.node_items Write.drawn_count Write.region_count Write.drawn_items Write.machine_items Write.branch_items Write.activation_items Write.origin_byte Write.origin_items Write.package_items Write.enc Write.lookup Write.new_in Write.old_in Write.spell_one Write.before Write.and_then Write.spell Write.joined Write.encode Write.short Write.shorts
small p = all_small (encode p)

unfoldable pub reading : Package → Reading
unfolding Answer.bind Answer.map_a Answer.guard Answer.byte Answer.u16 Answer.u32 Answer.u64 Answer.index Answer.below Answer.many Answer.counted Bytes.bytes Bytes.two Decimal.digits Decimal.decimal Preorder.trees Names.eq_name Names.member Forms.type_arity Forms.type_fields Forms.type_head Forms.type_at Forms.expr_arity Forms.flag_of Forms.literal_of Forms.literal Forms.call_fields Forms.struct_fields Forms.when_fields Forms.iterate_fields Forms.expr_rows Forms.expr_fields Forms.expr_head Forms.expr_at Forms.name_at Forms.plain_types Forms.type_over Forms.type_of Forms.un_ops Forms.bin_ops Forms.iter_kinds Forms.nth Forms.names_at Forms.expr_over Forms.expr_of Read.name_byte Read.char Read.size Read.name Read.names_after Read.name_section Read.name_in Read.optional Read.optional_in Read.names_in Read.type_in Read.expr_in Read.port_in Read.ports_in Read.equation_in Read.equations_in Read.enum_in Read.kind_of Read.node_in Read.transition_in Read.drawn_of Read.regions_of Read.state_with Read.region_at Read.state_at Read.machine_in Read.branch_in Read.activation_in Read.origin_kind Read.origin_in Read.pack_at Read.reading_of Read.read Write.one Write.flag_byte Write.each Write.list Write.name_items Write.option_items Write.ty_items Write.lit_bytes Write.un_byte Write.bin_byte Write.iter_byte Write.count_of Write.arrays Write.expr_items Write.port_items Write.equation_items Write.transition_items Write.enum_items Write.kind_byte Write.node_items Write.drawn_count Write.region_count Write.drawn_items Write.machine_items Write.branch_items Write.activation_items Write.origin_byte Write.origin_items Write.package_items Write.enc Write.lookup Write.new_in Write.old_in Write.spell_one Write.before Write.and_then Write.spell Write.joined Write.encode Write.short Write.shorts
reading p = read (encode p)

-- what its lowerings answer
unfoldable pub machines_number : Package → ℕ
unfolding Answer.bind Answer.map_a Answer.guard Answer.byte Answer.u16 Answer.u32 Answer.u64 Answer.index Answer.below Answer.many Answer.counted Bytes.bytes Bytes.two Decimal.digits Decimal.decimal Preorder.trees Names.eq_name Names.member Forms.type_arity Forms.type_fields Forms.type_head Forms.type_at Forms.expr_arity Forms.flag_of Forms.literal_of Forms.literal Forms.call_fields Forms.struct_fields Forms.when_fields Forms.iterate_fields Forms.expr_rows Forms.expr_fields Forms.expr_head Forms.expr_at Forms.name_at Forms.plain_types Forms.type_over Forms.type_of Forms.un_ops Forms.bin_ops Forms.iter_kinds Forms.nth Forms.names_at Forms.expr_over Forms.expr_of Read.name_byte Read.char Read.size Read.name Read.names_after Read.name_section Read.name_in Read.optional Read.optional_in Read.names_in Read.type_in Read.expr_in Read.port_in Read.ports_in Read.equation_in Read.equations_in Read.enum_in Read.kind_of Read.node_in Read.transition_in Read.drawn_of Read.regions_of Read.state_with Read.region_at Read.state_at Read.machine_in Read.branch_in Read.activation_in Read.origin_kind Read.origin_in Read.pack_at Read.reading_of Read.read Write.one Write.flag_byte Write.each Write.list Write.name_items Write.option_items Write.ty_items Write.lit_bytes Write.un_byte Write.bin_byte Write.iter_byte Write.count_of Write.arrays Write.expr_items Write.port_items Write.equation_items Write.transition_items Write.enum_items Write.kind_byte Write.node_items Write.drawn_count Write.region_count Write.drawn_items Write.machine_items Write.branch_items Write.activation_items Write.origin_byte Write.origin_items Write.package_items Write.enc Write.lookup Write.new_in Write.old_in Write.spell_one Write.before Write.and_then Write.spell Write.joined Write.encode Write.short Write.shorts Report.first_of Report.as_refusal Report.entries Report.report_bytes Outcome.number_of Outcome.value_of Outcome.returned Outcome.begins Outcome.output_of Outcome.report_of Outcome.on_package Outcome.reported Outcome.sized Outcome.written Outcome.check Refusals.no_states Refusals.unknown_initial Refusals.unknown_target Refusals.unassigned Refusals.duplicate_state Refusals.unknown_refine Refusals.refine_cycle Refusals.unknown_owner Refusals.too_large MadeNames.sm_prefix MadeNames.state_var MadeNames.next_var MadeNames.active_var MadeNames.enum_name Resolve.walk_on Resolve.prefix_transitions Resolve.prefix_s Resolve.short_name Resolve.short_targets Resolve.short_s Resolve.append_region Resolve.open_level Resolve.count_state Resolve.with_target Resolve.with_refine Resolve.resolve_s Resolve.machine_of Resolve.refine_with Resolve.as_target Resolve.refine_at Resolve.resolved_states Resolve.as_machine Lower.size_s Lower.transitions_of Lower.is_name Lower.chain_step Lower.next_chain Lower.previous_next Lower.top_equations Lower.just_entered Lower.state_rhs Lower.region_equations Lower.active_in Lower.equations_s Lower.names_of Lower.region_locals Lower.locals_s Lower.enums_s Lower.is_only Lower.own_value Lower.is_some Lower.all_states_cover Lower.default_expr_for_type Lower.from_option Lower.value_s Lower.output_equations Lower.equations_of Lower.enums_of Lower.locals_of Checks.check_no_states Checks.collect_state_names Checks.repeated Checks.bad_initial Checks.bad_target Checks.validate_states Checks.unless_covered Checks.unless_other Checks.require_cover_states Checks.uncovered Checks.refusal_of Machines.checked Machines.resolved Machines.judge Machines.node_named Machines.extend Machines.extend_in Machines.add_refusal Machines.origin_of Machines.node_from Machines.standalone Machines.merged Machines.add_machine Machines.lower_each Machines.start Machines.made_machines Machines.machines_lowered Call.report_or_pack Call.lower_package_machines Call.lower_machines
machines_number p = number_of (lower_machines (encode p) max_bytes max_bytes)

unfoldable pub activations_number : Package → ℕ
unfolding Answer.bind Answer.map_a Answer.guard Answer.byte Answer.u16 Answer.u32 Answer.u64 Answer.index Answer.below Answer.many Answer.counted Bytes.bytes Bytes.two Decimal.digits Decimal.decimal Preorder.trees Names.eq_name Names.member Forms.type_arity Forms.type_fields Forms.type_head Forms.type_at Forms.expr_arity Forms.flag_of Forms.literal_of Forms.literal Forms.call_fields Forms.struct_fields Forms.when_fields Forms.iterate_fields Forms.expr_rows Forms.expr_fields Forms.expr_head Forms.expr_at Forms.name_at Forms.plain_types Forms.type_over Forms.type_of Forms.un_ops Forms.bin_ops Forms.iter_kinds Forms.nth Forms.names_at Forms.expr_over Forms.expr_of Read.name_byte Read.char Read.size Read.name Read.names_after Read.name_section Read.name_in Read.optional Read.optional_in Read.names_in Read.type_in Read.expr_in Read.port_in Read.ports_in Read.equation_in Read.equations_in Read.enum_in Read.kind_of Read.node_in Read.transition_in Read.drawn_of Read.regions_of Read.state_with Read.region_at Read.state_at Read.machine_in Read.branch_in Read.activation_in Read.origin_kind Read.origin_in Read.pack_at Read.reading_of Read.read Write.one Write.flag_byte Write.each Write.list Write.name_items Write.option_items Write.ty_items Write.lit_bytes Write.un_byte Write.bin_byte Write.iter_byte Write.count_of Write.arrays Write.expr_items Write.port_items Write.equation_items Write.transition_items Write.enum_items Write.kind_byte Write.node_items Write.drawn_count Write.region_count Write.drawn_items Write.machine_items Write.branch_items Write.activation_items Write.origin_byte Write.origin_items Write.package_items Write.enc Write.lookup Write.new_in Write.old_in Write.spell_one Write.before Write.and_then Write.spell Write.joined Write.encode Write.short Write.shorts Report.first_of Report.as_refusal Report.entries Report.report_bytes Outcome.number_of Outcome.value_of Outcome.returned Outcome.begins Outcome.output_of Outcome.report_of Outcome.on_package Outcome.reported Outcome.sized Outcome.written Outcome.check Refusals.no_states Refusals.unknown_initial Refusals.unknown_target Refusals.unassigned Refusals.duplicate_state Refusals.unknown_refine Refusals.refine_cycle Refusals.unknown_owner Refusals.too_large MadeNames.sm_prefix MadeNames.state_var MadeNames.next_var MadeNames.active_var MadeNames.enum_name Resolve.walk_on Resolve.prefix_transitions Resolve.prefix_s Resolve.short_name Resolve.short_targets Resolve.short_s Resolve.append_region Resolve.open_level Resolve.count_state Resolve.with_target Resolve.with_refine Resolve.resolve_s Resolve.machine_of Resolve.refine_with Resolve.as_target Resolve.refine_at Resolve.resolved_states Resolve.as_machine Lower.size_s Lower.transitions_of Lower.is_name Lower.chain_step Lower.next_chain Lower.previous_next Lower.top_equations Lower.just_entered Lower.state_rhs Lower.region_equations Lower.active_in Lower.equations_s Lower.names_of Lower.region_locals Lower.locals_s Lower.enums_s Lower.is_only Lower.own_value Lower.is_some Lower.all_states_cover Lower.default_expr_for_type Lower.from_option Lower.value_s Lower.output_equations Lower.equations_of Lower.enums_of Lower.locals_of Checks.check_no_states Checks.collect_state_names Checks.repeated Checks.bad_initial Checks.bad_target Checks.validate_states Checks.unless_covered Checks.unless_other Checks.require_cover_states Checks.uncovered Checks.refusal_of Machines.checked Machines.resolved Machines.judge Machines.node_named Machines.extend Machines.extend_in Machines.add_refusal Machines.origin_of Machines.node_from Machines.standalone Machines.merged Machines.add_machine Machines.lower_each Machines.start Machines.made_machines Machines.machines_lowered Call.report_or_pack Call.lower_package_machines Call.lower_machines ActRefusals.no_branches ActRefusals.no_outputs ActRefusals.output_unassigned ActRefusals.duplicate_branch ActRefusals.unknown_owner ActRefusals.last_args ActRefusals.last_unknown ActRefusals.last_needs_init ActRefusals.empty_left ActNames.act_prefix ActNames.made_name ActNames.flag_var ActNames.none_var ActNames.clock_var ActNames.tag ActNames.value_var ActNames.sample_var ActNames.last_infix ActNames.last_var LastCalls.last_name LastCalls.as_var LastCalls.last_rest LastCalls.last_shape LastCalls.call_kind BadLasts.has_bad_last BadLasts.any_bad_last Sought.note Sought.sought Sought.right_sides Sought.conditions Sought.bodies Sought.expressions Sought.found RewriteLast.rewrite_last RewriteLast.conditions_of FreeVars.push FreeVars.free_vars FreeVars.keep_in FreeVars.reads_of Renames.rename SampledConstants.sample_constants SampledConstants.has_const SampledConstants.sample_value Defines.eqn Defines.first_left Defines.as_locals Flags.and_also Flags.flag_equations Clocks.under Clocks.onto Clocks.guard_equations Samples.drop_in Samples.sample_equations Samples.sample_locals Samples.renamed Samples.over_samples Scopes.scope_reads Scopes.rewritten Scopes.scope_equations Scopes.branch_equations Scopes.scope_locals Scopes.branch_locals Merges.merge_from Merges.merge_equations Types.variables Types.last_typed Types.first_typed Types.typed Types.port_names Types.readable Types.or_bool Types.sample_type Types.value_type Defaults.first_name Defaults.first_variant Defaults.as_variable Defaults.default_of Holders.cons_holder Holders.holder_port Holders.holder_equation Holders.with_init Holders.with_type Holders.make_holders ActChecks.branchless ActChecks.outputless ActChecks.branch_names ActChecks.else_name ActChecks.unless_assigned ActChecks.in_branches ActChecks.in_scopes ActChecks.misuse ActChecks.checks EmptyLeft.nameless EmptyLeft.leftless EmptyLeft.leftless_branch EmptyLeft.has_empty_left ActLower.tail_of ActLower.act_equations ActLower.act_locals ActLower.makes ActLower.with_holders ActLower.unless ActLower.lowered Activations.add_activation Activations.owned Activations.activate_each Activations.made_activations Activations.activations_lowered ActCall.lower_package_activations ActCall.lower_activations
activations_number p = number_of (lower_activations (encode p) max_bytes max_bytes)

-- the pack that an outcome writes
unfoldable pub pack_in : Outcome → List ℕ
pack_in (answers n v) = []
pack_in (reports r) = []
pack_in (writes b) = b

-- machines lowered: every byte of what is written is one; then activations of the result
unfoldable pub second_small : Package → Bool
unfolding pack_in WrittenBack.all_small Answer.bind Answer.map_a Answer.guard Answer.byte Answer.u16 Answer.u32 Answer.u64 Answer.index Answer.below Answer.many Answer.counted Bytes.bytes Bytes.two Decimal.digits Decimal.decimal Preorder.trees Names.eq_name Names.member Forms.type_arity Forms.type_fields Forms.type_head Forms.type_at Forms.expr_arity Forms.flag_of Forms.literal_of Forms.literal Forms.call_fields Forms.struct_fields Forms.when_fields Forms.iterate_fields Forms.expr_rows Forms.expr_fields Forms.expr_head Forms.expr_at Forms.name_at Forms.plain_types Forms.type_over Forms.type_of Forms.un_ops Forms.bin_ops Forms.iter_kinds Forms.nth Forms.names_at Forms.expr_over Forms.expr_of Read.name_byte Read.char Read.size Read.name Read.names_after Read.name_section Read.name_in Read.optional Read.optional_in Read.names_in Read.type_in Read.expr_in Read.port_in Read.ports_in Read.equation_in Read.equations_in Read.enum_in Read.kind_of Read.node_in Read.transition_in Read.drawn_of Read.regions_of Read.state_with Read.region_at Read.state_at Read.machine_in Read.branch_in Read.activation_in Read.origin_kind Read.origin_in Read.pack_at Read.reading_of Read.read Write.one Write.flag_byte Write.each Write.list Write.name_items Write.option_items Write.ty_items Write.lit_bytes Write.un_byte Write.bin_byte Write.iter_byte Write.count_of Write.arrays Write.expr_items Write.port_items Write.equation_items Write.transition_items Write.enum_items Write.kind_byte Write.node_items Write.drawn_count Write.region_count Write.drawn_items Write.machine_items Write.branch_items Write.activation_items Write.origin_byte Write.origin_items Write.package_items Write.enc Write.lookup Write.new_in Write.old_in Write.spell_one Write.before Write.and_then Write.spell Write.joined Write.encode Write.short Write.shorts Report.first_of Report.as_refusal Report.entries Report.report_bytes Outcome.number_of Outcome.value_of Outcome.returned Outcome.begins Outcome.output_of Outcome.report_of Outcome.on_package Outcome.reported Outcome.sized Outcome.written Outcome.check Refusals.no_states Refusals.unknown_initial Refusals.unknown_target Refusals.unassigned Refusals.duplicate_state Refusals.unknown_refine Refusals.refine_cycle Refusals.unknown_owner Refusals.too_large MadeNames.sm_prefix MadeNames.state_var MadeNames.next_var MadeNames.active_var MadeNames.enum_name Resolve.walk_on Resolve.prefix_transitions Resolve.prefix_s Resolve.short_name Resolve.short_targets Resolve.short_s Resolve.append_region Resolve.open_level Resolve.count_state Resolve.with_target Resolve.with_refine Resolve.resolve_s Resolve.machine_of Resolve.refine_with Resolve.as_target Resolve.refine_at Resolve.resolved_states Resolve.as_machine Lower.size_s Lower.transitions_of Lower.is_name Lower.chain_step Lower.next_chain Lower.previous_next Lower.top_equations Lower.just_entered Lower.state_rhs Lower.region_equations Lower.active_in Lower.equations_s Lower.names_of Lower.region_locals Lower.locals_s Lower.enums_s Lower.is_only Lower.own_value Lower.is_some Lower.all_states_cover Lower.default_expr_for_type Lower.from_option Lower.value_s Lower.output_equations Lower.equations_of Lower.enums_of Lower.locals_of Checks.check_no_states Checks.collect_state_names Checks.repeated Checks.bad_initial Checks.bad_target Checks.validate_states Checks.unless_covered Checks.unless_other Checks.require_cover_states Checks.uncovered Checks.refusal_of Machines.checked Machines.resolved Machines.judge Machines.node_named Machines.extend Machines.extend_in Machines.add_refusal Machines.origin_of Machines.node_from Machines.standalone Machines.merged Machines.add_machine Machines.lower_each Machines.start Machines.made_machines Machines.machines_lowered Call.report_or_pack Call.lower_package_machines Call.lower_machines
second_small p = all_small (pack_in (lower_machines (encode p) max_bytes max_bytes))

unfoldable pub second_number : Package → ℕ
unfolding pack_in Answer.bind Answer.map_a Answer.guard Answer.byte Answer.u16 Answer.u32 Answer.u64 Answer.index Answer.below Answer.many Answer.counted Bytes.bytes Bytes.two Decimal.digits Decimal.decimal Preorder.trees Names.eq_name Names.member Forms.type_arity Forms.type_fields Forms.type_head Forms.type_at Forms.expr_arity Forms.flag_of Forms.literal_of Forms.literal Forms.call_fields Forms.struct_fields Forms.when_fields Forms.iterate_fields Forms.expr_rows Forms.expr_fields Forms.expr_head Forms.expr_at Forms.name_at Forms.plain_types Forms.type_over Forms.type_of Forms.un_ops Forms.bin_ops Forms.iter_kinds Forms.nth Forms.names_at Forms.expr_over Forms.expr_of Read.name_byte Read.char Read.size Read.name Read.names_after Read.name_section Read.name_in Read.optional Read.optional_in Read.names_in Read.type_in Read.expr_in Read.port_in Read.ports_in Read.equation_in Read.equations_in Read.enum_in Read.kind_of Read.node_in Read.transition_in Read.drawn_of Read.regions_of Read.state_with Read.region_at Read.state_at Read.machine_in Read.branch_in Read.activation_in Read.origin_kind Read.origin_in Read.pack_at Read.reading_of Read.read Write.one Write.flag_byte Write.each Write.list Write.name_items Write.option_items Write.ty_items Write.lit_bytes Write.un_byte Write.bin_byte Write.iter_byte Write.count_of Write.arrays Write.expr_items Write.port_items Write.equation_items Write.transition_items Write.enum_items Write.kind_byte Write.node_items Write.drawn_count Write.region_count Write.drawn_items Write.machine_items Write.branch_items Write.activation_items Write.origin_byte Write.origin_items Write.package_items Write.enc Write.lookup Write.new_in Write.old_in Write.spell_one Write.before Write.and_then Write.spell Write.joined Write.encode Write.short Write.shorts Report.first_of Report.as_refusal Report.entries Report.report_bytes Outcome.number_of Outcome.value_of Outcome.returned Outcome.begins Outcome.output_of Outcome.report_of Outcome.on_package Outcome.reported Outcome.sized Outcome.written Outcome.check Refusals.no_states Refusals.unknown_initial Refusals.unknown_target Refusals.unassigned Refusals.duplicate_state Refusals.unknown_refine Refusals.refine_cycle Refusals.unknown_owner Refusals.too_large MadeNames.sm_prefix MadeNames.state_var MadeNames.next_var MadeNames.active_var MadeNames.enum_name Resolve.walk_on Resolve.prefix_transitions Resolve.prefix_s Resolve.short_name Resolve.short_targets Resolve.short_s Resolve.append_region Resolve.open_level Resolve.count_state Resolve.with_target Resolve.with_refine Resolve.resolve_s Resolve.machine_of Resolve.refine_with Resolve.as_target Resolve.refine_at Resolve.resolved_states Resolve.as_machine Lower.size_s Lower.transitions_of Lower.is_name Lower.chain_step Lower.next_chain Lower.previous_next Lower.top_equations Lower.just_entered Lower.state_rhs Lower.region_equations Lower.active_in Lower.equations_s Lower.names_of Lower.region_locals Lower.locals_s Lower.enums_s Lower.is_only Lower.own_value Lower.is_some Lower.all_states_cover Lower.default_expr_for_type Lower.from_option Lower.value_s Lower.output_equations Lower.equations_of Lower.enums_of Lower.locals_of Checks.check_no_states Checks.collect_state_names Checks.repeated Checks.bad_initial Checks.bad_target Checks.validate_states Checks.unless_covered Checks.unless_other Checks.require_cover_states Checks.uncovered Checks.refusal_of Machines.checked Machines.resolved Machines.judge Machines.node_named Machines.extend Machines.extend_in Machines.add_refusal Machines.origin_of Machines.node_from Machines.standalone Machines.merged Machines.add_machine Machines.lower_each Machines.start Machines.made_machines Machines.machines_lowered Call.report_or_pack Call.lower_package_machines Call.lower_machines ActRefusals.no_branches ActRefusals.no_outputs ActRefusals.output_unassigned ActRefusals.duplicate_branch ActRefusals.unknown_owner ActRefusals.last_args ActRefusals.last_unknown ActRefusals.last_needs_init ActRefusals.empty_left ActNames.act_prefix ActNames.made_name ActNames.flag_var ActNames.none_var ActNames.clock_var ActNames.tag ActNames.value_var ActNames.sample_var ActNames.last_infix ActNames.last_var LastCalls.last_name LastCalls.as_var LastCalls.last_rest LastCalls.last_shape LastCalls.call_kind BadLasts.has_bad_last BadLasts.any_bad_last Sought.note Sought.sought Sought.right_sides Sought.conditions Sought.bodies Sought.expressions Sought.found RewriteLast.rewrite_last RewriteLast.conditions_of FreeVars.push FreeVars.free_vars FreeVars.keep_in FreeVars.reads_of Renames.rename SampledConstants.sample_constants SampledConstants.has_const SampledConstants.sample_value Defines.eqn Defines.first_left Defines.as_locals Flags.and_also Flags.flag_equations Clocks.under Clocks.onto Clocks.guard_equations Samples.drop_in Samples.sample_equations Samples.sample_locals Samples.renamed Samples.over_samples Scopes.scope_reads Scopes.rewritten Scopes.scope_equations Scopes.branch_equations Scopes.scope_locals Scopes.branch_locals Merges.merge_from Merges.merge_equations Types.variables Types.last_typed Types.first_typed Types.typed Types.port_names Types.readable Types.or_bool Types.sample_type Types.value_type Defaults.first_name Defaults.first_variant Defaults.as_variable Defaults.default_of Holders.cons_holder Holders.holder_port Holders.holder_equation Holders.with_init Holders.with_type Holders.make_holders ActChecks.branchless ActChecks.outputless ActChecks.branch_names ActChecks.else_name ActChecks.unless_assigned ActChecks.in_branches ActChecks.in_scopes ActChecks.misuse ActChecks.checks EmptyLeft.nameless EmptyLeft.leftless EmptyLeft.leftless_branch EmptyLeft.has_empty_left ActLower.tail_of ActLower.act_equations ActLower.act_locals ActLower.makes ActLower.with_holders ActLower.unless ActLower.lowered Activations.add_activation Activations.owned Activations.activate_each Activations.made_activations Activations.activations_lowered ActCall.lower_package_activations ActCall.lower_activations
second_number p = number_of (lower_activations (pack_in (lower_machines (encode p) max_bytes max_bytes)) max_bytes max_bytes)

-- the states of a machine, resolved
unfoldable pub walking : Package → MachineDef → Walk ResolvedStates
unfolding Answer.bind Answer.map_a Answer.guard Answer.byte Answer.u16 Answer.u32 Answer.u64 Answer.index Answer.below Answer.many Answer.counted Bytes.bytes Bytes.two Decimal.digits Decimal.decimal Preorder.trees Names.eq_name Names.member Forms.type_arity Forms.type_fields Forms.type_head Forms.type_at Forms.expr_arity Forms.flag_of Forms.literal_of Forms.literal Forms.call_fields Forms.struct_fields Forms.when_fields Forms.iterate_fields Forms.expr_rows Forms.expr_fields Forms.expr_head Forms.expr_at Forms.name_at Forms.plain_types Forms.type_over Forms.type_of Forms.un_ops Forms.bin_ops Forms.iter_kinds Forms.nth Forms.names_at Forms.expr_over Forms.expr_of Read.name_byte Read.char Read.size Read.name Read.names_after Read.name_section Read.name_in Read.optional Read.optional_in Read.names_in Read.type_in Read.expr_in Read.port_in Read.ports_in Read.equation_in Read.equations_in Read.enum_in Read.kind_of Read.node_in Read.transition_in Read.drawn_of Read.regions_of Read.state_with Read.region_at Read.state_at Read.machine_in Read.branch_in Read.activation_in Read.origin_kind Read.origin_in Read.pack_at Read.reading_of Read.read Write.one Write.flag_byte Write.each Write.list Write.name_items Write.option_items Write.ty_items Write.lit_bytes Write.un_byte Write.bin_byte Write.iter_byte Write.count_of Write.arrays Write.expr_items Write.port_items Write.equation_items Write.transition_items Write.enum_items Write.kind_byte Write.node_items Write.drawn_count Write.region_count Write.drawn_items Write.machine_items Write.branch_items Write.activation_items Write.origin_byte Write.origin_items Write.package_items Write.enc Write.lookup Write.new_in Write.old_in Write.spell_one Write.before Write.and_then Write.spell Write.joined Write.encode Write.short Write.shorts Report.first_of Report.as_refusal Report.entries Report.report_bytes Outcome.number_of Outcome.value_of Outcome.returned Outcome.begins Outcome.output_of Outcome.report_of Outcome.on_package Outcome.reported Outcome.sized Outcome.written Outcome.check Refusals.no_states Refusals.unknown_initial Refusals.unknown_target Refusals.unassigned Refusals.duplicate_state Refusals.unknown_refine Refusals.refine_cycle Refusals.unknown_owner Refusals.too_large MadeNames.sm_prefix MadeNames.state_var MadeNames.next_var MadeNames.active_var MadeNames.enum_name Resolve.walk_on Resolve.prefix_transitions Resolve.prefix_s Resolve.short_name Resolve.short_targets Resolve.short_s Resolve.append_region Resolve.open_level Resolve.count_state Resolve.with_target Resolve.with_refine Resolve.resolve_s Resolve.machine_of Resolve.refine_with Resolve.as_target Resolve.refine_at Resolve.resolved_states Resolve.as_machine Lower.size_s Lower.transitions_of Lower.is_name Lower.chain_step Lower.next_chain Lower.previous_next Lower.top_equations Lower.just_entered Lower.state_rhs Lower.region_equations Lower.active_in Lower.equations_s Lower.names_of Lower.region_locals Lower.locals_s Lower.enums_s Lower.is_only Lower.own_value Lower.is_some Lower.all_states_cover Lower.default_expr_for_type Lower.from_option Lower.value_s Lower.output_equations Lower.equations_of Lower.enums_of Lower.locals_of Checks.check_no_states Checks.collect_state_names Checks.repeated Checks.bad_initial Checks.bad_target Checks.validate_states Checks.unless_covered Checks.unless_other Checks.require_cover_states Checks.uncovered Checks.refusal_of Machines.checked Machines.resolved Machines.judge Machines.node_named Machines.extend Machines.extend_in Machines.add_refusal Machines.origin_of Machines.node_from Machines.standalone Machines.merged Machines.add_machine Machines.lower_each Machines.start Machines.made_machines Machines.machines_lowered Call.report_or_pack Call.lower_package_machines Call.lower_machines
walking p d = resolved_states p.machines d

-- the equations that stand for the first machine, for the first activation
unfoldable pub machine_block : Package → MachineDef → ResolvedStates → List Equation
unfolding Answer.bind Answer.map_a Answer.guard Answer.byte Answer.u16 Answer.u32 Answer.u64 Answer.index Answer.below Answer.many Answer.counted Bytes.bytes Bytes.two Decimal.digits Decimal.decimal Preorder.trees Names.eq_name Names.member Forms.type_arity Forms.type_fields Forms.type_head Forms.type_at Forms.expr_arity Forms.flag_of Forms.literal_of Forms.literal Forms.call_fields Forms.struct_fields Forms.when_fields Forms.iterate_fields Forms.expr_rows Forms.expr_fields Forms.expr_head Forms.expr_at Forms.name_at Forms.plain_types Forms.type_over Forms.type_of Forms.un_ops Forms.bin_ops Forms.iter_kinds Forms.nth Forms.names_at Forms.expr_over Forms.expr_of Read.name_byte Read.char Read.size Read.name Read.names_after Read.name_section Read.name_in Read.optional Read.optional_in Read.names_in Read.type_in Read.expr_in Read.port_in Read.ports_in Read.equation_in Read.equations_in Read.enum_in Read.kind_of Read.node_in Read.transition_in Read.drawn_of Read.regions_of Read.state_with Read.region_at Read.state_at Read.machine_in Read.branch_in Read.activation_in Read.origin_kind Read.origin_in Read.pack_at Read.reading_of Read.read Write.one Write.flag_byte Write.each Write.list Write.name_items Write.option_items Write.ty_items Write.lit_bytes Write.un_byte Write.bin_byte Write.iter_byte Write.count_of Write.arrays Write.expr_items Write.port_items Write.equation_items Write.transition_items Write.enum_items Write.kind_byte Write.node_items Write.drawn_count Write.region_count Write.drawn_items Write.machine_items Write.branch_items Write.activation_items Write.origin_byte Write.origin_items Write.package_items Write.enc Write.lookup Write.new_in Write.old_in Write.spell_one Write.before Write.and_then Write.spell Write.joined Write.encode Write.short Write.shorts Report.first_of Report.as_refusal Report.entries Report.report_bytes Outcome.number_of Outcome.value_of Outcome.returned Outcome.begins Outcome.output_of Outcome.report_of Outcome.on_package Outcome.reported Outcome.sized Outcome.written Outcome.check Refusals.no_states Refusals.unknown_initial Refusals.unknown_target Refusals.unassigned Refusals.duplicate_state Refusals.unknown_refine Refusals.refine_cycle Refusals.unknown_owner Refusals.too_large MadeNames.sm_prefix MadeNames.state_var MadeNames.next_var MadeNames.active_var MadeNames.enum_name Resolve.walk_on Resolve.prefix_transitions Resolve.prefix_s Resolve.short_name Resolve.short_targets Resolve.short_s Resolve.append_region Resolve.open_level Resolve.count_state Resolve.with_target Resolve.with_refine Resolve.resolve_s Resolve.machine_of Resolve.refine_with Resolve.as_target Resolve.refine_at Resolve.resolved_states Resolve.as_machine Lower.size_s Lower.transitions_of Lower.is_name Lower.chain_step Lower.next_chain Lower.previous_next Lower.top_equations Lower.just_entered Lower.state_rhs Lower.region_equations Lower.active_in Lower.equations_s Lower.names_of Lower.region_locals Lower.locals_s Lower.enums_s Lower.is_only Lower.own_value Lower.is_some Lower.all_states_cover Lower.default_expr_for_type Lower.from_option Lower.value_s Lower.output_equations Lower.equations_of Lower.enums_of Lower.locals_of Checks.check_no_states Checks.collect_state_names Checks.repeated Checks.bad_initial Checks.bad_target Checks.validate_states Checks.unless_covered Checks.unless_other Checks.require_cover_states Checks.uncovered Checks.refusal_of Machines.checked Machines.resolved Machines.judge Machines.node_named Machines.extend Machines.extend_in Machines.add_refusal Machines.origin_of Machines.node_from Machines.standalone Machines.merged Machines.add_machine Machines.lower_each Machines.start Machines.made_machines Machines.machines_lowered Call.report_or_pack Call.lower_package_machines Call.lower_machines Placement.entry Placement.equations_from Placement.equations_named Placement.slice Placement.block_of Placement.machines_before Placement.activations_before Placement.machine_equations_in Placement.act_equations_in
machine_block p d ss = machine_equations_in d.owner (as_machine d ss) (machines_before p []) (made_machines p).nodes (made_machines p).origins

-- all equations of the first node
unfoldable pub first_node : Package → List Equation
unfolding Answer.bind Answer.map_a Answer.guard Answer.byte Answer.u16 Answer.u32 Answer.u64 Answer.index Answer.below Answer.many Answer.counted Bytes.bytes Bytes.two Decimal.digits Decimal.decimal Preorder.trees Names.eq_name Names.member Forms.type_arity Forms.type_fields Forms.type_head Forms.type_at Forms.expr_arity Forms.flag_of Forms.literal_of Forms.literal Forms.call_fields Forms.struct_fields Forms.when_fields Forms.iterate_fields Forms.expr_rows Forms.expr_fields Forms.expr_head Forms.expr_at Forms.name_at Forms.plain_types Forms.type_over Forms.type_of Forms.un_ops Forms.bin_ops Forms.iter_kinds Forms.nth Forms.names_at Forms.expr_over Forms.expr_of Read.name_byte Read.char Read.size Read.name Read.names_after Read.name_section Read.name_in Read.optional Read.optional_in Read.names_in Read.type_in Read.expr_in Read.port_in Read.ports_in Read.equation_in Read.equations_in Read.enum_in Read.kind_of Read.node_in Read.transition_in Read.drawn_of Read.regions_of Read.state_with Read.region_at Read.state_at Read.machine_in Read.branch_in Read.activation_in Read.origin_kind Read.origin_in Read.pack_at Read.reading_of Read.read Write.one Write.flag_byte Write.each Write.list Write.name_items Write.option_items Write.ty_items Write.lit_bytes Write.un_byte Write.bin_byte Write.iter_byte Write.count_of Write.arrays Write.expr_items Write.port_items Write.equation_items Write.transition_items Write.enum_items Write.kind_byte Write.node_items Write.drawn_count Write.region_count Write.drawn_items Write.machine_items Write.branch_items Write.activation_items Write.origin_byte Write.origin_items Write.package_items Write.enc Write.lookup Write.new_in Write.old_in Write.spell_one Write.before Write.and_then Write.spell Write.joined Write.encode Write.short Write.shorts Report.first_of Report.as_refusal Report.entries Report.report_bytes Outcome.number_of Outcome.value_of Outcome.returned Outcome.begins Outcome.output_of Outcome.report_of Outcome.on_package Outcome.reported Outcome.sized Outcome.written Outcome.check Refusals.no_states Refusals.unknown_initial Refusals.unknown_target Refusals.unassigned Refusals.duplicate_state Refusals.unknown_refine Refusals.refine_cycle Refusals.unknown_owner Refusals.too_large MadeNames.sm_prefix MadeNames.state_var MadeNames.next_var MadeNames.active_var MadeNames.enum_name Resolve.walk_on Resolve.prefix_transitions Resolve.prefix_s Resolve.short_name Resolve.short_targets Resolve.short_s Resolve.append_region Resolve.open_level Resolve.count_state Resolve.with_target Resolve.with_refine Resolve.resolve_s Resolve.machine_of Resolve.refine_with Resolve.as_target Resolve.refine_at Resolve.resolved_states Resolve.as_machine Lower.size_s Lower.transitions_of Lower.is_name Lower.chain_step Lower.next_chain Lower.previous_next Lower.top_equations Lower.just_entered Lower.state_rhs Lower.region_equations Lower.active_in Lower.equations_s Lower.names_of Lower.region_locals Lower.locals_s Lower.enums_s Lower.is_only Lower.own_value Lower.is_some Lower.all_states_cover Lower.default_expr_for_type Lower.from_option Lower.value_s Lower.output_equations Lower.equations_of Lower.enums_of Lower.locals_of Checks.check_no_states Checks.collect_state_names Checks.repeated Checks.bad_initial Checks.bad_target Checks.validate_states Checks.unless_covered Checks.unless_other Checks.require_cover_states Checks.uncovered Checks.refusal_of Machines.checked Machines.resolved Machines.judge Machines.node_named Machines.extend Machines.extend_in Machines.add_refusal Machines.origin_of Machines.node_from Machines.standalone Machines.merged Machines.add_machine Machines.lower_each Machines.start Machines.made_machines Machines.machines_lowered Call.report_or_pack Call.lower_package_machines Call.lower_machines Placement.entry Placement.equations_from Placement.equations_named Placement.slice Placement.block_of Placement.machines_before Placement.activations_before Placement.machine_equations_in Placement.act_equations_in
first_node p = equations_from (entry 0 (made_machines p).nodes)

unfoldable pub act_block : Package → List Equation
unfolding Answer.bind Answer.map_a Answer.guard Answer.byte Answer.u16 Answer.u32 Answer.u64 Answer.index Answer.below Answer.many Answer.counted Bytes.bytes Bytes.two Decimal.digits Decimal.decimal Preorder.trees Names.eq_name Names.member Forms.type_arity Forms.type_fields Forms.type_head Forms.type_at Forms.expr_arity Forms.flag_of Forms.literal_of Forms.literal Forms.call_fields Forms.struct_fields Forms.when_fields Forms.iterate_fields Forms.expr_rows Forms.expr_fields Forms.expr_head Forms.expr_at Forms.name_at Forms.plain_types Forms.type_over Forms.type_of Forms.un_ops Forms.bin_ops Forms.iter_kinds Forms.nth Forms.names_at Forms.expr_over Forms.expr_of Read.name_byte Read.char Read.size Read.name Read.names_after Read.name_section Read.name_in Read.optional Read.optional_in Read.names_in Read.type_in Read.expr_in Read.port_in Read.ports_in Read.equation_in Read.equations_in Read.enum_in Read.kind_of Read.node_in Read.transition_in Read.drawn_of Read.regions_of Read.state_with Read.region_at Read.state_at Read.machine_in Read.branch_in Read.activation_in Read.origin_kind Read.origin_in Read.pack_at Read.reading_of Read.read Write.one Write.flag_byte Write.each Write.list Write.name_items Write.option_items Write.ty_items Write.lit_bytes Write.un_byte Write.bin_byte Write.iter_byte Write.count_of Write.arrays Write.expr_items Write.port_items Write.equation_items Write.transition_items Write.enum_items Write.kind_byte Write.node_items Write.drawn_count Write.region_count Write.drawn_items Write.machine_items Write.branch_items Write.activation_items Write.origin_byte Write.origin_items Write.package_items Write.enc Write.lookup Write.new_in Write.old_in Write.spell_one Write.before Write.and_then Write.spell Write.joined Write.encode Write.short Write.shorts Report.first_of Report.as_refusal Report.entries Report.report_bytes Outcome.number_of Outcome.value_of Outcome.returned Outcome.begins Outcome.output_of Outcome.report_of Outcome.on_package Outcome.reported Outcome.sized Outcome.written Outcome.check Refusals.no_states Refusals.unknown_initial Refusals.unknown_target Refusals.unassigned Refusals.duplicate_state Refusals.unknown_refine Refusals.refine_cycle Refusals.unknown_owner Refusals.too_large MadeNames.sm_prefix MadeNames.state_var MadeNames.next_var MadeNames.active_var MadeNames.enum_name Resolve.walk_on Resolve.prefix_transitions Resolve.prefix_s Resolve.short_name Resolve.short_targets Resolve.short_s Resolve.append_region Resolve.open_level Resolve.count_state Resolve.with_target Resolve.with_refine Resolve.resolve_s Resolve.machine_of Resolve.refine_with Resolve.as_target Resolve.refine_at Resolve.resolved_states Resolve.as_machine Lower.size_s Lower.transitions_of Lower.is_name Lower.chain_step Lower.next_chain Lower.previous_next Lower.top_equations Lower.just_entered Lower.state_rhs Lower.region_equations Lower.active_in Lower.equations_s Lower.names_of Lower.region_locals Lower.locals_s Lower.enums_s Lower.is_only Lower.own_value Lower.is_some Lower.all_states_cover Lower.default_expr_for_type Lower.from_option Lower.value_s Lower.output_equations Lower.equations_of Lower.enums_of Lower.locals_of Checks.check_no_states Checks.collect_state_names Checks.repeated Checks.bad_initial Checks.bad_target Checks.validate_states Checks.unless_covered Checks.unless_other Checks.require_cover_states Checks.uncovered Checks.refusal_of Machines.checked Machines.resolved Machines.judge Machines.node_named Machines.extend Machines.extend_in Machines.add_refusal Machines.origin_of Machines.node_from Machines.standalone Machines.merged Machines.add_machine Machines.lower_each Machines.start Machines.made_machines Machines.machines_lowered Call.report_or_pack Call.lower_package_machines Call.lower_machines ActRefusals.no_branches ActRefusals.no_outputs ActRefusals.output_unassigned ActRefusals.duplicate_branch ActRefusals.unknown_owner ActRefusals.last_args ActRefusals.last_unknown ActRefusals.last_needs_init ActRefusals.empty_left ActNames.act_prefix ActNames.made_name ActNames.flag_var ActNames.none_var ActNames.clock_var ActNames.tag ActNames.value_var ActNames.sample_var ActNames.last_infix ActNames.last_var LastCalls.last_name LastCalls.as_var LastCalls.last_rest LastCalls.last_shape LastCalls.call_kind BadLasts.has_bad_last BadLasts.any_bad_last Sought.note Sought.sought Sought.right_sides Sought.conditions Sought.bodies Sought.expressions Sought.found RewriteLast.rewrite_last RewriteLast.conditions_of FreeVars.push FreeVars.free_vars FreeVars.keep_in FreeVars.reads_of Renames.rename SampledConstants.sample_constants SampledConstants.has_const SampledConstants.sample_value Defines.eqn Defines.first_left Defines.as_locals Flags.and_also Flags.flag_equations Clocks.under Clocks.onto Clocks.guard_equations Samples.drop_in Samples.sample_equations Samples.sample_locals Samples.renamed Samples.over_samples Scopes.scope_reads Scopes.rewritten Scopes.scope_equations Scopes.branch_equations Scopes.scope_locals Scopes.branch_locals Merges.merge_from Merges.merge_equations Types.variables Types.last_typed Types.first_typed Types.typed Types.port_names Types.readable Types.or_bool Types.sample_type Types.value_type Defaults.first_name Defaults.first_variant Defaults.as_variable Defaults.default_of Holders.cons_holder Holders.holder_port Holders.holder_equation Holders.with_init Holders.with_type Holders.make_holders ActChecks.branchless ActChecks.outputless ActChecks.branch_names ActChecks.else_name ActChecks.unless_assigned ActChecks.in_branches ActChecks.in_scopes ActChecks.misuse ActChecks.checks EmptyLeft.nameless EmptyLeft.leftless EmptyLeft.leftless_branch EmptyLeft.has_empty_left ActLower.tail_of ActLower.act_equations ActLower.act_locals ActLower.makes ActLower.with_holders ActLower.unless ActLower.lowered Activations.add_activation Activations.owned Activations.activate_each Activations.made_activations Activations.activations_lowered ActCall.lower_package_activations ActCall.lower_activations Placement.entry Placement.equations_from Placement.equations_named Placement.slice Placement.block_of Placement.machines_before Placement.activations_before Placement.machine_equations_in Placement.act_equations_in
act_block p = act_equations_in (activations_before p []) (made_activations p).nodes (made_activations p).origins

-- the holders of the first activation, in its owner
unfoldable pub owner_of : Package → Activation → Option Node
unfolding Answer.bind Answer.map_a Answer.guard Answer.byte Answer.u16 Answer.u32 Answer.u64 Answer.index Answer.below Answer.many Answer.counted Bytes.bytes Bytes.two Decimal.digits Decimal.decimal Preorder.trees Names.eq_name Names.member Forms.type_arity Forms.type_fields Forms.type_head Forms.type_at Forms.expr_arity Forms.flag_of Forms.literal_of Forms.literal Forms.call_fields Forms.struct_fields Forms.when_fields Forms.iterate_fields Forms.expr_rows Forms.expr_fields Forms.expr_head Forms.expr_at Forms.name_at Forms.plain_types Forms.type_over Forms.type_of Forms.un_ops Forms.bin_ops Forms.iter_kinds Forms.nth Forms.names_at Forms.expr_over Forms.expr_of Read.name_byte Read.char Read.size Read.name Read.names_after Read.name_section Read.name_in Read.optional Read.optional_in Read.names_in Read.type_in Read.expr_in Read.port_in Read.ports_in Read.equation_in Read.equations_in Read.enum_in Read.kind_of Read.node_in Read.transition_in Read.drawn_of Read.regions_of Read.state_with Read.region_at Read.state_at Read.machine_in Read.branch_in Read.activation_in Read.origin_kind Read.origin_in Read.pack_at Read.reading_of Read.read Write.one Write.flag_byte Write.each Write.list Write.name_items Write.option_items Write.ty_items Write.lit_bytes Write.un_byte Write.bin_byte Write.iter_byte Write.count_of Write.arrays Write.expr_items Write.port_items Write.equation_items Write.transition_items Write.enum_items Write.kind_byte Write.node_items Write.drawn_count Write.region_count Write.drawn_items Write.machine_items Write.branch_items Write.activation_items Write.origin_byte Write.origin_items Write.package_items Write.enc Write.lookup Write.new_in Write.old_in Write.spell_one Write.before Write.and_then Write.spell Write.joined Write.encode Write.short Write.shorts Report.first_of Report.as_refusal Report.entries Report.report_bytes Outcome.number_of Outcome.value_of Outcome.returned Outcome.begins Outcome.output_of Outcome.report_of Outcome.on_package Outcome.reported Outcome.sized Outcome.written Outcome.check Refusals.no_states Refusals.unknown_initial Refusals.unknown_target Refusals.unassigned Refusals.duplicate_state Refusals.unknown_refine Refusals.refine_cycle Refusals.unknown_owner Refusals.too_large MadeNames.sm_prefix MadeNames.state_var MadeNames.next_var MadeNames.active_var MadeNames.enum_name Resolve.walk_on Resolve.prefix_transitions Resolve.prefix_s Resolve.short_name Resolve.short_targets Resolve.short_s Resolve.append_region Resolve.open_level Resolve.count_state Resolve.with_target Resolve.with_refine Resolve.resolve_s Resolve.machine_of Resolve.refine_with Resolve.as_target Resolve.refine_at Resolve.resolved_states Resolve.as_machine Lower.size_s Lower.transitions_of Lower.is_name Lower.chain_step Lower.next_chain Lower.previous_next Lower.top_equations Lower.just_entered Lower.state_rhs Lower.region_equations Lower.active_in Lower.equations_s Lower.names_of Lower.region_locals Lower.locals_s Lower.enums_s Lower.is_only Lower.own_value Lower.is_some Lower.all_states_cover Lower.default_expr_for_type Lower.from_option Lower.value_s Lower.output_equations Lower.equations_of Lower.enums_of Lower.locals_of Checks.check_no_states Checks.collect_state_names Checks.repeated Checks.bad_initial Checks.bad_target Checks.validate_states Checks.unless_covered Checks.unless_other Checks.require_cover_states Checks.uncovered Checks.refusal_of Machines.checked Machines.resolved Machines.judge Machines.node_named Machines.extend Machines.extend_in Machines.add_refusal Machines.origin_of Machines.node_from Machines.standalone Machines.merged Machines.add_machine Machines.lower_each Machines.start Machines.made_machines Machines.machines_lowered Call.report_or_pack Call.lower_package_machines Call.lower_machines ActRefusals.no_branches ActRefusals.no_outputs ActRefusals.output_unassigned ActRefusals.duplicate_branch ActRefusals.unknown_owner ActRefusals.last_args ActRefusals.last_unknown ActRefusals.last_needs_init ActRefusals.empty_left ActNames.act_prefix ActNames.made_name ActNames.flag_var ActNames.none_var ActNames.clock_var ActNames.tag ActNames.value_var ActNames.sample_var ActNames.last_infix ActNames.last_var LastCalls.last_name LastCalls.as_var LastCalls.last_rest LastCalls.last_shape LastCalls.call_kind BadLasts.has_bad_last BadLasts.any_bad_last Sought.note Sought.sought Sought.right_sides Sought.conditions Sought.bodies Sought.expressions Sought.found RewriteLast.rewrite_last RewriteLast.conditions_of FreeVars.push FreeVars.free_vars FreeVars.keep_in FreeVars.reads_of Renames.rename SampledConstants.sample_constants SampledConstants.has_const SampledConstants.sample_value Defines.eqn Defines.first_left Defines.as_locals Flags.and_also Flags.flag_equations Clocks.under Clocks.onto Clocks.guard_equations Samples.drop_in Samples.sample_equations Samples.sample_locals Samples.renamed Samples.over_samples Scopes.scope_reads Scopes.rewritten Scopes.scope_equations Scopes.branch_equations Scopes.scope_locals Scopes.branch_locals Merges.merge_from Merges.merge_equations Types.variables Types.last_typed Types.first_typed Types.typed Types.port_names Types.readable Types.or_bool Types.sample_type Types.value_type Defaults.first_name Defaults.first_variant Defaults.as_variable Defaults.default_of Holders.cons_holder Holders.holder_port Holders.holder_equation Holders.with_init Holders.with_type Holders.make_holders ActChecks.branchless ActChecks.outputless ActChecks.branch_names ActChecks.else_name ActChecks.unless_assigned ActChecks.in_branches ActChecks.in_scopes ActChecks.misuse ActChecks.checks EmptyLeft.nameless EmptyLeft.leftless EmptyLeft.leftless_branch EmptyLeft.has_empty_left ActLower.tail_of ActLower.act_equations ActLower.act_locals ActLower.makes ActLower.with_holders ActLower.unless ActLower.lowered Activations.add_activation Activations.owned Activations.activate_each Activations.made_activations Activations.activations_lowered ActCall.lower_package_activations ActCall.lower_activations Placement.entry Placement.equations_from Placement.equations_named Placement.slice Placement.block_of Placement.machines_before Placement.activations_before Placement.machine_equations_in Placement.act_equations_in
owner_of p A = node_named A.owner (activations_before p []).nodes

unfoldable pub holding : Package → Activation → Node → Holding
unfolding Answer.bind Answer.map_a Answer.guard Answer.byte Answer.u16 Answer.u32 Answer.u64 Answer.index Answer.below Answer.many Answer.counted Bytes.bytes Bytes.two Decimal.digits Decimal.decimal Preorder.trees Names.eq_name Names.member Forms.type_arity Forms.type_fields Forms.type_head Forms.type_at Forms.expr_arity Forms.flag_of Forms.literal_of Forms.literal Forms.call_fields Forms.struct_fields Forms.when_fields Forms.iterate_fields Forms.expr_rows Forms.expr_fields Forms.expr_head Forms.expr_at Forms.name_at Forms.plain_types Forms.type_over Forms.type_of Forms.un_ops Forms.bin_ops Forms.iter_kinds Forms.nth Forms.names_at Forms.expr_over Forms.expr_of Read.name_byte Read.char Read.size Read.name Read.names_after Read.name_section Read.name_in Read.optional Read.optional_in Read.names_in Read.type_in Read.expr_in Read.port_in Read.ports_in Read.equation_in Read.equations_in Read.enum_in Read.kind_of Read.node_in Read.transition_in Read.drawn_of Read.regions_of Read.state_with Read.region_at Read.state_at Read.machine_in Read.branch_in Read.activation_in Read.origin_kind Read.origin_in Read.pack_at Read.reading_of Read.read Write.one Write.flag_byte Write.each Write.list Write.name_items Write.option_items Write.ty_items Write.lit_bytes Write.un_byte Write.bin_byte Write.iter_byte Write.count_of Write.arrays Write.expr_items Write.port_items Write.equation_items Write.transition_items Write.enum_items Write.kind_byte Write.node_items Write.drawn_count Write.region_count Write.drawn_items Write.machine_items Write.branch_items Write.activation_items Write.origin_byte Write.origin_items Write.package_items Write.enc Write.lookup Write.new_in Write.old_in Write.spell_one Write.before Write.and_then Write.spell Write.joined Write.encode Write.short Write.shorts Report.first_of Report.as_refusal Report.entries Report.report_bytes Outcome.number_of Outcome.value_of Outcome.returned Outcome.begins Outcome.output_of Outcome.report_of Outcome.on_package Outcome.reported Outcome.sized Outcome.written Outcome.check Refusals.no_states Refusals.unknown_initial Refusals.unknown_target Refusals.unassigned Refusals.duplicate_state Refusals.unknown_refine Refusals.refine_cycle Refusals.unknown_owner Refusals.too_large MadeNames.sm_prefix MadeNames.state_var MadeNames.next_var MadeNames.active_var MadeNames.enum_name Resolve.walk_on Resolve.prefix_transitions Resolve.prefix_s Resolve.short_name Resolve.short_targets Resolve.short_s Resolve.append_region Resolve.open_level Resolve.count_state Resolve.with_target Resolve.with_refine Resolve.resolve_s Resolve.machine_of Resolve.refine_with Resolve.as_target Resolve.refine_at Resolve.resolved_states Resolve.as_machine Lower.size_s Lower.transitions_of Lower.is_name Lower.chain_step Lower.next_chain Lower.previous_next Lower.top_equations Lower.just_entered Lower.state_rhs Lower.region_equations Lower.active_in Lower.equations_s Lower.names_of Lower.region_locals Lower.locals_s Lower.enums_s Lower.is_only Lower.own_value Lower.is_some Lower.all_states_cover Lower.default_expr_for_type Lower.from_option Lower.value_s Lower.output_equations Lower.equations_of Lower.enums_of Lower.locals_of Checks.check_no_states Checks.collect_state_names Checks.repeated Checks.bad_initial Checks.bad_target Checks.validate_states Checks.unless_covered Checks.unless_other Checks.require_cover_states Checks.uncovered Checks.refusal_of Machines.checked Machines.resolved Machines.judge Machines.node_named Machines.extend Machines.extend_in Machines.add_refusal Machines.origin_of Machines.node_from Machines.standalone Machines.merged Machines.add_machine Machines.lower_each Machines.start Machines.made_machines Machines.machines_lowered Call.report_or_pack Call.lower_package_machines Call.lower_machines ActRefusals.no_branches ActRefusals.no_outputs ActRefusals.output_unassigned ActRefusals.duplicate_branch ActRefusals.unknown_owner ActRefusals.last_args ActRefusals.last_unknown ActRefusals.last_needs_init ActRefusals.empty_left ActNames.act_prefix ActNames.made_name ActNames.flag_var ActNames.none_var ActNames.clock_var ActNames.tag ActNames.value_var ActNames.sample_var ActNames.last_infix ActNames.last_var LastCalls.last_name LastCalls.as_var LastCalls.last_rest LastCalls.last_shape LastCalls.call_kind BadLasts.has_bad_last BadLasts.any_bad_last Sought.note Sought.sought Sought.right_sides Sought.conditions Sought.bodies Sought.expressions Sought.found RewriteLast.rewrite_last RewriteLast.conditions_of FreeVars.push FreeVars.free_vars FreeVars.keep_in FreeVars.reads_of Renames.rename SampledConstants.sample_constants SampledConstants.has_const SampledConstants.sample_value Defines.eqn Defines.first_left Defines.as_locals Flags.and_also Flags.flag_equations Clocks.under Clocks.onto Clocks.guard_equations Samples.drop_in Samples.sample_equations Samples.sample_locals Samples.renamed Samples.over_samples Scopes.scope_reads Scopes.rewritten Scopes.scope_equations Scopes.branch_equations Scopes.scope_locals Scopes.branch_locals Merges.merge_from Merges.merge_equations Types.variables Types.last_typed Types.first_typed Types.typed Types.port_names Types.readable Types.or_bool Types.sample_type Types.value_type Defaults.first_name Defaults.first_variant Defaults.as_variable Defaults.default_of Holders.cons_holder Holders.holder_port Holders.holder_equation Holders.with_init Holders.with_type Holders.make_holders ActChecks.branchless ActChecks.outputless ActChecks.branch_names ActChecks.else_name ActChecks.unless_assigned ActChecks.in_branches ActChecks.in_scopes ActChecks.misuse ActChecks.checks EmptyLeft.nameless EmptyLeft.leftless EmptyLeft.leftless_branch EmptyLeft.has_empty_left ActLower.tail_of ActLower.act_equations ActLower.act_locals ActLower.makes ActLower.with_holders ActLower.unless ActLower.lowered Activations.add_activation Activations.owned Activations.activate_each Activations.made_activations Activations.activations_lowered ActCall.lower_package_activations ActCall.lower_activations
holding p A n = make_holders p.enums A.name (variables n) A.outputs (found (expressions A) [])

-- the tests of a run
unfoldable pub satisfying : Run ℕ → ℕ → List Equation → Bool
unfolding Names.eq_name Names.member Run.previous Tested.is_present Run.is_bool Run.ticks Run.history Run.if_value Run.apply_to Run.bools Run.equals Run.binary_value Run.binary Run.not_value Run.unary Run.literal Run.pre_at Run.arrow_at Run.clock_of Run.sub Run.if_of Run.eval Tested.eq_value Tested.eq_cell Tested.up_to Tested.same_test Tested.fits_test Tested.side_test Tested.agree_test Tested.satisfied
satisfying R N es = satisfied R N es

unfoldable pub machine_premises : Run ℕ → ℕ → Package → ResolvedMachine → Bool
unfolding Premises.starts_with DemandPremises.none_starts DemandPremises.enum_values DemandPremises.values_in Checks.collect_state_names Decimal.digits Decimal.decimal Names.eq_name Names.member MadeNames.sm_prefix MadeNames.state_var MadeNames.next_var MadeNames.active_var MadeNames.enum_name Lower.size_s Lower.transitions_of Lower.is_name Lower.chain_step Lower.next_chain Lower.previous_next Lower.top_equations Lower.just_entered Lower.state_rhs Lower.region_equations Lower.active_in Lower.equations_s Lower.names_of Lower.region_locals Lower.locals_s Lower.enums_s Lower.is_only Lower.own_value Lower.is_some Lower.all_states_cover Lower.default_expr_for_type Lower.from_option Lower.value_s Lower.output_equations Lower.equations_of Lower.enums_of Lower.locals_of Run.previous Tested.is_present Run.is_bool Run.ticks Run.history Run.if_value Run.apply_to Run.bools Run.equals Run.binary_value Run.binary Run.not_value Run.unary Run.literal Run.pre_at Run.arrow_at Run.clock_of Run.sub Run.if_of Run.eval Tested.eq_value Tested.eq_cell Tested.up_to Tested.same_test Tested.fits_test Tested.side_test Tested.agree_test Tested.satisfied PremisesTested.truth PremisesTested.fed PremisesTested.is_truth PremisesTested.truth_test PremisesTested.present_test PremisesTested.presents_test PremisesTested.base_test PremisesTested.guard_test PremisesTested.side_has PremisesTested.state_test PremisesTested.machine_test PremisesTested.port_test PremisesTested.condition_test PremisesTested.act_test
machine_premises R N p m = machine_test R N p m

unfoldable pub act_premises : Run ℕ → ℕ → Package → Activation → Bool
unfolding Premises.starts_with DemandPremises.none_starts DemandPremises.enum_values Decimal.digits Decimal.decimal Names.eq_name Names.member ActNames.act_prefix ActNames.made_name ActNames.flag_var ActNames.none_var ActNames.clock_var ActNames.tag ActNames.value_var ActNames.sample_var ActNames.last_infix ActNames.last_var LastCalls.last_name LastCalls.as_var LastCalls.last_rest LastCalls.last_shape LastCalls.call_kind RewriteLast.rewrite_last RewriteLast.conditions_of Run.previous Tested.is_present Run.is_bool Run.ticks Run.history Run.if_value Run.apply_to Run.bools Run.equals Run.binary_value Run.binary Run.not_value Run.unary Run.literal Run.pre_at Run.arrow_at Run.clock_of Run.sub Run.if_of Run.eval Tested.eq_value Tested.eq_cell Tested.up_to Tested.same_test Tested.fits_test Tested.side_test Tested.agree_test Tested.satisfied PremisesTested.truth PremisesTested.fed PremisesTested.is_truth PremisesTested.truth_test PremisesTested.present_test PremisesTested.presents_test PremisesTested.base_test PremisesTested.guard_test PremisesTested.side_has PremisesTested.state_test PremisesTested.machine_test PremisesTested.port_test PremisesTested.condition_test PremisesTested.act_test
act_premises R N p A = act_test R N p A

-- the states that the plain chart finds
unfoldable pub finding : Guards → ResolvedMachine → ℕ → List Name
unfolding Lower.size_s Names.eq_name Names.member Run.previous Tested.is_present Run.is_bool Run.ticks Run.history Run.if_value Run.apply_to Run.bools Run.equals Run.binary_value Run.binary Run.not_value Run.unary Run.literal Run.pre_at Run.arrow_at Run.clock_of Run.sub Run.if_of Run.eval Chart.at_first Chart.first_true Chart.choose Chart.begins_anew Chart.find Chart.keep Chart.step_region Chart.first_memory Chart.step_states Chart.start_s Chart.founds Chart.memories_after Chart.top_of Chart.cycle Chart.memories_in Chart.found_in Chart.select_s Chart.selected
finding G m t = found_in G m t

-- the right side that it selects for an output
unfoldable pub selecting : Guards → ResolvedMachine → Name → ℕ → Option Expr
unfolding Forms.name_at Lower.size_s Lower.is_only Lower.own_value Lower.is_some Lower.all_states_cover Names.eq_name Names.member Run.previous Tested.is_present Run.is_bool Run.ticks Run.history Run.if_value Run.apply_to Run.bools Run.equals Run.binary_value Run.binary Run.not_value Run.unary Run.literal Run.pre_at Run.arrow_at Run.clock_of Run.sub Run.if_of Run.eval Chart.at_first Chart.first_true Chart.choose Chart.begins_anew Chart.find Chart.keep Chart.step_region Chart.first_memory Chart.step_states Chart.start_s Chart.founds Chart.memories_after Chart.top_of Chart.cycle Chart.memories_in Chart.found_in Chart.select_s Chart.selected
selecting G m o t = selected (name_at (found_in G m t)) m o

-- what is asked of an activation for its scopes to be run on their own cycles
unfoldable pub scope_premises : Package → Activation → Node → Bool
unfolding DemandPremises.enum_values Visits.apart_from Decimal.digits Decimal.decimal Names.eq_name Names.member ActNames.act_prefix ActNames.made_name ActNames.flag_var ActNames.none_var ActNames.clock_var ActNames.tag ActNames.value_var ActNames.sample_var ActNames.last_infix ActNames.last_var LastCalls.last_name LastCalls.as_var LastCalls.last_rest LastCalls.last_shape LastCalls.call_kind RewriteLast.rewrite_last Sought.right_sides Sought.conditions Sought.bodies FreeVars.push FreeVars.free_vars SampledConstants.has_const Types.variables Types.port_names Visits.simple Visits.any_in Visits.has_source Visits.sides_of PremisesTested.all_of PremisesTested.scopes_test
scope_premises p A n = scopes_test p A n

-- Packs with what lowering their activations gives, to be held to what the definition computes.
use mathlib.Core.List.{List, [], ◌∷◌}
use Rattle.wire.specs.Answer
use Rattle.wire.specs.Bytes
use Rattle.wire.specs.Decimal
use Rattle.wire.specs.Preorder
use Rattle.pack_rules.specs.Names
use Rattle.pack_rules.specs.Forms
use Rattle.pack_rules.specs.Read
use Rattle.pack_rules.specs.Write
use Rattle.pack_rules.specs.Report
use Rattle.pack_rules.specs.Outcome
use Rattle.machine_rules.specs.Lower
use Rattle.machine_rules.specs.Checks
use Rattle.machine_rules.specs.Machines
use Rattle.machine_rules.specs.Call
use Rattle.activation_rules.specs.Refusals
use Rattle.activation_rules.specs.MadeNames
use Rattle.activation_rules.specs.LastCalls
use Rattle.activation_rules.specs.BadLasts
use Rattle.activation_rules.specs.Sought
use Rattle.activation_rules.specs.RewriteLast
use Rattle.activation_rules.specs.FreeVars
use Rattle.activation_rules.specs.Renames
use Rattle.activation_rules.specs.SampledConstants
use Rattle.activation_rules.specs.Defines
use Rattle.activation_rules.specs.Flags
use Rattle.activation_rules.specs.Clocks
use Rattle.activation_rules.specs.Samples
use Rattle.activation_rules.specs.Scopes
use Rattle.activation_rules.specs.Merges
use Rattle.activation_rules.specs.Types
use Rattle.activation_rules.specs.Defaults
use Rattle.activation_rules.specs.Holders
use Rattle.activation_rules.specs.Checks as Checked
use Rattle.activation_rules.specs.EmptyLeft
use Rattle.activation_rules.specs.Lower as Lowers
use Rattle.activation_rules.specs.Activations
use Rattle.activation_rules.specs.Call as Calls
use Rattle.pack_rules.specs.Outcome.{Outcome}
use Rattle.machine_rules.proofs.Computed.{Chart}
use Rattle.activation_rules.specs.Call.{lower_activations}

-- what the definition gives for each, with everything unfolded
unfoldable pub given : List Chart → List Outcome
unfolding Answer.bind Answer.map_a Answer.guard Answer.byte Answer.u16 Answer.u32 Answer.u64 Answer.index Answer.below Answer.many Answer.counted Bytes.bytes Bytes.two Decimal.digits Decimal.decimal Preorder.trees Names.eq_name Names.member Forms.type_arity Forms.type_fields Forms.type_head Forms.type_at Forms.expr_arity Forms.flag_of Forms.literal_of Forms.literal Forms.call_fields Forms.struct_fields Forms.when_fields Forms.iterate_fields Forms.expr_rows Forms.expr_fields Forms.expr_head Forms.expr_at Forms.name_at Forms.plain_types Forms.type_over Forms.type_of Forms.un_ops Forms.bin_ops Forms.iter_kinds Forms.nth Forms.names_at Forms.expr_over Forms.expr_of Read.name_byte Read.char Read.size Read.name Read.names_after Read.name_section Read.name_in Read.optional Read.optional_in Read.names_in Read.type_in Read.expr_in Read.port_in Read.ports_in Read.equation_in Read.equations_in Read.enum_in Read.kind_of Read.node_in Read.transition_in Read.drawn_of Read.regions_of Read.state_with Read.region_at Read.state_at Read.machine_in Read.branch_in Read.activation_in Read.origin_kind Read.origin_in Read.pack_at Read.reading_of Read.read Write.one Write.flag_byte Write.each Write.list Write.name_items Write.option_items Write.ty_items Write.lit_bytes Write.un_byte Write.bin_byte Write.iter_byte Write.count_of Write.arrays Write.expr_items Write.port_items Write.equation_items Write.transition_items Write.enum_items Write.kind_byte Write.node_items Write.drawn_count Write.region_count Write.drawn_items Write.machine_items Write.branch_items Write.activation_items Write.origin_byte Write.origin_items Write.package_items Write.enc Write.lookup Write.new_in Write.old_in Write.spell_one Write.before Write.and_then Write.spell Write.joined Write.encode Write.short Write.shorts Report.first_of Report.as_refusal Report.entries Report.report_bytes Outcome.on_package Outcome.reported Outcome.sized Outcome.written Lower.is_only Lower.own_value Lower.is_some Checks.repeated Machines.node_named Machines.extend Machines.extend_in Machines.add_refusal Machines.origin_of Machines.start Call.report_or_pack Refusals.no_branches Refusals.no_outputs Refusals.output_unassigned Refusals.duplicate_branch Refusals.unknown_owner Refusals.last_args Refusals.last_unknown Refusals.last_needs_init Refusals.empty_left MadeNames.act_prefix MadeNames.made_name MadeNames.flag_var MadeNames.none_var MadeNames.clock_var MadeNames.tag MadeNames.value_var MadeNames.sample_var MadeNames.last_infix MadeNames.last_var LastCalls.last_name LastCalls.as_var LastCalls.last_rest LastCalls.last_shape LastCalls.call_kind BadLasts.has_bad_last BadLasts.any_bad_last Sought.note Sought.sought Sought.right_sides Sought.conditions Sought.bodies Sought.expressions Sought.found RewriteLast.rewrite_last RewriteLast.conditions_of FreeVars.push FreeVars.free_vars FreeVars.keep_in FreeVars.reads_of Renames.rename SampledConstants.sample_constants SampledConstants.has_const SampledConstants.sample_value Defines.eqn Defines.first_left Defines.as_locals Flags.and_also Flags.flag_equations Clocks.under Clocks.onto Clocks.guard_equations Samples.drop_in Samples.sample_equations Samples.sample_locals Samples.renamed Samples.over_samples Scopes.scope_reads Scopes.rewritten Scopes.scope_equations Scopes.branch_equations Scopes.scope_locals Scopes.branch_locals Merges.merge_from Merges.merge_equations Types.variables Types.last_typed Types.first_typed Types.typed Types.port_names Types.readable Types.or_bool Types.sample_type Types.value_type Defaults.first_name Defaults.first_variant Defaults.as_variable Defaults.default_of Holders.cons_holder Holders.holder_port Holders.holder_equation Holders.with_init Holders.with_type Holders.make_holders Checked.branchless Checked.outputless Checked.branch_names Checked.else_name Checked.unless_assigned Checked.in_branches Checked.in_scopes Checked.misuse Checked.checks EmptyLeft.nameless EmptyLeft.leftless EmptyLeft.leftless_branch EmptyLeft.has_empty_left Lowers.tail_of Lowers.act_equations Lowers.act_locals Lowers.makes Lowers.with_holders Lowers.unless Lowers.lowered Activations.add_activation Activations.owned Activations.activate_each Activations.made_activations Activations.activations_lowered Calls.lower_package_activations Calls.lower_activations
given [] = []
given (c ∷ cs) = lower_activations c.pack c.room c.room ∷ given cs

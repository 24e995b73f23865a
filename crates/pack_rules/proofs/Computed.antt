-- What the definitions of the format compute, everything unfolded, beside what is stated of it.
use mathlib.Core.List.{List, [], ◌∷◌, ◌++◌}
use Prim.Native.Nat.{ℕ, ◌+◌, zero, suc}
use lib.ListN.{drop, length, take}
use Rattle.wire.specs.Answer
use Rattle.wire.specs.Bytes
use Rattle.wire.specs.Preorder
use Rattle.pack_rules.specs.Names
use Rattle.pack_rules.specs.Forms
use Rattle.pack_rules.specs.Read
use Rattle.pack_rules.specs.Write
use Rattle.pack_rules.specs.Report
use Rattle.pack_rules.specs.Outcome
use Rattle.pack_rules.specs.Syntax.{Package}
use Rattle.pack_rules.specs.Read.{Reading, read, whole}
use Rattle.pack_rules.specs.Write.{encode}
use Rattle.pack_rules.specs.Outcome.{Outcome, answers, check, output_of, report_of, returned}

-- a pack, and the check's number and value
pub record Check : Type 0 where
  pub pack : List ℕ
  pub number : ℕ
  pub value : ℕ

-- the check
unfoldable check_of : List ℕ → Outcome
unfolding Answer.bind Answer.map_a Answer.guard Answer.byte Answer.u16 Answer.u32 Answer.u64 Answer.index Answer.below Answer.many Answer.counted Preorder.trees Names.eq_name Names.member Forms.type_arity Forms.type_fields Forms.type_head Forms.type_at Forms.expr_arity Forms.flag_of Forms.literal_of Forms.literal Forms.call_fields Forms.struct_fields Forms.when_fields Forms.iterate_fields Forms.expr_rows Forms.expr_fields Forms.expr_head Forms.expr_at Forms.name_at Forms.plain_types Forms.type_over Forms.type_of Forms.un_ops Forms.bin_ops Forms.iter_kinds Forms.nth Forms.names_at Forms.expr_over Forms.expr_of Read.name_byte Read.char Read.size Read.name Read.names_after Read.name_section Read.name_in Read.optional Read.optional_in Read.names_in Read.type_in Read.expr_in Read.port_in Read.ports_in Read.equation_in Read.equations_in Read.enum_in Read.kind_of Read.node_in Read.transition_in Read.drawn_of Read.regions_of Read.state_with Read.region_at Read.state_at Read.machine_in Read.branch_in Read.activation_in Read.origin_kind Read.origin_in Read.pack_at Read.reading_of Read.read Outcome.on_package Outcome.check
check_of s = check s

-- what it gives for each
unfoldable pub checks_given : List Check → List Outcome
unfolding check_of
checks_given [] = []
checks_given (c ∷ cs) = check_of c.pack ∷ checks_given cs

-- what is stated of each
unfoldable pub checks_stated : List Check → List Outcome
checks_stated [] = []
checks_stated (c ∷ cs) = answers c.number c.value ∷ checks_stated cs

-- a pack, and the check's outcomes for what it begins with: no byte, one, two, up to all but one
pub record Cuts : Type 0 where
  pub pack : List ℕ
  pub outcomes : List Outcome

-- the check of what a pack begins with, of n bytes and of so many lengths more
unfoldable checks_cut : List ℕ → ℕ → ℕ → List Outcome
unfolding check_of
checks_cut s n zero = []
checks_cut s n (suc more) = check_of (take n s) ∷ checks_cut s (n + 1) more

-- the checks of all packs cut
unfoldable pub cuts_given : List Cuts → List (List Outcome)
unfolding checks_cut
cuts_given [] = []
cuts_given (c ∷ cs) = checks_cut c.pack 0 (length c.pack) ∷ cuts_given cs

-- what is stated of them
unfoldable pub cuts_stated : List Cuts → List (List Outcome)
cuts_stated [] = []
cuts_stated (c ∷ cs) = c.outcomes ∷ cuts_stated cs

-- other bytes at an offset of a pack, and the check's number and value
pub record Change : Type 0 where
  pub at : ℕ
  pub bytes : List ℕ
  pub number : ℕ
  pub value : ℕ

-- a package, its pack, and changes of the pack
pub record Chart : Type 0 where
  pub contents : Package
  pub pack : List ℕ
  pub changes : List Change

-- the check of a pack after each change
unfoldable checks_after : List ℕ → List Change → List Outcome
unfolding check_of
checks_after s [] = []
checks_after s (c ∷ cs) = check_of (take c.at s ++ (c.bytes ++ drop (c.at + length c.bytes) s)) ∷ checks_after s cs

-- what is stated of each change
unfoldable stated_after : List Change → List Outcome
stated_after [] = []
stated_after (c ∷ cs) = answers c.number c.value ∷ stated_after cs

-- the checks of all packs after each change
unfoldable pub changes_given : List Chart → List (List Outcome)
unfolding checks_after
changes_given [] = []
changes_given (c ∷ cs) = checks_after c.pack c.changes ∷ changes_given cs

-- what is stated of them
unfoldable pub changes_stated : List Chart → List (List Outcome)
unfolding stated_after
changes_stated [] = []
changes_stated (c ∷ cs) = stated_after c.changes ∷ changes_stated cs

-- what each pack is read as
unfoldable pub readings_given : List Chart → List Reading
unfolding Answer.bind Answer.map_a Answer.guard Answer.byte Answer.u16 Answer.u32 Answer.u64 Answer.index Answer.below Answer.many Answer.counted Preorder.trees Names.eq_name Names.member Forms.type_arity Forms.type_fields Forms.type_head Forms.type_at Forms.expr_arity Forms.flag_of Forms.literal_of Forms.literal Forms.call_fields Forms.struct_fields Forms.when_fields Forms.iterate_fields Forms.expr_rows Forms.expr_fields Forms.expr_head Forms.expr_at Forms.name_at Forms.plain_types Forms.type_over Forms.type_of Forms.un_ops Forms.bin_ops Forms.iter_kinds Forms.nth Forms.names_at Forms.expr_over Forms.expr_of Read.name_byte Read.char Read.size Read.name Read.names_after Read.name_section Read.name_in Read.optional Read.optional_in Read.names_in Read.type_in Read.expr_in Read.port_in Read.ports_in Read.equation_in Read.equations_in Read.enum_in Read.kind_of Read.node_in Read.transition_in Read.drawn_of Read.regions_of Read.state_with Read.region_at Read.state_at Read.machine_in Read.branch_in Read.activation_in Read.origin_kind Read.origin_in Read.pack_at Read.reading_of Read.read
readings_given [] = []
readings_given (c ∷ cs) = read c.pack ∷ readings_given cs

-- its package
unfoldable pub readings_stated : List Chart → List Reading
readings_stated [] = []
readings_stated (c ∷ cs) = whole c.contents ∷ readings_stated cs

-- what each package is written as
unfoldable pub packs_given : List Chart → List (List ℕ)
unfolding Bytes.bytes Bytes.two Names.eq_name Write.one Write.flag_byte Write.each Write.list Write.name_items Write.option_items Write.ty_items Write.lit_bytes Write.un_byte Write.bin_byte Write.iter_byte Write.count_of Write.arrays Write.expr_items Write.port_items Write.equation_items Write.transition_items Write.enum_items Write.kind_byte Write.node_items Write.drawn_count Write.region_count Write.drawn_items Write.machine_items Write.branch_items Write.activation_items Write.origin_byte Write.origin_items Write.package_items Write.enc Write.lookup Write.new_in Write.old_in Write.spell_one Write.before Write.and_then Write.spell Write.joined Write.encode
packs_given [] = []
packs_given (c ∷ cs) = encode c.contents ∷ packs_given cs

-- its pack
unfoldable pub packs_stated : List Chart → List (List ℕ)
packs_stated [] = []
packs_stated (c ∷ cs) = c.pack ∷ packs_stated cs

-- an outcome, the buffers of output and report, the word that is returned, and the buffers after the call
pub record Call : Type 0 where
  pub outcome : Outcome
  pub output : List ℕ
  pub report : List ℕ
  pub word : ℕ
  pub output_after : List ℕ
  pub report_after : List ℕ

-- a word and two buffers
pub record Effect : Type 0 where
  pub word : ℕ
  pub output : List ℕ
  pub report : List ℕ

-- what each outcome gives
unfoldable pub calls_given : List Call → List Effect
unfolding Answer.bind Answer.map_a Answer.guard Answer.byte Answer.u16 Answer.u32 Answer.u64 Answer.index Answer.below Answer.many Answer.counted Preorder.trees Names.eq_name Names.member Forms.type_arity Forms.type_fields Forms.type_head Forms.type_at Forms.expr_arity Forms.flag_of Forms.literal_of Forms.literal Forms.call_fields Forms.struct_fields Forms.when_fields Forms.iterate_fields Forms.expr_rows Forms.expr_fields Forms.expr_head Forms.expr_at Forms.name_at Forms.plain_types Forms.type_over Forms.type_of Forms.un_ops Forms.bin_ops Forms.iter_kinds Forms.nth Forms.names_at Forms.expr_over Forms.expr_of Read.name_byte Read.char Read.size Read.name Read.names_after Read.name_section Read.name_in Read.optional Read.optional_in Read.names_in Read.type_in Read.expr_in Read.port_in Read.ports_in Read.equation_in Read.equations_in Read.enum_in Read.kind_of Read.node_in Read.transition_in Read.drawn_of Read.regions_of Read.state_with Read.region_at Read.state_at Read.machine_in Read.branch_in Read.activation_in Read.origin_kind Read.origin_in Read.pack_at Read.reading_of Read.read Bytes.bytes Bytes.two Write.one Write.flag_byte Write.each Write.list Write.name_items Write.option_items Write.ty_items Write.lit_bytes Write.un_byte Write.bin_byte Write.iter_byte Write.count_of Write.arrays Write.expr_items Write.port_items Write.equation_items Write.transition_items Write.enum_items Write.kind_byte Write.node_items Write.drawn_count Write.region_count Write.drawn_items Write.machine_items Write.branch_items Write.activation_items Write.origin_byte Write.origin_items Write.package_items Write.enc Write.lookup Write.new_in Write.old_in Write.spell_one Write.before Write.and_then Write.spell Write.joined Write.encode Write.short Write.shorts Report.entries Report.report_bytes Outcome.number_of Outcome.value_of Outcome.returned Outcome.begins Outcome.output_of Outcome.report_of Outcome.on_package Outcome.reported Outcome.sized Outcome.written Outcome.check
calls_given [] = []
calls_given (c ∷ cs) = record { word = returned c.outcome; output = output_of c.outcome c.output; report = report_of c.outcome c.report } ∷ calls_given cs

-- what is stated of each
unfoldable pub calls_stated : List Call → List Effect
calls_stated [] = []
calls_stated (c ∷ cs) = record { word = c.word; output = c.output_after; report = c.report_after } ∷ calls_stated cs

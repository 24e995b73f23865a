-- The theorems at a package that has something of everything: their premises can be met.
use Rattle.std.proofs.Common.{◌≡◌, ℕ, zero, suc, ◌≤◌, true, false, List, [], ◌∷◌, length, refl, ap, ◌∙◌, arith}
use mathlib.Core.Option.{none, some}
use Rattle.pack_rules.specs.Limits as Limits
use Rattle.pack_rules.specs.Names as Names
use Rattle.pack_rules.specs.Forms as Forms
use Rattle.pack_rules.specs.Read as Read
use Rattle.pack_rules.specs.Write as Write
use Rattle.wire.specs.Answer as Answer
use Rattle.wire.specs.Preorder as Preorder
use Rattle.wire.specs.Bytes as Bytes
use Rattle.pack_rules.specs.Names.{Name}
use Rattle.pack_rules.specs.Syntax.{Package, StateDefs, def_cons, def_nil, e_binary, e_cast, e_const, e_if, e_iterate, e_pre, e_struct, e_var, e_when, i_fold, k_operator, l_char, l_int, o_shr, of_activation, reg_cons, reg_nil, t_array, t_char, t_named, x_cons, x_nil}
use Rattle.wire.specs.Lists.{All}
use Rattle.pack_rules.specs.Legal.{Deeper, FormedRegions, FormedStates, Fresh, Legal, Ready, completed, new_names, with_names}
use Rattle.pack.proofs.RoundTrip.{read_back, read-back-completed, read-legal}
use Rattle.pack.proofs.WrittenBack.{all_small, legal-ready, small_bytes}

abbrev pub a : Name
a = 97 ∷ []

abbrev pub b : Name
b = 98 ∷ []

abbrev pub c : Name
c = 99 ∷ 95 ∷ 57 ∷ []

-- the table has its names in the order c, a, b
unfoldable pub some-package : Package
some-package = record {
  names = c ∷ a ∷ b ∷ [];
  enums = record { name = a; variants = b ∷ c ∷ [] } ∷ [];
  nodes = record {
    name = b;
    kind = k_operator;
    inputs = record { name = a; ty = t_array 300 (t_named b) } ∷ [];
    outputs = [];
    locals = [];
    equations = record { lhs = a ∷ c ∷ []; rhs = e_if (e_binary o_shr (e_var a) (e_const (l_int 500))) (e_struct a (b ∷ []) (x_cons (e_cast t_char (e_const (l_char 200))) x_nil)) (e_iterate i_fold b true (x_cons (e_pre (e_var c)) x_nil)) } ∷ [];
  } ∷ [];
  machines = record {
    name = c;
    owner = some b;
    inputs = [];
    outputs = [];
    locals = [];
    initial = a;
    states = def_cons a [] (record { guard = e_var b; target = a } ∷ []) (reg_cons c true (def_cons c [] [] reg_nil none def_nil) reg_nil) (some c) def_nil;
  } ∷ [];
  activations = record { name = a; owner = b; outputs = []; branches = record { name = c; condition = e_when (e_var a) b true; equations = [] } ∷ []; else_equations = [] } ∷ [];
  origins = record { node = b; kind = of_activation; name = a; first = 65535; after = 7; branches = c ∷ [] } ∷ [];
}

reads : Read.read (Write.encode some-package) ≡ Read.whole some-package
unfolding some-package Names.eq_name Names.member Forms.type_arity Forms.type_fields Forms.type_head Forms.type_at Forms.expr_arity Forms.flag_of Forms.literal_of Forms.literal Forms.call_fields Forms.struct_fields Forms.when_fields Forms.iterate_fields Forms.expr_rows Forms.expr_fields Forms.expr_head Forms.expr_at Forms.name_at Forms.plain_types Forms.type_over Forms.type_of Forms.first_type Forms.un_ops Forms.bin_ops Forms.iter_kinds Forms.nth Forms.names_at Forms.expr_over Forms.expr_of Forms.exprs_of Read.name_byte Read.char Read.size Read.name Read.names_after Read.name_section Read.name_in Read.optional Read.optional_in Read.names_in Read.type_in Read.expr_in Read.port_in Read.ports_in Read.equation_in Read.equations_in Read.enum_in Read.kind_of Read.node_in Read.transition_in Read.drawn_of Read.regions_of Read.state_with Read.region_at Read.state_at Read.machine_in Read.branch_in Read.activation_in Read.origin_kind Read.origin_in Read.pack_at Read.reading_of Read.read Write.one Write.flag_byte Write.each Write.list Write.name_items Write.option_items Write.ty_items Write.lit_bytes Write.un_byte Write.bin_byte Write.iter_byte Write.count_of Write.arrays Write.expr_items Write.exprs_items Write.port_items Write.equation_items Write.transition_items Write.enum_items Write.kind_byte Write.node_items Write.drawn_count Write.region_count Write.drawn_items Write.region_items Write.machine_items Write.branch_items Write.activation_items Write.origin_byte Write.origin_items Write.package_items Write.enc Write.lookup Write.new_in Write.old_in Write.spell_one Write.before Write.and_then Write.spell Write.joined Write.encode Answer.bind Answer.map_a Answer.guard Answer.byte Answer.u16 Answer.u32 Answer.u64 Answer.index Answer.below Answer.many Answer.counted Preorder.trees Bytes.bytes Bytes.two
reads = refl

smalls : all_small (Write.encode some-package) ≡ true
unfolding all_small some-package Names.eq_name Names.member Forms.type_arity Forms.type_fields Forms.type_head Forms.type_at Forms.expr_arity Forms.flag_of Forms.literal_of Forms.literal Forms.call_fields Forms.struct_fields Forms.when_fields Forms.iterate_fields Forms.expr_rows Forms.expr_fields Forms.expr_head Forms.expr_at Forms.name_at Forms.plain_types Forms.type_over Forms.type_of Forms.first_type Forms.un_ops Forms.bin_ops Forms.iter_kinds Forms.nth Forms.names_at Forms.expr_over Forms.expr_of Forms.exprs_of Read.name_byte Read.char Read.size Read.name Read.names_after Read.name_section Read.name_in Read.optional Read.optional_in Read.names_in Read.type_in Read.expr_in Read.port_in Read.ports_in Read.equation_in Read.equations_in Read.enum_in Read.kind_of Read.node_in Read.transition_in Read.drawn_of Read.regions_of Read.state_with Read.region_at Read.state_at Read.machine_in Read.branch_in Read.activation_in Read.origin_kind Read.origin_in Read.pack_at Read.reading_of Read.read Write.one Write.flag_byte Write.each Write.list Write.name_items Write.option_items Write.ty_items Write.lit_bytes Write.un_byte Write.bin_byte Write.iter_byte Write.count_of Write.arrays Write.expr_items Write.exprs_items Write.port_items Write.equation_items Write.transition_items Write.enum_items Write.kind_byte Write.node_items Write.drawn_count Write.region_count Write.drawn_items Write.region_items Write.machine_items Write.branch_items Write.activation_items Write.origin_byte Write.origin_items Write.package_items Write.enc Write.lookup Write.new_in Write.old_in Write.spell_one Write.before Write.and_then Write.spell Write.joined Write.encode Answer.bind Answer.map_a Answer.guard Answer.byte Answer.u16 Answer.u32 Answer.u64 Answer.index Answer.below Answer.many Answer.counted Preorder.trees Bytes.bytes Bytes.two
smalls = refl

pub some-legal : Legal some-package
some-legal = read-legal (Write.encode some-package) (small_bytes (Write.encode some-package) smalls) some-package reads

-- the same from the theorem
pub some_back : Read.read (Write.encode some-package) ≡ Read.whole some-package
some_back = read_back some-package some-legal

-- with no table at all: the names are new, in order of first use a, b, c
unfoldable pub bare : Package
bare = with_names some-package []

fits : length (Write.encode bare) ≤ Limits.max_bytes
unfolding bare some-package with_names Names.eq_name Names.member Forms.type_arity Forms.type_fields Forms.type_head Forms.type_at Forms.expr_arity Forms.flag_of Forms.literal_of Forms.literal Forms.call_fields Forms.struct_fields Forms.when_fields Forms.iterate_fields Forms.expr_rows Forms.expr_fields Forms.expr_head Forms.expr_at Forms.name_at Forms.plain_types Forms.type_over Forms.type_of Forms.first_type Forms.un_ops Forms.bin_ops Forms.iter_kinds Forms.nth Forms.names_at Forms.expr_over Forms.expr_of Forms.exprs_of Read.name_byte Read.char Read.size Read.name Read.names_after Read.name_section Read.name_in Read.optional Read.optional_in Read.names_in Read.type_in Read.expr_in Read.port_in Read.ports_in Read.equation_in Read.equations_in Read.enum_in Read.kind_of Read.node_in Read.transition_in Read.drawn_of Read.regions_of Read.state_with Read.region_at Read.state_at Read.machine_in Read.branch_in Read.activation_in Read.origin_kind Read.origin_in Read.pack_at Read.reading_of Read.read Write.one Write.flag_byte Write.each Write.list Write.name_items Write.option_items Write.ty_items Write.lit_bytes Write.un_byte Write.bin_byte Write.iter_byte Write.count_of Write.arrays Write.expr_items Write.exprs_items Write.port_items Write.equation_items Write.transition_items Write.enum_items Write.kind_byte Write.node_items Write.drawn_count Write.region_count Write.drawn_items Write.region_items Write.machine_items Write.branch_items Write.activation_items Write.origin_byte Write.origin_items Write.package_items Write.enc Write.lookup Write.new_in Write.old_in Write.spell_one Write.before Write.and_then Write.spell Write.joined Write.encode Answer.bind Answer.map_a Answer.guard Answer.byte Answer.u16 Answer.u32 Answer.u64 Answer.index Answer.below Answer.many Answer.counted Preorder.trees Bytes.bytes Bytes.two
fits = omega arith

pub bare-ready : Ready bare
unfolding bare some-package with_names Fresh All Write.package_items
bare-ready = record { fresh = tt; names = tt; used = (legal-ready some-package some-legal).used; formed = some-legal.formed; fits = fits }

pub bare-names : new_names bare ≡ a ∷ b ∷ c ∷ []
unfolding new_names bare some-package with_names Names.eq_name Names.member Forms.type_arity Forms.type_fields Forms.type_head Forms.type_at Forms.expr_arity Forms.flag_of Forms.literal_of Forms.literal Forms.call_fields Forms.struct_fields Forms.when_fields Forms.iterate_fields Forms.expr_rows Forms.expr_fields Forms.expr_head Forms.expr_at Forms.name_at Forms.plain_types Forms.type_over Forms.type_of Forms.first_type Forms.un_ops Forms.bin_ops Forms.iter_kinds Forms.nth Forms.names_at Forms.expr_over Forms.expr_of Forms.exprs_of Read.name_byte Read.char Read.size Read.name Read.names_after Read.name_section Read.name_in Read.optional Read.optional_in Read.names_in Read.type_in Read.expr_in Read.port_in Read.ports_in Read.equation_in Read.equations_in Read.enum_in Read.kind_of Read.node_in Read.transition_in Read.drawn_of Read.regions_of Read.state_with Read.region_at Read.state_at Read.machine_in Read.branch_in Read.activation_in Read.origin_kind Read.origin_in Read.pack_at Read.reading_of Read.read Write.one Write.flag_byte Write.each Write.list Write.name_items Write.option_items Write.ty_items Write.lit_bytes Write.un_byte Write.bin_byte Write.iter_byte Write.count_of Write.arrays Write.expr_items Write.exprs_items Write.port_items Write.equation_items Write.transition_items Write.enum_items Write.kind_byte Write.node_items Write.drawn_count Write.region_count Write.drawn_items Write.region_items Write.machine_items Write.branch_items Write.activation_items Write.origin_byte Write.origin_items Write.package_items Write.enc Write.lookup Write.new_in Write.old_in Write.spell_one Write.before Write.and_then Write.spell Write.joined Write.encode Answer.bind Answer.map_a Answer.guard Answer.byte Answer.u16 Answer.u32 Answer.u64 Answer.index Answer.below Answer.many Answer.counted Preorder.trees Bytes.bytes Bytes.two
bare-names = refl

pub bare-back : Read.read (Write.encode bare) ≡ Read.whole (with_names some-package (a ∷ b ∷ c ∷ []))
unfolding bare some-package with_names completed
bare-back = read-back-completed bare bare-ready ∙ ap (λ (ns : List Name). Read.whole (with_names some-package ns)) bare-names

-- regions inside regions: with 7 levels left below the top states, level 8 is legal and level 9 is not
unfoldable pub nest : ℕ → StateDefs
nest zero = def_cons a [] [] reg_nil none def_nil
nest (suc n) = def_cons a [] [] (reg_cons a false (nest n) reg_nil) none def_nil

pub nest-formed : (n : ℕ) → FormedStates (nest n) n
unfolding nest FormedStates FormedRegions Deeper All
nest-formed zero = ((tt, tt, tt), tt)
nest-formed (suc n) = ((tt, tt, (nest-formed n, tt)), tt)

pub nest_deep : (n : ℕ) → FormedStates (nest (suc n)) n → ⊥
unfolding nest FormedStates FormedRegions Deeper
nest_deep zero h = h.0.2.0
nest_deep (suc n) h = nest_deep n h.0.2.0

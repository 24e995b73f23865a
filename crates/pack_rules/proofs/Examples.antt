-- Small packs with the harness's answers: the check at every kind of field, what packs are read as and written from, and what the
-- answers leave in a caller's buffers. This page is made by `harness/tables pack`.
use mathlib.Core.List.{List, [], ◌∷◌}
use mathlib.Core.Bool.{true, false}
use mathlib.Core.Option.{none, some}
use mathlib.Core.Path.{◌≡◌, refl}
use lib.ListN.{replicate}
use Rattle.pack_rules.specs.Names.{Name}
use Rattle.pack_rules.specs.Syntax.{Package, def_cons, def_nil, e_array, e_arrow, e_binary, e_call, e_cast, e_const, e_field, e_if, e_index, e_iterate, e_merge, e_pre, e_struct, e_tuple, e_unary, e_var, e_when, i_fold, i_map, k_function, k_imported, k_operator, l_bool, l_char, l_float, l_int, o_add, o_and, o_bit_and, o_bit_or, o_bit_xor, o_div, o_eq, o_ge, o_gt, o_implies, o_le, o_lt, o_mod, o_mul, o_neg, o_neq, o_not, o_or, o_shl, o_shr, o_sub, o_xor, of_activation, of_machine, reg_cons, reg_nil, t_array, t_bool, t_char, t_float32, t_float64, t_int16, t_int32, t_int64, t_int8, t_named, t_uint16, t_uint32, t_uint64, t_uint8, x_cons, x_nil}
use Rattle.pack_rules.specs.Report.{Refusal, report_bytes}
use Rattle.pack_rules.specs.Outcome.{answers, check, reported, sized, written}
use Rattle.pack_rules.proofs.Computed.{Call, Chart, Check, Cuts, calls_given, calls_stated, changes_given, changes_stated, checks_given, checks_stated, cuts_given, cuts_stated, packs_given, packs_stated, readings_given, readings_stated}

-- Names have one letter, by which they are called here.

abbrev A : Name
A = 65 ∷ []

abbrev B : Name
B = 66 ∷ []

abbrev C : Name
C = 67 ∷ []

abbrev D : Name
D = 68 ∷ []

abbrev E : Name
E = 69 ∷ []

abbrev F : Name
F = 70 ∷ []

abbrev M : Name
M = 77 ∷ []

abbrev N : Name
N = 78 ∷ []

abbrev R : Name
R = 82 ∷ []

abbrev S : Name
S = 83 ∷ []

abbrev T : Name
T = 84 ∷ []

abbrev Z : Name
Z = 90 ∷ []

abbrev a : Name
a = 97 ∷ []

abbrev b : Name
b = 98 ∷ []

abbrev c : Name
c = 99 ∷ []

abbrev l : Name
l = 108 ∷ []

abbrev o : Name
o = 111 ∷ []

abbrev p : Name
p = 112 ∷ []

abbrev v : Name
v = 118 ∷ []

abbrev w : Name
w = 119 ∷ []

-- the package that holds nothing
unfoldable pub nothing : Package
nothing = record { names = []; enums = []; nodes = []; machines = []; activations = []; origins = [] }

-- a package with an enum of a new name
unfoldable pub named : Name → Package
named n = record { names = []; enums = record { name = n; variants = [] } ∷ []; nodes = []; machines = []; activations = []; origins = [] }

-- two refused definitions
unfoldable pub refused : List Refusal
refused = record { kind = 7; names = M ∷ M ∷ [] } ∷ record { kind = 17; names = (97 ∷ 98 ∷ []) ∷ [] } ∷ []

-- packs alone
unfoldable pub checks : List Check
checks =
    -- twelve zero bytes
    record { pack = 0 ∷ 0 ∷ 0 ∷ 0 ∷ 0 ∷ 0 ∷ 0 ∷ 0 ∷ 0 ∷ 0 ∷ 0 ∷ 0 ∷ []; number = 0; value = 12 }
    -- no bytes
    ∷ record { pack = []; number = 2; value = 0 }
    -- half a count
    ∷ record { pack = 0 ∷ 0 ∷ 0 ∷ 0 ∷ 0 ∷ 0 ∷ 0 ∷ 0 ∷ 0 ∷ 0 ∷ 0 ∷ []; number = 2; value = 11 }
    -- a byte after the origins
    ∷ record { pack = 0 ∷ 0 ∷ 0 ∷ 0 ∷ 0 ∷ 0 ∷ 0 ∷ 0 ∷ 0 ∷ 0 ∷ 0 ∷ 0 ∷ 0 ∷ []; number = 5; value = 12 }
    -- an illegal index before the end that is missing
    ∷ record { pack = 0 ∷ 0 ∷ 1 ∷ 0 ∷ 0 ∷ 0 ∷ []; number = 3; value = 4 }
    -- half an index, illegal however it goes on
    ∷ record { pack = 0 ∷ 0 ∷ 1 ∷ 0 ∷ 9 ∷ []; number = 2; value = 5 }
    -- 65,536 bytes are read
    ∷ record { pack = replicate 65536 255; number = 3; value = 3 }
    -- 65,537 bytes are not
    ∷ record { pack = replicate 65537 255; number = 1; value = 65536 }
    -- every byte that a name may have at the ends of its ranges
    ∷ record { pack = 1 ∷ 0 ∷ 7 ∷ 48 ∷ 57 ∷ 65 ∷ 90 ∷ 95 ∷ 97 ∷ 122 ∷ 0 ∷ 0 ∷ 0 ∷ 0 ∷ 0 ∷ 0 ∷ 0 ∷ 0 ∷ 0 ∷ 0 ∷ []; number = 0; value = 20 }
    -- an empty name, at its length byte
    ∷ record { pack = 1 ∷ 0 ∷ 0 ∷ 0 ∷ 0 ∷ 0 ∷ 0 ∷ 0 ∷ 0 ∷ 0 ∷ 0 ∷ 0 ∷ 0 ∷ []; number = 3; value = 2 }
    -- a bad character, at it
    ∷ record { pack = 1 ∷ 0 ∷ 2 ∷ 97 ∷ 45 ∷ 0 ∷ 0 ∷ 0 ∷ 0 ∷ 0 ∷ 0 ∷ 0 ∷ 0 ∷ 0 ∷ 0 ∷ []; number = 3; value = 4 }
    -- a bad character before the end that is missing
    ∷ record { pack = 1 ∷ 0 ∷ 9 ∷ 97 ∷ 45 ∷ []; number = 3; value = 4 }
    -- a name that ends early
    ∷ record { pack = 1 ∷ 0 ∷ 9 ∷ 97 ∷ 98 ∷ []; number = 2; value = 5 }
    -- a repeated name, at its length byte
    ∷ record { pack = 2 ∷ 0 ∷ 1 ∷ 97 ∷ 1 ∷ 97 ∷ 0 ∷ 0 ∷ 0 ∷ 0 ∷ 0 ∷ 0 ∷ 0 ∷ 0 ∷ 0 ∷ 0 ∷ []; number = 3; value = 4 }
    -- the first name again after another
    ∷ record { pack = 3 ∷ 0 ∷ 1 ∷ 97 ∷ 1 ∷ 98 ∷ 1 ∷ 97 ∷ 0 ∷ 0 ∷ 0 ∷ 0 ∷ 0 ∷ 0 ∷ 0 ∷ 0 ∷ 0 ∷ 0 ∷ []; number = 3; value = 6 }
    -- a repeated name before the end that is missing
    ∷ record { pack = 3 ∷ 0 ∷ 1 ∷ 97 ∷ 1 ∷ 97 ∷ []; number = 3; value = 4 }
    -- a name that may become a repeated one ends early
    ∷ record { pack = 2 ∷ 0 ∷ 2 ∷ 97 ∷ 98 ∷ 2 ∷ 97 ∷ []; number = 2; value = 7 }
    -- the beginning of another name is no repeated one
    ∷ record { pack = 2 ∷ 0 ∷ 2 ∷ 97 ∷ 97 ∷ 1 ∷ 97 ∷ 0 ∷ 0 ∷ 0 ∷ 0 ∷ 0 ∷ 0 ∷ 0 ∷ 0 ∷ 0 ∷ 0 ∷ []; number = 0; value = 17 }
    -- / in a name
    ∷ record { pack = 1 ∷ 0 ∷ 1 ∷ 47 ∷ []; number = 3; value = 3 }
    -- : in a name
    ∷ record { pack = 1 ∷ 0 ∷ 1 ∷ 58 ∷ []; number = 3; value = 3 }
    -- @ in a name
    ∷ record { pack = 1 ∷ 0 ∷ 1 ∷ 64 ∷ []; number = 3; value = 3 }
    -- [ in a name
    ∷ record { pack = 1 ∷ 0 ∷ 1 ∷ 91 ∷ []; number = 3; value = 3 }
    -- ^ in a name
    ∷ record { pack = 1 ∷ 0 ∷ 1 ∷ 94 ∷ []; number = 3; value = 3 }
    -- ` in a name
    ∷ record { pack = 1 ∷ 0 ∷ 1 ∷ 96 ∷ []; number = 3; value = 3 }
    -- { in a name
    ∷ record { pack = 1 ∷ 0 ∷ 1 ∷ 123 ∷ []; number = 3; value = 3 }
    -- \x80 in a name
    ∷ record { pack = 1 ∷ 0 ∷ 1 ∷ 128 ∷ []; number = 3; value = 3 }
    -- level 8
    ∷ record {
      pack = 1 ∷ 0 ∷ 1 ∷ 77 ∷ 0 ∷ 0 ∷ 0 ∷ 0 ∷ 1 ∷ 0 ∷ 0 ∷ 0 ∷ 255 ∷ 255 ∷ 0 ∷ 0 ∷ 0 ∷ 0 ∷ 0 ∷ 0 ∷ 0 ∷ 0 ∷ 1 ∷ 0 ∷ 0 ∷ 0 ∷ 0 ∷ 0 ∷ 0 ∷ 0
          ∷ 1 ∷ 0 ∷ 0 ∷ 0 ∷ 0 ∷ 1 ∷ 0 ∷ 0 ∷ 0 ∷ 0 ∷ 0 ∷ 0 ∷ 0 ∷ 1 ∷ 0 ∷ 0 ∷ 0 ∷ 0 ∷ 1 ∷ 0 ∷ 0 ∷ 0 ∷ 0 ∷ 0 ∷ 0 ∷ 0 ∷ 1 ∷ 0 ∷ 0 ∷ 0
          ∷ 0 ∷ 1 ∷ 0 ∷ 0 ∷ 0 ∷ 0 ∷ 0 ∷ 0 ∷ 0 ∷ 1 ∷ 0 ∷ 0 ∷ 0 ∷ 0 ∷ 1 ∷ 0 ∷ 0 ∷ 0 ∷ 0 ∷ 0 ∷ 0 ∷ 0 ∷ 1 ∷ 0 ∷ 0 ∷ 0 ∷ 0 ∷ 1 ∷ 0 ∷ 0
          ∷ 0 ∷ 0 ∷ 0 ∷ 0 ∷ 0 ∷ 1 ∷ 0 ∷ 0 ∷ 0 ∷ 0 ∷ 1 ∷ 0 ∷ 0 ∷ 0 ∷ 0 ∷ 0 ∷ 0 ∷ 0 ∷ 1 ∷ 0 ∷ 0 ∷ 0 ∷ 0 ∷ 1 ∷ 0 ∷ 0 ∷ 0 ∷ 0 ∷ 0 ∷ 0
          ∷ 0 ∷ 0 ∷ 0 ∷ 255 ∷ 255 ∷ 255 ∷ 255 ∷ 255 ∷ 255 ∷ 255 ∷ 255 ∷ 255 ∷ 255 ∷ 255 ∷ 255 ∷ 255 ∷ 255 ∷ 255 ∷ 255 ∷ 0 ∷ 0 ∷ 0 ∷ 0 ∷ [];
      number = 0;
      value = 143;
    }
    -- level 9, at the region
    ∷ record {
      pack = 1 ∷ 0 ∷ 1 ∷ 77 ∷ 0 ∷ 0 ∷ 0 ∷ 0 ∷ 1 ∷ 0 ∷ 0 ∷ 0 ∷ 255 ∷ 255 ∷ 0 ∷ 0 ∷ 0 ∷ 0 ∷ 0 ∷ 0 ∷ 0 ∷ 0 ∷ 1 ∷ 0 ∷ 0 ∷ 0 ∷ 0 ∷ 0 ∷ 0 ∷ 0
          ∷ 1 ∷ 0 ∷ 0 ∷ 0 ∷ 0 ∷ 1 ∷ 0 ∷ 0 ∷ 0 ∷ 0 ∷ 0 ∷ 0 ∷ 0 ∷ 1 ∷ 0 ∷ 0 ∷ 0 ∷ 0 ∷ 1 ∷ 0 ∷ 0 ∷ 0 ∷ 0 ∷ 0 ∷ 0 ∷ 0 ∷ 1 ∷ 0 ∷ 0 ∷ 0
          ∷ 0 ∷ 1 ∷ 0 ∷ 0 ∷ 0 ∷ 0 ∷ 0 ∷ 0 ∷ 0 ∷ 1 ∷ 0 ∷ 0 ∷ 0 ∷ 0 ∷ 1 ∷ 0 ∷ 0 ∷ 0 ∷ 0 ∷ 0 ∷ 0 ∷ 0 ∷ 1 ∷ 0 ∷ 0 ∷ 0 ∷ 0 ∷ 1 ∷ 0 ∷ 0
          ∷ 0 ∷ 0 ∷ 0 ∷ 0 ∷ 0 ∷ 1 ∷ 0 ∷ 0 ∷ 0 ∷ 0 ∷ 1 ∷ 0 ∷ 0 ∷ 0 ∷ 0 ∷ 0 ∷ 0 ∷ 0 ∷ 1 ∷ 0 ∷ 0 ∷ 0 ∷ 0 ∷ 1 ∷ 0 ∷ 0 ∷ 0 ∷ 0 ∷ 0 ∷ 0
          ∷ 0 ∷ 1 ∷ 0 ∷ 0 ∷ 0 ∷ 0 ∷ 1 ∷ 0 ∷ 0 ∷ 0 ∷ 0 ∷ 0 ∷ 0 ∷ 0 ∷ 0 ∷ 0 ∷ 255 ∷ 255 ∷ 255 ∷ 255 ∷ 255 ∷ 255 ∷ 255 ∷ 255 ∷ 255 ∷ 255 ∷ 255 ∷ 255 ∷ 255 ∷ 255
          ∷ 255 ∷ 255 ∷ 255 ∷ 255 ∷ 0 ∷ 0 ∷ 0 ∷ 0 ∷ [];
      number = 4;
      value = 123;
    }
    -- level 9 where the pack ends
    ∷ record {
      pack = 1 ∷ 0 ∷ 1 ∷ 77 ∷ 0 ∷ 0 ∷ 0 ∷ 0 ∷ 1 ∷ 0 ∷ 0 ∷ 0 ∷ 255 ∷ 255 ∷ 0 ∷ 0 ∷ 0 ∷ 0 ∷ 0 ∷ 0 ∷ 0 ∷ 0 ∷ 1 ∷ 0 ∷ 0 ∷ 0 ∷ 0 ∷ 0 ∷ 0 ∷ 0
          ∷ 1 ∷ 0 ∷ 0 ∷ 0 ∷ 0 ∷ 1 ∷ 0 ∷ 0 ∷ 0 ∷ 0 ∷ 0 ∷ 0 ∷ 0 ∷ 1 ∷ 0 ∷ 0 ∷ 0 ∷ 0 ∷ 1 ∷ 0 ∷ 0 ∷ 0 ∷ 0 ∷ 0 ∷ 0 ∷ 0 ∷ 1 ∷ 0 ∷ 0 ∷ 0
          ∷ 0 ∷ 1 ∷ 0 ∷ 0 ∷ 0 ∷ 0 ∷ 0 ∷ 0 ∷ 0 ∷ 1 ∷ 0 ∷ 0 ∷ 0 ∷ 0 ∷ 1 ∷ 0 ∷ 0 ∷ 0 ∷ 0 ∷ 0 ∷ 0 ∷ 0 ∷ 1 ∷ 0 ∷ 0 ∷ 0 ∷ 0 ∷ 1 ∷ 0 ∷ 0
          ∷ 0 ∷ 0 ∷ 0 ∷ 0 ∷ 0 ∷ 1 ∷ 0 ∷ 0 ∷ 0 ∷ 0 ∷ 1 ∷ 0 ∷ 0 ∷ 0 ∷ 0 ∷ 0 ∷ 0 ∷ 0 ∷ 1 ∷ 0 ∷ 0 ∷ 0 ∷ 0 ∷ 1 ∷ 0 ∷ 0 ∷ 0 ∷ 0 ∷ 0 ∷ 0
          ∷ 0 ∷ 1 ∷ 0 ∷ [];
      number = 4;
      value = 123;
    }
    -- level 9 cut in the count of regions before it
    ∷ record {
      pack = 1 ∷ 0 ∷ 1 ∷ 77 ∷ 0 ∷ 0 ∷ 0 ∷ 0 ∷ 1 ∷ 0 ∷ 0 ∷ 0 ∷ 255 ∷ 255 ∷ 0 ∷ 0 ∷ 0 ∷ 0 ∷ 0 ∷ 0 ∷ 0 ∷ 0 ∷ 1 ∷ 0 ∷ 0 ∷ 0 ∷ 0 ∷ 0 ∷ 0 ∷ 0
          ∷ 1 ∷ 0 ∷ 0 ∷ 0 ∷ 0 ∷ 1 ∷ 0 ∷ 0 ∷ 0 ∷ 0 ∷ 0 ∷ 0 ∷ 0 ∷ 1 ∷ 0 ∷ 0 ∷ 0 ∷ 0 ∷ 1 ∷ 0 ∷ 0 ∷ 0 ∷ 0 ∷ 0 ∷ 0 ∷ 0 ∷ 1 ∷ 0 ∷ 0 ∷ 0
          ∷ 0 ∷ 1 ∷ 0 ∷ 0 ∷ 0 ∷ 0 ∷ 0 ∷ 0 ∷ 0 ∷ 1 ∷ 0 ∷ 0 ∷ 0 ∷ 0 ∷ 1 ∷ 0 ∷ 0 ∷ 0 ∷ 0 ∷ 0 ∷ 0 ∷ 0 ∷ 1 ∷ 0 ∷ 0 ∷ 0 ∷ 0 ∷ 1 ∷ 0 ∷ 0
          ∷ 0 ∷ 0 ∷ 0 ∷ 0 ∷ 0 ∷ 1 ∷ 0 ∷ 0 ∷ 0 ∷ 0 ∷ 1 ∷ 0 ∷ 0 ∷ 0 ∷ 0 ∷ 0 ∷ 0 ∷ 0 ∷ 1 ∷ 0 ∷ 0 ∷ 0 ∷ 0 ∷ 1 ∷ 0 ∷ 0 ∷ 0 ∷ 0 ∷ 0 ∷ 0
          ∷ 0 ∷ 1 ∷ [];
      number = 2;
      value = 122;
    }
    -- level 9 before its illegal bytes
    ∷ record {
      pack = 1 ∷ 0 ∷ 1 ∷ 77 ∷ 0 ∷ 0 ∷ 0 ∷ 0 ∷ 1 ∷ 0 ∷ 0 ∷ 0 ∷ 255 ∷ 255 ∷ 0 ∷ 0 ∷ 0 ∷ 0 ∷ 0 ∷ 0 ∷ 0 ∷ 0 ∷ 1 ∷ 0 ∷ 0 ∷ 0 ∷ 0 ∷ 0 ∷ 0 ∷ 0
          ∷ 1 ∷ 0 ∷ 0 ∷ 0 ∷ 0 ∷ 1 ∷ 0 ∷ 0 ∷ 0 ∷ 0 ∷ 0 ∷ 0 ∷ 0 ∷ 1 ∷ 0 ∷ 0 ∷ 0 ∷ 0 ∷ 1 ∷ 0 ∷ 0 ∷ 0 ∷ 0 ∷ 0 ∷ 0 ∷ 0 ∷ 1 ∷ 0 ∷ 0 ∷ 0
          ∷ 0 ∷ 1 ∷ 0 ∷ 0 ∷ 0 ∷ 0 ∷ 0 ∷ 0 ∷ 0 ∷ 1 ∷ 0 ∷ 0 ∷ 0 ∷ 0 ∷ 1 ∷ 0 ∷ 0 ∷ 0 ∷ 0 ∷ 0 ∷ 0 ∷ 0 ∷ 1 ∷ 0 ∷ 0 ∷ 0 ∷ 0 ∷ 1 ∷ 0 ∷ 0
          ∷ 0 ∷ 0 ∷ 0 ∷ 0 ∷ 0 ∷ 1 ∷ 0 ∷ 0 ∷ 0 ∷ 0 ∷ 1 ∷ 0 ∷ 0 ∷ 0 ∷ 0 ∷ 0 ∷ 0 ∷ 0 ∷ 1 ∷ 0 ∷ 0 ∷ 0 ∷ 0 ∷ 1 ∷ 0 ∷ 0 ∷ 0 ∷ 0 ∷ 0 ∷ 0
          ∷ 0 ∷ 1 ∷ 0 ∷ 255 ∷ 255 ∷ 255 ∷ 1 ∷ 0 ∷ 0 ∷ 0 ∷ 0 ∷ 0 ∷ 0 ∷ 0 ∷ 0 ∷ 0 ∷ 255 ∷ 255 ∷ 255 ∷ 255 ∷ 255 ∷ 255 ∷ 255 ∷ 255 ∷ 255 ∷ 255 ∷ 255 ∷ 255 ∷ 255 ∷ 255
          ∷ 255 ∷ 255 ∷ 255 ∷ 255 ∷ 0 ∷ 0 ∷ 0 ∷ 0 ∷ [];
      number = 4;
      value = 123;
    }
    ∷ []

-- packs that end early
unfoldable pub cuts : List Cuts
cuts =
    -- machine M
    --   initial S
    --   state S
    record {
      pack =
          2 ∷ 0 ∷ 1 ∷ 77 ∷ 1 ∷ 83 ∷ 0 ∷ 0 ∷ 0 ∷ 0 ∷ 1 ∷ 0 ∷ 0 ∷ 0 ∷ 255 ∷ 255 ∷ 0 ∷ 0 ∷ 0 ∷ 0 ∷ 0 ∷ 0 ∷ 1 ∷ 0 ∷ 1 ∷ 0 ∷ 1 ∷ 0 ∷ 0 ∷ 0
          ∷ 0 ∷ 0 ∷ 0 ∷ 0 ∷ 255 ∷ 255 ∷ 0 ∷ 0 ∷ 0 ∷ 0 ∷ [];
      outcomes =
          answers 2 0 ∷ answers 2 1 ∷ answers 2 2 ∷ answers 2 3 ∷ answers 2 4 ∷ answers 2 5 ∷ answers 2 6 ∷ answers 2 7 ∷ answers 2 8 ∷ answers 2 9
          ∷ answers 2 10 ∷ answers 2 11 ∷ answers 2 12 ∷ answers 2 13 ∷ answers 2 14 ∷ answers 2 15 ∷ answers 2 16 ∷ answers 2 17 ∷ answers 2 18 ∷ answers 2 19
          ∷ answers 2 20 ∷ answers 2 21 ∷ answers 2 22 ∷ answers 2 23 ∷ answers 2 24 ∷ answers 2 25 ∷ answers 2 26 ∷ answers 2 27 ∷ answers 2 28 ∷ answers 2 29
          ∷ answers 2 30 ∷ answers 2 31 ∷ answers 2 32 ∷ answers 2 33 ∷ answers 2 34 ∷ answers 2 35 ∷ answers 2 36 ∷ answers 2 37 ∷ answers 2 38 ∷ answers 2 39
          ∷ [];
    }
    -- operator N
    --   input N: char^2
    --   N = -1
    ∷ record {
      pack =
          1 ∷ 0 ∷ 1 ∷ 78 ∷ 0 ∷ 0 ∷ 1 ∷ 0 ∷ 0 ∷ 0 ∷ 1 ∷ 1 ∷ 0 ∷ 0 ∷ 0 ∷ 12 ∷ 2 ∷ 0 ∷ 0 ∷ 0 ∷ 11 ∷ 0 ∷ 0 ∷ 0 ∷ 0 ∷ 1 ∷ 0 ∷ 1 ∷ 0 ∷ 0
          ∷ 0 ∷ 0 ∷ 1 ∷ 255 ∷ 255 ∷ 255 ∷ 255 ∷ 255 ∷ 255 ∷ 255 ∷ 255 ∷ 0 ∷ 0 ∷ 0 ∷ 0 ∷ 0 ∷ 0 ∷ [];
      outcomes =
          answers 2 0 ∷ answers 2 1 ∷ answers 2 2 ∷ answers 2 3 ∷ answers 2 4 ∷ answers 2 5 ∷ answers 2 6 ∷ answers 2 7 ∷ answers 2 8 ∷ answers 2 9
          ∷ answers 2 10 ∷ answers 2 11 ∷ answers 2 12 ∷ answers 2 13 ∷ answers 2 14 ∷ answers 2 15 ∷ answers 2 16 ∷ answers 2 17 ∷ answers 2 18 ∷ answers 2 19
          ∷ answers 2 20 ∷ answers 2 21 ∷ answers 2 22 ∷ answers 2 23 ∷ answers 2 24 ∷ answers 2 25 ∷ answers 2 26 ∷ answers 2 27 ∷ answers 2 28 ∷ answers 2 29
          ∷ answers 2 30 ∷ answers 2 31 ∷ answers 2 32 ∷ answers 2 33 ∷ answers 2 34 ∷ answers 2 35 ∷ answers 2 36 ∷ answers 2 37 ∷ answers 2 38 ∷ answers 2 39
          ∷ answers 2 40 ∷ answers 2 41 ∷ answers 2 42 ∷ answers 2 43 ∷ answers 2 44 ∷ answers 2 45 ∷ answers 2 46 ∷ [];
    }
    ∷ []

-- packs of charts, which read as they were drawn, and changes of theirs
unfoldable pub charts : List Chart
charts =
    -- nothing
    record {
      contents = record {
        names = [];
        enums = [];
        nodes = [];
        machines = [];
        activations = [];
        origins = [];
      };
      pack =
          0 ∷ 0 ∷ 0 ∷ 0 ∷ 0 ∷ 0 ∷ 0 ∷ 0 ∷ 0 ∷ 0 ∷ 0 ∷ 0 ∷ [];
      changes = [];
    }
    -- enum E: A, B
    -- function F
    --   input a: bool, a: int8, a: int16, a: int32, a: int64, a: uint8, a: uint16, a: uint32, a: uint64
    --   output a: float32, a: float64, a: char
    --   local b: E^0^4294967294, a: E
    -- operator A
    -- imported B
    ∷ record {
      contents = record {
        names = E ∷ A ∷ B ∷ F ∷ a ∷ b ∷ [];
        enums =
            record { name = E; variants = A ∷ B ∷ [] }
            ∷ [];
        nodes =
            record { name = F; kind = k_function; inputs = record { name = a; ty = t_bool } ∷ record { name = a; ty = t_int8 } ∷ record { name = a; ty = t_int16 } ∷ record { name = a; ty = t_int32 } ∷ record { name = a; ty = t_int64 } ∷ record { name = a; ty = t_uint8 } ∷ record { name = a; ty = t_uint16 } ∷ record { name = a; ty = t_uint32 } ∷ record { name = a; ty = t_uint64 } ∷ []; outputs = record { name = a; ty = t_float32 } ∷ record { name = a; ty = t_float64 } ∷ record { name = a; ty = t_char } ∷ []; locals = record { name = b; ty = t_array 4294967294 (t_array 0 (t_named E)) } ∷ record { name = a; ty = t_named E } ∷ []; equations = [] }
            ∷ record { name = A; kind = k_operator; inputs = []; outputs = []; locals = []; equations = [] }
            ∷ record { name = B; kind = k_imported; inputs = []; outputs = []; locals = []; equations = [] }
            ∷ [];
        machines = [];
        activations = [];
        origins = [];
      };
      pack =
          6 ∷ 0 ∷ 1 ∷ 69 ∷ 1 ∷ 65 ∷ 1 ∷ 66 ∷ 1 ∷ 70 ∷ 1 ∷ 97 ∷ 1 ∷ 98 ∷ 1 ∷ 0 ∷ 0 ∷ 0 ∷ 2 ∷ 0 ∷ 1 ∷ 0 ∷ 2 ∷ 0 ∷ 3 ∷ 0 ∷ 3 ∷ 0 ∷ 0 ∷ 9
          ∷ 0 ∷ 4 ∷ 0 ∷ 0 ∷ 4 ∷ 0 ∷ 1 ∷ 4 ∷ 0 ∷ 2 ∷ 4 ∷ 0 ∷ 3 ∷ 4 ∷ 0 ∷ 4 ∷ 4 ∷ 0 ∷ 5 ∷ 4 ∷ 0 ∷ 6 ∷ 4 ∷ 0 ∷ 7 ∷ 4 ∷ 0 ∷ 8 ∷ 3 ∷ 0
          ∷ 4 ∷ 0 ∷ 9 ∷ 4 ∷ 0 ∷ 10 ∷ 4 ∷ 0 ∷ 11 ∷ 2 ∷ 0 ∷ 5 ∷ 0 ∷ 12 ∷ 254 ∷ 255 ∷ 255 ∷ 255 ∷ 12 ∷ 0 ∷ 0 ∷ 0 ∷ 0 ∷ 13 ∷ 0 ∷ 0 ∷ 4 ∷ 0 ∷ 13 ∷ 0
          ∷ 0 ∷ 0 ∷ 0 ∷ 1 ∷ 0 ∷ 1 ∷ 0 ∷ 0 ∷ 0 ∷ 0 ∷ 0 ∷ 0 ∷ 0 ∷ 0 ∷ 2 ∷ 0 ∷ 2 ∷ 0 ∷ 0 ∷ 0 ∷ 0 ∷ 0 ∷ 0 ∷ 0 ∷ 0 ∷ 0 ∷ 0 ∷ 0 ∷ 0 ∷ 0
          ∷ 0 ∷ [];
      changes =
          -- enum name
          record { at = 16; bytes = 6 ∷ 0 ∷ []; number = 3; value = 16 }
          -- variant
          ∷ record { at = 20; bytes = 6 ∷ 0 ∷ []; number = 3; value = 20 }
          -- node name
          ∷ record { at = 26; bytes = 6 ∷ 0 ∷ []; number = 3; value = 26 }
          -- node kind
          ∷ record { at = 28; bytes = 3 ∷ []; number = 3; value = 28 }
          -- port name
          ∷ record { at = 31; bytes = 6 ∷ 0 ∷ []; number = 3; value = 31 }
          -- type
          ∷ record { at = 33; bytes = 14 ∷ []; number = 3; value = 33 }
          -- type name
          ∷ record { at = 84; bytes = 6 ∷ 0 ∷ []; number = 3; value = 84 }
          ∷ [];
    }
    -- operator N
    --   v, w = (if c then v else w, pre v -> w)
    --   () = [N(v, w), N(), v.w, v[w]]
    --   v = R{w: v, c: w}
    --   v = (v when c) :> int16^3
    --   v = merge(c, v when not c, w)
    --   v = (map<F>(v, w), fold<F>(c; v))
    ∷ record {
      contents = record {
        names = N ∷ v ∷ w ∷ c ∷ R ∷ F ∷ [];
        enums = [];
        nodes =
            record { name = N; kind = k_operator; inputs = []; outputs = []; locals = []; equations = record { lhs = v ∷ w ∷ []; rhs = e_tuple (x_cons (e_if (e_var c) (e_var v) (e_var w)) (x_cons (e_arrow (e_pre (e_var v)) (e_var w)) x_nil)) } ∷ record { lhs = []; rhs = e_array (x_cons (e_call N (x_cons (e_var v) (x_cons (e_var w) x_nil))) (x_cons (e_call N x_nil) (x_cons (e_field (e_var v) w) (x_cons (e_index (e_var v) (e_var w)) x_nil)))) } ∷ record { lhs = v ∷ []; rhs = e_struct R (w ∷ c ∷ []) (x_cons (e_var v) (x_cons (e_var w) x_nil)) } ∷ record { lhs = v ∷ []; rhs = e_cast (t_array 3 t_int16) (e_when (e_var v) c true) } ∷ record { lhs = v ∷ []; rhs = e_merge c (e_when (e_var v) c false) (e_var w) } ∷ record { lhs = v ∷ []; rhs = e_tuple (x_cons (e_iterate i_map F false (x_cons (e_var v) (x_cons (e_var w) x_nil))) (x_cons (e_iterate i_fold F true (x_cons (e_var c) (x_cons (e_var v) x_nil))) x_nil)) } ∷ [] }
            ∷ [];
        machines = [];
        activations = [];
        origins = [];
      };
      pack =
          6 ∷ 0 ∷ 1 ∷ 78 ∷ 1 ∷ 118 ∷ 1 ∷ 119 ∷ 1 ∷ 99 ∷ 1 ∷ 82 ∷ 1 ∷ 70 ∷ 0 ∷ 0 ∷ 1 ∷ 0 ∷ 0 ∷ 0 ∷ 1 ∷ 0 ∷ 0 ∷ 0 ∷ 0 ∷ 0 ∷ 0 ∷ 6 ∷ 0 ∷ 2
          ∷ 0 ∷ 1 ∷ 0 ∷ 2 ∷ 0 ∷ 10 ∷ 2 ∷ 0 ∷ 4 ∷ 1 ∷ 3 ∷ 0 ∷ 1 ∷ 1 ∷ 0 ∷ 1 ∷ 2 ∷ 0 ∷ 6 ∷ 5 ∷ 1 ∷ 1 ∷ 0 ∷ 1 ∷ 2 ∷ 0 ∷ 0 ∷ 0 ∷ 11 ∷ 4
          ∷ 0 ∷ 7 ∷ 0 ∷ 0 ∷ 2 ∷ 0 ∷ 1 ∷ 1 ∷ 0 ∷ 1 ∷ 2 ∷ 0 ∷ 7 ∷ 0 ∷ 0 ∷ 0 ∷ 0 ∷ 8 ∷ 2 ∷ 0 ∷ 1 ∷ 1 ∷ 0 ∷ 9 ∷ 1 ∷ 1 ∷ 0 ∷ 1 ∷ 2 ∷ 0
          ∷ 1 ∷ 0 ∷ 1 ∷ 0 ∷ 12 ∷ 4 ∷ 0 ∷ 2 ∷ 0 ∷ 2 ∷ 0 ∷ 3 ∷ 0 ∷ 1 ∷ 1 ∷ 0 ∷ 1 ∷ 2 ∷ 0 ∷ 1 ∷ 0 ∷ 1 ∷ 0 ∷ 13 ∷ 12 ∷ 3 ∷ 0 ∷ 0 ∷ 0 ∷ 2
          ∷ 14 ∷ 3 ∷ 0 ∷ 1 ∷ 1 ∷ 1 ∷ 0 ∷ 1 ∷ 0 ∷ 1 ∷ 0 ∷ 15 ∷ 3 ∷ 0 ∷ 14 ∷ 3 ∷ 0 ∷ 0 ∷ 1 ∷ 1 ∷ 0 ∷ 1 ∷ 2 ∷ 0 ∷ 1 ∷ 0 ∷ 1 ∷ 0 ∷ 10 ∷ 2
          ∷ 0 ∷ 16 ∷ 0 ∷ 5 ∷ 0 ∷ 0 ∷ 2 ∷ 0 ∷ 1 ∷ 1 ∷ 0 ∷ 1 ∷ 2 ∷ 0 ∷ 16 ∷ 1 ∷ 5 ∷ 0 ∷ 1 ∷ 1 ∷ 0 ∷ 1 ∷ 3 ∷ 0 ∷ 1 ∷ 1 ∷ 0 ∷ 0 ∷ 0 ∷ 0
          ∷ 0 ∷ 0 ∷ 0 ∷ [];
      changes =
          -- node name
          record { at = 18; bytes = 6 ∷ 0 ∷ []; number = 3; value = 18 }
          -- node kind
          ∷ record { at = 20; bytes = 3 ∷ []; number = 3; value = 20 }
          -- left name
          ∷ record { at = 31; bytes = 6 ∷ 0 ∷ []; number = 3; value = 31 }
          -- tag
          ∷ record { at = 35; bytes = 17 ∷ []; number = 3; value = 35 }
          -- variable
          ∷ record { at = 40; bytes = 6 ∷ 0 ∷ []; number = 3; value = 40 }
          -- called node
          ∷ record { at = 62; bytes = 6 ∷ 0 ∷ []; number = 3; value = 62 }
          -- field
          ∷ record { at = 78; bytes = 6 ∷ 0 ∷ []; number = 3; value = 78 }
          -- struct type
          ∷ record { at = 95; bytes = 6 ∷ 0 ∷ []; number = 3; value = 95 }
          -- struct field
          ∷ record { at = 99; bytes = 6 ∷ 0 ∷ []; number = 3; value = 99 }
          -- type
          ∷ record { at = 114; bytes = 14 ∷ []; number = 3; value = 114 }
          -- clock
          ∷ record { at = 121; bytes = 6 ∷ 0 ∷ []; number = 3; value = 121 }
          -- clock flag
          ∷ record { at = 123; bytes = 2 ∷ []; number = 3; value = 123 }
          -- clock
          ∷ record { at = 132; bytes = 6 ∷ 0 ∷ []; number = 3; value = 132 }
          -- iterate kind
          ∷ record { at = 152; bytes = 2 ∷ []; number = 3; value = 152 }
          -- iterate node
          ∷ record { at = 153; bytes = 6 ∷ 0 ∷ []; number = 3; value = 153 }
          -- iterate flag
          ∷ record { at = 155; bytes = 2 ∷ []; number = 3; value = 155 }
          ∷ [];
    }
    -- operator N
    --   () = [true, false, 258, -2, 0.5, 'a', '\xff', not v, - v]
    --   () = v and (v or (v xor (v => (v = (v <> (v < (v <= (v > (v >= (v + (v - (v * (v / (v mod (v land (v lor
    --     (v lxor (v lsl (v lsr w)))))))))))))))))))
    ∷ record {
      contents = record {
        names = N ∷ v ∷ w ∷ [];
        enums = [];
        nodes =
            record { name = N; kind = k_operator; inputs = []; outputs = []; locals = []; equations = record { lhs = []; rhs = e_array (x_cons (e_const (l_bool true)) (x_cons (e_const (l_bool false)) (x_cons (e_const (l_int 258)) (x_cons (e_const (l_int 18446744073709551614)) (x_cons (e_const (l_float 4602678819172646912)) (x_cons (e_const (l_char 97)) (x_cons (e_const (l_char 255)) (x_cons (e_unary o_not (e_var v)) (x_cons (e_unary o_neg (e_var v)) x_nil))))))))) } ∷ record { lhs = []; rhs = e_binary o_and (e_var v) (e_binary o_or (e_var v) (e_binary o_xor (e_var v) (e_binary o_implies (e_var v) (e_binary o_eq (e_var v) (e_binary o_neq (e_var v) (e_binary o_lt (e_var v) (e_binary o_le (e_var v) (e_binary o_gt (e_var v) (e_binary o_ge (e_var v) (e_binary o_add (e_var v) (e_binary o_sub (e_var v) (e_binary o_mul (e_var v) (e_binary o_div (e_var v) (e_binary o_mod (e_var v) (e_binary o_bit_and (e_var v) (e_binary o_bit_or (e_var v) (e_binary o_bit_xor (e_var v) (e_binary o_shl (e_var v) (e_binary o_shr (e_var v) (e_var w)))))))))))))))))))) } ∷ [] }
            ∷ [];
        machines = [];
        activations = [];
        origins = [];
      };
      pack =
          3 ∷ 0 ∷ 1 ∷ 78 ∷ 1 ∷ 118 ∷ 1 ∷ 119 ∷ 0 ∷ 0 ∷ 1 ∷ 0 ∷ 0 ∷ 0 ∷ 1 ∷ 0 ∷ 0 ∷ 0 ∷ 0 ∷ 0 ∷ 0 ∷ 2 ∷ 0 ∷ 0 ∷ 0 ∷ 11 ∷ 9 ∷ 0 ∷ 0 ∷ 0
          ∷ 1 ∷ 0 ∷ 0 ∷ 0 ∷ 0 ∷ 1 ∷ 2 ∷ 1 ∷ 0 ∷ 0 ∷ 0 ∷ 0 ∷ 0 ∷ 0 ∷ 0 ∷ 1 ∷ 254 ∷ 255 ∷ 255 ∷ 255 ∷ 255 ∷ 255 ∷ 255 ∷ 255 ∷ 0 ∷ 2 ∷ 0 ∷ 0 ∷ 0 ∷ 0
          ∷ 0 ∷ 0 ∷ 224 ∷ 63 ∷ 0 ∷ 3 ∷ 97 ∷ 0 ∷ 3 ∷ 255 ∷ 2 ∷ 0 ∷ 1 ∷ 1 ∷ 0 ∷ 2 ∷ 1 ∷ 1 ∷ 1 ∷ 0 ∷ 0 ∷ 0 ∷ 3 ∷ 0 ∷ 1 ∷ 1 ∷ 0 ∷ 3 ∷ 1 ∷ 1
          ∷ 1 ∷ 0 ∷ 3 ∷ 2 ∷ 1 ∷ 1 ∷ 0 ∷ 3 ∷ 3 ∷ 1 ∷ 1 ∷ 0 ∷ 3 ∷ 4 ∷ 1 ∷ 1 ∷ 0 ∷ 3 ∷ 5 ∷ 1 ∷ 1 ∷ 0 ∷ 3 ∷ 6 ∷ 1 ∷ 1 ∷ 0 ∷ 3 ∷ 7 ∷ 1
          ∷ 1 ∷ 0 ∷ 3 ∷ 8 ∷ 1 ∷ 1 ∷ 0 ∷ 3 ∷ 9 ∷ 1 ∷ 1 ∷ 0 ∷ 3 ∷ 10 ∷ 1 ∷ 1 ∷ 0 ∷ 3 ∷ 11 ∷ 1 ∷ 1 ∷ 0 ∷ 3 ∷ 12 ∷ 1 ∷ 1 ∷ 0 ∷ 3 ∷ 13 ∷ 1
          ∷ 1 ∷ 0 ∷ 3 ∷ 14 ∷ 1 ∷ 1 ∷ 0 ∷ 3 ∷ 15 ∷ 1 ∷ 1 ∷ 0 ∷ 3 ∷ 16 ∷ 1 ∷ 1 ∷ 0 ∷ 3 ∷ 17 ∷ 1 ∷ 1 ∷ 0 ∷ 3 ∷ 18 ∷ 1 ∷ 1 ∷ 0 ∷ 3 ∷ 19 ∷ 1
          ∷ 1 ∷ 0 ∷ 1 ∷ 2 ∷ 0 ∷ 0 ∷ 0 ∷ 0 ∷ 0 ∷ 0 ∷ 0 ∷ [];
      changes =
          -- node name
          record { at = 12; bytes = 3 ∷ 0 ∷ []; number = 3; value = 12 }
          -- node kind
          ∷ record { at = 14; bytes = 3 ∷ []; number = 3; value = 14 }
          -- tag
          ∷ record { at = 25; bytes = 17 ∷ []; number = 3; value = 25 }
          -- literal
          ∷ record { at = 29; bytes = 4 ∷ []; number = 3; value = 29 }
          -- bool
          ∷ record { at = 30; bytes = 2 ∷ []; number = 3; value = 30 }
          -- unary operator
          ∷ record { at = 71; bytes = 2 ∷ []; number = 3; value = 71 }
          -- variable
          ∷ record { at = 73; bytes = 3 ∷ 0 ∷ []; number = 3; value = 73 }
          -- binary operator
          ∷ record { at = 83; bytes = 20 ∷ []; number = 3; value = 83 }
          ∷ [];
    }
    -- machine M in N
    --   input v: bool
    --   output o: bool, p: int8
    --   local l: char
    --   initial S
    --   state S
    --     o, p = v
    --     () = o
    --     until v then T
    --     until o then S
    --     region history
    --       initial A
    --       state A
    --         region
    --           initial B
    --       state B
    --     region
    --       initial T
    --     refines M
    --   state T
    -- machine N
    --   initial S
    ∷ record {
      contents = record {
        names = M ∷ N ∷ v ∷ o ∷ p ∷ l ∷ S ∷ T ∷ A ∷ B ∷ [];
        enums = [];
        nodes = [];
        machines =
            record { name = M; owner = some N; inputs = record { name = v; ty = t_bool } ∷ []; outputs = record { name = o; ty = t_bool } ∷ record { name = p; ty = t_int8 } ∷ []; locals = record { name = l; ty = t_char } ∷ []; initial = S; states = def_cons S (record { lhs = o ∷ p ∷ []; rhs = e_var v } ∷ record { lhs = []; rhs = e_var o } ∷ []) (record { guard = e_var v; target = T } ∷ record { guard = e_var o; target = S } ∷ []) (reg_cons A true (def_cons A [] [] (reg_cons B false def_nil reg_nil) none (def_cons B [] [] reg_nil none def_nil)) (reg_cons T false def_nil reg_nil)) (some M) (def_cons T [] [] reg_nil none def_nil) }
            ∷ record { name = N; owner = none; inputs = []; outputs = []; locals = []; initial = S; states = def_nil }
            ∷ [];
        activations = [];
        origins = [];
      };
      pack =
          10 ∷ 0 ∷ 1 ∷ 77 ∷ 1 ∷ 78 ∷ 1 ∷ 118 ∷ 1 ∷ 111 ∷ 1 ∷ 112 ∷ 1 ∷ 108 ∷ 1 ∷ 83 ∷ 1 ∷ 84 ∷ 1 ∷ 65 ∷ 1 ∷ 66 ∷ 0 ∷ 0 ∷ 0 ∷ 0 ∷ 2 ∷ 0 ∷ 0 ∷ 0
          ∷ 1 ∷ 0 ∷ 1 ∷ 0 ∷ 2 ∷ 0 ∷ 0 ∷ 2 ∷ 0 ∷ 3 ∷ 0 ∷ 0 ∷ 4 ∷ 0 ∷ 1 ∷ 1 ∷ 0 ∷ 5 ∷ 0 ∷ 11 ∷ 6 ∷ 0 ∷ 2 ∷ 0 ∷ 6 ∷ 0 ∷ 2 ∷ 0 ∷ 2 ∷ 0
          ∷ 3 ∷ 0 ∷ 4 ∷ 0 ∷ 1 ∷ 2 ∷ 0 ∷ 0 ∷ 0 ∷ 1 ∷ 3 ∷ 0 ∷ 2 ∷ 0 ∷ 1 ∷ 2 ∷ 0 ∷ 7 ∷ 0 ∷ 1 ∷ 3 ∷ 0 ∷ 6 ∷ 0 ∷ 2 ∷ 0 ∷ 8 ∷ 0 ∷ 1 ∷ 2
          ∷ 0 ∷ 8 ∷ 0 ∷ 0 ∷ 0 ∷ 0 ∷ 0 ∷ 1 ∷ 0 ∷ 9 ∷ 0 ∷ 0 ∷ 0 ∷ 0 ∷ 255 ∷ 255 ∷ 9 ∷ 0 ∷ 0 ∷ 0 ∷ 0 ∷ 0 ∷ 0 ∷ 0 ∷ 255 ∷ 255 ∷ 7 ∷ 0 ∷ 0 ∷ 0
          ∷ 0 ∷ 0 ∷ 0 ∷ 7 ∷ 0 ∷ 0 ∷ 0 ∷ 0 ∷ 0 ∷ 0 ∷ 0 ∷ 255 ∷ 255 ∷ 1 ∷ 0 ∷ 255 ∷ 255 ∷ 0 ∷ 0 ∷ 0 ∷ 0 ∷ 0 ∷ 0 ∷ 6 ∷ 0 ∷ 0 ∷ 0 ∷ 0 ∷ 0 ∷ 0
          ∷ 0 ∷ [];
      changes =
          -- machine name
          record { at = 28; bytes = 10 ∷ 0 ∷ []; number = 3; value = 28 }
          -- machine owner
          ∷ record { at = 30; bytes = 10 ∷ 0 ∷ []; number = 3; value = 30 }
          -- port name
          ∷ record { at = 34; bytes = 10 ∷ 0 ∷ []; number = 3; value = 34 }
          -- type
          ∷ record { at = 36; bytes = 14 ∷ []; number = 3; value = 36 }
          -- machine initial
          ∷ record { at = 50; bytes = 10 ∷ 0 ∷ []; number = 3; value = 50 }
          -- state name
          ∷ record { at = 54; bytes = 10 ∷ 0 ∷ []; number = 3; value = 54 }
          -- left name
          ∷ record { at = 60; bytes = 10 ∷ 0 ∷ []; number = 3; value = 60 }
          -- tag
          ∷ record { at = 64; bytes = 17 ∷ []; number = 3; value = 64 }
          -- variable
          ∷ record { at = 65; bytes = 10 ∷ 0 ∷ []; number = 3; value = 65 }
          -- target
          ∷ record { at = 77; bytes = 10 ∷ 0 ∷ []; number = 3; value = 77 }
          -- region initial
          ∷ record { at = 86; bytes = 10 ∷ 0 ∷ []; number = 3; value = 86 }
          -- history
          ∷ record { at = 88; bytes = 2 ∷ []; number = 3; value = 88 }
          -- refinement
          ∷ record { at = 104; bytes = 10 ∷ 0 ∷ []; number = 3; value = 104 }
          -- machine owner 65535
          ∷ record { at = 30; bytes = 255 ∷ 255 ∷ []; number = 0; value = 151 }
          -- machine owner 65534
          ∷ record { at = 30; bytes = 254 ∷ 255 ∷ []; number = 3; value = 30 }
          -- refinement 65535
          ∷ record { at = 104; bytes = 255 ∷ 255 ∷ []; number = 0; value = 151 }
          -- refinement 65534
          ∷ record { at = 104; bytes = 254 ∷ 255 ∷ []; number = 3; value = 104 }
          ∷ [];
    }
    -- activation A in N
    --   output o: bool, p: char
    --   branch B if v
    --     o = v
    --     p = o
    --   branch C if o
    --   else
    --     p = v
    -- activation C in B
    --   else
    -- origin machine M in N equations 258 until 65535
    -- origin activation A in N equations 1 until 0 branches B, C
    ∷ record {
      contents = record {
        names = A ∷ N ∷ o ∷ p ∷ B ∷ v ∷ C ∷ M ∷ [];
        enums = [];
        nodes = [];
        machines = [];
        activations =
            record { name = A; owner = N; outputs = record { name = o; ty = t_bool } ∷ record { name = p; ty = t_char } ∷ []; branches = record { name = B; condition = e_var v; equations = record { lhs = o ∷ []; rhs = e_var v } ∷ record { lhs = p ∷ []; rhs = e_var o } ∷ [] } ∷ record { name = C; condition = e_var o; equations = [] } ∷ []; else_equations = record { lhs = p ∷ []; rhs = e_var v } ∷ [] }
            ∷ record { name = C; owner = B; outputs = []; branches = []; else_equations = [] }
            ∷ [];
        origins =
            record { node = N; kind = of_machine; name = M; first = 258; after = 65535; branches = [] }
            ∷ record { node = N; kind = of_activation; name = A; first = 1; after = 0; branches = B ∷ C ∷ [] }
            ∷ [];
      };
      pack =
          8 ∷ 0 ∷ 1 ∷ 65 ∷ 1 ∷ 78 ∷ 1 ∷ 111 ∷ 1 ∷ 112 ∷ 1 ∷ 66 ∷ 1 ∷ 118 ∷ 1 ∷ 67 ∷ 1 ∷ 77 ∷ 0 ∷ 0 ∷ 0 ∷ 0 ∷ 0 ∷ 0 ∷ 2 ∷ 0 ∷ 0 ∷ 0 ∷ 1 ∷ 0
          ∷ 2 ∷ 0 ∷ 2 ∷ 0 ∷ 0 ∷ 3 ∷ 0 ∷ 11 ∷ 2 ∷ 0 ∷ 4 ∷ 0 ∷ 1 ∷ 5 ∷ 0 ∷ 2 ∷ 0 ∷ 1 ∷ 0 ∷ 2 ∷ 0 ∷ 1 ∷ 5 ∷ 0 ∷ 1 ∷ 0 ∷ 3 ∷ 0 ∷ 1 ∷ 2
          ∷ 0 ∷ 6 ∷ 0 ∷ 1 ∷ 2 ∷ 0 ∷ 0 ∷ 0 ∷ 1 ∷ 0 ∷ 1 ∷ 0 ∷ 3 ∷ 0 ∷ 1 ∷ 5 ∷ 0 ∷ 6 ∷ 0 ∷ 4 ∷ 0 ∷ 0 ∷ 0 ∷ 0 ∷ 0 ∷ 0 ∷ 0 ∷ 2 ∷ 0 ∷ 1
          ∷ 0 ∷ 0 ∷ 7 ∷ 0 ∷ 2 ∷ 1 ∷ 255 ∷ 255 ∷ 0 ∷ 0 ∷ 1 ∷ 0 ∷ 1 ∷ 0 ∷ 0 ∷ 1 ∷ 0 ∷ 0 ∷ 0 ∷ 2 ∷ 0 ∷ 4 ∷ 0 ∷ 6 ∷ 0 ∷ [];
      changes =
          -- activation name
          record { at = 26; bytes = 8 ∷ 0 ∷ []; number = 3; value = 26 }
          -- activation owner
          ∷ record { at = 28; bytes = 8 ∷ 0 ∷ []; number = 3; value = 28 }
          -- port name
          ∷ record { at = 32; bytes = 8 ∷ 0 ∷ []; number = 3; value = 32 }
          -- type
          ∷ record { at = 34; bytes = 14 ∷ []; number = 3; value = 34 }
          -- branch name
          ∷ record { at = 40; bytes = 8 ∷ 0 ∷ []; number = 3; value = 40 }
          -- tag
          ∷ record { at = 42; bytes = 17 ∷ []; number = 3; value = 42 }
          -- variable
          ∷ record { at = 43; bytes = 8 ∷ 0 ∷ []; number = 3; value = 43 }
          -- left name
          ∷ record { at = 49; bytes = 8 ∷ 0 ∷ []; number = 3; value = 49 }
          -- origin node
          ∷ record { at = 89; bytes = 8 ∷ 0 ∷ []; number = 3; value = 89 }
          -- origin kind
          ∷ record { at = 91; bytes = 2 ∷ []; number = 3; value = 91 }
          -- origin name
          ∷ record { at = 92; bytes = 8 ∷ 0 ∷ []; number = 3; value = 92 }
          -- origin branch
          ∷ record { at = 111; bytes = 8 ∷ 0 ∷ []; number = 3; value = 111 }
          -- activation owner 65535
          ∷ record { at = 28; bytes = 255 ∷ 255 ∷ []; number = 3; value = 28 }
          -- activation owner 65534
          ∷ record { at = 28; bytes = 254 ∷ 255 ∷ []; number = 3; value = 28 }
          ∷ [];
    }
    ∷ []

-- packages with new names
unfoldable pub additions : List Chart
additions =
    -- no old names
    -- enum E: A, B, E
    -- operator B
    --   A = C
    -- machine C in E
    --   initial D
    -- origin machine D in A equations 0 until 1 branches B, D
    record {
      contents = record {
        names = [];
        enums =
            record { name = E; variants = A ∷ B ∷ E ∷ [] }
            ∷ [];
        nodes =
            record { name = B; kind = k_operator; inputs = []; outputs = []; locals = []; equations = record { lhs = A ∷ []; rhs = e_var C } ∷ [] }
            ∷ [];
        machines =
            record { name = C; owner = some E; inputs = []; outputs = []; locals = []; initial = D; states = def_nil }
            ∷ [];
        activations = [];
        origins =
            record { node = A; kind = of_machine; name = D; first = 0; after = 1; branches = B ∷ D ∷ [] }
            ∷ [];
      };
      pack =
          5 ∷ 0 ∷ 1 ∷ 69 ∷ 1 ∷ 65 ∷ 1 ∷ 66 ∷ 1 ∷ 67 ∷ 1 ∷ 68 ∷ 1 ∷ 0 ∷ 0 ∷ 0 ∷ 3 ∷ 0 ∷ 1 ∷ 0 ∷ 2 ∷ 0 ∷ 0 ∷ 0 ∷ 1 ∷ 0 ∷ 2 ∷ 0 ∷ 1 ∷ 0
          ∷ 0 ∷ 0 ∷ 0 ∷ 0 ∷ 0 ∷ 1 ∷ 0 ∷ 1 ∷ 0 ∷ 1 ∷ 0 ∷ 1 ∷ 3 ∷ 0 ∷ 1 ∷ 0 ∷ 3 ∷ 0 ∷ 0 ∷ 0 ∷ 0 ∷ 0 ∷ 0 ∷ 0 ∷ 0 ∷ 0 ∷ 4 ∷ 0 ∷ 0 ∷ 0
          ∷ 0 ∷ 0 ∷ 1 ∷ 0 ∷ 1 ∷ 0 ∷ 0 ∷ 4 ∷ 0 ∷ 0 ∷ 0 ∷ 1 ∷ 0 ∷ 2 ∷ 0 ∷ 2 ∷ 0 ∷ 4 ∷ 0 ∷ [];
      changes = [];
    }
    -- D, Z and A are old names, and nothing uses Z
    -- enum E: A, B, E
    -- operator B
    --   A = C
    -- machine C in E
    --   initial D
    -- origin machine D in A equations 0 until 1 branches B, D
    ∷ record {
      contents = record {
        names = D ∷ Z ∷ A ∷ [];
        enums =
            record { name = E; variants = A ∷ B ∷ E ∷ [] }
            ∷ [];
        nodes =
            record { name = B; kind = k_operator; inputs = []; outputs = []; locals = []; equations = record { lhs = A ∷ []; rhs = e_var C } ∷ [] }
            ∷ [];
        machines =
            record { name = C; owner = some E; inputs = []; outputs = []; locals = []; initial = D; states = def_nil }
            ∷ [];
        activations = [];
        origins =
            record { node = A; kind = of_machine; name = D; first = 0; after = 1; branches = B ∷ D ∷ [] }
            ∷ [];
      };
      pack =
          6 ∷ 0 ∷ 1 ∷ 68 ∷ 1 ∷ 90 ∷ 1 ∷ 65 ∷ 1 ∷ 69 ∷ 1 ∷ 66 ∷ 1 ∷ 67 ∷ 1 ∷ 0 ∷ 3 ∷ 0 ∷ 3 ∷ 0 ∷ 2 ∷ 0 ∷ 4 ∷ 0 ∷ 3 ∷ 0 ∷ 1 ∷ 0 ∷ 4 ∷ 0
          ∷ 1 ∷ 0 ∷ 0 ∷ 0 ∷ 0 ∷ 0 ∷ 0 ∷ 1 ∷ 0 ∷ 1 ∷ 0 ∷ 2 ∷ 0 ∷ 1 ∷ 5 ∷ 0 ∷ 1 ∷ 0 ∷ 5 ∷ 0 ∷ 3 ∷ 0 ∷ 0 ∷ 0 ∷ 0 ∷ 0 ∷ 0 ∷ 0 ∷ 0 ∷ 0
          ∷ 0 ∷ 0 ∷ 0 ∷ 0 ∷ 1 ∷ 0 ∷ 2 ∷ 0 ∷ 0 ∷ 0 ∷ 0 ∷ 0 ∷ 0 ∷ 1 ∷ 0 ∷ 2 ∷ 0 ∷ 4 ∷ 0 ∷ 0 ∷ 0 ∷ [];
      changes = [];
    }
    ∷ []

-- answers, and two buffers before and after
unfoldable pub calls : List Call
calls =
    -- the check of a legal pack changes no buffer
    record {
      outcome = check (replicate 12 0);
      output = 9 ∷ 9 ∷ 9 ∷ [];
      report = 9 ∷ 9 ∷ [];
      word = 12;
      output_after = 9 ∷ 9 ∷ 9 ∷ [];
      report_after = 9 ∷ 9 ∷ [];
    }
    -- nor that of another
    ∷ record {
      outcome = check (replicate 11 0);
      output = 9 ∷ 9 ∷ 9 ∷ [];
      report = 9 ∷ 9 ∷ [];
      word = 8589934603;
      output_after = 9 ∷ 9 ∷ 9 ∷ [];
      report_after = 9 ∷ 9 ∷ [];
    }
    -- a pack in a longer buffer
    ∷ record {
      outcome = written 15 nothing;
      output = 9 ∷ 9 ∷ 9 ∷ 9 ∷ 9 ∷ 9 ∷ 9 ∷ 9 ∷ 9 ∷ 9 ∷ 9 ∷ 9 ∷ 9 ∷ 9 ∷ 9 ∷ [];
      report = 9 ∷ 9 ∷ [];
      word = 12;
      output_after = 0 ∷ 0 ∷ 0 ∷ 0 ∷ 0 ∷ 0 ∷ 0 ∷ 0 ∷ 0 ∷ 0 ∷ 0 ∷ 0 ∷ 9 ∷ 9 ∷ 9 ∷ [];
      report_after = 9 ∷ 9 ∷ [];
    }
    -- in one of its length
    ∷ record {
      outcome = written 12 nothing;
      output = 9 ∷ 9 ∷ 9 ∷ 9 ∷ 9 ∷ 9 ∷ 9 ∷ 9 ∷ 9 ∷ 9 ∷ 9 ∷ 9 ∷ [];
      report = 9 ∷ 9 ∷ [];
      word = 12;
      output_after = 0 ∷ 0 ∷ 0 ∷ 0 ∷ 0 ∷ 0 ∷ 0 ∷ 0 ∷ 0 ∷ 0 ∷ 0 ∷ 0 ∷ [];
      report_after = 9 ∷ 9 ∷ [];
    }
    -- in one that is a byte shorter
    ∷ record {
      outcome = written 11 nothing;
      output = 9 ∷ 9 ∷ 9 ∷ 9 ∷ 9 ∷ 9 ∷ 9 ∷ 9 ∷ 9 ∷ 9 ∷ 9 ∷ [];
      report = 9 ∷ 9 ∷ [];
      word = 38654705676;
      output_after = 9 ∷ 9 ∷ 9 ∷ 9 ∷ 9 ∷ 9 ∷ 9 ∷ 9 ∷ 9 ∷ 9 ∷ 9 ∷ [];
      report_after = 9 ∷ 9 ∷ [];
    }
    -- a new name of 255 bytes
    ∷ record {
      outcome = written 0 (named (replicate 255 97));
      output = [];
      report = 9 ∷ [];
      word = 38654705936;
      output_after = [];
      report_after = 9 ∷ [];
    }
    -- of 256: 8 before 9
    ∷ record {
      outcome = written 0 (named (replicate 256 97));
      output = [];
      report = 9 ∷ [];
      word = 34359738368;
      output_after = [];
      report_after = 9 ∷ [];
    }
    -- 65,536 bytes
    ∷ record {
      outcome = sized 0 (replicate 65536 0);
      output = [];
      report = 9 ∷ [];
      word = 38654771200;
      output_after = [];
      report_after = 9 ∷ [];
    }
    -- 65,537: 8 before 9
    ∷ record {
      outcome = sized 0 (replicate 65537 0);
      output = [];
      report = 9 ∷ [];
      word = 34359738368;
      output_after = [];
      report_after = 9 ∷ [];
    }
    -- a report in a longer buffer
    ∷ record {
      outcome = reported 14 (report_bytes refused);
      output = 9 ∷ 9 ∷ 9 ∷ [];
      report = 9 ∷ 9 ∷ 9 ∷ 9 ∷ 9 ∷ 9 ∷ 9 ∷ 9 ∷ 9 ∷ 9 ∷ 9 ∷ 9 ∷ 9 ∷ 9 ∷ [];
      word = 25769803787;
      output_after = 9 ∷ 9 ∷ 9 ∷ [];
      report_after = 2 ∷ 0 ∷ 7 ∷ 1 ∷ 77 ∷ 1 ∷ 77 ∷ 17 ∷ 2 ∷ 97 ∷ 98 ∷ 9 ∷ 9 ∷ 9 ∷ [];
    }
    -- in one of its length
    ∷ record {
      outcome = reported 11 (report_bytes refused);
      output = 9 ∷ 9 ∷ 9 ∷ [];
      report = 9 ∷ 9 ∷ 9 ∷ 9 ∷ 9 ∷ 9 ∷ 9 ∷ 9 ∷ 9 ∷ 9 ∷ 9 ∷ [];
      word = 25769803787;
      output_after = 9 ∷ 9 ∷ 9 ∷ [];
      report_after = 2 ∷ 0 ∷ 7 ∷ 1 ∷ 77 ∷ 1 ∷ 77 ∷ 17 ∷ 2 ∷ 97 ∷ 98 ∷ [];
    }
    -- in one that is a byte shorter
    ∷ record {
      outcome = reported 10 (report_bytes refused);
      output = 9 ∷ 9 ∷ 9 ∷ [];
      report = 9 ∷ 9 ∷ 9 ∷ 9 ∷ 9 ∷ 9 ∷ 9 ∷ 9 ∷ 9 ∷ 9 ∷ [];
      word = 30064771083;
      output_after = 9 ∷ 9 ∷ 9 ∷ [];
      report_after = 9 ∷ 9 ∷ 9 ∷ 9 ∷ 9 ∷ 9 ∷ 9 ∷ 9 ∷ 9 ∷ 9 ∷ [];
    }
    ∷ []

pub checks-hold : checks_given checks ≡ checks_stated checks
unfolding checks_given checks_stated checks
checks-hold = refl

pub cuts-hold : cuts_given cuts ≡ cuts_stated cuts
unfolding cuts_given cuts_stated cuts
cuts-hold = refl

pub changes-hold : changes_given charts ≡ changes_stated charts
unfolding changes_given changes_stated charts
changes-hold = refl

pub readings-hold : readings_given charts ≡ readings_stated charts
unfolding readings_given readings_stated charts
readings-hold = refl

pub packs-hold : packs_given charts ≡ packs_stated charts
unfolding packs_given packs_stated charts
packs-hold = refl

pub additions-hold : packs_given additions ≡ packs_stated additions
unfolding packs_given packs_stated additions
additions-hold = refl

pub calls-hold : calls_given calls ≡ calls_stated calls
unfolding calls_given calls_stated calls nothing named refused
calls-hold = refl

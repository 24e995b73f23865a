-- Internal: nothing here has to be believed; laws tie it to what docs/TRUSTED.md lists.
-- An expression as its head and the expressions under it.
use Rattle.std.specs.Prelude.{List, [], ◌∷◌}
use Rattle.wire.specs.Bytes.{two}
use Rattle.pack_rules.specs.Syntax.{Expr, Exprs, e_array, e_arrow, e_binary, e_call, e_cast, e_const, e_field, e_if, e_index, e_iterate, e_merge, e_pre, e_struct, e_tuple, e_unary, e_var, e_when, x_cons, x_nil}
use Rattle.pack_rules.specs.Write.{Item, arrays, bin_byte, count_of, flag_byte, iter_byte, list, lit_bytes, name_items, nm, raw, ty_items, un_byte}

-- expressions as a list
unfoldable pub list_of : Exprs → List Expr
list_of x_nil = []
list_of (x_cons a xs) = a ∷ list_of xs

-- the expressions under the head
unfoldable pub kids : Expr → List Expr
kids (e_const l) = []
kids (e_var x) = []
kids (e_unary o a) = a ∷ []
kids (e_binary o a b) = a ∷ b ∷ []
kids (e_if a b c) = a ∷ b ∷ c ∷ []
kids (e_pre a) = a ∷ []
kids (e_arrow a b) = a ∷ b ∷ []
kids (e_call f xs) = list_of xs
kids (e_field a f) = a ∷ []
kids (e_index a i) = a ∷ i ∷ []
kids (e_tuple xs) = list_of xs
kids (e_array xs) = list_of xs
kids (e_struct n fs xs) = list_of xs
kids (e_cast t a) = a ∷ []
kids (e_when a x b) = a ∷ []
kids (e_merge x a b) = a ∷ b ∷ []
kids (e_iterate k f i xs) = list_of xs

-- what is written of the head
unfoldable pub head_items : Expr → List Item
head_items (e_const l) = raw (0 ∷ lit_bytes l) ∷ []
head_items (e_var x) = raw (1 ∷ []) ∷ nm x ∷ []
head_items (e_unary o a) = raw (2 ∷ un_byte o ∷ []) ∷ []
head_items (e_binary o a b) = raw (3 ∷ bin_byte o ∷ []) ∷ []
head_items (e_if a b c) = raw (4 ∷ []) ∷ []
head_items (e_pre a) = raw (5 ∷ []) ∷ []
head_items (e_arrow a b) = raw (6 ∷ []) ∷ []
head_items (e_call f xs) = raw (7 ∷ []) ∷ nm f ∷ raw (two (count_of xs)) ∷ []
head_items (e_field a f) = raw (8 ∷ []) ∷ nm f ∷ []
head_items (e_index a i) = raw (9 ∷ []) ∷ []
head_items (e_tuple xs) = raw (10 ∷ two (count_of xs)) ∷ []
head_items (e_array xs) = raw (11 ∷ two (count_of xs)) ∷ []
head_items (e_struct n fs xs) = raw (12 ∷ []) ∷ nm n ∷ list name_items fs
head_items (e_cast t a) = raw (13 ∷ []) ∷ ty_items t
head_items (e_when a x b) = raw (14 ∷ []) ∷ nm x ∷ raw (flag_byte b ∷ []) ∷ []
head_items (e_merge x a b) = raw (15 ∷ []) ∷ nm x ∷ []
head_items (e_iterate k f i xs) = raw (16 ∷ iter_byte k ∷ []) ∷ nm f ∷ raw (flag_byte i ∷ two (arrays i xs)) ∷ []

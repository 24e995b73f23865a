-- Laws of made names: the texts that the code puts together are the names of the definition.
use Prim.Native.Nat.{ℕ, zero, suc, ◌+◌}
use native.Mathlib.Omega.{arith}
use mathlib.Core.List.{[], ◌∷◌, ◌++◌}
use mathlib.Core.Path.{◌≡◌, refl, sym, ap, ◌∙◌}
use Rattle.wire.specs.Writer.{State, puts}
use Rattle.wire.specs.Decimal.{decimal}
use Rattle.wire.proofs.Writers.{puts-append}
use Rattle.pack_rules.specs.Names.{Name}
use Rattle.activations.specs.declared.made_names.Var.{Var}
use Rattle.activations.specs.declared.made_names.Var.TheVariants as vr
use Rattle.activation_rules.specs.MadeNames.{Scope, act_prefix, clock_var, flag_var, last_infix, last_var, made_name, none_var, sample_var, tag, value_var}
use Rattle.activations.specs.Vars.{branch_var}

pub after-start : (a rest : Name) (s : State) → puts rest (puts (act_prefix ++ a) s) ≡ puts (act_prefix ++ (a ++ rest)) s
after-start a rest s =
    ap (puts rest) (puts-append act_prefix a s)
    ∙ sym (puts-append act_prefix (a ++ rest) s ∙ puts-append a rest (puts act_prefix s))

-- a holder's name
pub last-text : (a v : Name) (s : State) → puts v (puts last_infix (puts (act_prefix ++ a) s)) ≡ puts (last_var a v) s
unfolding last_var
last-text a v s = sym (puts-append last_infix v (puts (act_prefix ++ a) s)) ∙ after-start a (last_infix ++ v) s

-- letters and a branch's number, which counts from 1
pub numbered-text : (a letters : Name) (k : ℕ) (s : State) → puts (decimal (k + 1)) (puts letters (puts (act_prefix ++ a) s)) ≡ puts (act_prefix ++ (a ++ (letters ++ decimal (suc k)))) s
numbered-text a letters k s =
    ap (λ (j : ℕ). puts (decimal j) (puts letters (puts (act_prefix ++ a) s))) (omega arith)
    ∙ sym (puts-append letters (decimal (suc k)) (puts (act_prefix ++ a) s))
    ∙ after-start a (letters ++ decimal (suc k)) s

-- by the variable that is meant
pub var-is : (v u : Var) (a : Name) (k : ℕ) (x y : State) → v ≡ u → x ≡ puts (branch_var u a k) y → x ≡ puts (branch_var v a k) y
var-is v u a k x y e h = h ∙ ap (λ (t : Var). puts (branch_var t a k) y) (sym e)

pub flag-text : (a : Name) (k : ℕ) → act_prefix ++ (a ++ ((95 ∷ 98 ∷ []) ++ decimal (suc k))) ≡ branch_var vr.Flag a k
unfolding branch_var flag_var made_name
flag-text a k = refl

pub untaken-text : (a : Name) (k : ℕ) → act_prefix ++ (a ++ ((95 ∷ 110 ∷ []) ++ decimal (suc k))) ≡ branch_var vr.Untaken a k
unfolding branch_var none_var made_name
untaken-text a k = refl

pub clock-first : (a : Name) (k : ℕ) → k ≡ 0 → act_prefix ++ (a ++ ((95 ∷ 98 ∷ []) ++ decimal (suc k))) ≡ branch_var vr.Clock a k
unfolding branch_var clock_var flag_var made_name
clock-first a k e = rw e

pub clock-later : (a : Name) (k : ℕ) → (k ≡ 0 → ⊥) → act_prefix ++ (a ++ ((95 ∷ 103 ∷ []) ++ decimal (suc k))) ≡ branch_var vr.Clock a k
unfolding branch_var clock_var made_name
clock-later a zero h = absurd (h refl)
clock-later a (suc k) h = refl

-- letters, a tag and a name
pub scoped-text : (a letters t v : Name) (s : State) → puts v (puts (95 ∷ []) (puts t (puts letters (puts (act_prefix ++ a) s)))) ≡ puts (act_prefix ++ (a ++ (letters ++ (t ++ (95 ∷ v))))) s
scoped-text a letters t v s =
    sym (puts-append (95 ∷ []) v (puts t (puts letters (puts (act_prefix ++ a) s))))
    ∙ sym (puts-append t (95 ∷ v) (puts letters (puts (act_prefix ++ a) s)))
    ∙ sym (puts-append letters (t ++ (95 ∷ v)) (puts (act_prefix ++ a) s))
    ∙ after-start a (letters ++ (t ++ (95 ∷ v))) s

pub sample-text : (a : Name) (c : Scope) (v : Name) → act_prefix ++ (a ++ ((95 ∷ 115 ∷ []) ++ (tag c ++ (95 ∷ v)))) ≡ sample_var a c v
unfolding sample_var made_name
sample-text a c v = refl

pub value-text : (a : Name) (c : Scope) (o : Name) → act_prefix ++ (a ++ ((95 ∷ 120 ∷ []) ++ (tag c ++ (95 ∷ o)))) ≡ value_var a c o
unfolding value_var made_name
value-text a c o = refl

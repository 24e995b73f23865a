-- A lowering that answers 0 has written a pack.
use Prim.Native.Nat.{ℕ, suc}
use native.Mathlib.Omega.{arith}
use mathlib.Core.List.{List, [], ◌∷◌}
use mathlib.Core.Bool.{Bool, true, false, cond}
use mathlib.Core.Path.{◌≡◌, refl}
use lib.Dec.{ltb}
use lib.ListN.{length}
use Rattle.pack_rules.specs.Limits.{max_bytes}
use Rattle.pack_rules.specs.Outcome.{Outcome, answers, number_of, on_package, reported, reports, sized, writes, written}
use Rattle.pack_rules.specs.Read.{Reading, bytes_after, deep_at, ends_early, illegal_at, read, too_long, whole}
use Rattle.pack_rules.specs.Report.{Refusal, report_bytes}
use Rattle.pack_rules.specs.Syntax.{Package}
use Rattle.pack_rules.specs.Write.{encode, package_items, shorts}
use Rattle.machine_rules.specs.Call.{lower_machines, lower_package_machines, report_or_pack}
use Rattle.machine_rules.specs.Machines.{machines_lowered, made_machines}
use Rattle.activation_rules.specs.Activations.{activations_lowered, made_activations}
use Rattle.activation_rules.specs.Call.{lower_activations, lower_package_activations}

-- the pack that an outcome writes
pub record Zero (x : Outcome) : Type 0 where
  pub pack : List ℕ
  pub result : x ≡ writes pack

not-zero : (n : ℕ) → suc n ≡ 0 → ⊥
not-zero n e = omega arith

sized-zero : (room : ℕ) (b : List ℕ) → number_of (sized room b) ≡ 0 → Zero (sized room b)
unfolding sized number_of
sized-zero room b e = go (ltb max_bytes (length b)) (ltb room (length b)) e
  where
    go : (c d : Bool) → number_of (cond c (answers 8 0) (cond d (answers 9 (length b)) (writes b))) ≡ 0 → Zero (cond c (answers 8 0) (cond d (answers 9 (length b)) (writes b)))
    go true d q = absurd (not-zero 7 q)
    go false true q = absurd (not-zero 8 q)
    go false false q = record { pack = b; result = refl }

finished-zero : (output report : ℕ) (rs : List Refusal) (p : Package) → number_of (report_or_pack output report rs p) ≡ 0 → Zero (report_or_pack output report rs p)
unfolding report_or_pack written reported number_of
finished-zero output report [] p e = go (shorts (package_items p)) e
  where
    go : (c : Bool) → number_of (cond c (sized output (encode p)) (answers 8 0)) ≡ 0 → Zero (cond c (sized output (encode p)) (answers 8 0))
    go true q = sized-zero output (encode p) q
    go false q = absurd (not-zero 7 q)
finished-zero output report (r ∷ rs) p e = absurd (go (ltb report (length (report_bytes (r ∷ rs)))) e)
  where
    go : (c : Bool) → number_of (cond c (answers 7 (length (report_bytes (r ∷ rs)))) (reports (report_bytes (r ∷ rs)))) ≡ 0 → ⊥
    go true q = not-zero 6 q
    go false q = not-zero 5 q

package-zero : (s : List ℕ) (k : Package → Outcome) → ((p : Package) → number_of (k p) ≡ 0 → Zero (k p)) → (r : Reading) → number_of (on_package s r k) ≡ 0 → Zero (on_package s r k)
unfolding on_package number_of
package-zero s k h too_long e = absurd (not-zero 0 e)
package-zero s k h ends_early e = absurd (not-zero 1 e)
package-zero s k h (illegal_at o) e = absurd (not-zero 2 e)
package-zero s k h (deep_at o) e = absurd (not-zero 3 e)
package-zero s k h (bytes_after o) e = absurd (not-zero 4 e)
package-zero s k h (whole p) e = h p e

pub machines-zero : (s : List ℕ) (output report : ℕ) → number_of (lower_machines s output report) ≡ 0 → Zero (lower_machines s output report)
unfolding lower_machines lower_package_machines
machines-zero s output report e = package-zero s (lower_package_machines output report) (λ p h. finished-zero output report (made_machines p).refusals (machines_lowered p (made_machines p)) h) (read s) e

pub activations-zero : (s : List ℕ) (output report : ℕ) → number_of (lower_activations s output report) ≡ 0 → Zero (lower_activations s output report)
unfolding lower_activations lower_package_activations
activations-zero s output report e = package-zero s (lower_package_activations output report) (λ p h. finished-zero output report (made_activations p).refusals (activations_lowered p (made_activations p)) h) (read s) e

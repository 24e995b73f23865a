-- A lowered pack reads back, as the lowered package with its table of names completed.
use Prim.Native.Nat.{ℕ, ◌+◌, ◌≤◌, ◌<◌}
use native.Mathlib.Omega.{arith}
use mathlib.Core.List.{List, [], ◌∷◌, ◌++◌}
use mathlib.Core.Bool.{Bool, true, false, cond}
use mathlib.Core.Path.{◌≡◌, refl, sym, ap, subst, ◌∙◌}
use borrow.Author.Tests.{ltb-false}
use lib.Dec.{ltb}
use lib.ListN.{length, length-append}
use Rattle.wire.specs.Bytes.{two}
use Rattle.wire.specs.Lists.{All, Bytes}
use Rattle.pack_rules.specs.Legal.{Allowed, Each, FormedPackage, Fresh, Legal, LegalName, completed}
use Rattle.pack_rules.specs.Limits.{max_bytes}
use Rattle.pack_rules.specs.Names.{Name}
use Rattle.pack_rules.specs.Outcome.{answers, on_package, reported, reports, sized, writes, written}
use Rattle.pack_rules.specs.Read.{Reading, bytes_after, deep_at, ends_early, illegal_at, read, too_long, whole}
use Rattle.pack_rules.specs.Report.{Refusal, report_bytes}
use Rattle.pack_rules.specs.Syntax.{Node, Package}
use Rattle.pack_rules.specs.Write.{Item, activation_items, each, enc, encode, enum_items, equation_items, joined, list, machine_items, nm, node_items, origin_items, package_items, port_items, raw, shorts, spell}
use Rattle.pack.proofs.Counts.{size-append, size-code, size-each, size-equation, size_of}
use Rattle.pack.proofs.RoundTrip.{read-legal}
use Rattle.pack.proofs.Tables.{complete, each_left, each_right}
use Rattle.pack.proofs.WrittenBack.{legal-ready, written-reads}
use Rattle.machine_rules.specs.Call.{lower_machines, lower_package_machines, report_or_pack}
use Rattle.machine_rules.specs.Machines.{machines_lowered, made_machines, start}
use Rattle.activation_rules.specs.Activations.{activations_lowered, made_activations}
use Rattle.activation_rules.specs.Call.{lower_activations, lower_package_activations}
use Rattle.runs.proofs.Proper.{Fair, enums-fair, enums-proper, fairs, nodes-fair, nodes-formed, nodes-proper, origins-fair, origins-proper}
use Rattle.runs.proofs.ProperActs.{activate-each-proper}
use Rattle.runs.proofs.ProperDrawn.{activations-proper, drawings-proper}
use Rattle.runs.proofs.ProperMachines.{lower-each-proper}
use Rattle.runs.proofs.ProperMade.{ProperMade, total}

-- the equations of a package that is not too long are few
node-size : (n : Node) → length n.equations ≤ size_of (node_items n)
unfolding node_items size_of list two
node-size n =
    let i = list port_items n.inputs in let u = list port_items n.outputs in let l = list port_items n.locals in let e = list equation_items n.equations in
    omega (arith, size-append i (u ++ (l ++ e)), size-append u (l ++ e), size-append l e, size-each equation_items size-equation n.equations)

total_size : (ns : List Node) → total ns ≤ size_of (each node_items ns)
unfolding total each size_of
total_size [] = omega arith
total_size (n ∷ ns) = let i = total_size ns in omega (arith, size-append (node_items n) (each node_items ns), node-size n)

package-size : (p : Package) → total p.nodes ≤ size_of (package_items p)
unfolding package_items list two size_of
package-size p =
    let e = list enum_items p.enums in let n = list node_items p.nodes in let m = list machine_items p.machines in let a = list activation_items p.activations in let g = list origin_items p.origins in
    omega (arith, size-append e (n ++ (m ++ (a ++ g))), size-append n (m ++ (a ++ g)), total_size p.nodes)

encode-size : (p : Package) → 2 + size_of (package_items p) ≤ length (encode p)
unfolding encode joined two
encode-size p =
    let r = complete p.names (package_items p) [] in
    let e : length (encode p) ≡ length (joined p.names (spell p.names (package_items p) [])) = refl in
    let f = ap (λ x. length (joined p.names x)) r.spells in
    let b : length r.bytes ≡ size_of (package_items p) = ap length r.same ∙ size-code (p.names ++ r.now) (package_items p) in
    omega (arith, length-append (enc p.names) (enc r.now ++ r.bytes), length-append (enc r.now) r.bytes)

few : (p : Package) → length (encode p) ≤ max_bytes → total p.nodes < 65536
few p h = omega (arith, encode-size p, package-size p)

-- the names of a legal package
each_map : (P Q : Name → Type 0) (is : List Item) → ((n : Name) → P n → Q n) → Each P is → Each Q is
unfolding Each
each_map P Q [] f h = tt
each_map P Q (raw xs ∷ is) f h = each_map P Q is f h
each_map P Q (nm n ∷ is) f h = (f n h.0, each_map P Q is f h.1)

pub record Sections (p : Package) : Type 0 where
  pub enums : Fair (list enum_items p.enums)
  pub nodes : Fair (list node_items p.nodes)
  pub machines : Fair (list machine_items p.machines)
  pub activations : Fair (list activation_items p.activations)
  pub origins : Fair (list origin_items p.origins)

pub sections : (p : Package) → Legal p → Sections p
unfolding package_items
sections p o =
    let e = list enum_items p.enums in let n = list node_items p.nodes in let m = list machine_items p.machines in let a = list activation_items p.activations in let g = list origin_items p.origins in
    let h : Fair (e ++ (n ++ (m ++ (a ++ g)))) = each_map LegalName Allowed (e ++ (n ++ (m ++ (a ++ g)))) (λ x k. (k.0, k.2)) (legal-ready p o).used in
    let i = each_right Allowed e (n ++ (m ++ (a ++ g))) h in
    let j = each_right Allowed n (m ++ (a ++ g)) i in
    let k = each_right Allowed m (a ++ g) j in
    record {
      enums = each_left Allowed e (n ++ (m ++ (a ++ g))) h;
      nodes = each_left Allowed n (m ++ (a ++ g)) i;
      machines = each_left Allowed m (a ++ g) j;
      activations = each_left Allowed a g k;
      origins = each_right Allowed a g k;
    }

from-sections : (p : Package) → Sections p → Fair (package_items p)
unfolding package_items
from-sections p s =
    let e = list enum_items p.enums in let n = list node_items p.nodes in let m = list machine_items p.machines in let a = list activation_items p.activations in let g = list origin_items p.origins in
    fairs e (n ++ (m ++ (a ++ g))) s.enums (fairs n (m ++ (a ++ g)) s.nodes (fairs m (a ++ g) s.machines (fairs a g s.activations s.origins)))

start-proper : (p : Package) → Legal p → ProperMade (start p)
unfolding start
start-proper p o =
    let s = sections p o in
    record { enums = enums-proper p.enums s.enums; nodes = nodes-proper p.nodes o.formed.0 s.nodes; origins = origins-proper p.origins s.origins; formed = λ h. o.formed.3 }

pub machines-proper : (p : Package) → Legal p → ProperMade (made_machines p)
unfolding made_machines
machines-proper p o =
    let d = drawings-proper p.machines o.formed.1 (sections p o).machines in
    lower-each-proper p.machines p.machines (start p) d d (start-proper p o)

pub acts-proper : (p : Package) → Legal p → ProperMade (made_activations p)
unfolding made_activations
acts-proper p o = activate-each-proper p.activations (start p) (activations-proper p.activations o.formed.2 (sections p o).activations) (start-proper p o)

-- the lowered packages: names, and form where the pack is not too long
pub machines-fair : (p : Package) → Legal p → Fair (package_items (machines_lowered p (made_machines p)))
unfolding machines_lowered list each Each
machines-fair p o =
    let k = made_machines p in let g = machines-proper p o in
    from-sections (machines_lowered p k) (record { enums = enums-fair k.enums g.enums; nodes = nodes-fair k.nodes g.nodes; machines = tt; activations = (sections p o).activations; origins = origins-fair k.origins g.origins })

pub machines-formed : (p : Package) → Legal p → length (encode (machines_lowered p (made_machines p))) ≤ max_bytes → FormedPackage (machines_lowered p (made_machines p))
unfolding machines_lowered All
machines-formed p o h =
    let k = made_machines p in let g = machines-proper p o in
    (nodes-formed k.nodes g.nodes, tt, o.formed.2, g.formed (few (machines_lowered p k) h))

pub acts-fair : (p : Package) → Legal p → Fair (package_items (activations_lowered p (made_activations p)))
unfolding activations_lowered list each Each
acts-fair p o =
    let k = made_activations p in let g = acts-proper p o in
    from-sections (activations_lowered p k) (record { enums = enums-fair k.enums g.enums; nodes = nodes-fair k.nodes g.nodes; machines = (sections p o).machines; activations = tt; origins = origins-fair k.origins g.origins })

pub acts-formed : (p : Package) → Legal p → length (encode (activations_lowered p (made_activations p))) ≤ max_bytes → FormedPackage (activations_lowered p (made_activations p))
unfolding activations_lowered All
acts-formed p o h =
    let k = made_activations p in let g = acts-proper p o in
    (nodes-formed k.nodes g.nodes, o.formed.1, tt, g.formed (few (activations_lowered p k) h))

-- what is written is not too long
written-fits : (room : ℕ) (p : Package) (b : List ℕ) → written room p ≡ writes b → length (encode p) ≤ max_bytes
unfolding written sized
written-fits room p b e = go (shorts (package_items p)) (ltb max_bytes (length (encode p))) (ltb room (length (encode p))) refl e
  where
    go : (s t u : Bool) → ltb max_bytes (length (encode p)) ≡ t → cond s (cond t (answers 8 0) (cond u (answers 9 (length (encode p))) (writes (encode p)))) (answers 8 0) ≡ writes b → length (encode p) ≤ max_bytes
    go true true u h i = let z : ◌≡◌ {A = ℕ} 0 1 = cc in absurd (omega arith)
    go true false true h i = let z : ◌≡◌ {A = ℕ} 0 1 = cc in absurd (omega arith)
    go true false false h i = ltb-false max_bytes (length (encode p)) h
    go false t u h i = let z : ◌≡◌ {A = ℕ} 0 1 = cc in absurd (omega arith)

-- and nothing was refused
finished-writes : (output report : ℕ) (rs : List Refusal) (p : Package) (b : List ℕ) → report_or_pack output report rs p ≡ writes b → (rs ≡ []) × (written output p ≡ writes b)
unfolding report_or_pack reported
finished-writes output report [] p b e = (refl, e)
finished-writes output report (r ∷ rs) p b e = go (ltb report (length (report_bytes (r ∷ rs)))) e
  where
    go : (c : Bool) → cond c (answers 7 (length (report_bytes (r ∷ rs)))) (reports (report_bytes (r ∷ rs))) ≡ writes b → (r ∷ rs ≡ []) × (written output p ≡ writes b)
    go true i = let z : ◌≡◌ {A = ℕ} 0 1 = cc in absurd (omega arith)
    go false i = let z : ◌≡◌ {A = ℕ} 0 1 = cc in absurd (omega arith)

-- what the lowering of a pack wrote: the package `input` was lowered to `made input`
pub record Written (s b : List ℕ) (refusals : Package → List Refusal) (made : Package → Package) : Type 0 where
  pub input : Package
  pub reads : read s ≡ whole input
  pub unrefused : refusals input ≡ []
  pub reads_back : read b ≡ whole (completed (made input))

-- a lowering, by what it refuses and makes of a package: all names are allowed, and numbers fit where what is written is not too long
module _
    (refusals : Package → List Refusal) (made : Package → Package)
    (names : (p : Package) → (made p).names ≡ p.names)
    (fair : (p : Package) → Legal p → Fair (package_items (made p)))
    (formed : (p : Package) → Legal p → length (encode (made p)) ≤ max_bytes → FormedPackage (made p)) where
  read_back : (s : List ℕ) (output report : ℕ) (b : List ℕ) → Bytes s → on_package s (read s) (λ p. report_or_pack output report (refusals p) (made p)) ≡ writes b → Written s b refusals made
  unfolding on_package
  read_back s output report b by e = go (read s) refl e
    where
      go : (r : Reading) → read s ≡ r → on_package s r (λ p. report_or_pack output report (refusals p) (made p)) ≡ writes b → Written s b refusals made
      go too_long q h = let z : ◌≡◌ {A = ℕ} 0 1 = cc in absurd (omega arith)
      go ends_early q h = let z : ◌≡◌ {A = ℕ} 0 1 = cc in absurd (omega arith)
      go (illegal_at o) q h = let z : ◌≡◌ {A = ℕ} 0 1 = cc in absurd (omega arith)
      go (deep_at o) q h = let z : ◌≡◌ {A = ℕ} 0 1 = cc in absurd (omega arith)
      go (bytes_after o) q h = let z : ◌≡◌ {A = ℕ} 0 1 = cc in absurd (omega arith)
      go (whole p) q h =
          let o = read-legal s by p q in
          let f = finished-writes output report (refusals p) (made p) b h in
          let w = written-fits output (made p) b f.1 in
          let fresh : Fresh [] (made p).names = subst (λ (x : List Name). Fresh [] x) (sym (names p)) o.fresh in
          let legal : All LegalName (made p).names = subst (λ (x : List Name). All LegalName x) (sym (names p)) o.names in
          record { input = p; reads = q; unrefused = f.0; reads_back = written-reads output (made p) b fresh legal (fair p o) (formed p o w) f.1 }

abbrev pub less_machines : Package → Package
less_machines p = machines_lowered p (made_machines p)

abbrev pub less_activations : Package → Package
less_activations p = activations_lowered p (made_activations p)

pub machines-read-back : (s : List ℕ) (output report : ℕ) (b : List ℕ) → Bytes s → lower_machines s output report ≡ writes b → Written s b (λ p. (made_machines p).refusals) less_machines
unfolding lower_machines lower_package_machines machines_lowered
machines-read-back s output report b by e = read_back (λ p. (made_machines p).refusals) less_machines (λ p. refl) machines-fair machines-formed s output report b by e

pub activations-read-back : (s : List ℕ) (output report : ℕ) (b : List ℕ) → Bytes s → lower_activations s output report ≡ writes b → Written s b (λ p. (made_activations p).refusals) less_activations
unfolding lower_activations lower_package_activations activations_lowered
activations-read-back s output report b by e = read_back (λ p. (made_activations p).refusals) less_activations (λ p. refl) acts-fair acts-formed s output report b by e

-- a pack reads as one package
pub whole_same : (p q : Package) → whole p ≡ whole q → p ≡ q
whole_same p q e = cc

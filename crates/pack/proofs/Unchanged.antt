-- A pack that is written again as it was read: its bytes are its encoding.
use Rattle.std.proofs.Common.{◌≡◌, ℕ, true, List, [], ◌∷◌, length, refl, ap, arith, le-leb}
use Rattle.wire.specs.Lists.{Bytes}
use Rattle.pack_rules.specs.Syntax.{Package}
use Rattle.pack_rules.specs.Legal.{Each, LegalName}
use Rattle.pack_rules.specs.Read.{read, whole}
use Rattle.pack_rules.specs.Write.{Item, nm, package_items, raw, short, shorts}
use Rattle.pack_rules.specs.Outcome.{sized, written}
use Rattle.pack.proofs.RoundTrip.{canonical, read-legal}
use Rattle.pack.proofs.WrittenBack.{each-known}

-- no legal name is too long
legal-short : (is : List Item) → Each LegalName is → shorts is ≡ true
unfolding Each shorts short
legal-short [] a = refl
legal-short (raw xs ∷ is) a = legal-short is a
legal-short (nm n ∷ is) a = rw (le-leb (length n) 255 (omega (arith, a.0.1)), legal-short is a.1)

pub unchanged : (room : ℕ) (s : List ℕ) → Bytes s → (p : Package) → read s ≡ whole p → written room p ≡ sized room s
unfolding written
unchanged room s by p e =
    let l = read-legal s by p e in
    rw (legal-short (package_items p) (each-known LegalName p.names (package_items p) l.names l.known)) (ap (sized room) (canonical s by p e))

-- Reading goes on and stays inside: a length, the parts of an answer, the parts of a chart.
use Prim.Native.Nat.{ℕ, ◌<◌, ◌≤◌}
use native.Mathlib.Omega.{arith}
use mathlib.Core.List.{List}
use mathlib.Core.Path.{◌≡◌}
use lib.ListN.{length}
use Rattle.wire.specs.Answer.{u16, u32, value}
use Rattle.wire.proofs.Answers.{bind-value, u16-value}
use Rattle.charts.specs.Parts.{Onward}

pub read-on : (s : List ℕ) (at v q : ℕ) → u32 s at ≡ value v q → (at < q) × (q ≤ length s)
unfolding u32
read-on s at v q e =
    let b = bind-value (u16 s at) _ v q e in
    let x = u16-value s at b.0 b.1 b.2 in
    let d = bind-value (u16 s b.1) _ v q b.3 in
    let y = u16-value s b.1 d.0 d.1 d.2 in
    let n : d.1 ≡ q = cc d.3 in
    (omega arith, omega arith)

pub answer-on : (n at a b c : ℕ) → at ≤ n → Onward n at a → Onward n a b → Onward n b c → (at ≤ c) × (c ≤ n)
answer-on n at a b c l x y z =
    let p = x.stays l in
    let q = y.stays x.inside in
    let r = z.stays y.inside in
    (omega arith, z.inside)

pub chart-on : (n at a b c d e : ℕ) → at < n → Onward n at a → Onward n a b → (b ≤ c) × (c ≤ n) → (c ≤ d) × (d ≤ n) → (d ≤ e) × (e ≤ n) → (at < e) × (e ≤ n)
chart-on n at a b c d e l x y u v w =
    let p = x.on l in
    let q = y.stays x.inside in
    (omega (arith, u.0, v.0, w.0), w.1)

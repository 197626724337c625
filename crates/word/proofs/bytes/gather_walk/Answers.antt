use Prim.Native.Nat.{ℕ, ◌+◌, ◌*◌, ◌%◌, ◌^◌}
use mathlib.Core.Path.{◌≡◌, sym, ap, ap₂, ◌∙◌}
use native.Mathlib.Numerals.{add-one}
use native.Mathlib.Omega.{arith}
use lib.Bits.{bit_or}
use lib.ListN.{get_or}
use Rattle.word.specs.Word.{significance}
use Rattle.word.proofs.Powers.{shifted_bytes}
use Rattle.word.proofs.Laws.{byte_fits, gathered_none, gathered_or, gathered_all}
use Rattle.word.proofs.bytes.gather_walk.Goals as goal

pub loop-i-init : goal.loop-i-init
loop-i-init c = let a = c.args in sym (gathered_none a.big a.s.now a.at a.size)

pub loop-i-preserved : goal.loop-i-preserved
loop-i-preserved c =
    let a = c.args in
    let l = c.loop-i in
    let byte = get_or a.s.now (a.at + l.i) 0 in
    let e : byte * 2 ^ (8 * c.weight.result) % 2 ^ 64 ≡ byte * 256 ^ significance a.big a.size l.i =
    shifted_bytes byte c.weight.result (byte_fits byte c.weight.result (omega (arith, c.type_inv.s (a.at + l.i))) (omega arith))
    ∙ ap (λ (k : ℕ). byte * 256 ^ k) c.weight.ensures.0 in
    rw (add-one, ← gathered_or a.big a.s.now a.at a.size (λ i. (c.type_inv.s i).fits) l.i c.loop-i-test.true)
    (ap₂ bit_or l.invariant (rw c.from.ensures e))

pub returns : goal.returns
returns c =
    let a = c.args in
    let e : c.loop-i.i ≡ a.size = omega arith in
    c.loop-i.invariant ∙ rw e (gathered_all a.big a.s.now a.at a.size)

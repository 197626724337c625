-- `word::size::modulus` meets its contract.
use Prim.Native.Nat.{◌*◌, ◌^◌, ◌<◌}
use mathlib.Core.Path.{◌∙◌}
use native.Mathlib.Nat.{one-mul, lt_of_le_of_lt}
use native.Mathlib.Omega.{arith}
use lib.Dec.{lit<}
use Rattle.word.proofs.Powers.{shifted_bytes, size_mono}
use Rattle.word.proofs.size.modulus.Goals as goal

pub returns : goal.returns
returns c =
    let n = c.args.size in
    let fits : 1 * 256 ^ n < 2 ^ 64 = rw one-mul (lt_of_le_of_lt (size_mono n 7 (omega arith)) (lit< tt)) in
    shifted_bytes 1 n fits ∙ one-mul (256 ^ n)

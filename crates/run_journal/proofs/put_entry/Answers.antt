use Prim.Native.Nat.{ℕ, suc, ◌+◌, ◌*◌}
use native.Mathlib.Omega.{arith}
use mathlib.Core.Path.{◌≡◌, refl}
use Rattle.run_journal.specs.Journal.{entry_words, words_of}
use Rattle.run_journal.proofs.put_entry.Goals as goal

pub returns : goal.returns
unfolding words_of
returns c =
    let at : ℕ = entry_words * c.args.n in
    let one : at + 1 ≡ suc at = omega arith in
    let two : at + 2 ≡ suc (suc at) = omega arith in
    let three : at + 3 ≡ suc (suc (suc at)) = omega arith in
    rw (one, two, three) refl

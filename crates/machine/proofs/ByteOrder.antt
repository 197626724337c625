-- Ordering bytes by significance reverses them in big order and changes nothing in little order.
use Prim.Native.Nat.{ℕ, ◌-◌}
use mathlib.Core.Bool.{true, false}
use mathlib.Core.List.{List, reverse}
use mathlib.Core.Path.{◌≡◌, refl, sym}
use lib.ListN.{length, get_or, length-reverse}
use Rattle.word.specs.Word.{significance}
use Rattle.word.proofs.Sums.{tabulate_is, reversed_at}
use Rattle.machine.specs.Memory.{ordered}
use Rattle.machine.specs.ByteOrder.{OrderedReverses}

little : (bs : List ℕ) → ordered false bs ≡ bs
unfolding ordered significance
little bs = tabulate_is (length bs) (λ i. get_or bs i 0) bs refl (λ i h. refl)

big : (bs : List ℕ) → ordered true bs ≡ reverse bs
unfolding ordered significance
big bs = tabulate_is (length bs) (λ i. get_or bs (length bs - 1 - i) 0) (reverse bs) (length-reverse bs) (λ i h. sym (reversed_at bs i h))

pub ordered_reverses : OrderedReverses
ordered_reverses = record { little = little; big = big }

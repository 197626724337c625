-- Big order is little order reversed: a byte counts in big order what it counts in little order in the reversed list.
use mathlib.Core.Path.{◌≡◌, refl, sym, ap, ◌∙◌}
use mathlib.Core.Bool.{Bool, true, false}
use mathlib.Core.List.{List, reverse}
use Prim.Native.Nat.{ℕ, ◌-◌, ◌*◌, ◌/◌, ◌%◌, ◌^◌, ◌<◌}
use native.Mathlib.Omega.{arith}
use contract.Lifetimes.{Lfts}
use denote.Triple.Clauses.{AtExit}
use borrow.Fn.Kinds.{Dens, res_t, ended_of}
use lib.ListN.{length, get_or, length-reverse}
use Rattle.word.specs.Sum.{sum, tabulate, digit}
use Rattle.word.specs.Word.{part, significance, value_of, bytes_of}
use Rattle.word.specs.ByteOrder.{GatherCall, ScatterCall, BigIsLittleReversed}
use Rattle.word.proofs.Sums.{sum_cong, tabulate_is, reversed_at}
use Rattle.word.proofs.Laws.{by_weight, bytes-length, bytes_at_lem, stored-part}
use Rattle.word.proofs.bytes.gather.Kinds as gather
use Rattle.word.proofs.bytes.gather.Reads as gather-contract
use Rattle.word.proofs.bytes.scatter.Kinds as scatter
use Rattle.word.proofs.bytes.scatter.Reads as scatter-contract

little_reads : (bs : List ℕ) → value_of false bs ≡ sum (length bs) (λ i. get_or bs i 0 * 256 ^ i)
unfolding value_of significance
little_reads bs = refl

little_writes : (n v : ℕ) → bytes_of false n v ≡ tabulate n (λ i. v / 256 ^ i % 256)
unfolding bytes_of digit significance
little_writes n v = refl

big_reads : (bs : List ℕ) → value_of true bs ≡ value_of false (reverse bs)
unfolding value_of significance
big_reads bs =
    by_weight true (length bs) (λ i. get_or bs i 0)
    ∙ rw (length-reverse bs)
    (sum_cong (length bs) (λ i. get_or bs (length bs - 1 - i) 0 * 256 ^ i) (λ i. get_or (reverse bs) i 0 * 256 ^ i)
    (λ i h. rw (reversed_at bs i h)))

big_writes : (n v : ℕ) → bytes_of true n v ≡ reverse (bytes_of false n v)
unfolding bytes_of significance
big_writes n v =
    tabulate_is n (λ i. digit 256 v (n - 1 - i)) (reverse (bytes_of false n v)) (length-reverse (bytes_of false n v) ∙ bytes-length false n v)
    (λ i h.
    let inside : i < length (bytes_of false n v) = rw (bytes-length false n v) h in
    let place : get_or (reverse (bytes_of false n v)) i 0 ≡ get_or (bytes_of false n v) (n - 1 - i) 0 =
    rw (bytes-length false n v) at (reversed_at (bytes_of false n v) i inside) in
    sym (place ∙ bytes_at_lem false n v (n - 1 - i) (omega arith)))

-- the bytes that a call of `scatter` leaves at its place
part_left : {big : Bool} {bytes bytes' : List ℕ} {at size value : ℕ} → ScatterCall big bytes at size value bytes'
    → part bytes' at size ≡ bytes_of big size value
part_left {big} {bytes} {bytes'} {at} {size} {value} c =
    rw c.ensures
    (rw (bytes-length big size value) at (stored-part bytes at (bytes_of big size value) (rw (bytes-length big size value) c.requires.1)))

pub big_is_little_reversed : BigIsLittleReversed
big_is_little_reversed =
    record {
      little_reads = little_reads;
      little_writes = little_writes;
      big_reads = big_reads;
      big_writes = big_writes;
      gathers = λ {bytes} {reversed} {at} {at'} {size} big little e.
          big.ensures ∙ big_reads (part bytes at size) ∙ ap (value_of false) (sym e) ∙ sym little.ensures;
      scatters = λ {big} {big'} {little} {little'} {at} {at'} {size} {value} b l. part_left b ∙ big_writes size value ∙ ap reverse (sym (part_left l));
    }

-- the calls in the statement are those of the functions: what a caller of `gather` or `scatter` shows and learns makes one (the arguments
-- are in the function's order: big, s, at, size, v)
module _ (κs : Lfts 1) where
  pub gather_call : (a : Dens κs gather.ps) (r : (res_t gather.r κs).Denot) (e : AtExit (ended_of 1 gather.ps gather.r) κs)
      → gather-contract.Asked κs a → gather-contract.Learnt κs a r e
      → GatherCall a.0 a.1.0.now a.1.1.0 a.1.1.1.0 r
  gather_call a r e asked learnt = record { requires = asked; ensures = learnt }

  pub scatter_call : (a : Dens κs scatter.ps) (r : (res_t scatter.r κs).Denot) (e : AtExit (ended_of 1 scatter.ps scatter.r) κs)
      → scatter-contract.Asked κs a → scatter-contract.Learnt κs a r e
      → ScatterCall a.0 a.1.0.now a.1.1.0 a.1.1.1.0 a.1.1.1.1.0 e.1.0.now
  scatter_call a r e asked learnt = record { requires = asked; ensures = learnt }

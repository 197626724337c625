-- Lengths in range, number by number and space by space.
use Prim.Native.Nat.{ℕ, ◌%◌, ◌≤◌}
use native.Mathlib.Omega.{arith}
use mathlib.Core.Bool.{true}
use mathlib.Core.List.{List}
use mathlib.Core.Path.{◌≡◌}
use borrow.Author.Tests.{leb-true}
use lib.Dec.{eqb, leb}
use lib.ListN.{length}
use Rattle.integer.proofs.Booleans.{both}
use Rattle.operation.specs.Spaces.{Lengths}
use Rattle.operation.specs.Layout.{words_per_operation, operation_count}
use Rattle.validation.specs.Verdict.{most_operations, most_bytes, lengths_in_range}
use Rattle.machine.specs.Memory.{Memory, lengths_of, space_of}
use Rattle.machine.proofs.Cases.{either}

pub in_range : (lengths : Lengths) (list : List ℕ) → lengths_in_range lengths list ≡ true
    → (operation_count list ≤ most_operations) × (lengths.unique ≤ most_bytes) × (lengths.register ≤ most_bytes) × (lengths.ram ≤ most_bytes)
unfolding lengths_in_range
in_range lengths list e =
    let a = both _ (leb lengths.ram most_bytes) e in
    let b = both _ (leb lengths.register most_bytes) a.0 in
    let c = both _ (leb lengths.unique most_bytes) b.0 in
    let d = both (eqb (length list % words_per_operation) 0) (leb (operation_count list) most_operations) c.0 in
    (leb-true _ _ d.1, leb-true _ _ c.1, leb-true _ _ b.1, leb-true _ _ a.1)

pub space_small : (m : Memory) (list : List ℕ) → lengths_in_range (lengths_of m) list ≡ true → (space : ℕ) → length (space_of m space) ≤ most_bytes
unfolding lengths_of space_of
space_small m list e space =
    let r = in_range (lengths_of m) list e in
    either Small (eqb space 2) _ _ r.1 (either Small (eqb space 3) _ _ r.2 (either Small (eqb space 4) _ _ r.3 (omega arith)))
  where
    Small : List ℕ → Type 0
    Small l = length l ≤ most_bytes

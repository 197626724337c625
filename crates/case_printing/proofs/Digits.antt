-- Laws of the digits of numbers: one hexadecimal digit more, decimal digits as the library writes them, and how many are enough.
use Rattle.std.proofs.Common.{◌≡◌, sym, ◌∙◌, ap, ℕ, zero, suc, ◌+◌, ◌-◌, ◌*◌, ◌/◌, ◌%◌, ◌^◌, ◌≤◌, ◌<◌, [], ◌∷◌, ◌++◌, get_or, arith}
use Rattle.std.proofs.Math.Pow.{shr-shr}
use Rattle.std.proofs.lemmas.List.FromFn.{get_or-map-range_with_len}
use Rattle.std.proofs.lemmas.Fmt.{AppendsLastDigit, decimal_from_appends, length-decimal-le}
use Rattle.std.specs.Fmt.{decimal}
use borrow.Author.Tests.{lt-ltb, le-ltb}
use lib.Dec.{lit≤}
use Rattle.case_printing.specs.Text.{digit_code, hex_text, decimal_text, most_digits}

-- the table that the code has of them
pub digit_listed : (d : ℕ) → d < 16 → get_or (48 ∷ 49 ∷ 50 ∷ 51 ∷ 52 ∷ 53 ∷ 54 ∷ 55 ∷ 56 ∷ 57 ∷ 97 ∷ 98 ∷ 99 ∷ 100 ∷ 101 ∷ 102 ∷ []) d 0 ≡ digit_code d
unfolding digit_code
digit_listed d h = get_or-map-range_with_len digit_code 0 16 d d 0 h (omega arith)

pub hex_more : (k n : ℕ) → 1 ≤ k → hex_text (k - 1) (n / 16) ++ (digit_code (n % 16) ∷ []) ≡ hex_text k n
unfolding hex_text
hex_more zero n h = absurd (omega arith)
hex_more (suc k) n h = let e : suc k - 1 ≡ k = omega arith in rw e

-- of `digits` digits those from digit k on, and digit k - 1 behind them
pub hex_next : (digits k n : ℕ) → 0 < k → k ≤ digits
    → hex_text (digits - k) (n / 2 ^ (4 * k)) ++ (digit_code (n / 2 ^ (4 * (k - 1)) % 16) ∷ []) ≡ hex_text (digits - (k - 1)) (n / 2 ^ (4 * (k - 1)))
hex_next digits k n pos h =
    let more = hex_more (digits - (k - 1)) (n / 2 ^ (4 * (k - 1))) (omega arith) in
    let count : digits - (k - 1) - 1 ≡ digits - k = omega arith in
    let place : 4 * (k - 1) + 4 ≡ 4 * k = omega arith in
    let front : n / 2 ^ (4 * (k - 1)) / 16 ≡ n / 2 ^ (4 * k) = shr-shr n (4 * (k - 1)) 4 ∙ ap (λ j. n / 2 ^ j) place in
    rw (count, front) at more

-- the library's decimal digits
digits_appended : AppendsLastDigit decimal_text
unfolding decimal_text digit_code
digits_appended = record {
  one = λ k n small. rw (lt-ltb _ _ small);
  more = λ k n large.
      let last : n % 10 < 10 = omega arith in
      rw (le-ltb _ _ large, lt-ltb _ _ last);
}

pub decimal_same : (k n : ℕ) → most_digits ≤ k → n < 2 ^ 64 → decimal_text k n ≡ decimal n
decimal_same k n h fits = decimal_from_appends decimal_text digits_appended k n fits (omega (arith, length-decimal-le 20 n (lit≤ tt) (omega arith) fits))

-- a 64-bit number has at most 20 digits: room for more changes nothing
pub decimal_enough : (k n : ℕ) → most_digits ≤ k → n < 2 ^ 64 → decimal_text k n ≡ decimal_text most_digits n
decimal_enough k n h fits = decimal_same k n h fits ∙ sym (decimal_same most_digits n (omega arith) fits)

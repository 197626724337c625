-- Laws of hexadecimal text: the digits of a text, a turn of the loop over a number, and the range of a number.
use Rattle.std.proofs.Common.{ℕ, zero, suc, ◌+◌, ◌-◌, ◌*◌, ◌%◌, ◌^◌, ◌<◌, ◌≡◌, Option, None, Some, MatchOption, unwrap_or, List, [], ◌∷◌, length, get_or, take, drop, ltb, refl, ap, ◌∙◌, Bool, true, false, cond, ◌&&◌, is_some, arith, add-one}
use Rattle.std.specs.List.{list_all}
use Rattle.std.proofs.lemmas.Bool.Decides.{nat_tests}
use Rattle.std.proofs.Math.ListN.{length-take}
use Rattle.std.proofs.Math.Seq.{get_or-take, get_or-drop}
use native.Mathlib.Nat.{pow-suc, pow-le-pow_right, mod-lt}
use Rattle.case_hexadecimal.specs.Digits.{word_digits, digit_of, all_digits, number_at}

-- every character passes the test of one
pub all_pass : (s : List ℕ) → list_all (λ c. ltb (digit_of c) 16) s ≡ all_digits s
unfolding all_digits
all_pass [] = refl
all_pass (c ∷ s) = ap (λ t. ltb (digit_of c) 16 && t) (all_pass s) ∙ by (ltb (digit_of c) 16)
  where
    by : (t : Bool) → t && all_digits s ≡ cond t (all_digits s) false
    by true = refl
    by false = refl

-- what `digit` answers of a character
abbrev pub Answers : (c : ℕ) → Option ℕ → Type 0
Answers c d = MatchOption d (digit_of c ≡ 16) (λ n. (n < 16) × (n ≡ digit_of c))

-- a character is a digit where there is an answer
pub digit_known : (c : ℕ) (d : Option ℕ) → Answers c d → is_some d ≡ ltb (digit_of c) 16
digit_known c None h = rw h
digit_known c (Some n) h = grind (arith, nat_tests)

-- a character that is no digit counts as 0
pub digit_counts : (c : ℕ) (d : Option ℕ) → Answers c d → unwrap_or d 0 ≡ digit_of c % 16
digit_counts c None h = rw h
digit_counts c (Some n) h = omega (arith, h.0, h.1)

pub counts_low : (c : ℕ) (d : Option ℕ) → Answers c d → unwrap_or d 0 < 16
counts_low c None h = omega arith
counts_low c (Some n) h = h.0

-- the digits at a place, one by one
pub turn : (s : List ℕ) (at k i : ℕ) → i < length (take (at + k - at) (drop at s)) → (i < k) × (get_or (take (at + k - at) (drop at s)) i 0 ≡ get_or s (at + i) 0)
turn s at k i h =
    let few : i < at + k - at = omega (arith, length-take (at + k - at) (drop at s)) in
    (omega arith, get_or-take (at + k - at) (drop at s) i 0 few ∙ get_or-drop at s i 0)

pub number_more : (s : List ℕ) (at k : ℕ) {n d : ℕ} → n ≡ number_at s at k → d ≡ digit_of (get_or s (at + k) 0) % 16 → n * 16 + d ≡ number_at s at (k + 1)
unfolding number_at
number_more s at k p q = rw (add-one, p, q)

pub number_fits : (s : List ℕ) (at k : ℕ) → number_at s at k < 16 ^ k
unfolding number_at
number_fits s at zero = omega arith
number_fits s at (suc k) = rw pow-suc (omega (arith, number_fits s at k, mod-lt (digit_of (get_or s (at + k) 0)) {m = 16} (omega arith)))

-- a number of fewer digits than a word has room for one more
pub number_room : (s : List ℕ) (at k : ℕ) → k < word_digits → number_at s at k < 16 ^ (word_digits - 1)
number_room s at k h = omega (arith, number_fits s at k, pow-le-pow_right {n = 16} (omega arith) {i = k} {j = word_digits - 1} (omega arith))

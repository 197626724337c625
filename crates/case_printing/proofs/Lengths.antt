-- How long the texts are.
use Rattle.std.proofs.Common.{◌≡◌, refl, ℕ, zero, suc, ◌*◌, ◌/◌, ◌≤◌, List, length, get_or, drop, length-append, length-take, arith}
use native.Mathlib.Nat.{mul-suc, mul-zero}
use Rattle.case_printing.specs.Text.{concatenated, hex_text, word_line, log_text, bytes_text, dump_line, line_bytes, space_lines}
use Rattle.case_printing.specs.Text.{word_line_length, dump_length, bytes_per_line, line_count}
use Rattle.case_hexadecimal.specs.Digits.{byte_digits}

length-concatenated : (m n : ℕ) (f : ℕ → List ℕ) → ((i : ℕ) → length (f i) ≡ m) → length (concatenated n f) ≡ m * n
unfolding concatenated
length-concatenated m zero f h = rw mul-zero
length-concatenated m (suc n) f h = rw (length-append, mul-suc) (omega (arith, length-concatenated m n f h, h n))

pub concatenated_most : (m n : ℕ) (f : ℕ → List ℕ) → ((i : ℕ) → length (f i) ≤ m) → length (concatenated n f) ≤ m * n
unfolding concatenated
concatenated_most m zero f h = omega arith
concatenated_most m (suc n) f h = rw (length-append, mul-suc) (omega (arith, concatenated_most m n f h, h n))

pub length_hex : (k n : ℕ) → length (hex_text k n) ≡ k
unfolding hex_text
length_hex zero n = refl
length_hex (suc k) n = let rest = length_hex k (n / 16) in simp (length-append, rest) (omega arith)

pub length_word : (w : ℕ) → length (word_line w) ≡ word_line_length
unfolding word_line
length_word w = rw (length-append, length_hex)

pub length_log : (words : List ℕ) → length (log_text words) ≡ word_line_length * length words
unfolding log_text
length_log words = length-concatenated word_line_length (length words) (λ i. word_line (get_or words i 0)) (λ i. length_word (get_or words i 0))

pub length_bytes : (s : List ℕ) → length (bytes_text s) ≡ byte_digits * length s
unfolding bytes_text
length_bytes s = length-concatenated byte_digits (length s) (λ i. hex_text byte_digits (get_or s i 0)) (λ i. length_hex byte_digits (get_or s i 0))

length_line : (kind space offset : ℕ) (s : List ℕ) → length (dump_line kind space offset s) ≡ dump_length (length s)
unfolding dump_line
length_line kind space offset s = simp (length-append, length_hex, length_bytes) (omega arith)

pub length_line_bytes : (s : List ℕ) (k : ℕ) → length (line_bytes s k) ≤ bytes_per_line
unfolding line_bytes
length_line_bytes s k = omega (arith, length-take bytes_per_line (drop (bytes_per_line * k) s))

pub length_line_most : (kind space : ℕ) (s : List ℕ) (k : ℕ) → length (dump_line kind space (bytes_per_line * k) (line_bytes s k)) ≤ dump_length bytes_per_line
length_line_most kind space s k = omega (arith, length_line kind space (bytes_per_line * k) (line_bytes s k), length_line_bytes s k)

pub length_space : (kind space : ℕ) (s : List ℕ) → length (space_lines kind space s) ≤ dump_length bytes_per_line * line_count (length s)
unfolding space_lines
length_space kind space s =
    concatenated_most
    (dump_length bytes_per_line)
    (line_count (length s))
    (λ k. dump_line kind space (bytes_per_line * k) (line_bytes s k))
    (length_line_most kind space s)

-- Counts filled from labels, block by block.
use Rattle.std.proofs.Common.{◌≡◌, ℕ, zero, suc, ◌+◌, ◌*◌, ◌≤◌, min, Bool, not, eqb, true, false, List, [], ◌∷◌, ◌++◌, length, take, drop, set, sym, refl, ap, ◌∙◌, arith, length-append, length-drop, ◌-◌, take-append-drop, take_all}
use Rattle.std.specs.List.{sum_by}
use Rattle.std.proofs.lemmas.List.{drop-take, take_min}
use Rattle.std.proofs.lemmas.List.Recursion.{is_sum_by}
use mir.Val.{bool_byte}
use Rattle.integer.proofs.Booleans.{flag_is}
use lib.Seq.{sets, sets-eq}
use Rattle.word.specs.Sum.{tabulate}
use Rattle.word.proofs.Sums.{tabulate-length}
use Rattle.word.proofs.Stores.{sets-snoc}
use Rattle.integer.specs.Operations.{flag}
use Rattle.secret_counts.specs.Recount.{block_bytes, blocks, count_words, is_secret, secrets, block_of, recount, filled}

-- ---- the labels of a block

-- the library's sum of the labels that are secret
pub counted : (ls : List ℕ) → sum_by (λ l. bool_byte (not (eqb l 0))) ls ≡ secrets ls
unfolding secrets is_secret
counted ls = sym (is_sum_by secrets (λ l. bool_byte (not (eqb l 0))) refl (λ l ls. ap (λ (n : ℕ). n + secrets ls) (sym (flag_is (not (eqb l 0))))) ls)

take_cut : (n m : ℕ) (ls : List ℕ) → n ≤ m → take n (take m ls) ≡ take n ls
take_cut zero m ls h = refl
take_cut (suc n) zero ls h = absurd (let z : ⊥ = omega arith in z)
take_cut (suc n) (suc m) [] h = refl
take_cut (suc n) (suc m) (x ∷ ls) h = ap (λ (r : List ℕ). x ∷ r) (take_cut n m ls (omega arith))

-- a block ends 64 bytes on, or where the space ends
pub block_is : (ls : List ℕ) (b to : ℕ) → to ≡ min (length ls) (block_bytes * b + block_bytes)
    → take (to - block_bytes * b) (drop (block_bytes * b) ls) ≡ block_of ls b
unfolding block_of
block_is ls b to e =
    let n = block_bytes * b in
    let k : to - n ≡ min block_bytes (length (drop n ls)) = omega (arith, e, length-drop n ls) in
    rw (k, take_min block_bytes (drop n ls), drop-take n block_bytes ls)

-- ---- the blocks, one after the other

secrets-append : (xs ys : List ℕ) → secrets (xs ++ ys) ≡ secrets xs + secrets ys
unfolding secrets
secrets-append [] ys = omega arith
secrets-append (x ∷ xs) ys = omega (arith, secrets-append xs ys)

pub flag_few : (t : Bool) → flag t ≤ 1
unfolding flag
flag_few true = omega arith
flag_few false = omega arith

pub secrets_few : (ls : List ℕ) → secrets ls ≤ length ls
unfolding secrets
secrets_few [] = omega arith
secrets_few (l ∷ ls) = omega (arith, flag_few (is_secret l), secrets_few ls)

-- one more block
pub total_more : (ls : List ℕ) (b : ℕ) → secrets (take (block_bytes * b + block_bytes) ls) ≡ secrets (take (block_bytes * b) ls) + secrets (block_of ls b)
unfolding block_of
total_more ls b =
    let n : ℕ = block_bytes * b in
    let front : List ℕ = take (n + block_bytes) ls in
    ap secrets (sym (take-append-drop n front)) ∙ secrets-append (take n front) (drop n front)
    ∙ ap (λ (l : List ℕ). secrets l + secrets (drop n front)) (take_cut n (n + block_bytes) ls (omega arith))

-- all of them
pub total_all : (ls : List ℕ) (b : ℕ) → blocks (length ls) ≤ b → take (block_bytes * b) ls ≡ ls
unfolding blocks
total_all ls b h = take_all (block_bytes * b) ls (omega (arith, h))

-- the counts of the blocks are stored, and then the total
pub counts-filled : (ls counts : List ℕ) → count_words (length ls) ≤ length counts
    → set (sets counts 0 (tabulate (blocks (length ls)) (λ b. secrets (block_of ls b)))) (blocks (length ls)) (secrets ls) ≡ filled ls counts
unfolding filled recount count_words
counts-filled ls counts h =
    let ws : List ℕ = tabulate (blocks (length ls)) (λ b. secrets (block_of ls b)) in
    let l : length ws ≡ blocks (length ls) = tabulate-length (blocks (length ls)) (λ b. secrets (block_of ls b)) in
    let at : 0 + length ws ≡ blocks (length ls) = omega (arith, l) in
    let all : length (ws ++ (secrets ls ∷ [])) ≡ blocks (length ls) + 1 = length-append ws (secrets ls ∷ []) ∙ rw l refl in
    let whole : 0 + length (ws ++ (secrets ls ∷ [])) ≡ blocks (length ls) + 1 = omega (arith, all) in
    ap (λ (n : ℕ). set (sets counts 0 ws) n (secrets ls)) (sym at) ∙ sets-snoc counts 0 ws (secrets ls)
    ∙ sets-eq (ws ++ (secrets ls ∷ [])) counts 0 (omega (arith, all, h))
    ∙ ap (λ (n : ℕ). ws ++ (secrets ls ∷ []) ++ drop n counts) whole

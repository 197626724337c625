-- A space cut into the bytes of its lines, from the front.
use Rattle.std.proofs.Common.{◌≡◌, ap, sym, ◌∙◌, ℕ, ◌+◌, ◌*◌, ◌≤◌, List, [], ◌∷◌, ◌++◌, length, take, drop, length-append, append-nil, drop-drop, arith}
use Prim.Native.Nat.{min}
use lib.Seq.{take_all, take-append_seam, drop-append_seam}
use Rattle.std.proofs.lemmas.List.{drop_all}
use Rattle.case_printing.specs.Text.{bytes_per_line, line_bytes}

cut : (part after : List ℕ) → length part ≡ min bytes_per_line (length (part ++ after))
    → (take bytes_per_line (part ++ after) ≡ part) × (drop bytes_per_line (part ++ after) ≡ after)
cut part [] long =
    let short : length part ≤ bytes_per_line = omega (arith, length-append part []) in
    rw append-nil (take_all bytes_per_line part short, drop_all bytes_per_line part short)
cut part (x ∷ after) long =
    let whole : bytes_per_line ≡ length part = omega (arith, length-append part (x ∷ after)) in
    rw whole (take-append_seam part (x ∷ after), drop-append_seam part (x ∷ after))

-- the front of what is left of a space, and what is left behind it
pub next_line : (s : List ℕ) (k : ℕ) (rest part after : List ℕ) → rest ≡ drop (bytes_per_line * k) s
    → rest ≡ part ++ after → length part ≡ min bytes_per_line (length rest)
    → (part ≡ line_bytes s k) × (after ≡ drop (bytes_per_line * (k + 1)) s)
unfolding line_bytes
next_line s k rest part after e split long =
    let parts = cut part after (long ∙ ap (λ l. min bytes_per_line (length l)) split) in
    let front = rw (← split, e) at parts in
    let place : bytes_per_line * (k + 1) ≡ bytes_per_line * k + bytes_per_line = omega arith in
    (sym front.0, rw (place, ← drop-drop) (sym front.1))

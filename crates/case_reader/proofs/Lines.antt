-- A byte more of a text: what the reader then holds is what the definition says of the longer text.
use Prim.Native.Nat.{ℕ, ◌+◌, ◌≤◌, ◌<◌, min}
use Rattle.std.proofs.Common.{None}
use mathlib.Core.Path.{◌≡◌, refl, sym, ap, ◌∙◌}
use mathlib.Core.Bool.{Bool, true, false, cond}
use mathlib.Core.List.{List, [], ◌∷◌, ◌++◌, append-nil, append_assoc}
use native.Mathlib.Numerals.{add-one}
use native.Mathlib.Omega.{arith}
use borrow.Author.Tests.{eq-eqb, ne_eqb, ltb-true, ltb-false}
use lib.Dec.{eqb, ltb}
use lib.ListN.{length, take, set, get_or, length-append, length-take, length-set}
use lib.Seq.{take_all, take-nil, take-append-le, length-take-le, take-suc-set, take-suc}
use Rattle.case_frame.specs.Frames.{frame_of}
use Rattle.case_frame.proofs.Laws.{long_bad}
use Rattle.case_reader.specs.Limits.{line_room}
use Rattle.case_reader.specs.Case.{Progress, line_added, after_line}
use Rattle.case_reader.specs.Lines.{newline, lines_of, rest_of, LinesRead, next_number, no_line, line_read, lines_read}
use Rattle.case_reader.specs.Buffers.{progress_in}
use Rattle.case_reader.specs.Stream.{Says, HasRead}
use Rattle.case_reader.specs.declared.line.Stage.{Stage}
use Rattle.case_reader.specs.declared.stream.Reader.{Reader}

-- ---- a text with one byte more

rest_more : (q s : List ℕ) (b : ℕ) → rest_of q (s ++ (b ∷ [])) ≡ cond (eqb b newline) [] (rest_of q s ++ (b ∷ []))
unfolding rest_of
rest_more q [] b = refl
rest_more q (a ∷ s) b = by (eqb a newline) (rest_more [] s b) (rest_more (q ++ (a ∷ [])) s b)
  where
    by : (t : Bool) → rest_of [] (s ++ (b ∷ [])) ≡ cond (eqb b newline) [] (rest_of [] s ++ (b ∷ []))
        → rest_of (q ++ (a ∷ [])) (s ++ (b ∷ [])) ≡ cond (eqb b newline) [] (rest_of (q ++ (a ∷ [])) s ++ (b ∷ []))
        → cond t (rest_of [] (s ++ (b ∷ []))) (rest_of (q ++ (a ∷ [])) (s ++ (b ∷ [])))
        ≡ cond (eqb b newline) [] (cond t (rest_of [] s) (rest_of (q ++ (a ∷ [])) s) ++ (b ∷ []))
    by true x y = x
    by false x y = y

lines_more : (q s : List ℕ) (b : ℕ) → lines_of q (s ++ (b ∷ [])) ≡ cond (eqb b newline) (lines_of q s ++ (rest_of q s ∷ [])) (lines_of q s)
unfolding lines_of rest_of
lines_more q [] b = refl
lines_more q (a ∷ s) b = by (eqb a newline) (lines_more [] s b) (lines_more (q ++ (a ∷ [])) s b)
  where
    under : (l : List ℕ) (t : Bool) (x y : List (List ℕ)) → l ∷ cond t x y ≡ cond t (l ∷ x) (l ∷ y)
    under l true x y = refl
    under l false x y = refl

    by : (t : Bool) → lines_of [] (s ++ (b ∷ [])) ≡ cond (eqb b newline) (lines_of [] s ++ (rest_of [] s ∷ [])) (lines_of [] s)
        → lines_of (q ++ (a ∷ [])) (s ++ (b ∷ []))
        ≡ cond (eqb b newline) (lines_of (q ++ (a ∷ [])) s ++ (rest_of (q ++ (a ∷ [])) s ∷ [])) (lines_of (q ++ (a ∷ [])) s)
        → cond t (q ∷ lines_of [] (s ++ (b ∷ []))) (lines_of (q ++ (a ∷ [])) (s ++ (b ∷ [])))
        ≡ cond (eqb b newline)
        (cond t (q ∷ lines_of [] s) (lines_of (q ++ (a ∷ [])) s) ++ (cond t (rest_of [] s) (rest_of (q ++ (a ∷ [])) s) ∷ []))
        (cond t (q ∷ lines_of [] s) (lines_of (q ++ (a ∷ [])) s))
    by true x y = ap (λ z. q ∷ z) x ∙ under q (eqb b newline) _ _
    by false x y = y

read_more : (r : LinesRead) (ss : List (List ℕ)) (s : List ℕ) → lines_read r (ss ++ (s ∷ [])) ≡ line_read (lines_read r ss) s
unfolding lines_read
read_more r [] s = refl
read_more r (t ∷ ss) s = read_more (line_read r t) ss s

-- ---- a line longer than its room is bad, whole or cut

bad_alike : (n : ℕ) (s t : List ℕ) (p : Progress) → frame_of s ≡ None → frame_of t ≡ None → after_line n s p ≡ after_line n t p
unfolding after_line line_added
bad_alike n s t Progress.nothing e f = rw (e, f)
bad_alike n s t (Progress.reading c) e f = rw (e, f)
bad_alike n s t (Progress.bad_line k) e f = refl

cut_line : (n : ℕ) (s : List ℕ) (p : Progress) → after_line n (take line_room s) p ≡ after_line n s p
cut_line n s p = by (ltb line_room (length s)) refl
  where
    by : (t : Bool) → ltb line_room (length s) ≡ t → after_line n (take line_room s) p ≡ after_line n s p
    by true e =
        let h : line_room < length s = ltb-true _ _ e in
        let k : length (take line_room s) ≡ line_room = length-take-le line_room s (omega arith) in
        bad_alike n (take line_room s) s p (long_bad _ (omega (arith, k))) (long_bad s (omega (arith, h)))
    by false e = ap (λ x. after_line n x p) (take_all line_room s (ltb-false _ _ e))

-- ---- what the reader holds after one byte more

-- as much of the unfinished line as there is room for
pub held : {text line : List ℕ} {number : ℕ} {stage : Stage} → Says text line number stage → length line ≡ min line_room (length (rest_of [] text))
held {text} h = ap length h.rest ∙ length-take line_room (rest_of [] text)

module _ {text line : List ℕ} {number : ℕ} {stage : Stage} (h : Says text line number stage) (b : ℕ) where
  newline_read : b ≡ newline → {n : ℕ} → n ≡ next_number number → {g : Stage} → progress_in g ≡ after_line (next_number number) line (progress_in stage)
      → Says (text ++ (b ∷ [])) [] n g
  unfolding line_read
  newline_read e {n} k {g} d =
      record {
        rest = rw (rest_more [] text b, eq-eqb b newline e) (sym (take-nil {A = ℕ} line_room));
        lines =
            rw (lines_more [] text b, eq-eqb b newline e, k)
            (ap (λ x. record { count = next_number number; progress = x })
            (d ∙ ap (λ x. after_line (next_number number) x (progress_in stage)) h.rest ∙ cut_line (next_number number) (rest_of [] text) (progress_in stage))
            ∙ ap (λ x. line_read x (rest_of [] text)) h.lines
            ∙ sym (read_more no_line (lines_of [] text) (rest_of [] text)));
      }

  other_lines : (b ≡ newline → ⊥) → (record { count = number; progress = progress_in stage }) ≡ lines_read no_line (lines_of [] (text ++ (b ∷ [])))
  other_lines e = rw (lines_more [] text b, ne_eqb b newline e) h.lines

  byte_read : (b ≡ newline → ⊥) → length line < line_room → Says (text ++ (b ∷ [])) (line ++ (b ∷ [])) number stage
  byte_read e k =
      let few : length (rest_of [] text) < line_room = omega (arith, held h, k) in
      let one : length (rest_of [] text ++ (b ∷ [])) ≤ line_room = rw length-append (omega (arith, few)) in
      record {
        rest =
            rw (rest_more [] text b, ne_eqb b newline e, h.rest)
            (ap (λ x. x ++ (b ∷ [])) (take_all line_room (rest_of [] text) (omega (arith, few))) ∙ sym (take_all line_room (rest_of [] text ++ (b ∷ [])) one));
        lines = other_lines e;
      }

  -- where the room is full
  byte_dropped : (b ≡ newline → ⊥) → line_room ≤ length line → Says (text ++ (b ∷ [])) line number stage
  byte_dropped e k =
      let many : line_room ≤ length (rest_of [] text) = omega (arith, held h, k) in
      record {
        rest = rw (rest_more [] text b, ne_eqb b newline e) (h.rest ∙ sym (take-append-le line_room (rest_of [] text) (b ∷ []) many));
        lines = other_lines e;
      }

-- ---- a part, byte by byte

-- the first i bytes of a part were read, with `used` bytes of the line in the buffer
pub record ReadSo (part : List ℕ) (i : ℕ) (before : Reader) (used : ℕ) (after : Reader) : Type 0 where
  pub room : used ≤ line_room
  pub whole : length after.line.bytes ≡ line_room
  pub says : (text : List ℕ) → HasRead text before → Says (text ++ take i part) (take used after.line.bytes) after.number after.stage

pub read_none : (part : List ℕ) (r : Reader) → length r.line.bytes ≡ line_room → ReadSo part 0 r r.line.used r
read_none part r w = record { room = omega (arith, w, r.line.room); whole = w; says = λ text h. rw append-nil h }

module _ {part : List ℕ} {i : ℕ} {r : Reader} {used : ℕ} {q : Reader} (s : ReadSo part i r used q) (k : i < length part) where
  one : {line : List ℕ} {number : ℕ} {stage : Stage} → (text : List ℕ) → Says ((text ++ take i part) ++ (get_or part i 0 ∷ [])) line number stage
      → Says (text ++ take (i + 1) part) line number stage
  one text h = rw (add-one, take-suc part i 0 k, ← append_assoc text (take i part) (get_or part i 0 ∷ [])) h

  pub read_newline : get_or part i 0 ≡ newline → (z : Reader) → length z.line.bytes ≡ line_room → z.number ≡ next_number q.number
      → progress_in z.stage ≡ after_line (next_number q.number) (take used q.line.bytes) (progress_in q.stage) → ReadSo part (i + 1) r 0 z
  read_newline e z w n d = record { room = omega arith; whole = w; says = λ text h. one text (newline_read (s.says text h) _ e n d) }

  pub read_byte : (get_or part i 0 ≡ newline → ⊥) → used < line_room → (z : Reader)
      → z.line.bytes ≡ set q.line.bytes used (get_or part i 0) → z.number ≡ q.number → z.stage ≡ q.stage → ReadSo part (i + 1) r (used + 1) z
  read_byte e f z x y t =
      let l : length (take used q.line.bytes) ≡ used = length-take-le used q.line.bytes (omega (arith, s.whole, f)) in
      record {
        room = omega (arith, f);
        whole = rw x (simp length-set s.whole);
        says = λ text h.
            one text
            (rw (x, y, t, add-one, take-suc-set q.line.bytes used (get_or part i 0) (omega (arith, s.whole, f))) (byte_read (s.says text h) _ e (omega (arith, l, f))));
      }

  pub read_past : (get_or part i 0 ≡ newline → ⊥) → line_room ≤ used → ReadSo part (i + 1) r used q
  read_past e f =
      let l : length (take used q.line.bytes) ≡ used = length-take-le used q.line.bytes (omega (arith, s.whole, s.room)) in
      record { room = s.room; whole = s.whole; says = λ text h. one text (byte_dropped (s.says text h) _ e (omega (arith, l, f))) }

pub read_all : (part : List ℕ) (i : ℕ) → length part ≤ i → {r : Reader} {used : ℕ} {q : Reader} → ReadSo part i r used q
    → (text : List ℕ) → HasRead text r → Says (text ++ part) (take used q.line.bytes) q.number q.stage
read_all part i k s text h = rw (take_all i part k) at (s.says text h)

-- What a line does to the buffers is what the definition says, frame by frame.
use Rattle.std.proofs.Common.{ℕ, ◌+◌, ◌-◌, ◌*◌, ◌≤◌, ◌<◌, ◌≡◌, true, false, None, Some, Result, Ok, Err, MatchResult, OnOk, OnErr, List, [], length, take, refl, ap, ◌∙◌, arith}
use Rattle.std.proofs.lemmas.Bool.Decides.{nat_tests}
use borrow.Author.Tests.{lt-ltb}
use borrow.Rule.Slice.PartMut.{mid_of, put_mid}
use Rattle.std.proofs.Math.ListN.{length-take, length-drop}
use Rattle.std.proofs.Math.Seq.{length-take-le}
use Rattle.word.proofs.Sums.{tabulate-length}
use Rattle.operation.specs.declared.layout.Settings.{Settings}
use Rattle.operation.specs.declared.layout.Spaces.{Spaces}
use Rattle.operation.specs.Spaces.{Lengths}
use Rattle.operation.specs.Layout.{words_per_operation, operation_count}
use Rattle.case_frame.specs.Frames.{bytes_length, operation_length, frame_of, bytes_on, words_on}
use Rattle.case_frame.specs.declared.Target.{Target}
use Rattle.case_frame.specs.declared.Frame.{Frame}
use Rattle.case_frame.specs.declared.Frame.TheVariants.{Opening, Bytes, Operation}
use Rattle.case_frame.proofs.Laws.{BytesLine, frame_line}
use Rattle.case_reader.specs.Limits.{most_case_operations, words_room, Fits}
use Rattle.case_reader.specs.Case.{Progress, lengths_fit, opening, opened, zeros, in_space, with_memory, with_labels, with_operation, stored, line_added}
use Rattle.case_reader.specs.Buffers.{memory_in, case_in}
use Rattle.case_reader.proofs.Storage.{put_front}
use Rattle.case_reader.specs.declared.buffers.Buffers.{Buffers}
use Rattle.case_reader.specs.declared.line.BadLine.{BadLine}

-- ---- the first line

pub fits : (l : Lengths) → lengths_fit l ≡ true → Fits l
unfolding lengths_fit
fits l e = record { unique = grind (arith, nat_tests); register = grind (arith, nat_tests); ram = grind (arith, nat_tests) }

pub opened_none : (n : ℕ) (s : List ℕ) → frame_of s ≡ None → opened n (frame_of s) ≡ Progress.bad_line n
unfolding opened
opened_none n s e = rw e

pub opened_other : (n : ℕ) (s : List ℕ) (f : Frame) → frame_of s ≡ Some f → ((settings : Settings) (l : Lengths) (budget : ℕ) → f ≡ Opening settings l budget → ⊥)
    → opened n (frame_of s) ≡ Progress.bad_line n
unfolding opened
opened_other n s (Opening settings l budget) e h = absurd (h settings l budget refl)
opened_other n s (Bytes target space offset count) e h = rw e
opened_other n s Operation e h = rw e

pub opened_bad : (n : ℕ) (s : List ℕ) (settings : Settings) (l : Lengths) (budget : ℕ) → frame_of s ≡ Some (Opening settings l budget) → lengths_fit l ≡ false
    → opened n (frame_of s) ≡ Progress.bad_line n
unfolding opened
opened_bad n s settings l budget e h = rw (e, h)

pub opened_case : (n : ℕ) (s : List ℕ) (settings : Settings) (l : Lengths) (budget : ℕ) → frame_of s ≡ Some (Opening settings l budget) → lengths_fit l ≡ true
    → (m ls : Spaces (List ℕ)) → ((k : Lengths) → Fits k → memory_in k m ≡ zeros k) → ((k : Lengths) → Fits k → memory_in k ls ≡ zeros k)
    → opened n (frame_of s) ≡ Progress.reading (record { settings = settings; budget = budget; memory = memory_in l m; labels = memory_in l ls; list = [] })
unfolding opened opening
opened_case n s settings l budget e h m ls p q = rw (e, h, p l (fits l h), q l (fits l h))

-- ---- the other lines

pub none_added : (n : ℕ) (s : List ℕ) (b : Buffers) → frame_of s ≡ None → line_added n s (frame_of s) (case_in b) ≡ Progress.bad_line n
unfolding line_added
none_added n s b e = rw e

pub opening_added : (n : ℕ) (s : List ℕ) (b : Buffers) (settings : Settings) (l : Lengths) (budget : ℕ) → frame_of s ≡ Some (Opening settings l budget)
    → line_added n s (frame_of s) (case_in b) ≡ Progress.bad_line n
unfolding line_added
opening_added n s b settings l budget e = rw e

module _ (b : Buffers) (s : List ℕ) (target : Target) (space offset count : ℕ) (e : frame_of s ≡ Some (Bytes target space offset count)) where
  -- what is known of such a line
  pub on_line : (1 ≤ count) × (bytes_length count ≤ length s)
  on_line = let h : BytesLine count s = rw e at (frame_line s) in (h.some, omega (arith, h.whole))

  pub in_memory : target ≡ Target.Memory → (q : Result Unit BadLine) (r : Spaces (List ℕ))
      → OnOk q ((in_space (memory_in b.lengths b.memory) space offset count ≡ true) × (memory_in b.lengths r ≡ stored (memory_in b.lengths b.memory) space offset (bytes_on count s)))
      → OnErr q ((in_space (memory_in b.lengths b.memory) space offset count ≡ false) × (r ≡ b.memory))
      → (n : ℕ) → MatchResult q
      (λ _. line_added n s (frame_of s) (case_in b)
      ≡ Progress.reading (record { settings = b.settings; budget = b.budget; memory = memory_in b.lengths r; labels = memory_in b.lengths b.labels; list = take (words_per_operation * b.operations) b.words }))
      (λ _. line_added n s (frame_of s) (case_in b) ≡ Progress.bad_line n)
  unfolding line_added case_in with_memory
  in_memory k (Ok u) r x y n = rw (e, k, x.0, x.1)
  in_memory k (Err z) r x y n = rw (e, k, y.0)

  pub in_labels : target ≡ Target.Labels → (q : Result Unit BadLine) (r : Spaces (List ℕ))
      → OnOk q ((in_space (memory_in b.lengths b.labels) space offset count ≡ true) × (memory_in b.lengths r ≡ stored (memory_in b.lengths b.labels) space offset (bytes_on count s)))
      → OnErr q ((in_space (memory_in b.lengths b.labels) space offset count ≡ false) × (r ≡ b.labels))
      → (n : ℕ) → MatchResult q
      (λ _. line_added n s (frame_of s) (case_in b)
      ≡ Progress.reading (record { settings = b.settings; budget = b.budget; memory = memory_in b.lengths b.memory; labels = memory_in b.lengths r; list = take (words_per_operation * b.operations) b.words }))
      (λ _. line_added n s (frame_of s) (case_in b) ≡ Progress.bad_line n)
  unfolding line_added case_in with_labels
  in_labels k (Ok u) r x y n = rw (e, k, x.0, x.1)
  in_labels k (Err z) r x y n = rw (e, k, y.0)

module _ (b : Buffers) (s : List ℕ) (e : frame_of s ≡ Some Operation) where
  -- what is known of such a line
  pub words_line : operation_length ≤ length s
  words_line = let h : length s ≡ operation_length = rw e at (frame_line s) in omega (arith, h)

  module _ (w : length b.words ≡ words_room) where
    count : operation_count (take (words_per_operation * b.operations) b.words) ≡ b.operations
    unfolding operation_count
    count =
        let few : words_per_operation * b.operations ≤ length b.words = omega (arith, w, b.few) in
        let e : length (take (words_per_operation * b.operations) b.words) ≡ words_per_operation * b.operations = length-take-le (words_per_operation * b.operations) b.words few in
        rw e (omega arith)

    -- no room for its words
    pub full : b.operations ≡ most_case_operations → (n : ℕ) → line_added n s (frame_of s) (case_in b) ≡ Progress.bad_line n
    unfolding line_added case_in
    full k n = rw (e, count, k) refl

    module _ (h : b.operations < most_case_operations) where
      -- the part that they are stored in
      pub next_part : length (mid_of (words_per_operation * b.operations) (words_per_operation * b.operations + words_per_operation - words_per_operation * b.operations) b.words) ≡ words_per_operation
      next_part = simp (length-take, length-drop) (omega (arith, w, h))

      -- its words, where there is room for them
      pub one_more : {ys : List ℕ} → ys ≡ words_on s → (n : ℕ) → line_added n s (frame_of s) (case_in b)
          ≡ Progress.reading (record {
            settings = b.settings;
            budget = b.budget;
            memory = memory_in b.lengths b.memory;
            labels = memory_in b.lengths b.labels;
            list = take (words_per_operation * (b.operations + 1)) (put_mid (words_per_operation * b.operations) (words_per_operation * b.operations + words_per_operation - words_per_operation * b.operations) b.words ys);
          })
      unfolding line_added case_in with_operation words_on
      one_more {ys} y n =
          let five : length ys ≡ words_per_operation = ap length y ∙ tabulate-length words_per_operation _ in
          let front = put_front (words_per_operation * (b.operations + 1)) (words_per_operation * b.operations) (words_per_operation * b.operations + words_per_operation - words_per_operation * b.operations) b.words ys (omega (arith, five)) (omega (arith, five)) (omega (arith, w, h)) in
          rw (e, count, lt-ltb b.operations most_case_operations h, front, y) refl

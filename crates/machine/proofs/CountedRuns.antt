-- The counts beside a run that repeats one operation: what moves them, and that a run gone on with goes on with them.
use Prim.Native.Nat.{ℕ, zero, suc, ◌+◌}
use native.Mathlib.Nat.{zero-add, suc-add}
use mathlib.Core.Bool.{true}
use mathlib.Core.List.{List}
use mathlib.Core.Path.{◌≡◌, refl, sym, ap, ◌∙◌}
use lib.ListN.{length, drop}
use Rattle.operation.specs.Spaces.{Lengths}
use Rattle.secret_counts.specs.Moved.{secret_weight}
use Rattle.machine.specs.Program.{Program}
use Rattle.machine.specs.Memory.{Memory, lengths_of}
use Rattle.machine.specs.Run.{Position, Ended, Stepped, ended, stepped, continued, run}
use Rattle.machine.specs.Calls.{log_after, starting}
use Rattle.machine.specs.Counts.{counts_after, counted_on, run_counts, counts_fit}
use Rattle.machine.specs.MovedCounts.{MovedSpaces}
use Rattle.machine.specs.Recounts.{WordsOf}
use Rattle.machine.proofs.Budget.{Repeats, run_repeats, Goes, Later, later_ended, later, fresh, fresh_later}
use Rattle.machine.proofs.Kept.{KeptStep}
use Rattle.machine.proofs.Counts.{counts_goes}
use Rattle.machine.proofs.Runs.{Steps, repeated_laws, stepped_laws, started_kept}
use Rattle.machine.proofs.Resume.{room_left}
use Rattle.machine.proofs.MovedCounts.{moved_spaces_none, moved_spaces_on, moved_spaces_told, moved_spaces_lengths, after-moved, after-words}

-- ---- labels that changed, any number of times, their lengths kept

pub data Turns (labels counts : Memory) : (labels' counts' : Memory) → Type 0 where
  none : Turns labels counts labels counts
  more : {l c : Memory} → Turns labels counts l c → (l' : Memory) → lengths_of l' ≡ lengths_of l → Turns labels counts l' (counts_after l l' c)

pub turns_on : {a b counts counts' c counts'' : Memory} → Turns a counts b counts' → Turns b counts' c counts'' → Turns a counts c counts''
turns_on p none = p
turns_on p (more q l' e) = more (turns_on p q) l' e

module _ {labels counts : Memory} where
  pub turns_lengths : {labels' counts' : Memory} → Turns labels counts labels' counts' → lengths_of labels' ≡ lengths_of labels
  turns_lengths none = refl
  turns_lengths (more p l' e) = e ∙ turns_lengths p

  pub turns_words : {labels' counts' : Memory} → Turns labels counts labels' counts' → WordsOf counts → WordsOf counts'
  turns_words none w = w
  turns_words (more {l} {c} p l' e) w = after-words l l' c (turns_words p w)

  pub turns_moved : {labels' counts' : Memory} → counts_fit (lengths_of labels) (lengths_of counts) ≡ true → Turns labels counts labels' counts'
      → MovedSpaces secret_weight labels labels' counts counts'
  turns_moved t none = moved_spaces_none labels counts
  turns_moved t (more {l} {c} p l' e) =
      let q = turns_moved t p in
      moved_spaces_on (turns_lengths p) q (after-moved l l' c e (rw (turns_lengths p, moved_spaces_lengths q) t))

  -- turned back to the same labels, words of 64 bits are the same again
  pub turns_back : {counts' : Memory} → counts_fit (lengths_of labels) (lengths_of counts) ≡ true → WordsOf counts → Turns labels counts labels counts' → counts' ≡ counts
  turns_back t w p = moved_spaces_told (turns_words p w) w (turns_moved t p) (moved_spaces_none labels counts)

-- ---- the run

-- Counts C beside a run of an operation S: W is what each operation does to them before its own labels move them.
pub record Moves (S : Position → Memory → Memory → Stepped) (W : Position → (labels m counts : Memory) → Memory)
    (C : ℕ → Position → (labels m counts : Memory) → Memory) : Type 0 where
  pub none : (at : Position) (labels m counts : Memory) → C 0 at labels m counts ≡ counts
  pub next : (b : ℕ) (at : Position) (labels m counts : Memory) → C (suc b) at labels m counts ≡ counted_on (C b) labels (W at labels m counts) (S at labels m)

pub run-moves : (program : Program) → Moves (stepped program) (λ at labels m counts. counts) (run_counts program)
unfolding run_counts
run-moves program = record { none = λ at labels m counts. refl; next = λ b at labels m counts. refl }

module _ {program : Program} {P : Position → Memory → Memory → Ended → Type 0} {S : Position → Memory → Memory → Stepped} {R : ℕ → Position → Memory → Memory → Ended}
    {W : Position → (labels m counts : Memory) → Memory} {C : ℕ → Position → (labels m counts : Memory) → Memory}
    (steps : Steps program P S) (u : Repeats program S R) (v : Moves S W C) where
  continued_turns : (f : Position → Memory → Memory → Ended) (g : Position → (labels m counts : Memory) → Memory)
      → ((at : Position) (labels m counts : Memory) → Turns labels counts (f at labels m).labels (g at labels m counts))
      → (labels counts : Memory) {words : ℕ} {spaces : Lengths} {a : Stepped} → KeptStep words spaces labels a
      → Turns labels counts (continued f a).labels (counted_on g labels counts a)
  unfolding continued counted_on
  continued_turns f g h labels counts (KeptStep.halts {r} k) = more none r.labels k.lengths
  continued_turns f g h labels counts (KeptStep.goes {at} {labels = l} {m} k) = turns_on (more none l k.lengths) (h at l m (counts_after labels l counts))

  -- each operation moves the counts by the labels that it changed, after what W does
  pub run_turns : ((at : Position) (labels m counts : Memory) → Turns labels counts labels (W at labels m counts))
      → (b : ℕ) (at : Position) (labels m counts : Memory) → Turns labels counts (R b at labels m).labels (C b at labels m counts)
  unfolding ended
  run_turns w zero at labels m counts = rw (u.none at labels m, v.none at labels m counts) none
  run_turns w (suc b) at labels m counts =
      rw (u.next b at labels m, v.next b at labels m counts)
      (turns_on (w at labels m counts)
      (continued_turns _ _ (λ at' l m' c. run_turns w b at' l m' c) labels (W at labels m counts)
      (steps.kept (at.room + length at.log) (lengths_of m) labels at labels m (record { log = refl; memory = refl; lengths = refl; values = λ q. q }))))

  -- ---- gone on with

  continued_more : (f : Position → Memory → Memory → Ended) (g h k : Position → (labels m counts : Memory) → Memory)
      → ((at : Position) (labels m counts : Memory) → (f at labels m).ending ≡ 2
      → g at labels m counts ≡ h (f at labels m).position (f at labels m).labels (f at labels m).memory (k at labels m counts))
      → (labels counts : Memory) {a : Stepped} → Goes a → (continued f a).ending ≡ 2
      → counted_on g labels counts a ≡ h (continued f a).position (continued f a).labels (continued f a).memory (counted_on k labels counts a)
  unfolding continued counted_on
  continued_more f g h k q labels counts (Goes.halts ne) e = absurd (ne e)
  continued_more f g h k q labels counts (Goes.goes {at} {labels = l} {m}) e = q at l m (counts_after labels l counts) e

  counts_more : (b c : ℕ) (at : Position) (labels m counts : Memory) → (let r = R b at labels m in
      r.ending ≡ 2 → C (b + c) at labels m counts ≡ C c r.position r.labels r.memory (C b at labels m counts))
  unfolding ended
  counts_more zero c at labels m counts e = rw (zero-add, u.none at labels m, v.none at labels m counts) refl
  counts_more (suc b) c at labels m counts e =
      rw (suc-add, v.next (b + c) at labels m counts, u.next b at labels m, v.next b at labels m counts)
      (continued_more _ _ (C c) (C b) (λ at' l m' d e'. counts_more b c at' l m' d e') labels (W at labels m counts) (counts_goes (steps.counts at labels m)) (rw (u.next b at labels m) at e))

  -- the count and the log of a position do not matter
  module _ (anywhere : (n : ℕ) (words : List ℕ) (at : Position) (labels m counts : Memory) → W (later n words at) labels m counts ≡ W at labels m counts) where
    continued_later : (n : ℕ) (words : List ℕ) (f : Position → (labels m counts : Memory) → Memory)
        → ((at : Position) (labels m counts : Memory) → f (later n words at) labels m counts ≡ f at labels m counts)
        → (labels counts : Memory) {a b : Stepped} → Later n words a b → counted_on f labels counts a ≡ counted_on f labels counts b
    unfolding counted_on later_ended ended
    continued_later n words f h labels counts Later.halts = refl
    continued_later n words f h labels counts (Later.goes {at} {labels = l} {m}) = h at l m (counts_after labels l counts)

    counts_later : (n : ℕ) (words : List ℕ) (b : ℕ) (at : Position) (labels m counts : Memory) → C b (later n words at) labels m counts ≡ C b at labels m counts
    counts_later n words zero at labels m counts = v.none (later n words at) labels m counts ∙ sym (v.none at labels m counts)
    counts_later n words (suc b) at labels m counts =
        rw (v.next b (later n words at) labels m counts, v.next b at labels m counts, anywhere n words at labels m counts)
        (continued_later n words (C b) (λ at' l m' d. counts_later n words b at' l m' d) labels (W at labels m counts) (steps.carried n words at labels m))

    -- two runs, the second begun anew, against one run
    counts_resumed : (b c : ℕ) (at : Position) (labels m counts : Memory) → (let r = R b at labels m in
        r.ending ≡ 2 → C c (fresh r.position) r.labels r.memory (C b at labels m counts) ≡ C (b + c) at labels m counts)
    counts_resumed b c at labels m counts e =
        let r = R b at labels m in
        sym (counts_more b c at labels m counts e
        ∙ ap (λ (p : Position). C c p r.labels r.memory (C b at labels m counts)) (sym (fresh_later r.position))
        ∙ counts_later r.position.executed r.position.log c (fresh r.position) r.labels r.memory (C b at labels m counts))

    pub counts_restarted : (start b c : ℕ) (log : List ℕ) (labels m counts : Memory) → (let at = starting start (length log) in
        let r = R b at labels m in
        let left = drop (length r.position.log) (log_after r.position.log log) in
        r.ending ≡ 2 → C c (starting r.position.index (length left)) r.labels r.memory (C b at labels m counts) ≡ C (b + c) at labels m counts)
    counts_restarted start b c log labels m counts e =
        rw (room_left log (R b (starting start (length log)) labels m).position (started_kept (repeated_laws steps u) start b log labels m).log)
        (counts_resumed b c (starting start (length log)) labels m counts e)

-- ---- the labelled run

pub run_turned : (program : Program) (budget : ℕ) (at : Position) (labels m counts : Memory)
    → Turns labels counts (run program budget at labels m).labels (run_counts program budget at labels m counts)
run_turned program = run_turns (stepped_laws program) (run_repeats program) (run-moves program) (λ at labels m counts. none)

module _ (program : Program) (budget : ℕ) (at : Position) (labels m counts : Memory) where
  pub run_moved : counts_fit (lengths_of labels) (lengths_of counts) ≡ true
      → MovedSpaces secret_weight labels (run program budget at labels m).labels counts (run_counts program budget at labels m counts)
  run_moved t = turns_moved t (run_turned program budget at labels m counts)

  pub run_counts_lengths : counts_fit (lengths_of labels) (lengths_of counts) ≡ true → lengths_of (run_counts program budget at labels m counts) ≡ lengths_of counts
  run_counts_lengths t = moved_spaces_lengths (run_moved t)

  pub run_counts-words : WordsOf counts → WordsOf (run_counts program budget at labels m counts)
  run_counts-words = turns_words (run_turned program budget at labels m counts)

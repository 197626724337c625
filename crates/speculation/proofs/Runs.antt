-- The laws of the speculative run, by those of one operation with its window.
use Prim.Native.Nat.{ℕ, suc, ◌+◌, ◌≤◌}
use native.Mathlib.Omega.{arith}
use mathlib.Core.Bool.{Bool, true, false, cond, ◌&&◌}
use mathlib.Core.List.{List, [], ◌∷◌, append_assoc}
use mathlib.Core.Path.{◌≡◌, refl, ap}
use lib.Dec.{eqb}
use lib.ListN.{length, length-append}
use Rattle.operation.specs.Spaces.{Lengths}
use Rattle.machine.specs.Program.{Program}
use Rattle.machine.specs.Memory.{Memory}
use Rattle.machine.specs.Effect.{operation_at}
use Rattle.machine.specs.Run.{Position, Ended, Stepped, ended, stepped}
use Rattle.machine.proofs.Cases.{either₂}
use Rattle.machine.proofs.Budget.{Repeats, Ends, stepped_ends, Later, later, later_ended, stepped_later}
use Rattle.machine.proofs.Kept.{Kept, KeptStep, stepped_kept}
use Rattle.machine.proofs.Counts.{Stopping, Counts, Stays, stepped_counts}
use Rattle.machine.proofs.Words.{Writes, stepped_writes}
use Rattle.machine.proofs.Runs.{Runs, Steps, repeated_laws}
use Rattle.speculation.specs.Window.{Way, Window, marked, with_words, uncounted, right_way, reached, after_window, tried, passed, speculated}
use Rattle.speculation.specs.Speculation.{speculate}
use Rattle.speculation.specs.Limits.{StoppedAt}
use Rattle.speculation.proofs.Windows.{Short, full, leaked, speculated_by}

pub speculate_repeats : (program : Program) (window : ℕ) → Repeats program (speculated program window) (speculate program window)
unfolding speculate
speculate_repeats program window = record { none = λ at labels m. refl; next = λ b at labels m. refl }

-- ---- at n, END

pub speculated_ends : (program : Program) (window : ℕ) (at : Position) (labels m : Memory) → Ends program (speculated program window) at labels m
unfolding speculated passed ended
speculated_ends program window at labels m e = rw (stepped_ends program at labels m e) (by (eqb (operation_at program.list at.index).opcode 5) _)
  where
    by : (t : Bool) (a : Stepped) → cond (t && false) a (Stepped.halted (ended 0 0 at labels m)) ≡ Stepped.halted (ended 0 0 at labels m)
    by true a = refl
    by false a = refl

-- ---- what it counts

short_stopping : {e : ℕ} → Short e → Stopping e
short_stopping full = Stopping.stop 34 (omega arith) (omega arith)
short_stopping leaked = Stopping.stop 35 (omega arith) (omega arith)

module _ {at : Position} {labels m : Memory} where
  stops_at : {r : Ended} → Stays at labels m r → StoppedAt at labels m r
  stops_at (p, l, x, v) =
      record { value = v; index = ap (λ (q : Position). q.index) p; executed = ap (λ (q : Position). q.executed) p; same_labels = l; same_memory = x }

  alone_counts : {a : Stepped} → Counts at (Stays at labels m) a → Counts at (StoppedAt at labels m) a
  alone_counts (Counts.stays e c p) = Counts.stays e c (stops_at p)
  alone_counts (Counts.exited e c) = Counts.exited e c
  alone_counts (Counts.goes c) = Counts.goes c

  right_counts : (w : Ended) {a : Stepped} → Counts at (StoppedAt at labels m) a → Counts at (StoppedAt at labels m) (right_way w a)
  unfolding right_way with_words ended
  right_counts w (Counts.stays e c p) =
      Counts.stays e c (record { value = p.value; index = p.index; executed = p.executed; same_labels = p.same_labels; same_memory = p.same_memory })
  right_counts w (Counts.exited e c) = Counts.exited e c
  right_counts w (Counts.goes c) = Counts.goes c

pub speculated_counts : (program : Program) (window : ℕ) (at : Position) (labels m : Memory)
    → Counts at (StoppedAt at labels m) (speculated program window at labels m)
unfolding ended with_words uncounted
speculated_counts program window at labels m =
    let right = alone_counts (stepped_counts program at labels m) in
    speculated_by program window labels m (Counts at (StoppedAt at labels m)) at right (λ w h. right_counts w right)
    (λ w h e s. Counts.stays (short_stopping s) refl
    (record { value = refl; index = refl; executed = refl; same_labels = refl; same_memory = refl }))

-- ---- what it keeps

pub marked-length : (ws : List ℕ) → length (marked ws) ≡ length ws
unfolding marked
marked-length [] = refl
marked-length (w ∷ ws) = rw (marked-length ws)

module _ (words : ℕ) (spaces : Lengths) (marks : Memory) where
  -- a window's words take up room that was left
  words_kept : (w : Ended) (at : Position) → w.position.room + length w.position.log ≡ at.room → at.room + length at.log ≡ words
      → (with_words w at).room + length (with_words w at).log ≡ words
  unfolding with_words
  words_kept w at h e = rw (length-append at.log (marked w.position.log), marked-length w.position.log) (omega (arith, h, e))

  right_kept : (w : Ended) (a : Stepped) → w.position.room + length w.position.log ≡ (reached a).room → KeptStep words spaces marks a
      → KeptStep words spaces marks (right_way w a)
  unfolding right_way reached ended
  right_kept w (Stepped.halted r) h (KeptStep.halts k) =
      KeptStep.halts (record { log = words_kept w r.position h k.log; memory = k.memory; lengths = k.lengths; values = k.values })
  right_kept w (Stepped.going at labels m) h (KeptStep.goes k) =
      KeptStep.goes (record { log = words_kept w at h k.log; memory = k.memory; lengths = k.lengths; values = k.values })

  reached_kept : (a : Stepped) → KeptStep words spaces marks a → (reached a).room + length (reached a).log ≡ words
  unfolding reached
  reached_kept (Stepped.halted r) (KeptStep.halts k) = k.log
  reached_kept (Stepped.going at labels m) (KeptStep.goes k) = k.log

  speculated_kept : (program : Program) (window : ℕ) (at : Position) (labels m : Memory) → Kept words spaces marks at labels m
      → KeptStep words spaces marks (speculated program window at labels m)
  unfolding ended uncounted
  speculated_kept program window at labels m k =
      let a = stepped program at labels m in
      let right = stepped_kept words spaces marks program at labels m k in
      speculated_by program window labels m (KeptStep words spaces marks) at right (λ w h. right_kept w a h.room right)
      (λ w h e s. KeptStep.halts (record {
        log = words_kept w (uncounted at (reached a)) h.room (reached_kept a right);
        memory = k.memory;
        lengths = k.lengths;
        values = k.values;
      }))

-- ---- how many log words it writes

module _ (window : ℕ) where
  words-written : (w : Ended) (at next : Position) → length w.position.log ≤ window → length next.log ≤ length at.log + 1
      → length (with_words w next).log ≤ length at.log + suc window
  unfolding with_words
  words-written w at next h l = rw (length-append next.log (marked w.position.log), marked-length w.position.log) (omega (arith, h, l))

  right_writes : (w : Ended) → length w.position.log ≤ window → (at : Position) {a : Stepped} → Writes 1 at a → Writes (suc window) at (right_way w a)
  unfolding right_way ended
  right_writes w h at (Writes.halts {r} l) = Writes.halts (words-written w at r.position h l)
  right_writes w h at (Writes.goes {next} l) = Writes.goes (words-written w at next h l)

  reached_writes : {at : Position} {a : Stepped} → Writes 1 at a → length (reached a).log ≤ length at.log + 1
  unfolding reached
  reached_writes (Writes.halts l) = l
  reached_writes (Writes.goes l) = l

  alone_writes : {at : Position} {a : Stepped} → Writes 1 at a → Writes (suc window) at a
  alone_writes (Writes.halts {r} l) = Writes.halts {r = r} (omega (arith, l))
  alone_writes (Writes.goes {next} {ls} {n} l) = Writes.goes {next = next} {ls = ls} {n = n} (omega (arith, l))

  -- its own, and at most W of its window
  pub speculated_writes : (program : Program) (at : Position) (labels m : Memory) → Writes (suc window) at (speculated program window at labels m)
  unfolding ended uncounted
  speculated_writes program at labels m =
      let right = stepped_writes program at labels m in
      speculated_by program window labels m (Writes (suc window) at) at (alone_writes right) (λ w h. right_writes w h.most at right)
      (λ w h e s. Writes.halts (words-written w at (uncounted at (reached (stepped program at labels m))) h.most (reached_writes right)))

-- ---- count and log are carried along

module _ (c : ℕ) (words : List ℕ) where
  words_later : (w : Ended) (at : Position) → with_words w (later c words at) ≡ later c words (with_words w at)
  unfolding with_words later
  words_later w at = rw append_assoc

  pub later_reached : {a b : Stepped} → Later c words a b → reached a ≡ later c words (reached b)
  unfolding reached later_ended ended
  later_reached Later.halts = refl
  later_reached Later.goes = refl

  pub later_passed : {a b : Stepped} → Later c words a b → passed a ≡ passed b
  unfolding passed later_ended ended
  later_passed Later.halts = refl
  later_passed Later.goes = refl

  right_later : (w : Ended) {a b : Stepped} → Later c words a b → Later c words (right_way w a) (right_way w b)
  unfolding right_way later_ended ended
  right_later w (Later.halts {r}) = rw (words_later w r.position) Later.halts
  right_later w (Later.goes {at}) = rw (words_later w at) Later.goes

  module _ (program : Program) (window : ℕ) (at : Position) (labels m : Memory) where
    after_later : {a b : Stepped} → Later c words a b → (w : Ended) (x : Window)
        → Later c words (after_window (later c words at) labels m a w x) (after_window at labels m b w x)
    unfolding after_window uncounted later later_ended ended
    after_later l w Window.closes = right_later w l
    after_later {a} {b} l w (Window.ends e) = rw (later_reached l, words_later w (uncounted at (reached b))) Later.halts

    tried_later : {a b : Stepped} → Later c words a b → (way : Way)
        → Later c words (tried program window (later c words at) labels m a way) (tried program window at labels m b way)
    unfolding tried later
    tried_later l Way.outside = l
    tried_later {a} {b} l (Way.inside i) = rw (later_reached l) (after_later l _ _)

    speculated_later : Later c words (speculated program window (later c words at) labels m) (speculated program window at labels m)
    unfolding speculated later
    speculated_later =
        let l = stepped_later c words program at labels m in
        rw (later_passed l)
        (either₂ (Later c words) (eqb (operation_at program.list at.index).opcode 5 && passed (stepped program at labels m)) _ _ _ _ (tried_later l _) l)

-- ---- the run

pub speculated_laws : (program : Program) (window : ℕ) → Steps program StoppedAt (speculated program window)
speculated_laws program window = record {
  ends = speculated_ends program window;
  carried = λ c words. speculated_later c words program window;
  counts = speculated_counts program window;
  kept = λ words spaces marks. speculated_kept words spaces marks program window;
}

pub speculate_laws : (program : Program) (window : ℕ) → Runs program (speculate program window)
speculate_laws program window = repeated_laws (speculated_laws program window) (speculate_repeats program window)

-- One turn of the speculative run: an operation by the labelled run, and its window.
use Rattle.std.proofs.Common.{◌≡◌, ℕ, zero, suc, ◌+◌, ◌-◌, ◌*◌, ◌%◌, ◌^◌, ◌<◌, ◌≤◌, Bool, true, false, cond, not, ◌&&◌, eqb, ltb, List, [], ◌++◌, length, take, drop, sym, refl, ap, ◌∙◌, subst, true≢false, arith, length-append, drop-drop, ltb-true, eq-eqb, eqb-true}
use borrow.Author.Tests.{eqb-false, not-true, not-false}
use lib.Seq.{take-append_seam, drop-append_seam}
use Rattle.integer.proofs.Booleans.{both}
use Rattle.operation.specs.declared.layout.Settings.{Settings}
use Rattle.operation.specs.declared.report.Report.{Report}
use Rattle.secret_counts.specs.Moved.{low_bit}
use Rattle.arithmetic.specs.Opcodes.{member}
use Rattle.operation.specs.Layout.{words_per_operation, operation_count, opcode_at, varnode_at}
use Rattle.operation.specs.Rules.{branches, relative_target}
use Rattle.validation.specs.Verdict.{most_operations, settings_in_range}
use Rattle.machine.specs.Program.{Program, program_of}
use Rattle.machine.specs.Memory.{Memory, OfBytes, lengths_of, value_at}
use Rattle.machine.specs.Effect.{Operation, Kind, operation_at, kind_of, target}
use Rattle.machine.specs.Run.{Decision, Position, Ended, Stepped, index_of, go_to, ended, apply_decision, execute_as, execute, stepped, continued, run}
use Rattle.machine.specs.Calls.{Outcome, log_after, outcome_of, labelled_outcome}
use Rattle.machine.specs.MovedCounts.{MovedSpaces}
use Rattle.machine.specs.Conditions.{Words}
use Rattle.machine.proofs.Cases.{either}
use Rattle.machine.proofs.Conditions.{absent-written}
use Rattle.machine.proofs.Limits.{log_length}
use Rattle.machine.proofs.Runs.{run_laws}
use Rattle.speculation.specs.Window.{Way, way_of, other_way, ahead, marked, with_words, uncounted}
use Rattle.speculation.specs.Speculation.{speculate}
use Rattle.speculation.proofs.Runs.{marked-length}
use Rattle.speculation.proofs.NoWindow.{speculate_same}
use Rattle.speculation.proofs.Unrolling.{after_ended, another_operation, stopped_operation, no_other_way, window_opened, WayBy, one_way}
use Rattle.run_plan.specs.Valid.{Valid}
use Rattle.run_plan.proofs.Bounds.{relative-target}
use Rattle.run_plan.proofs.Places.{in_words, index_small}
use Rattle.run_execution.specs.Loops.{position}
use Rattle.run_execution.proofs.Running.{run_end}
use Rattle.run_labelled.proofs.Parts.{part_kept}
use Rattle.run_window.specs.Windows.{window_outcome}
use Rattle.run_speculative.specs.Ways.{opens_window, other_index, ending_ahead, answer_after}

-- ---- a CBRANCH writes nothing

data Same (labels m : Memory) : Stepped → Type 0 where
  halts : {r : Ended} → r.labels ≡ labels → r.memory ≡ m → Same labels m (Stepped.halted r)
  goes : {at : Position} {ls n : Memory} → ls ≡ labels → n ≡ m → Same labels m (Stepped.going at ls n)

branch_applied : (program : Program) (op : Operation) (at : Position) (labels m : Memory) (x : ℕ) (d : Decision)
    → Same labels m (apply_decision program Kind.cbranch op at labels m x d)
unfolding apply_decision ended target
branch_applied program op at labels m x (Decision.stop e) = halts refl refl
branch_applied program op at labels m x (Decision.exit words d) = halts refl refl
branch_applied program op at labels m x (Decision.next words i) = goes (absent-written labels _ _ refl) (absent-written m _ _ refl)

module _ (program : Program) (at : Position) (labels m : Memory) where
  branch_same : (operation_at program.list at.index).opcode ≡ 5 → Same labels m (stepped program at labels m)
  unfolding stepped execute execute_as kind_of ended
  branch_same five =
      let k : Kind.cbranch ≡ kind_of (operation_at program.list at.index).opcode = sym (ap kind_of five) in
      either (Same labels m) (ltb at.index (operation_count program.list)) _ _
      (subst (λ (o : Kind). Same labels m (execute_as program o (operation_at program.list at.index) at labels m)) k (branch_applied program _ at labels m _ _))
      (halts refl refl)

  continued_same : {a : Stepped} → Same labels m a → ((continued (run program 0) a).labels ≡ labels) × ((continued (run program 0) a).memory ≡ m)
  unfolding continued run ended
  continued_same (halts l n) = (l, n)
  continued_same (goes l n) = (l, n)

  one_same : (operation_at program.list at.index).opcode ≡ 5 → ((run program 1 at labels m).labels ≡ labels) × ((run program 1 at labels m).memory ≡ m)
  unfolding run
  one_same five = continued_same (branch_same five)

-- ---- the answer, by what the window was

answer_by : (i : ℕ) (done went d : Report) (n e : ℕ) → done ≡ d → went.ending ≡ e → went.logged ≡ n
    → answer_after i done went
    ≡ cond (eqb (ending_ahead e) 0) (record { ending = d.ending; index = d.index; executed = d.executed; logged = n; value = d.value })
    (record { ending = ending_ahead e; index = i; executed = 0; logged = n; value = 0 })
unfolding answer_after
answer_by i done went d n e ed ee en = rw (ed, ee, en) refl

-- ---- one turn

-- what is known after the operation; `single` says that a turn which may open a window is one operation
pub record Ran (program : Program) (i k most window : ℕ) (log : List ℕ) (labels m : Memory) (done : Report) (m₁ labels₁ : Memory) (log₁ : List ℕ) : Type 0 where
  pub words : Words program.list
  pub bytes : OfBytes m
  pub valid : Valid (lengths_of m) program.list
  pub place : k ≤ length log
  pub fit : lengths_of labels ≡ lengths_of m
  pub single : eqb window 0 ≡ false → most ≤ 1
  pub left : labelled_outcome done m₁ labels₁ log₁ ≡ outcome_of log (run program most (position i k 0 log) labels m)

pub ran_from : (settings : Settings) (window : ℕ) {A B : Type 0} {list : List ℕ} {i k most : ℕ} {log : List ℕ} {labels m : Memory} {done : Report} {m₁ labels₁ : Memory} {log₁ : List ℕ}
    → Words list → OfBytes m
    → Valid (lengths_of m) list × (i ≤ operation_count list) × (k ≤ length log) × (lengths_of labels ≡ lengths_of m) × (settings_in_range settings ≡ true)
    × (eqb window 0 ≡ false → most ≤ 1) × A × B
    → labelled_outcome done m₁ labels₁ log₁ ≡ outcome_of log (run (program_of settings list) most (position i k 0 log) labels m)
    → Ran (program_of settings list) i k most window log labels m done m₁ labels₁ log₁
ran_from settings window words bytes pre left =
    record { words = words; bytes = bytes; valid = pre.0; place = pre.2; fit = pre.3; single = pre.5; left = left }

module _ {program : Program} {i k most window : ℕ} {log : List ℕ} {labels m : Memory} {done : Report} {m₁ labels₁ : Memory} {log₁ : List ℕ}
    (g : Ran program i k most window log labels m done m₁ labels₁ log₁) where
  abbrev at : Position
  at = position i k 0 log

  abbrev op : Operation
  op = operation_at program.list i

  abbrev r : Ended
  r = run program most at labels m

  is_executed : done.executed ≡ r.position.executed
  unfolding outcome_of
  is_executed = ap (λ (o : Outcome). o.report.executed) g.left

  is_index : done.index ≡ r.position.index
  unfolding outcome_of
  is_index = ap (λ (o : Outcome). o.report.index) g.left

  -- an operation was executed, so there is one
  inside : eqb window 0 ≡ false → eqb done.executed 0 ≡ false → i < operation_count program.list
  unfolding position ended
  inside w x = by (ltb i (operation_count program.list)) refl
    where
      by : (t : Bool) → ltb i (operation_count program.list) ≡ t → i < operation_count program.list
      by true t = ltb-true i (operation_count program.list) t
      by false t = absurd (eqb-false done.executed 0 x (is_executed ∙ ap (λ (q : Ended). q.position.executed) (run_end program most at labels m t)))

  pub may_test : eqb window 0 ≡ false → eqb done.executed 0 ≡ false → (words_per_operation * i + words_per_operation ≤ length program.list) × (i < most_operations)
  may_test w x = (in_words _ _ g.valid i (inside w x), index_small _ _ g.valid i (inside w x))

  abbrev opens : Bool
  opens = opens_window program.list i window done

  -- ---- a turn without a window

  -- a destination in the list
  goes_to : eqb (varnode_at program.list i 1).space 1 ≡ true → {t : ℕ} → index_of (relative_target i op.input0.offset) ≡ t → way_of (go_to i op.input0 []) ≡ Way.inside t
  unfolding go_to way_of operation_at
  goes_to s e = rw s (ap Way.inside e)

  -- a destination outside it
  leaves : eqb (varnode_at program.list i 1).space 1 ≡ false → way_of (go_to i op.input0 []) ≡ Way.outside
  unfolding go_to way_of operation_at
  leaves s = rw s refl

  -- the run of at most one operation, where nothing tells it from the labelled one
  same_most : (n : ℕ) → most ≡ n → n ≤ 1 → (most ≡ 1 → speculate program window 1 at labels m ≡ run program 1 at labels m)
      → speculate program window most at labels m ≡ r
  unfolding speculate run
  same_most zero z h one = rw z refl
  same_most (suc zero) z h one = rw z (one z)
  same_most (suc (suc n)) z h one = absurd (omega (arith, h))

  executed_one : most ≡ 1 → eqb done.executed 0 ≡ false → (run program 1 at labels m).position.executed ≡ 1
  unfolding position
  executed_one z x =
      let c = ((run_laws program).counts 1 at labels m).counted in
      let n : done.executed ≡ (run program 1 at labels m).position.executed = is_executed ∙ rw z refl in
      let y = eqb-false done.executed 0 x in
      omega (arith, c, n, y)

  -- an executed CBRANCH to outside the list, not taken
  left : most ≡ 1 → eqb done.executed 0 ≡ false → opcode_at program.list i ≡ 5
      → eqb done.index (suc i) && not (eqb (varnode_at program.list i 1).space 1) ≡ true → speculate program window 1 at labels m ≡ run program 1 at labels m
  unfolding operation_at position
  left z x five t =
      let b = both (eqb done.index (suc i)) (not (eqb (varnode_at program.list i 1).space 1)) t in
      let w = one_way program at labels m five (executed_one z x) in
      let n : (run program 1 at labels m).position.index ≡ suc i = sym (is_index ∙ rw z refl) ∙ eqb-true done.index (suc i) b.0 in
      no_other_way program window at labels m (w.following n ∙ leaves (not-true _ b.1))

  one_alone : opens ≡ false → eqb window 0 ≡ false → most ≡ 1 → speculate program window 1 at labels m ≡ run program 1 at labels m
  unfolding opens_window operation_at position
  one_alone shut w z = by (eqb done.executed 0) refl (eqb (opcode_at program.list i) 5) refl
    where
      by : (x : Bool) → eqb done.executed 0 ≡ x → (f : Bool) → eqb (opcode_at program.list i) 5 ≡ f
          → speculate program window 1 at labels m ≡ run program 1 at labels m
      by true x f ef = stopped_operation program window at labels m (sym (is_executed ∙ rw z refl) ∙ eqb-true done.executed 0 x)
      by false x false ef = another_operation program window at labels m ef
      by false x true ef =
          left z x (eqb-true (opcode_at program.list i) 5 ef)
          (not-false (eqb done.index (suc i) && not (eqb (varnode_at program.list i 1).space 1)) (rw (w, x, ef) at shut))

  pub alone : opens ≡ false → labelled_outcome done m₁ labels₁ log₁ ≡ outcome_of log (speculate program window most at labels m)
  alone shut = g.left ∙ ap (outcome_of log) (sym (by (eqb window 0) refl))
    where
      by : (t : Bool) → eqb window 0 ≡ t → speculate program window most at labels m ≡ r
      by true t = let z : window ≡ 0 = eqb-true window 0 t in rw z (speculate_same program most at labels m)
      by false t = same_most most refl (g.single t) (one_alone shut t)

  -- ---- a turn that opens a window

  -- what the test found
  record Opened : Type 0 where
    some : eqb window 0 ≡ false
    ran : eqb done.executed 0 ≡ false
    branch : opcode_at program.list i ≡ 5
    stays : eqb done.index (suc i) && not (eqb (varnode_at program.list i 1).space 1) ≡ false

  opened : opens ≡ true → Opened
  unfolding opens_window
  opened t = by (eqb window 0) refl (eqb done.executed 0) refl
    where
      by : (w : Bool) → eqb window 0 ≡ w → (x : Bool) → eqb done.executed 0 ≡ x → Opened
      by true w x ex = absurd (true≢false (sym (rw w at t)))
      by false w true ex = absurd (true≢false (sym (rw (w, ex) at t)))
      by false w false ex =
          let b = both (eqb (opcode_at program.list i) 5) (not (eqb done.index (suc i) && not (eqb (varnode_at program.list i 1).space 1))) (rw (w, ex) at t) in
          record { some = w; ran = ex; branch = eqb-true (opcode_at program.list i) 5 b.0; stays = not-true _ b.1 }

  module _ (t : opens ≡ true) where
    o : Opened
    o = opened t

    within : i < operation_count program.list
    within = inside o.some o.ran

    pub may_look : (words_per_operation * i + words_per_operation ≤ length program.list) × (i < most_operations)
    may_look = may_test o.some o.ran

    pub some_window : 0 < window
    some_window = let n = eqb-false window 0 o.some in omega (arith, n)

    -- it was one operation
    is_one : most ≡ 1
    unfolding position
    is_one = by most refl (g.single o.some)
      where
        by : (n : ℕ) → most ≡ n → n ≤ 1 → most ≡ 1
        by zero z h =
            let c = ((run_laws program).counts most at labels m).counted in
            absurd (eqb-false done.executed 0 o.ran (let x : done.executed ≤ 0 + most = rw is_executed c in omega (arith, x, z)))
        by (suc zero) z h = z
        by (suc (suc n)) z h = absurd (omega (arith, h))

    abbrev one : Ended
    one = run program 1 at labels m

    is : labelled_outcome done m₁ labels₁ log₁ ≡ outcome_of log one
    is = g.left ∙ ap (λ (n : ℕ). outcome_of log (run program n at labels m)) is_one

    pub same_memory : m₁ ≡ m
    unfolding outcome_of operation_at position
    same_memory = ap (λ (x : Outcome). x.memory) is ∙ (one_same program at labels m o.branch).1

    pub same_labels : labels₁ ≡ labels
    unfolding outcome_of operation_at position
    same_labels = ap (λ (x : Outcome). x.labels) is ∙ (one_same program at labels m o.branch).0

    abbrev other : ℕ
    other = other_index program.list i done.index

    is_branch : branches op.opcode ≡ true
    unfolding branches member operation_at
    is_branch = rw o.branch refl

    -- where the code goes is the other way, and in the list
    other_is : (other_way op i (value_at program.settings m op.input1) ≡ Way.inside other) × (other ≤ operation_count program.list)
    unfolding other_index operation_at position
    other_is = by (eqb done.index (suc i)) refl
      where
        w : WayBy op i (value_at program.settings m op.input1) one.position.index
        w = one_way program at labels m o.branch (executed_one is_one o.ran)

        next : done.index ≡ one.position.index
        next = is_index ∙ ap (λ (n : ℕ). (run program n at labels m).position.index) is_one

        by : (n : Bool) → eqb done.index (suc i) ≡ n
            → (other_way op i (value_at program.settings m op.input1) ≡ Way.inside (cond n ((i + (varnode_at program.list i 1).offset) % 2 ^ 64) (suc i)))
            × (cond n ((i + (varnode_at program.list i 1).offset) % 2 ^ 64) (suc i) ≤ operation_count program.list)
        by true n =
            let s : eqb (varnode_at program.list i 1).space 1 ≡ true = not-false _ (rw n at o.stays) in
            let t = relative-target program m i g.valid within g.words g.bytes is_branch s in
            (w.following (sym next ∙ eqb-true done.index (suc i) n) ∙ goes_to s t.0, t.1)
        by false n = (w.elsewhere (λ z. eqb-false done.index (suc i) n (next ∙ z)), within)

    -- ---- what is asked of the window

    is_log : log₁ ≡ log_after one.position.log log
    unfolding outcome_of
    is_log = ap (λ (x : Outcome). x.log) is

    is_logged : done.logged ≡ length one.position.log
    unfolding outcome_of
    is_logged = ap (λ (x : Outcome). x.report.logged) is

    kept : one.position.room + length one.position.log ≡ length log
    kept = (part_kept (run_laws program) 1 i k log labels m g.place).log

    log_kept : length log₁ ≡ length log
    log_kept = ap length is_log ∙ log_length one.position.log log (let n = kept in omega (arith, n))

    pub may_open : Valid (lengths_of m₁) program.list × (other ≤ operation_count program.list) × (done.logged ≤ length log₁) × (lengths_of labels₁ ≡ lengths_of m₁)
    may_open = (rw same_memory g.valid, other_is.1, rw (log_kept, is_logged) (let n = kept in omega (arith, n)), rw (same_memory, same_labels) g.fit)

    -- ---- after the window

    abbrev w : Ended
    w = ahead program window other one.position.room labels m

    speculated : speculate program window most at labels m ≡ after_ended at labels m one w
    unfolding operation_at position
    speculated =
        ap (λ (n : ℕ). speculate program window n at labels m) is_one
        ∙ window_opened program window at labels m (eq-eqb (opcode_at program.list i) 5 o.branch) (executed_one is_one o.ran) other other_is.0

    -- the words of the operation, then those of its window
    words-after : log_after (take done.logged log₁ ++ marked w.position.log) log₁ ≡ log_after (one.position.log ++ marked w.position.log) log
    unfolding log_after
    words-after =
        let own : List ℕ = one.position.log in
        let ws : List ℕ = marked w.position.log in
        let front : take (length own) (own ++ drop (length own) log) ≡ own = take-append_seam own (drop (length own) log) in
        let rest : drop (length own + length ws) (own ++ drop (length own) log) ≡ drop (length own + length ws) log =
        sym (drop-drop (length ws) (length own) (own ++ drop (length own) log)) ∙ ap (drop (length ws)) (drop-append_seam own (drop (length own) log))
        ∙ drop-drop (length ws) (length own) log in
        rw (is_logged, is_log, front, length-append own ws, rest) refl

    module _ (start : ℕ) (es : start ≡ other) (went : Report) (m₂ labels₂ : Memory) (log₂ : List ℕ)
        (ew : labelled_outcome went m₂ labels₂ log₂
        ≡ window_outcome done.logged log₁ labels₁ m₁ (ahead program window start (length log₁ - done.logged) labels₁ m₁)) where
      left_by : labelled_outcome went m₂ labels₂ log₂ ≡ window_outcome done.logged log₁ labels m w
      left_by =
          let room : length log₁ - done.logged ≡ one.position.room = rw (log_kept, is_logged) (let n = kept in omega (arith, n)) in
          ew ∙ rw (es, same_memory, same_labels, room) refl

      is_report : done ≡ record {
        ending = one.ending;
        index = one.position.index;
        executed = one.position.executed;
        logged = length one.position.log;
        value = one.value;
      }
      unfolding outcome_of
      is_report = ap (λ (x : Outcome). x.report) is

      is_went : went.ending ≡ w.ending
      unfolding window_outcome
      is_went = ap (λ (x : Outcome). x.report.ending) left_by

      words_counted : went.logged ≡ length (one.position.log ++ marked w.position.log)
      unfolding window_outcome
      words_counted =
          ap (λ (x : Outcome). x.report.logged) left_by
          ∙ rw (is_logged, length-append one.position.log (marked w.position.log), marked-length w.position.log) refl

      -- bytes and labels are back
      pub memory_back : m₂ ≡ m
      unfolding window_outcome
      memory_back = ap (λ (x : Outcome). x.memory) left_by

      pub labels_back : labels₂ ≡ labels
      unfolding window_outcome
      labels_back = ap (λ (x : Outcome). x.labels) left_by

      pub answered : (answer : Report) → answer ≡ answer_after i done went
          → labelled_outcome answer m₂ labels₂ log₂ ≡ outcome_of log (speculate program window most at labels m)
      unfolding ending_ahead after_ended outcome_of with_words uncounted ended window_outcome position operation_at
      answered answer ea =
          let eg : log₂ ≡ log_after (one.position.log ++ marked w.position.log) log = ap (λ (x : Outcome). x.log) left_by ∙ words-after in
          rw (ea ∙ answer_by i done went _ _ _ is_report is_went words_counted, memory_back, labels_back, eg, speculated) (by (eqb w.ending 31) (eqb w.ending 34))
        where
          own : Position
          own = one.position

          all : List ℕ
          all = own.log ++ marked w.position.log

          by : (s f : Bool)
              → labelled_outcome
              (cond (eqb (cond s 35 (cond f 34 0)) 0)
              (record { ending = one.ending; index = own.index; executed = own.executed; logged = length all; value = one.value })
              (record { ending = cond s 35 (cond f 34 0); index = i; executed = 0; logged = length all; value = 0 })) m labels (log_after all log)
              ≡ outcome_of log
              (cond s (ended 35 0 (with_words w (uncounted at own)) labels m)
              (cond f (ended 34 0 (with_words w (uncounted at own)) labels m) (ended one.ending one.value (with_words w own) one.labels one.memory)))
          by true f = refl
          by false true = refl
          by false false = let same = one_same program at labels m o.branch in rw (same.0, same.1) refl

-- ---- the counts

-- a window leaves them, and the labels, as it found them
pub past_window : {labels₀ labels labels' counts₀ counts counts' : Memory} → labels' ≡ labels → counts' ≡ counts
    → MovedSpaces low_bit labels₀ labels counts₀ counts → MovedSpaces low_bit labels₀ labels' counts₀ counts'
past_window l c moved = rw (l, c) moved

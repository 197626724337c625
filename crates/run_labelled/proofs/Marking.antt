-- One labelled operation: the plain one, and the labels of what it wrote.
use Prim.Native.Nat.{ℕ, ◌*◌, ◌%◌, ◌^◌, ◌≤◌, ◌<◌}
use native.Mathlib.Nat.{add_comm, add-mul-mod_self_right, mod-eq_of_lt}
use native.Mathlib.Omega.{arith}
use mathlib.Core.Path.{◌≡◌, refl, sym, ap, subst, ◌∙◌}
use mathlib.Core.Bool.{Bool, true, false, cond, ◌&&◌, true≢false}
use mathlib.Core.List.{List, [], ◌∷◌, ◌++◌, append_assoc}
use borrow.Author.Tests.{leb-false}
use lib.Dec.{eqb, leb, ltb}
use lib.ListN.{length, get_or, take, drop, length-append}
use lib.Seq.{length-take-le, get_or-append_seam}
use Rattle.word.specs.Word.{bytes_of}
use Rattle.std.specs.Prelude.{Some, is_some}
use Rattle.arithmetic.specs.Opcodes.{member}
use Rattle.operation.specs.declared.layout.Varnode.{Varnode}
use Rattle.operation.specs.declared.report.Report.{Report}
use Rattle.operation.specs.Layout.{operation_count, absent}
use Rattle.operation.specs.Rules.{accesses, branches}
use Rattle.machine.specs.Program.{Program, big_endian}
use Rattle.machine.specs.Memory.{Memory, OfBytes, lengths_of, space_of, written, value_at}
use Rattle.machine.specs.Effect.{Operation, operation_at, pointee}
use Rattle.machine.specs.Run.{Position, log_word, advanced, ended, continued, run}
use Rattle.machine.specs.Calls.{Outcome, unlabelled, log_after, outcome_of, plain_outcome, labelled_outcome}
use Rattle.machine.specs.Conditions.{operand1, leaks, exceeds_space, out_of_bounds, divides_by_zero, writes_log, low_part, exits, destination_bytes, label_moved, becomes_secret, label_written, exact_labels, labels_after}
use Rattle.machine.specs.Conditions.{value_written, Words}
use Rattle.machine.proofs.Conditions.{few_operations, absent-written}
use Rattle.machine.proofs.Limits.{log_length}
use Rattle.run_memory.specs.Placed.{Placed}
use Rattle.run_plan.specs.declared.Plan.{Plan}
use Rattle.run_plan.specs.Valid.{Valid}
use Rattle.run_plan.specs.Plans.{control, failure, log_due, exit_plan, next_plan, planned}
use Rattle.run_plan.proofs.Bounds.{loaded_within, destination_placed, offset_small}
use Rattle.run_plan.proofs.Opcodes.{each_access, each_branch, no_access}
use Rattle.run_plan.proofs.Places.{valid_with, space_length, movable, branching}
use Rattle.run_plan.proofs.Steps.{number_in, words_of, applied, step_leak, step_applied, step_plain}
use Rattle.run_execution.specs.Loops.{position}
use Rattle.run_execution.proofs.Running.{ended_at, room_is, run_end}
use Rattle.run_taint.specs.Taint.{LabelWord}
use Rattle.run_labelled.specs.Turns.{offset_logged, Markable}

-- ---- what is marked

-- the code finds the byte offset p, and by it the target
module _ (op : Operation) (b p : ℕ) (ep : p ≡ b) (target : Varnode) (et : target ≡ destination_bytes op p) where
  target_found : target ≡ destination_bytes op b
  target_found = et ∙ ap (destination_bytes op) ep

  pub nowhere_found : (destination_bytes op b).space ≡ 0 → target.space ≡ 0
  nowhere_found z = ap (λ (v : Varnode). v.space) target_found ∙ z

  pub placed_found : (labels : Memory) → Placed labels (destination_bytes op b) → Placed labels target
  placed_found labels h = subst (Placed labels) (sym target_found) h

  pub marked : (big : Bool) (labels : Memory) (word : ℕ) (after : Memory) → LabelWord big labels op p word → after ≡ written labels target (bytes_of false target.size word)
      → after ≡ labels_after big labels op b
  unfolding labels_after
  marked big labels word after ew e = e ∙ rw (et, ew, ep) refl

  pub unmarked : (big : Bool) (labels : Memory) → target.space ≡ 0 → Placed labels (destination_bytes op b) → labels ≡ labels_after big labels op b
  unfolding labels_after
  unmarked big labels z h = sym (absent-written labels (destination_bytes op b) _ (h.nowhere (ap (λ (v : Varnode). v.space) (sym target_found) ∙ z)))

-- the byte offset is looked at by LOAD and STORE alone
other_offset : (big : Bool) (labels : Memory) (op : Operation) (b c : ℕ) → accesses op.opcode ≡ false → labels_after big labels op c ≡ labels_after big labels op b
unfolding labels_after exact_labels label_written label_moved destination_bytes becomes_secret
other_offset big labels op b c e = let n = no_access op.opcode e in rw (n.n2, n.n3) refl

other_target : (op : Operation) (b c : ℕ) → accesses op.opcode ≡ false → destination_bytes op c ≡ destination_bytes op b
unfolding destination_bytes
other_target op b c e = let n = no_access op.opcode e in rw n.n3 refl

-- ---- the plan of an operation that goes on

module _ (program : Program) (m : Memory) (op : Operation) (i a b : ℕ) (es : is_some (failure (planned program m op i a b).stop) ≡ false) where
  pub plan_inside : out_of_bounds m op b ≡ false
  unfolding planned control
  plan_inside = by (out_of_bounds m op b) refl
    where
      by : (t : Bool) → out_of_bounds m op b ≡ t → t ≡ false
      by true e = absurd (true≢false (rw e at es))
      by false e = refl

  pub plan_next : is_some (planned program m op i a b).stop ≡ false → planned program m op i a b ≡ next_plan op i b (value_written program m op a b)
  unfolding planned control exit_plan
  plan_next ex = by (divides_by_zero op b) refl (exits op b) refl
    where
      by : (z : Bool) → divides_by_zero op b ≡ z → (x : Bool) → exits op b ≡ x → planned program m op i a b ≡ next_plan op i b (value_written program m op a b)
      by true ez x exx = absurd (true≢false (rw (plan_inside, ez) at es))
      by false ez true exx = absurd (true≢false (rw (plan_inside, ez, exx) at ex))
      by false ez false exx = rw (plan_inside, ez, exx) refl

-- the low part of a log word
low_part_lem : (i b : ℕ) → b < 2 ^ 32 → log_word i b % 2 ^ 32 ≡ b
unfolding log_word
low_part_lem i b h = ap (λ (x : ℕ). x % 2 ^ 32) (add_comm (i * 2 ^ 32) b) ∙ add-mul-mod_self_right b i (2 ^ 32) ∙ mod-eq_of_lt h

access_logs : (op : Operation) → accesses op.opcode ≡ true → writes_log op ≡ true
unfolding writes_log member
access_logs op e = each_access (λ n. member n (2 ∷ 3 ∷ 5 ∷ []) ≡ true) refl refl op.opcode e

access_low : (op : Operation) (b : ℕ) → accesses op.opcode ≡ true → log_due op b ≡ Some b
unfolding log_due low_part
access_low op b e = rw (access_logs op e, each_access (λ n. eqb n 5 ≡ false) refl refl op.opcode e) refl

-- bounds are a matter of lengths
bounds_by_lengths : (labels m : Memory) (op : Operation) (b : ℕ) → lengths_of labels ≡ lengths_of m → out_of_bounds labels op b ≡ out_of_bounds m op b
unfolding out_of_bounds exceeds_space pointee
bounds_by_lengths labels m op b e =
    let n : length (space_of labels op.input0.offset) ≡ length (space_of m op.input0.offset) =
    sym (space_length labels op.input0.offset) ∙ rw e (space_length m op.input0.offset) in
    rw n refl

-- ---- one operation at index i, with the first k words of the log written

module _ (program : Program) (i k : ℕ) (log : List ℕ) (labels m : Memory) (words : Words program.list) (bytes : OfBytes m)
    (v : Valid (lengths_of m) program.list) (place : k ≤ length log) (fit : lengths_of labels ≡ lengths_of m) where
  abbrev at : Position
  at = position i k 0 log

  abbrev op : Operation
  op = operation_at program.list i

  abbrev a : ℕ
  a = value_at program.settings m op.input0

  abbrev b : ℕ
  b = operand1 program m op

  abbrev P : Plan
  P = planned program m op i a b

  -- LEAK is told without running anything
  pub leaked : i < operation_count program.list → leaks labels op ≡ true
      → labelled_outcome (record { ending = 31; index = i; executed = 0; logged = k; value = 0 }) m labels log ≡ outcome_of log (run program 1 at labels m)
  unfolding run position continued
  leaked inside e =
      ended_at log log k (record { place = place; long = refl; rest = refl }) 31 0 i 0 labels m
      ∙ ap (outcome_of log) (sym (ap (continued (run program 0)) (step_leak program at labels m words bytes v inside e)))

  module _ (done : Report) (m₁ : Memory) (log₁ : List ℕ) where
    abbrev Plainly : ℕ → Type 0
    Plainly most = plain_outcome done m₁ log₁ ≡ outcome_of log (run program most at unlabelled m)

    abbrev Labelled : ℕ → Memory → Type 0
    Labelled most after = labelled_outcome done m₁ after log₁ ≡ outcome_of log (run program most at labels m)

    -- what a labelled operation did, by its report
    pub data Done (most : ℕ) : Type 0 where
      stays : done.executed ≡ 0 → Labelled most labels → Done most
      leaves : done.ending ≡ 1 → Labelled most labels → Done most
      goes : (done.executed ≡ 0 → ⊥) → (done.ending ≡ 1 → ⊥) → i < operation_count program.list → out_of_bounds m op b ≡ false
          → (accesses op.opcode ≡ true → (k < length log₁) × (offset_logged op log₁ k ≡ b)) → Labelled most (labels_after (big_endian program.settings) labels op (offset_logged op log₁ k)) → Done most

    -- the same end with other labels
    relabel : (most e x : ℕ) (p : Position) (after n : Memory) → Plainly most → run program most at unlabelled m ≡ ended e x p unlabelled n
        → run program most at labels m ≡ ended e x p after n → Labelled most after
    unfolding outcome_of ended
    relabel most e x p after n plain q r =
        ap (λ (o : Outcome). labelled_outcome o.report o.memory after o.log) (plain ∙ ap (outcome_of log) q) ∙ ap (outcome_of log) (sym r)

    executed_is : (most e x : ℕ) (p : Position) (n : Memory) → Plainly most → run program most at unlabelled m ≡ ended e x p unlabelled n → done.executed ≡ p.executed
    unfolding outcome_of ended
    executed_is most e x p n plain q = ap (λ (o : Outcome). o.report.executed) (plain ∙ ap (outcome_of log) q)

    ending_is : (most e x : ℕ) (p : Position) (n : Memory) → Plainly most → run program most at unlabelled m ≡ ended e x p unlabelled n → done.ending ≡ e
    unfolding outcome_of ended
    ending_is most e x p n plain q = ap (λ (o : Outcome). o.report.ending) (plain ∙ ap (outcome_of log) q)

    log_is : (most e x : ℕ) (p : Position) (n : Memory) → Plainly most → run program most at unlabelled m ≡ ended e x p unlabelled n → log₁ ≡ log_after p.log log
    unfolding outcome_of ended
    log_is most e x p n plain q = ap (λ (o : Outcome). o.log) (plain ∙ ap (outcome_of log) q)

    -- it stopped where it stood
    stopped : (most e : ℕ) → Plainly most → run program most at unlabelled m ≡ ended e 0 at unlabelled m → run program most at labels m ≡ ended e 0 at labels m → Done most
    unfolding position
    stopped most e plain q r = stays (executed_is most e 0 at m plain q) (relabel most e 0 at labels m plain q r)

    -- no budget
    pub done_idle : Plainly 0 → Done 0
    unfolding run
    done_idle plain = stopped 0 (cond (ltb at.index (operation_count program.list)) 2 0) plain refl refl

    -- at n, END
    pub done_end : ltb i (operation_count program.list) ≡ false → Plainly 1 → Done 1
    unfolding position
    done_end e plain = stopped 1 0 plain (run_end program 1 at unlabelled m e) (run_end program 1 at labels m e)

    module _ (inside : i < operation_count program.list) where
      plain_step_lem : run program 1 at unlabelled m ≡ continued (run program 0) (applied program P at unlabelled unlabelled m)
      unfolding run position
      plain_step_lem = ap (continued (run program 0)) (step_plain program at m words bytes v inside)

      module _ (public : leaks labels op ≡ false) (plain : Plainly 1) where
        labelled_step : run program 1 at labels m ≡ continued (run program 0) (applied program P at labels (labels_after (big_endian program.settings) labels op b) m)
        unfolding run position
        labelled_step = ap (continued (run program 0)) (step_applied program at labels m words bytes v inside public)

        no_room : {t : Bool} → is_some P.log && leb (length log) k ≡ t → is_some P.log && eqb at.room 0 ≡ t
        unfolding position
        no_room e = rw (room_is (length log) k place) e

        module _ (es : is_some (failure P.stop) ≡ false) (ef : is_some P.log && leb (length log) k ≡ false) (ex : is_some P.stop ≡ false) where
          next : P ≡ next_plan op i b (value_written program m op a b)
          next = plan_next program m op i a b es ex

          abbrev after : Position
          after = advanced at P.next (words_of P i)

          abbrev n : Memory
          n = written m P.target (bytes_of (big_endian program.settings) P.target.size P.value)

          abbrev ending : ℕ
          ending = cond (ltb P.next (operation_count program.list)) 2 0

          went_plain : run program 1 at unlabelled m ≡ ended ending 0 after unlabelled n
          unfolding applied continued run advanced position
          went_plain = plain_step_lem ∙ rw (es, no_room ef, ex) refl

          went_labelled : run program 1 at labels m ≡ ended ending 0 after (labels_after (big_endian program.settings) labels op b) n
          unfolding applied continued run advanced position
          went_labelled = labelled_step ∙ rw (es, no_room ef, ex) refl

          -- the log word of LOAD and STORE
          logged : accesses op.opcode ≡ true → P.log ≡ Some b
          unfolding next_plan
          logged e = ap (λ (p : Plan). p.log) next ∙ access_low op b e

          room : accesses op.opcode ≡ true → k < length log
          room e = leb-false (length log) k (rw (logged e) at ef)

          word_at : accesses op.opcode ≡ true → get_or log₁ k 0 ≡ log_word i b
          unfolding advanced position words_of log_after
          word_at e =
              let w : log₁ ≡ (take k log ++ (log_word i b ∷ [])) ++ drop (length (take k log ++ (log_word i b ∷ []))) log =
              log_is 1 ending 0 after n plain went_plain ∙ rw (logged e) refl in
              let l : length (take k log) ≡ k = length-take-le k log place in
              seam _ w l
            where
              seam : (rest : List ℕ) → log₁ ≡ (take k log ++ (log_word i b ∷ [])) ++ rest → length (take k log) ≡ k → get_or log₁ k 0 ≡ log_word i b
              seam rest w l =
                  ap (λ (x : List ℕ). get_or x k 0) (w ∙ append_assoc (take k log) (log_word i b ∷ []) rest)
                  ∙ ap (λ (j : ℕ). get_or (take k log ++ log_word i b ∷ rest) j 0) (sym l)
                  ∙ get_or-append_seam (take k log) (log_word i b) rest 0

          small : accesses op.opcode ≡ true → b < 2 ^ 32
          small e = let h = offset_small program m i v inside b (plan_inside program m op i a b es) e in omega arith

          offset : accesses op.opcode ≡ true → offset_logged op log₁ k ≡ b
          unfolding offset_logged
          offset e = rw (e, word_at e) (low_part_lem i b (small e))

          longer : accesses op.opcode ≡ true → k < length log₁
          unfolding advanced position words_of
          longer e =
              let l : length (take k log ++ (log_word i b ∷ [])) ≤ length log = rw (length-append (take k log) (log_word i b ∷ []), length-take-le k log place) (let h = room e in omega arith) in
              let w : log₁ ≡ log_after (take k log ++ (log_word i b ∷ [])) log = log_is 1 ending 0 after n plain went_plain ∙ rw (logged e) refl in
              let h = room e in
              rw (w, log_length (take k log ++ (log_word i b ∷ [])) log l) h

          marks : labels_after (big_endian program.settings) labels op (offset_logged op log₁ k) ≡ labels_after (big_endian program.settings) labels op b
          marks = by (accesses op.opcode) refl
            where
              by : (t : Bool) → accesses op.opcode ≡ t → labels_after (big_endian program.settings) labels op (offset_logged op log₁ k) ≡ labels_after (big_endian program.settings) labels op b
              by true e = ap (labels_after (big_endian program.settings) labels op) (offset e)
              by false e = other_offset (big_endian program.settings) labels op b (offset_logged op log₁ k) e

          went : Done 1
          unfolding advanced position
          went =
              let x : done.executed ≡ 1 = executed_is 1 ending 0 after n plain went_plain in
              let e = ending_is 1 ending 0 after n plain went_plain in
              goes (λ z. omega arith) (λ z. not_one (ltb P.next (operation_count program.list)) (sym e ∙ z)) inside (plan_inside program m op i a b es)
              (λ t. (longer t, offset t)) (rw marks (relabel 1 ending 0 after (labels_after (big_endian program.settings) labels op b) n plain went_plain went_labelled))
            where
              not_one : (t : Bool) → ◌≡◌ {A = ℕ} (cond t 2 0) 1 → ⊥
              not_one true z = let q : ◌≡◌ {A = ℕ} 2 1 = z in omega arith
              not_one false z = let q : ◌≡◌ {A = ℕ} 0 1 = z in omega arith

        pub done_step : Done 1
        unfolding applied continued
        done_step = by (is_some (failure P.stop)) refl (is_some P.log && leb (length log) k) refl (is_some P.stop) refl
          where
            by : (s : Bool) → is_some (failure P.stop) ≡ s → (f : Bool) → is_some P.log && leb (length log) k ≡ f → (x : Bool) → is_some P.stop ≡ x → Done 1
            by true es f ef x ex = stopped 1 (number_in (failure P.stop)) plain (plain_step_lem ∙ rw es refl) (labelled_step ∙ rw es refl)
            by false es true ef x ex = stopped 1 34 plain (plain_step_lem ∙ rw (es, no_room ef) refl) (labelled_step ∙ rw (es, no_room ef) refl)
            by false es false ef true ex =
                let p : Position = advanced at at.index (words_of P at.index) in
                let q : run program 1 at unlabelled m ≡ ended 1 P.value p unlabelled m = plain_step_lem ∙ rw (es, no_room ef, ex) refl in
                leaves (ending_is 1 1 P.value p m plain q) (relabel 1 1 P.value p labels m plain q (labelled_step ∙ rw (es, no_room ef, ex) refl))
            by false es false ef false ex = went es ef ex

  -- ---- what may be marked

  module _ (log₁ : List ℕ) (inside : i < operation_count program.list) (bounds : out_of_bounds m op b ≡ false)
      (logged : accesses op.opcode ≡ true → (k < length log₁) × (offset_logged op log₁ k ≡ b)) where
    valid : Valid (lengths_of labels) program.list
    valid = valid_with fit v

    bounded : out_of_bounds labels op b ≡ false
    bounded = bounds_by_lengths labels m op b fit ∙ bounds

    target_is : destination_bytes op (offset_logged op log₁ k) ≡ destination_bytes op b
    target_is = by (accesses op.opcode) refl
      where
        by : (t : Bool) → accesses op.opcode ≡ t → destination_bytes op (offset_logged op log₁ k) ≡ destination_bytes op b
        by true e = ap (destination_bytes op) (logged e).1
        by false e = other_target op b (offset_logged op log₁ k) e

    loads_access : eqb op.opcode 2 ≡ true → accesses op.opcode ≡ true
    unfolding accesses member
    loads_access e = rw e refl

    -- a branch writes nothing
    writes_something : ((destination_bytes op (offset_logged op log₁ k)).space ≡ 0 → ⊥) → branches op.opcode ≡ false
    unfolding destination_bytes operation_at absent
    writes_something s = by (branches op.opcode) refl
      where
        by : (t : Bool) → branches op.opcode ≡ t → t ≡ false
        by false e = refl
        by true e =
            let small = few_operations (lengths_of m) program.list v.in_range in
            let h = branching m v.address_size program.list i (v.operations i inside) program.settings words bytes small e in
            absurd (s (rw (each_branch (λ n. eqb n 3 ≡ false) refl refl refl op.opcode e, h.no_output) refl))

    pub markable : Markable labels program.list log₁ i k
    unfolding operation_at pointee
    markable = record {
      valid = valid;
      index = inside;
      logged = λ t. (logged t).0;
      placed = rw target_is (destination_placed program labels i valid inside b bounded);
      readable = λ s. record {
        valid = valid;
        index = inside;
        no_branch = writes_something s;
        loaded = λ e.
            let h = movable labels valid.address_size program.list i (valid.operations i inside) (loads_access e) in
            rw (logged (loads_access e)).1 (record {
              size = h.loaded;
              known = h.space.1;
              nowhere = λ z. absurd (let s : 2 ≤ op.input0.offset = h.space.0 in let y : ⊥ = omega arith in y);
              within = λ z. loaded_within labels op b bounded e;
            });
      };
    }

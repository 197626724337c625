-- The papers' judge: the verdict on a list.
use Rattle.std.specs.Prelude.{ℕ, zero, suc, ◌+◌, ◌%◌, Bool, false, cond, not, ◌&&◌, ◌||◌, List, eqb, leb, length, Result, Ok, Err, ⊤}
use Rattle.word.specs.Word.{is_size}
use Rattle.arithmetic.specs.Opcodes.{most_inputs}
use Rattle.operation.specs.declared.layout.Settings.{Settings}
use Rattle.operation.specs.Spaces.{Lengths, Wordsizes}
use Rattle.operation.specs.declared.report.Refused.{Refused}
use Rattle.operation.specs.declared.report.Report.{Report}
use Rattle.operation.specs.Numbers.{number_of}
use Rattle.operation.specs.Layout.{words_per_operation, operation_count, opcode_at, varnode_at}
use Rattle.operation.specs.Rules.{breaks_head, breaks_shape_at, breaks_place, breaks_range, breaks_size, breaks_target}

-- Operations in a list, at most.
abbrev pub most_operations : ℕ
most_operations = 4096

-- Bytes of a space, at most.
abbrev pub most_bytes : ℕ
most_bytes = 65536

-- 10 SETTING, for wordsizes: one of them not 1 to 8.
unfoldable pub wordsizes_in_range : Wordsizes → Bool
wordsizes_in_range wordsizes = is_size wordsizes.unique && is_size wordsizes.register && is_size wordsizes.ram

-- 10 SETTING: byte order, A or a wordsize out of range.
unfoldable pub settings_in_range : Settings → Bool
settings_in_range settings = leb settings.order 1 && is_size settings.address_size && wordsizes_in_range settings.wordsizes

-- 11 LENGTH: word count not a multiple of 5, over 4,096 operations, a space over 65,536.
unfoldable pub lengths_in_range : Lengths → List ℕ → Bool
lengths_in_range lengths list =
    eqb (length list % words_per_operation) 0 && leb (operation_count list) most_operations
    && leb lengths.unique most_bytes && leb lengths.register most_bytes && leb lengths.ram most_bytes

-- f holds somewhere below n
unfoldable pub any_below : ℕ → (ℕ → Bool) → Bool
any_below zero f = false
any_below (suc n) f = any_below n f || f n

-- f holds at a place of an operation, the output's among them
unfoldable pub any_place : (ℕ → Bool) → Bool
any_place f = any_below (most_inputs + 1) f

-- 25 or 26, the rules on an operation as a whole, or 0.
unfoldable pub size_or_target : (address_size : ℕ) → List ℕ → (i : ℕ) → ℕ
size_or_target address_size list i =
    cond (breaks_size address_size (opcode_at list i) (varnode_at list i 0).size (varnode_at list i 1).size (varnode_at list i 2).size) 25
    (cond (breaks_target (operation_count list) i (opcode_at list i) (varnode_at list i 1)) 26 0)

-- The lowest rule that operation i breaks; 0 where it breaks none.
unfoldable pub lowest_rule : (address_size : ℕ) → Lengths → List ℕ → (i : ℕ) → ℕ
lowest_rule address_size lengths list i =
    let opcode : ℕ = opcode_at list i in
    cond (breaks_head list i) 21
    (cond (any_place (breaks_shape_at list i)) 22
    (cond (any_place (λ place. breaks_place opcode place (varnode_at list i place))) 23
    (cond (any_place (λ place. breaks_range lengths opcode place (varnode_at list i place))) 24
    (size_or_target address_size list i))))

-- The first malformed operation of a list, and the lowest rule that it breaks.
pub record Malformed : Type 0 where
  pub rule : ℕ
  pub index : ℕ

-- The first of m operations from index i on that breaks a rule, with the lowest rule it breaks; where there is none, rule 0 and the
-- index after them.
unfoldable pub first_malformed : (ℕ → ℕ) → (m i : ℕ) → Malformed
first_malformed rule zero i = record { rule = 0; index = i }
first_malformed rule (suc m) i = cond (eqb (rule i) 0) (first_malformed rule m (i + 1)) (record { rule = rule i; index = i })

-- A report of a call in which nothing ran.
unfoldable pub refusal_report : (ending index : ℕ) → Report
refusal_report ending index = record { ending = ending; index = index; executed = 0; logged = 0; value = 0 }

-- The first malformed operation of a list.
unfoldable pub malformed : (address_size : ℕ) → Lengths → List ℕ → Malformed
malformed address_size lengths list = first_malformed (lowest_rule address_size lengths list) (operation_count list) 0

-- What the code answers, as what it stands for: nothing found is rule 0 and the number of operations.
abbrev pub found : Result ⊤ Refused → (n : ℕ) → Malformed
found (Ok nothing) n = record { rule = 0; index = n }
found (Err r) n = record { rule = number_of r.why; index = r.index }

-- Its report.
abbrev pub reported : Result ⊤ Refused → (n : ℕ) → Report
reported r n = refusal_report (found r n).rule (found r n).index

-- The verdict: 10, 11, the rule and index of the first malformed operation, or 0 and the number of operations.
unfoldable pub verdict : Settings → Lengths → List ℕ → Report
verdict settings lengths list =
    cond (not (settings_in_range settings)) (refusal_report 10 0)
    (cond (not (lengths_in_range lengths list)) (refusal_report 11 0)
    (refusal_report (malformed settings.address_size lengths list).rule (malformed settings.address_size lengths list).index))

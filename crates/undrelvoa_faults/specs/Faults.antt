-- The number that each call of the C interface answers: the lowest of its faults, or 0.
use Rattle.std.specs.Prelude.{ℕ, ◌+◌, ◌^◌, Bool, cond, not, ◌&&◌, eqb, leb, ltb}
use Rattle.word.specs.Word.{is_size}
use Rattle.arithmetic.specs.Opcodes.{first_integer, last_integer, has_place}
use Rattle.arithmetic.specs.Operands.{divides, sizes_agree}
use Rattle.operation.specs.Numbers.{report_numbers}

-- Sizes of output, input0 and input1; an operation without an input1 has size1 = 0.
unfoldable pub sizes_present : (opcode size size0 size1 : ℕ) → Bool
sizes_present opcode size size0 size1 = is_size size && is_size size0 && cond (has_place opcode 2) (is_size size1) (eqb size1 0)

-- The address size where there is none: no integer operation looks at it.
abbrev pub no_address : ℕ
no_address = 0

-- undrelvoa_value; `room` is the number of words in which the result can go.
unfoldable pub value_fault : (opcode size size0 size1 a b room : ℕ) → ℕ
value_fault opcode size size0 size1 a b room =
    cond (eqb room 0) 11
    (cond (not (leb first_integer opcode && leb opcode last_integer)) 21
    (cond (not (sizes_present opcode size size0 size1)) 22
    (cond (not (ltb a (256 ^ size0) && ltb b (256 ^ size1))) 24
    (cond (not (sizes_agree no_address opcode size size0 size1)) 25
    (cond (divides opcode && eqb b 0) 33 0)))))

-- undrelvoa_gather, of a buffer of `length` bytes.
unfoldable pub gather_fault : (order length offset size room : ℕ) → ℕ
gather_fault order length offset size room =
    cond (not (leb order 1)) 10
    (cond (eqb room 0) 11
    (cond (not (is_size size)) 22
    (cond (not (leb (offset + size) length)) 24 0)))

-- undrelvoa_scatter, of a buffer of `length` bytes.
unfoldable pub scatter_fault : (order length offset size value : ℕ) → ℕ
scatter_fault order length offset size value =
    cond (not (leb order 1)) 10
    (cond (not (is_size size)) 22
    (cond (not (leb (offset + size) length && ltb value (256 ^ size))) 24 0))

-- The number of words of the settings: byte order, address size, wordsizes of unique, register and ram.
abbrev pub settings_length : ℕ
settings_length = 5

-- undrelvoa_validate, the runs and the steps. All else that can be wrong is an ending of the report.
unfoldable pub length_fault : (settings report : ℕ) → ℕ
length_fault settings report = cond (not (eqb settings settings_length && leb report_numbers report)) 11 0

-- undrelvoa_count_secrets. All else that can be wrong is an ending of the report.
unfoldable pub report_fault : (report : ℕ) → ℕ
report_fault report = cond (not (leb report_numbers report)) 11 0

-- The number of words of a place: space, offset, number of bytes.
abbrev pub place_length : ℕ
place_length = 3

-- undrelvoa_show.
unfoldable pub place_fault : (place : ℕ) → ℕ
place_fault place = cond (not (leb place_length place)) 11 0

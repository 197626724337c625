-- Big order is little order reversed, of the C calls that read and write bytes.
use Rattle.std.specs.Prelude.{ℕ, cond, List, reverse, ◌≡◌, eqb, length, get_or, set}
use Rattle.std.proofs.lemmas.List.Edits.{sets}
use Rattle.word.specs.Word.{part, value_of, bytes_of}
use Rattle.undrelvoa_faults.specs.Faults.{gather_fault, scatter_fault}

-- A call of `undrelvoa_gather` in an order, of `size` bytes at `offset`: the result's words before and after, the answer, and its `ensures`.
pub record GatherCallC (order : ℕ) (bytes : List ℕ) (offset size : ℕ) (out out' : List ℕ) (answer : ℕ) : Type 0 where
  pub ensures_answer : answer ≡ gather_fault order (length bytes) offset size (length out)
  pub ensures_buffer : out' ≡ cond (eqb answer 0) (set out 0 (value_of (eqb order 1) (part bytes offset size))) out

-- A call of `undrelvoa_scatter`, of `value` to `size` bytes at `offset`, that leaves `bytes'`.
pub record ScatterCallC (order : ℕ) (bytes : List ℕ) (offset size value : ℕ) (bytes' : List ℕ) (answer : ℕ) : Type 0 where
  pub ensures_answer : answer ≡ scatter_fault order (length bytes) offset size value
  pub ensures_buffer : bytes' ≡ cond (eqb answer 0) (sets bytes offset (bytes_of (eqb order 1) size value)) bytes

-- What is proved. Order 1 is big, 0 is little.
pub record BigIsLittleReversedC : Type 0 where
  -- Both orders are answered alike.
  pub gather_answers : (byte_count offset size room : ℕ) → gather_fault 1 byte_count offset size room ≡ gather_fault 0 byte_count offset size room
  pub scatter_answers : (byte_count offset size value : ℕ) → scatter_fault 1 byte_count offset size value ≡ scatter_fault 0 byte_count offset size value
  -- Where both answer 0, the value written for a part in big order is that written for the reversed bytes, wherever they lie, in little order.
  pub gathers : {bytes reversed big_out big_out' little_out little_out' : List ℕ} {offset offset' size : ℕ}
      → GatherCallC 1 bytes offset size big_out big_out' 0 → GatherCallC 0 reversed offset' size little_out little_out' 0
      → part reversed offset' size ≡ reverse (part bytes offset size) → get_or big_out' 0 0 ≡ get_or little_out' 0 0
  -- Where both answer 0, what a value leaves in big order is what it leaves in little order, wherever that is, reversed.
  pub scatters : {big big' little little' : List ℕ} {offset offset' size value : ℕ}
      → ScatterCallC 1 big offset size value big' 0 → ScatterCallC 0 little offset' size value little' 0
      → part big' offset size ≡ reverse (part little' offset' size)

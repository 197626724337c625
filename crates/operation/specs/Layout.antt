-- Wordsizes by space, and the list: how operations lie in their words.
use Rattle.std.specs.Prelude.{ℕ, ◌+◌, ◌*◌, ◌/◌, ◌%◌, ◌^◌, cond, List, eqb, length, get_or}
use Rattle.word.specs.Sum.{digit}
use Rattle.arithmetic.specs.Opcodes.{most_inputs}
use Rattle.operation.specs.declared.layout.Varnode.{Varnode}
use Rattle.operation.specs.Spaces.{Wordsizes}

-- One of three numbers, by the number of the space that it is for: 2 unique, 3 register, 4 ram; 0 for any other.
abbrev pub by_space : (space unique register ram : ℕ) → ℕ
by_space space unique register ram = cond (eqb space 2) unique (cond (eqb space 3) register (cond (eqb space 4) ram 0))

-- Wordsize 1 for each space: pointers count bytes.
abbrev pub all_one : Wordsizes
all_one = record { unique = 1; register = 1; ram = 1 }

-- The wordsize of a space, by its number.
unfoldable pub wordsize_of : Wordsizes → (space : ℕ) → ℕ
wordsize_of wordsizes space = by_space space wordsizes.unique wordsizes.register wordsizes.ram

-- Words to an operation: the head, then the offset of the output and those of the inputs.
abbrev pub words_per_operation : ℕ
words_per_operation = most_inputs + 2

-- Bytes of the head that are used: the opcode, then the descriptor of the output and those of the inputs. The others are spare.
abbrev pub head_bytes : ℕ
head_bytes = most_inputs + 2

-- n, the number of operations of a list; also the index of its end.
unfoldable pub operation_count : List ℕ → ℕ
operation_count list = length list / words_per_operation

-- Word k of operation i: word 0 is the head, the others are offsets.
unfoldable pub word_at : List ℕ → (i k : ℕ) → ℕ
word_at list i k = get_or list (words_per_operation * i + k) 0

-- Byte k of the head of operation i, least significant first.
unfoldable pub head_byte : List ℕ → (i k : ℕ) → ℕ
head_byte list i k = digit 256 (word_at list i 0) k

-- The number that the spare bytes of the head make.
unfoldable pub spare_at : List ℕ → (i : ℕ) → ℕ
spare_at list i = word_at list i 0 / 256 ^ head_bytes

-- Byte 0 is the opcode.
unfoldable pub opcode_at : List ℕ → (i : ℕ) → ℕ
opcode_at list i = head_byte list i 0

-- A varnode's place in its operation is 0 for the output, 1 for input0, and so on: its descriptor,
unfoldable pub descriptor_at : List ℕ → (i place : ℕ) → ℕ
descriptor_at list i place = head_byte list i (place + 1)

-- and its offset.
unfoldable pub offset_at : List ℕ → (i place : ℕ) → ℕ
offset_at list i place = word_at list i (place + 1)

-- No varnode: nothing is read from it, and nothing is written to it.
unfoldable pub absent : Varnode
absent = record { space = 0; offset = 0; size = 0 }

-- A descriptor is space × 16 + size.
unfoldable pub described_by : (descriptor offset : ℕ) → Varnode
described_by descriptor offset = record { space = descriptor / 16; offset = offset; size = descriptor % 16 }

-- The varnode at a place of operation i.
unfoldable pub varnode_at : List ℕ → (i place : ℕ) → Varnode
varnode_at list i place = described_by (descriptor_at list i place) (offset_at list i place)

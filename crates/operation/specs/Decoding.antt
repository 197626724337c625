-- What decoding the varnode at a place answers: the varnode, or that rule 22 is broken.
use Rattle.std.specs.Prelude.{ℕ, Bool, cond, List, Option, None, Some}
use Rattle.operation.specs.declared.layout.Varnode.{Varnode}
use Rattle.operation.specs.Layout.{opcode_at, descriptor_at, offset_at, described_by}
use Rattle.arithmetic.specs.Opcodes.{has_place}
use Rattle.operation.specs.Rules.{breaks_shape}

-- The varnode of a descriptor and its offset; `wanted`: the opcode has one at this place.
unfoldable pub decoded : (wanted : Bool) (descriptor offset : ℕ) → Option Varnode
decoded wanted descriptor offset = cond (breaks_shape wanted descriptor offset) None (Some (described_by descriptor offset))

-- The varnode at a place of operation i.
unfoldable pub decoded_at : List ℕ → (i place : ℕ) → Option Varnode
decoded_at list i place = decoded (has_place (opcode_at list i) place) (descriptor_at list i place) (offset_at list i place)

-- The number of each answer: 22 SHAPE where there is none, 0 for a varnode.
unfoldable pub rule_of : Option Varnode → ℕ
rule_of (Some v) = 0
rule_of None = 22

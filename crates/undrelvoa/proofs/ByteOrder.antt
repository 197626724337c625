-- A C call that answers 0 is a call of `gather` or `scatter`: so big order is little order reversed in the C calls too.
use Prim.Native.Nat.{ℕ}
use mathlib.Core.List.{List}
use mathlib.Core.Path.{◌≡◌, refl, sym, ap, ◌∙◌}
use contract.Lifetimes.{Lfts}
use denote.Triple.Clauses.{AtExit}
use borrow.Fn.Kinds.{Dens, res_t, ended_of}
use lib.Dec.{eqb}
use lib.ListN.{length, get_or, set}
use lib.Seq.{get_or-set_same}
use Rattle.word.specs.Word.{part, value_of}
use Rattle.word.specs.ByteOrder.{GatherCall, ScatterCall}
use Rattle.word.proofs.ByteOrder.{big_is_little_reversed}
use Rattle.undrelvoa_faults.specs.Faults.{gather_fault, scatter_fault}
use Rattle.undrelvoa_faults.proofs.Passed.{gather_passed, scatter_passed}
use Rattle.undrelvoa.specs.ByteOrder.{GatherCallC, ScatterCallC, BigIsLittleReversedC}
use Rattle.undrelvoa.proofs.undrelvoa_gather.Kinds as gather
use Rattle.undrelvoa.proofs.undrelvoa_gather.Reads as gather-contract
use Rattle.undrelvoa.proofs.undrelvoa_scatter.Kinds as scatter
use Rattle.undrelvoa.proofs.undrelvoa_scatter.Reads as scatter-contract

gathered : {order offset size : ℕ} {bytes out out' : List ℕ} → GatherCallC order bytes offset size out out' 0
    → GatherCall (eqb order 1) bytes offset size (get_or out' 0 0)
gathered {order} {offset} {size} {bytes} {out} {out'} c =
    let passed = gather_passed order (length bytes) offset size (length out) (sym c.ensures_answer) in
    let value : ℕ = value_of (eqb order 1) (part bytes offset size) in
    let first : get_or (set out 0 value) 0 0 ≡ value = get_or-set_same out 0 value 0 passed.0 in
    record { requires = (passed.1, passed.2); ensures = ap (λ (ws : List ℕ). get_or ws 0 0) c.ensures_buffer ∙ first }

scattered : {order offset size value : ℕ} {bytes bytes' : List ℕ} → ScatterCallC order bytes offset size value bytes' 0
    → ScatterCall (eqb order 1) bytes offset size value bytes'
scattered {order} {offset} {size} {value} {bytes} c =
    record { requires = scatter_passed order (length bytes) offset size value (sym c.ensures_answer); ensures = c.ensures_buffer }

gather_answers : (byte_count offset size room : ℕ) → gather_fault 1 byte_count offset size room ≡ gather_fault 0 byte_count offset size room
unfolding gather_fault
gather_answers byte_count offset size room = refl

scatter_answers : (byte_count offset size value : ℕ) → scatter_fault 1 byte_count offset size value ≡ scatter_fault 0 byte_count offset size value
unfolding scatter_fault
scatter_answers byte_count offset size value = refl

pub big_is_little_reversed_c : BigIsLittleReversedC
big_is_little_reversed_c =
    record {
      gather_answers = gather_answers;
      scatter_answers = scatter_answers;
      gathers = λ big little e. big_is_little_reversed.gathers (gathered big) (gathered little) e;
      scatters = λ big little. big_is_little_reversed.scatters (scattered big) (scattered little);
    }

-- the calls in the statement are those of the functions: what a call tells its caller makes one (the arguments are in the function's order)
module _ (κs : Lfts 2) where
  pub gather_call_c : (a : Dens κs gather.ps) (r : (res_t gather.r κs).Denot) (e : AtExit (ended_of 2 gather.ps gather.r) κs)
      → gather-contract.Learnt κs a r e
      → GatherCallC a.0 a.1.0.now a.1.1.0 a.1.1.1.0 a.1.1.1.1.0.now e.1.1.1.1.0.now r
  gather_call_c a r e learnt = record { ensures_answer = learnt.0; ensures_buffer = learnt.1 }

module _ (κs : Lfts 1) where
  pub scatter_call_c : (a : Dens κs scatter.ps) (r : (res_t scatter.r κs).Denot) (e : AtExit (ended_of 1 scatter.ps scatter.r) κs)
      → scatter-contract.Learnt κs a r e
      → ScatterCallC a.0 a.1.0.now a.1.1.0 a.1.1.1.0 a.1.1.1.1.0 e.1.0.now r
  scatter_call_c a r e learnt = record { ensures_answer = learnt.0; ensures_buffer = learnt.1 }

-- `run_plan::plan_at` meets its contract.
use Rattle.std.proofs.Common.{ap, ◌∙◌, arith}
use Rattle.machine.specs.Program.{program_of}
use Rattle.machine.specs.Memory.{value_at}
use Rattle.machine.specs.Effect.{operation_at}
use Rattle.machine.proofs.Conditions.{few_operations}
use Rattle.run_memory.proofs.Spaces.{value_read}
use Rattle.run_plan.proofs.Places.{placed, movable, addressable, branching, computable, in_words, index_small}
use Rattle.run_plan.proofs.Opcodes.{class_access, class_branch, class_data}
use Rattle.run_plan.proofs.Planning.{planned-access, planned_branch, planned_data}
use Rattle.run_plan.proofs.plan_at.Goals as goal

pub opcode_at-opcode-requires : goal.opcode_at-opcode-requires
opcode_at-opcode-requires c =
    let pre = c.requires in
    let h = in_words _ _ pre.0 _ pre.1 in
    omega arith

pub varnode_at-input1-requires : goal.varnode_at-input1-requires
varnode_at-input1-requires c =
    let pre = c.requires in
    (in_words _ _ pre.0 _ pre.1, omega arith)

pub value_at-b-requires : goal.value_at-b-requires
value_at-b-requires c =
    let pre = c.requires in
    rw c.varnode_at-input1.ensures (placed _ _ _ _ (pre.0.operations _ pre.1) 2 (omega arith) (λ z. absurd (omega arith)))

pub move_at-requires : goal.move_at-requires
move_at-requires c =
    let pre = c.requires in
    let m = movable _ _ _ _ (pre.0.operations _ pre.1) (class_access c.opcode_at-opcode.ensures c.class_of.ensures c.in-Access.is) in (
      in_words _ _ pre.0 _ pre.1,
      index_small _ _ pre.0 _ pre.1,
      m,
      addressable _ _ _ _ pre.2 pre.0 pre.1 m,
    )

pub returns-in-Access : goal.returns-in-Access
unfolding operation_at
returns-in-Access c =
    let pre = c.requires in
    let b = c.value_at-b.ensures ∙ value_read _ _ _ ∙ ap (value_at _ _) c.varnode_at-input1.ensures in
    let m = movable _ _ _ _ (pre.0.operations _ pre.1) (class_access c.opcode_at-opcode.ensures c.class_of.ensures c.in-Access.is) in
    c.move_at.ensures ∙ planned-access (program_of _ _) _ _ _ _ _ b m

pub branch_at-requires : goal.branch_at-requires
branch_at-requires c =
    let pre = c.requires in
    let bytes = c.are_bytes.ensures in
    let w = pre.0.operations _ pre.1 in
    let small = few_operations _ _ pre.0.in_range in
    let branch = class_branch c.opcode_at-opcode.ensures c.class_of.ensures c.in-Branch.is in
    (in_words _ _ pre.0 _ pre.1, index_small _ _ pre.0 _ pre.1, branching _ _ _ _ w c.args.settings (λ k. (c.type_inv.list k).fits) bytes small branch)

pub returns-in-Branch : goal.returns-in-Branch
unfolding operation_at
returns-in-Branch c =
    let pre = c.requires in
    let bytes = c.are_bytes.ensures in
    let w = pre.0.operations _ pre.1 in
    let small = few_operations _ _ pre.0.in_range in
    let branch = class_branch c.opcode_at-opcode.ensures c.class_of.ensures c.in-Branch.is in
    let b = c.value_at-b.ensures ∙ value_read _ _ _ ∙ ap (value_at _ _) c.varnode_at-input1.ensures in
    c.branch_at.ensures
    ∙ planned_branch (program_of _ _) _ _ _ _ _ b (branching _ _ _ _ w c.args.settings (λ k. (c.type_inv.list k).fits) bytes small branch)

pub varnode_at-input0-requires : goal.varnode_at-input0-requires
varnode_at-input0-requires c =
    let pre = c.requires in
    (in_words _ _ pre.0 _ pre.1, omega arith)

pub value_at-a-requires : goal.value_at-a-requires
value_at-a-requires c =
    let pre = c.requires in
    let straight = (class_data c.opcode_at-opcode.ensures c.class_of.ensures c.in-Data.is).1 in
    rw c.varnode_at-input0.ensures (placed _ _ _ _ (pre.0.operations _ pre.1) 1 (omega arith) (λ z. straight))

pub data_at-requires : goal.data_at-requires
data_at-requires c =
    let pre = c.requires in
    let bytes = c.are_bytes.ensures in
    let w = pre.0.operations _ pre.1 in
    let small = few_operations _ _ pre.0.in_range in
    let access = (class_data c.opcode_at-opcode.ensures c.class_of.ensures c.in-Data.is).0 in
    let branch = (class_data c.opcode_at-opcode.ensures c.class_of.ensures c.in-Data.is).1 in
    let a = c.value_at-a.ensures ∙ value_read c.args.settings _ _ ∙ ap (value_at _ _) c.varnode_at-input0.ensures in
    let b = c.value_at-b.ensures ∙ value_read c.args.settings _ _ ∙ ap (value_at _ _) c.varnode_at-input1.ensures in
    (in_words _ _ pre.0 _ pre.1, index_small _ _ pre.0 _ pre.1, computable _ _ _ _ w _ (λ k. (c.type_inv.list k).fits) bytes small access branch _ _ a b)

pub returns-in-Data : goal.returns-in-Data
unfolding operation_at
returns-in-Data c =
    let access = (class_data c.opcode_at-opcode.ensures c.class_of.ensures c.in-Data.is).0 in
    let a = c.value_at-a.ensures ∙ value_read _ _ _ ∙ ap (value_at _ _) c.varnode_at-input0.ensures in
    let b = c.value_at-b.ensures ∙ value_read _ _ _ ∙ ap (value_at _ _) c.varnode_at-input1.ensures in
    c.data_at.ensures ∙ rw a (planned_data (program_of _ _) _ _ _ _ _ b access)

-- `run_memory::varnode::value_at` meets its contract.
use mathlib.Core.Path.{sym, ◌∙◌}
use native.Mathlib.Omega.{arith}
use Rattle.run_memory.proofs.Spaces.{number_gathered, number_elsewhere}
use Rattle.run_memory.proofs.varnode.value_at.Goals as goal

pub returns-then-v-lt-UNIQUE : goal.returns-then-v-lt-UNIQUE
returns-then-v-lt-UNIQUE c =
    sym (number_elsewhere _ _ (λ e. omega arith) (λ e. omega arith) (λ e. omega arith) c.requires _)

pub returns : goal.returns
returns c = c.gather.ensures ∙ number_gathered _ _ c.if-v-lt-UNIQUE.false _ c.space_of-bytes.ensures _

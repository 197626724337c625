-- The loop's invariant: no operation before i breaks a rule, so the first that does is found from i on.
use Prim.Native.Nat.{◌-◌}
use mathlib.Core.Path.{◌≡◌}
use Rattle.operation.specs.Layout.{operation_count}
use Rattle.validation.specs.Verdict.{first_malformed, lowest_rule}
use Rattle.validation.proofs.first_malformed.Given as goal

abbrev pub invariant-loop-i : goal.invariant-loop-i
invariant-loop-i l =
    first_malformed (lowest_rule l.address_size l.lengths l.list) (operation_count l.list - l.i) l.i ≡ first_malformed (lowest_rule l.address_size l.lengths l.list) (operation_count l.list) 0

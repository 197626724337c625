use Rattle.std.proofs.Common.{ltb, ◌∙◌, rules, tests}
use Rattle.std.proofs.lemmas.Iterator.{YieldsList-from_slice}
use Rattle.std.proofs.lemmas.Iterator.Search.{all_from_yields_List}
use Rattle.case_hexadecimal.specs.Digits.{digit_of}
use Rattle.case_hexadecimal.proofs.Laws.{digit_known, all_pass}
use Rattle.case_hexadecimal.proofs.all_digits.Goals as goal

pub returns : goal.returns
returns c =
    let s = c.args.s.now in
    all_from_yields_List (λ n. ltb (digit_of n) 16) _ _ _ c.all.ensures.ran (YieldsList-from_slice s cc) (λ x b q k. search (rules, tests, digit_known)) ∙ all_pass s

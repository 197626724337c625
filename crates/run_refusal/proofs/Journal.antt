-- The test of the journal, after that of the labels or before it.
use mathlib.Core.Bool.{Bool, true, false, ◌&&◌, and-false}
use mathlib.Core.Path.{◌≡◌, refl}

pub journal_first : (labels journal lent : Bool) → labels && (journal && lent) ≡ journal && (labels && lent)
journal_first labels true lent = refl
journal_first labels false lent = and-false labels

-- Bytes that are moved go by the same rule: taking them from memory order to order by significance, or back, reverses them in big order and
-- leaves them as they lie in little order.
use Rattle.std.specs.Prelude.{ℕ, true, false, List, reverse, ◌≡◌}
use Rattle.machine.specs.Memory.{ordered}

-- What is proved.
pub record OrderedReverses : Type 0 where
  pub little : (bs : List ℕ) → ordered false bs ≡ bs
  pub big : (bs : List ℕ) → ordered true bs ≡ reverse bs

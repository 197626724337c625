-- The order of the refusals.
use borrow.Author.Tests.{lt-ltb, le-ltb, eq-eqb, ne_eqb}
use Rattle.machine.specs.Calls.{refusal}
use Rattle.machine.specs.Order.{RefusalsInOrder}

pub refusals_in_order : RefusalsInOrder
unfolding refusal
refusals_in_order settings lengths list start fitting valid =
    record {
      setting_refused = λ s. rw (s);
      length_refused = λ s l. rw (s, l);
      label_refused = λ s l v. rw (s, l, v);
      list_refused = λ s l v r. rw (s, l, v, ne_eqb _ 0 r);
      start_refused = λ s l v r h. rw (s, l, v, eq-eqb _ 0 r, lt-ltb _ _ h);
      nothing_refused = λ s l v r h. rw (s, l, v, eq-eqb _ 0 r, le-ltb _ _ h);
    }

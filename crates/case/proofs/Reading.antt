-- The text read so far, part by part.
use Rattle.std.proofs.Common.{ℕ, List, [], ◌++◌, refl, ap, ◌∙◌, append_assoc, Option, None, Some}
use Rattle.std.specs.Io.KnownBytes.{Consumes}
use Rattle.case_reader.specs.Stream.{HasRead, Advanced}
use Rattle.case_reader.specs.declared.stream.Reader.{Reader}
use Rattle.case.specs.Read.{Read}

-- What was read of a stream, whose bytes may be known.
pub record ReadOf (before after : Option (List ℕ)) (r : Reader) : Type 0 where
  pub so_far : Read r
  pub taken : Consumes before after so_far.text

consumes_none : (k : Option (List ℕ)) → Consumes k k []
consumes_none None = tt
consumes_none (Some xs) = refl

consumes_more : (a b d : Option (List ℕ)) (x y : List ℕ) → Consumes a b x → Consumes b d y → Consumes a d (x ++ y)
consumes_more None b d x y p q = tt
consumes_more (Some a) None d x y p q = absurd p
consumes_more (Some a) (Some b) None x y p q = absurd q
consumes_more (Some a) (Some b) (Some d) x y p q = rw append_assoc (p ∙ ap (λ (l : List ℕ). x ++ l) q)

pub read_none : {r : Reader} (k : Option (List ℕ)) → HasRead [] r → ReadOf k k r
read_none k h = record { so_far = record { text = []; read = h }; taken = consumes_none k }

pub read_part : {part : List ℕ} {r q : Reader} {a b d : Option (List ℕ)} → ReadOf a b r → Consumes b d part → Advanced part r q → ReadOf a d q
read_part {part} {a = a} {b = b} {d = d} h k p =
    record {
      so_far = record { text = h.so_far.text ++ part; read = p h.so_far.text h.so_far.read };
      taken = consumes_more a b d h.so_far.text part h.taken k;
    }

-- What the program knows of its input: it is a text. Of standard input nothing else is known.
use Rattle.std.specs.Prelude.{ℕ, List, Result, OnOk}
use Rattle.case_reader.specs.Stream.{HasRead}
use Rattle.case_reader.specs.declared.stream.Reader.{Reader}
use Rattle.case.specs.declared.ReadFailed.{ReadFailed}

-- The reader holds some text.
pub record Read (r : Reader) : Type 0 where
  pub text : List ℕ
  pub read : HasRead text r

-- Where no read failed, it holds this text.
abbrev pub ReadWhole : Result Unit ReadFailed → Reader → (text : List ℕ) → Type 0
ReadWhole result r text = OnOk result (HasRead text r)

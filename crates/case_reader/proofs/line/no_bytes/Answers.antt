use Rattle.case_reader.proofs.Storage.{memory_zeros}
use Rattle.case_reader.proofs.line.no_bytes.Goals as goal

pub returns : goal.returns
returns c = λ l f. memory_zeros l f

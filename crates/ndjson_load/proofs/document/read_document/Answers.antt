use Rattle.ndjson_load.proofs.Documented.{document_some, document_none}
use Rattle.ndjson_load.proofs.document.read_document.Goals as goal

pub returns-in-Ok : goal.returns-in-Ok
returns-in-Ok c = document_some _ _ c.in-Ok.ensures.ok.0 c.in-Ok.ensures.ok.1

pub returns-in_default : goal.returns-in_default
returns-in_default c = document_none _ (c.in-Err.ensures.err (λ memory. c.in_default.not-Memory (c.classify.ensures.memory.1 memory)))

use Rattle.json_document.proofs.Made.{made, not_made}
use Rattle.json_document.proofs.document.DocumentFromJsonDocuments.from_json.Goals as goal

pub returns-in-Ok : goal.returns-in-Ok
returns-in-Ok c = made _ _ _ c.in-Ok.ensures

pub returns-in-Err : goal.returns-in-Err
returns-in-Err c = λ u. not_made _ _ (c.in-Err.ensures u)

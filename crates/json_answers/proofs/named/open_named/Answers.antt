use Rattle.json_answers.proofs.Objects.{opened_with}
use Rattle.json_answers.proofs.named.open_named.Goals as goal

pub returns-in_ok-put_id-in-Some : goal.returns-in_ok-put_id-in-Some
returns-in_ok-put_id-in-Some c =
    opened_with c.key.result _ _ _ _ _ _ _ c.in-Some.is c.in_ok-open-in-Some.ensures c.in_ok-put_id-in-Some.ensures c.key.ensures

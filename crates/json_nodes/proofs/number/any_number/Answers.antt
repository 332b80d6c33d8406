use Rattle.std.proofs.Common.{◌≡◌, drop, get_or, true, false, ◌==◌, sym, ap, ◌∙◌, arith, take_all, length-drop}
use Rattle.fast_float.specs.Text.{scan}
use Rattle.serde_json.specs.Read.{number_of, number_from}
use Rattle.json_nodes.proofs.number.any_number.Goals as goal

pub returns-then-has_minus : goal.returns-then-has_minus
unfolding number_of
returns-then-has_minus c =
    let s = c.as_bytes-bytes.result.now in
    let minus : (get_or s 0 0 == 45) ≡ true = sym c.if-has_minus.ensures.minus in
    let behind = take_all _ (drop 1 s) (omega (arith, length-drop 1 s)) in
    let read : number_from true (scan (drop 1 s)) ≡ number_of s = rw minus in
    c.negative.ensures ∙ ap (λ t. number_from true (scan t)) behind ∙ read ∙ ap number_of c.as_bytes-bytes.ensures.value

pub returns-else-has_minus : goal.returns-else-has_minus
unfolding number_of
returns-else-has_minus c =
    let s = c.as_bytes-bytes.result.now in
    let plain : (get_or s 0 0 == 45) ≡ false = sym c.if-has_minus.ensures.minus in
    let read : number_from false (scan s) ≡ number_of s = rw plain in
    c.positive.ensures ∙ read ∙ ap number_of c.as_bytes-bytes.ensures.value

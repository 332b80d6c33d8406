use Rattle.std.proofs.Common.{arith, rules, ◌≡◌, ◌<◌, ◌+◌, length, get_or, sym, ap, ◌∙◌}
use Rattle.std.proofs.lemmas.List.{length_push}
use Rattle.json_document.specs.Document.Modules.{types_behind}
use Rattle.json_document.proofs.Distinct.{found_again, put_last}
use Rattle.json_document.proofs.module.UniqueArenaTypeFromJsonDocuments.from_json.Goals as goal

pub returns-then-index : goal.returns-then-index
returns-then-index c u =
    let ts = c.as_slice-ty-items.result.now in
    let t = c.in_ok-clone.field-0 in
    let less : c.in_ok-handle.handle < length c.loop-index.arena = omega (arith, c.loop-index.invariant.at) in
    let is : t ≡ get_or ts c.loop-index.index t = search rules in
    let none = found_again ts c.loop-index.arena c.insert.new.self c.loop-index.index c.in_ok-handle.handle t t c.loop-index-test.true is c.in_ok-handle.ensures.place c.in_ok-handle.ensures.added less c.loop-index.invariant.rest in
    rw c.in_ok-types.ensures (ap (types_behind _) (sym c.as_slice-ty-items.ensures) ∙ none)

pub loop-index-preserved : goal.loop-index-preserved
loop-index-preserved c =
    let ts = c.as_slice-ty-items.result.now in
    let t = c.in_ok-clone.field-0 in
    let other : c.in_ok-handle.handle < length c.loop-index.arena → ⊥ = λ less. omega (arith, c.loop-index.invariant.at, less) in
    let is : t ≡ get_or ts c.loop-index.index t = search rules in
    let next = put_last ts c.loop-index.arena c.insert.new.self c.loop-index.index c.in_ok-handle.handle t t c.loop-index-test.true is c.in_ok-handle.ensures.place c.in_ok-handle.ensures.found c.in_ok-handle.ensures.added other c.loop-index.invariant.rest in
    record {
      at = ap length next.0 ∙ length_push c.loop-index.arena t ∙ ap (λ n. n + 1) c.loop-index.invariant.at;
      rest = rw next.0 next.1;
    }

use Rattle.std.proofs.Common.{rules, ◌≡◌, false, sym, ◌∙◌}
use Rattle.std.specs.Option.{option_copied}
use Rattle.check_scope.specs.Results.{is_result}
use Rattle.check_scope.specs.walk.Place.{place_at}
use Rattle.check_scope.specs.walk.SeenContext.{context_of}
use Rattle.check_scope.specs.walk.Table.{known}
use Rattle.check_flow.proofs.Emits.{emitted_stops, emitted_last}
use Rattle.check_flow.proofs.emit.check_emitted_points.Goals as goal

pub returns-in_err-check_operands : goal.returns-in_err-check_operands
returns-in_err-check_operands c =
    let o = option_copied c.expression-expression.result in
    let no : is_result o ≡ false = sym c.is_result.ensures ∙ c.if-is_result.false in
    let stops = emitted_stops (context_of c.args.context.now) (place_at (known c.args.scope.now)) c.args.handle o c.in_err-check_operands.field-0.0 c.expression-expression.ensures no c.in_err-check_operands.ensures in
    search (rules, stops)

pub returns : goal.returns
returns c =
    let o = option_copied c.expression-expression.result in
    let no : is_result o ≡ false = sym c.is_result.ensures ∙ c.if-is_result.false in
    c.check_put.ensures ∙ sym (emitted_last (context_of c.args.context.now) (place_at (known c.args.scope.now)) c.args.handle o c.expression-expression.ensures no (sym c.in_ok-check_operands.ensures))

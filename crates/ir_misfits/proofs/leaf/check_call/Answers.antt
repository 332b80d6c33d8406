use Rattle.std.proofs.Common.{◌++◌, rules}
use Rattle.std.specs.Result.{result_err}
use Rattle.ir_arena.specs.Points.{points_of_each}
use Rattle.ir_misfits.specs.declared.misfit.HandleOf.TheVariants.{Functions}
use Rattle.ir_misfits.specs.declared.misfit.Place.TheVariants.{InStatement}
use Rattle.ir_misfits.specs.declared.misfit.StatementField.TheVariants as field
use Rattle.ir_misfits.specs.MisfitPoints.{named}
use Rattle.ir_misfits.specs.OfSignatures.{callee_points}
use Rattle.ir_misfits.specs.OfBodies.{call_argument_points, names_if}
use Rattle.ir_misfits.proofs.Walks.{goes_on, passes_in, stops_in}
use Rattle.ir_misfits.proofs.leaf.check_call.Goals as goal

pub returns-in_err-check_callee : goal.returns-in_err-check_callee
returns-in_err-check_callee c =
    let ranges = c.args.ranges.now in
    let at = InStatement c.args.owner c.args.number field.Function in
    let first = named at Functions ranges.earlier c.args.function in
    let rest = points_of_each (call_argument_points ranges.expressions c.args.owner c.args.number) c.args.arguments.now ++ names_if ranges.expressions c.args.owner c.args.number field.Result c.args.answer in
    let holds = rw c.index.ensures.value at c.in_ok-names.ensures in
    let told = stops_in first.0 first.1 (callee_points ranges.module.now at c.args.function) rest c.in_err-check_callee.field-0.0 holds c.in_err-check_callee.ensures in
    search (rules, told)

pub returns : goal.returns
returns c =
    let ranges = c.args.ranges.now in
    let at = InStatement c.args.owner c.args.number field.Function in
    let first = named at Functions ranges.earlier c.args.function in
    let callee = callee_points ranges.module.now at c.args.function in
    let given = points_of_each (call_argument_points ranges.expressions c.args.owner c.args.number) c.args.arguments.now in
    let last = names_if ranges.expressions c.args.owner c.args.number field.Result c.args.answer in
    let answered = result_err c.names_if_any.result in
    let holds = rw c.index.ensures.value at c.in_ok-names.ensures in
    let behind = passes_in given last answered c.in_ok-check_call_arguments.ensures c.names_if_any.ensures in
    goes_on first.0 first.1 (callee ++ (given ++ last)) answered holds (passes_in callee (given ++ last) answered c.in_ok-check_callee.ensures behind)

use Rattle.std.proofs.Common.{rules, None, Some, sym, ap, ◌∙◌}
use Rattle.std.specs.Result.{result_err}
use Rattle.ir_arena.specs.Points.{points_of_each}
use Rattle.check_statement.specs.Declarations.{variable_points, argument_points, result_points}
use Rattle.check_scope.specs.walk.SeenContext.{context_of}
use Rattle.check_body.proofs.Each.{third_decides}
use Rattle.ir_facts.proofs.Refusals.{refuses_first, refuses_second}
use Rattle.check_body.proofs.declarations.check_declarations.Goals as goal

pub returns-in_err-check_locals : goal.returns-in_err-check_locals
returns-in_err-check_locals c = search (rules, refuses_first)

pub returns-in_err-check_arguments : goal.returns-in_err-check_arguments
returns-in_err-check_arguments c = search (rules, refuses_first, refuses_second)

pub returns-in-Ok : goal.returns-in-Ok
returns-in-Ok c =
    let context = context_of c.args.context.now in
    third_decides (points_of_each (variable_points context c.args.infos.now) context.fun.local_variables) (points_of_each (argument_points context c.args.infos.now c.args.entry_point) context.fun.arguments) (result_points c.args.infos.now c.args.entry_point context.fun.result) None c.in_ok-check_locals.ensures c.in_ok-check_arguments.ensures (sym c.check_result.ensures ∙ ap result_err c.in-Ok.is)

pub returns-in-Err : goal.returns-in-Err
returns-in-Err c =
    let context = context_of c.args.context.now in
    third_decides (points_of_each (variable_points context c.args.infos.now) context.fun.local_variables) (points_of_each (argument_points context c.args.infos.now c.args.entry_point) context.fun.arguments) (result_points c.args.infos.now c.args.entry_point context.fun.result) (Some c.new.result) c.in_ok-check_locals.ensures c.in_ok-check_arguments.ensures (sym c.check_result.ensures ∙ ap result_err c.in-Err.is ∙ ap Some (sym c.new.ensures))

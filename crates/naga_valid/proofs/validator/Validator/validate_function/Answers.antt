use Rattle.std.proofs.Common.{rules, ◌≡◌, Result, Ok, Err}
use Rattle.ir_arena.specs.declared.span.Refusal.{Refusal}
use Rattle.ir_errors.specs.declared.function.FunctionError.{FunctionError}
use Rattle.ir_facts.specs.Answers.{Answers, Exactly, leaving}
use Rattle.check_laws.proofs.FunctionLaw.{is_sound, fills_once, is_of_all_stages, has_no_return_in_continuing, has_whole_switches}
use Rattle.check_statement.specs.FunctionJudgement.{FunctionOutcome}
use Rattle.naga_valid.proofs.FunctionSteps.{lower_refuses}
use Rattle.naga_valid.proofs.validator.Validator.validate_function.Goals as goal

-- what an accepted function leaves
left_is : (right : Result FunctionOutcome FunctionError) (left : FunctionOutcome) (r : Result Unit (Refusal FunctionError)) → r ≡ Ok tt → Answers (Exactly right) (leaving left r) → right ≡ Ok left
left_is right left (Ok u) is judged = judged
left_is right left (Err e) is judged = cc

pub returns-in_err-info-clause-judged : goal.returns-in_err-info-clause-judged
returns-in_err-info-clause-judged g c = search (rules, lower_refuses)

pub returns-in-Ok-clause-sound : goal.returns-in-Ok-clause-sound
returns-in-Ok-clause-sound g c = is_sound _ _ _ _ _ _ _ _ _ (left_is _ _ _ c.in-Ok.is c.judge_known-judged.ensures.judged)

pub returns-in-Ok-clause-filled : goal.returns-in-Ok-clause-filled
returns-in-Ok-clause-filled g c = fills_once _ _ _ _ _ _ _ _ _ (left_is _ _ _ c.in-Ok.is c.judge_known-judged.ensures.judged)

pub returns-in-Ok-clause-stages : goal.returns-in-Ok-clause-stages
returns-in-Ok-clause-stages g c = is_of_all_stages _ _ _ _ _ _ _ _ _ (left_is _ _ _ c.in-Ok.is c.judge_known-judged.ensures.judged)

pub returns-in-Ok-clause-returns : goal.returns-in-Ok-clause-returns
returns-in-Ok-clause-returns g c = has_no_return_in_continuing _ _ _ _ _ _ _ _ _ (left_is _ _ _ c.in-Ok.is c.judge_known-judged.ensures.judged)

pub returns-in-Ok-clause-switches : goal.returns-in-Ok-clause-switches
returns-in-Ok-clause-switches g c = has_whole_switches _ _ _ _ _ _ _ _ _ (left_is _ _ _ c.in-Ok.is c.judge_known-judged.ensures.judged)

-- what edits of the gate leave open

pub returns-in-Err-clause-refused : goal.returns-in-Err-clause-refused
returns-in-Err-clause-refused g c = search rules

use Rattle.std.proofs.Common.{rules, ◌≡◌, true, Option, Some, None, Result, Ok, Err, refl, ap, sym, subst, ◌∙◌}
use Rattle.std.specs.Result.{result_err}
use Rattle.ir_arena.specs.Points.{first_fault}
use Rattle.ir_facts.specs.Answers.{Answers, Exactly, FirstOf, refusal_read_by}
use Rattle.ir_facts.specs.declared.valid.info.FunctionInfo.{FunctionInfo}
use Rattle.check_laws.proofs.Chains.{fits_calls_below}
use Rattle.check_entry.specs.EntryFaults.{fault_of}
use Rattle.check_entry.specs.EntryUses.{with_own_uses}
use Rattle.check_entry.specs.EntryVaryings.{with_blending}
use Rattle.check_entry.specs.InterfacePoints.{interface_points}
use Rattle.check_entry.specs.Start.{start_points}
use Rattle.check_statement.specs.FunctionJudgement.{FunctionOutcome, function_judgement}
use Rattle.check_statement.specs.ValidatorParts.{ValidatorParts}
use Rattle.check_laws.specs.EntryJudgement.{entry_judgement, entry_outcome, of_function}
use Rattle.check_laws.proofs.EntryBodies.{entry_is_of_all_stages, entry_has_whole_switches}
use Rattle.check_laws.proofs.EntryBuiltIns.{accepted_built_ins}
use Rattle.check_laws.proofs.EntryChains.{entry_keeps_its_stage}
use Rattle.check_laws.proofs.EntryGroups.{accepted_locations}
use Rattle.check_laws.proofs.EntryFacts.{accepted_bindings, accepted_position}
use Rattle.naga_valid.proofs.EntryJudgement.{function_refuses, interface_decides, points_pass, points_refuse, start_refuses}
use Rattle.naga_valid.proofs.EntryUses.{one_use_each}
use Rattle.naga_valid.proofs.validator.Validator.validate_entry_point.Given as given
use Rattle.naga_valid.proofs.validator.Validator.validate_entry_point.Goals as goal
use Rattle.naga_valid.proofs.validator.Validator.validate_entry_point.Goals.{then-not-start_holds+in_default, else-not-start_holds}

-- a fault before the function
pub returns-in-Err-clause-judged : goal.returns-in-Err-clause-judged
returns-in-Err-clause-judged g c =
    let ep = c.args.ep.now in
    let found : Some c.in-Err.fault ≡ first_fault (start_points c.args.self.now.settings.capabilities ep) = search rules in
    let v = c.args.self.now in
    let right = entry_judgement (g.B.Below.meaning v.below) v.settings v.types v.trace c.args.module.now c.args.mod_info.now ep in
    subst (λ x. Answers (Exactly right) (Err (refusal_read_by fault_of x))) (sym c.refusal_at_start.ensures)
    (start_refuses (g.B.Below.meaning v.below) v.settings v.types v.trace c.args.module.now c.args.mod_info.now ep c.in-Err.fault found)

-- no fault before the function, where none was found
none_found : {E : Type 0} (r : Result Unit E) (found : Option E) → ((e : E) → r ≡ Err e → ⊥) → result_err r ≡ found → found ≡ None
none_found (Ok u) found not is = sym is
none_found (Err e) found not is = absurd (not e refl)

-- nothing before the function is wrong, where the function is refused
started_function : (g : given.Over) (c : goal.After-refusal_of_function g) → first_fault (start_points c.args.self.now.settings.capabilities c.args.ep.now) ≡ None
started_function g c = elim c.if-not-start_holds.branch [
  | then-not-start_holds+in_default w ↦ rw (← c.self.view_is) (none_found w.check_start.result _ w.in_default.not-Err w.check_start.ensures)
  | else-not-start_holds w ↦ search (rules, c.start_holds.ensures c.args.self.now.settings.capabilities)
]

pub returns-in-Err-validate_function-clause-memory : goal.returns-in-Err-validate_function-clause-memory
returns-in-Err-validate_function-clause-memory g c = λ is. started_function g c

pub returns-in-Err-validate_function-clause-judged : goal.returns-in-Err-validate_function-clause-judged
returns-in-Err-validate_function-clause-judged g c =
    let ep = c.args.ep.now in
    let v = c.args.self.now in
    let below = g.B.Below.meaning v.below in
    let none = started_function g c in
    let fun = function_judgement below v.settings v.types v.trace c.args.module.now c.args.mod_info.now ep.function true in
    function_refuses below v.settings v.types v.trace c.args.module.now c.args.mod_info.now ep none c.refusal_of_function.result
    (c.refusal_of_function.ensures fun c.in-Err-validate_function.ensures.judged)

pub judge_interface-requires-clause-uses : goal.judge_interface-requires-clause-uses
judge_interface-requires-clause-uses g c =
    let v = c.args.self.now in
    one_use_each (g.B.Below.meaning v.below) v.settings v.types v.trace c.args.module.now c.args.mod_info.now c.args.ep.now.function true _ (g.met.B.Below.one_use_each _) c.in-Ok.ensures.judged

-- nor where the whole is accepted
started_accepted : (g : given.Over) (c : goal.In-Ok-judge_interface g) → first_fault (start_points c.args.self.now.settings.capabilities c.args.ep.now) ≡ None
started_accepted g c = elim c.if-not-start_holds.branch [
  | then-not-start_holds+in_default w ↦ rw (← c.self.view_is) (none_found w.check_start.result _ w.in_default.not-Err w.check_start.ensures)
  | else-not-start_holds w ↦ search (rules, c.start_holds.ensures c.args.self.now.settings.capabilities)
]

-- the judgement of an accepted entry point
accepted : (g : given.Over) (c : goal.In-Ok-judge_interface g) → goal.the-asks-returns-in-Ok-judge_interface-clause-judged g.row.B g.B.laws g.B.Below g.B.Below-dict g.world g.met.B.Below c
accepted g c =
    let ep = c.args.ep.now in
    let v = c.args.self.now in
    let below = g.B.Below.meaning v.below in
    let none = started_accepted g c in
    let trace = c.validate_function.new.self.trace in
    let program = c.args.module.now in
    let function : FunctionOutcome = record { info = c.in-Ok.info; trace = trace } in
    let held = subst (λ (w : ValidatorParts _). first_fault (interface_points (g.B.Below.meaning w.below) w.settings w.types program ep c.in-Ok.info) ≡ None) c.validate_function.ensures.kept c.in-Ok-judge_interface.ensures.fault in
    let info = subst (λ (w : ValidatorParts _). c.judge_interface.new.info ≡ with_blending program.types w.types ep (with_own_uses ep c.in-Ok.info)) c.validate_function.ensures.kept c.in-Ok-judge_interface.ensures.info in
    interface_decides below v.settings v.types v.trace program c.args.mod_info.now ep none function (Ok (record { info = c.judge_interface.new.info; trace = trace })) (ap of_function c.in-Ok.ensures.judged)
    (points_pass (interface_points below v.settings v.types program ep c.in-Ok.info) (entry_outcome below v.settings v.types program ep function) held ∙ ap (λ (i : FunctionInfo). Ok (record { info = i; trace = trace })) (sym info))

pub returns-in-Ok-judge_interface-clause-judged : goal.returns-in-Ok-judge_interface-clause-judged
returns-in-Ok-judge_interface-clause-judged g c = accepted g c

-- nor where what is behind the function is refused
started_interface : (g : given.Over) (c : goal.After-into_refusal g) → first_fault (start_points c.args.self.now.settings.capabilities c.args.ep.now) ≡ None
started_interface g c = elim c.if-not-start_holds.branch [
  | then-not-start_holds+in_default w ↦ rw (← c.self.view_is) (none_found w.check_start.result _ w.in_default.not-Err w.check_start.ensures)
  | else-not-start_holds w ↦ search (rules, c.start_holds.ensures c.args.self.now.settings.capabilities)
]

pub returns-in-Err-judge_interface-clause-memory : goal.returns-in-Err-judge_interface-clause-memory
returns-in-Err-judge_interface-clause-memory g c = λ is. started_interface g c

pub returns-in-Err-judge_interface-clause-judged : goal.returns-in-Err-judge_interface-clause-judged
returns-in-Err-judge_interface-clause-judged g c =
    let ep = c.args.ep.now in
    let v = c.args.self.now in
    let below = g.B.Below.meaning v.below in
    let none = started_interface g c in
    let program = c.args.module.now in
    let function : FunctionOutcome = record { info = c.in-Ok.info; trace = c.validate_function.new.self.trace } in
    let points = interface_points below v.settings v.types program ep c.in-Ok.info in
    let refused = subst (λ (w : ValidatorParts _). Answers {A = FunctionOutcome} (FirstOf (interface_points (g.B.Below.meaning w.below) w.settings w.types program ep c.in-Ok.info)) (Err (refusal_read_by fault_of c.into_refusal.result))) c.validate_function.ensures.kept (search (rules, c.in-Err-judge_interface.ensures.fault, c.into_refusal.ensures)) in
    interface_decides below v.settings v.types v.trace program c.args.mod_info.now ep none function (Err c.into_refusal.result) (ap of_function c.in-Ok.ensures.judged)
    (points_refuse points (entry_outcome below v.settings v.types program ep function) (Err c.into_refusal.result) (search rules) refused)

pub returns-in-Ok-judge_interface-clause-stages : goal.returns-in-Ok-judge_interface-clause-stages
returns-in-Ok-judge_interface-clause-stages g c = entry_is_of_all_stages _ _ _ _ _ _ _ _ (accepted g c)

pub returns-in-Ok-judge_interface-clause-switches : goal.returns-in-Ok-judge_interface-clause-switches
returns-in-Ok-judge_interface-clause-switches g c = entry_has_whole_switches _ _ _ _ _ _ _ _ (accepted g c)

pub returns-in-Ok-judge_interface-clause-bindings : goal.returns-in-Ok-judge_interface-clause-bindings
returns-in-Ok-judge_interface-clause-bindings g c = accepted_bindings _ _ _ _ _ _ _ _ (accepted g c)

pub returns-in-Ok-judge_interface-clause-locations : goal.returns-in-Ok-judge_interface-clause-locations
returns-in-Ok-judge_interface-clause-locations g c = accepted_locations _ _ _ _ _ _ _ _ (accepted g c)

pub returns-in-Ok-judge_interface-clause-position : goal.returns-in-Ok-judge_interface-clause-position
returns-in-Ok-judge_interface-clause-position g c = accepted_position _ _ _ _ _ _ _ _ (accepted g c)

pub returns-in-Ok-judge_interface-clause-built_ins : goal.returns-in-Ok-judge_interface-clause-built_ins
returns-in-Ok-judge_interface-clause-built_ins g c =
    accepted_built_ins _ _ _ _ _ _ _ _ (accepted g c) c.requires.types c.requires.function.signature

pub returns-in-Ok-judge_interface-clause-chains : goal.returns-in-Ok-judge_interface-clause-chains
returns-in-Ok-judge_interface-clause-chains g c = λ on vetted.
    entry_keeps_its_stage _ _ _ _ _ _ _ _ (accepted g c) on vetted (fits_calls_below _ _ _ c.requires.function)

-- what edits of the gate leave open

pub returns-in-Err-clause-memory : goal.returns-in-Err-clause-memory
returns-in-Err-clause-memory g c = search rules

pub returns-in-Err-judge_interface-clause-refused :
    goal.returns-in-Err-judge_interface-clause-refused
returns-in-Err-judge_interface-clause-refused g c = search rules

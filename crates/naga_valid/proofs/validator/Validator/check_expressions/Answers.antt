use Rattle.std.proofs.Common.{rules, refl, ◌≡◌, Ok, Err, length, ap, subst}
use Rattle.ir_facts.specs.declared.valid.info.FunctionInfo.{FunctionInfo}
use Rattle.ir_facts.specs.Answers.{Answers, Exactly}
use Rattle.check_statement.specs.ExpressionStages.{of_expression}
use Rattle.check_statement.specs.walk.AskedContext.{asked_context}
use Rattle.check_statement.specs.StageSets.{meet}
use Rattle.naga_valid.proofs.ExpressionSteps.{asked_is, step_begins, mask_met, mask_refused, masks_end}
use Rattle.naga_valid.proofs.validator.Validator.check_expressions.Goals as goal

pub loop-index-init : goal.loop-index-init
loop-index-init g c =
    let context = asked_context c.args.self.now.settings c.args.self.now.trace c.args.function.now.program.now c.args.function.now.earlier.now c.args.function.now.fun.now c.args.kinds.now c.args.info.now in
    record { faults = step_begins (g.B.Below.meaning c.args.self.now.below) context (search rules); kept = refl }

pub returns-in-Err-clause-fault : goal.returns-in-Err-clause-fault
returns-in-Err-clause-fault g c =
    let below = g.B.Below.meaning c.args.self.now.below in
    let context = asked_context c.args.self.now.settings c.args.self.now.trace c.args.function.now.program.now c.args.function.now.earlier.now c.args.function.now.fun.now c.args.kinds.now c.args.info.now in
    let lt = rw c.len-count.ensures.len at c.loop-index-test.true in
    let right = below.expression_stages context.settings c.new-handle.result context.fun context.program c.loop-index.info context.earlier context.kinds in
    let asked : Answers (Exactly right) c.validate_expression-asked.result = search rules in
    let refused = asked_is below context c.loop-index.info c.new-handle.result c.loop-index.index (Err c.refused_expression.result) c.loop-index.invariant.kept c.new-handle.ensures (c.refused_expression.ensures right (subst (λ r. Answers (Exactly right) r) c.in-Err.is asked)) in
    mask_refused below context (length c.args.function.now.fun.now.expressions) c.loop-index.index c.loop-index.info.available_stages _ lt c.loop-index.invariant.faults c.refused_expression.result refused

pub loop-index-preserved : goal.loop-index-preserved
loop-index-preserved g c =
    let below = g.B.Below.meaning c.args.self.now.below in
    let context = asked_context c.args.self.now.settings c.args.self.now.trace c.args.function.now.program.now c.args.function.now.earlier.now c.args.function.now.fun.now c.args.kinds.now c.args.info.now in
    let lt = rw c.len-count.ensures.len at c.loop-index-test.true in
    let right = below.expression_stages context.settings c.new-handle.result context.fun context.program c.loop-index.info context.earlier context.kinds in
    let asked : Answers (Exactly right) c.validate_expression-asked.result = search rules in
    let mask = asked_is below context c.loop-index.info c.new-handle.result c.loop-index.index (Ok c.in-Ok.mask) c.loop-index.invariant.kept c.new-handle.ensures (ap (of_expression c.new-handle.result) (subst (λ r. Answers (Exactly right) r) c.in-Ok.is asked)) in
    let met : c.intersection-info.result ≡ meet c.loop-index.info.available_stages c.in-Ok.mask = search rules in
    record {
      faults = rw met (mask_met below context (length c.args.function.now.fun.now.expressions) c.loop-index.index c.loop-index.info.available_stages _ lt c.loop-index.invariant.faults c.in-Ok.mask mask);
      kept = ap (λ (i : FunctionInfo). record i { available_stages = c.intersection-info.result }) c.loop-index.invariant.kept;
    }

pub returns-clause-fault : goal.returns-clause-fault
returns-clause-fault g c =
    let over = rw c.len-count.ensures.len at c.loop-index-test.false in
    masks_end (g.B.Below.meaning c.args.self.now.below) (asked_context c.args.self.now.settings c.args.self.now.trace c.args.function.now.program.now c.args.function.now.earlier.now c.args.function.now.fun.now c.args.kinds.now c.args.info.now) (length c.args.function.now.fun.now.expressions) c.loop-index.index c.loop-index.info.available_stages _ over c.loop-index.invariant.faults

use Rattle.std.proofs.Common.{rules, ◌≡◌, true, false, Err, sym, subst}
use Rattle.ir_facts.specs.Answers.{Answers, Exactly}
use Rattle.ir_facts.specs.WhatIsChecked.{checks_blocks}
use Rattle.check_scope.specs.Context.{ContextFits}
use Rattle.check_statement.proofs.Parts.{ready}
use Rattle.check_statement.specs.FunctionJudgement.{function_judgement}
use Rattle.naga_valid.proofs.FunctionSteps.{declarations_refused, expressions_refused, fits_first, fits_with, body_refused, body_passed, body_unchecked}
use Rattle.naga_valid.proofs.validator.Validator.judge_known.Goals as goal
use Rattle.naga_valid.proofs.validator.Validator.judge_known.Goals.{then-contains+in_ok-table+in-Ok, else-contains}

pub check_declarations-requires : goal.check_declarations-requires
check_declarations-requires g c =
    let v = c.args.self.now in
    let f = c.args.function.now in
    let below = g.B.Below.meaning v.below in
    let lower = c.requires.known in
    let of = c.requires.kinds in
    let laws = g.met.B.Below in
    let fits = fits_first below v.settings v.types v.trace f.program.now f.earlier.now f.fun.now f.entry_point c.args.info.now c.args.kinds.now lower of (laws.one_type_each v.below) (laws.types_in_range v.below) (laws.no_struct_values v.below) (laws.one_kind_each v.below) c.requires.types c.requires.function in
    record { context = subst ContextFits (sym c.block_context-context.ensures) fits; one_info_each = search rules }

pub returns-in_err-check_declarations-clause-judged :
    goal.returns-in_err-check_declarations-clause-judged
returns-in_err-check_declarations-clause-judged g c =
    let v = c.args.self.now in
    let f = c.args.function.now in
    let below = g.B.Below.meaning v.below in
    let lower = c.requires.known in
    let of = c.requires.kinds in
    let e = c.in_err-check_declarations.field-0.0 in
    let found = rw c.infos.ensures at c.in_err-check_declarations.ensures in
    let refused = declarations_refused below v.settings v.types v.trace f.program.now f.earlier.now f.fun.now f.entry_point c.args.info.now c.args.kinds.now lower of _ c.block_context-context.ensures e found in
    search (rules, refused)

pub returns-in_err-check_expressions-clause-judged :
    goal.returns-in_err-check_expressions-clause-judged
returns-in_err-check_expressions-clause-judged g c =
    let v = c.args.self.now in
    let f = c.args.function.now in
    let below = g.B.Below.meaning v.below in
    let lower = c.requires.known in
    let of = c.requires.kinds in
    let none = rw c.infos.ensures at c.in_ok-check_declarations.ensures in
    let e = c.in_err-check_expressions.field-0.0 in
    let refused = expressions_refused below v.settings v.types v.trace f.program.now f.earlier.now f.fun.now f.entry_point c.args.info.now c.args.kinds.now lower of _ c.block_context-context.ensures none e c.in_err-check_expressions.ensures.fault in
    search (rules, refused)

pub validate_body-judged-requires : goal.validate_body-judged-requires
validate_body-judged-requires g c =
    let v = c.args.self.now in
    let f = c.args.function.now in
    let below = g.B.Below.meaning v.below in
    let lower = c.requires.known in
    let of = c.requires.kinds in
    let laws = g.met.B.Below in
    let fits = fits_first below v.settings v.types v.trace f.program.now f.earlier.now f.fun.now f.entry_point c.args.info.now c.args.kinds.now lower of (laws.one_type_each v.below) (laws.types_in_range v.below) (laws.no_struct_values v.below) (laws.one_kind_each v.below) c.requires.types c.requires.function in
    let known = fits_with _ c.check_expressions.new.info c.in_ok-check_expressions.ensures.kept fits in
    let here = subst ContextFits (sym c.block_context-context-then-contains.ensures) known in
    record { context = here; ready = ready _ here.fun }

pub returns-in-Err-clause-judged : goal.returns-in-Err-clause-judged
returns-in-Err-clause-judged g c =
    let v = c.args.self.now in
    let f = c.args.function.now in
    let below = g.B.Below.meaning v.below in
    let lower = c.requires.known in
    let of = c.requires.kinds in
    let none = rw c.infos.ensures at c.in_ok-check_declarations.ensures in
    let on : checks_blocks v.settings.flags ≡ true = rw (← c.self.view_is) (search rules) in
    let refused = body_refused below v.settings v.types v.trace f.program.now f.earlier.now f.fun.now f.entry_point c.args.info.now c.args.kinds.now lower of _ c.block_context-context.ensures none c.check_expressions.new.info c.in_ok-check_expressions.ensures.fault c.in_ok-check_expressions.ensures.kept _ c.block_context-context-then-contains.ensures on c.in-Err.refused c.in-Err.ensures in
    let right = function_judgement below v.settings v.types v.trace f.program.now f.earlier.now f.fun.now f.entry_point in
    subst (λ x. Answers (Exactly right) (Err x)) (sym c.into_refusal.ensures) refused

pub returns-clause-judged : goal.returns-clause-judged
returns-clause-judged g c =
    let v = c.args.self.now in
    let f = c.args.function.now in
    let below = g.B.Below.meaning v.below in
    let lower = c.requires.known in
    let of = c.requires.kinds in
    let none = rw c.infos.ensures at c.in_ok-check_declarations.ensures in
    elim c.if-contains.branch [
      | then-contains+in_ok-table+in-Ok w ↦
          let on : checks_blocks v.settings.flags ≡ true = rw (← c.self.view_is) (search (rules, w.if-contains.true)) in
          rw (w.info-is, w.self-is) (
          body_passed below v.settings v.types v.trace f.program.now f.earlier.now f.fun.now f.entry_point c.args.info.now c.args.kinds.now lower of _ c.block_context-context.ensures none c.check_expressions.new.info c.in_ok-check_expressions.ensures.fault c.in_ok-check_expressions.ensures.kept _ w.block_context-context-then-contains.ensures on w.in-Ok.left w.in-Ok.ensures
          )
      | else-contains w ↦
          let off : checks_blocks v.settings.flags ≡ false = rw (← c.self.view_is) (search (rules, w.if-contains.false)) in
          let left = body_unchecked below v.settings v.types v.trace f.program.now f.earlier.now f.fun.now f.entry_point c.args.info.now c.args.kinds.now lower of _ c.block_context-context.ensures none c.check_expressions.new.info c.in_ok-check_expressions.ensures.fault c.in_ok-check_expressions.ensures.kept off in
          rw (w.info-is, w.self-is) (search (rules, left))
    ]

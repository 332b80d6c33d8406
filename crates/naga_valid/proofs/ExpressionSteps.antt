-- The fold over a function's expressions, one by one.
use Rattle.std.proofs.Common.{◌≡◌, ℕ, suc, true, length, ◌+◌, ◌-◌, ◌<◌, ◌≤◌, Result, Ok, sym, ap, ◌∙◌, subst, arith}
use Rattle.std.specs.Prelude.{if◌then◌else◌, Err}
use Rattle.ir_arena.specs.Points.{and_then}
use Rattle.ir_arena.specs.declared.span.Refusal.{Refusal}
use Rattle.ir_arena.specs.declared.span.Refusal.TheVariants as refusal
use Rattle.ir_flags.specs.declared.valid.ShaderStages.{ShaderStages}
use Rattle.ir_facts.specs.declared.valid.info.FunctionInfo.{FunctionInfo}
use Rattle.ir_facts.specs.Answers.{Answers, Exactly}
use Rattle.ir_facts.specs.Meaning.{Meaning}
use Rattle.ir_errors.specs.declared.function.FunctionError.{FunctionError}
use Rattle.check_scope.specs.Context.{Context}
use Rattle.ir_facts.specs.WhatIsChecked.{checks_expressions}
use Rattle.check_statement.specs.ExpressionStages.{with_stages, of_expression, mask_at, stages_from, expressions_step}
use Rattle.check_statement.specs.StageSets.{meet}

module _ (below : Meaning) (context : Context) (n h : ℕ) (stages : ShaderStages) (whole : Result ShaderStages FunctionError) where
  one_more : h < n → stages_from below context stages h (n - h) ≡ and_then (mask_at below context stages h) (λ mask. stages_from below context (meet stages mask) (h + 1) (n - (h + 1)))
  unfolding stages_from
  one_more lt =
      let left : n - h ≡ suc (n - (h + 1)) = omega arith in
      let next : suc h ≡ h + 1 = omega arith in
      ap (stages_from below context stages h) left
      ∙ ap (λ k. and_then (mask_at below context stages h) (λ mask. stages_from below context (meet stages mask) k (n - (h + 1)))) next

  pub mask_met : h < n → stages_from below context stages h (n - h) ≡ whole → (mask : ShaderStages) → mask_at below context stages h ≡ Ok mask →
      stages_from below context (meet stages mask) (h + 1) (n - (h + 1)) ≡ whole
  mask_met lt is mask e =
      sym (one_more lt ∙ ap (λ o. and_then o (λ m. stages_from below context (meet stages m) (h + 1) (n - (h + 1)))) e) ∙ is

  pub mask_refused : h < n → stages_from below context stages h (n - h) ≡ whole → (x : Refusal FunctionError) → Answers (Exactly (mask_at below context stages h)) (Err x) → Answers (Exactly whole) (Err x)
  mask_refused lt is (refusal.Fault f) e =
      sym is ∙ one_more lt ∙ ap (λ o. and_then o (λ m. stages_from below context (meet stages m) (h + 1) (n - (h + 1)))) e
  mask_refused lt is refusal.Memory e = tt

  pub masks_end : n ≤ h → stages_from below context stages h (n - h) ≡ whole → whole ≡ Ok stages
  unfolding stages_from
  masks_end le is =
      let none : n - h ≡ 0 = omega arith in sym is ∙ ap (stages_from below context stages h) none

-- where expressions are checked, the step is the fold over all of them
pub step_begins : (below : Meaning) (context : Context) → checks_expressions context.settings.flags ≡ true →
    stages_from below context context.info.available_stages 0 (length context.fun.expressions - 0) ≡ expressions_step below context
step_begins below context on =
    let all : length context.fun.expressions - 0 ≡ length context.fun.expressions = omega arith in
    ap (stages_from below context context.info.available_stages 0) all
    ∙ sym (ap (λ b. if b then stages_from below context context.info.available_stages 0 (length context.fun.expressions) else Ok context.info.available_stages) on)

-- what was asked of an expression is its mask
pub asked_is : (below : Meaning) (context : Context) (info : FunctionInfo) (handle h : ℕ) (r : Result ShaderStages (Refusal FunctionError)) →
    info ≡ with_stages context.info info.available_stages → handle ≡ h →
    Answers (Exactly (of_expression handle (below.expression_stages context.settings handle context.fun context.program info context.earlier context.kinds))) r →
    Answers (Exactly (mask_at below context info.available_stages h)) r
asked_is below context info handle h r kept same a =
    subst (λ i. Answers (Exactly (of_expression h (below.expression_stages context.settings h context.fun context.program i context.earlier context.kinds))) r) kept (subst (λ k. Answers (Exactly (of_expression k (below.expression_stages context.settings k context.fun context.program info context.earlier context.kinds))) r) same a)

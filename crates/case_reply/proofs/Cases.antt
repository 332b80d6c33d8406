-- What is replied to a case that was read, and the stages of its last function.
use Rattle.std.proofs.Common.{◌≡◌, ◌-◌, ℕ, suc, List, [], ◌∷◌, length, Option, Some, None, Ok, Err, inl, inr, ap, sym, subst, refl, ◌∙◌, arith}
use Rattle.std.specs.Prelude.{slice_get}
use Rattle.ir_module.specs.declared.module.Module.{Module}
use Rattle.ir_flags.specs.declared.valid.ShaderStages.{ShaderStages}
use Rattle.ir_facts.specs.declared.valid.info.FunctionInfo.{FunctionInfo}
use Rattle.ir_facts.specs.declared.valid.info.ModuleInfo.{ModuleInfo}
use Rattle.ir_errors.specs.declared.function.FunctionError.{FunctionError}
use Rattle.ir_flags.specs.Bits.{NO_STAGE}
use Rattle.case_reply.specs.BenchModule.{bench_module}
use Rattle.case_reply.specs.CaseJudgement.{IsPlainAnswer, IsJudgementOf, module_of, settings_of, stages_of_last}
use Rattle.case_reply.specs.Line.{RepliesToCase, IsAnswerLine, reply_line}
use Rattle.case_notation.specs.Case.{Case, HoldsBlock, Reads, case_of}
use Rattle.naga_module.specs.ModuleJudgement.{ModuleAnswer}
use Rattle.check_faults.specs.declared.module.ModuleFault.TheVariants as told
use Rattle.case_notation.specs.declared.case.Case as declared
use Rattle.case_reply.specs.declared.line.Reply.TheVariants.{Accepted, Fault, Unreadable, Memory}

-- what is answered of the module that is made for a case is answered of the case
pub judged_as : (c : declared.Case) (m : Module) (r : ModuleAnswer) → HoldsBlock c → m ≡ bench_module c.bench c.body → IsPlainAnswer (settings_of (case_of c)) m r → IsPlainAnswer (settings_of (case_of c)) (module_of (case_of c)) r
judged_as c m r holds is a =
    subst (λ (n : Module). IsPlainAnswer (settings_of (case_of c)) n r) (is ∙ ap (bench_module c.bench) holds) a

-- the replies to a case that was read
pub replies_accepted : (input : List ℕ) (c : Case) (infos : ModuleInfo) → Reads input c → IsPlainAnswer (settings_of c) (module_of c) (Ok infos) → RepliesToCase input (Accepted (stages_of_last infos.functions))
unfolding RepliesToCase IsJudgementOf IsAnswerLine reply_line
replies_accepted input c infos reads (inl memory) = cc
replies_accepted input c infos reads (inr judged) = (c, reads, (Ok infos, judged, (refl, refl)))

pub replies_fault : (input : List ℕ) (c : Case) (handle : ℕ) (fault : FunctionError) → Reads input c → IsPlainAnswer (settings_of c) (module_of c) (Err (told.Function handle fault)) → RepliesToCase input (Fault fault)
unfolding RepliesToCase IsJudgementOf IsAnswerLine reply_line
replies_fault input c handle fault reads (inl memory) = cc
replies_fault input c handle fault reads (inr judged) = (c, reads, (Err (told.Function handle fault), judged, (refl, refl)))

pub replies_none : (input : List ℕ) → ((c : Case) → Reads input c → ⊥) → RepliesToCase input Unreadable
unfolding RepliesToCase
replies_none input none = none

pub replies_memory : (input : List ℕ) → RepliesToCase input Memory
unfolding RepliesToCase
replies_memory input = tt

pub ruleset replying = (replies_accepted, replies_fault, replies_none, replies_memory)

abbrev pub stages_if : Option FunctionInfo → ShaderStages
stages_if None = NO_STAGE
stages_if (Some info) = info.available_stages

-- the last one's stages, where the last one is read at its place
pub last_stages : (infos : List FunctionInfo) → stages_of_last infos ≡ stages_if (slice_get infos (length infos - 1))
last_stages [] = refl
last_stages (i ∷ []) = refl
last_stages (i ∷ j ∷ rest) =
    let this : suc (length rest) - 1 ≡ length rest = omega arith in
    let more : suc (suc (length rest)) - 1 ≡ suc (length rest) = omega arith in
    last_stages (j ∷ rest)
    ∙ ap (λ k. stages_if (slice_get (j ∷ rest) k)) this
    ∙ sym (ap (λ k. stages_if (slice_get (i ∷ j ∷ rest) k)) more)

-- What the program writes, and the status it ends with.
use Rattle.std.specs.Prelude.{◌≡◌, ◌⊎◌, ◌/◌, ◌%◌, ℕ, false, List, [], ◌∷◌, ◌++◌, Option, None, Some, Ok, Err, codes, decimal}
use Rattle.std.specs.Fmt.{digit_glyph}
use Rattle.std.specs.Io.KnownBytes.{Appends}
use Rattle.ir_flags.specs.declared.valid.ShaderStages.{ShaderStages}
use Rattle.ir_errors.specs.declared.function.FunctionError.{FunctionError}
use Rattle.ir_errors.specs.Names.{function_error_name}
use Rattle.case_reply.specs.FaultNames.{inner_text, fault_handle}
use Rattle.case_reply.specs.CaseJudgement.{IsJudgementOf, stages_of_last}
use Rattle.case_notation.specs.Case.{Case, Reads}
use Rattle.naga_module.specs.ModuleJudgement.{ModuleAnswer}
use Rattle.check_faults.specs.declared.module.ModuleFault.TheVariants as told
use Rattle.case_reply.specs.declared.line.Reply.{Reply}
use Rattle.case_reply.specs.declared.line.Reply.TheVariants.{Accepted, Fault, Unreadable, Memory}

abbrev pub hex_digit : ℕ → ℕ
hex_digit n = digit_glyph false (n % 16)

-- a set of stages as three lower-case hexadecimal digits
abbrev pub stages_text : ShaderStages → List ℕ
stages_text stages = hex_digit (stages.0 / 256) ∷ hex_digit (stages.0 / 16) ∷ hex_digit stages.0 ∷ []

-- a space and the handle in decimal
unfoldable pub handle_text : Option ℕ → List ℕ
handle_text None = []
handle_text (Some h) = codes " " ++ decimal h

abbrev pub newline : List ℕ
newline = 10 ∷ []

abbrev pub accepted_line : ShaderStages → List ℕ
accepted_line stages = codes "ok " ++ (stages_text stages ++ newline)

abbrev pub fault_line : FunctionError → List ℕ
fault_line fault =
    codes "fault " ++ (function_error_name fault ++ (inner_text fault ++ (handle_text (fault_handle fault) ++ newline)))

abbrev pub unreadable_line : List ℕ
unreadable_line = codes "unreadable" ++ newline

abbrev pub memory_line : List ℕ
memory_line = codes "memory" ++ newline

-- The line of an answer about a module, and its status: the stages of the last function, or the fault of a function. No
-- other answer has one: none is the judgement of a bench's module.
unfoldable pub IsAnswerLine : ModuleAnswer → List ℕ → ℕ → Type 0
IsAnswerLine (Ok infos) line status = (line ≡ accepted_line (stages_of_last infos.functions)) × (status ≡ 0)
IsAnswerLine (Err (told.Function handle fault)) line status = (line ≡ fault_line fault) × (status ≡ 1)
IsAnswerLine (Err told.NotFit) line status = ⊥
IsAnswerLine (Err (told.Global handle fault)) line status = ⊥
IsAnswerLine (Err (told.EntryPoint index fault)) line status = ⊥
IsAnswerLine (Err told.Memory) line status = ⊥

-- the line of a case, and its status: those of its judgement
abbrev pub IsCaseLine : Case → List ℕ → ℕ → Type 0
IsCaseLine c line status = (answer : ModuleAnswer) × IsJudgementOf c answer × IsAnswerLine answer line status

-- The line of an input, and its status: those of the case that it reads as; where it reads as none, that it is
-- unreadable.
unfoldable pub IsLine : List ℕ → List ℕ → ℕ → Type 0
IsLine input line status =
    ((c : Case) × Reads input c × IsCaseLine c line status)
    ⊎ (((c : Case) → Reads input c → ⊥) × (line ≡ unreadable_line) × (status ≡ 2))

-- the line of the input was written, or that there is no memory, and nothing else; and the status is the line's
unfoldable pub WritesReply : List ℕ → Option (List ℕ) → Option (List ℕ) → ℕ → Type 0
WritesReply input old new status =
    ((line : List ℕ) × IsLine input line status × Appends old new line) ⊎ (Appends old new memory_line × (status ≡ 3))

-- the line and the status of a reply
unfoldable pub reply_line : Reply → List ℕ
reply_line (Accepted stages) = accepted_line stages
reply_line (Fault fault) = fault_line fault
reply_line Unreadable = unreadable_line
reply_line Memory = memory_line

abbrev pub reply_status : Reply → ℕ
reply_status (Accepted stages) = 0
reply_status (Fault fault) = 1
reply_status Unreadable = 2
reply_status Memory = 3

-- the input reads as a case whose judgement asks for this reply: its line and its status
abbrev pub IsDue : List ℕ → Reply → Type 0
IsDue input reply = (c : Case) × Reads input c × IsCaseLine c (reply_line reply) (reply_status reply)

-- the reply is the one that is due to the input, or out of memory
unfoldable pub RepliesToCase : List ℕ → Reply → Type 0
RepliesToCase input (Accepted stages) = IsDue input (Accepted stages)
RepliesToCase input (Fault fault) = IsDue input (Fault fault)
RepliesToCase input Unreadable = (c : Case) → Reads input c → ⊥
RepliesToCase input Memory = Unit {0}

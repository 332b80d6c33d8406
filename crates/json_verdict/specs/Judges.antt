-- The verdict of a text.
use Rattle.std.specs.Prelude.{◌≡◌, ◌⊎◌, ℕ, List, [], Option, None, Some, Result, Ok, Err}
use Rattle.ir_facts.specs.declared.valid.info.ModuleInfo.{ModuleInfo}
use Rattle.ir_types.specs.declared.type_info.TypeInfo.{TypeInfo}
use Rattle.ir_module.specs.declared.module.Module.{Module}
use Rattle.ir_types.specs.declared.typifier.TypeResolution.{TypeResolution}
use Rattle.ir_arena.specs.Points.{first_fault}
use Rattle.ir_misfits.specs.declared.misfit.Misfit.{Misfit}
use Rattle.ir_facts.specs.Meaning.{Meaning}
use Rattle.layer_types.specs.ComputedInfos.{infos_from}
use Rattle.layer_expressions.specs.ComputedTypes.{global_types}
use Rattle.layer_expressions.specs.declared.types.Untyped.{Untyped}
use Rattle.naga_layers.specs.Typed.Meaning.{typed_meaning}
use Rattle.naga_module.specs.Misfits.{module_points}
use Rattle.naga_module.specs.ModuleJudgement.{IsJudgementOrMemory}
use Rattle.naga_layers.specs.Recorded.Meaning.{recorded_meaning}
use Rattle.check_faults.specs.declared.module.ModuleFault.{ModuleFault}
use Rattle.check_faults.specs.declared.module.ModuleFault.TheVariants as fault
use Rattle.naga_layers.specs.declared.recorded.Recorded.{Recorded}
use Rattle.json_document.specs.declared.document.Document.{Document}
use Rattle.json_document.specs.declared.document.Known.{Known}
use Rattle.json_answers.specs.declared.verdict.Verdict as judge
use Rattle.json_answers.specs.declared.verdict.Verdict.TheVariants as verdict
use Rattle.json_document.specs.ReadsDocument.{IsDocument}

-- the layer that answers these facts
abbrev pub recorded_of : Known → Recorded
recorded_of known = record { facts = known.facts }

-- the infos of a module's types, computed
abbrev pub computed_infos : Module → List TypeInfo
computed_infos m = infos_from m.types [] m.types

-- the types of its global expressions; none where one of them has no type
abbrev pub typed_or_none : Result (List TypeResolution) Untyped → List TypeResolution
typed_or_none (Ok types) = types
typed_or_none (Err untyped) = []

abbrev pub computed_types : Module → List TypeResolution
computed_types m = typed_or_none (global_types m)

-- what the lower layer answers that a module is judged over: the facts, where there are any; else what it computes
abbrev pub meaning_over : Option Known → Meaning
meaning_over None = typed_meaning
meaning_over (Some known) = recorded_meaning (recorded_of known)

-- the infos of a module's types, by the facts or computed
abbrev pub infos_over : Option Known → Module → List TypeInfo
infos_over None m = computed_infos m
infos_over (Some known) m = known.type_infos

-- the types of its global expressions, by the facts or computed
abbrev pub types_over : Option Known → Module → List TypeResolution
types_over None m = computed_types m
types_over (Some known) m = known.global_types

-- it is the judgement of the document's module with its settings, or there was no memory
abbrev pub IsJudged : Document → Result ModuleInfo ModuleFault → Type 0
IsJudged d r =
    IsJudgementOrMemory (meaning_over d.known) d.settings (infos_over d.known d.module) d.module (types_over d.known d.module) r

-- the first thing in the document's module that doesn't fit
abbrev pub first_misfit : Document → Option Misfit
first_misfit d =
    first_fault (module_points (meaning_over d.known) (infos_over d.known d.module) d.module (types_over d.known d.module))

-- The text is a document, this is its module, and these are the infos that its judgement answers; or there was no memory, or its
-- judgement answers this fault; or the text is no document.
abbrev pub Judges : List ℕ → judge.Verdict → Type 0
Judges text (verdict.Accepted m infos) = (d : Document) × IsDocument text d × (d.module ≡ m) × IsJudged d (Ok infos)
Judges text (verdict.Refused e) = (e ≡ fault.Memory) ⊎ ((d : Document) × IsDocument text d × IsJudged d (Err e))
Judges text (verdict.Unreadable unreadable) = (d : Document) → IsDocument text d → ⊥

-- Where the verdict is that the module doesn't fit, the text is a document that is judged so, and this is its first misfit.
abbrev pub HasMisfit : List ℕ → judge.Verdict → Option Misfit → Type 0
HasMisfit text v misfit =
    v ≡ verdict.Refused fault.NotFit → (d : Document) × IsDocument text d × IsJudged d (Err fault.NotFit)
    × (misfit ≡ first_misfit d)

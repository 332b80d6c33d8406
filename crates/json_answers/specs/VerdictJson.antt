-- The JSON of a verdict.
use Rattle.std.specs.Prelude.{◌≡◌, ℕ, List, [], ◌∷◌, ◌++◌, Option, Result, codes, decimal, string_bytes}
use Rattle.json.specs.Json.{Json, string}
use Rattle.json.specs.Token.{Token}
use Rattle.ir_arena.specs.declared.span.Span.{Span}
use Rattle.ir_facts.specs.declared.valid.info.FunctionInfo.{FunctionInfo}
use Rattle.ir_facts.specs.declared.valid.info.ModuleInfo.{ModuleInfo}
use Rattle.ir_misfits.specs.declared.misfit.Misfit.{Misfit}
use Rattle.check_faults.specs.declared.module.ModuleFault.{ModuleFault}
use Rattle.check_faults.specs.declared.module.ModuleFault.TheVariants as faults
use Rattle.json_document.specs.declared.id.Id.{Id}
use Rattle.json_nodes.specs.declared.step.Step.{Step}
use Rattle.json_nodes.specs.declared.step.Step.TheVariants as steps
use Rattle.json_values.specs.declared.error.Unreadable.{Unreadable}
use Rattle.json_faults.specs.Faults.{function_error_form}
use Rattle.json_faults.specs.JsonForm.{Writes, four_fields, holding, json_text, list_form, number_form, optional, span_form, two_fields}
use Rattle.json_faults.specs.InfoJson.{info_form}
use Rattle.json_faults.specs.Interfaces.{entry_error_form, global_error_form}
use Rattle.json_faults.specs.MisfitJson.{misfit_form}
use Rattle.json_faults.specs.SetJson.{stages_form}
use Rattle.json_answers.specs.VerdictIds.{maybe_with_id}
use Rattle.json_answers.specs.declared.verdict.Verdict as judge
use Rattle.json_answers.specs.declared.verdict.Verdict.TheVariants as verdict

-- the stages that the body of a function could run in
abbrev pub function_form : FunctionInfo → Json
function_form info = stages_form info.available_stages

-- what is known of an accepted module
unfoldable pub infos_form : ModuleInfo → Json
infos_form infos =
    holding (codes "ok") (two_fields (codes "functions") (list_form function_form infos.functions)
    (codes "entry_points") (list_form info_form infos.entry_points))

-- the part of the module with this kind and index
unfoldable pub part_form : List ℕ → ℕ → Json
part_form kind index = holding kind (number_form index)

-- what has the fault, the fault, its spans, and its place
unfoldable pub placed_form : Json → Json → List Span → Json → Json
placed_form at fault spans place =
    holding (codes "refused") (four_fields (codes "at") at (codes "fault") fault
    (codes "spans") (list_form span_form spans) (codes "place") place)

-- the same with a pointer as the place, or null
abbrev pub fault_form : Json → Json → List Span → Option (List ℕ) → Json
fault_form at fault spans place = placed_form at fault spans (optional string place)

-- a fault of a module, with these spans and this place, or what doesn't fit; or that there was no memory
unfoldable pub refused_form : List Span → Option (List ℕ) → Option Misfit → ModuleFault → Json
refused_form spans place misfit faults.NotFit = fault_form (string (codes "NotFit")) (optional misfit_form misfit) [] place
refused_form spans place misfit (faults.Global global error) =
    fault_form (part_form (codes "Global") global) (global_error_form error) [] place
refused_form spans place misfit (faults.Function f error) =
    fault_form (part_form (codes "Function") f) (function_error_form error) spans place
refused_form spans place misfit (faults.EntryPoint index error) =
    fault_form (part_form (codes "EntryPoint") index) (entry_error_form error) spans place
refused_form spans place misfit faults.Memory = string (codes "memory")

-- a step of a JSON pointer: a slash, and the name of a field or a place in a list
unfoldable pub step_text : Step → List ℕ
step_text (steps.Name name) = codes "/" ++ name.now
step_text (steps.Index index) = codes "/" ++ decimal index

-- the way from the whole document to a value, by its steps, of which the last comes first
abbrev pub pointer_text : List Step → List ℕ
pointer_text [] = []
pointer_text (step ∷ before) = pointer_text before ++ step_text step

-- where reading stopped, as a pointer, and what was expected there
unfoldable pub unreadable_at : List ℕ → List ℕ → Json
unreadable_at pointer expected =
    holding (codes "unreadable") (two_fields (codes "pointer") (string pointer) (codes "expected") (string expected))

abbrev pub unreadable_form : Unreadable → Json
unreadable_form unreadable = unreadable_at (pointer_text unreadable.steps.items) (string_bytes unreadable.expected)

-- a verdict, whose fault has these spans, this place and this misfit
unfoldable pub verdict_form : List Span → Option (List ℕ) → Option Misfit → judge.Verdict → Json
verdict_form spans place misfit (verdict.Accepted m infos) = infos_form infos
verdict_form spans place misfit (verdict.Refused fault) = refused_form spans place misfit fault
verdict_form spans place misfit (verdict.Unreadable unreadable) = unreadable_form unreadable

-- The text is the JSON of the verdict, with this misfit, and with the id as its first field. Contracts see neither the spans nor
-- the place of a fault: there are some with which it is.
abbrev pub IsJsonOf : Option Id → judge.Verdict → Option Misfit → List ℕ → Type 0
IsJsonOf id v misfit text =
    (spans : List Span) × (place : Option (List ℕ)) × (text ≡ json_text (maybe_with_id id (verdict_form spans place misfit v)))

-- the same as tokens that were written after others; or there was no memory
abbrev pub WritesPlaced : {E : Type 0} → Result (Unit {0}) E → List Token → List Token
    → Option Id → Json → Json → List Span → Type 0
WritesPlaced r old new id at fault spans =
    (place : Option (List ℕ)) × Writes r old new (maybe_with_id id (fault_form at fault spans place))

abbrev pub WritesFault : {E : Type 0} → Result (Unit {0}) E → List Token → List Token
    → Option Id → Option Misfit → ModuleFault → Type 0
WritesFault r old new id misfit fault =
    (spans : List Span) × (place : Option (List ℕ)) × Writes r old new (maybe_with_id id (refused_form spans place misfit fault))

abbrev pub WritesVerdict : {E : Type 0} → Result (Unit {0}) E → List Token → List Token
    → Option Id → judge.Verdict → Option Misfit → Type 0
WritesVerdict r old new id v misfit =
    (spans : List Span) × (place : Option (List ℕ)) × Writes r old new (maybe_with_id id (verdict_form spans place misfit v))

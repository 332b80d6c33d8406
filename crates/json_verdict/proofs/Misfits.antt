-- The verdict of a document, and its misfit, by what was judged over its basis.
use Rattle.std.proofs.Common.{◌≡◌, List, ℕ, Option, Result, Ok, Err, refl, sym, ◌∙◌, subst, inl, inr}
use Rattle.ir_arena.specs.Points.{first_fault}
use Rattle.ir_facts.specs.declared.valid.info.ModuleInfo.{ModuleInfo}
use Rattle.ir_misfits.specs.declared.misfit.Misfit.{Misfit}
use Rattle.ir_module.specs.declared.module.Module.{Module}
use Rattle.naga_module.specs.Misfits.{module_points}
use Rattle.naga_module.specs.ModuleJudgement.{IsJudgementOrMemory}
use Rattle.check_faults.specs.declared.module.ModuleFault.{ModuleFault}
use Rattle.check_faults.specs.declared.module.ModuleFault.TheVariants as faults
use Rattle.json_document.specs.ReadsDocument.{IsDocument}
use Rattle.json_document.specs.declared.document.Document.{Document}
use Rattle.json_values.specs.declared.error.Unreadable.{Unreadable}
use Rattle.json_verdict.specs.Basis.{IsBasis, meaning_of}
use Rattle.json_verdict.specs.Judges.{HasMisfit, IsJudged, Judges, first_misfit}
use Rattle.json_verdict.specs.declared.basis.Basis.{Basis}
use Rattle.json_answers.specs.declared.verdict.Verdict as judge
use Rattle.json_answers.specs.declared.verdict.Verdict.TheVariants as verdicts

not_accepted : (m : Module) (infos : ModuleInfo) → verdicts.Accepted m infos ≡ verdicts.Refused faults.NotFit → ⊥
not_accepted m infos e = cc

not_unreadable : (unreadable : Unreadable) → verdicts.Unreadable unreadable ≡ verdicts.Refused faults.NotFit → ⊥
not_unreadable unreadable e = cc

not_memory : verdicts.Refused faults.Memory ≡ verdicts.Refused faults.NotFit → ⊥
not_memory e = cc

-- a verdict of another kind
pub accepted_fits : (text : List ℕ) (v : judge.Verdict) (misfit : Option Misfit) (m : Module) (infos : ModuleInfo)
    → v ≡ verdicts.Accepted m infos → HasMisfit text v misfit
accepted_fits text v misfit m infos is = λ same. absurd (not_accepted m infos (sym is ∙ same))

pub unreadable_fits : (text : List ℕ) (v : judge.Verdict) (misfit : Option Misfit) (unreadable : Unreadable)
    → v ≡ verdicts.Unreadable unreadable → HasMisfit text v misfit
unreadable_fits text v misfit unreadable is = λ same. absurd (not_unreadable unreadable (sym is ∙ same))

pub memory_fits : (text : List ℕ) (v : judge.Verdict) (misfit : Option Misfit) → v ≡ verdicts.Refused faults.Memory
    → HasMisfit text v misfit
memory_fits text v misfit is = λ same. absurd (not_memory (sym is ∙ same))

-- what was judged over a basis is the document's judgement
pub judged_over : (d : Document) (basis : Basis) (r : Result ModuleInfo ModuleFault) → IsBasis d.known d.module basis
    → IsJudgementOrMemory (meaning_of basis.layer) d.settings basis.given.types.items d.module basis.given.global_types.items r
    → IsJudged d r
judged_over d basis r is judged = rw (is.meaning, is.infos, is.types) at judged

-- the verdict of a text, by what it is
pub accepted_judges : (text : List ℕ) (d : Document) (basis : Basis) (v : judge.Verdict) (m : Module) (infos : ModuleInfo)
    → IsDocument text d → IsBasis d.known d.module basis
    → IsJudgementOrMemory (meaning_of basis.layer) d.settings basis.given.types.items d.module
    basis.given.global_types.items (Ok infos)
    → d.module ≡ m → v ≡ verdicts.Accepted m infos → Judges text v
accepted_judges text d basis v m infos is over judged same told =
    subst (Judges text) (sym told) (d, is, same, judged_over d basis (Ok infos) over judged)

pub refused_judges : (text : List ℕ) (d : Document) (basis : Basis) (v : judge.Verdict) (e : ModuleFault) → IsDocument text d
    → IsBasis d.known d.module basis
    → IsJudgementOrMemory (meaning_of basis.layer) d.settings basis.given.types.items d.module
    basis.given.global_types.items (Err e)
    → v ≡ verdicts.Refused e → Judges text v
refused_judges text d basis v e is over judged told =
    subst (Judges text) (sym told) (inr (d, is, judged_over d basis (Err e) over judged))

pub unreadable_judges : (text : List ℕ) (v : judge.Verdict) (unreadable : Unreadable) → ((d : Document) → IsDocument text d → ⊥)
    → v ≡ verdicts.Unreadable unreadable → Judges text v
unreadable_judges text v unreadable none told = subst (Judges text) (sym told) none

pub memory_judges : (text : List ℕ) (v : judge.Verdict) → v ≡ verdicts.Refused faults.Memory → Judges text v
memory_judges text v told = subst (Judges text) (sym told) (inl refl)

-- the first misfit over a basis is the document's
first_over : (d : Document) (basis : Basis) (misfit : Option Misfit) → IsBasis d.known d.module basis
    → misfit ≡ first_fault (module_points (meaning_of basis.layer) basis.given.types.items d.module
    basis.given.global_types.items) → misfit ≡ first_misfit d
first_over d basis misfit is first = rw (is.meaning, is.infos, is.types) at first

same_fault : (e : ModuleFault) → verdicts.Refused e ≡ verdicts.Refused faults.NotFit → e ≡ faults.NotFit
same_fault e same = cc

-- a refusal of the document
pub refused_has : (text : List ℕ) (d : Document) (basis : Basis) (v : judge.Verdict) (e : ModuleFault) (misfit : Option Misfit)
    → IsDocument text d → IsBasis d.known d.module basis
    → IsJudgementOrMemory (meaning_of basis.layer) d.settings basis.given.types.items d.module
    basis.given.global_types.items (Err e)
    → v ≡ verdicts.Refused e
    → (e ≡ faults.NotFit → misfit ≡ first_fault (module_points (meaning_of basis.layer) basis.given.types.items d.module
    basis.given.global_types.items))
    → HasMisfit text v misfit
refused_has text d basis v e misfit is over judged told first = λ same.
    let unfit : e ≡ faults.NotFit = same_fault e (sym told ∙ same) in (
      d,
      is,
      subst (λ x. IsJudged d (Err x)) unfit (judged_over d basis (Err e) over judged),
      first_over d basis misfit over (first unfit),
    )

-- The JSON of out of memory.
use Rattle.std.proofs.Common.{[], ◌∷◌, None, refl}
use Rattle.json.specs.Print.{escape_byte, print_from}
use Rattle.check_faults.specs.declared.module.ModuleFault.TheVariants as faults
use Rattle.json_answers.specs.VerdictJson.{IsJsonOf, refused_form, verdict_form}
use Rattle.json_answers.specs.declared.verdict.Verdict.TheVariants as verdicts

-- "memory", in quotes, without an id
pub memory_json : IsJsonOf None (verdicts.Refused faults.Memory) None (34 ∷ 109 ∷ 101 ∷ 109 ∷ 111 ∷ 114 ∷ 121 ∷ 34 ∷ [])
unfolding verdict_form refused_form print_from escape_byte
memory_json = ([], None, refl)

-- What was written of a verdict is the reply to its text.
use Rattle.std.proofs.Common.{ℕ, List, Option, None, Result, Ok, Err, refl, inl, inr}
use Rattle.std.specs.Prelude.{IfOk}
use Rattle.ir_misfits.specs.declared.misfit.Misfit.{Misfit}
use Rattle.check_faults.specs.declared.module.ModuleFault.TheVariants as faults
use Rattle.json_verdict.proofs.Misfits.{memory_fits}
use Rattle.json_document.specs.declared.id.Id.{Id}
use Rattle.json_verdict.specs.Judges.{HasMisfit, Judges}
use Rattle.json_answers.specs.VerdictIds.{HasItsId}
use Rattle.json_verdict.specs.Runs.{IsReply, Replies}
use Rattle.json_answers.specs.declared.verdict.Verdict as judge
use Rattle.json_answers.specs.declared.verdict.Verdict.TheVariants as verdicts
use Rattle.json_answers.specs.declared.form.Form.{Form}
use Rattle.json_verdict.specs.declared.text.Bytes.{Bytes}
use Rattle.json_verdict.specs.walk.Stream.{Holds, WritesLineOrMemory}

reply_of : (text : List ℕ) (form : Form) (id : Option Id) (v : judge.Verdict) (misfit : Option Misfit)
    (old new : Option (List ℕ)) (status : ℕ) → Judges text v
    → HasMisfit text v misfit → HasItsId text v id → WritesLineOrMemory form id v misfit old new status
    → Replies form text old new status
unfolding IsReply
reply_of text form id v misfit old new status judged has named (inl (line, is, written, said)) =
    (line, (id, v, misfit, judged, has, named, is, said), written)
reply_of text form id v misfit old new status judged has named (inr (line, is, written, said)) =
    (line, (None, verdicts.Refused faults.Memory, None, inl refl, memory_fits text _ None refl, inl refl, is, said), written)

pub told_reply : {E : Type 0} (r : Result ℕ E) (form : Form) (id : Option Id) (v : judge.Verdict) (misfit : Option Misfit)
    (bytes : Bytes) (old new : Option (List ℕ))
    → ((text : List ℕ) → Holds bytes text → Judges text v) → ((text : List ℕ) → Holds bytes text → HasMisfit text v misfit)
    → ((text : List ℕ) → Holds bytes text → HasItsId text v id) → IfOk r (WritesLineOrMemory form id v misfit old new)
    → IfOk r (λ status. (text : List ℕ) → Holds bytes text → Replies form text old new status)
told_reply (Ok status) form id v misfit bytes old new judged has named told =
    λ text held. reply_of text form id v misfit old new status (judged text held) (has text held) (named text held) told
told_reply (Err e) form id v misfit bytes old new judged has named told = tt

-- What is kept of a text says its verdict.
use Rattle.std.proofs.Common.{◌≡◌, ◌≤◌, ◌<◌, ◌+◌, ℕ, true, List, [], ◌∷◌, ◌++◌, length, take, Option, None, Some, sym, ap, ◌∙◌, subst, inl, inr, arith}
use Rattle.std.proofs.lemmas.List.{length-take, length-append, take_all, take-append-le}
use Rattle.ir_misfits.specs.declared.misfit.Misfit.{Misfit}
use Rattle.check_faults.specs.declared.module.ModuleFault.{ModuleFault}
use Rattle.json_document.specs.declared.document.Document.{Document}
use Rattle.json_document.specs.declared.id.Id.{Id}
use Rattle.json_document.specs.Ids.{HasId, IsIdOf}
use Rattle.json_document.specs.ReadsDocument.{IsDocument}
use Rattle.json_verdict.specs.Judges.{HasMisfit, Judges}
use Rattle.json_answers.specs.VerdictIds.{HasItsId}
use Rattle.json_answers.specs.declared.verdict.Verdict as judge
use Rattle.json_verdict.specs.declared.text.Bytes.{Bytes}
use Rattle.json_verdict.specs.walk.Stream.{Holds, most}
use Rattle.json_answers.specs.declared.verdict.Verdict.TheVariants as verdicts

-- nothing has come in
pub kept_none : (n : ℕ) (kept : List ℕ) → kept ≡ [] → kept ≡ take n []
kept_none n kept is = is ∙ sym (take_all n [] (omega arith))

-- there is room for one byte more
pub kept_push : (n : ℕ) (kept text : List ℕ) (b : ℕ) → length kept < n → kept ≡ take n text
    → kept ++ b ∷ [] ≡ take n (text ++ b ∷ [])
kept_push n kept text b lt is =
    let sized : length kept ≡ length (take n text) = ap length is in
    let all : take n text ≡ text = take_all n text (omega (arith, length-take n text)) in
    let grown : take n (text ++ b ∷ []) ≡ text ++ b ∷ [] =
    take_all n (text ++ b ∷ []) (omega (arith, length-take n text, length-append text (b ∷ []))) in
    ap (λ l. l ++ b ∷ []) (is ∙ all) ∙ sym grown

-- there is room for these bytes, and one more
pub kept_append : (n : ℕ) (kept text bytes : List ℕ) → length kept + length bytes < n → kept ≡ take n text
    → kept ++ bytes ≡ take n (text ++ bytes)
kept_append n kept text bytes lt is =
    let sized : length kept ≡ length (take n text) = ap length is in
    let all : take n text ≡ text = take_all n text (omega (arith, length-take n text)) in
    let same : length text ≡ length kept = ap length (sym (is ∙ all)) in
    let grown : take n (text ++ bytes) ≡ text ++ bytes = take_all n (text ++ bytes) (omega (arith, length-append text bytes)) in
    ap (λ l. l ++ bytes) (is ∙ all) ∙ sym grown

-- there is no room, whatever comes
pub kept_full : (n : ℕ) (kept text more : List ℕ) → n ≤ length kept → kept ≡ take n text → kept ≡ take n (text ++ more)
kept_full n kept text more le is =
    let sized : length kept ≡ length (take n text) = ap length is in
    is ∙ sym (take-append-le n text more (omega (arith, length-take n text)))

-- bytes are lost, whatever comes
pub settled_lost : (bytes : Bytes) → bytes.is_lost ≡ true → (text more : List ℕ) → Holds bytes text → Holds bytes (text ++ more)
unfolding Holds
settled_lost bytes lost text more held = λ known. cc

pub settled_full : (bytes : Bytes) → most ≤ length bytes.kept.items → (text more : List ℕ) → Holds bytes text
    → Holds bytes (text ++ more)
unfolding Holds
settled_full bytes full text more held = λ known. kept_full most bytes.kept.items text more full (held known)

whole : (n : ℕ) (text : List ℕ) (d : Document) → 16777216 < n → IsDocument (take n text) d → IsDocument text d
whole n text d lt is =
    let bounded = is.1 in
    subst (λ t. IsDocument t d) (take_all n text (omega (arith, bounded, length-take n text))) is

part : (n : ℕ) (text : List ℕ) (d : Document) → 16777216 < n → IsDocument text d → IsDocument (take n text) d
part n text d lt is =
    let bounded = is.1 in
    subst (λ t. IsDocument t d) (sym (take_all n text (omega (arith, bounded)))) is

refused : (n : ℕ) (text : List ℕ) (e : ModuleFault) → 16777216 < n → Judges (take n text) (verdicts.Refused e)
    → Judges text (verdicts.Refused e)
refused n text e lt (inl memory) = inl memory
refused n text e lt (inr (d, is, judged)) = inr (d, whole n text d lt is, judged)

-- the verdict of a part that is longer than any document is the verdict of all
pub kept_judges : (n : ℕ) (text : List ℕ) (v : judge.Verdict) → 16777216 < n → Judges (take n text) v → Judges text v
kept_judges n text (verdicts.Accepted m infos) lt (d, is, same, judged) = (d, whole n text d lt is, same, judged)
kept_judges n text (verdicts.Refused e) lt h = refused n text e lt h
kept_judges n text (verdicts.Unreadable unreadable) lt none = λ d is. none d (part n text d lt is)

-- so is what doesn't fit
pub kept_misfit : (n : ℕ) (text : List ℕ) (v : judge.Verdict) (misfit : Option Misfit) → 16777216 < n
    → HasMisfit (take n text) v misfit → HasMisfit text v misfit
kept_misfit n text v misfit lt has = λ same.
    let (d, is, judged, first) = has same in
    (d, whole n text d lt is, judged, first)

-- so is its id
same_id : (n : ℕ) (text : List ℕ) (id : Option Id) → 16777216 < n → IsIdOf (take n text) id → IsIdOf text id
same_id n text (Some id) lt has =
    let bounded = has.1 in
    subst (λ t. HasId t id) (take_all n text (omega (arith, bounded, length-take n text))) has
same_id n text None lt none = λ id has.
    let bounded = has.1 in
    none id (subst (λ t. HasId t id) (sym (take_all n text (omega (arith, bounded)))) has)

pub kept_id : (n : ℕ) (text : List ℕ) (v : judge.Verdict) (id : Option Id) → 16777216 < n → HasItsId (take n text) v id
    → HasItsId text v id
kept_id n text v id lt (inl memory) = inl memory
kept_id n text v id lt (inr has) = inr (same_id n text id lt has)

-- What is read is the block of its tree.
use Rattle.std.proofs.Common.{◌≡◌, ℕ, List, Some, None, Ok, Err, Result, sym, ◌∙◌}
use Rattle.std.specs.Prelude.{IfOk}
use Rattle.ir_statements.specs.Tree.{Body}
use Rattle.case_notation.specs.declared.bench.Bench.{Bench}
use Rattle.case_notation.specs.declared.case.CaseError.{CaseError}
use Rattle.case_notation.specs.Scanning.{SayBody}
use Rattle.case_notation.specs.Text.{AreTextsOf}
use Rattle.case_notation.specs.Words.{IsPrintable, words_of}
use Rattle.ir_statements.specs.View.{body_of, no_operands}
use Rattle.ir_statements.specs.declared.statements.Block.{Block}
use Rattle.case_notation.specs.declared.token.Token.{Token}
use Rattle.case_notation.specs.CaseBlocks.{block_of}
use Rattle.case_notation.specs.Reading.{reading_of}
use Rattle.case_notation.proofs.Reading.Complete.{reads_complete}
use Rattle.case_notation.proofs.Reading.Sound.{reads_sound}

same_block : (a b : Block) → Some a ≡ Some b → a ≡ b
same_block a b e = cc

reads_made : (b : Block) (ts : List Token) → reading_of ts ≡ Some b → b ≡ block_of (body_of no_operands b)
reads_made b ts e =
    let sound = reads_sound b ts e in
    same_block _ _ (sym e ∙ reads_complete (body_of no_operands b) ts sound.0 sound.1)

-- what was read is said, and what says something is read
pub body_said : (bench : Bench) (text : List ℕ) (r : Result Block CaseError) → IfOk r (λ b. (ts : List Token) × AreTextsOf bench ts (words_of text) × (reading_of ts ≡ Some b) × IsPrintable text) → IfOk r (λ b. SayBody bench (words_of text) (body_of no_operands b))
body_said bench text (Err e) h = tt
body_said bench text (Ok b) (ts, are, e, shown) =
    let sound = reads_sound b ts e in
    record { tokens = ts; are_tokens = are; spelled = sound.0; shallow = sound.1 }

pub body_shown : (bench : Bench) (text : List ℕ) (r : Result Block CaseError) → IfOk r (λ b. (ts : List Token) × AreTextsOf bench ts (words_of text) × (reading_of ts ≡ Some b) × IsPrintable text) → IfOk r (λ b. IsPrintable text)
body_shown bench text (Err e) h = tt
body_shown bench text (Ok b) (ts, are, e, shown) = shown

pub body_made : (bench : Bench) (text : List ℕ) (r : Result Block CaseError) → IfOk r (λ b. (ts : List Token) × AreTextsOf bench ts (words_of text) × (reading_of ts ≡ Some b) × IsPrintable text) → IfOk r (λ b. b ≡ block_of (body_of no_operands b))
body_made bench text (Err e) h = tt
body_made bench text (Ok b) (ts, are, e, shown) = reads_made b ts e

some_none : {A : Type 0} (x : A) → Some x ≡ None → ⊥
some_none x e = cc

pub body_none : (bench : Bench) (words : List (List ℕ)) → ((ts : List Token) → AreTextsOf bench ts words → reading_of ts ≡ None) → (body : Body) → SayBody bench words body → ⊥
body_none bench words none body said =
    some_none _ (sym (reads_complete body said.tokens said.spelled said.shallow) ∙ none said.tokens said.are_tokens)

-- A text that is fed to the reader, a word at a time.
use Rattle.std.proofs.Common.{◌≡◌, ℕ, List, [], ◌∷◌, Some, None, Ok, Err, Result, refl, ap, sym, subst, ◌∙◌}
use Rattle.std.specs.Prelude.{option_and_then, IfOk, IsErrOf}
use Rattle.ir_statements.specs.declared.statements.Block.{Block}
use Rattle.case_notation.specs.declared.bench.Bench.{Bench}
use Rattle.case_notation.specs.declared.case.CaseError.{CaseError}
use Rattle.case_notation.specs.declared.case.CaseError.TheVariants.{Unreadable, Memory}
use Rattle.case_notation.specs.declared.token.Token.{Token}
use Rattle.case_notation.specs.Feeding.{feeds, Steps, Ends}
use Rattle.case_notation.specs.Reading.{ReadingState, begun, step, finish, reading_of}
use Rattle.case_notation.specs.Scanning.{FirstWord, NoWord}
use Rattle.case_notation.specs.Text.{IsTokenText, AreTextsOf}
use Rattle.case_notation.specs.Words.{IsPrintable, words_of}
use Rattle.case_notation.proofs.Reading.Tokens.{one_token, text_visible}
use Rattle.case_notation.proofs.Reading.Turns.{gone}

-- The text leads to the state before this rest of it: what the rest does from there is what the whole text does.
pub record Fed (bench : Bench) (text : List ℕ) (s : ReadingState) (rest : List ℕ) : Type 0 where
  pub back : (us : List Token) → AreTextsOf bench us (words_of rest) → (ts : List Token) × AreTextsOf bench ts (words_of text) × (feeds step (Some begun) ts ≡ feeds step (Some s) us)
  pub on : (ts : List Token) → AreTextsOf bench ts (words_of text) → (us : List Token) × AreTextsOf bench us (words_of rest) × (feeds step (Some begun) ts ≡ feeds step (Some s) us)
  pub printable : IsPrintable rest → IsPrintable text

-- the token of the first word is the first token
first_token : (bench : Bench) (us : List Token) (word : List ℕ) (words : List (List ℕ)) (t : Token) → IsTokenText bench t word → AreTextsOf bench us (word ∷ words) → (more : List Token) × (us ≡ t ∷ more) × AreTextsOf bench more words
first_token bench [] word words t is are = absurd are
first_token bench (u ∷ us) word words t is are =
    let same : u ≡ t = one_token bench u t word are.0 is in (us, ap (λ x. x ∷ us) same, are.1)

has_token : (bench : Bench) (us : List Token) (word : List ℕ) (words : List (List ℕ)) → AreTextsOf bench us (word ∷ words) → (t : Token) × IsTokenText bench t word
has_token bench [] word words are = absurd are
has_token bench (u ∷ us) word words are = (u, are.0)

no_tokens : (bench : Bench) (us : List Token) → AreTextsOf bench us [] → us ≡ []
no_tokens bench [] are = refl
no_tokens bench (u ∷ us) are = absurd are

module _ (bench : Bench) (text : List ℕ) (s : ReadingState) (rest word after : List ℕ) (fed : Fed bench text s rest) (cut : FirstWord rest word after) where
  -- a word whose token is taken
  pub fed_more : (t : Token) (u : ReadingState) → IsTokenText bench t word → step s t ≡ Some u → Fed bench text u after
  unfolding feeds
  fed_more t u is to = record {
    back = λ us are.
        let ts = fed.back (t ∷ us) (subst (AreTextsOf bench (t ∷ us)) (sym cut.first) (is, are)) in
        (ts.0, ts.1, ts.2 ∙ ap (λ o. feeds step o us) to);
    on = λ ts are.
        let us = fed.on ts are in
        let more = first_token bench us.0 word (words_of after) t is (subst (AreTextsOf bench us.0) cut.first us.1) in
        (more.0, more.2, us.2 ∙ ap (feeds step (Some s)) more.1 ∙ ap (λ o. feeds step o more.0) to);
    printable = λ shown. fed.printable (cut.printable (text_visible bench t word is) shown);
  }

  -- a word that has no token
  pub fed_unlike : ((t : Token) → IsTokenText bench t word → ⊥) → (ts : List Token) → AreTextsOf bench ts (words_of text) → ⊥
  fed_unlike none ts are =
      let us = fed.on ts are in
      let found = has_token bench us.0 word (words_of after) (subst (AreTextsOf bench us.0) cut.first us.1) in
      none found.0 found.1

  -- a word whose token is refused
  pub fed_refused : (t : Token) (u : ReadingState) (e : CaseError) → IsTokenText bench t word → Steps (step s t) (Err e) u → e ≡ Unreadable → (ts : List Token) → AreTextsOf bench ts (words_of text) → reading_of ts ≡ None
  unfolding feeds
  fed_refused t u Memory is refused other ts are = cc
  fed_refused t u Unreadable is refused same ts are =
      let us = fed.on ts are in
      let more = first_token bench us.0 word (words_of after) t is (subst (AreTextsOf bench us.0) cut.first us.1) in
      ap (option_and_then finish) (us.2 ∙ ap (feeds step (Some s)) more.1 ∙ ap (λ o. feeds step o more.0) refused ∙ gone step more.0)

module _ (bench : Bench) (text : List ℕ) (s : ReadingState) (rest : List ℕ) (fed : Fed bench text s rest) (end : NoWord rest) where
  -- behind the last word
  pub fed_whole : (r : Result Block CaseError) → Ends (finish s) r → IfOk r (λ b. (ts : List Token) × AreTextsOf bench ts (words_of text) × (reading_of ts ≡ Some b) × IsPrintable text)
  unfolding feeds
  fed_whole (Err e) ends = tt
  fed_whole (Ok b) ends =
      let ts = fed.back [] (subst (AreTextsOf bench []) (sym end.none) tt) in
      (ts.0, ts.1, ap (option_and_then finish) ts.2 ∙ ends, fed.printable end.printable)

  pub fed_no_body : (r : Result Block CaseError) → Ends (finish s) r → IsErrOf r Unreadable → (ts : List Token) → AreTextsOf bench ts (words_of text) → reading_of ts ≡ None
  unfolding feeds
  fed_no_body (Ok b) ends is ts are = cc
  fed_no_body (Err Memory) ends is ts are = cc
  fed_no_body (Err Unreadable) ends is ts are =
      let us = fed.on ts are in
      let none : us.0 ≡ [] = no_tokens bench us.0 (subst (AreTextsOf bench us.0) end.none us.1) in
      ap (option_and_then finish) (us.2 ∙ ap (feeds step (Some s)) none) ∙ ends

-- The texts of tokens: each word has one meaning.
use Rattle.std.proofs.Common.{◌≡◌, ◌<◌, ◌≤◌, ◌^◌, ℕ, zero, suc, ℤ, pos, negsuc, append-nil, List, [], ◌∷◌, ◌++◌, Bool, true, false, Option, Some, None, refl, ap, sym, subst, ◌∙◌, arith, get_or, cond, codes, decimal, slice_get}
use Rattle.std.specs.Prelude.{not, ◌⊎◌, ◌==◌, ◌||◌, ◌&&◌, nat_le}
use Rattle.std.proofs.Common.{inl, inr}
use Rattle.std.specs.Str.{bytes_eq}
use Rattle.std.specs.Cmp.Lexicographic.{same_text}
use Rattle.ir_statements.specs.declared.operations.SwitchValue.{SwitchValue}
use Rattle.ir_statements.specs.declared.operations.SwitchValue.TheVariants.{I32, U32, Default}
use Rattle.std.specs.Fmt.{signed_decimal}
use Rattle.std.specs.Int.Signed.{mag}
use Rattle.std.proofs.Math.ListN.{get_or-append}
use Rattle.std.proofs.lemmas.Fmt.{decimal_nonempty}
use Rattle.std.proofs.lemmas.Bool.Decides.{nat_tests}
use Rattle.std.proofs.lemmas.Grind.{common_steps, get_or_default_zero}
use Rattle.std.specs.List.{AllPass, list_all}
use Rattle.std.proofs.lemmas.List.Elements.{All-append, All-cons}
use Rattle.std.proofs.lemmas.List.Sums.{AllPass-from_list_all}
use Rattle.std.proofs.lemmas.Str.Parse.{digit_at}
use Rattle.std.proofs.lemmas.Fmt.{digits_decimal}
use Rattle.case_notation.specs.Words.{is_visible}
use Rattle.case_notation.proofs.Reading.Values.{decimal_first, one_value, own}
use Rattle.case_notation.specs.declared.bench.Bench.{Bench}
use Rattle.case_notation.specs.declared.bench.Bench.TheVariants.{P, C, D}
use Rattle.case_notation.specs.declared.token.Token.{Token}
use Rattle.case_notation.specs.declared.token.Token.TheVariants as token
use Rattle.case_notation.specs.Bench.{names_of}
use Rattle.case_notation.specs.Lookup.{lookup, shared_words, own_words, meaning_of}
use Rattle.case_notation.specs.Text.{IsValueText, IsTokenText, AreTextsOf}

-- what holds of a text and what stands beside it, all along a table
abbrev AllEntries : {X : Type 0} → (X → List ℕ → Type 0) → List (List ℕ × X) → Type 0
AllEntries Q [] = Unit {0}
AllEntries Q ((text, x) ∷ rest) = Q x text × AllEntries Q rest

chosen : {X : Type 0} (b : Bool) (x y : X) (o : Option X) → cond b (Some x) o ≡ Some y → ((b ≡ true) × (x ≡ y)) ⊎ ((b ≡ false) × (o ≡ Some y))
chosen true x y o e = let same : x ≡ y = cc in inl (refl, same)
chosen false x y o e = inr (refl, e)

lookup_found : {X : Type 0} (Q : X → List ℕ → Type 0) (table : List (List ℕ × X)) (w : List ℕ) (x : X) → AllEntries Q table → lookup table w ≡ Some x → Q x w
lookup_found Q [] w x all e = cc
lookup_found Q ((text, y) ∷ rest) w x all e =
    elim (chosen (bytes_eq w text) y x (lookup rest w) e) [
      | inl h ↦ subst (λ z. Q z w) h.1 (subst (Q y) (sym (same_text w text (sym h.0))) all.0)
      | inr h ↦ lookup_found Q rest w x all.1 h.1
    ]

-- a word that is found is the text of what it means
pub shared_found : (bench : Bench) (w : List ℕ) (t : Token) → lookup shared_words w ≡ Some t → IsTokenText bench t w
shared_found P w t e = lookup_found (IsTokenText P) shared_words w t (refl, (refl, (refl, (refl, (refl, (refl, (refl, (refl, (refl, (refl, (refl, (refl, (refl, (refl, (refl, (refl, (refl, (refl, (refl, (refl, (refl, (refl, tt)))))))))))))))))))))) e
shared_found C w t e = lookup_found (IsTokenText C) shared_words w t (refl, (refl, (refl, (refl, (refl, (refl, (refl, (refl, (refl, (refl, (refl, (refl, (refl, (refl, (refl, (refl, (refl, (refl, (refl, (refl, (refl, (refl, tt)))))))))))))))))))))) e
shared_found D w t e = lookup_found (IsTokenText D) shared_words w t (refl, (refl, (refl, (refl, (refl, (refl, (refl, (refl, (refl, (refl, (refl, (refl, (refl, (refl, (refl, (refl, (refl, (refl, (refl, (refl, (refl, (refl, tt)))))))))))))))))))))) e

pub own_found : (bench : Bench) (w : List ℕ) (t : Token) → lookup (own_words bench) w ≡ Some t → IsTokenText bench t w
own_found P w t e = cc
own_found C w t e = lookup_found (IsTokenText C) (own_words C) w t ((refl, refl), ((refl, refl), ((refl, refl), (refl, tt)))) e
own_found D w t e = lookup_found (IsTokenText D) (own_words D) w t (refl, tt) e

-- what the text of a token is looked up as
abbrev meant : Token → Option Token
meant (token.Value v) = None
meant t = Some t

-- a text begins with a digit, or with a minus that is not that of an arrow
abbrev begins_numeric : List ℕ → Bool
begins_numeric bs =
    (get_or bs 0 0 == 45 && not (get_or bs 1 0 == 62)) || (nat_le 48 (get_or bs 0 0) && nat_le (get_or bs 0 0) 57)

abbrev IsOther : {X : Type 0} → X → List ℕ → Type 0
IsOther x text = begins_numeric text ≡ false

other_text : (w text : List ℕ) → begins_numeric text ≡ false → begins_numeric w ≡ true → bytes_eq w text ≡ false
other_text w text other numeric = go (bytes_eq w text) refl
  where
    go : (b : Bool) → bytes_eq w text ≡ b → b ≡ false
    go false is = refl
    go true is =
        let same : w ≡ text = same_text w text (sym is) in
        let both : true ≡ false = sym numeric ∙ ap begins_numeric same ∙ other in cc

lookup_numeric : {X : Type 0} (table : List (List ℕ × X)) (w : List ℕ) → AllEntries IsOther table → begins_numeric w ≡ true → lookup table w ≡ None
lookup_numeric [] w all e = refl
lookup_numeric ((text, x) ∷ rest) w all e = rw (other_text w text all.0 e) (lookup_numeric rest w all.1 e)

shared_other : AllEntries IsOther shared_words
shared_other = (refl, (refl, (refl, (refl, (refl, (refl, (refl, (refl, (refl, (refl, (refl, (refl, (refl, (refl, (refl, (refl, (refl, (refl, (refl, (refl, (refl, (refl, tt))))))))))))))))))))))

own_other : (bench : Bench) → AllEntries IsOther (own_words bench)
own_other P = tt
own_other C = (refl, (refl, (refl, (refl, tt))))
own_other D = (refl, tt)

meaning_numeric : (bench : Bench) (w : List ℕ) → begins_numeric w ≡ true → meaning_of bench w ≡ None
unfolding meaning_of
meaning_numeric bench w e =
    rw (lookup_numeric shared_words w shared_other e) (lookup_numeric (own_words bench) w (own_other bench) e)

digit_is : (b : ℕ) → 48 ≤ b → b ≤ 57 → nat_le 48 b && nat_le b 57 ≡ true
digit_is b low high = grind (arith, common_steps)

second_of : (a b : Bool) → b ≡ true → (a || b) ≡ true
second_of true b e = refl
second_of false b e = e

first_of : (a b : Bool) → a ≡ true → (a || b) ≡ true
first_of true b e = refl
first_of false b e = cc

decimal_numeric : (n : ℕ) (bs : List ℕ) → n < 2 ^ 32 → begins_numeric (decimal n ++ bs) ≡ true
decimal_numeric n bs lt =
    let some = decimal_nonempty n (omega arith) in
    let first = decimal_first n (omega arith) in
    let same : get_or (decimal n ++ bs) 0 0 ≡ get_or (decimal n) 0 0 = get_or-append (decimal n) bs 0 0 some in
    let digit : nat_le 48 (get_or (decimal n ++ bs) 0 0) && nat_le (get_or (decimal n ++ bs) 0 0) 57 ≡ true = rw same (digit_is (get_or (decimal n) 0 0) first.0 first.1) in
    second_of _ _ digit

no_arrow : (b : ℕ) → b ≤ 57 → not (b == 62) ≡ true
no_arrow b high = grind (arith, nat_tests)

signed_numeric : (z : ℤ) → mag z < 2 ^ 31 → begins_numeric (signed_decimal z ++ codes "i") ≡ true
signed_numeric (pos n) lt = decimal_numeric n (codes "i") (omega arith)
signed_numeric (negsuc n) lt =
    let some = decimal_nonempty (suc n) (omega arith) in
    let first = decimal_first (suc n) (omega arith) in
    let same : get_or (decimal (suc n) ++ codes "i") 0 0 ≡ get_or (decimal (suc n)) 0 0 = get_or-append (decimal (suc n)) (codes "i") 0 0 some in
    let other : not (get_or (decimal (suc n) ++ codes "i") 0 0 == 62) ≡ true = rw same (no_arrow (get_or (decimal (suc n)) 0 0) first.1) in
    first_of _ _ other

-- a name that stands in its place means it
name_is : (bench : Bench) (h : ℕ) (w : List ℕ) → slice_get (names_of bench) h ≡ Some w → meaning_of bench w ≡ Some (token.Name h)
unfolding meaning_of
name_is P zero w e = let same : codes "t" ≡ w = cc in rw (← same) refl
name_is P (suc zero) w e = let same : codes "u" ≡ w = cc in rw (← same) refl
name_is P (suc (suc zero)) w e = let same : codes "i" ≡ w = cc in rw (← same) refl
name_is P (suc (suc (suc zero))) w e = let same : codes "e1" ≡ w = cc in rw (← same) refl
name_is P (suc (suc (suc (suc zero)))) w e = let same : codes "v" ≡ w = cc in rw (← same) refl
name_is P (suc (suc (suc (suc (suc zero))))) w e = let same : codes "x1" ≡ w = cc in rw (← same) refl
name_is P (suc (suc (suc (suc (suc (suc h)))))) w e = cc
name_is C zero w e = let same : codes "t" ≡ w = cc in rw (← same) refl
name_is C (suc zero) w e = let same : codes "u" ≡ w = cc in rw (← same) refl
name_is C (suc (suc zero)) w e = let same : codes "i" ≡ w = cc in rw (← same) refl
name_is C (suc (suc (suc zero))) w e = let same : codes "e1" ≡ w = cc in rw (← same) refl
name_is C (suc (suc (suc (suc zero)))) w e = let same : codes "v" ≡ w = cc in rw (← same) refl
name_is C (suc (suc (suc (suc (suc zero))))) w e = let same : codes "x1" ≡ w = cc in rw (← same) refl
name_is C (suc (suc (suc (suc (suc (suc zero)))))) w e = let same : codes "r1" ≡ w = cc in rw (← same) refl
name_is C (suc (suc (suc (suc (suc (suc (suc h))))))) w e = cc
name_is D zero w e = let same : codes "t" ≡ w = cc in rw (← same) refl
name_is D (suc zero) w e = let same : codes "u" ≡ w = cc in rw (← same) refl
name_is D (suc (suc zero)) w e = let same : codes "i" ≡ w = cc in rw (← same) refl
name_is D (suc (suc (suc zero))) w e = let same : codes "e1" ≡ w = cc in rw (← same) refl
name_is D (suc (suc (suc (suc zero)))) w e = let same : codes "v" ≡ w = cc in rw (← same) refl
name_is D (suc (suc (suc (suc (suc zero))))) w e = let same : codes "x1" ≡ w = cc in rw (← same) refl
name_is D (suc (suc (suc (suc (suc (suc zero)))))) w e = let same : codes "e2" ≡ w = cc in rw (← same) refl
name_is D (suc (suc (suc (suc (suc (suc (suc h))))))) w e = cc

not_true : false ≡ true → ⊥
not_true e = cc

-- a text of a token means it
text_is : (bench : Bench) (t : Token) (w : List ℕ) → IsTokenText bench t w → meaning_of bench w ≡ meant t
unfolding meaning_of
text_is bench (token.Name h) w e = name_is bench h w e
text_is bench (token.Value (I32 z)) w (fits, e) =
    let numeric : begins_numeric w ≡ true = rw e (signed_numeric z fits.sfits) in meaning_numeric bench w numeric
text_is bench (token.Value (U32 n)) w (lt, e) =
    let numeric : begins_numeric w ≡ true = rw (e, ← append-nil (decimal n)) (decimal_numeric n [] lt) in
    meaning_numeric bench w numeric
text_is P (token.Value Default) w e = rw e refl
text_is C (token.Value Default) w e = rw e refl
text_is D (token.Value Default) w e = rw e refl
text_is P token.Call w (there, e) = absurd (not_true there)
text_is P token.Callee w (there, e) = absurd (not_true there)
text_is P token.Arrow w (there, e) = absurd (not_true there)
text_is D token.Call w (there, e) = absurd (not_true there)
text_is D token.Callee w (there, e) = absurd (not_true there)
text_is D token.Arrow w (there, e) = absurd (not_true there)
text_is C token.Call w (there, e) = rw e refl
text_is C token.Callee w (there, e) = rw e refl
text_is C token.Arrow w (there, e) = rw e refl
text_is P t w e = rw e refl
text_is C t w e = rw e refl
text_is D t w e = rw e refl

meant_back : (u t : Token) → meant u ≡ Some t → u ≡ t
meant_back (token.Value v) t e = cc
meant_back u t e = cc

-- what is looked up as nothing is a value
value_back : (bench : Bench) (u : Token) (w : List ℕ) → meant u ≡ None → IsTokenText bench u w → (v : SwitchValue) × (u ≡ token.Value v) × IsValueText v w
value_back bench (token.Value v) w e k = (v, refl, k)
value_back bench u w e k = cc

-- a word is the text of one token
pub one_token : (bench : Bench) (t u : Token) (w : List ℕ) → IsTokenText bench t w → IsTokenText bench u w → t ≡ u
one_token bench (token.Value v) u w a b =
    let value = value_back bench u w (sym (text_is bench u w b) ∙ text_is bench (token.Value v) w a) b in
    ap token.Value (one_value v value.0 w a value.2) ∙ sym value.1
one_token bench t u w a b = sym (meant_back u t (sym (text_is bench u w b) ∙ text_is bench t w a))

-- a word that is nothing that can be looked up, and no value, is no text of a token
pub no_token : (bench : Bench) (w : List ℕ) → lookup shared_words w ≡ None → lookup (own_words bench) w ≡ None → ((v : SwitchValue) → IsValueText v w → ⊥) → (t : Token) → IsTokenText bench t w → ⊥
unfolding meaning_of
no_token bench w not_shared not_own no_value t a =
    let none : meaning_of bench w ≡ None = rw not_shared not_own in
    let value = value_back bench t w (sym (text_is bench t w a) ∙ none) a in
    no_value value.0 value.2

-- words are the texts of one list of tokens
pub one_list : (bench : Bench) (ts us : List Token) (ws : List (List ℕ)) → AreTextsOf bench ts ws → AreTextsOf bench us ws → ts ≡ us
one_list bench [] [] [] a b = refl
one_list bench (t ∷ ts) (u ∷ us) (w ∷ ws) a b =
    let first : t ≡ u = one_token bench t u w a.0 b.0 in
    let rest : ts ≡ us = one_list bench ts us ws a.1 b.1 in
    λ i. first i ∷ rest i
one_list bench (t ∷ ts) us [] a b = absurd a
one_list bench [] us (w ∷ ws) a b = absurd a
one_list bench ts (u ∷ us) [] a b = absurd b
one_list bench ts [] (w ∷ ws) a b = absurd b

-- a text of a token has no byte that words don't
pub shown : (w text : List ℕ) → w ≡ text → list_all is_visible text ≡ true → AllPass is_visible w
shown w text e h = AllPass-from_list_all is_visible w (rw e h)

abbrev AllShown : List (List ℕ) → Type 0
AllShown [] = Unit {0}
AllShown (n ∷ names) = (list_all is_visible n ≡ true) × AllShown names

name_shown : (names : List (List ℕ)) → AllShown names → (h : ℕ) (w : List ℕ) → slice_get names h ≡ Some w → AllPass is_visible w
name_shown [] all h w e = cc
name_shown (n ∷ names) all zero w e = let same : n ≡ w = cc in shown w n (sym same) all.0
name_shown (n ∷ names) all (suc h) w e = name_shown names all.1 h w e

digit_shown : (b : ℕ) → 48 ≤ b → b ≤ 57 → is_visible b ≡ true
digit_shown b low high = grind (arith, common_steps)

decimal_shown : (n : ℕ) → n < 2 ^ 64 → AllPass is_visible (decimal n)
decimal_shown n lt = λ k d in_range.
    let digit = digit_at (decimal n) k (digits_decimal own n lt) in_range in
    rw (get_or_default_zero (decimal n) k d in_range) (digit_shown (get_or (decimal n) k 0) (omega (arith, digit)) (omega (arith, digit)))

signed_shown : (z : ℤ) → mag z < 2 ^ 31 → AllPass is_visible (signed_decimal z)
signed_shown (pos n) lt = decimal_shown n (omega arith)
signed_shown (negsuc n) lt =
    All-cons (λ b. is_visible b ≡ true) 45 (decimal (suc n)) refl (decimal_shown (suc n) (omega arith))

pub text_visible : (bench : Bench) (t : Token) (w : List ℕ) → IsTokenText bench t w → AllPass is_visible w
text_visible P (token.Name h) w e = name_shown (names_of P) (refl, (refl, (refl, (refl, (refl, (refl, tt)))))) h w e
text_visible C (token.Name h) w e = name_shown (names_of C) (refl, (refl, (refl, (refl, (refl, (refl, (refl, tt))))))) h w e
text_visible D (token.Name h) w e = name_shown (names_of D) (refl, (refl, (refl, (refl, (refl, (refl, (refl, tt))))))) h w e
text_visible bench (token.Value (I32 z)) w (fits, e) =
    rw e (All-append (λ b. is_visible b ≡ true) (signed_decimal z) (codes "i") (signed_shown z fits.sfits) (shown (codes "i") (codes "i") refl refl))
text_visible bench (token.Value (U32 n)) w (lt, e) = rw e (decimal_shown n (omega arith))
text_visible bench (token.Value Default) w e = shown w (codes "default") e refl
text_visible bench token.Emit w e = shown w (codes "emit") e refl
text_visible bench token.To w e = shown w (codes "..") e refl
text_visible bench token.Block w e = shown w (codes "block") e refl
text_visible bench token.If w e = shown w (codes "if") e refl
text_visible bench token.Switch w e = shown w (codes "switch") e refl
text_visible bench token.Fall w e = shown w (codes "fall") e refl
text_visible bench token.Loop w e = shown w (codes "loop") e refl
text_visible bench token.BreakIf w e = shown w (codes "break_if") e refl
text_visible bench token.Break w e = shown w (codes "break") e refl
text_visible bench token.Continue w e = shown w (codes "continue") e refl
text_visible bench token.Return w e = shown w (codes "return") e refl
text_visible bench token.Kill w e = shown w (codes "kill") e refl
text_visible bench token.Store w e = shown w (codes "store") e refl
text_visible bench token.Barrier w e = shown w (codes "barrier") e refl
text_visible bench token.Open w e = shown w (codes "{") e refl
text_visible bench token.Close w e = shown w (codes "}") e refl
text_visible bench token.Call w (there, e) = shown w (codes "call") e refl
text_visible bench token.Callee w (there, e) = shown w (codes "f") e refl
text_visible bench token.Arrow w (there, e) = shown w (codes "->") e refl

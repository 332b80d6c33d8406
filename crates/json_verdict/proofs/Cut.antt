-- A text is cut at its first newline.
use Rattle.std.proofs.Common.{◌≡◌, ◌<◌, ◌+◌, ◌-◌, ℕ, zero, suc, Bool, true, false, List, [], ◌∷◌, ◌++◌, length, take, drop, refl, sym, ap, ◌∙◌, arith, eqb-true}
use Rattle.std.proofs.lemmas.List.{take_all}
use Rattle.std.specs.Prelude.{◌==◌}
use Rattle.memchr.specs.Find.{Nowhere, Passes, is_byte}
use Rattle.json_verdict.specs.walk.Lines.{IsPlain}

abbrev IsNewline : List ℕ → ℕ → Type 0
IsNewline text k = Passes (is_byte 10) text k

not_true : (t : Bool) → ¬ (t ≡ true) → t ≡ false
not_true true never = absurd (never refl)
not_true false never = refl

-- there is no newline
pub none_plain : (text : List ℕ) → Nowhere (IsNewline text) 0 (length text) → IsPlain text
none_plain [] none = tt
none_plain (b ∷ bs) none = (
  not_true (b == 10) (none 0 (omega arith) (omega arith)),
  none_plain bs (λ k low high. none (suc k) (omega arith) (omega (arith, high))),
)

-- there is none before this place
pub take_plain : (text : List ℕ) (end : ℕ) → end < length text → Nowhere (IsNewline text) 0 end → IsPlain (take end text)
take_plain [] end lt none = absurd (omega (arith, lt))
take_plain (b ∷ bs) zero lt none = tt
take_plain (b ∷ bs) (suc k) lt none = (
  not_true (b == 10) (none 0 (omega arith) (omega arith)),
  take_plain bs k (omega (arith, lt)) (λ j low high. none (suc j) (omega arith) (omega (arith, high))),
)

-- one stands here
pub cut_at : (text : List ℕ) (end : ℕ) → end < length text → IsNewline text end →
    text ≡ take end text ++ 10 ∷ take (length text - (end + 1)) (drop (end + 1) text)
cut_at [] end lt is = absurd (omega (arith, lt))
cut_at (b ∷ bs) zero lt is =
    let left : length (b ∷ bs) - (0 + 1) ≡ length bs = omega arith in
    let rest : take (length (b ∷ bs) - (0 + 1)) bs ≡ bs = ap (λ n. take n bs) left ∙ take_all (length bs) bs (omega arith) in
    ap (λ x. x ∷ bs) (eqb-true b 10 is) ∙ ap (λ l. 10 ∷ l) (sym rest)
cut_at (b ∷ bs) (suc k) lt is =
    let next : suc k + 1 ≡ suc (k + 1) = omega arith in
    let left : length (b ∷ bs) - suc (k + 1) ≡ length bs - (k + 1) = omega arith in
    let rest : take (length bs - (k + 1)) (drop (k + 1) bs) ≡ take (length (b ∷ bs) - (suc k + 1)) (drop (suc k + 1) (b ∷ bs)) =
    ap (λ n. take n (drop (k + 1) bs)) (sym left) ∙ ap (λ n. take (length (b ∷ bs) - n) (drop n (b ∷ bs))) (sym next) in
    ap (λ l. b ∷ l) (cut_at bs k (omega (arith, lt)) is ∙ ap (λ l. take k bs ++ 10 ∷ l) rest)

-- The options of a case.
use Rattle.std.proofs.Common.{◌≡◌, ℕ, List, Bool, true, false, Option, Some, None, refl, ap, sym, ◌∙◌, inl, inr, codes}
use Rattle.std.specs.List.{AllPass}
use Rattle.std.specs.Str.{bytes_eq}
use Rattle.std.specs.Cmp.Lexicographic.{same_text}
use Rattle.case_notation.specs.Lookup.{options_of, take_option}
use Rattle.case_notation.specs.Scanning.{FirstWord, NoWord}
use Rattle.case_notation.specs.Words.{is_visible, words_of}
use Rattle.case_notation.proofs.Reading.Tokens.{shown}
use Rattle.case_notation.proofs.Reading.Whole.{take_found}

module _ (rest word after : List ℕ) (cut : FirstWord rest word after) (e b : Bool) (all : Option (Bool × Bool × List (List ℕ))) (leads : options_of e b (words_of rest) ≡ all) where
  pub at_colon : bytes_eq word (codes ":") ≡ true → all ≡ Some (e, b, words_of after)
  unfolding options_of
  at_colon is = sym leads ∙ ap (options_of e b) cut.first ∙ (rw is refl)

  pub at_option : bytes_eq word (codes ":") ≡ false → (f g : Bool) → take_option e b word ≡ Some (f, g) → options_of f g (words_of after) ≡ all
  unfolding options_of
  at_option other f g taken = sym (ap (options_of e b) cut.first ∙ (rw (other, taken) refl)) ∙ leads

  pub at_other : bytes_eq word (codes ":") ≡ false → take_option e b word ≡ None → all ≡ None
  unfolding options_of
  at_other other none = sym (sym (ap (options_of e b) cut.first ∙ (rw (other, none) refl)) ∙ leads)

pub at_end : (rest : List ℕ) → NoWord rest → (e b : Bool) (all : Option (Bool × Bool × List (List ℕ))) → options_of e b (words_of rest) ≡ all → all ≡ None
unfolding options_of
at_end rest end e b all leads = sym leads ∙ ap (options_of e b) end.none

-- these words have no byte that words don't
pub colon_shown : (word : List ℕ) → bytes_eq word (codes ":") ≡ true → AllPass is_visible word
colon_shown word is = shown word (codes ":") (same_text word (codes ":") (sym is)) refl

pub option_shown : (e b : Bool) (word : List ℕ) (o : Bool × Bool) → take_option e b word ≡ Some o → AllPass is_visible word
option_shown e b word o taken =
    elim (take_found e b word o taken) [
      | inl h ↦ shown word (codes "-expressions") h.0 refl
      | inr h ↦ shown word (codes "-blocks") h.0 refl
    ]

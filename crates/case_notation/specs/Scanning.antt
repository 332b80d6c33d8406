-- What the functions that go over a text do. No public contract cites this.
use Rattle.std.specs.Prelude.{◌≡◌, ◌<◌, ◌≤◌, ℕ, Bool, not, List, [], ◌∷◌, length, take, drop}
use Rattle.std.specs.List.{AllPass, prefix_len}
use Rattle.ir_statements.specs.Tree.{Body}
use Rattle.case_notation.specs.declared.bench.Bench.{Bench}
use Rattle.case_notation.specs.declared.token.Token.{Token}
use Rattle.case_notation.specs.Grammar.{Spells, depth}
use Rattle.case_notation.specs.Text.{AreTextsOf}
use Rattle.case_notation.specs.Words.{is_space, is_visible, IsPrintable, words_of}

-- what no white space is
abbrev pub is_other : ℕ → Bool
is_other b = not (is_space b)

-- a text is white space, a word, and what stands after it
pub record FirstWord (text word after : List ℕ) : Type 0 where
  pub first : words_of text ≡ word ∷ words_of after
  pub printable : AllPass is_visible word → IsPrintable after → IsPrintable text
  pub shorter : length after < length text

-- a text is white space alone
pub record NoWord (text : List ℕ) : Type 0 where
  pub none : words_of text ≡ []
  pub printable : IsPrintable text

-- a text is what stands before its first white space, and the text after that, if there is any
pub record CutAtSpace (text word after : List ℕ) : Type 0 where
  pub long : length word ≡ prefix_len is_other text
  pub front : word ≡ take (prefix_len is_other text) text
  pub same : words_of (drop (prefix_len is_other text) text) ≡ words_of after
  pub printable : IsPrintable after → IsPrintable (drop (prefix_len is_other text) text)
  pub shorter : length after ≤ length (drop (prefix_len is_other text) text)

-- words say a body
pub record SayBody (bench : Bench) (words : List (List ℕ)) (body : Body) : Type 0 where
  pub tokens : List Token
  pub are_tokens : AreTextsOf bench tokens words
  pub spelled : Spells body tokens
  pub shallow : depth body ≤ 256

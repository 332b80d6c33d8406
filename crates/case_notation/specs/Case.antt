-- A case, and the inputs that read as it.
use Rattle.std.specs.Prelude.{◌≡◌, ◌≤◌, ℕ, Bool, List, ◌∷◌, ◌++◌, length, codes}
use Rattle.ir_statements.specs.Tree.{Body}
use Rattle.ir_statements.specs.View.{body_of, no_operands}
use Rattle.case_notation.specs.declared.bench.Bench.{Bench}
use Rattle.case_notation.specs.declared.case.Case as declared
use Rattle.case_notation.specs.declared.token.Token.{Token}
use Rattle.case_notation.specs.Bench.{bench_word}
use Rattle.case_notation.specs.CaseBlocks.{block_of}
use Rattle.case_notation.specs.Words.{IsPrintable, words_of}
use Rattle.case_notation.specs.Text.{AreTextsOf}
use Rattle.case_notation.specs.Grammar.{Spells, depth}
use Rattle.case_notation.specs.Head.{AreOptions}

-- a case: the bench, which of the two flags that options take away are on, and the body
pub record Case : Type 0 where
  pub bench : Bench
  pub expressions : Bool
  pub blocks : Bool
  pub body : Body

-- the case that a value of the program stands for
abbrev pub case_of : declared.Case → Case
case_of c = record { bench = c.bench; expressions = c.expressions; blocks = c.blocks; body = body_of no_operands c.body }

-- the value's block is that of its case's body
abbrev pub HoldsBlock : declared.Case → Type 0
HoldsBlock c = c.body ≡ block_of (case_of c).body

-- The words say the case: they are the bench's, the options, `:` and the texts of tokens, and those spell the body, in
-- which at most 256 braces are open at once.
pub record Say (words : List (List ℕ)) (c : Case) : Type 0 where
  pub options : List (List ℕ)
  pub are_options : AreOptions c.expressions c.blocks options
  pub rest : List (List ℕ)
  pub in_order : words ≡ bench_word c.bench ∷ (options ++ codes ":" ∷ rest)
  pub tokens : List Token
  pub are_tokens : AreTextsOf c.bench tokens rest
  pub spelled : Spells c.body tokens
  pub shallow : depth c.body ≤ 256

-- the input reads as the case: it has at most 65536 bytes, holds nothing but words and white space, and its words say
-- the case
pub record Reads (input : List ℕ) (c : Case) : Type 0 where
  pub bounded : length input ≤ 65536
  pub printable : IsPrintable input
  pub said : Say (words_of input) c

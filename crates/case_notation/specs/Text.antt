-- Which texts the tokens have.
use Rattle.std.specs.Prelude.{true, ◌≡◌, ◌<◌, ◌^◌, ◌++◌, ℕ, List, [], ◌∷◌, Some, codes, decimal, slice_get, FitsSigned}
use Rattle.std.specs.Fmt.{signed_decimal}
use Rattle.std.specs.Int.{w32}
use Rattle.ir_statements.specs.declared.operations.SwitchValue.{SwitchValue}
use Rattle.ir_statements.specs.declared.operations.SwitchValue.TheVariants.{I32, U32, Default}
use Rattle.case_notation.specs.declared.bench.Bench.{Bench}
use Rattle.case_notation.specs.declared.token.Token.{Token}
use Rattle.case_notation.specs.declared.token.Token.TheVariants as token
use Rattle.case_notation.specs.Bench.{names_of, has_callee}

-- The text of a case value: a 32-bit number as std prints it, with an `i` after it where it is signed. So there are
-- no leading zeros, no `+` and no `-0`.
abbrev pub IsValueText : SwitchValue → List ℕ → Type 0
IsValueText (I32 z) text = FitsSigned w32 z × (text ≡ signed_decimal z ++ codes "i")
IsValueText (U32 n) text = (n < 2 ^ 32) × (text ≡ decimal n)
IsValueText Default text = text ≡ codes "default"

-- the text of a token in a case of the bench; calls have words where there is a function to call
abbrev pub IsTokenText : Bench → Token → List ℕ → Type 0
IsTokenText bench token.Emit text = text ≡ codes "emit"
IsTokenText bench token.To text = text ≡ codes ".."
IsTokenText bench token.Block text = text ≡ codes "block"
IsTokenText bench token.If text = text ≡ codes "if"
IsTokenText bench token.Switch text = text ≡ codes "switch"
IsTokenText bench token.Fall text = text ≡ codes "fall"
IsTokenText bench token.Loop text = text ≡ codes "loop"
IsTokenText bench token.BreakIf text = text ≡ codes "break_if"
IsTokenText bench token.Break text = text ≡ codes "break"
IsTokenText bench token.Continue text = text ≡ codes "continue"
IsTokenText bench token.Return text = text ≡ codes "return"
IsTokenText bench token.Kill text = text ≡ codes "kill"
IsTokenText bench token.Store text = text ≡ codes "store"
IsTokenText bench token.Barrier text = text ≡ codes "barrier"
IsTokenText bench token.Call text = (has_callee bench ≡ true) × (text ≡ codes "call")
IsTokenText bench token.Callee text = (has_callee bench ≡ true) × (text ≡ codes "f")
IsTokenText bench token.Arrow text = (has_callee bench ≡ true) × (text ≡ codes "->")
IsTokenText bench token.Open text = text ≡ codes "{"
IsTokenText bench token.Close text = text ≡ codes "}"
IsTokenText bench (token.Name h) text = slice_get (names_of bench) h ≡ Some text
IsTokenText bench (token.Value v) text = IsValueText v text

-- each word is the text of the token at its place
abbrev pub AreTextsOf : Bench → List Token → List (List ℕ) → Type 0
AreTextsOf bench [] [] = Unit {0}
AreTextsOf bench (t ∷ ts) (w ∷ ws) = IsTokenText bench t w × AreTextsOf bench ts ws
AreTextsOf bench ts ws = ⊥

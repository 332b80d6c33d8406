-- How the reader looks up a word. No public contract cites this.
use Rattle.std.specs.Prelude.{ℕ, ◌==◌, ◌&&◌, ◌||◌, nat_le, length, Bool, false, List, [], ◌∷◌, codes, Option, Some, None, if◌then◌else◌, option_and_then}
use Rattle.std.specs.Str.{bytes_eq}
use Rattle.case_notation.specs.declared.bench.Bench.{Bench}
use Rattle.case_notation.specs.declared.bench.Bench.TheVariants.{P, C, D}
use Rattle.case_notation.specs.declared.token.Token.{Token}
use Rattle.case_notation.specs.declared.token.Token.TheVariants as token

-- what stands beside a text in a table, the first time
abbrev pub lookup : {X : Type 0} → List (List ℕ × X) → List ℕ → Option X
lookup [] w = None
lookup ((text, x) ∷ rest) w = if bytes_eq w text then Some x else lookup rest w

-- the words that have one meaning each in a case of any bench
abbrev pub shared_words : List (List ℕ × Token)
shared_words =
    (codes "{", token.Open) ∷ (codes "}", token.Close) ∷ (codes "emit", token.Emit) ∷ (codes "store", token.Store)
    ∷ (codes "if", token.If) ∷ (codes "block", token.Block) ∷ (codes "..", token.To)
    ∷ (codes "return", token.Return) ∷ (codes "break", token.Break) ∷ (codes "loop", token.Loop)
    ∷ (codes "switch", token.Switch) ∷ (codes "fall", token.Fall) ∷ (codes "break_if", token.BreakIf)
    ∷ (codes "continue", token.Continue)
    ∷ (codes "kill", token.Kill) ∷ (codes "barrier", token.Barrier)
    ∷ (codes "t", token.Name 0) ∷ (codes "u", token.Name 1) ∷ (codes "i", token.Name 2) ∷ (codes "e1", token.Name 3)
    ∷ (codes "v", token.Name 4) ∷ (codes "x1", token.Name 5)
    ∷ []

-- those that a case of the bench has besides
abbrev pub own_words : Bench → List (List ℕ × Token)
own_words P = []
own_words C =
    (codes "call", token.Call) ∷ (codes "f", token.Callee) ∷ (codes "->", token.Arrow) ∷ (codes "r1", token.Name 6) ∷ []
own_words D = (codes "e2", token.Name 6) ∷ []

abbrev pub or_else : {X : Type 0} → Option X → Option X → Option X
or_else None o = o
or_else (Some x) o = Some x

-- what a word means in a case of the bench, where it is no value
unfoldable pub meaning_of : Bench → List ℕ → Option Token
meaning_of bench w = or_else (lookup shared_words w) (lookup (own_words bench) w)

-- A text begins as that of a number does: with a digit, which is no zero unless it stands alone.
abbrev pub begins_number : List ℕ → Bool
begins_number [] = false
begins_number (d ∷ ds) = (d == 48 && length ds == 0) || (nat_le 49 d && nat_le d 57)

-- the same where a `-` may stand before a number that is not 0
abbrev pub begins_signed : List ℕ → Bool
begins_signed [] = false
begins_signed (d ∷ []) = begins_number (d ∷ [])
begins_signed (d ∷ e ∷ ds) = (d == 45 && (nat_le 49 e && nat_le e 57)) || begins_number (d ∷ e ∷ ds)

-- which flags are on after an option, where these are on before it
unfoldable pub take_option : (expressions blocks : Bool) → List ℕ → Option (Bool × Bool)
take_option expressions blocks w =
    if bytes_eq w (codes "-expressions") then (if expressions then Some (false, blocks) else None)
    else if bytes_eq w (codes "-blocks") then (if blocks then Some (expressions, false) else None)
    else None

-- The flags that the words up to `:` leave on, where these are on before them, and the words after it.
unfoldable pub options_of : (expressions blocks : Bool) → List (List ℕ) → Option (Bool × Bool × List (List ℕ))
options_of expressions blocks [] = None
options_of expressions blocks (w ∷ ws) =
    if bytes_eq w (codes ":") then Some (expressions, blocks, ws)
    else option_and_then (λ o. options_of o.0 o.1 ws) (take_option expressions blocks w)

-- Where the bytes of an input lead a stream of lines.
use Rattle.std.specs.Prelude.{◌≡◌, ℕ, ◌==◌, Bool, true, false, List, [], ◌∷◌, ◌++◌, Option, ⊤}
use Rattle.std.specs.Io.KnownBytes.{Appends}
use Rattle.json_verdict.specs.Runs.{lines_of, AreReplies}
use Rattle.json_verdict.specs.declared.stream.Stream.{Stream}
use Rattle.json_verdict.specs.walk.Stream.{Holds}

-- no byte is a newline
abbrev pub IsPlain : List ℕ → Type 0
IsPlain [] = ⊤
IsPlain (b ∷ bs) = ((b == 10) ≡ false) × IsPlain bs

-- whether a line has a byte
abbrev pub is_begun : List ℕ → Bool
is_begun [] = false
is_begun (b ∷ bs) = true

-- The replies to the lines that have ended were written, and what follows them is the line that is being read.
pub record HasTaken (s : Stream) (input : List ℕ) (old new : Option (List ℕ)) : Type 0 where
  pub done : List (List ℕ)
  pub line : List ℕ
  pub out : List ℕ
  pub lines : (more : List ℕ) → lines_of (input ++ more) ≡ done ++ lines_of (line ++ more)
  pub replies : AreReplies done out s.status
  pub written : Appends old new out
  pub kept : Holds s.bytes line
  pub plain : IsPlain line
  pub begun : s.is_begun ≡ is_begun line

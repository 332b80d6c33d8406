-- The benches: modules that are the same for each input, into whose last function the body is put.
use Rattle.std.specs.Prelude.{Bool, true, false, List, [], ◌∷◌, ◌++◌, ℕ, codes, Option, Some, None, if◌then◌else◌}
use Rattle.std.specs.Str.{bytes_eq}
use Rattle.case_notation.specs.declared.bench.Bench.{Bench}
use Rattle.case_notation.specs.declared.bench.Bench.TheVariants.{P, C, D}

-- the word by which an input chooses the bench
abbrev pub bench_word : Bench → List ℕ
bench_word P = codes "P"
bench_word C = codes "C"
bench_word D = codes "D"

abbrev pub shared_names : List (List ℕ)
shared_names = codes "t" ∷ codes "u" ∷ codes "i" ∷ codes "e1" ∷ codes "v" ∷ codes "x1" ∷ []

-- the names of the bench's expressions, each at the place that is its handle
abbrev pub names_of : Bench → List (List ℕ)
names_of P = shared_names
names_of C = shared_names ++ codes "r1" ∷ []
names_of D = shared_names ++ codes "e2" ∷ []

-- whether the bench has a function to call
abbrev pub has_callee : Bench → Bool
has_callee P = false
has_callee C = true
has_callee D = false

-- how many functions there are to call
abbrev pub callees_of : Bench → ℕ
callees_of P = 0
callees_of C = 1
callees_of D = 0

-- the bench that a word chooses
abbrev pub bench_of : List ℕ → Option Bench
bench_of word =
    if bytes_eq word (bench_word P) then Some P
    else if bytes_eq word (bench_word C) then Some C
    else if bytes_eq word (bench_word D) then Some D
    else None

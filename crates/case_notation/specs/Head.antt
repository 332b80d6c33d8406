-- The options of a case.
use Rattle.std.specs.Prelude.{◌≡◌, ◌⊎◌, ℕ, Bool, true, false, List, [], ◌∷◌, codes}

-- The words take away no flag, one of the two, or both in either order: each flag that is off has its option, once.
abbrev pub AreOptions : (expressions blocks : Bool) → List (List ℕ) → Type 0
AreOptions true true ws = ws ≡ []
AreOptions false true ws = ws ≡ codes "-expressions" ∷ []
AreOptions true false ws = ws ≡ codes "-blocks" ∷ []
AreOptions false false ws =
    (ws ≡ codes "-expressions" ∷ codes "-blocks" ∷ [])
    ⊎ (ws ≡ codes "-blocks" ∷ codes "-expressions" ∷ [])

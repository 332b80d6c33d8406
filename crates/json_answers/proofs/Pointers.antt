-- Pointers, step by step.
use Rattle.std.proofs.Common.{◌≡◌, ◌+◌, ◌<◌, ℕ, List, [], ◌∷◌, ◌++◌, length, take, get_or, sym, ap, ◌∙◌}
use Rattle.std.proofs.lemmas.List.{append-nil, append_assoc, take_more}
use Rattle.json_nodes.specs.declared.step.Step.{Step}
use Rattle.json_answers.specs.VerdictJson.{pointer_text, step_text}

-- the last of the steps is written first
pointer_push : (xs : List Step) (x : Step) → pointer_text (xs ++ x ∷ []) ≡ step_text x ++ pointer_text xs
pointer_push [] x = sym (append-nil (step_text x))
pointer_push (y ∷ ys) x =
    ap (λ t. t ++ step_text y) (pointer_push ys x) ∙ append_assoc (step_text x) (pointer_text ys) (step_text y)

-- what is left to write after one step more
pub pointer_on : (old new all : List ℕ) (xs : List Step) (i : ℕ) (d : Step) → i < length xs
    → new ≡ old ++ step_text (get_or xs i d)
    → old ++ pointer_text (take (i + 1) xs) ≡ all → new ++ pointer_text (take i xs) ≡ all
pointer_on old new all xs i d lt wrote before =
    let x = get_or xs i d in
    ap (λ t. t ++ pointer_text (take i xs)) wrote ∙ append_assoc old (step_text x) _
    ∙ ap (λ t. old ++ t) (sym (pointer_push (take i xs) x)) ∙ ap (λ l. old ++ pointer_text l) (sym (take_more xs i d lt)) ∙ before

-- The points of a list of statements, and of cases, one step on; and points one behind another.
use Rattle.std.proofs.Common.{◌≡◌, ◌<◌, ◌+◌, ℕ, Bool, true, false, List, [], ◌∷◌, ◌++◌, Option, None, Some, length, drop, get_or, sym, ap, ◌∙◌}
use Rattle.std.specs.Option.{option_or}
use Rattle.ir_module.specs.declared.module.Module.{Module}
use Rattle.ir_statements.specs.declared.statements.Located.{Located}
use Rattle.ir_statements.specs.declared.statements.SwitchCase.{SwitchCase, out-SwitchCase}
use Rattle.ir_statements.specs.Tree.{Stmt, Body}
use Rattle.ir_statements.specs.View.{no_operands, tree_of, body_of, list_body, list_cases}
use Rattle.ir_arena.proofs.Points.{first_of_both}
use Rattle.ir_arena.specs.Points.{first_fault}
use Rattle.ir_misfits.proofs.Tails.{tail}
use Rattle.ir_misfits.specs.declared.misfit.Misfit.{Misfit}
use Rattle.ir_misfits.specs.declared.misfit.Owner.{Owner}
use Rattle.ir_misfits.specs.MisfitPoints.{MisfitPoints}
use Rattle.ir_misfits.specs.OfBodies.{after_statement, after_body, after_cases, statement_points, body_points, cases_points}

-- a point holds, and others decide
pub goes_on : (c : Bool) (f : Misfit) (ps : MisfitPoints) (o : Option Misfit) → None ≡ first_fault ((c, f) ∷ []) → o ≡ first_fault ps → o ≡ first_fault ((c, f) ∷ ps)
goes_on true f ps o h e = e
goes_on false f ps o h e = cc

-- a point holds, and one of others fails, before what comes next
pub stops_in : (c : Bool) (f : Misfit) (ps rest : MisfitPoints) (told : Misfit) → None ≡ first_fault ((c, f) ∷ []) → Some told ≡ first_fault ps →
    Some told ≡ first_fault ((c, f) ∷ ps ++ rest)
stops_in true f ps rest told h e = ap (λ o. option_or o (first_fault rest)) e ∙ sym (first_of_both ps rest)
stops_in false f ps rest told h e = cc

-- points hold, and others behind them decide
pub passes_in : (ps rest : MisfitPoints) (o : Option Misfit) → None ≡ first_fault ps → o ≡ first_fault rest → o ≡ first_fault (ps ++ rest)
passes_in ps rest o h e = e ∙ ap (λ x. option_or x (first_fault rest)) h ∙ sym (first_of_both ps rest)

module _ (m : Module) (n earlier : ℕ) (of : Owner) where
  module _ (xs : List Located) (i : ℕ) (x : Located) (lt : i < length xs) (is : x ≡ get_or xs i x) where
    abbrev Here : Stmt
    Here = tree_of no_operands x.statement x.span

    abbrev Left : ℕ → Body
    Left k = list_body no_operands (drop k xs)

    points_turn : (k : ℕ) → first_fault (body_points m n earlier of k (Left i))
        ≡ option_or (first_fault (statement_points m n earlier of k Here)) (first_fault (body_points m n earlier of (after_statement k Here) (Left (i + 1))))
    points_turn k =
        ap (λ l. first_fault (body_points m n earlier of k (list_body no_operands l))) (tail xs i x lt is)
        ∙ first_of_both (statement_points m n earlier of k Here) (body_points m n earlier of (after_statement k Here) (Left (i + 1)))

    pub list_stops : (k : ℕ) (whole : Option Misfit) (told : Misfit) → first_fault (body_points m n earlier of k (Left i)) ≡ whole →
        Some told ≡ first_fault (statement_points m n earlier of k Here) → Some told ≡ whole
    list_stops k whole told left h =
        ap (λ o. option_or o (first_fault (body_points m n earlier of (after_statement k Here) (Left (i + 1))))) h ∙ sym (points_turn k) ∙ left

    pub list_passes : (k after : ℕ) (whole : Option Misfit) → first_fault (body_points m n earlier of k (Left i)) ≡ whole →
        None ≡ first_fault (statement_points m n earlier of k Here) → after ≡ after_statement k Here →
        first_fault (body_points m n earlier of after (Left (i + 1))) ≡ whole
    list_passes k after whole left h e =
        ap (λ a. first_fault (body_points m n earlier of a (Left (i + 1)))) e
        ∙ ap (λ o. option_or o (first_fault (body_points m n earlier of (after_statement k Here) (Left (i + 1))))) h ∙ sym (points_turn k) ∙ left

    pub list_after : (k after whole : ℕ) → after_body k (Left i) ≡ whole → after ≡ after_statement k Here → after_body after (Left (i + 1)) ≡ whole
    list_after k after whole left e =
        ap (λ a. after_body a (Left (i + 1))) e ∙ sym (ap (λ l. after_body k (list_body no_operands l)) (tail xs i x lt is)) ∙ left

  module _ (xs : List SwitchCase) (i : ℕ) (x : SwitchCase) (lt : i < length xs) (is : x ≡ get_or xs i x) where
    abbrev Inner : Body
    Inner = body_of no_operands (out-SwitchCase x).body

    cases_turn : (k : ℕ) → first_fault (cases_points m n earlier of k (list_cases no_operands (drop i xs)))
        ≡ option_or (first_fault (body_points m n earlier of k Inner)) (first_fault (cases_points m n earlier of (after_body k Inner) (list_cases no_operands (drop (i + 1) xs))))
    cases_turn k =
        ap (λ l. first_fault (cases_points m n earlier of k (list_cases no_operands l))) (tail xs i x lt is)
        ∙ first_of_both (body_points m n earlier of k Inner) (cases_points m n earlier of (after_body k Inner) (list_cases no_operands (drop (i + 1) xs)))

    pub cases_stop : (k : ℕ) (whole : Option Misfit) (told : Misfit) → first_fault (cases_points m n earlier of k (list_cases no_operands (drop i xs))) ≡ whole →
        Some told ≡ first_fault (body_points m n earlier of k Inner) → Some told ≡ whole
    cases_stop k whole told left h =
        ap (λ o. option_or o (first_fault (cases_points m n earlier of (after_body k Inner) (list_cases no_operands (drop (i + 1) xs))))) h ∙ sym (cases_turn k) ∙ left

    pub cases_pass : (k after : ℕ) (whole : Option Misfit) → first_fault (cases_points m n earlier of k (list_cases no_operands (drop i xs))) ≡ whole →
        None ≡ first_fault (body_points m n earlier of k Inner) → after ≡ after_body k Inner →
        first_fault (cases_points m n earlier of after (list_cases no_operands (drop (i + 1) xs))) ≡ whole
    cases_pass k after whole left h e =
        ap (λ a. first_fault (cases_points m n earlier of a (list_cases no_operands (drop (i + 1) xs)))) e
        ∙ ap (λ o. option_or o (first_fault (cases_points m n earlier of (after_body k Inner) (list_cases no_operands (drop (i + 1) xs))))) h
        ∙ sym (cases_turn k) ∙ left

    pub cases_after : (k after whole : ℕ) → after_cases k (list_cases no_operands (drop i xs)) ≡ whole → after ≡ after_body k Inner →
        after_cases after (list_cases no_operands (drop (i + 1) xs)) ≡ whole
    cases_after k after whole left e =
        ap (λ a. after_cases a (list_cases no_operands (drop (i + 1) xs))) e ∙ sym (ap (λ l. after_cases k (list_cases no_operands l)) (tail xs i x lt is)) ∙ left

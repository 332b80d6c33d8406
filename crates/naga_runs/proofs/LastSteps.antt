-- The abilities along a position are those by the last of some of its steps.
use Rattle.std.specs.List.{list_any}
use Rattle.std.specs.Option.{option_or}
use Rattle.std.specs.Prelude.{Bool, true, false, not, Option, Some, None, ◌≡◌, ◌∷◌, if◌then◌else◌, []}
use Rattle.std.proofs.Common.{refl, sym, ◌∙◌}
use Rattle.naga_runs.specs.Abilities.{may_return_from, may_break_from, may_continue_from, part_of, last_among, is_continuing, is_loop_list, is_case_or_loop_list, is_another, AbilitiesByLastStep}
use Rattle.naga_runs.specs.Positions.{Part, Position, Root, Inner, Accept, Reject, Case, LoopBody, Continuing, Condition, In}

-- what the last one says, or else the answer further out
abbrev found_or : Bool → Option Part → Bool
found_or able None = able
found_or able (Some part) = not (is_continuing part)

found_out : (able next : Bool) (inner outer : Option Part) → next ≡ found_or able outer →
    found_or next inner ≡ found_or able (option_or inner outer)
found_out able next None outer e = e
found_out able next (Some part) outer e = refl

nothing_else : (c : Bool) → false ≡ (if c then false else false)
nothing_else true = refl
nothing_else false = refl

return_is : (p : Position) (able : Bool) →
    may_return_from able p ≡ (if list_any (λ step. is_continuing (part_of step)) p then false else able)
return_is [] able = refl
return_is (In Continuing i ∷ p) able = return_is p false ∙ sym
    (nothing_else (list_any (λ step. is_continuing (part_of step)) p))
return_is (In Root i ∷ p) able = return_is p able
return_is (In Inner i ∷ p) able = return_is p able
return_is (In Accept i ∷ p) able = return_is p able
return_is (In Reject i ∷ p) able = return_is p able
return_is (In (Case k) i ∷ p) able = return_is p able
return_is (In LoopBody i ∷ p) able = return_is p able
return_is (In Condition i ∷ p) able = return_is p able

break_is : (p : Position) (able : Bool) → may_break_from able p ≡ found_or able (last_among is_case_or_loop_list p)
break_is [] able = refl
break_is (In Root i ∷ p) able = break_is p able ∙ found_out able able (last_among is_case_or_loop_list p) None refl
break_is (In Inner i ∷ p) able = break_is p able ∙ found_out able able (last_among is_case_or_loop_list p) None refl
break_is (In Accept i ∷ p) able = break_is p able ∙ found_out able able
    (last_among is_case_or_loop_list p) None refl
break_is (In Reject i ∷ p) able = break_is p able ∙ found_out able able
    (last_among is_case_or_loop_list p) None refl
break_is (In (Case k) i ∷ p) able = break_is p true ∙ found_out able true (last_among is_case_or_loop_list p)
    (Some (Case k)) refl
break_is (In LoopBody i ∷ p) able = break_is p true ∙ found_out able true (last_among is_case_or_loop_list p)
    (Some LoopBody) refl
break_is (In Continuing i ∷ p) able = break_is p false ∙ found_out able false (last_among is_case_or_loop_list p)
    (Some Continuing) refl
break_is (In Condition i ∷ p) able = break_is p able ∙ found_out able able
    (last_among is_case_or_loop_list p) None refl

continue_is : (p : Position) (able : Bool) → may_continue_from able p ≡ found_or able (last_among is_loop_list p)
continue_is [] able = refl
continue_is (In Root i ∷ p) able = continue_is p able ∙ found_out able able (last_among is_loop_list p) None refl
continue_is (In Inner i ∷ p) able = continue_is p able ∙ found_out able able (last_among is_loop_list p) None refl
continue_is (In Accept i ∷ p) able = continue_is p able ∙ found_out able able (last_among is_loop_list p) None refl
continue_is (In Reject i ∷ p) able = continue_is p able ∙ found_out able able (last_among is_loop_list p) None refl
continue_is (In (Case k) i ∷ p) able = continue_is p able ∙ found_out able able
    (last_among is_loop_list p) None refl
continue_is (In LoopBody i ∷ p) able = continue_is p true ∙ found_out able true (last_among is_loop_list p)
    (Some LoopBody) refl
continue_is (In Continuing i ∷ p) able = continue_is p false ∙ found_out able false (last_among is_loop_list p)
    (Some Continuing) refl
continue_is (In Condition i ∷ p) able = continue_is p able ∙ found_out able able
    (last_among is_loop_list p) None refl

if_not : (c : Bool) → (if c then false else true) ≡ not c
if_not true = refl
if_not false = refl

another_is : (o : Option Part) → found_or false o ≡ is_another o
another_is None = refl
another_is (Some part) = refl

pub abilities_by_last_step : AbilitiesByLastStep
abilities_by_last_step =
    record {
      return = λ p. return_is p true ∙ if_not (list_any (λ step. is_continuing (part_of step)) p);
      break = λ p. break_is p false ∙ another_is (last_among is_case_or_loop_list p);
      continue = λ p. continue_is p false ∙ another_is (last_among is_loop_list p);
    }

-- The stack of open parts, the newest first.
use Rattle.std.proofs.Common.{Bool, ◌≡◌, ℕ, suc, List, [], ◌∷◌, ◌++◌, Option, None, Result, refl, ap, sym, subst, ◌∙◌, arith, length, get_or, set, take, drop, map}
use Rattle.std.proofs.Math.Seq.{take-suc-set, split_at}
use Rattle.std.proofs.lemmas.List.{reverse-append, length-reverse, length-map, length-set, take_all, drop_all}
use Rattle.ir_statements.specs.declared.statements.Block.{Block}
use Rattle.ir_statements.specs.declared.statements.Located.{Located}
use Rattle.ir_statements.specs.declared.statements.SwitchCase.{SwitchCase}
use Rattle.ir_statements.specs.declared.operations.SwitchValue.{SwitchValue}
use Rattle.case_notation.specs.declared.case.CaseError.{CaseError}
use Rattle.case_notation.specs.declared.reader.parts.Frame.{Frame}
use Rattle.case_notation.specs.declared.reader.parts.Kind.{Kind}
use Rattle.case_notation.specs.declared.reader.parts.Kind.TheVariants as kind
use Rattle.case_notation.specs.declared.reader.parts.Tail.TheVariants as tail
use Rattle.case_notation.specs.declared.reader.parts.Wants.TheVariants as wants
use Rattle.case_notation.specs.CaseBlocks.{block_from}
use Rattle.case_notation.specs.Feeding.{Steps}
use Rattle.case_notation.specs.CaseParts.{OpenedPart, part_as}
use Rattle.case_notation.specs.CaseParts as part
use Rattle.case_notation.specs.Reading.{ReadingState, wanting, close, close_block, close_accept, close_if, close_case, close_turn, add_case}
use Rattle.case_notation.specs.Views.{newest_first, part_of}

pub newest_none : (fs : List Frame) → fs ≡ [] → newest_first fs ≡ []
unfolding newest_first
newest_none fs e = ap newest_first e

pub newest_push : (fs : List Frame) (f : Frame) → newest_first (fs ++ f ∷ []) ≡ part_of f ∷ newest_first fs
unfolding newest_first
newest_push fs f = ap (map part_of) (reverse-append fs (f ∷ []))

pub newest_length : (fs : List Frame) → length (newest_first fs) ≡ length fs
unfolding newest_first
newest_length fs = length-map _ part_of ∙ length-reverse fs

pub ruleset stacks = (newest_none, newest_push, newest_length)

-- where a call leads to what another one leads to
pub moved : (o p : Option ReadingState) (r : Result Unit CaseError) (s : ReadingState) → o ≡ p → Steps p r s → Steps o r s
moved o p r s e h = subst (λ x. Steps x r s) (sym e) h

-- a case behind a part that is no Switch
no_switch : (k : Kind) (outer list : List Located) (rest : List OpenedPart) (c : SwitchCase) → ((h : ℕ) (cases : List SwitchCase) → k ≡ kind.Cases h cases → ⊥) → add_case (part_as k outer ∷ rest) list c ≡ None
unfolding add_case
no_switch (kind.Cases h cases) outer list rest c other = absurd (other h cases refl)
no_switch kind.Block outer list rest c other = refl
no_switch (kind.Accept h) outer list rest c other = refl
no_switch (kind.Reject h accept) outer list rest c other = refl
no_switch (kind.Case v f) outer list rest c other = refl
no_switch kind.Turn outer list rest c other = refl
no_switch (kind.Continuing turn) outer list rest c other = refl

-- the brace of another part
not_accept : (k : Kind) (outer list : List Located) (rest : List OpenedPart) → ((c : ℕ) → k ≡ kind.Accept c → ⊥) → close_accept (part_as k outer ∷ rest) list ≡ None
unfolding close_accept
not_accept kind.Block outer list rest other = refl
not_accept (kind.Accept h) outer list rest other = absurd (other h refl)
not_accept (kind.Reject h accept) outer list rest other = refl
not_accept (kind.Cases h cases) outer list rest other = refl
not_accept (kind.Case v f) outer list rest other = refl
not_accept kind.Turn outer list rest other = refl
not_accept (kind.Continuing turn) outer list rest other = refl

not_turn : (k : Kind) (outer list : List Located) (rest : List OpenedPart) → (k ≡ kind.Turn → ⊥) → close_turn (part_as k outer ∷ rest) list ≡ None
unfolding close_turn
not_turn kind.Block outer list rest other = refl
not_turn (kind.Accept h) outer list rest other = refl
not_turn (kind.Reject h accept) outer list rest other = refl
not_turn (kind.Cases h cases) outer list rest other = refl
not_turn (kind.Case v f) outer list rest other = refl
not_turn kind.Turn outer list rest other = absurd (other refl)
not_turn (kind.Continuing turn) outer list rest other = refl

-- the newest part, which is the last of the stack
module _ (fs : List Frame) (i : ℕ) (f : Frame) (end : suc i ≡ length fs) (at : f ≡ get_or fs i f) where
  rest : List OpenedPart
  rest = newest_first (take i fs)

  top : newest_first fs ≡ part_of f ∷ rest
  unfolding rest
  top =
      let whole : fs ≡ take i fs ++ get_or fs i f ∷ drop (suc i) fs = split_at fs i f (omega arith) in
      ap newest_first (whole ∙ (λ j. take i fs ++ sym at j ∷ drop_all (suc i) fs (omega arith) j)) ∙ newest_push (take i fs) f

  top_set : (g : Frame) → newest_first (set fs i g) ≡ part_of g ∷ rest
  unfolding rest
  top_set g =
      let lengths = length-set fs i g in
      ap newest_first (sym (take_all (suc i) (set fs i g) (omega arith)) ∙ take-suc-set fs i g (omega arith)) ∙ newest_push (take i fs) g

  top_is : (k : Kind) → f.kind ≡ k → newest_first fs ≡ part_as k f.outer ∷ rest
  top_is k is = top ∙ ap (λ x. part_as x f.outer ∷ rest) is

  set_is : (k : Kind) → newest_first (set fs i (record { kind = k; outer = f.outer })) ≡ part_as k f.outer ∷ rest
  set_is k = top_set (record { kind = k; outer = f.outer })

  -- as it is
  same_is : (k : Kind) → f.kind ≡ k → newest_first (set fs i f) ≡ part_as k f.outer ∷ rest
  same_is k is = top_set f ∙ sym top ∙ top_is k is

  pub accept_closed : (c : ℕ) (accept : Block) (list after : List Located) → f.kind ≡ kind.Accept c → accept ≡ block_from list → after ≡ [] → close_accept (newest_first fs) list ≡ wanting (newest_first (set fs i (record { kind = kind.Reject c accept; outer = f.outer }))) after wants.Between
  unfolding close_accept
  accept_closed c accept list after is same none =
      ap (λ ps. close_accept ps list) (top_is (kind.Accept c) is) ∙ sym ((λ j. wanting (set_is (kind.Reject c accept) j) (none j) wants.Between) ∙ ap (λ x. wanting (part.Reject c x f.outer ∷ rest) [] wants.Between) same)

  pub turn_closed : (turn : Block) (list after : List Located) → f.kind ≡ kind.Turn → turn ≡ block_from list → after ≡ [] → close_turn (newest_first fs) list ≡ wanting (newest_first (set fs i (record { kind = kind.Continuing turn; outer = f.outer }))) after wants.Between
  unfolding close_turn
  turn_closed turn list after is same none =
      ap (λ ps. close_turn ps list) (top_is kind.Turn is) ∙ sym ((λ j. wanting (set_is (kind.Continuing turn) j) (none j) wants.Between) ∙ ap (λ x. wanting (part.Continuing x f.outer ∷ rest) [] wants.Between) same)

  pub no_accept : (list : List Located) → ((c : ℕ) → f.kind ≡ kind.Accept c → ⊥) → close_accept (newest_first fs) list ≡ None
  no_accept list other = ap (λ ps. close_accept ps list) top ∙ not_accept f.kind f.outer list rest other

  pub no_turn : (list : List Located) → (f.kind ≡ kind.Turn → ⊥) → close_turn (newest_first fs) list ≡ None
  no_turn list other = ap (λ ps. close_turn ps list) top ∙ not_turn f.kind f.outer list rest other

  pub close_an_accept : (c : ℕ) (list : List Located) → f.kind ≡ kind.Accept c → close (newest_first fs) list ≡ close_accept (newest_first (set fs i f)) list
  unfolding close
  close_an_accept c list is =
      ap (λ ps. close ps list) (top_is (kind.Accept c) is) ∙ sym (ap (λ ps. close_accept ps list) (same_is (kind.Accept c) is))

  pub close_a_turn : (list : List Located) → f.kind ≡ kind.Turn → close (newest_first fs) list ≡ close_turn (newest_first (set fs i f)) list
  unfolding close
  close_a_turn list is =
      ap (λ ps. close ps list) (top_is kind.Turn is) ∙ sym (ap (λ ps. close_turn ps list) (same_is kind.Turn is))

  pub close_continuing : (turn : Block) (list : List Located) → f.kind ≡ kind.Continuing turn → close (newest_first fs) list ≡ wanting (newest_first (set fs i f)) list (wants.Statement tail.Loop)
  unfolding close
  close_continuing turn list is =
      ap (λ ps. close ps list) (top_is (kind.Continuing turn) is) ∙ sym (ap (λ ps. wanting ps list (wants.Statement tail.Loop)) (same_is (kind.Continuing turn) is))

  pub close_a_block : (list : List Located) → f.kind ≡ kind.Block → close (newest_first fs) list ≡ close_block (newest_first (set fs i f)) list
  unfolding close
  close_a_block list is =
      ap (λ ps. close ps list) (top_is kind.Block is) ∙ sym (ap (λ ps. close_block ps list) (same_is kind.Block is))

  pub close_an_if : (c : ℕ) (accept : Block) (list : List Located) → f.kind ≡ kind.Reject c accept → close (newest_first fs) list ≡ close_if (newest_first (set fs i f)) list
  unfolding close
  close_an_if c accept list is =
      ap (λ ps. close ps list) (top_is (kind.Reject c accept) is) ∙ sym (ap (λ ps. close_if ps list) (same_is (kind.Reject c accept) is))

  pub close_a_case : (v : SwitchValue) (falls : Bool) (list : List Located) → f.kind ≡ kind.Case v falls → close (newest_first fs) list ≡ close_case (newest_first (set fs i f)) list
  unfolding close
  close_a_case v falls list is =
      ap (λ ps. close ps list) (top_is (kind.Case v falls) is) ∙ sym (ap (λ ps. close_case ps list) (same_is (kind.Case v falls) is))

  pub no_list : (h : ℕ) (cases : List SwitchCase) (list : List Located) → f.kind ≡ kind.Cases h cases → close (newest_first fs) list ≡ None
  unfolding close
  no_list h cases list is = ap (λ ps. close ps list) (top_is (kind.Cases h cases) is)

  pub case_added : (h : ℕ) (cases more : List SwitchCase) (list : List Located) (c : SwitchCase) → f.kind ≡ kind.Cases h cases → more ≡ cases ++ c ∷ [] → add_case (newest_first fs) list c ≡ wanting (newest_first (set fs i (record { kind = kind.Cases h more; outer = f.outer }))) list wants.CaseValue
  unfolding add_case
  case_added h cases more list c is same =
      ap (λ ps. add_case ps list c) (top_is (kind.Cases h cases) is) ∙ sym (ap (λ ps. wanting ps list wants.CaseValue) (set_is (kind.Cases h more) ∙ ap (λ x. part_as (kind.Cases h x) f.outer ∷ rest) same))

  pub case_alone : (list : List Located) (c : SwitchCase) → ((h : ℕ) (cases : List SwitchCase) → f.kind ≡ kind.Cases h cases → ⊥) → add_case (newest_first fs) list c ≡ None
  case_alone list c other = ap (λ ps. add_case ps list c) top ∙ no_switch f.kind f.outer list rest c other

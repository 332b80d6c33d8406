-- What the grammar spells is read.
use Rattle.std.proofs.Common.{◌≡◌, ◌≤◌, ◌<◌, ◌+◌, ℕ, List, [], ◌∷◌, ◌++◌, Option, Some, None, Bool, true, false, refl, ap, sym, subst, ◌∙◌, arith, length, inl, inr, append_assoc, append-nil}
use Rattle.std.specs.Prelude.{option_and_then}
use Rattle.std.proofs.lemmas.Grind.{common_steps}
use Rattle.std.proofs.lemmas.Bool.{le-leb}
use Rattle.ir_statements.specs.declared.operations.SwitchValue.{SwitchValue}
use Rattle.ir_statements.specs.declared.statements.Block as b
use Rattle.ir_statements.specs.declared.statements.Located.{Located}
use Rattle.ir_statements.specs.declared.statements.Statement as ir
use Rattle.ir_statements.specs.declared.statements.SwitchCase.{SwitchCase, SwitchCase'}
use Rattle.ir_statements.specs.Tree.{Stmt, Leaf, Block, Branch, Switch, Loop, Break, Continue, Return, Kill, Body, Done, Then, Cases, NoCase, OneCase}
use Rattle.case_notation.specs.declared.token.Token.{Token}
use Rattle.case_notation.specs.declared.token.Token.TheVariants as token
use Rattle.case_notation.specs.declared.reader.parts.Tail.{Tail}
use Rattle.case_notation.specs.declared.reader.parts.Tail.TheVariants as tail
use Rattle.case_notation.specs.CaseParts.{OpenedPart}
use Rattle.case_notation.specs.CaseParts as part
use Rattle.case_notation.specs.declared.reader.parts.Wants.{Wants}
use Rattle.case_notation.specs.declared.reader.parts.Wants.TheVariants as wants
use Rattle.case_notation.specs.Feeding.{feeds}
use Rattle.case_notation.specs.Grammar.{Spells, SpellsStatement, SpellsCases, depth, statement_depth, cases_depth, emission, calling, storing, waiting, emitting, call_of, store_of, control_barrier, arrow_if_any, SpellsEmit, in_braces, fall_if, break_if_any}
use Rattle.case_notation.specs.CaseBlocks.{block_from, block_of, placed, list_of, located_of, cases_of}
use Rattle.case_notation.specs.Reading.{ReadingState, begun, ready, wanting, enter, add_case, close_block, close_accept, close_if, close_case, close_turn, close, close_switch, end_loop, begin, put_alone, begin_at, settle, go_on, take_name, put_named, open_brace, next, step, whole, end_at, finish, reading_of}

abbrev feed : Option ReadingState → List Token → Option ReadingState
feed = feeds step

feed-append : (o : Option ReadingState) (xs ys : List Token) → feed o (xs ++ ys) ≡ feed (feed o xs) ys
unfolding feeds
feed-append o [] ys = refl
feed-append o (x ∷ xs) ys = feed-append (option_and_then (λ s. step s x) o) xs ys

-- a state where a statement may begin, once the newest one has no more tail
abbrev Holds : List OpenedPart → List Located → Wants → List OpenedPart → List Located → Type 0
Holds o l (wants.Statement t) opened list = settle o l t ≡ ready opened list
Holds o l w opened list = ⊥

abbrev Gets : Option ReadingState → List OpenedPart → List Located → Type 0
Gets None opened list = ⊥
Gets (Some s) opened list = Holds s.opened s.list s.wants opened list

-- the tokens that are no tail
abbrev IsKey : Token → Type 0
IsKey token.To = ⊥
IsKey token.BreakIf = ⊥
IsKey token.Arrow = ⊥
IsKey (token.Name h) = ⊥
IsKey t = Unit {0}

go_on_key : (o : List OpenedPart) (l : List Located) (t : Tail) (w : Token) → IsKey w → go_on o l t w ≡ option_and_then (begin_at w) (settle o l t)
unfolding go_on
go_on_key o l tail.Nothing w k = refl
go_on_key o l (tail.Emit a) token.To k = absurd k
go_on_key o l (tail.Emit a) w k = refl
go_on_key o l tail.Return (token.Name h) k = absurd k
go_on_key o l tail.Return w k = refl
go_on_key o l tail.Loop token.BreakIf k = absurd k
go_on_key o l tail.Loop w k = refl
go_on_key o l tail.Call token.Arrow k = absurd k
go_on_key o l tail.Call w k = refl

key_at : (o : List OpenedPart) (l : List Located) (w : Wants) (opened : List OpenedPart) (list : List Located) → Holds o l w opened list → (t : Token) → IsKey t → next o l w t ≡ begin opened list t
unfolding next
key_at o l (wants.Statement tail) opened list h t k =
    go_on_key o l tail t k ∙ ap (option_and_then (begin_at t)) h
key_at o l w opened list h t k = absurd h

-- a statement begins, or the list is closed
key : (o : Option ReadingState) (opened : List OpenedPart) (list : List Located) → Gets o opened list → (t : Token) → IsKey t → option_and_then (λ s. step s t) o ≡ begin opened list t
key None opened list h t k = absurd h
key (Some s) opened list h t k = key_at s.opened s.list s.wants opened list h t k

-- the body ends
end_here : (o : List OpenedPart) (l : List Located) (w : Wants) (list : List Located) → Holds o l w [] list → end_at o l w ≡ Some (block_from list)
unfolding end_at
end_here o l (wants.Statement tail) list h = ap (option_and_then (λ s. whole s.opened s.list)) h
end_here o l w list h = absurd h

at_end : (o : Option ReadingState) (list : List Located) → Gets o [] list → option_and_then finish o ≡ Some (block_from list)
at_end None list h = absurd h
at_end (Some s) list h = end_here s.opened s.list s.wants list h

enters : (opened : List OpenedPart) (part : OpenedPart) (w : Wants) → length opened < 256 → enter opened part w ≡ wanting (part ∷ opened) [] w
enters opened part w h = grind (arith, common_steps)

abbrev and_then : Option ReadingState → Token → Option ReadingState
and_then o t = option_and_then (λ s. step s t) o

module _ (o : Option ReadingState) (opened : List OpenedPart) (list : List Located) (h : Gets o opened list) where
  emit_one : (a : ℕ) → Gets (and_then (and_then o token.Emit) (token.Name a)) opened (list ++ placed (emitting a a) ∷ [])
  unfolding begin put_alone next take_name put_named settle
  emit_one a = rw (key o opened list h token.Emit tt) refl

  emit_range : (a b : ℕ) → a ≤ b → Gets (and_then (and_then (and_then (and_then o token.Emit) (token.Name a)) token.To) (token.Name b)) opened (list ++ placed (emitting a b) ∷ [])
  unfolding begin put_alone next take_name put_named settle go_on
  emit_range a b le = rw (key o opened list h token.Emit tt, le-leb a b le) refl

  return_none : Gets (and_then o token.Return) opened (list ++ placed (ir.Return None) ∷ [])
  unfolding begin put_alone settle
  return_none = rw (key o opened list h token.Return tt) refl

  return_some : (a : ℕ) → Gets (and_then (and_then o token.Return) (token.Name a)) opened (list ++ placed (ir.Return (Some a)) ∷ [])
  unfolding begin put_alone next go_on settle
  return_some a = rw (key o opened list h token.Return tt) refl

  break_one : Gets (and_then o token.Break) opened (list ++ placed ir.Break ∷ [])
  unfolding begin put_alone settle
  break_one = rw (key o opened list h token.Break tt) refl

  continue_one : Gets (and_then o token.Continue) opened (list ++ placed ir.Continue ∷ [])
  unfolding begin put_alone settle
  continue_one = rw (key o opened list h token.Continue tt) refl

  kill_one : Gets (and_then o token.Kill) opened (list ++ placed ir.Kill ∷ [])
  unfolding begin put_alone settle
  kill_one = rw (key o opened list h token.Kill tt) refl

  barrier_one : Gets (and_then o token.Barrier) opened (list ++ placed control_barrier ∷ [])
  unfolding begin put_alone settle
  barrier_one = rw (key o opened list h token.Barrier tt) refl

  store_one : (a b : ℕ) → Gets (and_then (and_then (and_then o token.Store) (token.Name a)) (token.Name b)) opened (list ++ placed (store_of a b) ∷ [])
  unfolding begin put_alone next take_name put_named settle
  store_one a b = rw (key o opened list h token.Store tt) refl

  call_none : Gets (and_then (and_then o token.Call) token.Callee) opened (list ++ placed (call_of None) ∷ [])
  unfolding begin put_alone next settle
  call_none = rw (key o opened list h token.Call tt) refl

  call_some : (a : ℕ) → Gets (and_then (and_then (and_then (and_then o token.Call) token.Callee) token.Arrow) (token.Name a)) opened (list ++ placed (call_of (Some a)) ∷ [])
  unfolding begin put_alone next go_on take_name put_named settle
  call_some a = rw (key o opened list h token.Call tt) refl

  module _ (lt : length opened < 256) where
    block_in : Gets (and_then (and_then o token.Block) token.Open) (part.Block list ∷ opened) []
    unfolding begin put_alone next open_brace settle
    block_in = rw (key o opened list h token.Block tt, enters opened (part.Block list) (wants.Statement tail.Nothing) lt) refl

    if_in : (c : ℕ) → Gets (and_then (and_then (and_then o token.If) (token.Name c)) token.Open) (part.Accept c list ∷ opened) []
    unfolding begin put_alone next take_name put_named open_brace settle
    if_in c = rw (key o opened list h token.If tt, enters opened (part.Accept c list) (wants.Statement tail.Nothing) lt) refl

    switch_in : (c : ℕ) → and_then (and_then (and_then o token.Switch) (token.Name c)) token.Open ≡ wanting (part.Cases c [] list ∷ opened) [] wants.CaseValue
    unfolding begin put_alone next take_name put_named open_brace
    switch_in c = rw (key o opened list h token.Switch tt, enters opened (part.Cases c [] list) wants.CaseValue lt) refl

    loop_in : Gets (and_then (and_then o token.Loop) token.Open) (part.Turn list ∷ opened) []
    unfolding begin put_alone next open_brace settle
    loop_in = rw (key o opened list h token.Loop tt, enters opened (part.Turn list) (wants.Statement tail.Nothing) lt) refl

module _ (o : Option ReadingState) (opened : List OpenedPart) (list body : List Located) where
  block_out : Gets o (part.Block list ∷ opened) body → Gets (and_then o token.Close) opened (list ++ placed (ir.Block (block_from body)) ∷ [])
  unfolding begin put_alone close close_block close_accept close_if close_case close_turn settle
  block_out h = rw (key o (part.Block list ∷ opened) body h token.Close tt) refl

  if_else : (c : ℕ) → Gets o (part.Accept c list ∷ opened) body → Gets (and_then (and_then o token.Close) token.Open) (part.Reject c (block_from body) list ∷ opened) []
  unfolding begin put_alone next close close_block close_accept close_if close_case close_turn open_brace settle
  if_else c h = rw (key o (part.Accept c list ∷ opened) body h token.Close tt) refl

  if_out : (c : ℕ) (accept : b.Block) → Gets o (part.Reject c accept list ∷ opened) body → Gets (and_then o token.Close) opened (list ++ placed (ir.If c accept (block_from body)) ∷ [])
  unfolding begin put_alone close close_block close_accept close_if close_case close_turn settle
  if_out c accept h = rw (key o (part.Reject c accept list ∷ opened) body h token.Close tt) refl

  loop_between : Gets o (part.Turn list ∷ opened) body → Gets (and_then (and_then o token.Close) token.Open) (part.Continuing (block_from body) list ∷ opened) []
  unfolding begin put_alone next close close_block close_accept close_if close_case close_turn open_brace settle
  loop_between h = rw (key o (part.Turn list ∷ opened) body h token.Close tt) refl

  loop_out : (turn : b.Block) → Gets o (part.Continuing turn list ∷ opened) body → Gets (and_then o token.Close) opened (list ++ placed (ir.Loop turn (block_from body) None) ∷ [])
  unfolding begin put_alone close close_block close_accept close_if close_case close_turn settle end_loop
  loop_out turn h = rw (key o (part.Continuing turn list ∷ opened) body h token.Close tt) refl

  loop_out_if : (turn : b.Block) (c : ℕ) → Gets o (part.Continuing turn list ∷ opened) body → Gets (and_then (and_then (and_then o token.Close) token.BreakIf) (token.Name c)) opened (list ++ placed (ir.Loop turn (block_from body) (Some c)) ∷ [])
  unfolding begin put_alone next close close_block close_accept close_if close_case close_turn settle end_loop go_on take_name put_named
  loop_out_if turn c h = rw (key o (part.Continuing turn list ∷ opened) body h token.Close tt) refl

  case_out : (v : SwitchValue) (f : Bool) (h : ℕ) (cs : List SwitchCase) → Gets o (part.Case v f ∷ part.Cases h cs list ∷ opened) body → and_then o token.Close ≡ wanting (part.Cases h (cs ++ SwitchCase' v (block_from body) f ∷ []) list ∷ opened) [] wants.CaseValue
  unfolding begin put_alone close close_block close_accept close_if close_case close_turn add_case
  case_out v f h cs g = rw (key o (part.Case v f ∷ part.Cases h cs list ∷ opened) body g token.Close tt) refl

abbrev in_switch : List OpenedPart → ℕ → List SwitchCase → List Located → Option ReadingState
in_switch opened h cs outer = wanting (part.Cases h cs outer ∷ opened) [] wants.CaseValue

done_read : (ts : List Token) → ts ≡ [] → (o : Option ReadingState) (opened : List OpenedPart) (list : List Located) → Gets o opened list → length opened + depth Done ≤ 256 → Gets (feed o ts) opened (list ++ [])
unfolding feeds
done_read ts e o opened list h d = rw (e, append-nil) h

none_read : (ts : List Token) → ts ≡ [] → (opened : List OpenedPart) (h : ℕ) (before : List SwitchCase) (outer : List Located) → length opened + 1 + cases_depth NoCase ≤ 256 → feed (in_switch opened h before outer) ts ≡ in_switch opened h (before ++ []) outer
unfolding feeds
none_read ts e opened h before outer d = rw (e, append-nil) refl

-- a case begins
case_in : (opened : List OpenedPart) (v : SwitchValue) (f : Bool) (h : ℕ) (cs : List SwitchCase) (outer : List Located) (ts : List Token) → length opened + 1 < 256 → feed (in_switch opened h cs outer) (token.Value v ∷ (fall_if f ++ (token.Open ∷ ts))) ≡ feed (ready (part.Case v f ∷ part.Cases h cs outer ∷ opened) []) ts
unfolding feeds next open_brace
case_in opened v true h cs outer ts lt =
    ap (λ o. feed o ts) (enters (part.Cases h cs outer ∷ opened) (part.Case v true) (wants.Statement tail.Nothing) (omega arith))
case_in opened v false h cs outer ts lt =
    ap (λ o. feed o ts) (enters (part.Cases h cs outer ∷ opened) (part.Case v false) (wants.Statement tail.Nothing) (omega arith))

-- the cases end
switch_out : (opened : List OpenedPart) (h : ℕ) (cs : List SwitchCase) (outer : List Located) → Gets (and_then (in_switch opened h cs outer) token.Close) opened (outer ++ placed (ir.Switch h cs) ∷ [])
unfolding next close_switch settle
switch_out opened h cs outer = refl

-- a Loop ends
loop_end : (o : Option ReadingState) (opened : List OpenedPart) (list body : List Located) (turn : b.Block) (condition : Option ℕ) → Gets o (part.Continuing turn list ∷ opened) body → Gets (feed (and_then o token.Close) (break_if_any condition)) opened (list ++ placed (ir.Loop turn (block_from body) condition) ∷ [])
unfolding feeds
loop_end o opened list body turn None h = loop_out o opened list body turn h
loop_end o opened list body turn (Some c) h = loop_out_if o opened list body turn c h

-- these tokens are read as this list, statement and cases, wherever they may begin
abbrev ListIsRead : Body → List Token → Type 0
ListIsRead b ts = (o : Option ReadingState) (opened : List OpenedPart) (list : List Located) → Gets o opened list → length opened + depth b ≤ 256 → Gets (feed o ts) opened (list ++ list_of b)

abbrev StatementIsRead : Stmt → List Token → Type 0
StatementIsRead x ts = (o : Option ReadingState) (opened : List OpenedPart) (list : List Located) → Gets o opened list → length opened + statement_depth x ≤ 256 → Gets (feed o ts) opened (list ++ located_of x ∷ [])

abbrev CasesAreRead : Cases → List Token → Type 0
CasesAreRead cs ts = (opened : List OpenedPart) (h : ℕ) (before : List SwitchCase) (outer : List Located) → length opened + 1 + cases_depth cs ≤ 256 → feed (in_switch opened h before outer) ts ≡ in_switch opened h (before ++ cases_of cs) outer

then_read : (x : Stmt) (rest : Body) (first more : List Token) → StatementIsRead x first → ListIsRead rest more → ListIsRead (Then x rest) (first ++ more)
unfolding depth list_of
then_read x rest first more one others o opened list h d =
    let here = one o opened list h (omega arith) in
    let after = others (feed o first) opened (list ++ located_of x ∷ []) here (omega arith) in
    rw feed-append (rw append_assoc at after)

emission_read : (ts : List Token) (first last : ℕ) → SpellsEmit first last ts → StatementIsRead (emission first last) ts
unfolding feeds list_of
emission_read ts first last (inl (e, at)) o opened list h d = rw (← e, at) (emit_one o opened list h first)
emission_read ts first last (inr (le, at)) o opened list h d = rw at (emit_range o opened list h first last le)

store_read : (ts : List Token) (pointer value : ℕ) → ts ≡ token.Store ∷ token.Name pointer ∷ token.Name value ∷ [] → StatementIsRead (storing pointer value) ts
unfolding feeds list_of
store_read ts pointer value e o opened list h d = rw e (store_one o opened list h pointer value)

barrier_read : (ts : List Token) → ts ≡ token.Barrier ∷ [] → StatementIsRead waiting ts
unfolding feeds list_of
barrier_read ts e o opened list h d = rw e (barrier_one o opened list h)

call_read : (ts : List Token) (result : Option ℕ) → ts ≡ token.Call ∷ token.Callee ∷ arrow_if_any result → StatementIsRead (calling result) ts
unfolding feeds list_of
call_read ts None e o opened list h d = rw e (call_none o opened list h)
call_read ts (Some r) e o opened list h d = rw e (call_some o opened list h r)

-- a leaf is one of these
leaf_read : (x y : Stmt) (ts : List Token) → x ≡ y → StatementIsRead y ts → StatementIsRead x ts
leaf_read x y ts same read = subst (λ z. StatementIsRead z ts) (sym same) read

block_read : (body : Body) (inner : List Token) → ListIsRead body inner → StatementIsRead (Block body) (token.Block ∷ in_braces inner)
unfolding depth feeds list_of
block_read body inner within o opened list h d =
    let in_here = within _ (part.Block list ∷ opened) [] (block_in o opened list h (omega arith)) (omega arith) in
    rw feed-append ((block_out _ opened list (list_of body) in_here))

if_read : (c : ℕ) (accept reject : Body) (taken other : List Token) → ListIsRead accept taken → ListIsRead reject other → StatementIsRead (Branch c accept reject) (token.If ∷ token.Name c ∷ (in_braces taken ++ in_braces other))
unfolding depth feeds list_of
if_read c accept reject taken other first second o opened list h d =
    let accepted = first _ (part.Accept c list ∷ opened) [] (if_in o opened list h (omega arith) c) (omega arith) in
    let between = (if_else _ opened list (list_of accept) c accepted) in
    let rejected = second _ (part.Reject c (block_of accept) list ∷ opened) [] between (omega arith) in
    rw (feed-append, feed-append, feed-append) ((if_out _ opened list (list_of reject) c (block_of accept) rejected))

switch_read : (c : ℕ) (cases : Cases) (inner : List Token) → CasesAreRead cases inner → StatementIsRead (Switch c cases) (token.Switch ∷ token.Name c ∷ in_braces inner)
unfolding depth feeds list_of
switch_read c cases inner within o opened list h d =
    let out = switch_out opened c (cases_of cases) list in
    rw (feed-append, switch_in o opened list h (omega arith) c, within opened c [] list (omega arith)) out

loop_read : (turn continuing : Body) (condition : Option ℕ) (first second : List Token) → ListIsRead turn first → ListIsRead continuing second → StatementIsRead (Loop turn continuing condition) (token.Loop ∷ (in_braces first ++ (in_braces second ++ break_if_any condition)))
unfolding depth feeds list_of
loop_read turn continuing condition first second one two o opened list h d =
    let turned = one _ (part.Turn list ∷ opened) [] (loop_in o opened list h (omega arith)) (omega arith) in
    let between = (loop_between _ opened list (list_of turn) turned) in
    let after = two _ (part.Continuing (block_of turn) list ∷ opened) [] between (omega arith) in
    rw (feed-append, feed-append, feed-append, feed-append) (loop_end _ opened list (list_of continuing) (block_of turn) condition after)

case_read : (v : SwitchValue) (f : Bool) (body : Body) (rest : Cases) (inner more : List Token) → ListIsRead body inner → CasesAreRead rest more → CasesAreRead (OneCase v f body rest) (token.Value v ∷ (fall_if f ++ (in_braces inner ++ more)))
unfolding depth settle feeds list_of
case_read v f body rest inner more within others opened h before outer d =
    let in_here = within (ready (part.Case v f ∷ part.Cases h before outer ∷ opened) []) (part.Case v f ∷ part.Cases h before outer ∷ opened) [] refl (omega arith) in
    let out = (case_out _ opened outer (list_of body) v f h before in_here) in
    let after = others opened h (before ++ SwitchCase' v (block_of body) f ∷ []) outer (omega arith) in
    case_in opened v f h before outer ((inner ++ token.Close ∷ []) ++ more) (omega arith)
    ∙ feed-append _ (inner ++ token.Close ∷ []) more
    ∙ ap (λ o. feed o more) (feed-append _ inner (token.Close ∷ []) ∙ out)
    ∙ after
    ∙ ap (λ cs. in_switch opened h cs outer) (append_assoc before (SwitchCase' v (block_of body) f ∷ []) (cases_of rest))

mutual
  unfolding Spells feeds list_of

  -- a list that is spelled is read, wherever it may begin
  complete : (b : Body) (ts : List Token) → Spells b ts → ListIsRead b ts
  complete Done ts e = done_read ts e
  complete (Then x rest) ts (first, more, one, others, e) =
      rw e (then_read x rest first more (complete_statement x first one) (complete rest more others))

  complete_statement : (x : Stmt) (ts : List Token) → SpellsStatement x ts → StatementIsRead x ts
  complete_statement (Leaf acts x span) ts (inl (first, last, same, how)) = leaf_read _ _ ts same (emission_read ts first last how)
  complete_statement (Leaf acts x span) ts (inr (inl (result, same, e))) = leaf_read _ _ ts same (call_read ts result e)
  complete_statement (Leaf acts x span) ts (inr (inr (inl (pointer, value, same, e)))) = leaf_read _ _ ts same (store_read ts pointer value e)
  complete_statement (Leaf acts x span) ts (inr (inr (inr (same, e)))) = leaf_read _ _ ts same (barrier_read ts e)
  complete_statement (Block body) ts (inner, within, e) = rw e (block_read body inner (complete body inner within))
  complete_statement (Branch c accept reject) ts (taken, other, first, second, e) =
      rw e (if_read c accept reject taken other (complete accept taken first) (complete reject other second))
  complete_statement (Switch c cases) ts (inner, within, e) =
      rw e (switch_read c cases inner (complete_cases cases inner within))
  complete_statement (Loop turn continuing condition) ts (first, second, one, two, e) =
      rw e (loop_read turn continuing condition first second (complete turn first one) (complete continuing second two))
  complete_statement Break ts e = rw e (λ o opened list h d. break_one o opened list h)
  complete_statement Continue ts e = rw e (λ o opened list h d. continue_one o opened list h)
  complete_statement (Return None) ts e = rw e (λ o opened list h d. return_none o opened list h)
  complete_statement (Return (Some a)) ts e = rw e (λ o opened list h d. return_some o opened list h a)
  complete_statement Kill ts e = rw e (λ o opened list h d. kill_one o opened list h)

  -- the cases of a Switch, behind earlier ones
  complete_cases : (cs : Cases) (ts : List Token) → SpellsCases cs ts → CasesAreRead cs ts
  complete_cases NoCase ts e = none_read ts e
  complete_cases (OneCase v f body rest) ts (inner, more, within, others, e) =
      rw e (case_read v f body rest inner more (complete body inner within) (complete_cases rest more others))

-- each reading is read
pub reads_complete : (b : Body) (ts : List Token) → Spells b ts → depth b ≤ 256 → reading_of ts ≡ Some (block_of b)
unfolding settle
reads_complete b ts spelled shallow = at_end _ _ (complete b ts spelled (Some begun) [] [] refl (omega arith))

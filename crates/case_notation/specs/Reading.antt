-- How the statements are read, a token at a time: what the private functions of the reader do. No public contract cites
-- this; it is proved to read what the grammar spells, and nothing else.
use Rattle.std.specs.Prelude.{ℕ, true, false, List, [], ◌∷◌, ◌++◌, length, Option, Some, None, nat_lt, nat_le, if◌then◌else◌, option_and_then}
use Rattle.ir_statements.specs.declared.statements.Block.{Block}
use Rattle.ir_statements.specs.declared.statements.Located.{Located}
use Rattle.ir_statements.specs.declared.statements.Statement as ir
use Rattle.ir_statements.specs.declared.statements.SwitchCase.{SwitchCase, SwitchCase'}
use Rattle.case_notation.specs.declared.token.Token.{Token}
use Rattle.case_notation.specs.declared.token.Token.TheVariants as token
use Rattle.case_notation.specs.declared.reader.parts.Tail.{Tail}
use Rattle.case_notation.specs.declared.reader.parts.Tail.TheVariants as tail
use Rattle.case_notation.specs.declared.reader.parts.Naming.{Naming}
use Rattle.case_notation.specs.declared.reader.parts.Naming.TheVariants as naming
use Rattle.case_notation.specs.declared.reader.parts.Brace.{Brace}
use Rattle.case_notation.specs.declared.reader.parts.Brace.TheVariants as brace
use Rattle.case_notation.specs.CaseParts.{OpenedPart, part_as, kind_of}
use Rattle.case_notation.specs.CaseParts as part
use Rattle.case_notation.specs.declared.reader.parts.Wants.{Wants}
use Rattle.case_notation.specs.declared.reader.parts.Wants.TheVariants as wants
use Rattle.case_notation.specs.Feeding.{feeds}
use Rattle.case_notation.specs.CaseBlocks.{block_from, placed}
use Rattle.case_notation.specs.Grammar.{emitting, call_of, store_of, control_barrier}

-- what has been read so far: the open parts, the newest first, and the list at hand
pub record ReadingState : Type 0 where
  pub opened : List OpenedPart
  pub list : List Located
  pub wants : Wants

abbrev pub wanting : List OpenedPart → List Located → Wants → Option ReadingState
wanting opened list wants = Some (record { opened = opened; list = list; wants = wants })

-- a statement may begin
abbrev pub ready : List OpenedPart → List Located → Option ReadingState
ready opened list = wanting opened list (wants.Statement tail.Nothing)

abbrev pub begun : ReadingState
begun = record { opened = []; list = []; wants = wants.Statement tail.Nothing }

-- one brace more is open
abbrev pub enter : List OpenedPart → OpenedPart → Wants → Option ReadingState
enter opened part next = if nat_lt (length opened) 256 then wanting (part ∷ opened) [] next else None

-- a case of the Switch at hand is whole
unfoldable pub add_case : List OpenedPart → List Located → SwitchCase → Option ReadingState
add_case (part.Cases selector cases outer ∷ opened) list c =
    wanting (part.Cases selector (cases ++ c ∷ []) outer ∷ opened) list wants.CaseValue
add_case opened list c = None

-- the first list of the If or of the Loop at hand is closed
unfoldable pub close_accept : List OpenedPart → List Located → Option ReadingState
close_accept (part.Accept c outer ∷ opened) list =
    wanting (part.Reject c (block_from list) outer ∷ opened) [] wants.Between
close_accept opened list = None

unfoldable pub close_turn : List OpenedPart → List Located → Option ReadingState
close_turn (part.Turn outer ∷ opened) list =
    wanting (part.Continuing (block_from list) outer ∷ opened) [] wants.Between
close_turn opened list = None

-- the Block, the If or the case at hand is closed
unfoldable pub close_block : List OpenedPart → List Located → Option ReadingState
close_block (part.Block outer ∷ opened) list = ready opened (outer ++ placed (ir.Block (block_from list)) ∷ [])
close_block opened list = None

unfoldable pub close_if : List OpenedPart → List Located → Option ReadingState
close_if (part.Reject c accept outer ∷ opened) list =
    ready opened (outer ++ placed (ir.If c accept (block_from list)) ∷ [])
close_if opened list = None

unfoldable pub close_case : List OpenedPart → List Located → Option ReadingState
close_case (part.Case value falls ∷ opened) list = add_case opened [] (SwitchCase' value (block_from list) falls)
close_case opened list = None

-- the list at hand is closed
unfoldable pub close : List OpenedPart → List Located → Option ReadingState
close (part.Block outer ∷ opened) list = close_block (part.Block outer ∷ opened) list
close (part.Accept c outer ∷ opened) list = close_accept (part.Accept c outer ∷ opened) list
close (part.Reject c accept outer ∷ opened) list = close_if (part.Reject c accept outer ∷ opened) list
close (part.Case value falls ∷ opened) list = close_case (part.Case value falls ∷ opened) list
close (part.Turn outer ∷ opened) list = close_turn (part.Turn outer ∷ opened) list
close (part.Continuing turn outer ∷ opened) list =
    wanting (part.Continuing turn outer ∷ opened) list (wants.Statement tail.Loop)
close opened list = None

-- the Switch at hand is closed
unfoldable pub close_switch : List OpenedPart → Option ReadingState
close_switch (part.Cases selector cases outer ∷ opened) =
    ready opened (outer ++ placed (ir.Switch selector cases) ∷ [])
close_switch opened = None

-- the Loop at hand ends
unfoldable pub end_loop : List OpenedPart → List Located → Option ℕ → Option ReadingState
end_loop (part.Continuing turn outer ∷ opened) list condition =
    ready opened (outer ++ placed (ir.Loop turn (block_from list) condition) ∷ [])
end_loop opened list condition = None

-- a token that is a statement by itself
unfoldable pub put_alone : List OpenedPart → List Located → Token → Option ReadingState
put_alone opened list token.Break = ready opened (list ++ placed ir.Break ∷ [])
put_alone opened list token.Continue = ready opened (list ++ placed ir.Continue ∷ [])
put_alone opened list token.Kill = ready opened (list ++ placed ir.Kill ∷ [])
put_alone opened list token.Barrier = ready opened (list ++ placed control_barrier ∷ [])
put_alone opened list t = None

-- a token where a statement may begin
unfoldable pub begin : List OpenedPart → List Located → Token → Option ReadingState
begin opened list token.Emit = wanting opened list (wants.Name naming.First)
begin opened list token.Block = wanting opened list (wants.Open brace.Block)
begin opened list token.If = wanting opened list (wants.Name naming.Condition)
begin opened list token.Switch = wanting opened list (wants.Name naming.Selector)
begin opened list token.Loop = wanting opened list (wants.Open brace.Turn)
begin opened list token.Return = wanting opened list (wants.Statement tail.Return)
begin opened list token.Store = wanting opened list (wants.Name naming.Pointer)
begin opened list token.Call = wanting opened list wants.Callee
begin opened list token.Close = close opened list
begin opened list t = put_alone opened list t

-- the statement at hand gets no tail
unfoldable pub settle : List OpenedPart → List Located → Tail → Option ReadingState
settle opened list tail.Nothing = ready opened list
settle opened list (tail.Emit first) = ready opened (list ++ placed (emitting first first) ∷ [])
settle opened list tail.Return = ready opened (list ++ placed (ir.Return None) ∷ [])
settle opened list tail.Loop = end_loop opened list None
settle opened list tail.Call = ready opened (list ++ placed (call_of None) ∷ [])

abbrev pub begin_at : Token → ReadingState → Option ReadingState
begin_at t s = begin s.opened s.list t

-- a tail of the statement at hand, or a token where a statement may begin
unfoldable pub go_on : List OpenedPart → List Located → Tail → Token → Option ReadingState
go_on opened list (tail.Emit first) token.To = wanting opened list (wants.Name (naming.Last first))
go_on opened list tail.Return (token.Name value) = ready opened (list ++ placed (ir.Return (Some value)) ∷ [])
go_on opened list tail.Loop token.BreakIf = wanting opened list (wants.Name naming.BreakIf)
go_on opened list tail.Call token.Arrow = wanting opened list (wants.Name naming.Result)
go_on opened list t w = option_and_then (begin_at w) (settle opened list t)

-- the last name of a statement
unfoldable pub put_named : List OpenedPart → List Located → Naming → ℕ → Option ReadingState
put_named opened list (naming.Last first) h =
    if nat_le first h then ready opened (list ++ placed (emitting first h) ∷ []) else None
put_named opened list naming.BreakIf h = end_loop opened list (Some h)
put_named opened list (naming.Stored pointer) h = ready opened (list ++ placed (store_of pointer h) ∷ [])
put_named opened list naming.Result h = ready opened (list ++ placed (call_of (Some h)) ∷ [])
put_named opened list n h = None

-- a name
unfoldable pub take_name : List OpenedPart → List Located → Naming → ℕ → Option ReadingState
take_name opened list naming.First h = wanting opened list (wants.Statement (tail.Emit h))
take_name opened list naming.Condition h = wanting opened list (wants.Open (brace.Accept h))
take_name opened list naming.Selector h = wanting opened list (wants.Open (brace.Cases h))
take_name opened list naming.Pointer h = wanting opened list (wants.Name (naming.Stored h))
take_name opened list n h = put_named opened list n h

-- what is wanted after a brace
abbrev pub behind_brace : Brace → Wants
behind_brace (brace.Cases h) = wants.CaseValue
behind_brace b = wants.Statement tail.Nothing

-- the brace of a part
unfoldable pub open_brace : List OpenedPart → List Located → Brace → Option ReadingState
open_brace opened list b = enter opened (part_as (kind_of b) list) (behind_brace b)

unfoldable pub next : List OpenedPart → List Located → Wants → Token → Option ReadingState
next opened list (wants.Statement t) w = go_on opened list t w
next opened list (wants.Name n) (token.Name h) = take_name opened list n h
next opened list (wants.Open b) token.Open = open_brace opened list b
next opened list wants.Between token.Open = ready opened list
next opened list wants.Callee token.Callee = wanting opened list (wants.Statement tail.Call)
next opened list wants.CaseValue (token.Value v) = wanting opened list (wants.CaseRest v)
next opened list wants.CaseValue token.Close = close_switch opened
next opened list (wants.CaseRest v) token.Fall = wanting opened list (wants.Open (brace.Case v true))
next opened list (wants.CaseRest v) token.Open = open_brace opened list (brace.Case v false)
next opened list w t = None

abbrev pub step : ReadingState → Token → Option ReadingState
step s t = next s.opened s.list s.wants t

-- the block, where no part is open
abbrev pub whole : List OpenedPart → List Located → Option Block
whole [] list = Some (block_from list)
whole (p ∷ ps) list = None

unfoldable pub end_at : List OpenedPart → List Located → Wants → Option Block
end_at opened list (wants.Statement t) = option_and_then (λ s. whole s.opened s.list) (settle opened list t)
end_at opened list w = None

-- what the tokens say
abbrev pub finish : ReadingState → Option Block
finish s = end_at s.opened s.list s.wants

abbrev pub reading_of : List Token → Option Block
reading_of ts = option_and_then finish (feeds step (Some begun) ts)

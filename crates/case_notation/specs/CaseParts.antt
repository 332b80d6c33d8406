-- The parts of a body that are open while it is read: what was read of a part's statement, and the list around it.
use Rattle.std.specs.Prelude.{ℕ, Bool, List, []}
use Rattle.ir_statements.specs.declared.statements.Block as b
use Rattle.ir_statements.specs.declared.statements.Located.{Located}
use Rattle.ir_statements.specs.declared.statements.SwitchCase.{SwitchCase}
use Rattle.ir_statements.specs.declared.operations.SwitchValue.{SwitchValue}
use Rattle.case_notation.specs.declared.reader.parts.Brace.{Brace}
use Rattle.case_notation.specs.declared.reader.parts.Brace.TheVariants as brace
use Rattle.case_notation.specs.declared.reader.parts.Kind.{Kind}
use Rattle.case_notation.specs.declared.reader.parts.Kind.TheVariants as kind

-- a case lies on its Switch
pub data OpenedPart : Type 0 where
  Block : (outer : List Located) → OpenedPart
  Accept : (condition : ℕ) (outer : List Located) → OpenedPart
  Reject : (condition : ℕ) (accept : b.Block) (outer : List Located) → OpenedPart
  Cases : (selector : ℕ) (cases : List SwitchCase) (outer : List Located) → OpenedPart
  Case : (value : SwitchValue) (fall_through : Bool) → OpenedPart
  Turn : (outer : List Located) → OpenedPart
  Continuing : (turn : b.Block) (outer : List Located) → OpenedPart

-- a part of this kind
abbrev pub part_as : Kind → (outer : List Located) → OpenedPart
part_as kind.Block outer = Block outer
part_as (kind.Accept condition) outer = Accept condition outer
part_as (kind.Reject condition accept) outer = Reject condition accept outer
part_as (kind.Cases selector cases) outer = Cases selector cases outer
part_as (kind.Case value falls) outer = Case value falls
part_as kind.Turn outer = Turn outer
part_as (kind.Continuing turn) outer = Continuing turn outer

-- the part that a brace opens
abbrev pub kind_of : Brace → Kind
kind_of brace.Block = kind.Block
kind_of (brace.Accept condition) = kind.Accept condition
kind_of (brace.Cases selector) = kind.Cases selector []
kind_of (brace.Case value falls) = kind.Case value falls
kind_of brace.Turn = kind.Turn

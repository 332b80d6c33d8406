-- What the reader holds, as the state of its definitions: the newest open part stands first.
use Rattle.std.specs.Prelude.{List, Option, Result, map, reverse}
use Rattle.ir_statements.specs.declared.statements.Located.{Located}
use Rattle.case_notation.specs.declared.case.CaseError.{CaseError}
use Rattle.case_notation.specs.declared.reader.parts.Frame.{Frame}
use Rattle.case_notation.specs.declared.reader.Reader.{Reader}
use Rattle.case_notation.specs.Feeding.{Steps}
use Rattle.case_notation.specs.CaseParts.{OpenedPart, part_as}
use Rattle.case_notation.specs.Reading.{ReadingState}

abbrev pub part_of : Frame → OpenedPart
part_of f = part_as f.kind f.outer

-- the open parts, the newest first
unfoldable pub newest_first : List Frame → List OpenedPart
newest_first fs = map part_of (reverse fs)

abbrev pub state_of : Reader → ReadingState
state_of r = record { opened = newest_first r.opened.items; list = r.list; wants = r.wants }

-- what a call answers and leaves, against the state that is to come of the reader's open parts and its list
abbrev pub Moves : (List OpenedPart → List Located → Option ReadingState) → Reader → Result Unit CaseError → Reader → Type 0
Moves to old answer new = Steps (to (state_of old).opened (state_of old).list) answer (state_of new)

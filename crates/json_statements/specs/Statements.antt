-- Statements and blocks.
use Rattle.std.specs.Prelude.{ℕ, zero, suc, List, [], ◌∷◌, codes, Option, Some, None, option_map, if◌then◌else◌}
use Rattle.serde_json.specs.Data.{Data}
use Rattle.serde_json.specs.Find.{as_bool}
use Rattle.ir_statements.specs.Blocks as blocks
use Rattle.ir_statements.specs.declared.statements.Block.{Block}
use Rattle.ir_statements.specs.declared.statements.Located.{Located}
use Rattle.ir_statements.specs.declared.statements.Statement.{Statement}
use Rattle.ir_statements.specs.declared.statements.Statement as statement
use Rattle.ir_statements.specs.declared.statements.SwitchCase.{SwitchCase, SwitchCase'}
use Rattle.ir_arena.specs.declared.span.Span.{Span}
use Rattle.json_statements.specs.declared.leaves.LeafName.TheVariants as leaf
use Rattle.json_statements.specs.declared.statements.BareStatementName.{BareStatementName}
use Rattle.json_statements.specs.declared.statements.BareStatementName.TheVariants as bare
use Rattle.json_statements.specs.declared.statements.StatementName.{StatementName}
use Rattle.json_statements.specs.declared.statements.StatementName.TheVariants as name
use Rattle.json_values.specs.Form.{field_of, fielded, given, has_field, list_of, optional, two_of}
use Rattle.json_values.specs.ReadNumbers.{u32_of}
use Rattle.json_values.specs.Variants.{Variant, plain, holding, variant_of}
use Rattle.json_statements.specs.ReadLeaves.{leaf_from}
use Rattle.json_statements.specs.ReadOperations.{switch_value_of}

abbrev pub span_from : ℕ × ℕ → Span
span_from ends = record { start = ends.0; end = ends.1 }

-- a span
abbrev pub span_of : Data → Option Span
span_of d = option_map span_from (two_of u32_of u32_of d)

-- the statements that hold nothing
abbrev pub bare_statements : List (List ℕ × BareStatementName)
bare_statements = (codes "Break", bare.Break) ∷ (codes "Continue", bare.Continue) ∷ (codes "Kill", bare.Kill) ∷ []

-- the statements that hold something
abbrev pub statements : List (List ℕ × StatementName)
statements =
    (codes "Block", name.Block) ∷ (codes "If", name.If) ∷ (codes "Switch", name.Switch) ∷ (codes "Loop", name.Loop) ∷
    (codes "Emit", name.Leaf leaf.Emit) ∷ (codes "Return", name.Leaf leaf.Return) ∷
    (codes "ControlBarrier", name.Leaf leaf.ControlBarrier) ∷
    (codes "MemoryBarrier", name.Leaf leaf.MemoryBarrier) ∷ (codes "Store", name.Leaf leaf.Store) ∷
    (codes "ImageStore", name.Leaf leaf.ImageStore) ∷ (codes "Atomic", name.Leaf leaf.Atomic) ∷
    (codes "ImageAtomic", name.Leaf leaf.ImageAtomic) ∷
    (codes "WorkGroupUniformLoad", name.Leaf leaf.WorkGroupUniformLoad) ∷ (codes "Call", name.Leaf leaf.Call) ∷
    (codes "RayQuery", name.Leaf leaf.RayQuery) ∷ (codes "SubgroupBallot", name.Leaf leaf.SubgroupBallot) ∷
    (codes "SubgroupCollectiveOperation", name.Leaf leaf.SubgroupCollectiveOperation) ∷
    (codes "SubgroupGather", name.Leaf leaf.SubgroupGather) ∷
    (codes "CooperativeStore", name.Leaf leaf.CooperativeStore) ∷
    (codes "RayPipelineFunction", name.Leaf leaf.RayPipelineFunction) ∷ []

abbrev pub bare_from : BareStatementName → Statement
bare_from bare.Break = statement.Break
bare_from bare.Continue = statement.Continue
bare_from bare.Kill = statement.Kill

-- where blocks are read by this
module _ (block : Data → Option Block) where
  abbrev pub if_with : Data → Option Statement
  if_with = fielded (codes "condition" ∷ codes "accept" ∷ codes "reject" ∷ []) (λ d.
      given (field_of u32_of (codes "condition") d) (λ condition.
      given (field_of block (codes "accept") d) (λ accept.
      given (field_of block (codes "reject") d) (λ reject.
      Some (statement.If condition accept reject)))))

  abbrev pub loop_with : Data → Option Statement
  loop_with = fielded (codes "body" ∷ codes "continuing" ∷ codes "break_if" ∷ []) (λ d.
      given (field_of block (codes "body") d) (λ body.
      given (field_of block (codes "continuing") d) (λ continuing.
      given (field_of (optional u32_of) (codes "break_if") d) (λ break_if.
      Some (statement.Loop body continuing break_if)))))

  -- a case of a switch
  abbrev pub case_with : Data → Option SwitchCase
  case_with = fielded (codes "value" ∷ codes "body" ∷ codes "fall_through" ∷ []) (λ d.
      given (field_of switch_value_of (codes "value") d) (λ value.
      given (field_of block (codes "body") d) (λ body.
      given (field_of as_bool (codes "fall_through") d) (λ fall_through.
      Some (SwitchCase' value body fall_through)))))

  abbrev pub switch_with : Data → Option Statement
  switch_with = fielded (codes "selector" ∷ codes "cases" ∷ []) (λ d.
      given (field_of u32_of (codes "selector") d) (λ selector.
      given (field_of (list_of case_with) (codes "cases") d) (λ cases.
      Some (statement.Switch selector cases))))

  abbrev pub statement_from : Variant BareStatementName StatementName → Option Statement
  statement_from (plain x) = Some (bare_from x)
  statement_from (holding name.Block d) = option_map statement.Block (block d)
  statement_from (holding name.If d) = if_with d
  statement_from (holding name.Switch d) = switch_with d
  statement_from (holding name.Loop d) = loop_with d
  statement_from (holding (name.Leaf kind) d) = leaf_from kind d

  -- a statement
  abbrev pub statement_with : Data → Option Statement
  statement_with d = given (variant_of bare_statements statements d) statement_from

  -- a statement at a span
  abbrev pub at_span : Span → Statement → Located
  at_span span x = record { statement = x; span = span }

  abbrev pub long_with : Data → Option Located
  long_with = fielded (codes "span" ∷ codes "statement" ∷ []) (λ d.
      given (field_of span_of (codes "span") d) (λ span.
      given (field_of statement_with (codes "statement") d) (λ x.
      Some (at_span span x))))

  abbrev pub short_with : Data → Option Located
  short_with d = given (statement_with d) (λ x. Some (at_span (record { start = 0; end = 0 }) x))

  -- an object with a field "span" is a statement with its span; any other value is a statement without one, whose span is 0..0
  abbrev pub located_with : Data → Option Located
  located_with d = if has_field (codes "span") d then long_with d else short_with d

-- a block, whose blocks nest at most so deep
unfoldable pub block_at : ℕ → Data → Option Block
block_at zero d = None
block_at (suc levels) d = option_map blocks.block_of (list_of (located_with (block_at levels)) d)

-- a block: the brackets of a document nest at most 127 deep, so its blocks do
abbrev pub block_of : Data → Option Block
block_of = block_at 127

-- Blocks by their statements.
use Rattle.std.specs.Prelude.{List, [], ◌∷◌, ◌++◌}
use Rattle.ir_statements.specs.declared.statements.Block.{Block, out-Block, roll-Block}
use Rattle.ir_statements.specs.declared.statements.Located.{Located}
use Rattle.ir_statements.specs.declared.statements.Statement.{Statement}
use Rattle.ir_arena.specs.declared.span.Span.{Span}

-- the statements of a block, each with its span
abbrev pub statements_of : Block → List Located
statements_of block = (out-Block block).list

-- the block of these statements
abbrev pub block_of : List Located → Block
block_of statements = roll-Block (record { list = statements })

-- the block without statements
abbrev pub empty_block : Block
empty_block = block_of []

-- the block with one statement more, which is the last
abbrev pub with_last : Block → Statement → Span → Block
with_last block x place = block_of (statements_of block ++ record { statement = x; span = place } ∷ [])

use Rattle.std.proofs.Common.{rules}
use Rattle.check_variables.proofs.allowed.payload_use.Goals as goal

-- what edits of the gate leave open

pub returns-in-Vertex : goal.returns-in-Vertex
returns-in-Vertex c = search rules

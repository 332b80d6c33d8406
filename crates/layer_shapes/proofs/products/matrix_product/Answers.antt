use Rattle.std.proofs.Common.{rules}
use Rattle.layer_shapes.proofs.products.matrix_product.Goals as goal

-- what edits of the gate leave open

pub returns-after-is_same_size : goal.returns-after-is_same_size
returns-after-is_same_size c = search rules

use Rattle.std.proofs.Common.{ap, ◌∙◌}
use Rattle.ir_statements.specs.View.{no_operands, tree_of}
use Rattle.ir_statements.proofs.Rows.{body_of-list, tree_of-switch}
use Rattle.layer_uses.proofs.walk.+uses.Goals as goal

pub use_block-returns : goal.use_block-returns
use_block-returns t c = rw (body_of-list no_operands c.args.block.now, ← c.as_slice.ensures) c.use_list.ensures

pub use_statement-returns-in-Switch : goal.use_statement-returns-in-Switch
use_statement-returns-in-Switch t c =
    let span = c.args.located.now.span in
    let e = ap (λ x. tree_of no_operands x span) c.in-Switch.is ∙ tree_of-switch no_operands c.in-Switch.selector c.in-Switch.cases span in
    rw (e, ← c.as_slice.ensures) c.use_cases.ensures

use Rattle.std.proofs.Common.{sym, ◌∙◌}
use Rattle.ir_misfits.proofs.ExactParts.{callee_exact}
use Rattle.ir_misfits.proofs.Marks.{marked_fits}
use Rattle.ir_misfits.proofs.signature.check_callee.Goals as goal

pub returns-then-is_marked : goal.returns-then-is_marked
returns-then-is_marked c =
    let m = c.args.module.now in
    let marked = sym c.is_marked.ensures ∙ c.if-is_marked.true in
    sym ((callee_exact m c.args.place c.args.function).passes (marked_fits m c.args.fitting.now c.args.function c.requires.fitting marked))

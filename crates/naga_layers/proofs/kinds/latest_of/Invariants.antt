use Rattle.std.proofs.Common.{◌≡◌, drop}
use Rattle.ir_facts.specs.declared.proc.expression_kinds.ExpressionKind.TheVariants.{Const}
use Rattle.naga_layers.specs.Kinds.{latest_of}
use Rattle.naga_layers.proofs.kinds.latest_of.Given as goal

abbrev pub invariant-loop-handle : goal.invariant-loop-handle
invariant-loop-handle l =
    latest_of l.earlier l.latest (drop l.handle-index l.operands) ≡ latest_of l.earlier Const l.operands

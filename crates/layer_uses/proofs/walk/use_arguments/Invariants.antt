use Rattle.std.proofs.Common.{◌≡◌, drop}
use Rattle.layer_uses.specs.Walk.{argument_uses}
use Rattle.layer_uses.proofs.walk.use_arguments.Given as goal

abbrev pub invariant-loop-argument : goal.invariant-loop-argument
invariant-loop-argument l =
    argument_uses l.globals l.roots l.uses.items (drop l.argument-index l.arguments)
    ≡ argument_uses l.globals l.roots l.fn.uses.items l.arguments

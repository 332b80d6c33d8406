use Rattle.std.proofs.Common.{sym, ap, ◌∙◌}
use Rattle.std.specs.Option.{option_copied}
use Rattle.check_scope.specs.walk.SeenContext.{context_of}
use Rattle.check_scope.proofs.InRange.{types_fit, resolution_fits}
use Rattle.check_scope.proofs.types.is_of_type.Goals as goal

pub compare_types-requires-clause-types : goal.compare_types-requires-clause-types
compare_types-requires-clause-types c = types_fit (context_of c.args.context.now) c.requires.context

pub compare_types-requires-clause-first : goal.compare_types-requires-clause-first
compare_types-requires-clause-first c =
    resolution_fits (context_of c.args.context.now) c.requires.context c.args.handle c.in-Some.given.now (sym c.resolution.ensures ∙ ap option_copied c.in-Some.is)

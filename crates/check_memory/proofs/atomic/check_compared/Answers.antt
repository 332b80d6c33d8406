use Rattle.std.proofs.Common.{length, sym, subst}
use Rattle.std.specs.Prelude.{IfSome}
use Rattle.ir_types.specs.Types.{NamesTypesBelow}
use Rattle.check_scope.specs.walk.SeenContext.{context_of}
use Rattle.check_scope.proofs.InRange.{type_fits}
use Rattle.check_memory.proofs.atomic.check_compared.Goals as goal

pub is_equivalent-requires-clause-first : goal.is_equivalent-requires-clause-first
is_equivalent-requires-clause-first c =
    let context = context_of c.args.context.now in
    subst (λ o. IfSome o (NamesTypesBelow (length context.program.types))) (sym c.type_inner.ensures) (type_fits context c.requires c.args.compare)

pub is_equivalent-requires-clause-second : goal.is_equivalent-requires-clause-second
is_equivalent-requires-clause-second c =
    let context = context_of c.args.context.now in
    subst (λ o. IfSome o (NamesTypesBelow (length context.program.types))) (sym c.type_inner-2.ensures) (type_fits context c.requires c.args.value)

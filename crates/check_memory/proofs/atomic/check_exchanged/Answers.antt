use Rattle.std.proofs.Common.{length, sym, subst}
use Rattle.std.specs.Prelude.{IfSome}
use Rattle.ir_types.specs.Types.{NamesTypesBelow}
use Rattle.check_scope.specs.walk.SeenContext.{context_of}
use Rattle.check_memory.proofs.ResultsInRange.{result_type_fits}
use Rattle.check_memory.proofs.atomic.check_exchanged.Goals as goal

pub is_exchange_struct-requires : goal.is_exchange_struct-requires
is_exchange_struct-requires c =
    let context = context_of c.args.context.now in
    subst (λ o. IfSome o (NamesTypesBelow (length context.program.types))) (sym c.result_type.ensures) (result_type_fits context c.requires c.args.handle)

use Rattle.std.proofs.Common.{rules}
use Rattle.check_resources.specs.walk.ImageParts.{changed_value_points}
use Rattle.check_resources.specs.ImageAtomic.{format_points}
use Rattle.check_scope.specs.walk.Place.{place_at}
use Rattle.check_scope.specs.walk.SeenContext.{context_of}
use Rattle.check_scope.specs.walk.Table.{known}
use Rattle.ir_facts.proofs.Refusals.{fault_first, fault_second}
use Rattle.check_resources.proofs.image_atomic.check_changed.Goals as goal

pub returns-in_err-check_format : goal.returns-in_err-check_format
returns-in_err-check_format c =
    let context = context_of c.args.context.now in
    let formats = format_points context.settings.capabilities c.args.format c.args.fun.now in
    let values = changed_value_points context (place_at (known c.args.scope.now)) c.args.format c.args.value in
    fault_first c.from_residual.result formats values (search rules) (search rules)

pub returns : goal.returns
returns c =
    let context = context_of c.args.context.now in
    let formats = format_points context.settings.capabilities c.args.format c.args.fun.now in
    let values = changed_value_points context (place_at (known c.args.scope.now)) c.args.format c.args.value in
    fault_second _ formats values (search rules) c.check_value.ensures

use Rattle.std.proofs.Common.{◌≡◌, ◌≢◌, ◌++◌, None, rules}
use Rattle.std.specs.Result.{result_err}
use Rattle.ir_arena.specs.Points.{first_fault}
use Rattle.check_resources.specs.Image.{stored_format}
use Rattle.check_resources.specs.ImageStore.{stored_shape, image_store_points}
use Rattle.check_resources.specs.walk.ImageParts.{stored_texel_points, texel_value_points}
use Rattle.ir_facts.proofs.Refusals.{fault_first, fault_second}
use Rattle.check_scope.specs.walk.Place.{place_at}
use Rattle.check_scope.specs.walk.SeenContext.{context_of}
use Rattle.check_scope.specs.walk.Table.{known}
use Rattle.check_resources.proofs.Images.{stored_has_no_members}
use Rattle.check_resources.proofs.image_store.check_image_store.Goals as goal
use Rattle.check_resources.proofs.image_store.check_image_store.Goals.{in-Ok, in-Err}

pub returns : goal.returns
returns c =
    let context = context_of c.args.context.now in
    let place = place_at (known c.args.scope.now) in
    let texels = stored_texel_points context place c.args.image c.args.texel.coordinate c.args.texel.array_index in
    let values = texel_value_points context place (stored_format (stored_shape context c.args.image).class) c.args.value in
    let found : result_err c.match-check_stored_texel.checked ≡ first_fault (texels ++ values) = elim c.match-check_stored_texel.branch [
      | in-Ok w ↦ fault_second _ texels values (search rules) (search rules)
      | in-Err w ↦ fault_first c.match-check_stored_texel.checked texels values (search rules) (search rules)
    ] in
    record {
      fault = c.answer.ensures.fault (texels ++ values) found;
      refused = c.answer.ensures.refused (texels ++ values) found;
    }

-- a copy takes memory of what is never stored alone
pub returns-in_err-given-clause-refused : goal.returns-in_err-given-clause-refused
returns-in_err-given-clause-refused c =
    let context = context_of c.args.context.now in
    let place = place_at (known c.args.scope.now) in
    let points = image_store_points context place c.args.image c.args.texel.coordinate c.args.texel.array_index c.args.value in
    let at_fault : first_fault points ≢ None = λ none. cc (c.in_err-given.ensures.without_memory (stored_has_no_members context place c.args.image c.args.texel.coordinate c.args.texel.array_index c.args.value none)) in
    search (rules, at_fault)

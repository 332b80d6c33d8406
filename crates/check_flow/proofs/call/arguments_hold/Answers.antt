use Rattle.std.proofs.Common.{rules, ◌≡◌, false, get_or, sym, ap, ◌∙◌}
use Rattle.check_scope.specs.ScopePoints.{may_use}
use Rattle.check_scope.specs.walk.Place.{place_at}
use Rattle.check_scope.specs.walk.SeenContext.{context_of}
use Rattle.check_scope.specs.walk.Table.{known}
use Rattle.check_flow.proofs.Calls.{argument_missing, arguments_pass}
use Rattle.check_flow.proofs.call.arguments_hold.Goals as goal

pub returns-then-not-may_use : goal.returns-then-not-may_use
returns-then-not-may_use c =
    let context = context_of c.args.context.now in
    let f = c.args.site.now.function in
    let place = place_at (known c.args.scope.now) in
    let i = c.loop-index.index in
    let given = c.index-given-index.result in
    let here : may_use place given ≡ false = search rules in
    let missing : may_use place (get_or c.args.given.now i given) ≡ false = ap (may_use place) (sym c.index-given-index.is) ∙ here in
    (λ e. cc, λ all. absurd (argument_missing context place f i i given c.args.declared.now c.args.given.now (search rules) (search rules) missing (c.loop-index.invariant ∙ arguments_pass context place f c.args.declared.now c.args.given.now all)))

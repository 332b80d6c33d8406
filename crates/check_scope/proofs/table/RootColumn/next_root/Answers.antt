use Rattle.std.proofs.Common.{◌<◌, ◌≡◌, Some, length, get_or, slice_get, sym, ap, ◌∙◌, arith}
use Rattle.std.proofs.lemmas.List.{get_or_default}
use Rattle.check_scope.specs.Roots.{access_base_in}
use Rattle.check_scope.proofs.Walks.{base_is_earlier, root_of_base, root_of_itself}
use Rattle.check_scope.proofs.table.RootColumn.next_root.Goals as goal

pub index-requires : goal.index-requires
index-requires c =
    let es = c.args.context.now.fun.now.expressions in
    let is : access_base_in (slice_get es c.args.handle) ≡ Some c.in-Some.base = ap access_base_in (sym c.expression.ensures) ∙ sym c.access_base_in.ensures ∙ c.in-Some.is in
    let before : c.in-Some.base < c.args.handle = base_is_earlier es c.requires.context.fun.operands c.args.handle c.in-Some.base is in
    let place = c.index-place.ensures.value in
    let count = c.requires.before in
    omega (arith, before, place, count)

pub returns-in-Some : goal.returns-in-Some
returns-in-Some c =
    let es = c.args.context.now.fun.now.expressions in
    let roots = c.args.self.now.roots.items in
    let base = c.in-Some.base in
    let is : access_base_in (slice_get es c.args.handle) ≡ Some base = ap access_base_in (sym c.expression.ensures) ∙ sym c.access_base_in.ensures ∙ c.in-Some.is in
    let before : base < c.args.handle = base_is_earlier es c.requires.context.fun.operands c.args.handle base is in
    let count = c.requires.before in
    let lt : base < length roots = omega (arith, before, count) in
    c.index.ensures
    ∙ ap (λ i. get_or roots i c.index.result.now) c.index-place.ensures.value
    ∙ get_or_default roots base c.index.result.now 0 lt
    ∙ c.requires.roots base lt
    ∙ root_of_base es c.requires.context.fun.operands c.args.handle base is

pub returns-in-None : goal.returns-in-None
returns-in-None c =
    sym (root_of_itself c.args.context.now.fun.now.expressions c.requires.context.fun.operands c.args.handle (ap access_base_in (sym c.expression.ensures) ∙ sym c.access_base_in.ensures ∙ c.in-None.is))

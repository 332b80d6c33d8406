use Rattle.std.proofs.Common.{refl, subst, sym}
use Rattle.check_scope.specs.BodyTrees.{emitted_operands}
use Rattle.check_scope.specs.walk.Place.{place_at}
use Rattle.check_scope.specs.walk.SeenContext.{context_of}
use Rattle.check_scope.specs.walk.Table.{ArePutUpTo, kept_at, known, shown}
use Rattle.check_scope.proofs.Operands.{all_usable, each_usable}
use Rattle.check_flow.proofs.Kept.{kept_unless_refused}
use Rattle.check_flow.proofs.emit.long_list_holds.Goals as goal

pub last_of-requires : goal.last_of-requires
last_of-requires c =
    each_usable (place_at (known c.args.scope.now)) c.args.list.now (c.listed_hold.ensures.0 c.if-not-listed_hold.false)

pub returns-then-is_known-clause-holds : goal.returns-then-is_known-clause-holds
returns-then-is_known-clause-holds c =
    let h = c.args.handle in
    let t = c.args.scope.now in
    let operands = emitted_operands (context_of c.args.context.now).fun in
    let last = kept_at c.args.operands.now h in
    let put = c.requires.operands.usable h (c.is_known.ensures c.if-is_known.true) in
    (λ e. all_usable t last c.args.list.now (subst (ArePutUpTo (shown t) last) (sym c.requires.list) put), λ all. refl)

pub returns-clause-operands : goal.returns-clause-operands
returns-clause-operands c =
    let t = c.args.scope.now in
    let put = subst (ArePutUpTo (shown t) c.last_of.result) c.requires.list c.last_of.ensures.put in
    kept_unless_refused c.requires.operands _ c.args.handle c.last_of.result c.last_of.ensures.taken put c.keep.result c.keep.ensures.ok c.keep.ensures.err

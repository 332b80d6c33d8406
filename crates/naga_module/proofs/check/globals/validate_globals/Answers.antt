use Rattle.std.proofs.Common.{◌≡◌, ◌∙◌, Some, None, Err, inr, refl, sym, ap, subst}
use Rattle.std.proofs.lemmas.Option.{get_or_from_slice_get}
use Rattle.std.specs.Prelude.{slice_get}
use Rattle.std.specs.Option.{option_map}
use Rattle.ir_arena.proofs.Points.{first_within}
use Rattle.ir_arena.specs.Points.{answer, first_fault, points_of_each}
use Rattle.check_entry.specs.GlobalPoints.{module_global_points}
use Rattle.naga_module.specs.ModuleJudgement.{points_of_global}
use Rattle.check_faults.specs.declared.module.ModuleFault.TheVariants as fault
use Rattle.naga_module.proofs.Modules.{item_stops, item_passes}
use Rattle.naga_module.proofs.check.globals.validate_globals.Goals as goal

pub loop-index-init : goal.loop-index-init
loop-index-init g c = refl

pub returns-in-Err-clause-refused : goal.returns-in-Err-clause-refused
returns-in-Err-clause-refused g c =
    let v = c.args.validator.now in
    let m = c.args.module.now in
    let infos = c.args.infos.now in
    let below = g.B.Below.meaning v.below in
    let points = points_of_global below v.settings v.types m infos in
    let i = c.loop-index.index in
    let x = c.index-var.result.now in
    let error = c.in-Err.error in
    let lt = rw c.len-count.ensures.len at c.loop-index-test.true in
    let is = subst (λ h. slice_get m.global_variables h ≡ Some x) c.new-handle.ensures c.index-var.ensures in
    let known = c.in_ok-kinds.ensures ∙ ap (λ (b : g.row.B.Denot). (g.B.Below.meaning b).kinds_of m.global_expressions) c.below.ensures in
    let own = subst (λ k. Some error ≡ first_fault (module_global_points below v.settings v.types m infos k x)) known c.in-Err.ensures in
    let here = first_within (fault.Global i) (module_global_points below v.settings v.types m infos (below.kinds_of m.global_expressions) x) ∙ ap (option_map (fault.Global i)) (sym own) in
    let told = item_stops points m.global_variables i x lt (sym (get_or_from_slice_get m.global_variables i x x is)) c.loop-index.invariant (fault.Global i error) here in
    inr (subst (λ h. answer (first_fault (points_of_each points m.global_variables)) tt ≡ Err (fault.Global h error)) (sym c.new-handle.ensures) (ap (λ o. answer o tt) (sym told)))

pub loop-index-preserved : goal.loop-index-preserved
loop-index-preserved g c =
    let v = c.args.validator.now in
    let m = c.args.module.now in
    let infos = c.args.infos.now in
    let below = g.B.Below.meaning v.below in
    let points = points_of_global below v.settings v.types m infos in
    let i = c.loop-index.index in
    let x = c.index-var.result.now in
    let lt = rw c.len-count.ensures.len at c.loop-index-test.true in
    let is = subst (λ h. slice_get m.global_variables h ≡ Some x) c.new-handle.ensures c.index-var.ensures in
    let known = c.in_ok-kinds.ensures ∙ ap (λ (b : g.row.B.Denot). (g.B.Below.meaning b).kinds_of m.global_expressions) c.below.ensures in
    let own = subst (λ k. None ≡ first_fault (module_global_points below v.settings v.types m infos k x)) known c.in-Ok.ensures in
    let here = first_within (fault.Global i) (module_global_points below v.settings v.types m infos (below.kinds_of m.global_expressions) x) ∙ ap (option_map (fault.Global i)) (sym own) in
    item_passes points m.global_variables i x lt (sym (get_or_from_slice_get m.global_variables i x x is)) c.loop-index.invariant here

use Rattle.std.proofs.Common.{ap, ◌∙◌}
use Rattle.ir_arena.specs.Points.{first_fault}
use Rattle.naga_module.specs.Misfits.{module_points, AllFits}
use Rattle.naga_module.proofs.Misfits.{module_exact, none_exactly, some_where}
use Rattle.naga_module.proofs.NotFit.{all_fits_is_other}
use Rattle.naga_module.proofs.misfit.find_misfit.Goals as goal

pub returns-clause-exact : goal.returns-clause-exact
returns-clause-exact g c =
    let below = g.B.Below.meaning c.args.below.now in
    let m = c.args.module.now in
    let types = c.args.given.now.types.items in
    let global_types = c.args.given.now.global_types.items in
    let points = module_points below types m global_types in
    let fits = AllFits below types m global_types in
    let one = ap (λ ts. first_fault (module_points below ts m c.as_slice-global_types.result.now)) c.as_slice-types.ensures.value in
    let other = ap (λ gs. first_fault (module_points below types m gs)) c.as_slice-global_types.ensures.value in
    let told = c.err.ensures.value ∙ c.check_all_fit.ensures ∙ one ∙ other in
    none_exactly c.err.result points fits told (module_exact below types m global_types)

pub returns-clause-reported : goal.returns-clause-reported
returns-clause-reported g c = λ settings judged.
    let below = g.B.Below.meaning c.args.below.now in
    let m = c.args.module.now in
    let types = c.args.given.now.types.items in
    let global_types = c.args.given.now.global_types.items in
    let points = module_points below types m global_types in
    let fits = AllFits below types m global_types in
    let one = ap (λ ts. first_fault (module_points below ts m c.as_slice-global_types.result.now)) c.as_slice-types.ensures.value in
    let other = ap (λ gs. first_fault (module_points below types m gs)) c.as_slice-global_types.ensures.value in
    let told = c.err.ensures.value ∙ c.check_all_fit.ensures ∙ one ∙ other in
    some_where c.err.result points fits told (module_exact below types m global_types)
    (λ all. all_fits_is_other below settings types m global_types all judged)

use Rattle.std.proofs.Common.{rules, Ok, inr, refl}
use Rattle.naga_module.specs.ModuleJudgement.{IsJudgement}
use Rattle.naga_module.proofs.ModuleInfos.{module_is_judged}
use Rattle.naga_module.proofs.ModuleLaw.{module_holds, module_fills_once, module_binds_apart}
use Rattle.naga_module.proofs.ModuleSteps.{entry_points_stop, module_judged, sizes_unknown}
use Rattle.naga_module.proofs.check.check_module.Given as given
use Rattle.naga_module.proofs.check.check_module.Goals as goal

pub returns-then-not-has_payload_sizes-clause-judged : goal.returns-then-not-has_payload_sizes-clause-judged
returns-then-not-has_payload_sizes-clause-judged g c =
    let unknown : _ → ⊥ = λ known. let held = c.if-not-has_payload_sizes.ensures.1 known in cc in
    inr (sizes_unknown g.B.Below.meaning c.args.module.now c.args.below c.args.settings c.args.given.types.items c.args.given.global_types.items _ c.validator_with-validator.ensures _ c.first_infos-infos.ensures (c.if-not-fits.ensures.0 refl) c.in_ok-validate_globals.ensures.judged _ c.in_ok-validate_functions.ensures.kept _ c.in_ok-validate_functions.ensures.judged unknown)

pub returns-in_err-validate_entry_points-clause-judged : goal.returns-in_err-validate_entry_points-clause-judged
returns-in_err-validate_entry_points-clause-judged g c =
    let judged = entry_points_stop g.B.Below.meaning c.args.module.now c.args.below c.args.settings c.args.given.types.items c.args.given.global_types.items _ c.validator_with-validator.ensures _ c.first_infos-infos.ensures (c.if-not-fits.ensures.0 refl) c.in_ok-validate_globals.ensures.judged _ c.in_ok-validate_functions.ensures.kept _ c.in_ok-validate_functions.ensures.judged (c.if-not-has_payload_sizes.ensures.0 refl) c.in_err-validate_entry_points.field-0.0 c.in_err-validate_entry_points.ensures.refused in
    search (rules, judged)

-- the judgement of an accepted module
accepted : (g : given.Over) (c : goal.Joined-validator-12 g)
    → IsJudgement (g.B.Below.meaning c.args.below) c.args.settings c.args.given.types.items c.args.module.now c.args.given.global_types.items (Ok c.validate_entry_points.new.infos)
accepted g c =
    module_judged g.B.Below.meaning c.args.module.now c.args.below c.args.settings c.args.given.types.items c.args.given.global_types.items _ c.validator_with-validator.ensures _ c.first_infos-infos.ensures (c.if-not-fits.ensures.0 refl) c.in_ok-validate_globals.ensures.judged _ c.in_ok-validate_functions.ensures.kept _ c.in_ok-validate_functions.ensures.judged (c.if-not-has_payload_sizes.ensures.0 refl) c.validate_entry_points.new.infos c.in_ok-validate_entry_points.ensures.judged

pub returns-clause-judged : goal.returns-clause-judged
returns-clause-judged g c = inr (accepted g c)

pub returns-clause-infos : goal.returns-clause-infos
returns-clause-infos g c =
    module_is_judged (g.B.Below.meaning c.args.below) c.args.settings c.args.given.types.items c.args.given.global_types.items c.args.module.now c.validate_entry_points.new.infos (accepted g c)

pub returns-clause-holds : goal.returns-clause-holds
returns-clause-holds g c =
    module_holds (g.B.Below.meaning c.args.below) c.args.settings c.args.given.types.items c.args.given.global_types.items c.args.module.now c.validate_entry_points.new.infos (accepted g c)

pub returns-clause-filled : goal.returns-clause-filled
returns-clause-filled g c =
    module_fills_once (g.B.Below.meaning c.args.below) c.args.settings c.args.given.types.items c.args.given.global_types.items c.args.module.now c.validate_entry_points.new.infos (accepted g c)

pub returns-clause-bindings : goal.returns-clause-bindings
returns-clause-bindings g c =
    module_binds_apart (g.B.Below.meaning c.args.below) c.args.settings c.args.given.types.items c.args.given.global_types.items c.args.module.now c.validate_entry_points.new.infos (accepted g c)

use Rattle.naga_module.proofs.ModuleInfos.{module_is_judged}
use Rattle.naga_module.proofs.ModuleLaw.{module_holds, module_fills_once, module_binds_apart}
use Rattle.naga_module.proofs.OneJudgement.{one_judgement}
use Rattle.naga_module.proofs.OnlyFunctions.{functions_alone_are_reported}
use Rattle.naga_module.proofs.laws.module_law.Goals as goal

pub returns-clause-infos : goal.returns-clause-infos
returns-clause-infos c = module_is_judged

pub returns-clause-holds : goal.returns-clause-holds
returns-clause-holds c = module_holds

pub returns-clause-filled : goal.returns-clause-filled
returns-clause-filled c = module_fills_once

pub returns-clause-bindings : goal.returns-clause-bindings
returns-clause-bindings c = module_binds_apart

pub returns-clause-one : goal.returns-clause-one
returns-clause-one c = one_judgement

pub returns-clause-reported : goal.returns-clause-reported
returns-clause-reported c = functions_alone_are_reported

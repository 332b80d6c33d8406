use Rattle.case_reply.specs.CaseJudgement.{settings_of}
use Rattle.case_notation.specs.Case.{case_of}
use Rattle.case_reply.proofs.Benches.{reported_of_bench}
use Rattle.case_reply.proofs.Cases.{judged_as}
use Rattle.naga_module.proofs.OnlyFunctions.{functions_alone_are_reported}
use Rattle.case_reply.proofs.judge.judge.Goals as goal

pub returns-clause-judged : goal.returns-clause-judged
returns-clause-judged c =
    judged_as c.args.case c.in_ok-module.module c.check_module.result c.requires.block c.in_ok-module.ensures
    (rw (c.without_mesh_shaders.ensures, c.settings_of-settings.ensures, c.in_ok-given.ensures.0, c.in_ok-given.ensures.1) at c.check_module.ensures.judged)

pub returns-clause-reported : goal.returns-clause-reported
returns-clause-reported c =
    reported_of_bench functions_alone_are_reported (settings_of (case_of c.args.case)) c.args.case.bench c.args.case.body c.requires.sayable c.check_module.result
    (rw (c.without_mesh_shaders.ensures, c.settings_of-settings.ensures, c.in_ok-given.ensures.0, c.in_ok-given.ensures.1, c.in_ok-module.ensures) at c.check_module.ensures.judged)

use Rattle.std.proofs.Common.{rules}
use Rattle.ir_arena.specs.Points.{within}
use Rattle.check_entry.specs.EntryFaults.{fault_of}
use Rattle.check_entry.specs.InterfacePoints.{used_points}
use Rattle.check_entry.specs.EntryUses.{payload_points, with_own_uses}
use Rattle.ir_facts.proofs.Refusals.{refuses_first, stays_refused}
use Rattle.ir_facts.specs.Answers.{read_by}
use Rattle.naga_valid.proofs.validator.Validator.judge_interface.Goals as goal

pub returns-in_err-check_payload-clause-fault : goal.returns-in_err-check_payload-clause-fault
returns-in_err-check_payload-clause-fault g c =
    let below = g.B.Below.meaning c.args.self.now.below in
    let settings = c.args.self.now.settings in
    let infos = c.args.self.now.types in
    let program = c.args.program.now in
    let ep = c.args.entry_point.now in
    refuses_first (read_by fault_of c.from_residual.result) (within fault_of (payload_points program.global_variables ep.stage ep.task_payload))
    (used_points below settings infos program ep (with_own_uses ep c.args.info.now)) (stays_refused fault_of c.from_residual.result (search rules)) (search (rules, c.check_payload.ensures))

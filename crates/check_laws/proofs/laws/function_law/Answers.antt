use Rattle.check_laws.proofs.FunctionLaw.{is_sound, fills_once, is_of_all_stages, has_no_return_in_continuing, has_whole_switches, keeps_info, has_every_mask, stages_are_met}
use Rattle.check_laws.proofs.FunctionRefusals.{refused_use_is_witnessed, refused_jump_is_stuck}
use Rattle.check_laws.proofs.laws.function_law.Goals as goal

pub returns-clause-sound : goal.returns-clause-sound
returns-clause-sound c = is_sound

pub returns-clause-filled : goal.returns-clause-filled
returns-clause-filled c = fills_once

pub returns-clause-stages : goal.returns-clause-stages
returns-clause-stages c = is_of_all_stages

pub returns-clause-returns : goal.returns-clause-returns
returns-clause-returns c = has_no_return_in_continuing

pub returns-clause-switches : goal.returns-clause-switches
returns-clause-switches c = has_whole_switches

pub returns-clause-info : goal.returns-clause-info
returns-clause-info c = keeps_info

pub returns-clause-masks : goal.returns-clause-masks
returns-clause-masks c = has_every_mask

pub returns-clause-met : goal.returns-clause-met
returns-clause-met c = stages_are_met

pub returns-clause-witnessed : goal.returns-clause-witnessed
returns-clause-witnessed c = refused_use_is_witnessed

pub returns-clause-stuck : goal.returns-clause-stuck
returns-clause-stuck c = refused_jump_is_stuck

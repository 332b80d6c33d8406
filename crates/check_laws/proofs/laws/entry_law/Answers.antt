use Rattle.check_laws.proofs.EntryBodies.{entry_fills_once, entry_is_of_all_stages, entry_has_no_return_in_continuing, entry_has_whole_switches}
use Rattle.check_laws.proofs.EntryBuiltIns.{accepted_built_ins}
use Rattle.check_laws.proofs.EntryChains.{entry_is_sound, entry_keeps_its_stage}
use Rattle.check_laws.proofs.EntryGroups.{accepted_locations}
use Rattle.check_laws.proofs.EntryFacts.{accepted_bindings, accepted_position, accepted_function}
use Rattle.check_laws.proofs.laws.entry_law.Goals as goal

pub returns-clause-function : goal.returns-clause-function
returns-clause-function c = accepted_function

pub returns-clause-bindings : goal.returns-clause-bindings
returns-clause-bindings c = accepted_bindings

pub returns-clause-position : goal.returns-clause-position
returns-clause-position c = accepted_position

pub returns-clause-locations : goal.returns-clause-locations
returns-clause-locations c = accepted_locations

pub returns-clause-built_ins : goal.returns-clause-built_ins
returns-clause-built_ins c = accepted_built_ins

pub returns-clause-sound : goal.returns-clause-sound
returns-clause-sound c = entry_is_sound

pub returns-clause-filled : goal.returns-clause-filled
returns-clause-filled c = entry_fills_once

pub returns-clause-stages : goal.returns-clause-stages
returns-clause-stages c = entry_is_of_all_stages

pub returns-clause-returns : goal.returns-clause-returns
returns-clause-returns c = entry_has_no_return_in_continuing

pub returns-clause-switches : goal.returns-clause-switches
returns-clause-switches c = entry_has_whole_switches

pub returns-clause-chains : goal.returns-clause-chains
returns-clause-chains c = entry_keeps_its_stage

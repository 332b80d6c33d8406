use Rattle.check_varyings.proofs.DistinctParts.{built_ins_distinct, locations_distinct}
use Rattle.check_varyings.proofs.Seeing.{leaves_the_next, points_are_by_position, sees_locations_alone}
use Rattle.check_varyings.proofs.laws.varyings_law.Goals as goal

pub returns-clause-points : goal.returns-clause-points
returns-clause-points c = points_are_by_position

pub returns-clause-next : goal.returns-clause-next
returns-clause-next c = leaves_the_next

pub returns-clause-other : goal.returns-clause-other
returns-clause-other c = sees_locations_alone

pub returns-clause-locations : goal.returns-clause-locations
returns-clause-locations c = locations_distinct

pub returns-clause-built_ins : goal.returns-clause-built_ins
returns-clause-built_ins c = built_ins_distinct

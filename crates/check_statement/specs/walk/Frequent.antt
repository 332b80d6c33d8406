-- The kinds of statements that the code judges apart from the rarer ones, and which of these hold no others. Work of lemmas.
use Rattle.std.specs.Prelude.{Bool, true, false}
use Rattle.ir_statements.specs.declared.statements.Statement as ir
use Rattle.ir_statements.specs.declared.statements.Statement.{Statement, Switch'}

-- the kinds that bodies have most, and those that nothing is checked of
abbrev pub is_frequent : Statement → Bool
is_frequent (ir.Emit range) = true
is_frequent (ir.Store pointer value) = true
is_frequent (ir.Call f arguments result) = true
is_frequent (ir.If condition accept reject) = true
is_frequent (ir.Block body) = true
is_frequent (ir.Loop body continuing break_if) = true
is_frequent ir.Kill = true
is_frequent (Switch' selector shape row) = false
is_frequent ir.Break = false
is_frequent ir.Continue = false
is_frequent (ir.Return value) = false
is_frequent (ir.ControlBarrier barrier) = false
is_frequent (ir.MemoryBarrier barrier) = false
is_frequent (ir.ImageStore image coordinate array_index value) = false
is_frequent (ir.Atomic pointer fun value result) = false
is_frequent (ir.ImageAtomic image coordinate array_index fun value) = false
is_frequent (ir.WorkGroupUniformLoad pointer result) = false
is_frequent (ir.RayQuery query fun) = false
is_frequent (ir.SubgroupBallot result predicate) = false
is_frequent (ir.SubgroupCollectiveOperation op collective_op argument result) = false
is_frequent (ir.SubgroupGather mode argument result) = false
is_frequent (ir.CooperativeStore target source) = false
is_frequent (ir.RayPipelineFunction fun) = false

-- those of them that are done with their own check list
abbrev pub is_whole : Statement → Bool
is_whole (ir.Emit range) = true
is_whole (ir.Store pointer value) = true
is_whole (ir.Call f arguments result) = true
is_whole ir.Kill = true
is_whole (ir.Block body) = false
is_whole (ir.If condition accept reject) = false
is_whole (Switch' selector shape row) = false
is_whole (ir.Loop body continuing break_if) = false
is_whole ir.Break = false
is_whole ir.Continue = false
is_whole (ir.Return value) = false
is_whole (ir.ControlBarrier barrier) = false
is_whole (ir.MemoryBarrier barrier) = false
is_whole (ir.ImageStore image coordinate array_index value) = false
is_whole (ir.Atomic pointer fun value result) = false
is_whole (ir.ImageAtomic image coordinate array_index fun value) = false
is_whole (ir.WorkGroupUniformLoad pointer result) = false
is_whole (ir.RayQuery query fun) = false
is_whole (ir.SubgroupBallot result predicate) = false
is_whole (ir.SubgroupCollectiveOperation op collective_op argument result) = false
is_whole (ir.SubgroupGather mode argument result) = false
is_whole (ir.CooperativeStore target source) = false
is_whole (ir.RayPipelineFunction fun) = false

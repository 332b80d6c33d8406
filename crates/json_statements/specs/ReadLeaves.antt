-- Statements that hold no others.
use Rattle.std.specs.Prelude.{codes, Option, option_map}
use Rattle.serde_json.specs.Data.{Data}
use Rattle.ir_statements.specs.declared.statements.Statement.{Statement}
use Rattle.json_statements.specs.declared.leaves.LeafName.{LeafName}
use Rattle.json_statements.specs.declared.leaves.LeafName.TheVariants as leaf_name
use Rattle.ir_statements.specs.declared.statements.Statement as statement
use Rattle.json_values.specs.Form.{five_fields, four_fields, list_of, made_of_five, made_of_four, made_of_three, made_of_two, one_field, optional, three_fields, two_fields}
use Rattle.json_values.specs.ReadNumbers.{u32_of}
use Rattle.json_values.specs.Sets.{barrier_of}
use Rattle.json_statements.specs.ReadOperations.{atomic_function_of, collective_operation_of, cooperative_data_of, gather_mode_of, range_of, ray_pipeline_function_of, ray_query_function_of, subgroup_operation_of}

abbrev pub return_of : Data → Option Statement
return_of d = option_map statement.Return (one_field (codes "value") (optional u32_of) d)

abbrev pub store_of : Data → Option Statement
store_of d = made_of_two statement.Store (two_fields (codes "pointer") u32_of (codes "value") u32_of d)

abbrev pub image_store_of : Data → Option Statement
image_store_of d = made_of_four statement.ImageStore
    (four_fields (codes "image") u32_of (codes "coordinate") u32_of (codes "array_index") (optional u32_of)
    (codes "value") u32_of d)

abbrev pub atomic_of : Data → Option Statement
atomic_of d = made_of_four statement.Atomic
    (four_fields (codes "pointer") u32_of (codes "fun") atomic_function_of (codes "value") u32_of
    (codes "result") (optional u32_of) d)

abbrev pub image_atomic_of : Data → Option Statement
image_atomic_of d = made_of_five statement.ImageAtomic
    (five_fields (codes "image") u32_of (codes "coordinate") u32_of (codes "array_index") (optional u32_of)
    (codes "fun") atomic_function_of (codes "value") u32_of d)

abbrev pub work_group_uniform_load_of : Data → Option Statement
work_group_uniform_load_of d = made_of_two statement.WorkGroupUniformLoad
    (two_fields (codes "pointer") u32_of (codes "result") u32_of d)

abbrev pub call_of : Data → Option Statement
call_of d = made_of_three statement.Call
    (three_fields (codes "function") u32_of (codes "arguments") (list_of u32_of) (codes "result") (optional u32_of) d)

abbrev pub ray_query_statement_of : Data → Option Statement
ray_query_statement_of d = made_of_two statement.RayQuery
    (two_fields (codes "query") u32_of (codes "fun") ray_query_function_of d)

abbrev pub subgroup_ballot_of : Data → Option Statement
subgroup_ballot_of d = made_of_two statement.SubgroupBallot
    (two_fields (codes "result") u32_of (codes "predicate") (optional u32_of) d)

abbrev pub subgroup_collective_operation_of : Data → Option Statement
subgroup_collective_operation_of d = made_of_four statement.SubgroupCollectiveOperation
    (four_fields (codes "op") subgroup_operation_of (codes "collective_op") collective_operation_of
    (codes "argument") u32_of (codes "result") u32_of d)

abbrev pub subgroup_gather_of : Data → Option Statement
subgroup_gather_of d = made_of_three statement.SubgroupGather
    (three_fields (codes "mode") gather_mode_of (codes "argument") u32_of (codes "result") u32_of d)

abbrev pub cooperative_store_of : Data → Option Statement
cooperative_store_of d = made_of_two statement.CooperativeStore
    (two_fields (codes "target") u32_of (codes "source") cooperative_data_of d)

-- the statement of a kind, by what it holds
abbrev pub leaf_from : LeafName → Data → Option Statement
leaf_from leaf_name.Emit d = option_map statement.Emit (range_of d)
leaf_from leaf_name.Return d = return_of d
leaf_from leaf_name.ControlBarrier d = option_map statement.ControlBarrier (barrier_of d)
leaf_from leaf_name.MemoryBarrier d = option_map statement.MemoryBarrier (barrier_of d)
leaf_from leaf_name.Store d = store_of d
leaf_from leaf_name.ImageStore d = image_store_of d
leaf_from leaf_name.Atomic d = atomic_of d
leaf_from leaf_name.ImageAtomic d = image_atomic_of d
leaf_from leaf_name.WorkGroupUniformLoad d = work_group_uniform_load_of d
leaf_from leaf_name.Call d = call_of d
leaf_from leaf_name.RayQuery d = ray_query_statement_of d
leaf_from leaf_name.SubgroupBallot d = subgroup_ballot_of d
leaf_from leaf_name.SubgroupCollectiveOperation d = subgroup_collective_operation_of d
leaf_from leaf_name.SubgroupGather d = subgroup_gather_of d
leaf_from leaf_name.CooperativeStore d = cooperative_store_of d
leaf_from leaf_name.RayPipelineFunction d = option_map statement.RayPipelineFunction (ray_pipeline_function_of d)

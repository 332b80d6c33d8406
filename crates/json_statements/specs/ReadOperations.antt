-- Operations of atomics, subgroups and rays, and what else statements name.
use Rattle.std.specs.Prelude.{ℕ, List, [], ◌∷◌, codes, Option, option_map, ⊤}
use Rattle.serde_json.specs.Data.{Data}
use Rattle.ir_statements.specs.declared.operations.AtomicFunction.{AtomicFunction}
use Rattle.ir_statements.specs.declared.operations.AtomicFunction.TheVariants as atomic_function
use Rattle.ir_statements.specs.declared.operations.SubgroupOperation.{SubgroupOperation}
use Rattle.ir_statements.specs.declared.operations.SubgroupOperation.TheVariants as subgroup_operation
use Rattle.ir_statements.specs.declared.operations.CollectiveOperation.{CollectiveOperation}
use Rattle.ir_statements.specs.declared.operations.CollectiveOperation.TheVariants as collective_operation
use Rattle.ir_statements.specs.declared.operations.GatherMode.{GatherMode}
use Rattle.ir_statements.specs.declared.operations.GatherMode.TheVariants as gather_mode
use Rattle.json_statements.specs.declared.operations.GatherName.{GatherName}
use Rattle.json_statements.specs.declared.operations.GatherName.TheVariants as gather_name
use Rattle.ir_statements.specs.declared.operations.RayQueryFunction.{RayQueryFunction}
use Rattle.ir_statements.specs.declared.operations.RayQueryFunction.TheVariants as ray_query_function
use Rattle.json_statements.specs.declared.operations.GatherPlace.{GatherPlace}
use Rattle.json_statements.specs.declared.operations.GatherPlace.TheVariants as gather_place
use Rattle.json_statements.specs.declared.operations.RayQueryName.{RayQueryName}
use Rattle.json_statements.specs.declared.operations.RayQueryName.TheVariants as ray_query_name
use Rattle.ir_statements.specs.declared.operations.RayPipelineFunction.{RayPipelineFunction}
use Rattle.ir_statements.specs.declared.operations.RayPipelineFunction.TheVariants as ray_pipeline_function
use Rattle.ir_statements.specs.declared.operations.CooperativeData.{CooperativeData}
use Rattle.ir_statements.specs.declared.operations.SwitchValue.{SwitchValue}
use Rattle.ir_statements.specs.declared.operations.SwitchValue.TheVariants as switch_value
use Rattle.json_statements.specs.declared.operations.ValueName.{ValueName}
use Rattle.json_statements.specs.declared.operations.ValueName.TheVariants as value_name
use Rattle.ir_arena.specs.declared.range.Range.{Range}
use Rattle.json_values.specs.Form.{given, made_of_three, made_of_two, named, one_field, optional, three_fields, two_fields}
use Rattle.json_values.specs.ReadNumbers.{i32_of, u32_of}
use Rattle.json_values.specs.Variants.{variant_of, either}

-- the atomic operations of which no more is said
abbrev pub atomic_functions : List (List ℕ × AtomicFunction)
atomic_functions =
    (codes "Add", atomic_function.Add) ∷ (codes "Subtract", atomic_function.Subtract) ∷
    (codes "And", atomic_function.And) ∷ (codes "ExclusiveOr", atomic_function.ExclusiveOr) ∷
    (codes "InclusiveOr", atomic_function.InclusiveOr) ∷ (codes "Min", atomic_function.Min) ∷
    (codes "Max", atomic_function.Max) ∷ []

-- the exchange, which may compare
abbrev pub exchange : List (List ℕ × ⊤)
exchange = (codes "Exchange", tt) ∷ []

-- what a variant that holds something stands for
abbrev pub atomic_function_from : ⊤ → Data → Option AtomicFunction
atomic_function_from x d = option_map atomic_function.Exchange
    (one_field (codes "compare") (optional u32_of) d)

abbrev pub atomic_function_of : Data → Option AtomicFunction
atomic_function_of d = given (variant_of atomic_functions exchange d) (either atomic_function_from)

-- the operations of subgroups
abbrev pub subgroup_operations : List (List ℕ × SubgroupOperation)
subgroup_operations =
    (codes "All", subgroup_operation.All) ∷ (codes "Any", subgroup_operation.Any) ∷
    (codes "Add", subgroup_operation.Add) ∷ (codes "Mul", subgroup_operation.Mul) ∷
    (codes "Min", subgroup_operation.Min) ∷ (codes "Max", subgroup_operation.Max) ∷
    (codes "And", subgroup_operation.And) ∷ (codes "Or", subgroup_operation.Or) ∷
    (codes "Xor", subgroup_operation.Xor) ∷ []

abbrev pub subgroup_operation_of : Data → Option SubgroupOperation
subgroup_operation_of = named subgroup_operations

-- over which invocations an operation goes
abbrev pub collective_operations : List (List ℕ × CollectiveOperation)
collective_operations =
    (codes "Reduce", collective_operation.Reduce) ∷ (codes "InclusiveScan", collective_operation.InclusiveScan) ∷
    (codes "ExclusiveScan", collective_operation.ExclusiveScan) ∷ []

abbrev pub collective_operation_of : Data → Option CollectiveOperation
collective_operation_of = named collective_operations

-- the gather of which no more is said
abbrev pub bare_gathers : List (List ℕ × GatherMode)
bare_gathers =
    (codes "BroadcastFirst", gather_mode.BroadcastFirst) ∷ []

-- the gathers of which more is said
abbrev pub gather_modes : List (List ℕ × GatherName)
gather_modes =
    (codes "QuadSwap", gather_name.QuadSwap) ∷ (codes "Broadcast", gather_name.From gather_place.Broadcast) ∷
    (codes "Shuffle", gather_name.From gather_place.Shuffle) ∷
    (codes "ShuffleDown", gather_name.From gather_place.ShuffleDown) ∷
    (codes "ShuffleUp", gather_name.From gather_place.ShuffleUp) ∷
    (codes "ShuffleXor", gather_name.From gather_place.ShuffleXor) ∷
    (codes "QuadBroadcast", gather_name.From gather_place.QuadBroadcast) ∷ []

-- the gather of a place, which an expression says
abbrev pub gather_from : GatherPlace → ℕ → GatherMode
gather_from gather_place.Broadcast n = gather_mode.Broadcast n
gather_from gather_place.Shuffle n = gather_mode.Shuffle n
gather_from gather_place.ShuffleDown n = gather_mode.ShuffleDown n
gather_from gather_place.ShuffleUp n = gather_mode.ShuffleUp n
gather_from gather_place.ShuffleXor n = gather_mode.ShuffleXor n
gather_from gather_place.QuadBroadcast n = gather_mode.QuadBroadcast n

-- what a variant that holds something stands for
abbrev pub gather_mode_from : GatherName → Data → Option GatherMode
gather_mode_from gather_name.QuadSwap d = option_map gather_mode.QuadSwap (u32_of d)
gather_mode_from (gather_name.From place) d = option_map (gather_from place) (u32_of d)

abbrev pub gather_mode_of : Data → Option GatherMode
gather_mode_of d = given (variant_of bare_gathers gather_modes d) (either gather_mode_from)

-- what is done with a ray query, and needs nothing
abbrev pub bare_queries : List (List ℕ × RayQueryFunction)
bare_queries =
    (codes "ConfirmIntersection", ray_query_function.ConfirmIntersection) ∷
    (codes "Terminate", ray_query_function.Terminate) ∷ []

-- what is done with a ray query by expressions
abbrev pub ray_queries : List (List ℕ × RayQueryName)
ray_queries =
    (codes "Initialize", ray_query_name.Initialize) ∷ (codes "Proceed", ray_query_name.Proceed) ∷
    (codes "GenerateIntersection", ray_query_name.GenerateIntersection) ∷ []

-- what a variant that holds something stands for
abbrev pub ray_query_function_from : RayQueryName → Data → Option RayQueryFunction
ray_query_function_from ray_query_name.Initialize d = made_of_two ray_query_function.Initialize
    (two_fields (codes "acceleration_structure") u32_of (codes "descriptor") u32_of d)
ray_query_function_from ray_query_name.Proceed d = option_map ray_query_function.Proceed
    (one_field (codes "result") u32_of d)
ray_query_function_from ray_query_name.GenerateIntersection d = option_map
    ray_query_function.GenerateIntersection
    (one_field (codes "hit_t") u32_of d)

abbrev pub ray_query_function_of : Data → Option RayQueryFunction
ray_query_function_of d = given (variant_of bare_queries ray_queries d) (either ray_query_function_from)

-- what a ray pipeline does
abbrev pub ray_pipelines : List (List ℕ × ⊤)
ray_pipelines = (codes "TraceRay", tt) ∷ []

-- what a variant that holds something stands for
abbrev pub ray_pipeline_function_from : ⊤ → Data → Option RayPipelineFunction
ray_pipeline_function_from x d = made_of_three ray_pipeline_function.TraceRay
    (three_fields (codes "acceleration_structure") u32_of (codes "descriptor") u32_of (codes "payload") u32_of d)

abbrev pub ray_pipeline_function_of : Data → Option RayPipelineFunction
ray_pipeline_function_of d = given (variant_of [] ray_pipelines d) (either ray_pipeline_function_from)

-- where the data of a cooperative matrix lie
abbrev pub cooperative_data_of : Data → Option CooperativeData
cooperative_data_of d = made_of_two (λ pointer detail. record { pointer = pointer; detail = detail })
    (two_fields (codes "pointer") u32_of (codes "detail") u32_of d)

-- the value of a default case
abbrev pub bare_values : List (List ℕ × SwitchValue)
bare_values =
    (codes "Default", switch_value.Default) ∷ []

-- the values of the other cases
abbrev pub switch_values : List (List ℕ × ValueName)
switch_values =
    (codes "I32", value_name.I32) ∷ (codes "U32", value_name.U32) ∷ []

-- what a variant that holds something stands for
abbrev pub switch_value_from : ValueName → Data → Option SwitchValue
switch_value_from value_name.I32 d = option_map switch_value.I32 (i32_of d)
switch_value_from value_name.U32 d = option_map switch_value.U32 (u32_of d)

abbrev pub switch_value_of : Data → Option SwitchValue
switch_value_of d = given (variant_of bare_values switch_values d) (either switch_value_from)

-- the expressions from `start` on, without `end`
abbrev pub range_of : Data → Option Range
range_of d = made_of_two (λ start end. record { start = start; end = end })
    (two_fields (codes "start") u32_of (codes "end") u32_of d)

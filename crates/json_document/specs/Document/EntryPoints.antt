-- Global variables, and entry points.
use Rattle.std.specs.Prelude.{ℕ, List, [], ◌∷◌, codes, Option, option_map}
use Rattle.serde_json.specs.Data.{Data}
use Rattle.ir_leaves.specs.declared.stage.ShaderStage.{ShaderStage}
use Rattle.ir_leaves.specs.declared.stage.ShaderStage.TheVariants as shader_stage
use Rattle.ir_module.specs.declared.module.MeshOutputTopology.{MeshOutputTopology}
use Rattle.ir_module.specs.declared.module.MeshOutputTopology.TheVariants as mesh_output_topology
use Rattle.ir_module.specs.declared.module.MeshStageInfo.{MeshStageInfo}
use Rattle.ir_module.specs.declared.module.Constant.{Constant}
use Rattle.ir_module.specs.declared.module.Override.{Override}
use Rattle.ir_module.specs.declared.module.SpecialTypes.{SpecialTypes}
use Rattle.ir_module.specs.declared.module.GlobalVariable.{GlobalVariable}
use Rattle.ir_module.specs.declared.module.ResourceBinding.{ResourceBinding}
use Rattle.ir_module.specs.declared.module.EarlyDepthTest.{EarlyDepthTest}
use Rattle.ir_module.specs.declared.module.EntryPoint.{EntryPoint}
use Rattle.json_values.specs.Form.{eight_fields, five_fields, made_of_eight, made_of_five, made_of_six, made_of_two, named, one_field, optional, six_fields, three_of, two_fields}
use Rattle.json_values.specs.ReadNumbers.{u32_of}
use Rattle.json_values.specs.Sets.{memory_decorations_of}
use Rattle.json_document.specs.Document.Functions.{function_of}
use Rattle.json_types.specs.ReadSpaces.{address_space_of}

-- the stages
abbrev pub shader_stages : List (List ℕ × ShaderStage)
shader_stages =
    (codes "Vertex", shader_stage.Vertex) ∷ (codes "Fragment", shader_stage.Fragment) ∷
    (codes "Compute", shader_stage.Compute) ∷ (codes "Mesh", shader_stage.Mesh) ∷
    (codes "Task", shader_stage.Task) ∷ (codes "RayGeneration", shader_stage.RayGeneration) ∷
    (codes "AnyHit", shader_stage.AnyHit) ∷ (codes "ClosestHit", shader_stage.ClosestHit) ∷
    (codes "Miss", shader_stage.Miss) ∷ []

abbrev pub shader_stage_of : Data → Option ShaderStage
shader_stage_of = named shader_stages

-- what the primitives of a mesh are
abbrev pub mesh_output_topologies : List (List ℕ × MeshOutputTopology)
mesh_output_topologies =
    (codes "Points", mesh_output_topology.Points) ∷ (codes "Lines", mesh_output_topology.Lines) ∷
    (codes "Triangles", mesh_output_topology.Triangles) ∷ []

abbrev pub mesh_output_topology_of : Data → Option MeshOutputTopology
mesh_output_topology_of = named mesh_output_topologies

-- what a mesh entry point puts out
abbrev pub mesh_stage_info_of : Data → Option MeshStageInfo
mesh_stage_info_of d = made_of_eight
    (λ topology max_vertices max_vertices_override max_primitives max_primitives_override vertex_output_type primitive_output_type output_variable. record {
      topology = topology;
      max_vertices = max_vertices;
      max_vertices_override = max_vertices_override;
      max_primitives = max_primitives;
      max_primitives_override = max_primitives_override;
      vertex_output_type = vertex_output_type;
      primitive_output_type = primitive_output_type;
      output_variable = output_variable;
    })
    (eight_fields (codes "topology") mesh_output_topology_of (codes "max_vertices") u32_of
    (codes "max_vertices_override") (optional u32_of) (codes "max_primitives") u32_of
    (codes "max_primitives_override") (optional u32_of) (codes "vertex_output_type") u32_of
    (codes "primitive_output_type") u32_of (codes "output_variable") u32_of d)

-- a constant
abbrev pub constant_of : Data → Option Constant
constant_of d = option_map (λ ty. record { ty = ty }) (one_field (codes "ty") u32_of d)

-- an override
abbrev pub override_of : Data → Option Override
override_of d = option_map (λ ty. record { ty = ty }) (one_field (codes "ty") u32_of d)

-- types that a module needs although no other type names them
abbrev pub special_types_of : Data → Option SpecialTypes
special_types_of d = option_map (λ ray_desc. record { ray_desc = ray_desc })
    (one_field (codes "ray_desc") (optional u32_of) d)

-- where a resource is bound
abbrev pub resource_binding_of : Data → Option ResourceBinding
resource_binding_of d = made_of_two (λ group binding. record { group = group; binding = binding })
    (two_fields (codes "group") u32_of (codes "binding") u32_of d)

-- a global variable
abbrev pub global_variable_of : Data → Option GlobalVariable
global_variable_of d = made_of_five
    (λ space binding ty init memory_decorations. record {
      space = space;
      binding = binding;
      ty = ty;
      init = init;
      memory_decorations = memory_decorations;
    })
    (five_fields (codes "space") address_space_of (codes "binding") (optional resource_binding_of) (codes "ty") u32_of
    (codes "init") (optional u32_of) (codes "memory_decorations") memory_decorations_of d)

-- the request to test depth early
abbrev pub early_depth_test_of : Data → Option EarlyDepthTest
early_depth_test_of d = option_map (λ n. record { 0 = n }) (u32_of d)

-- the size of a work group, along three dimensions
abbrev pub size_from : ℕ × ℕ × ℕ → List ℕ
size_from size = size.0 ∷ size.1 ∷ size.2 ∷ []

-- an entry point
abbrev pub entry_point_of : Data → Option EntryPoint
entry_point_of d = made_of_six
    (λ stage early_depth_test size function mesh_info task_payload. record {
      stage = stage;
      early_depth_test = early_depth_test;
      workgroup_size = size_from size;
      function = function;
      mesh_info = mesh_info;
      task_payload = task_payload;
    })
    (six_fields (codes "stage") shader_stage_of (codes "early_depth_test") (optional early_depth_test_of)
    (codes "workgroup_size") (three_of u32_of u32_of u32_of) (codes "function") function_of
    (codes "mesh_info") (optional mesh_stage_info_of) (codes "task_payload") (optional u32_of) d)

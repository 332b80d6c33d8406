-- What the type of a mesh shader's output variable implies: a struct of two numbers, an array of vertices, one of primitives.
use Rattle.std.specs.Prelude.{ℕ, Bool, true, false, not, ◌&&◌, ◌||◌, List, [], ◌∷◌, Option, None, Some, is_some, is_none, slice_get, if◌then◌else◌, option_and_then}
use Rattle.ir_module.specs.declared.module.MeshOutputTopology.{MeshOutputTopology}
use Rattle.ir_module.specs.declared.module.MeshOutputTopology.TheVariants.{Points, Lines, Triangles}
use Rattle.ir_module.specs.declared.module.MeshStageInfo.{MeshStageInfo}
use Rattle.ir_module.specs.declared.module.Module.{Module}
use Rattle.ir_types.specs.Types.{inner_at}
use Rattle.ir_leaves.specs.declared.built_in.BuiltIn.{BuiltIn}
use Rattle.ir_leaves.specs.declared.built_in.BuiltIn.TheVariants as built_in
use Rattle.ir_types.specs.declared.types.ArraySize.{ArraySize}
use Rattle.ir_types.specs.declared.types.ArraySize.TheVariants as size
use Rattle.ir_leaves.specs.declared.bindings.Binding.{Binding}
use Rattle.ir_leaves.specs.declared.bindings.Binding.TheVariants as binding
use Rattle.ir_leaves.specs.declared.scalars.ScalarKind.TheVariants.{Uint}
use Rattle.ir_types.specs.declared.types.StructMember.{StructMember}
use Rattle.ir_types.specs.declared.types.Type.{«Type» as IrType}
use Rattle.ir_types.specs.declared.types.TypeInner.{TypeInner}
use Rattle.ir_types.specs.declared.types.TypeInner.TheVariants as inner
use Rattle.ir_facts.specs.declared.proc.mesh.MeshAnalysis.{MeshAnalysis}
use Rattle.ir_errors.specs.declared.mesh.MeshFault.{MeshFault}
use Rattle.ir_errors.specs.declared.mesh.MeshFault.TheVariants.{OutputType, OutputField}
use Rattle.layer_shapes.specs.Shapes.{four_bytes, is_same_scalar}
use Rattle.naga_layers.specs.declared.typed.mesh.MeshItems.{MeshItems}
use Rattle.naga_layers.specs.declared.typed.mesh.Outputs.{Outputs}
use Rattle.naga_layers.specs.declared.typed.mesh.Role.{Role}
use Rattle.naga_layers.specs.declared.typed.mesh.Role.TheVariants as role

abbrev pub no_outputs : Outputs
no_outputs = record { has_vertex_count = false; has_primitive_count = false; vertices = None; primitives = None }

-- the two numbers are u32
abbrev pub is_u32 : Option TypeInner → Bool
is_u32 (Some (inner.Scalar s)) = is_same_scalar s (four_bytes Uint)
is_u32 _ = false

-- the arrays have a constant size, or one that an override gives: then the number is 0
abbrev pub items_by : ℕ → ArraySize → Option MeshItems
items_by base (size.Constant n) = Some (record { base = base; max = n.value; max_override = None })
items_by base (size.Pending o) = Some (record { base = base; max = 0; max_override = Some o })
items_by base size.Dynamic = None

abbrev pub items_of : TypeInner → Option MeshItems
items_of (inner.Array base n stride) = items_by base n
items_of _ = None

-- what a member is, by its built-in
abbrev pub role_of : BuiltIn → Option Role
role_of built_in.VertexCount = Some role.VertexCount
role_of built_in.PrimitiveCount = Some role.PrimitiveCount
role_of built_in.Vertices = Some role.Vertices
role_of built_in.Primitives = Some role.Primitives
role_of _ = None

abbrev pub role_of_binding : Option Binding → Option Role
role_of_binding (Some (binding.BuiltIn b)) = role_of b
role_of_binding _ = None

-- each member is one of the four, of the right type, and there once
abbrev pub with_vertex_count : Outputs → Bool → Option Outputs
with_vertex_count outputs fits =
    if fits && not outputs.has_vertex_count then Some (record outputs { has_vertex_count = true }) else None

abbrev pub with_primitive_count : Outputs → Bool → Option Outputs
with_primitive_count outputs fits =
    if fits && not outputs.has_primitive_count then Some (record outputs { has_primitive_count = true }) else None

abbrev pub with_vertices : Outputs → Option MeshItems → Option Outputs
with_vertices outputs items =
    if is_some items && is_none outputs.vertices then Some (record outputs { vertices = items }) else None

abbrev pub with_primitives : Outputs → Option MeshItems → Option Outputs
with_primitives outputs items =
    if is_some items && is_none outputs.primitives then Some (record outputs { primitives = items }) else None

abbrev pub with_role : List IrType → Outputs → ℕ → Option Role → Option Outputs
with_role types outputs t None = None
with_role types outputs t (Some role.VertexCount) = with_vertex_count outputs (is_u32 (inner_at types t))
with_role types outputs t (Some role.PrimitiveCount) = with_primitive_count outputs (is_u32 (inner_at types t))
with_role types outputs t (Some role.Vertices) = with_vertices outputs (option_and_then items_of (inner_at types t))
with_role types outputs t (Some role.Primitives) = with_primitives outputs (option_and_then items_of (inner_at types t))

abbrev pub with_output : List IrType → Outputs → StructMember → Option Outputs
with_output types outputs m = with_role types outputs m.ty (role_of_binding m.binding)

unfoldable pub outputs_from : List IrType → Outputs → List StructMember → Option Outputs
outputs_from types outputs [] = Some outputs
outputs_from types outputs (m ∷ rest) = option_and_then (λ next. outputs_from types next rest) (with_output types outputs m)

-- the topology is said by a built-in of a primitive
abbrev pub topology_role : BuiltIn → Option MeshOutputTopology
topology_role built_in.PointIndex = Some Points
topology_role built_in.LineIndices = Some Lines
topology_role built_in.TriangleIndices = Some Triangles
topology_role _ = None

abbrev pub topology_of_binding : Option Binding → Option MeshOutputTopology
topology_of_binding (Some (binding.BuiltIn b)) = topology_role b
topology_of_binding _ = None

abbrev pub or_next : Option MeshOutputTopology → Option MeshOutputTopology → Option MeshOutputTopology
or_next (Some t) next = Some t
or_next None next = next

-- that of the first member which says one
unfoldable pub topology_among : List StructMember → Option MeshOutputTopology
topology_among [] = None
topology_among (m ∷ rest) = or_next (topology_of_binding m.binding) (topology_among rest)

abbrev pub topology_in : Option TypeInner → Option MeshOutputTopology
topology_in (Some (inner.Struct members span)) = topology_among members
topology_in _ = None

-- what is implied by vertices, primitives and their topology; overrides of their numbers stand beside it
abbrev pub implied_of : ℕ → MeshOutputTopology → MeshItems → MeshItems → MeshStageInfo
implied_of output topology vertices primitives =
    record {
      topology = topology;
      max_vertices = vertices.max;
      max_vertices_override = None;
      max_primitives = primitives.max;
      max_primitives_override = None;
      vertex_output_type = vertices.base;
      primitive_output_type = primitives.base;
      output_variable = output;
    }

abbrev pub right : ℕ → MeshOutputTopology → MeshItems → MeshItems → MeshAnalysis
right output topology vertices primitives =
    record {
      implied = implied_of output topology vertices primitives;
      overrides = vertices.max_override ∷ primitives.max_override ∷ [];
      fault = None;
    }

abbrev pub nothing : MeshItems
nothing = record { base = 0; max = 0; max_override = None }

-- where something is wrong nothing is implied
abbrev pub wrong : ℕ → MeshFault → MeshAnalysis
wrong output fault =
    record { implied = implied_of output Points nothing nothing; overrides = None ∷ None ∷ []; fault = Some fault }

abbrev pub analysis_by : ℕ → MeshItems → MeshItems → Option MeshOutputTopology → MeshAnalysis
analysis_by output vertices primitives None = wrong output OutputType
analysis_by output vertices primitives (Some topology) = right output topology vertices primitives

abbrev pub analysis_with : List IrType → ℕ → Option MeshItems → Option MeshItems → MeshAnalysis
analysis_with types output (Some vertices) (Some primitives) =
    analysis_by output vertices primitives (topology_in (inner_at types primitives.base))
analysis_with types output _ _ = wrong output OutputType

-- all four are there, and the primitives say a topology
abbrev pub analysis_of : List IrType → ℕ → Outputs → MeshAnalysis
analysis_of types output outputs =
    if not outputs.has_vertex_count || not outputs.has_primitive_count then wrong output OutputType
    else analysis_with types output outputs.vertices outputs.primitives

abbrev pub analysis_found : List IrType → ℕ → Option Outputs → MeshAnalysis
analysis_found types output None = wrong output OutputField
analysis_found types output (Some outputs) = analysis_of types output outputs

-- the type of the variable is such a struct
abbrev pub analysis_in : List IrType → ℕ → Option TypeInner → MeshAnalysis
analysis_in types output (Some (inner.Struct members span)) =
    analysis_found types output (outputs_from types no_outputs members)
analysis_in types output _ = wrong output OutputType

abbrev pub type_of_global : Module → ℕ → Option TypeInner
type_of_global m g = option_and_then (λ v. inner_at m.types v.ty) (slice_get m.global_variables g)

abbrev pub mesh_analysis : Module → ℕ → MeshAnalysis
mesh_analysis m output = analysis_in m.types output (type_of_global m output)

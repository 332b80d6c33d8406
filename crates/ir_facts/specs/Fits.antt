-- When the handles of a module, of a function and of an entry point are in range.
use Rattle.std.specs.Prelude.{ℕ, ◌<◌, ◌≡◌, ◌≢◌, IfSome, IsSomeAnd, List, All, ⊤, length}
use Rattle.ir_types.specs.declared.types.TypeInner.{TypeInner}
use Rattle.ir_types.specs.declared.types.TypeInner.TheVariants as inner
use Rattle.ir_types.specs.declared.types.ImageClass.TheVariants.{External}
use Rattle.ir_types.specs.declared.types.AddressSpace.TheVariants as space
use Rattle.ir_types.specs.declared.types.Type.{«Type» as IrType}
use Rattle.ir_module.specs.declared.expressions.Expression.{Expression}
use Rattle.ir_module.specs.declared.expressions.Expression.TheVariants as e
use Rattle.ir_module.specs.declared.functions.LocalVariable.{LocalVariable}
use Rattle.ir_module.specs.declared.functions.Function.{Function}
use Rattle.ir_module.specs.declared.module.GlobalVariable.{GlobalVariable}
use Rattle.ir_module.specs.declared.module.MeshStageInfo.{MeshStageInfo}
use Rattle.ir_module.specs.declared.module.EntryPoint.{EntryPoint}
use Rattle.ir_module.specs.declared.module.Module.{Module}
use Rattle.ir_facts.specs.declared.valid.info.ModuleInfo.{ModuleInfo}
use Rattle.ir_facts.specs.Each.{EachAt}
use Rattle.ir_types.specs.Types.{NamesTypesBelow, ResolutionFits, inner_at}
use Rattle.ir_module.specs.Operands.{operands_of}
use Rattle.ir_statements.specs.View.{body_of, no_operands}
use Rattle.ir_facts.specs.FitsBody.{BodyFits, CalleeFits, SignatureFits, FitsCount}

-- how many members a struct has fits 32 bits
abbrev pub MemberCountFits : TypeInner → Type 0
MemberCountFits (inner.Struct members span) = FitsCount (length members)
MemberCountFits _ = ⊤

-- the types of a module: each names only earlier ones, the number of members of each fits 32 bits, and what else
-- names a type names one of them
pub record FitsTypes (m : Module) : Type 0 where
  pub earlier : EachAt (λ k t. NamesTypesBelow k t.inner) m.types
  pub counts : All (λ t. MemberCountFits t.inner) m.types
  pub ray_desc : IfSome m.special_types.ray_desc (λ h. h < length m.types)
  pub constants : All (λ c. c.ty < length m.types) m.constants
  pub overrides : All (λ o. o.ty < length m.types) m.overrides

-- each operand of each expression is an earlier expression
abbrev pub NameEarlierExpressions : List Expression → Type 0
NameEarlierExpressions es = EachAt (λ k x. All (λ h. h < k) (operands_of x)) es

-- an external image, or a ray query
abbrev pub IsUnbindable : TypeInner → Type 0
IsUnbindable (inner.Image dim arrayed External) = ⊤
IsUnbindable (inner.RayQuery vertex_return) = ⊤
IsUnbindable _ = ⊥

-- a binding array of such types
abbrev pub IsUnbindableArray : List IrType → TypeInner → Type 0
IsUnbindableArray types (inner.BindingArray base size) = IsSomeAnd (inner_at types base) IsUnbindable
IsUnbindableArray types _ = ⊥

-- a global: its type and its initializer are there, and in space Handle it is no binding array of external images
-- or ray queries
pub record GlobalFits (m : Module) (g : GlobalVariable) : Type 0 where
  pub ty : g.ty < length m.types
  pub init : IfSome g.init (λ h. h < length m.global_expressions)
  pub bindable : g.space ≡ space.Handle → IsSomeAnd (inner_at m.types g.ty) (IsUnbindableArray m.types) → ⊥

-- the globals of a module, and the types of its global expressions
pub record FitsGlobals (m : Module) (i : ModuleInfo) : Type 0 where
  pub globals : All (GlobalFits m) m.global_variables
  pub count : length i.global_types ≡ length m.global_expressions
  pub types : All (ResolutionFits (length m.types)) i.global_types
  pub earlier : NameEarlierExpressions m.global_expressions

-- what an expression names besides its operands is there; of the number of an argument nothing is asked
abbrev pub ReferencesFit : Module → Function → Expression → Type 0
ReferencesFit m f (e.Constant h) = h < length m.constants
ReferencesFit m f (e.Override h) = h < length m.overrides
ReferencesFit m f (e.ZeroValue t) = t < length m.types
ReferencesFit m f (e.Compose t hs) = t < length m.types
ReferencesFit m f (e.GlobalVariable h) = h < length m.global_variables
ReferencesFit m f (e.LocalVariable h) = h < length f.local_variables
ReferencesFit m f (e.CallResult h) = CalleeFits m h
ReferencesFit m f (e.AtomicResult t c) = t < length m.types
ReferencesFit m f (e.WorkGroupUniformLoadResult t) = t < length m.types
ReferencesFit m f (e.SubgroupOperationResult t) = t < length m.types
ReferencesFit m f (e.Literal l) = ⊤
ReferencesFit m f (e.Access b i) = ⊤
ReferencesFit m f (e.AccessIndex b i) = ⊤
ReferencesFit m f (e.FunctionArgument i) = ⊤
ReferencesFit m f (e.Load p) = ⊤
ReferencesFit m f e.RayQueryProceedResult = ⊤
ReferencesFit m f e.SubgroupBallotResult = ⊤
ReferencesFit m f (e.Splat d hs) = ⊤
ReferencesFit m f (e.Swizzle d hs) = ⊤
ReferencesFit m f (e.ImageSample d hs) = ⊤
ReferencesFit m f (e.ImageLoad d hs) = ⊤
ReferencesFit m f (e.ImageQuery d hs) = ⊤
ReferencesFit m f (e.Unary d hs) = ⊤
ReferencesFit m f (e.Binary d hs) = ⊤
ReferencesFit m f (e.Select d hs) = ⊤
ReferencesFit m f (e.Derivative d hs) = ⊤
ReferencesFit m f (e.Relational d hs) = ⊤
ReferencesFit m f (e.Math d hs) = ⊤
ReferencesFit m f (e.As d hs) = ⊤
ReferencesFit m f (e.ArrayLength d hs) = ⊤
ReferencesFit m f (e.RayQueryGetIntersection d hs) = ⊤
ReferencesFit m f (e.RayQueryVertexPositions d hs) = ⊤
ReferencesFit m f (e.CooperativeLoad d hs) = ⊤
ReferencesFit m f (e.CooperativeMultiplyAdd d hs) = ⊤

-- a local: its type and its initializer are there
abbrev pub LocalFits : Module → Function → LocalVariable → Type 0
LocalFits m f v = (v.ty < length m.types) × IfSome v.init (λ h. h < length f.expressions)

-- a function of a module, with so many functions before it: whatever it names is there, its expressions name only
-- earlier ones, its calls name functions before it, and each function that it names has a signature that fits
pub record FitsFunction (f : Function) (m : Module) (earlier : ℕ) : Type 0 where
  pub signature : SignatureFits m f
  pub locals : All (LocalFits m f) f.local_variables
  pub operands : NameEarlierExpressions f.expressions
  pub references : All (ReferencesFit m f) f.expressions
  pub body : BodyFits m (length f.expressions) earlier (body_of no_operands f.body)

-- the types, the overrides and the variable of a mesh are there
pub record MeshFits (m : Module) (i : MeshStageInfo) : Type 0 where
  pub vertices : IfSome i.max_vertices_override (λ h. h < length m.global_expressions)
  pub primitives : IfSome i.max_primitives_override (λ h. h < length m.global_expressions)
  pub vertex_type : i.vertex_output_type < length m.types
  pub primitive_type : i.primitive_output_type < length m.types
  pub variable : i.output_variable < length m.global_variables

-- what an entry point names besides its function is there, and no global lies in space Function
pub record FitsEntry (p : EntryPoint) (m : Module) : Type 0 where
  pub payload : IfSome p.task_payload (λ h. h < length m.global_variables)
  pub mesh : IfSome p.mesh_info (MeshFits m)
  pub spaces : All (λ g. g.space ≢ space.Function) m.global_variables

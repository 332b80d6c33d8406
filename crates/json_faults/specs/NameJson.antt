-- The values that are their names.
use Rattle.std.specs.Prelude.{ℕ, List, codes}
use Rattle.json.specs.Json.{Json, string}
use Rattle.ir_leaves.specs.declared.scalars.ScalarKind.{ScalarKind}
use Rattle.ir_leaves.specs.declared.scalars.ScalarKind.TheVariants as kinds
use Rattle.ir_leaves.specs.declared.scalars.VectorSize.{VectorSize}
use Rattle.ir_leaves.specs.declared.scalars.VectorSize.TheVariants as sizes
use Rattle.ir_leaves.specs.declared.images.ImageDimension.{ImageDimension}
use Rattle.ir_leaves.specs.declared.images.ImageDimension.TheVariants as dimensions
use Rattle.ir_leaves.specs.declared.images.StorageFormat.{StorageFormat}
use Rattle.ir_leaves.specs.declared.images.StorageFormat.TheVariants as formats
use Rattle.ir_leaves.specs.declared.bindings.Interpolation.{Interpolation}
use Rattle.ir_leaves.specs.declared.bindings.Interpolation.TheVariants as interpolations
use Rattle.ir_leaves.specs.declared.bindings.Sampling.{Sampling}
use Rattle.ir_leaves.specs.declared.bindings.Sampling.TheVariants as samplings
use Rattle.ir_leaves.specs.declared.stage.ShaderStage.{ShaderStage}
use Rattle.ir_leaves.specs.declared.stage.ShaderStage.TheVariants as shader_stages

-- the kinds of scalars
unfoldable pub scalar_kind_name : ScalarKind → List ℕ
scalar_kind_name kinds.Sint = codes "Sint"
scalar_kind_name kinds.Uint = codes "Uint"
scalar_kind_name kinds.Float = codes "Float"
scalar_kind_name kinds.Bool = codes "Bool"
scalar_kind_name kinds.AbstractInt = codes "AbstractInt"
scalar_kind_name kinds.AbstractFloat = codes "AbstractFloat"

unfoldable pub scalar_kind_form : ScalarKind → Json
scalar_kind_form kind = string (scalar_kind_name kind)

-- the sizes of vectors
unfoldable pub vector_size_form : VectorSize → Json
vector_size_form sizes.Bi = string (codes "Bi")
vector_size_form sizes.Tri = string (codes "Tri")
vector_size_form sizes.Quad = string (codes "Quad")

-- the dimensions of images
unfoldable pub image_dimension_form : ImageDimension → Json
image_dimension_form dimensions.D1 = string (codes "D1")
image_dimension_form dimensions.D2 = string (codes "D2")
image_dimension_form dimensions.D3 = string (codes "D3")
image_dimension_form dimensions.Cube = string (codes "Cube")

-- the formats of storage images
unfoldable pub storage_format_name : StorageFormat → List ℕ
storage_format_name formats.R8Unorm = codes "R8Unorm"
storage_format_name formats.R8Snorm = codes "R8Snorm"
storage_format_name formats.R8Uint = codes "R8Uint"
storage_format_name formats.R8Sint = codes "R8Sint"
storage_format_name formats.R16Uint = codes "R16Uint"
storage_format_name formats.R16Sint = codes "R16Sint"
storage_format_name formats.R16Unorm = codes "R16Unorm"
storage_format_name formats.R16Snorm = codes "R16Snorm"
storage_format_name formats.R16Float = codes "R16Float"
storage_format_name formats.Rg8Unorm = codes "Rg8Unorm"
storage_format_name formats.Rg8Snorm = codes "Rg8Snorm"
storage_format_name formats.Rg8Uint = codes "Rg8Uint"
storage_format_name formats.Rg8Sint = codes "Rg8Sint"
storage_format_name formats.R32Uint = codes "R32Uint"
storage_format_name formats.R32Sint = codes "R32Sint"
storage_format_name formats.R32Float = codes "R32Float"
storage_format_name formats.Rg16Uint = codes "Rg16Uint"
storage_format_name formats.Rg16Sint = codes "Rg16Sint"
storage_format_name formats.Rg16Unorm = codes "Rg16Unorm"
storage_format_name formats.Rg16Snorm = codes "Rg16Snorm"
storage_format_name formats.Rg16Float = codes "Rg16Float"
storage_format_name formats.Rgba8Unorm = codes "Rgba8Unorm"
storage_format_name formats.Rgba8Snorm = codes "Rgba8Snorm"
storage_format_name formats.Rgba8Uint = codes "Rgba8Uint"
storage_format_name formats.Rgba8Sint = codes "Rgba8Sint"
storage_format_name formats.Bgra8Unorm = codes "Bgra8Unorm"
storage_format_name formats.Rgb10a2Uint = codes "Rgb10a2Uint"
storage_format_name formats.Rgb10a2Unorm = codes "Rgb10a2Unorm"
storage_format_name formats.Rg11b10Ufloat = codes "Rg11b10Ufloat"
storage_format_name formats.R64Uint = codes "R64Uint"
storage_format_name formats.Rg32Uint = codes "Rg32Uint"
storage_format_name formats.Rg32Sint = codes "Rg32Sint"
storage_format_name formats.Rg32Float = codes "Rg32Float"
storage_format_name formats.Rgba16Uint = codes "Rgba16Uint"
storage_format_name formats.Rgba16Sint = codes "Rgba16Sint"
storage_format_name formats.Rgba16Unorm = codes "Rgba16Unorm"
storage_format_name formats.Rgba16Snorm = codes "Rgba16Snorm"
storage_format_name formats.Rgba16Float = codes "Rgba16Float"
storage_format_name formats.Rgba32Uint = codes "Rgba32Uint"
storage_format_name formats.Rgba32Sint = codes "Rgba32Sint"
storage_format_name formats.Rgba32Float = codes "Rgba32Float"

unfoldable pub storage_format_form : StorageFormat → Json
storage_format_form format = string (storage_format_name format)

-- how a value is interpolated
unfoldable pub interpolation_form : Interpolation → Json
interpolation_form interpolations.Perspective = string (codes "Perspective")
interpolation_form interpolations.Linear = string (codes "Linear")
interpolation_form interpolations.Flat = string (codes "Flat")
interpolation_form interpolations.PerVertex = string (codes "PerVertex")

-- where within a pixel it is taken
unfoldable pub sampling_name : Sampling → List ℕ
sampling_name samplings.Center = codes "Center"
sampling_name samplings.Centroid = codes "Centroid"
sampling_name samplings.Sample = codes "Sample"
sampling_name samplings.First = codes "First"
sampling_name samplings.Either = codes "Either"

unfoldable pub sampling_form : Sampling → Json
sampling_form sampling = string (sampling_name sampling)

-- the stage of an entry point
unfoldable pub shader_stage_name : ShaderStage → List ℕ
shader_stage_name shader_stages.Vertex = codes "Vertex"
shader_stage_name shader_stages.Fragment = codes "Fragment"
shader_stage_name shader_stages.Compute = codes "Compute"
shader_stage_name shader_stages.Mesh = codes "Mesh"
shader_stage_name shader_stages.Task = codes "Task"
shader_stage_name shader_stages.RayGeneration = codes "RayGeneration"
shader_stage_name shader_stages.AnyHit = codes "AnyHit"
shader_stage_name shader_stages.ClosestHit = codes "ClosestHit"
shader_stage_name shader_stages.Miss = codes "Miss"

unfoldable pub shader_stage_form : ShaderStage → Json
shader_stage_form stage = string (shader_stage_name stage)

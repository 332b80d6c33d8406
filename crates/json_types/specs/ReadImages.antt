-- Images.
use Rattle.std.specs.Prelude.{ℕ, List, [], ◌∷◌, codes, Option, option_map}
use Rattle.serde_json.specs.Data.{Data}
use Rattle.serde_json.specs.Find.{as_bool}
use Rattle.ir_leaves.specs.declared.images.ImageDimension.{ImageDimension}
use Rattle.ir_leaves.specs.declared.images.ImageDimension.TheVariants as image_dimension
use Rattle.ir_leaves.specs.declared.images.StorageFormat.{StorageFormat}
use Rattle.ir_leaves.specs.declared.images.StorageFormat.TheVariants as storage_format
use Rattle.ir_types.specs.declared.types.ImageClass.{ImageClass}
use Rattle.ir_types.specs.declared.types.ImageClass.TheVariants as image_class
use Rattle.json_types.specs.declared.images.ClassName.{ClassName}
use Rattle.json_types.specs.declared.images.ClassName.TheVariants as class_name
use Rattle.json_values.specs.Form.{given, made_of_two, named, one_field, two_fields}
use Rattle.json_values.specs.Sets.{storage_access_of}
use Rattle.json_values.specs.Variants.{variant_of, either}
use Rattle.json_values.specs.Scalars.{scalar_kind_of}

-- the dimensions of images
abbrev pub image_dimensions : List (List ℕ × ImageDimension)
image_dimensions =
    (codes "D1", image_dimension.D1) ∷ (codes "D2", image_dimension.D2) ∷ (codes "D3", image_dimension.D3) ∷
    (codes "Cube", image_dimension.Cube) ∷ []

abbrev pub image_dimension_of : Data → Option ImageDimension
image_dimension_of = named image_dimensions

-- the formats of storage images
abbrev pub storage_formats : List (List ℕ × StorageFormat)
storage_formats =
    (codes "R8Unorm", storage_format.R8Unorm) ∷ (codes "R8Snorm", storage_format.R8Snorm) ∷
    (codes "R8Uint", storage_format.R8Uint) ∷ (codes "R8Sint", storage_format.R8Sint) ∷
    (codes "R16Uint", storage_format.R16Uint) ∷ (codes "R16Sint", storage_format.R16Sint) ∷
    (codes "R16Unorm", storage_format.R16Unorm) ∷ (codes "R16Snorm", storage_format.R16Snorm) ∷
    (codes "R16Float", storage_format.R16Float) ∷ (codes "Rg8Unorm", storage_format.Rg8Unorm) ∷
    (codes "Rg8Snorm", storage_format.Rg8Snorm) ∷ (codes "Rg8Uint", storage_format.Rg8Uint) ∷
    (codes "Rg8Sint", storage_format.Rg8Sint) ∷ (codes "R32Uint", storage_format.R32Uint) ∷
    (codes "R32Sint", storage_format.R32Sint) ∷ (codes "R32Float", storage_format.R32Float) ∷
    (codes "Rg16Uint", storage_format.Rg16Uint) ∷ (codes "Rg16Sint", storage_format.Rg16Sint) ∷
    (codes "Rg16Unorm", storage_format.Rg16Unorm) ∷ (codes "Rg16Snorm", storage_format.Rg16Snorm) ∷
    (codes "Rg16Float", storage_format.Rg16Float) ∷ (codes "Rgba8Unorm", storage_format.Rgba8Unorm) ∷
    (codes "Rgba8Snorm", storage_format.Rgba8Snorm) ∷ (codes "Rgba8Uint", storage_format.Rgba8Uint) ∷
    (codes "Rgba8Sint", storage_format.Rgba8Sint) ∷ (codes "Bgra8Unorm", storage_format.Bgra8Unorm) ∷
    (codes "Rgb10a2Uint", storage_format.Rgb10a2Uint) ∷ (codes "Rgb10a2Unorm", storage_format.Rgb10a2Unorm) ∷
    (codes "Rg11b10Ufloat", storage_format.Rg11b10Ufloat) ∷ (codes "R64Uint", storage_format.R64Uint) ∷
    (codes "Rg32Uint", storage_format.Rg32Uint) ∷ (codes "Rg32Sint", storage_format.Rg32Sint) ∷
    (codes "Rg32Float", storage_format.Rg32Float) ∷ (codes "Rgba16Uint", storage_format.Rgba16Uint) ∷
    (codes "Rgba16Sint", storage_format.Rgba16Sint) ∷ (codes "Rgba16Unorm", storage_format.Rgba16Unorm) ∷
    (codes "Rgba16Snorm", storage_format.Rgba16Snorm) ∷ (codes "Rgba16Float", storage_format.Rgba16Float) ∷
    (codes "Rgba32Uint", storage_format.Rgba32Uint) ∷ (codes "Rgba32Sint", storage_format.Rgba32Sint) ∷
    (codes "Rgba32Float", storage_format.Rgba32Float) ∷ []

abbrev pub storage_format_of : Data → Option StorageFormat
storage_format_of = named storage_formats

-- the class of which no more is said
abbrev pub image_classes : List (List ℕ × ImageClass)
image_classes =
    (codes "External", image_class.External) ∷ []

-- the classes of which more is said
abbrev pub holding_classes : List (List ℕ × ClassName)
holding_classes =
    (codes "Sampled", class_name.Sampled) ∷ (codes "Depth", class_name.Depth) ∷
    (codes "Storage", class_name.Storage) ∷ []

-- what a variant that holds something stands for
abbrev pub image_class_from : ClassName → Data → Option ImageClass
image_class_from class_name.Sampled d = made_of_two image_class.Sampled
    (two_fields (codes "kind") scalar_kind_of (codes "multi") as_bool d)
image_class_from class_name.Depth d = option_map image_class.Depth (one_field (codes "multi") as_bool d)
image_class_from class_name.Storage d = made_of_two image_class.Storage
    (two_fields (codes "format") storage_format_of (codes "access") storage_access_of d)

abbrev pub image_class_of : Data → Option ImageClass
image_class_of d = given (variant_of image_classes holding_classes d) (either image_class_from)

-- Faults of globals, of inputs and outputs, and of entry points.
use Rattle.std.specs.Prelude.{ℕ, List, Option, None, Some, codes}
use Rattle.json.specs.Json.{Json, string}
use Rattle.ir_errors.specs.declared.interface.GlobalVariableError.{GlobalVariableError}
use Rattle.ir_errors.specs.declared.interface.GlobalVariableError.TheVariants as globals
use Rattle.ir_errors.specs.declared.interface.VaryingError.{VaryingError}
use Rattle.ir_errors.specs.declared.interface.VaryingError.TheVariants as varyings
use Rattle.ir_errors.specs.Names.{global_error_name, varying_error_name}
use Rattle.check_faults.specs.EntryErrorNames.{entry_error_name}
use Rattle.check_faults.specs.declared.entry.EntryPointError.{EntryPointError}
use Rattle.check_faults.specs.declared.entry.EntryPointError.TheVariants as entries
use Rattle.json_faults.specs.BuiltInJson.{built_in_form}
use Rattle.json_faults.specs.Faults.{function_error_form}
use Rattle.json_faults.specs.JsonForm.{number_form, one_field, three_items, two_fields, two_items, variant}
use Rattle.json_faults.specs.NameJson.{interpolation_form, sampling_form, shader_stage_form}
use Rattle.json_faults.specs.SetJson.{capabilities_form, global_use_form, type_flags_form}
use Rattle.json_faults.specs.TypeJson.{space_form, type_form}

-- a fault of a global variable
-- what it holds
unfoldable pub global_error_held : GlobalVariableError → Option Json
global_error_held (globals.InvalidUsage space) = Some (space_form space)
global_error_held (globals.InvalidType space) = Some (space_form space)
global_error_held (globals.InvalidBindingArray ty) = Some (number_form ty)
global_error_held (globals.MissingTypeFlags required seen) =
    Some (two_fields (codes "required") (type_flags_form required) (codes "seen") (type_flags_form seen))
global_error_held (globals.UnsupportedCapability capabilities) = Some (capabilities_form capabilities)
global_error_held globals.InvalidBinding = None
global_error_held (globals.Alignment space ty disalignment) =
    Some (three_items (space_form space) (number_form ty) (number_form disalignment.0))
global_error_held globals.InitializerExprType = None
global_error_held globals.InitializerType = None
global_error_held (globals.InitializerNotAllowed space) = Some (space_form space)
global_error_held globals.StorageAddressSpaceWriteOnlyNotSupported = None
global_error_held (globals.InvalidImmediateType error) = Some (number_form error.0)
global_error_held globals.ZeroSizedTaskPayload = None
global_error_held globals.InvalidMemoryDecorationsAddressSpace = None
global_error_held globals.CoherentNotSupported = None
global_error_held globals.VolatileNotSupported = None

unfoldable pub global_error_form : GlobalVariableError → Json
global_error_form error = variant (global_error_name error) (global_error_held error)

-- a fault of an input or output
-- what it holds
unfoldable pub varying_error_held : VaryingError → Option Json
varying_error_held (varyings.InvalidType ty) = Some (number_form ty)
varying_error_held (varyings.NotIOShareableType ty) = Some (number_form ty)
varying_error_held (varyings.InvalidInterpolationInStage interpolation stage) =
    Some (two_items (interpolation_form interpolation) (shader_stage_form stage))
varying_error_held (varyings.InvalidInterpolationSamplingCombination interpolation sampling) =
    Some (two_fields (codes "interpolation") (interpolation_form interpolation) (codes "sampling") (sampling_form sampling))
varying_error_held varyings.InvalidInterpolationForInteger = None
varying_error_held varyings.MissingInterpolation = None
varying_error_held (varyings.InvalidBuiltInStage built_in) = Some (built_in_form built_in)
varying_error_held (varyings.InvalidBuiltInType built_in ty) = Some (two_items (built_in_form built_in) (type_form ty))
varying_error_held varyings.MissingBinding = None
varying_error_held (varyings.MemberMissingBinding index) = Some (number_form index)
varying_error_held (varyings.BindingCollision location) = Some (one_field (codes "location") (number_form location))
varying_error_held (varyings.BindingCollisionBlendSrc blend_src) = Some (one_field (codes "blend_src") (number_form blend_src))
varying_error_held (varyings.DuplicateBuiltIn built_in) = Some (built_in_form built_in)
varying_error_held (varyings.UnsupportedCapability capabilities) = Some (capabilities_form capabilities)
varying_error_held (varyings.InvalidInputAttributeInStage attribute stage) =
    Some (two_items (string attribute.now) (shader_stage_form stage))
varying_error_held (varyings.InvalidAttributeInStage attribute stage) =
    Some (two_items (string attribute.now) (shader_stage_form stage))
varying_error_held (varyings.InvalidBlendSrcIndex location blend_src) =
    Some (two_fields (codes "location") (number_form location) (codes "blend_src") (number_form blend_src))
varying_error_held (varyings.IncompleteBlendSrcUsage present_blend_src) =
    Some (one_field (codes "present_blend_src") (number_form present_blend_src))
varying_error_held (varyings.InvalidBlendSrcWithOtherBindings location) =
    Some (one_field (codes "location") (number_form location))
varying_error_held (varyings.BlendSrcOutputTypeMismatch blend_src_0_type blend_src_1_type) =
    Some (two_fields (codes "blend_src_0_type") (number_form blend_src_0_type)
    (codes "blend_src_1_type") (number_form blend_src_1_type))
varying_error_held varyings.BlendSrcNotOnStructMember = None
varying_error_held varyings.InvalidMultiDimensionalSubgroupBuiltIn = None
varying_error_held varyings.InvalidPerPrimitive = None
varying_error_held varyings.MissingPerPrimitive = None
varying_error_held varyings.PerVertexNotArrayOfThree = None
varying_error_held varyings.InvalidPerVertexSampling = None

unfoldable pub varying_error_form : VaryingError → Json
varying_error_form error = variant (varying_error_name error) (varying_error_held error)

-- what a fault of an entry point holds
unfoldable pub entry_error_held : EntryPointError → Option Json
entry_error_held entries.Conflict = None
entry_error_held entries.MissingVertexOutputPosition = None
entry_error_held entries.UnexpectedEarlyDepthTest = None
entry_error_held entries.UnexpectedWorkgroupSize = None
entry_error_held entries.OutOfRangeWorkgroupSize = None
entry_error_held entries.ForbiddenStageOperations = None
entry_error_held (entries.InvalidGlobalUsage global used) = Some (two_items (number_form global) (global_use_form used))
entry_error_held entries.MoreThanOneImmediateUsed = None
entry_error_held (entries.BindingCollision global) = Some (number_form global)
entry_error_held (entries.Argument index error) = Some (two_items (number_form index) (varying_error_form error))
entry_error_held (entries.Result error) = Some (varying_error_form error)
entry_error_held (entries.Function error) = Some (function_error_form error)
entry_error_held (entries.UnsupportedCapability capabilities) = Some (capabilities_form capabilities)
entry_error_held entries.ExpectedMeshShaderAttributes = None
entry_error_held entries.UnexpectedMeshShaderAttributes = None
entry_error_held entries.UnexpectedTaskPayload = None
entry_error_held entries.TaskPayloadWrongAddressSpace = None
entry_error_held entries.WrongTaskPayloadUsed = None
entry_error_held entries.WrongTaskShaderEntryResult = None
entry_error_held entries.ExpectedTaskPayload = None
entry_error_held entries.BadMeshOutputVariableType = None
entry_error_held entries.BadMeshOutputVariableField = None
entry_error_held entries.UnexpectedMeshShaderEntryResult = None
entry_error_held entries.InvalidMeshOutputType = None
entry_error_held entries.InvalidMeshPrimitiveOutputType = None
entry_error_held entries.WrongMeshOutputAddressSpace = None
entry_error_held (entries.TaskPayloadTooSmall size) = Some (number_form size)
entry_error_held (entries.RayPayloadInInvalidStage stage) = Some (shader_stage_form stage)
entry_error_held (entries.IncomingRayPayloadInInvalidStage stage) = Some (shader_stage_form stage)

unfoldable pub entry_error_form : EntryPointError → Json
entry_error_form error = variant (entry_error_name error) (entry_error_held error)

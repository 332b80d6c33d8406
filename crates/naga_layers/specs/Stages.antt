-- The stages that expressions may run in.
use Rattle.std.specs.Prelude.{Option, None, Some, Result, Ok, Err, slice_get}
use Rattle.ir_flags.specs.Bits.{ALL_STAGES, FRAGMENT, COMPUTE, COMPUTE_LIKE}
use Rattle.ir_flags.specs.declared.valid.ShaderStages.{ShaderStages}
use Rattle.ir_errors.specs.declared.expression.ExpressionError.{ExpressionError}
use Rattle.ir_errors.specs.declared.expression.ExpressionError.TheVariants.{Lower}
use Rattle.ir_facts.specs.declared.valid.info.FunctionInfo.{FunctionInfo}
use Rattle.ir_facts.specs.declared.valid.info.ModuleInfo.{ModuleInfo}
use Rattle.ir_facts.specs.declared.valid.settings.Settings.{Settings}
use Rattle.ir_module.specs.declared.expressions.Expression.{Expression}
use Rattle.ir_module.specs.declared.expressions.Expression.TheVariants as e
use Rattle.layer_forms.specs.declared.images.LevelKind.{LevelKind}
use Rattle.layer_forms.specs.declared.images.LevelKind.TheVariants as level
use Rattle.layer_forms.specs.declared.images.SampleForm.{SampleForm}
use Rattle.layer_forms.specs.ImageForms.{sampling_of}

-- a level that depends on neighbors needs the fragment stage
abbrev pub level_stages : LevelKind → ShaderStages
level_stages level.Auto = FRAGMENT
level_stages level.Bias = FRAGMENT
level_stages level.Zero = ALL_STAGES
level_stages level.Exact = ALL_STAGES
level_stages level.Gradient = ALL_STAGES

abbrev pub sample_stages : Option SampleForm → ShaderStages
sample_stages None = ALL_STAGES
sample_stages (Some form) = level_stages form.level

-- the result of a call runs where the callee does, of which the info is there
abbrev pub callee_stages : Option FunctionInfo → Result ShaderStages ExpressionError
callee_stages None = Err (Lower 1)
callee_stages (Some info) = Ok info.available_stages

-- derivatives, and samples whose level depends on neighbors: the fragment stage; results of calls: the callee's; of uniform
-- loads from a work group: those of computing; of subgroup operations: those that the settings name; cooperative operations:
-- the compute stage; all others run in every stage
abbrev pub stages_of : Settings → ModuleInfo → Option Expression → Result ShaderStages ExpressionError
stages_of settings infos (Some (e.Derivative d hs)) = Ok FRAGMENT
stages_of settings infos (Some (e.ImageSample d hs)) = Ok (sample_stages (sampling_of d))
stages_of settings infos (Some (e.CallResult f)) = callee_stages (slice_get infos.functions f)
stages_of settings infos (Some (e.WorkGroupUniformLoadResult t)) = Ok COMPUTE_LIKE
stages_of settings infos (Some e.SubgroupBallotResult) = Ok settings.subgroup_stages
stages_of settings infos (Some (e.SubgroupOperationResult t)) = Ok settings.subgroup_stages
stages_of settings infos (Some (e.CooperativeLoad d hs)) = Ok COMPUTE
stages_of settings infos (Some (e.CooperativeMultiplyAdd d hs)) = Ok COMPUTE
stages_of settings infos None = Ok ALL_STAGES
stages_of settings infos (Some (e.Literal l)) = Ok ALL_STAGES
stages_of settings infos (Some (e.Constant h)) = Ok ALL_STAGES
stages_of settings infos (Some (e.Override h)) = Ok ALL_STAGES
stages_of settings infos (Some (e.ZeroValue t)) = Ok ALL_STAGES
stages_of settings infos (Some (e.Compose t hs)) = Ok ALL_STAGES
stages_of settings infos (Some (e.Access base index)) = Ok ALL_STAGES
stages_of settings infos (Some (e.AccessIndex base k)) = Ok ALL_STAGES
stages_of settings infos (Some (e.FunctionArgument n)) = Ok ALL_STAGES
stages_of settings infos (Some (e.GlobalVariable h)) = Ok ALL_STAGES
stages_of settings infos (Some (e.LocalVariable h)) = Ok ALL_STAGES
stages_of settings infos (Some (e.Load pointer)) = Ok ALL_STAGES
stages_of settings infos (Some (e.AtomicResult t c)) = Ok ALL_STAGES
stages_of settings infos (Some e.RayQueryProceedResult) = Ok ALL_STAGES
stages_of settings infos (Some (e.Splat d hs)) = Ok ALL_STAGES
stages_of settings infos (Some (e.Swizzle d hs)) = Ok ALL_STAGES
stages_of settings infos (Some (e.ImageLoad d hs)) = Ok ALL_STAGES
stages_of settings infos (Some (e.ImageQuery d hs)) = Ok ALL_STAGES
stages_of settings infos (Some (e.Unary d hs)) = Ok ALL_STAGES
stages_of settings infos (Some (e.Binary d hs)) = Ok ALL_STAGES
stages_of settings infos (Some (e.Select d hs)) = Ok ALL_STAGES
stages_of settings infos (Some (e.Relational d hs)) = Ok ALL_STAGES
stages_of settings infos (Some (e.Math d hs)) = Ok ALL_STAGES
stages_of settings infos (Some (e.As d hs)) = Ok ALL_STAGES
stages_of settings infos (Some (e.ArrayLength d hs)) = Ok ALL_STAGES
stages_of settings infos (Some (e.RayQueryGetIntersection d hs)) = Ok ALL_STAGES
stages_of settings infos (Some (e.RayQueryVertexPositions d hs)) = Ok ALL_STAGES

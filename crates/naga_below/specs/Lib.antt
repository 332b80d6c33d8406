pub use Rattle.ir_facts.specs.declared.valid.info.FunctionInfo.{FunctionInfo}
pub use Rattle.ir_facts.specs.declared.valid.info.ModuleInfo.{ModuleInfo}
pub use Rattle.ir_facts.specs.declared.valid.settings.Settings.{Settings}
pub use Rattle.ir_types.specs.declared.type_info.TypeInfo.{TypeInfo}
pub use Rattle.ir_facts.specs.Fits.{FitsTypes, FitsGlobals, FitsFunction, FitsEntry}
pub use Rattle.ir_arena.specs.Points.{Point, first_fault}
pub use Rattle.ir_flags.specs.Bits.{READ, ALL_STAGES}
pub use Rattle.ir_module.specs.declared.expressions.Expression.{Expression}
pub use Rattle.ir_module.specs.declared.expressions.Expression.TheVariants.{CallResult, AtomicResult}
pub use Rattle.ir_module.specs.declared.functions.Function.{Function}
pub use Rattle.ir_module.specs.declared.functions.LocalVariable.{LocalVariable}
pub use Rattle.ir_module.specs.declared.module.EntryPoint.{EntryPoint}
pub use Rattle.ir_module.specs.declared.module.GlobalVariable.{GlobalVariable}
pub use Rattle.ir_module.specs.declared.module.Module.{Module}
pub use Rattle.ir_module.specs.declared.module.ResourceBinding.{ResourceBinding}
pub use Rattle.ir_leaves.specs.declared.stage.ShaderStage.{ShaderStage}
pub use Rattle.ir_statements.specs.declared.statements.Block.{Block}
pub use Rattle.ir_statements.specs.declared.statements.Statement.{Statement}
pub use Rattle.ir_statements.specs.Tree.{Return, Switch}
pub use Rattle.ir_types.specs.declared.types.AddressSpace.{AddressSpace}
pub use Rattle.ir_types.specs.declared.types.Type.{«Type» as IrType}
pub use Rattle.ir_types.specs.declared.types.TypeInner.{TypeInner}
pub use Rattle.ir_types.specs.declared.typifier.TypeResolution.{TypeResolution}
pub use Rattle.ir_types.specs.TypeTests.{is_same_type}
pub use Rattle.ir_types.specs.Types.{ResolutionFits, bool_scalar}
pub use Rattle.ir_module.specs.Operands.{operands_of, listed_operands}
pub use Rattle.ir_leaves.specs.declared.stage.ShaderStage.TheVariants.{Vertex}
pub use Rattle.ir_types.specs.TypeTests.{SameIsDecided, EquivalentIsDecided, ExchangeStructIsDecided, ScalarIsDecided}
pub use Rattle.ir_types.specs.TypeTests.{ScalarMemberIsDecided}
pub use Rattle.ir_types.specs.Types.{NameEachOther, access_of}
pub use Rattle.ir_arena.specs.Limits.{max_len}
pub use Rattle.ir_errors.specs.Names.{expression_error_name}
pub use Rattle.ir_facts.specs.Infos.{empty_info, with_global_use}
pub use Rattle.ir_facts.specs.declared.proc.expression_kinds.ExpressionKind.{ExpressionKind}
pub use Rattle.ir_flags.specs.Bits.{contains}
pub use Rattle.ir_module.specs.Empty.{empty_function, empty_module}
pub use Rattle.ir_module.specs.Operands.{access_base}
pub use Rattle.ir_module.specs.PreEmitted.{needs_pre_emit}
pub use Rattle.ir_statements.specs.Blocks.{empty_block, with_last}
pub use Rattle.ir_statements.specs.Operations.{is_min_or_max}
pub use Rattle.ir_statements.specs.Subgroups.{gather_group, operation_group}
pub use Rattle.ir_types.specs.Members.{HasNoMembers}
pub use Rattle.ir_types.specs.SpaceTests.{is_immediate, is_storage, is_task_payload, is_work_group}
pub use Rattle.ir_types.specs.TypeTests.{is_equivalent, is_exchange_struct}
pub use Rattle.ir_types.specs.Types.{NamesTypesBelow, image_coordinates_of, pointer_base_of, pointer_space_of}
pub use Rattle.ir_types.specs.Types.{resolved, scalar_kind_of, scalar_of, value_pointer_of}
pub use Rattle.ir_types.specs.Unique.{AreDistinct}

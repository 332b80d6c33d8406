-- What doesn't fit: where it stands, and what is wrong there.
use Rattle.std.specs.Prelude.{ℕ, List, Option, None, Some, codes}
use Rattle.json.specs.Json.{Json, string}
use Rattle.ir_misfits.specs.declared.misfit.Owner.{Owner}
use Rattle.ir_misfits.specs.declared.misfit.Owner.TheVariants as owners
use Rattle.ir_misfits.specs.declared.misfit.TypeOwner.{TypeOwner}
use Rattle.ir_misfits.specs.declared.misfit.TypeOwner.TheVariants as type_owners
use Rattle.ir_misfits.specs.declared.misfit.TypeField.{TypeField}
use Rattle.ir_misfits.specs.declared.misfit.TypeField.TheVariants as type_fields
use Rattle.ir_misfits.specs.declared.misfit.VariableField.{VariableField}
use Rattle.ir_misfits.specs.declared.misfit.VariableField.TheVariants as variable_fields
use Rattle.ir_misfits.specs.declared.misfit.StatementField.{StatementField}
use Rattle.ir_misfits.specs.declared.misfit.StatementField.TheVariants as statement_fields
use Rattle.ir_misfits.specs.declared.misfit.EntryField.{EntryField}
use Rattle.ir_misfits.specs.declared.misfit.EntryField.TheVariants as entry_fields
use Rattle.ir_misfits.specs.declared.misfit.Place.{Place}
use Rattle.ir_misfits.specs.declared.misfit.Place.TheVariants as places
use Rattle.ir_misfits.specs.declared.misfit.HandleOf.{HandleOf}
use Rattle.ir_misfits.specs.declared.misfit.HandleOf.TheVariants as handle_ofs
use Rattle.ir_misfits.specs.declared.misfit.Problem.{Problem}
use Rattle.ir_misfits.specs.declared.misfit.Problem.TheVariants as problems
use Rattle.ir_misfits.specs.declared.misfit.Misfit.{Misfit}
use Rattle.json_faults.specs.JsonForm.{holding, number_form, one_field, three_fields, three_items, two_fields, two_items, variant}

-- what has expressions: the module its global ones, a function, or the function of an entry point
unfoldable pub owner_form : Owner → Json
owner_form owners.Module = string (codes "Module")
owner_form (owners.Function function) = holding (codes "Function") (number_form function)
owner_form (owners.EntryPoint index) = holding (codes "EntryPoint") (number_form index)

-- a type of the module, or that of a global expression
unfoldable pub type_owner_form : TypeOwner → Json
type_owner_form (type_owners.OfModule ty) = holding (codes "OfModule") (number_form ty)
type_owner_form (type_owners.OfGlobalExpression expression) = holding (codes "OfGlobalExpression") (number_form expression)

-- which part of a type
unfoldable pub type_field_form : TypeField → Json
type_field_form type_fields.Whole = string (codes "Whole")
type_field_form type_fields.Base = string (codes "Base")
type_field_form (type_fields.Member index) = holding (codes "Member") (number_form index)
type_field_form type_fields.Members = string (codes "Members")

-- which field of a variable
unfoldable pub variable_field_form : VariableField → Json
variable_field_form variable_fields.Ty = string (codes "Ty")
variable_field_form variable_fields.Init = string (codes "Init")
variable_field_form variable_fields.Space = string (codes "Space")

-- which field of a statement
unfoldable pub statement_field_name : StatementField → List ℕ
statement_field_name statement_fields.Range = codes "Range"
statement_field_name statement_fields.Condition = codes "Condition"
statement_field_name statement_fields.Selector = codes "Selector"
statement_field_name statement_fields.BreakIf = codes "BreakIf"
statement_field_name statement_fields.Value = codes "Value"
statement_field_name statement_fields.Pointer = codes "Pointer"
statement_field_name statement_fields.Image = codes "Image"
statement_field_name statement_fields.Coordinate = codes "Coordinate"
statement_field_name statement_fields.ArrayIndex = codes "ArrayIndex"
statement_field_name statement_fields.Compare = codes "Compare"
statement_field_name statement_fields.Result = codes "Result"
statement_field_name statement_fields.Function = codes "Function"
statement_field_name (statement_fields.CallArgument _) = codes "CallArgument"
statement_field_name statement_fields.Argument = codes "Argument"
statement_field_name statement_fields.Predicate = codes "Predicate"
statement_field_name statement_fields.Mode = codes "Mode"
statement_field_name statement_fields.Query = codes "Query"
statement_field_name statement_fields.AccelerationStructure = codes "AccelerationStructure"
statement_field_name statement_fields.Descriptor = codes "Descriptor"
statement_field_name statement_fields.HitT = codes "HitT"
statement_field_name statement_fields.Payload = codes "Payload"
statement_field_name statement_fields.Target = codes "Target"
statement_field_name statement_fields.Source = codes "Source"

unfoldable pub statement_field_form : StatementField → Json
statement_field_form (statement_fields.CallArgument index) = holding (codes "CallArgument") (number_form index)
statement_field_form field = string (statement_field_name field)

-- which field of an entry point, or of its mesh
unfoldable pub entry_field_name : EntryField → List ℕ
entry_field_name entry_fields.TaskPayload = codes "TaskPayload"
entry_field_name entry_fields.MaxVerticesOverride = codes "MaxVerticesOverride"
entry_field_name entry_fields.MaxPrimitivesOverride = codes "MaxPrimitivesOverride"
entry_field_name entry_fields.VertexOutputType = codes "VertexOutputType"
entry_field_name entry_fields.PrimitiveOutputType = codes "PrimitiveOutputType"
entry_field_name entry_fields.OutputVariable = codes "OutputVariable"

unfoldable pub entry_field_form : EntryField → Json
entry_field_form field = string (entry_field_name field)

-- where it stands
unfoldable pub place_name : Place → List ℕ
place_name places.TypeInfos = codes "TypeInfos"
place_name (places.StorageLayout _) = codes "StorageLayout"
place_name (places.UniformLayout _) = codes "UniformLayout"
place_name (places.InType _ _) = codes "InType"
place_name places.RayDesc = codes "RayDesc"
place_name (places.ConstantType _) = codes "ConstantType"
place_name (places.OverrideType _) = codes "OverrideType"
place_name (places.InGlobal _ _) = codes "InGlobal"
place_name places.GlobalTypes = codes "GlobalTypes"
place_name (places.Arguments _) = codes "Arguments"
place_name (places.ArgumentType _ _) = codes "ArgumentType"
place_name (places.ResultType _) = codes "ResultType"
place_name (places.InLocal _ _ _) = codes "InLocal"
place_name (places.Operand _ _ _) = codes "Operand"
place_name (places.Reference _ _) = codes "Reference"
place_name (places.InStatement _ _ _) = codes "InStatement"
place_name (places.InEntryPoint _ _) = codes "InEntryPoint"

-- what it holds
unfoldable pub place_held : Place → Option Json
place_held places.TypeInfos = None
place_held (places.StorageLayout info) = Some (number_form info)
place_held (places.UniformLayout info) = Some (number_form info)
place_held (places.InType owner field) = Some (two_items (type_owner_form owner) (type_field_form field))
place_held places.RayDesc = None
place_held (places.ConstantType constant) = Some (number_form constant)
place_held (places.OverrideType item) = Some (number_form item)
place_held (places.InGlobal global field) = Some (two_items (number_form global) (variable_field_form field))
place_held places.GlobalTypes = None
place_held (places.Arguments owner) = Some (owner_form owner)
place_held (places.ArgumentType owner index) = Some (two_items (owner_form owner) (number_form index))
place_held (places.ResultType owner) = Some (owner_form owner)
place_held (places.InLocal owner local field) =
    Some (three_items (owner_form owner) (number_form local) (variable_field_form field))
place_held (places.Operand owner expression index) =
    Some (three_items (owner_form owner) (number_form expression) (number_form index))
place_held (places.Reference owner expression) = Some (two_items (owner_form owner) (number_form expression))
place_held (places.InStatement owner statement field) =
    Some (three_items (owner_form owner) (number_form statement) (statement_field_form field))
place_held (places.InEntryPoint index field) = Some (two_items (number_form index) (entry_field_form field))

unfoldable pub place_form : Place → Json
place_form place = variant (place_name place) (place_held place)

-- what the handle is of
unfoldable pub handle_of_name : HandleOf → List ℕ
handle_of_name handle_ofs.Types = codes "Types"
handle_of_name handle_ofs.Constants = codes "Constants"
handle_of_name handle_ofs.Overrides = codes "Overrides"
handle_of_name handle_ofs.GlobalVariables = codes "GlobalVariables"
handle_of_name handle_ofs.GlobalExpressions = codes "GlobalExpressions"
handle_of_name handle_ofs.Functions = codes "Functions"
handle_of_name handle_ofs.LocalVariables = codes "LocalVariables"
handle_of_name handle_ofs.Expressions = codes "Expressions"

unfoldable pub handle_of_form : HandleOf → Json
handle_of_form of = string (handle_of_name of)

-- what is wrong there
unfoldable pub problem_name : Problem → List ℕ
problem_name (problems.Handle _ _ _) = codes "Handle"
problem_name (problems.Length _ _) = codes "Length"
problem_name (problems.TooMany _) = codes "TooMany"
problem_name (problems.Backwards _ _) = codes "Backwards"
problem_name (problems.PastEnd _ _) = codes "PastEnd"
problem_name problems.Unbindable = codes "Unbindable"
problem_name problems.InFunctionSpace = codes "InFunctionSpace"
problem_name (problems.UnknownSize _) = codes "UnknownSize"

-- what it holds
unfoldable pub problem_held : Problem → Option Json
problem_held (problems.Handle of index below) =
    Some (three_fields (codes "of") (handle_of_form of) (codes "index") (number_form index) (codes "below") (number_form below))
problem_held (problems.Length found wanted) =
    Some (two_fields (codes "found") (number_form found) (codes "wanted") (number_form wanted))
problem_held (problems.TooMany found) = Some (one_field (codes "found") (number_form found))
problem_held (problems.Backwards start end) =
    Some (two_fields (codes "start") (number_form start) (codes "end") (number_form end))
problem_held (problems.PastEnd end count) =
    Some (two_fields (codes "end") (number_form end) (codes "count") (number_form count))
problem_held problems.Unbindable = None
problem_held problems.InFunctionSpace = None
problem_held (problems.UnknownSize ty) = Some (one_field (codes "ty") (number_form ty))

unfoldable pub problem_form : Problem → Json
problem_form problem = variant (problem_name problem) (problem_held problem)

-- something that doesn't fit
abbrev pub misfit_form : Misfit → Json
misfit_form misfit = two_fields (codes "place") (place_form misfit.place) (codes "problem") (problem_form misfit.problem)

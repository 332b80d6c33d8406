-- Modules.
use Rattle.std.specs.Prelude.{Bool, false, ◌||◌, ◌++◌, if◌then◌else◌, List, [], ◌∷◌, codes, Option, Some, None}
use Rattle.serde_json.specs.Data.{Data}
use Rattle.ir_module.specs.declared.module.Module.{Module}
use Rattle.ir_types.specs.declared.types.Type.{«Type» as IrType}
use Rattle.ir_types.specs.contracts.types.TypePartialEq.TheImpl as ir_type
use Rattle.json_values.specs.Form.{eight_fields, given, list_of, made_of_eight}
use Rattle.json_document.specs.Document.EntryPoints.{constant_of, entry_point_of, global_variable_of, override_of, special_types_of}
use Rattle.json_expressions.specs.Expressions.{expression_of}
use Rattle.json_document.specs.Document.Functions.{function_of}
use Rattle.json_types.specs.ReadTypes.{type_of}

-- whether one of these types equals it
abbrev pub is_among : IrType → List IrType → Bool
is_among t [] = false
is_among t (x ∷ xs) = (ir_type.ghosts).eq x t || is_among t xs

-- these types and those after them, of which none equals an earlier one
abbrev pub types_behind : List IrType → List IrType → Option (List IrType)
types_behind done [] = Some done
types_behind done (t ∷ ts) = if is_among t done then None else types_behind (done ++ t ∷ []) ts

-- the types of a module, of which no two are equal
abbrev pub types_of : Data → Option (List IrType)
types_of d = given (list_of type_of d) (types_behind [])

-- a module
abbrev pub module_of : Data → Option Module
module_of d = made_of_eight
    (λ types special_types constants overrides global_variables global_expressions functions entry_points. record {
      types = types;
      special_types = special_types;
      constants = constants;
      overrides = overrides;
      global_variables = global_variables;
      global_expressions = global_expressions;
      functions = functions;
      entry_points = entry_points;
    })
    (eight_fields (codes "types") types_of (codes "special_types") special_types_of
    (codes "constants") (list_of constant_of) (codes "overrides") (list_of override_of)
    (codes "global_variables") (list_of global_variable_of) (codes "global_expressions") (list_of expression_of)
    (codes "functions") (list_of function_of) (codes "entry_points") (list_of entry_point_of) d)

-- What holds nothing: a module, a function.
use Rattle.std.specs.Prelude.{[], None}
use Rattle.ir_statements.specs.Blocks.{empty_block}
use Rattle.ir_module.specs.declared.functions.Function.{Function}
use Rattle.ir_module.specs.declared.module.Module.{Module}

-- the module without types, constants, overrides, globals, functions and entry points
abbrev pub empty_module : Module
empty_module =
    record {
      types = [];
      special_types = record { ray_desc = None };
      constants = [];
      overrides = [];
      global_variables = [];
      global_expressions = [];
      functions = [];
      entry_points = [];
    }

-- the function without arguments and result, without variables and expressions, and without a statement
abbrev pub empty_function : Function
empty_function = record { arguments = []; result = None; local_variables = []; expressions = []; body = empty_block }

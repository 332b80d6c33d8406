-- A chain of two calls, worked by hand over the plain layer: its infos are vetted, and its last function reaches its first.
use Rattle.std.specs.Int.RustNames.{bit_or}
use Rattle.std.specs.Prelude.{false, [], ◌∷◌, None}
use Rattle.ir_flags.specs.Bits.{EXPRESSIONS, BLOCKS, FRAGMENT, NO_OPERATION, NO_STAGE}
use Rattle.ir_flags.specs.Capabilities.{NO_CAPABILITY}
use Rattle.ir_module.specs.declared.functions.Function.{Function}
use Rattle.ir_module.specs.declared.module.Module.{Module}
use Rattle.ir_statements.specs.declared.statements.Block.{Block, roll-Block}
use Rattle.ir_statements.specs.declared.statements.Located.{Located}
use Rattle.ir_statements.specs.declared.statements.Statement.{Statement}
use Rattle.ir_statements.specs.declared.statements.Statement as ir
use Rattle.ir_facts.specs.declared.valid.info.FunctionInfo.{FunctionInfo}
use Rattle.ir_facts.specs.declared.valid.info.ModuleInfo.{ModuleInfo}
use Rattle.ir_facts.specs.declared.valid.settings.Settings.{Settings}
use Rattle.check_scope.specs.BodyTrees.{body_of}
use Rattle.check_laws.specs.Chains.{Reaches, AreVetted}
use Rattle.naga_layers.specs.Plain.Meaning.{plain_meaning, plain_layer}

-- a statement without a span, and a body of it alone
abbrev pub placed : Statement → Located
placed x = record { statement = x; span = record { start = 0; end = 0 } }

abbrev pub one : Statement → Block
one x = roll-Block (record { list = placed x ∷ [] })

-- a function of one statement: no arguments, no result, no variables, no expressions
abbrev pub function_of : Statement → Function
function_of x = record { arguments = []; result = None; local_variables = []; expressions = []; body = one x }

-- function 0 ends what runs it, 1 calls 0, and 2 calls 1
abbrev pub ending : Function
ending = function_of ir.Kill

abbrev pub calling : Function
calling = function_of (ir.Call 0 [] None)

abbrev pub calling_on : Function
calling_on = function_of (ir.Call 1 [] None)

abbrev pub chain_module : Module
chain_module =
    record {
      types = [];
      special_types = record { ray_desc = None };
      constants = [];
      overrides = [];
      global_variables = [];
      global_expressions = [];
      functions = ending ∷ calling ∷ calling_on ∷ [];
      entry_points = [];
    }

-- all three run in the fragment stage alone
abbrev pub of_fragments : FunctionInfo
of_fragments = record { expression_types = []; global_uses = []; available_stages = FRAGMENT; dual_source_blending = false }

abbrev pub chain_infos : ModuleInfo
chain_infos = record { functions = of_fragments ∷ of_fragments ∷ of_fragments ∷ []; entry_points = []; global_types = [] }

-- bodies and expressions are checked, and the target can do nothing more than it must
abbrev pub chain_settings : Settings
chain_settings =
    record {
      flags = record { 0 = bit_or EXPRESSIONS.0 BLOCKS.0 };
      capabilities = NO_CAPABILITY;
      subgroup_stages = NO_STAGE;
      subgroup_operations = NO_OPERATION;
    }

-- what holds of the chain
pub record ChainRows : Type 0 where
  pub vetted : AreVetted (plain_meaning plain_layer) chain_settings [] chain_module chain_infos
  pub reached : Reaches chain_module (body_of calling_on) 0

-- The shape of a body that is accepted: where its Returns stand, and which cases its Switches have.
use Rattle.std.specs.List.{list_any, count_by}
use Rattle.std.specs.Prelude.{ℕ, ◌≡◌, ⊤, Bool, false, Option, Some, All, Contains, slice_get, option_and_then}
use Rattle.ir_statements.specs.Tree.{Stmt, Body, Cases, Switch, Return}
use Rattle.ir_types.specs.Types.{resolved, scalar_kind_of}
use Rattle.ir_types.specs.Unique.{AreDistinct}
use Rattle.ir_module.specs.declared.module.Module.{Module}
use Rattle.ir_statements.specs.declared.operations.SwitchValue.{SwitchValue}
use Rattle.ir_statements.specs.declared.operations.SwitchValue.TheVariants.{I32, U32, Default}
use Rattle.ir_leaves.specs.declared.scalars.ScalarKind.{ScalarKind}
use Rattle.ir_leaves.specs.declared.scalars.ScalarKind.TheVariants.{Sint, Uint}
use Rattle.ir_facts.specs.declared.valid.info.FunctionInfo.{FunctionInfo}
use Rattle.naga_runs.specs.Abilities.{is_continuing, part_of}
use Rattle.naga_runs.specs.Positions.{Position, StatementNode, node_at}
use Rattle.naga_runs.specs.VisitOrder.{positions}
use Rattle.check_flow.specs.Switch.{is_default, values_of, last_falls_through}

-- the statement stands at this position of a body
abbrev pub StandsAt : Body → Position → Stmt → Type 0
StandsAt b p x = Contains (positions b) p × (node_at b p ≡ StatementNode x)

-- whether a position lies in the continuing part of a Loop, at any depth
abbrev pub is_in_continuing : Position → Bool
is_in_continuing p = list_any (λ step. is_continuing (part_of step)) p

-- no Return stands in a continuing part, at any depth
abbrev pub HasNoReturnInContinuing : Body → Type 0
HasNoReturnInContinuing b =
    (p : Position) (value : Option ℕ) → StandsAt b p (Return value) → is_in_continuing p ≡ false

-- a value that a selector of this kind may have: a signed or an unsigned integer as the kind is; the default is for both
abbrev pub IsOfKind : Option ScalarKind → SwitchValue → Type 0
IsOfKind kind (I32 n) = kind ≡ Some Sint
IsOfKind kind (U32 n) = kind ≡ Some Uint
IsOfKind kind Default = ⊤

-- the cases of a Switch by a selector of this kind: exactly one is the default, no value stands twice, each is of the
-- selector's signedness, and the last does not fall through
pub record AreWhole (kind : Option ScalarKind) (cases : Cases) : Type 0 where
  pub default : count_by is_default (values_of cases) ≡ 1
  pub distinct : AreDistinct (values_of cases)
  pub signed : All (IsOfKind kind) (values_of cases)
  pub ends : last_falls_through cases ≡ false

-- the scalar kind of an expression's type, as an info has it
abbrev pub kind_in : Module → FunctionInfo → ℕ → Option ScalarKind
kind_in program info h =
    option_and_then scalar_kind_of (option_and_then (resolved program.types) (slice_get info.expression_types h))

-- each Switch of a body, at any depth, has whole cases, where the info has the types of the selectors
abbrev pub HasWholeSwitches : Module → FunctionInfo → Body → Type 0
HasWholeSwitches program info b =
    (p : Position) (selector : ℕ) (cases : Cases) → StandsAt b p (Switch selector cases) →
    AreWhole (kind_in program info selector) cases

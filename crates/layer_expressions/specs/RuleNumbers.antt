-- The numbers of the rules that types of expressions keep.
use Rattle.std.specs.Prelude.{ℕ, Option, None, Some, Result, Ok, Err}
use Rattle.layer_expressions.specs.declared.rules.Rule.{Rule}
use Rattle.layer_expressions.specs.declared.rules.Rule.TheVariants as rule

abbrev pub number_of : Rule → ℕ
number_of rule.Named = 1
number_of rule.Result = 2
number_of rule.Access = 3
number_of rule.Index = 4
number_of rule.Bounds = 5
number_of rule.Load = 6
number_of rule.Detail = 7
number_of rule.Splat = 8
number_of rule.Swizzle = 9
number_of rule.Unary = 10
number_of rule.Binary = 11
number_of rule.Select = 12
number_of rule.Derivative = 13
number_of rule.Relational = 14
number_of rule.Math = 15
number_of rule.As = 16
number_of rule.Image = 17
number_of rule.Sampler = 18
number_of rule.Coordinate = 19
number_of rule.ArrayIndex = 20
number_of rule.Offset = 21
number_of rule.Level = 22
number_of rule.DepthReference = 23
number_of rule.Sample = 24
number_of rule.ArrayLength = 25
number_of rule.RayQuery = 26
number_of rule.Cooperative = 27

-- what is found, or the rule that is broken where nothing is
abbrev pub or_broken : {A : Type 0} → Rule → Option A → Result A Rule
or_broken rule None = Err rule
or_broken rule (Some x) = Ok x

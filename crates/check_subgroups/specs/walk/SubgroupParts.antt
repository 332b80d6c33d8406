-- Parts of the check lists of subgroup statements, as the code checks them: work of lemmas, cited by functions that the
-- validator alone calls.
use Rattle.std.specs.Prelude.{ℕ, [], ◌∷◌, ◌++◌}
use Rattle.ir_statements.specs.declared.operations.GatherMode.{GatherMode}
use Rattle.ir_errors.specs.declared.function.SubgroupError.TheVariants as wrong
use Rattle.naga_runs.specs.Visits.{VisitPlace}
use Rattle.check_scope.specs.Context.{Context}
use Rattle.check_scope.specs.ScopePoints.{Points, use_point, put_point}
use Rattle.check_subgroups.specs.Subgroup.{subgroup_point, is_result_of}
use Rattle.check_subgroups.specs.SubgroupGather.{index_of, is_broadcast, index_points, is_gathered}
use Rattle.check_scope.specs.ExpressionTypes.{type_at}

-- the result of a collective operation or a gather
abbrev pub combined_points : Context → VisitPlace → ℕ → ℕ → Points
combined_points context place argument r =
    put_point place r ∷ subgroup_point (is_result_of context argument r) (wrong.ResultTypeMismatch r) ∷ []

-- the argument of a gather, then the result
abbrev pub gathered_points : Context → VisitPlace → ℕ → ℕ → Points
gathered_points context place argument r =
    use_point place argument
    ∷ subgroup_point (is_gathered (type_at context argument)) (wrong.InvalidOperand argument)
    ∷ combined_points context place argument r

-- the index of a gather before that
abbrev pub indexed_points : Context → VisitPlace → GatherMode → ℕ → ℕ → Points
indexed_points context place mode argument r =
    index_points context place (is_broadcast mode) argument (index_of mode) ++ gathered_points context place argument r

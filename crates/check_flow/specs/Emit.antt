-- The check list of Emit.
use Rattle.std.specs.Prelude.{ℕ, zero, suc, not, ◌&&◌, ◌||◌, nat_le, nat_lt, map, ◌-◌, [], ◌∷◌, ◌++◌}
use Rattle.ir_errors.specs.declared.function.FunctionError.TheVariants.{EmitResult}
use Rattle.naga_runs.specs.Visits.{VisitPlace}
use Rattle.check_scope.specs.BodyTrees.{emitted_operands}
use Rattle.check_scope.specs.Context.{Context}
use Rattle.check_scope.specs.ScopePoints.{Points, use_point, put_point}
use Rattle.check_scope.specs.Results.{is_result}
use Rattle.check_scope.specs.ExpressionTypes.{expression_at}

-- a place within an Emit whose range begins at `start`: before the handle h the earlier handles of the range count too
abbrev pub within_emit : VisitPlace → ℕ → ℕ → VisitPlace
within_emit place start h =
    record {
      abilities = place.abilities;
      scope = λ k. place.scope k || (nat_le start k && nat_lt k h);
      must = λ k. place.must k || (nat_le start k && nat_lt k h);
    }

-- an expression that is emitted: of none of those kinds, its operands in order, used inside the Emit, and it is put
abbrev pub emitted_points : Context → VisitPlace → VisitPlace → ℕ → Points
emitted_points context inside place h =
    (not (is_result (expression_at context h)), EmitResult h)
    ∷ map (use_point inside) (emitted_operands context.fun h)
    ++ put_point place h
    ∷ []

-- n handles from h on, of a range that begins at `start`
abbrev pub emit_points_from : Context → VisitPlace → ℕ → ℕ → ℕ → Points
emit_points_from context place start h zero = []
emit_points_from context place start h (suc n) =
    emitted_points context (within_emit place start h) place h ++ emit_points_from context place start (suc h) n

-- Emit: the handles of its range, its end excluded
abbrev pub emit_points : Context → VisitPlace → ℕ → ℕ → Points
emit_points context place start end = emit_points_from context place start start (end - start)

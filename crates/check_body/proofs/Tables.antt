-- The table of a function's expressions, as scopes are entered and left.
use Rattle.std.proofs.Common.{◌≡◌, ℕ, Bool, true, false, Option, Some, None, subst, sym, ◌∙◌, arith}
use Rattle.std.specs.Prelude.{◌≢◌, IfSome}
use Rattle.check_scope.specs.Context.{Context}
use Rattle.check_scope.specs.declared.table.ScopeColumn.{ScopeColumn}
use Rattle.check_scope.specs.declared.table.ScopeState.TheVariants.{Open}
use Rattle.check_scope.specs.declared.table.Table.{Table}
use Rattle.check_scope.specs.walk.Table.{Divides, HasEntered, IsLast, IsTableOf, closing_if, count, left, scopes, shown, skipped}
use Rattle.check_scope.proofs.Operands.{entered_operands, left_operands, skipped_operands}

abbrev after : Table → ScopeColumn → Table
after table next = record table { scope = next }

module _ {context : Context} {table : Table} {next : ScopeColumn} where
  pub entered_table : (outer : ℕ) → IsTableOf context table → count next ≡ count table.scope → left (shown next) outer ≡ shown table.scope → HasEntered table.scope next → IsTableOf context (after table next)
  entered_table outer of n shows entered =
      record {
        scope = n ∙ of.scope;
        filled = of.filled;
        results = of.results;
        operands = entered_operands of.operands outer shows entered;
        roots = of.roots;
      }

  pub divided_table : (home : Option ℕ) (held : Bool) (now : Option ℕ) → IsTableOf context table → count next ≡ count table.scope → Divides table.scope next home held now → IsTableOf context (after table next)
  divided_table None true None of n d = absurd d
  divided_table None true (Some h) of n d = entered_table h of n d.0 d.2
  divided_table None false now of n d = subst (λ t. IsTableOf context (record table { scope = t })) (sym d.1) of
  divided_table (Some h) held now of n d = subst (λ t. IsTableOf context (record table { scope = t })) (sym d.1) of

  pub skipped_table : (home : ℕ) → IsTableOf context table → count next ≡ count table.scope → scopes next ≡ scopes table.scope → shown next ≡ skipped (shown table.scope) home → IsLast (shown next) → IsTableOf context (after table next)
  skipped_table home of n taken shows last =
      record {
        scope = n ∙ of.scope;
        filled = of.filled;
        results = of.results;
        operands = skipped_operands of.operands home shows (omega (arith, taken)) last;
        roots = of.roots;
      }

  -- what shows as it did before another scope was entered, where that is left
  pub left_table : {before : Table} (outer : ℕ) (skipped : Option ℕ) → IsTableOf context before → IsTableOf context table → count next ≡ count table.scope → scopes next ≡ scopes table.scope → shown next ≡ closing_if skipped (left (shown table.scope) outer) → shown next ≡ shown before.scope → IfSome skipped (λ n. (left (shown table.scope) outer).state n ≢ Open) → IsTableOf context (after table next)
  left_table outer skipped was of n taken shows same apart =
      record {
        scope = n ∙ of.scope;
        filled = of.filled;
        results = of.results;
        operands = left_operands of.operands outer skipped shows apart (omega (arith, taken)) (subst IsLast (sym same) was.operands.last);
        roots = of.roots;
      }

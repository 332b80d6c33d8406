-- Blocks by how deep they nest.
use Rattle.std.proofs.Common.{◌≡◌, ℕ, zero, suc, ◌-◌, List, Some, None, refl, ap, ◌∙◌, arith}
use Rattle.std.specs.Prelude.{option_map}
use Rattle.serde_json.specs.Data.{Data}
use Rattle.ir_statements.specs.Blocks as blocks
use Rattle.ir_statements.specs.declared.statements.Located.{Located}
use Rattle.json_values.specs.Form.{list_of}
use Rattle.json_statements.specs.Statements.{block_at, located_with}

-- no level is left
pub no_level : (n : ℕ) (d : Data) → n ≡ 0 → block_at n d ≡ None
unfolding block_at
no_level zero d e = refl
no_level (suc n) d e = absurd (omega arith)

-- one level is left, or more
pub some_level : (n : ℕ) (d : Data) → (n ≡ 0 → ⊥) → block_at n d ≡ option_map blocks.block_of (list_of (located_with (block_at (n - 1))) d)
unfolding block_at
some_level zero d h = absurd (h refl)
some_level (suc n) d h =
    let less : n ≡ suc n - 1 = omega arith in
    ap (λ k. option_map blocks.block_of (list_of (located_with (block_at k)) d)) less

pub block_refused : (n : ℕ) (d : Data) → (n ≡ 0 → ⊥) → list_of (located_with (block_at (n - 1))) d ≡ None → block_at n d ≡ None
block_refused n d h e = some_level n d h ∙ ap (option_map blocks.block_of) e

pub block_read : (n : ℕ) (d : Data) (xs : List Located) → (n ≡ 0 → ⊥) → list_of (located_with (block_at (n - 1))) d ≡ Some xs → block_at n d ≡ Some (blocks.block_of xs)
block_read n d xs h e = some_level n d h ∙ ap (option_map blocks.block_of) e

-- The named forms of the expressions that have operands. A form is a list of fields. Each field gives up to two operands, and
-- counts something in `detail`: the operands stand in the order of the fields, and `detail` is the sum.
use Rattle.std.specs.Prelude.{ℕ, ◌+◌, ◌*◌, ◌%◌, ◌^◌, ◌==◌, List, [], ◌∷◌, ◌++◌, map, Bool, codes, Option, None, Some, option_map, if◌then◌else◌, ⊤}
use Rattle.serde_json.specs.Data.{Data, Items, no_items, item}
use Rattle.serde_json.specs.Find.{as_array, as_bool}
use Rattle.json_nodes.specs.Fields.{has_no_other}
use Rattle.json_expressions.specs.declared.expressions.Parts.{Parts}
use Rattle.json_expressions.specs.declared.expressions.PartsName.{PartsName}
use Rattle.json_expressions.specs.declared.expressions.PartsName.TheVariants as parts_name
use Rattle.json_expressions.specs.declared.forms.Field.{Field}
use Rattle.json_expressions.specs.declared.forms.Field.TheVariants as field
use Rattle.json_expressions.specs.declared.forms.LevelName.{LevelName}
use Rattle.json_expressions.specs.declared.forms.LevelName.TheVariants as level_name
use Rattle.json_expressions.specs.declared.forms.Piece.{Piece}
use Rattle.json_expressions.specs.declared.forms.NameTable.TheVariants as table
use Rattle.json_values.specs.Form.{given, field_of, made_of_three, made_of_two, named, one_field, optional, three_fields, triple_in, two_fields}
use Rattle.json_values.specs.ReadNumbers.{u8_of, u32_of}
use Rattle.json_values.specs.Variants.{Variant, plain, holding, variant_of}
use Rattle.json_expressions.specs.FormNames.{names_of, components, levels, level_names, queries, sizes_asked}

-- ---- what a field gives

-- nothing but a count
abbrev pub counted : ℕ → Piece
counted n = record { first = None; second = None; count = n }

-- an operand that counts so much
abbrev pub operand : ℕ → ℕ → Piece
operand n h = record { first = Some h; second = None; count = n }

-- two that count so much
abbrev pub two_operands : ℕ → ℕ → ℕ → Piece
two_operands n h k = record { first = Some h; second = Some k; count = n }

-- an operand that is not there counts nothing
abbrev pub maybe : ℕ → Option ℕ → Piece
maybe n None = counted 0
maybe n (Some h) = operand n h

abbrev pub maybe_of : ℕ → Data → Option Piece
maybe_of n d = option_map (maybe n) (optional u32_of d)

-- nothing is gathered, or a component, whose number counts from 1
abbrev pub gathered : Option ℕ → Piece
gathered None = counted 0
gathered (Some n) = counted (n + 1)

abbrev pub gather_of : Data → Option Piece
gather_of d = option_map gathered (optional (named components) d)

abbrev pub count_if : ℕ → Bool → ℕ
count_if n truth = if truth then n else 0

-- a width in bytes; a bitcast has none
abbrev pub width_from : Option ℕ → Option Piece
width_from None = Some (counted 0)
width_from (Some n) = if n == 0 then None else Some (counted n)

abbrev pub width_of : Data → Option Piece
width_of d = given (optional u8_of d) width_from

-- two components, of which the second counts four times as much as the first
abbrev pub two_components : Data → Data → Option ℕ
two_components a b = given (named components a) (λ x. given (named components b) (λ y. Some (x + 4 * y)))

-- four, each of which counts four times as much as the one before it
abbrev pub four_components : Data × Data × Data × Data → Option ℕ
four_components four = given (two_components four.0 four.1) (λ x. given (two_components four.2 four.3) (λ y. Some (x + 16 * y)))

-- the items, if there are four
abbrev pub four_in : Items → Option (Data × Data × Data × Data)
four_in no_items = None
four_in (item a ds) = option_map (λ t. (a, t.0, t.1, t.2)) (triple_in ds)

-- the pattern of a swizzle
abbrev pub pattern_of : Data → Option Piece
pattern_of d = option_map counted (given (given (as_array d) four_in) four_components)

-- the level of a sample
abbrev pub level_held : LevelName → Data → Option Piece
level_held level_name.Exact d = option_map (operand 10) (u32_of d)
level_held level_name.Bias d = option_map (operand 15) (u32_of d)
level_held level_name.Gradient d = made_of_two (two_operands 20) (two_fields (codes "x") u32_of (codes "y") u32_of d)

abbrev pub level_from : Variant ℕ LevelName → Option Piece
level_from (plain n) = Some (counted n)
level_from (holding name d) = level_held name d

abbrev pub level_of : Data → Option Piece
level_of d = given (variant_of levels level_names d) level_from

-- what is asked of an image: its size, where a level may be given, or something else
abbrev pub query_from : Variant ℕ ⊤ → Option Piece
query_from (plain n) = Some (counted n)
query_from (holding x d) = option_map (maybe 0) (one_field (codes "level") (optional u32_of) d)

abbrev pub query_of : Data → Option Piece
query_of d = given (variant_of queries sizes_asked d) query_from

-- where a cooperative matrix lies
abbrev pub place_of : Data → Option Piece
place_of d = made_of_three (λ pointer stride by_rows. two_operands (count_if 1 by_rows) pointer stride)
    (three_fields (codes "pointer") u32_of (codes "stride") u32_of (codes "row_major") as_bool d)

-- what a field gives, by its value
abbrev pub piece_of : Field → Data → Option Piece
piece_of field.Operand d = option_map (operand 0) (u32_of d)
piece_of (field.Maybe n) d = maybe_of n d
piece_of (field.Name names) d = option_map counted (named (names_of names) d)
piece_of (field.Flag n) d = option_map (λ truth. counted (count_if n truth)) (as_bool d)
piece_of field.Gather d = gather_of d
piece_of field.Width d = width_of d
piece_of field.Pattern d = pattern_of d
piece_of field.Level d = level_of d
piece_of field.Query d = query_of d
piece_of field.Place d = place_of d

-- ---- what all fields give

abbrev pub no_parts : Parts
no_parts = record { operands = []; detail = 0 }

abbrev pub with_operand : List ℕ → Option ℕ → List ℕ
with_operand hs None = hs
with_operand hs (Some h) = hs ++ h ∷ []

-- these and what a field gives; `detail` is a number of 32 bits
abbrev pub with_piece : Parts → Piece → Parts
with_piece parts piece =
    record {
      operands = with_operand (with_operand parts.operands piece.first) piece.second;
      detail = (parts.detail + piece.count) % 2 ^ 32;
    }

abbrev pub with_field : Parts → List ℕ → Field → Data → Option Parts
with_field parts name field d = option_map (with_piece parts) (field_of (piece_of field) name d)

-- these and what the fields from here on give
unfoldable pub parts_from : Parts → List (List ℕ × Field) → Data → Option Parts
parts_from parts [] d = Some parts
parts_from parts (row ∷ rows) d = given (with_field parts row.0 row.1 d) (λ more. parts_from more rows d)

-- the names of the fields of a form
abbrev pub names_in : List (List ℕ × Field) → List (List ℕ)
names_in rows = map (λ row. row.0) rows

-- what an object with exactly these fields gives
unfoldable pub form_of : List (List ℕ × Field) → Data → Option Parts
form_of rows d = if has_no_other (names_in rows) d then parts_from no_parts rows d else None

-- ---- the forms

abbrev pub splat : List (List ℕ × Field)
splat = (codes "size", field.Name table.VectorSize) ∷ (codes "value", field.Operand) ∷ []

abbrev pub swizzle : List (List ℕ × Field)
swizzle =
    (codes "size", field.Name table.SwizzleSize) ∷ (codes "vector", field.Operand) ∷ (codes "pattern", field.Pattern) ∷ []

abbrev pub unary : List (List ℕ × Field)
unary = (codes "op", field.Name table.UnaryOperator) ∷ (codes "expr", field.Operand) ∷ []

abbrev pub binary : List (List ℕ × Field)
binary =
    (codes "op", field.Name table.BinaryOperator) ∷ (codes "left", field.Operand) ∷ (codes "right", field.Operand) ∷ []

abbrev pub select : List (List ℕ × Field)
select = (codes "condition", field.Operand) ∷ (codes "accept", field.Operand) ∷ (codes "reject", field.Operand) ∷ []

abbrev pub derivative : List (List ℕ × Field)
derivative =
    (codes "axis", field.Name table.DerivativeAxis) ∷ (codes "ctrl", field.Name table.DerivativeControl)
    ∷ (codes "expr", field.Operand) ∷ []

abbrev pub relational : List (List ℕ × Field)
relational = (codes "fun", field.Name table.RelationalFunction) ∷ (codes "argument", field.Operand) ∷ []

abbrev pub math : List (List ℕ × Field)
math =
    (codes "fun", field.Name table.MathFunction) ∷ (codes "arg", field.Operand) ∷ (codes "arg1", field.Maybe 0)
    ∷ (codes "arg2", field.Maybe 0) ∷ (codes "arg3", field.Maybe 0) ∷ []

abbrev pub cast : List (List ℕ × Field)
cast = (codes "expr", field.Operand) ∷ (codes "kind", field.Name table.ScalarKind) ∷ (codes "convert", field.Width) ∷ []

abbrev pub image_sample : List (List ℕ × Field)
image_sample =
    (codes "image", field.Operand) ∷ (codes "sampler", field.Operand) ∷ (codes "gather", field.Gather)
    ∷ (codes "coordinate", field.Operand) ∷ (codes "array_index", field.Maybe 25) ∷ (codes "offset", field.Maybe 50)
    ∷ (codes "level", field.Level) ∷ (codes "depth_ref", field.Maybe 100) ∷ (codes "clamp_to_edge", field.Flag 200) ∷ []

abbrev pub image_load : List (List ℕ × Field)
image_load =
    (codes "image", field.Operand) ∷ (codes "coordinate", field.Operand) ∷ (codes "array_index", field.Maybe 1)
    ∷ (codes "sample", field.Maybe 2) ∷ (codes "level", field.Maybe 4) ∷ []

abbrev pub image_query : List (List ℕ × Field)
image_query = (codes "image", field.Operand) ∷ (codes "query", field.Query) ∷ []

-- what a ray query found: the candidate, or what is committed to
abbrev pub ray_query : List (List ℕ × Field)
ray_query = (codes "query", field.Operand) ∷ (codes "committed", field.Flag 1) ∷ []

abbrev pub cooperative_load : List (List ℕ × Field)
cooperative_load =
    (codes "columns", field.Name table.CooperativeColumns) ∷ (codes "rows", field.Name table.CooperativeRows)
    ∷ (codes "role", field.Name table.CooperativeRole) ∷ (codes "data", field.Place) ∷ []

abbrev pub multiply_add : List (List ℕ × Field)
multiply_add = (codes "a", field.Operand) ∷ (codes "b", field.Operand) ∷ (codes "c", field.Operand) ∷ []

-- an ArrayLength is written as its operand alone
abbrev pub length_of : Data → Option Parts
length_of d = option_map (λ h. with_piece no_parts (operand 0 h)) (u32_of d)

-- what the form of each kind gives
abbrev pub named_parts : PartsName → Data → Option Parts
named_parts parts_name.Splat d = form_of splat d
named_parts parts_name.Swizzle d = form_of swizzle d
named_parts parts_name.ImageSample d = form_of image_sample d
named_parts parts_name.ImageLoad d = form_of image_load d
named_parts parts_name.ImageQuery d = form_of image_query d
named_parts parts_name.Unary d = form_of unary d
named_parts parts_name.Binary d = form_of binary d
named_parts parts_name.Select d = form_of select d
named_parts parts_name.Derivative d = form_of derivative d
named_parts parts_name.Relational d = form_of relational d
named_parts parts_name.Math d = form_of math d
named_parts parts_name.As d = form_of cast d
named_parts parts_name.ArrayLength d = length_of d
named_parts parts_name.RayQueryGetIntersection d = form_of ray_query d
named_parts parts_name.RayQueryVertexPositions d = form_of ray_query d
named_parts parts_name.CooperativeLoad d = form_of cooperative_load d
named_parts parts_name.CooperativeMultiplyAdd d = form_of multiply_add d

-- The names of a form, and an object that lacks one of its fields.
use Rattle.std.specs.Borrow.{Bor}
use Rattle.std.proofs.Common.{◌≡◌, ℕ, ◌<◌, ◌+◌, List, [], ◌∷◌, ◌++◌, length, take, set, get_or, Bool, false, true≢false, Option, Some, None, refl, ap, sym, ◌∙◌}
use Rattle.std.specs.Prelude.{◌&&◌, is_some, option_and_then, option_map}
use Rattle.std.proofs.lemmas.List.{take_more, take_more_set, map_push}
use Rattle.serde_json.specs.Data.{Data}
use Rattle.serde_json.specs.Find.{get}
use Rattle.json_expressions.specs.declared.expressions.Parts.{Parts}
use Rattle.json_expressions.specs.declared.forms.Field.{Field}
use Rattle.json_expressions.specs.declared.forms.Piece.{Piece}
use Rattle.json_nodes.specs.Fields.{has_each}
use Rattle.json_values.specs.Form.{given}
use Rattle.json_values.specs.Reads.{rows_of, texts_of}
use Rattle.json_expressions.specs.Forms.{names_in, parts_from, piece_of, with_piece}

-- the names of one row more
rows_more : (rows : List (Bor (List ℕ) × Field)) (row : Bor (List ℕ) × Field) → names_in (rows_of (rows ++ row ∷ [])) ≡ names_in (rows_of rows) ++ row.0.now ∷ []
rows_more rows row = ap names_in (map_push (λ r. (r.0.now, r.1)) rows row) ∙ map_push (λ r. r.0) (rows_of rows) (row.0.now, row.1)

-- the name of the next row is put behind those before it
pub name_more : (names : List (Bor (List ℕ))) (form : List (Bor (List ℕ) × Field)) (i : ℕ) (d : Bor (List ℕ) × Field)
    → i < length names → i < length form → texts_of (take i names) ≡ names_in (rows_of (take i form))
    → texts_of (take (i + 1) (set names i (get_or form i d).0)) ≡ names_in (rows_of (take (i + 1) form))
name_more names form i d in_names in_form same =
    let row = get_or form i d in
    ap texts_of (take_more_set names i row.0 in_names) ∙ map_push (λ n. n.now) (take i names) row.0 ∙ ap (λ ns. ns ++ row.0.now ∷ []) same
    ∙ sym (rows_more (take i form) row) ∙ sym (ap (λ rows. names_in (rows_of rows)) (take_more form i d in_form))

-- what a field gives is followed by nothing
stopped : (parts : Parts) (p : Option Piece) (next : Parts → Option Parts) → ((more : Parts) → next more ≡ None) → given (option_map (with_piece parts) p) next ≡ None
stopped parts None next none = refl
stopped parts (Some piece) next none = none (with_piece parts piece)

lacking : (o : Option Data) (f : Data → Option Piece) (parts : Parts) (rest : Bool) (next : Parts → Option Parts)
    → (is_some o && rest) ≡ false → (rest ≡ false → (more : Parts) → next more ≡ None)
    → given (option_map (with_piece parts) (option_and_then f o)) next ≡ None
lacking None f parts rest next lacks none = refl
lacking (Some d) f parts rest next lacks none = stopped parts (f d) next (none lacks)

-- where a field is missing, the fields give nothing
pub missing : (rows : List (List ℕ × Field)) (d : Data) (parts : Parts) → has_each (names_in rows) d ≡ false → parts_from parts rows d ≡ None
unfolding parts_from
missing [] d parts lacks = absurd (true≢false lacks)
missing (row ∷ rows) d parts lacks =
    lacking (get row.0 d) (piece_of row.1) parts (has_each (names_in rows) d) (λ more. parts_from more rows d) lacks (λ rest more. missing rows d more rest)

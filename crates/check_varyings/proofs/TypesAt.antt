-- Reading a type at its handle.
use Rattle.std.proofs.Common.{◌≡◌, ◌<◌, ℕ, List, Some, length, slice_index_or, ap, subst}
use Rattle.std.specs.Prelude.{slice_get}
use Rattle.std.specs.Option.{option_map}
use Rattle.std.proofs.lemmas.Option.{slice_get-get_or}
use Rattle.ir_types.specs.Types.{NamesTypesBelow, NameEachOther, inner_at}
use Rattle.ir_types.specs.declared.types.Type.{«Type» as IrType}

pub inner_is : (types : List IrType) (h : ℕ) (t : IrType) → slice_get types h ≡ Some t → inner_at types h ≡ Some t.inner
inner_is types h t e = ap (option_map (λ t. t.inner)) e

pub named_at : (types : List IrType) (h : ℕ) (t : IrType) → h < length types → NameEachOther types → slice_get types h ≡ Some t → NamesTypesBelow (length types) t.inner
named_at types h t lt all e =
    let P : IrType → Type 0 = λ t. NamesTypesBelow (length types) t.inner in
    let same : slice_index_or types h t ≡ t = cc (slice_get-get_or types h t lt, e) in
    subst P same (all h t lt)

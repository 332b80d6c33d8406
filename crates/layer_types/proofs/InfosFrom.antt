-- The infos of types, one after another.
use Rattle.std.proofs.Common.{◌≡◌, ◌<◌, ◌+◌, ℕ, List, ◌++◌, ◌∷◌, [], Some, length, drop, ap, ◌∙◌}
use Rattle.std.proofs.lemmas.List.{at_drop_more}
use Rattle.std.proofs.lemmas.Option.{get_or_from_slice_get}
use Rattle.std.specs.Prelude.{slice_get}
use Rattle.ir_types.specs.declared.types.Type.{«Type» as IrType}
use Rattle.ir_types.specs.declared.type_info.TypeInfo.{TypeInfo}
use Rattle.layer_types.specs.ComputedInfos.{infos_from, info_of}

-- the next type's info goes behind those before it
pub next_info : (types : List IrType) (infos : List TypeInfo) (ts : List IrType) (i : ℕ) (t : IrType) → i < length ts
    → slice_get ts i ≡ Some t
    → infos_from types infos (drop i ts) ≡ infos_from types (infos ++ info_of types infos (length infos) t.inner ∷ []) (drop (i + 1) ts)
unfolding infos_from
next_info types infos ts i t lt is =
    at_drop_more (infos_from types infos) ts i t lt
    ∙ ap (λ z. infos_from types infos (z ∷ drop (i + 1) ts)) (get_or_from_slice_get ts i t t is)

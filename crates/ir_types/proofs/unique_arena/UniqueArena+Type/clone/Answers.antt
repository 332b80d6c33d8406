use Rattle.std.proofs.Common.{rules, ◌≡◌, ◌<◌, ◌++◌, ◌∷◌, [], List, length, take, get_or, slice_get, Some, Contains, refl, sym, ap, ◌∙◌, subst}
use Rattle.std.proofs.lemmas.List.{take_more}
use Rattle.std.proofs.lemmas.Option.{slice_get_read}
use Rattle.ir_types.specs.declared.types.Type.{«Type» as IrType}
use Rattle.ir_types.proofs.Unique.{none_before}
use Rattle.ir_types.proofs.unique_arena.UniqueArena+Type.clone.Goals as goal

pub loop-index-preserved : goal.loop-index-preserved
loop-index-preserved c =
    let xs : List IrType = c.args.self.now in
    let k = c.loop-index.index in
    let x = c.in_ok-clone.field-0 in
    let l : k < length xs = search rules in
    let is : x ≡ get_or xs k x = search rules in
    let there : slice_get xs k ≡ Some x = slice_get_read xs (length xs) k x refl l is in
    let WhereItIs : List IrType → Type 0 = λ ys. Contains ys x in
    let absent : Contains c.loop-index.made x → ⊥ = λ h. none_before xs k x c.as_slice-types.ensures.distinct there (subst WhereItIs c.loop-index.invariant h) in
    c.in_ok-insert.ensures.added absent ∙ ap (λ ys. ys ++ x ∷ []) c.loop-index.invariant ∙ ap (λ y. take k xs ++ y ∷ []) is ∙ sym (take_more xs k x l)

-- What the points of ImageStore and ImageAtomic say where they fail.
use Rattle.std.proofs.Common.{ℕ, List, [], ◌∷◌, ◌++◌, None, Some, Option}
use Rattle.std.specs.Prelude.{⊤}
use Rattle.ir_statements.specs.Tree.{Act, Use}
use Rattle.ir_statements.specs.View.{used_if}
use Rattle.ir_statements.specs.declared.operations.AtomicFunction.{AtomicFunction}
use Rattle.ir_flags.specs.declared.capabilities.Capabilities.{Capabilities}
use Rattle.ir_leaves.specs.Formats.{format_scalar}
use Rattle.ir_types.specs.TypeTests.{is_scalar}
use Rattle.ir_leaves.specs.declared.images.StorageFormat.{StorageFormat}
use Rattle.ir_leaves.specs.declared.images.StorageFormat.TheVariants as formats
use Rattle.ir_errors.specs.declared.function.FunctionError.TheVariants.{InvalidImageAtomicValue}
use Rattle.naga_runs.specs.Visits.{VisitPlace}
use Rattle.check_resources.specs.Image.{stored_format}
use Rattle.check_resources.specs.ImageAtomic.{changed_shape, format_points, image_atomic_points}
use Rattle.check_resources.specs.ImageStore.{image_store_points}
use Rattle.check_scope.specs.Context.{Context}
use Rattle.check_scope.specs.ExpressionTypes.{type_at}
use Rattle.check_scope.specs.ScopePoints.{use_point}
use Rattle.check_laws.proofs.Refused.{Answered, answered_both, first_use, second_use, third_use}

module _ (context : Context) (place : VisitPlace) where
  pub image_store_answered : (i c : ℕ) (a : Option ℕ) (v : ℕ) →
      Answered place.must (Use c ∷ (used_if a ++ Use v ∷ [])) ⊤ (image_store_points context place i c a v)
  image_store_answered i c None v = (
    λ e. tt,
    (
      λ e. tt,
      (
        λ e. tt,
        (
          λ e. tt,
          (
            λ e. first_use place.must (Use v ∷ []) c e,
            (
              λ e. tt,
              (λ e. tt, (λ e. second_use place.must c v [] e, (λ e. tt, tt))),
            ),
          ),
        ),
      ),
    ),
  )
  image_store_answered i c (Some a) v = (
    λ e. tt,
    (
      λ e. tt,
      (
        λ e. tt,
        (
          λ e. tt,
          (
            λ e. first_use place.must (Use a ∷ Use v ∷ []) c e,
            (
              λ e. tt,
              (
                λ e. tt,
                (
                  λ e. second_use place.must c a (Use v ∷ []) e,
                  (
                    λ e. tt,
                    (λ e. third_use place.must c a v [] e, (λ e. tt, tt)),
                  ),
                ),
              ),
            ),
          ),
        ),
      ),
    ),
  )

  format_answered : (acts : List Act) (capabilities : Capabilities) (format : StorageFormat) (fun : AtomicFunction) →
      Answered place.must acts ⊤ (format_points capabilities format fun)
  format_answered acts capabilities formats.R64Uint fun = (λ e. tt, (λ e. tt, tt))
  format_answered acts capabilities formats.R32Sint fun = (λ e. tt, (λ e. tt, tt))
  format_answered acts capabilities formats.R32Uint fun = (λ e. tt, (λ e. tt, tt))
  format_answered acts capabilities _ fun = (λ e. tt, tt)

  pub image_atomic_answered : (i c : ℕ) (a : Option ℕ) (fun : AtomicFunction) (v : ℕ) →
      Answered place.must (Use c ∷ (used_if a ++ Use v ∷ [])) ⊤ (image_atomic_points context place i c a fun v)
  image_atomic_answered i c None fun v =
      let format : StorageFormat = stored_format (changed_shape context i).class in
      let acts : List Act = Use c ∷ Use v ∷ [] in (
        λ e. tt,
        (
          λ e. tt,
          (
            λ e. first_use place.must (Use v ∷ []) c e,
            (
              λ e. tt,
              (
                λ e. tt,
                (
                  λ e. tt,
                  (
                    λ e. tt,
                    answered_both place.must acts ⊤ (format_points context.settings.capabilities format fun)
                        (use_point place v ∷ (is_scalar (format_scalar format) (type_at context v), InvalidImageAtomicValue v) ∷ [])
                        (format_answered acts context.settings.capabilities format fun)
                        (λ e. second_use place.must c v [] e, (λ e. tt, tt)),
                  ),
                ),
              ),
            ),
          ),
        ),
      )
  image_atomic_answered i c (Some a) fun v =
      let format : StorageFormat = stored_format (changed_shape context i).class in
      let acts : List Act = Use c ∷ Use a ∷ Use v ∷ [] in (
        λ e. tt,
        (
          λ e. tt,
          (
            λ e. first_use place.must (Use a ∷ Use v ∷ []) c e,
            (
              λ e. tt,
              (
                λ e. tt,
                (
                  λ e. second_use place.must c a (Use v ∷ []) e,
                  (
                    λ e. tt,
                    (
                      λ e. tt,
                      (
                        λ e. tt,
                        answered_both place.must acts ⊤ (format_points context.settings.capabilities format fun)
                            (use_point place v ∷ (is_scalar (format_scalar format) (type_at context v), InvalidImageAtomicValue v) ∷ [])
                            (format_answered acts context.settings.capabilities format fun)
                            (λ e. third_use place.must c a v [] e, (λ e. tt, tt)),
                      ),
                    ),
                  ),
                ),
              ),
            ),
          ),
        ),
      )

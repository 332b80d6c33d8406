-- Marks of the functions whose signatures are known to fit.
use Rattle.std.proofs.Common.{◌≡◌, ℕ, Bool, true, false, List, Option, Some, None, slice_get, refl}
use Rattle.std.specs.Prelude.{unwrap_or}
use Rattle.ir_module.specs.declared.module.Module.{Module}
use Rattle.ir_facts.specs.FitsBody.{CalleeFits}
use Rattle.ir_misfits.specs.FittingSignatures.{MarkFitting}

module _ (m : Module) (marks : List Bool) where
  -- what is marked fits
  pub marked_fits : (h : ℕ) → MarkFitting m marks → unwrap_or (slice_get marks h) false ≡ true → CalleeFits m h
  marked_fits h known e = by_mark (slice_get marks h) refl e
    where
      by_mark : (o : Option Bool) → slice_get marks h ≡ o → unwrap_or o false ≡ true → CalleeFits m h
      by_mark None is e = cc
      by_mark (Some mark) is e = known h mark is e

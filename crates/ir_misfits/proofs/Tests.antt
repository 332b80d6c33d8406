-- A check that finds the first of some points is Ok exactly where what they ask for holds.
use Rattle.std.proofs.Common.{◌≡◌, ◌↔◌, IsTrue, Bool, refl, sym, subst, ◌∙◌, None}
use Rattle.std.specs.Prelude.{Result, Ok, Err}
use Rattle.std.specs.Result.{is_ok, result_err}
use Rattle.ir_arena.specs.Points.{first_fault}
use Rattle.ir_misfits.specs.declared.misfit.Misfit.{Misfit}
use Rattle.ir_misfits.specs.MisfitPoints.{MisfitPoints}
use Rattle.ir_misfits.proofs.Exact.{Exact}

is_ok_where_none : {A : Type 0} (r : Result A Misfit) → IsTrue (is_ok r) → result_err r ≡ None
is_ok_where_none (Ok x) h = refl
is_ok_where_none (Err e) h = cc

none_where_is_ok : {A : Type 0} (r : Result A Misfit) → result_err r ≡ None → IsTrue (is_ok r)
none_where_is_ok (Ok x) h = search
none_where_is_ok (Err e) h = cc

pub decides : {A : Type 0} {ps : MisfitPoints} {P : Type 0} (r : Result A Misfit) (b : Bool) →
    result_err r ≡ first_fault ps → b ≡ is_ok r → Exact ps P → IsTrue b ↔ P
decides {A} {ps} {P} r b told value exact = (
  λ h. exact.holds (sym told ∙ is_ok_where_none r (subst IsTrue value h)),
  λ p. subst IsTrue (sym value) (none_where_is_ok r (told ∙ exact.passes p)),
)

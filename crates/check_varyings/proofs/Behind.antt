-- What an answer says of points that stand one behind another.
use Rattle.std.proofs.Common.{◌≡◌, Bool, true, List, ◌∷◌, ◌++◌, Option, None, Some, Result, Ok, Err, sym, ap, ◌∙◌}
use Rattle.std.specs.Prelude.{IsErr, if◌then◌else◌}
use Rattle.std.specs.Option.{option_or}
use Rattle.std.specs.Result.{result_err}
use Rattle.ir_arena.specs.Points.{Point, first_fault}
use Rattle.ir_arena.proofs.Points.{first_of_both}

-- a fault of the first points, one behind them, and one behind a point that holds
pub fault_first : {T Fault : Type 0} (r : Result T Fault) (ps qs : List (Point Fault)) → IsErr r → result_err r ≡ first_fault ps → result_err r ≡ first_fault (ps ++ qs)
fault_first (Ok t) ps qs err e = cc
fault_first (Err f) ps qs err e = ap (λ o. option_or o (first_fault qs)) e ∙ sym (first_of_both ps qs)

pub fault_second : {Fault : Type 0} (o : Option Fault) (ps qs : List (Point Fault)) → first_fault ps ≡ None → o ≡ first_fault qs → o ≡ first_fault (ps ++ qs)
fault_second o ps qs none e = e ∙ sym (first_of_both ps qs ∙ ap (λ z. option_or z (first_fault qs)) none)

pub fault_behind : {Fault : Type 0} (o : Option Fault) (c : Bool) (f : Fault) (ps : List (Point Fault)) → c ≡ true → o ≡ first_fault ps → o ≡ first_fault ((c, f) ∷ ps)
fault_behind o c f ps holds e = e ∙ ap (λ b. if b then first_fault ps else Some f) (sym holds)

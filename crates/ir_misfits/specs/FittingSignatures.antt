-- The functions of a module whose signatures fit, so that none is checked again wherever it is named.
use Rattle.std.specs.Prelude.{◌≡◌, ◌↔◌, List, Bool, true, length}
use Rattle.ir_module.specs.declared.module.Module.{Module}
use Rattle.ir_facts.specs.Each.{EachAt}
use Rattle.ir_facts.specs.FitsBody.{CalleeFits}

-- there is one mark for each function of the module, by its handle, and it is true exactly where the signature of this function
-- fits
pub record AreFittingMarks (m : Module) (marks : List Bool) : Type 0 where
  pub one_each : length marks ≡ length m.functions
  pub exact : EachAt (λ h mark. (mark ≡ true) ↔ CalleeFits m h) marks

-- each true mark says of the function with its place as handle that it is there and its signature fits; a false one, or none,
-- says nothing
abbrev pub MarkFitting : Module → List Bool → Type 0
MarkFitting m marks = EachAt (λ h mark. mark ≡ true → CalleeFits m h) marks

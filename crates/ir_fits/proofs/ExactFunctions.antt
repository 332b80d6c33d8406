-- What the points of a function ask for is that it fits.
use Rattle.std.proofs.Common.{◌<◌, ℕ, ◌++◌, All, length}
use Rattle.std.specs.Prelude.{IfSome}
use Rattle.ir_statements.specs.View.{body_of, no_operands}
use Rattle.ir_module.specs.declared.functions.Function.{Function}
use Rattle.ir_module.specs.declared.functions.LocalVariable.{LocalVariable}
use Rattle.ir_module.specs.declared.module.Module.{Module}
use Rattle.ir_facts.specs.Fits.{FitsFunction, LocalFits, NameEarlierExpressions, ReferencesFit}
use Rattle.ir_facts.specs.FitsBody.{SignatureFits, BodyFits}
use Rattle.ir_arena.specs.Points.{points_of_each}
use Rattle.ir_misfits.specs.declared.misfit.HandleOf.TheVariants as handle
use Rattle.ir_misfits.specs.declared.misfit.Owner.{Owner}
use Rattle.ir_misfits.specs.declared.misfit.Place.TheVariants as place
use Rattle.ir_misfits.specs.declared.misfit.VariableField.TheVariants as field
use Rattle.ir_misfits.specs.MisfitPoints.{named_if}
use Rattle.ir_misfits.specs.OfSignatures.{signature_points}
use Rattle.ir_misfits.specs.OfExpressions.{expressions_points, reference_points}
use Rattle.ir_misfits.specs.OfBodies.{body_points}
use Rattle.ir_fits.specs.OfFunctions.{local_points, function_points}
use Rattle.ir_misfits.proofs.Exact.{Exact, said, named_then, named_if_alone, both, all_exact}
use Rattle.ir_misfits.proofs.ExactParts.{signature_exact, expressions_exact, reference_exact}
use Rattle.ir_misfits.proofs.ExactBodies.{body_exact}

pub local_exact : (m : Module) (f : Function) (of : Owner) (k : ℕ) (v : LocalVariable) → Exact (local_points m f of k v) (LocalFits m f v)
local_exact m f of k v =
    let init = place.InLocal of k field.Init in
    let n = length f.expressions in
    named_then (place.InLocal of k field.Ty) handle.Types (length m.types) v.ty (named_if init handle.Expressions n v.init) (IfSome v.init (λ h. h < n))
    (named_if_alone init handle.Expressions n v.init)

pub function_exact : (of : Owner) (f : Function) (m : Module) (earlier : ℕ) → Exact (function_points of f m earlier) (FitsFunction f m earlier)
function_exact of f m earlier =
    let n = length f.expressions in
    let P1 : Type 0 = SignatureFits m f in
    let P2 : Type 0 = All (LocalFits m f) f.local_variables in
    let P3 : Type 0 = NameEarlierExpressions f.expressions in
    let P4 : Type 0 = All (ReferencesFit m f) f.expressions in
    let P5 : Type 0 = BodyFits m n earlier (body_of no_operands f.body) in
    let ps1 = signature_points m of f in
    let ps2 = points_of_each (local_points m f of) f.local_variables in
    let ps3 = expressions_points of f.expressions in
    let ps4 = points_of_each (reference_points m f of) f.expressions in
    let ps5 = body_points m n earlier of 0 (body_of no_operands f.body) in
    let e2 = all_exact (LocalFits m f) (local_points m f of) (local_exact m f of) f.local_variables in
    let e4 = all_exact (ReferencesFit m f) (reference_points m f of) (reference_exact m f of) f.expressions in
    let e5 = body_exact m n earlier of 0 (body_of no_operands f.body) in
    said
    (λ h. record { signature = h.0; locals = h.1.0; operands = h.1.1.0; references = h.1.1.1.0; body = h.1.1.1.1 })
    (λ x. (x.signature, (x.locals, (x.operands, (x.references, x.body)))))
    (both ps1 (ps2 ++ (ps3 ++ (ps4 ++ ps5))) P1 (P2 × (P3 × (P4 × P5))) (signature_exact m of f)
    (both ps2 (ps3 ++ (ps4 ++ ps5)) P2 (P3 × (P4 × P5)) e2
    (both ps3 (ps4 ++ ps5) P3 (P4 × P5) (expressions_exact of f.expressions) (both ps4 ps5 P4 P5 e4 e5))))

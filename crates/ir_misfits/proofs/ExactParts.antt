-- What the points of signatures and expressions ask for is that they fit.
use Rattle.std.proofs.Common.{◌≡◌, ◌<◌, ℕ, List, [], ◌∷◌, ◌++◌, All, Option, Some, None, length, slice_get, refl}
use Rattle.std.proofs.lemmas.Option.{slice_get_within}
use Rattle.std.specs.Prelude.{⊤, IfSome, IsSomeAnd}
use Rattle.ir_module.specs.declared.expressions.Expression.{Expression}
use Rattle.ir_module.specs.declared.expressions.Expression.TheVariants as e
use Rattle.ir_module.specs.declared.functions.Function.{Function}
use Rattle.ir_module.specs.declared.functions.FunctionResult.{FunctionResult}
use Rattle.ir_module.specs.declared.module.Module.{Module}
use Rattle.ir_module.specs.Operands.{operands_of}
use Rattle.ir_facts.specs.Fits.{NameEarlierExpressions, ReferencesFit}
use Rattle.ir_facts.specs.FitsBody.{SignatureFits, CalleeFits}
use Rattle.ir_arena.specs.Points.{points_of_each}
use Rattle.ir_misfits.specs.declared.misfit.HandleOf.TheVariants as handle
use Rattle.ir_misfits.specs.declared.misfit.Owner.{Owner}
use Rattle.ir_misfits.specs.declared.misfit.Owner.TheVariants as owner
use Rattle.ir_misfits.specs.declared.misfit.Place.{Place}
use Rattle.ir_misfits.specs.declared.misfit.Place.TheVariants as place
use Rattle.ir_misfits.specs.MisfitPoints.{named}
use Rattle.ir_misfits.specs.OfSignatures.{argument_points, outcome_points, signature_points, signature_points_if, callee_points}
use Rattle.ir_misfits.specs.OfExpressions.{expressions_of, operand_points, operands_points, expressions_points, reference_points}
use Rattle.ir_misfits.proofs.Lists.{none_is_past}
use Rattle.ir_misfits.proofs.Exact.{Exact, nothing, said, named_then, named_alone, counted_then, both, each_exact, all_exact}

-- signatures
outcome_exact : (of : Owner) (n : ℕ) (o : Option FunctionResult) → Exact (outcome_points of n o) (IfSome o (λ r. r.ty < n))
outcome_exact of n None = nothing
outcome_exact of n (Some r) = named_alone (place.ResultType of) handle.Types n r.ty

pub signature_exact : (m : Module) (of : Owner) (f : Function) → Exact (signature_points m of f) (SignatureFits m f)
signature_exact m of f =
    let n = length m.types in
    let P : Type 0 = All (λ a. a.ty < n) f.arguments in
    let Q : Type 0 = IfSome f.result (λ r. r.ty < n) in
    let arguments = all_exact (λ a. a.ty < n) (argument_points of n) (λ k a. named_alone (place.ArgumentType of k) handle.Types n a.ty) f.arguments in
    let rest = both (points_of_each (argument_points of n) f.arguments) (outcome_points of n f.result) P Q arguments (outcome_exact of n f.result) in
    said
    (λ h. record { count = h.0; arguments = h.1.0; result_type = h.1.1 })
    (λ s. (s.count, (s.arguments, s.result_type)))
    (counted_then (place.Arguments of) (length f.arguments) (points_of_each (argument_points of n) f.arguments ++ outcome_points of n f.result) (P × Q) rest)

callee_where : (m : Module) (at : Place) (h : ℕ) (o : Option Function) → slice_get m.functions h ≡ o →
    Exact (named at handle.Functions (length m.functions) h ∷ signature_points_if m h o) (IsSomeAnd o (SignatureFits m))
callee_where m at h None e =
    let n = length m.functions in
    let this = named_then at handle.Functions n h [] ⊤ nothing in
    record {
      holds = λ c. absurd (none_is_past m.functions h e (this.holds c).0);
      passes = λ f. absurd f;
    }
callee_where m at h (Some f) e =
    let lt : h < length m.functions = slice_get_within m.functions h f e in
    said (λ s. s.1) (λ s. (lt, s))
    (named_then at handle.Functions (length m.functions) h (signature_points m (owner.Function h) f) (SignatureFits m f) (signature_exact m (owner.Function h) f))

pub callee_exact : (m : Module) (at : Place) (h : ℕ) → Exact (callee_points m at h) (CalleeFits m h)
callee_exact m at h = callee_where m at h (slice_get m.functions h) refl

-- expressions
pub operands_exact : (of : Owner) (k : ℕ) (x : Expression) → Exact (operands_points of k x) (All (λ h. h < k) (operands_of x))
operands_exact of k x =
    all_exact (λ h. h < k) (operand_points of k) (λ i h. named_alone (place.Operand of k i) (expressions_of of) k h) (operands_of x)

pub expressions_exact : (of : Owner) (xs : List Expression) → Exact (expressions_points of xs) (NameEarlierExpressions xs)
expressions_exact of xs =
    each_exact (operands_points of) (λ k x. All (λ h. h < k) (operands_of x)) (operands_exact of) xs

pub reference_exact : (m : Module) (f : Function) (of : Owner) (k : ℕ) (x : Expression) → Exact (reference_points m f of k x) (ReferencesFit m f x)
reference_exact m f of k (e.Constant h) = named_alone (place.Reference of k) handle.Constants (length m.constants) h
reference_exact m f of k (e.Override h) = named_alone (place.Reference of k) handle.Overrides (length m.overrides) h
reference_exact m f of k (e.ZeroValue t) = named_alone (place.Reference of k) handle.Types (length m.types) t
reference_exact m f of k (e.Compose t hs) = named_alone (place.Reference of k) handle.Types (length m.types) t
reference_exact m f of k (e.GlobalVariable h) = named_alone (place.Reference of k) handle.GlobalVariables (length m.global_variables) h
reference_exact m f of k (e.LocalVariable h) = named_alone (place.Reference of k) handle.LocalVariables (length f.local_variables) h
reference_exact m f of k (e.CallResult h) = callee_exact m (place.Reference of k) h
reference_exact m f of k (e.AtomicResult t c) = named_alone (place.Reference of k) handle.Types (length m.types) t
reference_exact m f of k (e.WorkGroupUniformLoadResult t) = named_alone (place.Reference of k) handle.Types (length m.types) t
reference_exact m f of k (e.SubgroupOperationResult t) = named_alone (place.Reference of k) handle.Types (length m.types) t
reference_exact m f of k (e.Literal l) = nothing
reference_exact m f of k (e.Access b i) = nothing
reference_exact m f of k (e.AccessIndex b i) = nothing
reference_exact m f of k (e.FunctionArgument i) = nothing
reference_exact m f of k (e.Load p) = nothing
reference_exact m f of k e.RayQueryProceedResult = nothing
reference_exact m f of k e.SubgroupBallotResult = nothing
reference_exact m f of k (e.Splat d hs) = nothing
reference_exact m f of k (e.Swizzle d hs) = nothing
reference_exact m f of k (e.ImageSample d hs) = nothing
reference_exact m f of k (e.ImageLoad d hs) = nothing
reference_exact m f of k (e.ImageQuery d hs) = nothing
reference_exact m f of k (e.Unary d hs) = nothing
reference_exact m f of k (e.Binary d hs) = nothing
reference_exact m f of k (e.Select d hs) = nothing
reference_exact m f of k (e.Derivative d hs) = nothing
reference_exact m f of k (e.Relational d hs) = nothing
reference_exact m f of k (e.Math d hs) = nothing
reference_exact m f of k (e.As d hs) = nothing
reference_exact m f of k (e.ArrayLength d hs) = nothing
reference_exact m f of k (e.RayQueryGetIntersection d hs) = nothing
reference_exact m f of k (e.RayQueryVertexPositions d hs) = nothing
reference_exact m f of k (e.CooperativeLoad d hs) = nothing
reference_exact m f of k (e.CooperativeMultiplyAdd d hs) = nothing

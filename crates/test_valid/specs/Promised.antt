-- Facts of accepted modules, which the promises of check_module say.
use Rattle.std.specs.Prelude.{ℕ, ◌≡◌, [], ◌∷◌, true, false, Option, Some, slice_get}
use Rattle.naga_below.specs.{CallResult, EntryPoint, Function, FunctionInfo, Module, ModuleInfo, ResourceBinding, Return, Settings}
use Rattle.naga_module.specs.{checks_blocks, checks_expressions, checks_bindings, body_of, pre_emitted_of}
use Rattle.naga_module.specs.{IsUsedAt, nodes_of, callees_filling, StandsAt, is_in_continuing}
use Rattle.naga_runs.specs.Positions.{Position}
use Rattle.naga_runs.specs.Soundness.{RunsAreSure}

-- no two globals that entry point 0 uses share a binding
unfoldable pub BindingsOfFirst : Settings → Module → ModuleInfo → Type 0
BindingsOfFirst settings m infos = checks_bindings settings.flags ≡ true →
    (first : EntryPoint) (info : FunctionInfo) → slice_get m.entry_points 0 ≡ Some first →
    slice_get infos.entry_points 0 ≡ Some info →
    (b : ResourceBinding) (h k : ℕ) → IsUsedAt m.global_variables info.global_uses b h →
    IsUsedAt m.global_variables info.global_uses b k → h ≡ k

-- each result of a call, in function 0 and in each other one, is filled once, by a Call of its function
unfoldable pub ResultsAreFilledOnce : Settings → Module → Type 0
ResultsAreFilledOnce settings m = checks_blocks settings.flags ≡ true → checks_expressions settings.flags ≡ true →
    (k : ℕ) (fun : Function) → slice_get m.functions k ≡ Some fun →
    (r f : ℕ) → slice_get fun.expressions r ≡ Some (CallResult f) → callees_filling r (nodes_of (body_of fun)) ≡ f ∷ []

-- function 0 has no Return in a continuing part
unfoldable pub FirstReturnsElsewhere : Settings → Module → Type 0
FirstReturnsElsewhere settings m = checks_blocks settings.flags ≡ true →
    (first : Function) → slice_get m.functions 0 ≡ Some first →
    (p : Position) (value : Option ℕ) → StandsAt (body_of first) p (Return value) → is_in_continuing p ≡ false

-- all runs of function 0 are sound
unfoldable pub FirstIsSound : Settings → Module → Type 0
FirstIsSound settings m = checks_blocks settings.flags ≡ true →
    (first : Function) → slice_get m.functions 0 ≡ Some first → RunsAreSure (pre_emitted_of first) (body_of first)

-- What `detail` says of samples, loads and queries of images.
use Rattle.std.specs.Prelude.{ℕ, Bool, ◌-◌, ◌/◌, ◌%◌, ◌==◌, List, [], ◌∷◌, Option, None, Some, slice_get, nat_lt, if◌then◌else◌}
use Rattle.std.specs.Option.{option_map}
use Rattle.layer_forms.specs.declared.images.ImageQuery.{ImageQuery}
use Rattle.layer_forms.specs.declared.images.ImageQuery.TheVariants as query
use Rattle.layer_forms.specs.declared.images.LevelKind.{LevelKind}
use Rattle.layer_forms.specs.declared.images.LevelKind.TheVariants as level
use Rattle.layer_forms.specs.declared.images.Loading.{Loading}
use Rattle.layer_forms.specs.declared.images.SampleForm.{SampleForm}
use Rattle.layer_forms.specs.declared.vectors.SwizzleComponent.{SwizzleComponent}
use Rattle.layer_forms.specs.Vectors.{components}

abbrev pub levels : List LevelKind
levels = level.Auto ∷ level.Zero ∷ level.Exact ∷ level.Bias ∷ level.Gradient ∷ []

abbrev pub queries : List ImageQuery
queries = query.Size ∷ query.NumLevels ∷ query.NumLayers ∷ query.NumSamples ∷ []

-- the component that is gathered: 0 for none, then those of a vector
abbrev pub gather_of : ℕ → Option SwizzleComponent
gather_of n = if n == 0 then None else slice_get components (n - 1)

abbrev pub flag : ℕ → Bool
flag n = n % 2 == 1

-- gather, 5 times the level, and 25, 50, 100, 200 for an array index, an offset, a depth reference, clamping to the edge
abbrev pub sampling_of : ℕ → Option SampleForm
sampling_of detail =
    if nat_lt detail 400
    then option_map (λ l. record {
      gather = gather_of (detail % 5);
      level = l;
      has_array_index = flag (detail / 25);
      has_offset = flag (detail / 50);
      has_depth_ref = flag (detail / 100);
      clamp_to_edge = flag (detail / 200);
    }) (slice_get levels (detail / 5 % 5))
    else None

-- 1, 2, 4 for an array index, a sample, a level
abbrev pub load_of : ℕ → Option Loading
load_of detail =
    if nat_lt detail 8
    then Some (record { has_array_index = flag detail; has_sample = flag (detail / 2); has_level = flag (detail / 4) })
    else None

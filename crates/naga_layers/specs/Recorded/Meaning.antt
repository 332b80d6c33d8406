-- What the layer of recorded facts means.
use Rattle.std.specs.Prelude.{[], slice_get}
use Rattle.std.specs.Option.{option_flatten}
use Rattle.ir_facts.specs.Meaning.{Meaning}
use Rattle.naga_layers.specs.Kinds.{kinds_from}
use Rattle.naga_layers.specs.Recorded.Asked.{fact_asked}
use Rattle.ir_facts.specs.Facts.{analysis_of, analysis_at}
use Rattle.naga_layers.specs.Recorded.Infos.{recorded_info, recorded_stages}
use Rattle.naga_layers.specs.declared.recorded.Recorded.{Recorded}

-- of functions and expressions what the fact of the function says, of outputs of mesh shaders and sizes of types what is
-- recorded at their handle; kinds are computed
abbrev pub recorded_meaning : Recorded → Meaning
recorded_meaning recorded =
    record {
      function_info = λ f m infos flags capabilities. recorded_info (fact_asked recorded.facts m infos) f m;
      expression_stages = λ settings h f m info infos kinds. recorded_stages (fact_asked recorded.facts m infos) h;
      mesh_analysis = λ m output. analysis_of (analysis_at recorded.facts output);
      kinds_of = λ es. kinds_from [] es;
      size_of = λ m t. option_flatten (slice_get recorded.facts.sizes t);
    }

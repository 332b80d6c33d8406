-- What the plain layer means.
use Rattle.std.specs.Prelude.{[], ◌∷◌, None, Ok}
use Rattle.ir_flags.specs.Bits.{ALL_STAGES}
use Rattle.ir_module.specs.declared.module.MeshOutputTopology.TheVariants.{Points}
use Rattle.ir_facts.specs.Meaning.{Meaning}
use Rattle.layer_types.specs.Sizes.{size_at}
use Rattle.naga_layers.specs.Kinds.{kinds_from}
use Rattle.naga_layers.specs.Plain.Infos.{plain_info}
use Rattle.naga_layers.specs.declared.plain.Plain.{Plain}

-- it types the plainest expressions; every expression may run in all stages; one mesh analysis answers for all
abbrev pub plain_meaning : Plain → Meaning
plain_meaning plain =
    record {
      function_info = λ f m earlier flags capabilities. plain_info f m;
      expression_stages = λ settings h f m info earlier kinds. Ok ALL_STAGES;
      mesh_analysis = λ m output. plain.analysis;
      kinds_of = λ es. kinds_from [] es;
      size_of = λ m t. size_at m.types t;
    }

-- the one for modules without mesh shaders: its analysis is one of nothing
abbrev pub plain_layer : Plain
plain_layer =
    record {
      analysis = record {
        implied = record {
          topology = Points;
          max_vertices = 0;
          max_vertices_override = None;
          max_primitives = 0;
          max_primitives_override = None;
          vertex_output_type = 0;
          primitive_output_type = 0;
          output_variable = 0;
        };
        overrides = None ∷ None ∷ [];
        fault = None;
      };
    }

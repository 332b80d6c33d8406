-- What a module is judged over, as it is lent.
use Rattle.std.specs.Prelude.{◌≡◌, Option, None, Some}
use Rattle.ir_module.specs.declared.module.Module.{Module}
use Rattle.ir_facts.specs.Meaning.{Meaning}
use Rattle.naga_layers.specs.Typed.Meaning.{typed_meaning}
use Rattle.naga_layers.specs.Recorded.Meaning.{recorded_meaning}
use Rattle.naga_layers.specs.declared.recorded.Recorded.{Recorded}
use Rattle.json_document.specs.declared.document.Known.{Known}
use Rattle.json_verdict.specs.Judges.{meaning_over, infos_over, types_over}
use Rattle.json_verdict.specs.declared.basis.Basis.{Basis}

-- what the lower layer answers: the one that answers facts, or else the one that computes
abbrev pub meaning_of : Option Recorded → Meaning
meaning_of None = typed_meaning
meaning_of (Some layer) = recorded_meaning layer

-- it is what a module is judged over with these facts, or without
pub record IsBasis (known : Option Known) (m : Module) (basis : Basis) : Type 0 where
  pub meaning : meaning_of basis.layer ≡ meaning_over known
  pub infos : basis.given.types.items ≡ infos_over known m
  pub types : basis.given.global_types.items ≡ types_over known m

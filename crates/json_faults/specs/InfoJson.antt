-- What is known of an accepted entry point.
use Rattle.std.specs.Prelude.{codes}
use Rattle.ir_facts.specs.declared.valid.info.FunctionInfo.{FunctionInfo}
use Rattle.json.specs.Json.{Json, boolean}
use Rattle.json_faults.specs.JsonForm.{list_form, three_fields}
use Rattle.json_faults.specs.SetJson.{global_use_form, stages_form}

-- the stages that its body could run in, whether it outputs two blend sources, and how it uses each global
unfoldable pub info_form : FunctionInfo → Json
info_form info =
    three_fields (codes "stages") (stages_form info.available_stages) (codes "dual_source_blending")
    (boolean info.dual_source_blending) (codes "uses") (list_form global_use_form info.global_uses)

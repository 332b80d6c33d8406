use Rattle.std.proofs.Common.{option_map, ap, ◌∙◌}
use Rattle.json_nodes.specs.Written.{only_field}
use Rattle.json_nodes.proofs.fields.only_field.Goals as goal

pub returns-in-Some-last_value : goal.returns-in-Some-last_value
returns-in-Some-last_value c ms here =
    let f = c.in-Some.ensures.value ms here in
    let name = c.in-Some.name.now in
    let g = c.in-Some-last_value.ensures f.0 f.1 f.3 f.4 in
    (g.0, ap only_field f.2 ∙ ap (option_map (λ i. (name, i))) g.1, g.2)

pub returns-in-None-last_value : goal.returns-in-None-last_value
returns-in-None-last_value c ms here =
    let f = c.in-Some.ensures.value ms here in
    let name = c.in-Some.name.now in
    ap only_field f.2 ∙ ap (option_map (λ i. (name, i))) (c.in-None-last_value.ensures f.0 f.1 f.3 f.4)

pub returns-in-None : goal.returns-in-None
returns-in-None c ms here = ap only_field (c.in-None.ensures.value ms here)

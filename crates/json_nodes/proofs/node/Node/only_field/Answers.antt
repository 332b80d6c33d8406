use Rattle.std.proofs.Common.{None, option_and_then, sym, ap}
use Rattle.json.specs.Find as find
use Rattle.serde_json.specs.Find.{as_object}
use Rattle.json_nodes.specs.Fields.{only_of}
use Rattle.json_nodes.proofs.Values.{only_field_kept}
use Rattle.json_nodes.proofs.Members.{json_only}
use Rattle.json_nodes.proofs.Views.{seen, only, not_only}
use Rattle.json_nodes.proofs.node.Node.only_field.Goals as goal

pub invariant_of-result : goal.invariant_of-result
invariant_of-result c = (only _ _ c.self.view_is c.self.invariant _ _ c.in-Some-only_field.name.now c.in-Some.ensures c.in-Some-only_field.ensures).0

pub returns-in-Some-only_field : goal.returns-in-Some-only_field
returns-in-Some-only_field c = (only _ _ c.self.view_is c.self.invariant _ _ c.in-Some-only_field.name.now c.in-Some.ensures c.in-Some-only_field.ensures).1

pub returns-in-None-only_field : goal.returns-in-None-only_field
returns-in-None-only_field c = not_only _ _ c.self.view_is c.self.invariant _ c.in-Some.ensures c.in-None-only_field.ensures

pub returns-in-None : goal.returns-in-None
returns-in-None c =
    seen _ _ c.self.view_is c.self.invariant (λ j. option_and_then json_only (find.as_object j)) (λ d. option_and_then only_of (as_object d)) only_field_kept None
    (λ j at. ap (option_and_then json_only) (sym (c.in-None.ensures j at)))

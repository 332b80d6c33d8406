use Rattle.naga_runs.proofs.Judgements.{by_tree, compositional, accepted_is_sure, accepted_block_is_sure}
use Rattle.naga_runs.proofs.Witnessed.{fault_is_of_a_visit}
use Rattle.naga_runs.proofs.judgement_law.Goals as goal

pub returns : goal.returns
returns g c = record {
  by_tree = by_tree;
  compositional = compositional;
  sure = accepted_is_sure;
  block_sure = accepted_block_is_sure;
  refused = fault_is_of_a_visit;
}

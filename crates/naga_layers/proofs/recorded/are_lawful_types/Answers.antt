use Rattle.std.proofs.Common.{rules, tests}
use Rattle.std.proofs.lemmas.Iterator.{YieldsList-from_slice}
use Rattle.std.proofs.lemmas.Iterator.Search.{all_from_yields_List}
use Rattle.naga_layers.specs.Recorded.Infos.{is_lawful_type}
use Rattle.naga_layers.proofs.recorded.are_lawful_types.Goals as goal

pub returns : goal.returns
returns c =
    all_from_yields_List (is_lawful_type c.args.count) _ _ c.all.result c.all.ensures.ran (YieldsList-from_slice c.args.types.now cc) (λ x b q k. search (rules, tests))

use Rattle.std.proofs.Common.{◌≡◌, sym, ◌∙◌}
use Rattle.json_nodes.proofs.Views.{next_item, next_rest, next_means}
use Rattle.json_nodes.proofs.items.Items.next.Goals as goal
use Rattle.json_nodes.proofs.items.Items.next.Goals.{in-Some, in-None}

pub invariant_of-result : goal.invariant_of-result
invariant_of-result c = next_item _ _ _ c.self.view_is c.self.invariant _ c.in-Some.ensures.value

pub invariant_of-self : goal.invariant_of-self
invariant_of-self c = next_rest _ _ _ c.self.view_is c.self.invariant _ c.next.ensures.value c.next.ensures.stays

pub returns-clause-value : goal.returns-clause-value
returns-clause-value c =
    let same : c.match-next.result ≡ c.next.result = elim c.match-next.branch [ in-Some w ↦ w.result-is ∙ sym w.in-Some.is | in-None w ↦ w.result-is ∙ sym w.in-None.is ] in
    next_means _ _ _ c.self.view_is c.self.invariant _ _ same c.next.ensures.value

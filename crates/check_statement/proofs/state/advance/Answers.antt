use Rattle.check_scope.specs.walk.SeenContext.{context_of}
use Rattle.check_statement.proofs.state.advance.Goals as goal

pub returns-clause-results : goal.returns-clause-results
returns-clause-results c = c.fill_named.ensures.results (context_of c.args.context.now)

-- The context that the code passes on, as the definitions have it: work of lemmas, cited by functions that the validator
-- alone calls.
use Rattle.check_scope.specs.Context.{Context}
use Rattle.check_scope.specs.declared.context.BlockContext.{BlockContext}

abbrev pub context_of : BlockContext → Context
context_of c =
    record {
      program = c.program.now;
      earlier = c.earlier.now;
      fun = c.fun.now;
      info = c.info.now;
      kinds = c.kinds.now;
      settings = c.settings;
      trace = c.trace;
    }

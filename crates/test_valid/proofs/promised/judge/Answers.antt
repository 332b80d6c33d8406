use Rattle.test_valid.specs.Promised.{BindingsOfFirst, ResultsAreFilledOnce, FirstReturnsElsewhere, FirstIsSound}
use Rattle.test_valid.proofs.promised.judge.Goals as goal

pub returns-clause-bindings : goal.returns-clause-bindings
unfolding BindingsOfFirst
returns-clause-bindings c = λ on first info is known. (c.in_ok-infos.ensures.bindings on).bindings 0 first info is known

pub returns-clause-filled : goal.returns-clause-filled
unfolding ResultsAreFilledOnce
returns-clause-filled c = λ on looked k fun is r f call. (((c.in_ok-infos.ensures.filled on looked).functions k fun is).calls r f call).0

pub returns-clause-returns : goal.returns-clause-returns
unfolding FirstReturnsElsewhere
returns-clause-returns c = λ on first is. (c.in_ok-infos.ensures.holds on).returns 0 first is

pub returns-clause-sound : goal.returns-clause-sound
unfolding FirstIsSound
returns-clause-sound c = λ on first is. (c.in_ok-infos.ensures.holds on).functions 0 first is

use Rattle.json_verdict.proofs.basis.Basis.judge.Goals as goal

pub returns-in-Some : goal.returns-in-Some
returns-in-Some c =
    rw c.in-Some.is (rw (c.in_ok-given.ensures.types, c.in_ok-given.ensures.globals) at c.check_module.ensures.judged)

pub returns-in-None : goal.returns-in-None
returns-in-None c =
    rw c.in-None.is (rw (c.in_ok-given.ensures.types, c.in_ok-given.ensures.globals) at c.check_module-in-None.ensures.judged)

use Rattle.json_verdict.proofs.basis.Basis.misfit.Goals as goal

pub returns-in-Some : goal.returns-in-Some
returns-in-Some c = rw c.in-Some.is c.find_misfit.ensures.first

pub returns-in-None : goal.returns-in-None
returns-in-None c = rw c.in-None.is c.find_misfit-in-None.ensures.first

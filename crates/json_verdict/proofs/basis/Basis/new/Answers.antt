use Rattle.std.proofs.Common.{refl, ap}
use Rattle.json_verdict.specs.Basis.{meaning_of}
use Rattle.json_verdict.proofs.basis.Basis.new.Goals as goal

pub returns-in-Some : goal.returns-in-Some
returns-in-Some c = rw c.in-Some.is (record {
  meaning = ap meaning_of c.of_facts.ensures.layer;
  infos = c.of_facts.ensures.infos;
  types = c.of_facts.ensures.globals;
})

pub returns-in_ok-computed-in-None : goal.returns-in_ok-computed-in-None
returns-in_ok-computed-in-None c = rw c.in-None.is (record {
  meaning = refl;
  infos = c.in_ok-computed-in-None.ensures.types;
  types = c.in_ok-computed-in-None.ensures.globals;
})

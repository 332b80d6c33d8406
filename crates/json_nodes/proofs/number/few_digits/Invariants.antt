use Rattle.json_nodes.proofs.Digits.{Read}
use Rattle.json_nodes.proofs.number.few_digits.Given as goal

abbrev pub invariant-loop-byte : goal.invariant-loop-byte
invariant-loop-byte l = Read l.text l.byte-index l.whole

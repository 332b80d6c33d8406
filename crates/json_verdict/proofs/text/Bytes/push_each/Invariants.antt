use Rattle.std.proofs.Common.{ℕ, List, ◌++◌, take}
use Rattle.json_verdict.specs.walk.Stream.{Holds}
use Rattle.json_verdict.proofs.text.Bytes.push_each.Given as goal

abbrev pub invariant-loop-byte : goal.invariant-loop-byte
invariant-loop-byte l = (text : List ℕ) → Holds l.initial.self text → Holds l.self (text ++ take l.byte-index l.bytes)

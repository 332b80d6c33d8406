use Rattle.std.proofs.Common.{◌≡◌, ◌≤◌, ◌++◌, length, take}
use Rattle.std.specs.Prelude.{string_bytes}
use Rattle.json_answers.specs.VerdictJson.{pointer_text}
use Rattle.json_answers.proofs.pointer.pointer_text.Given as goal

abbrev pub invariant-loop-left : goal.invariant-loop-left
invariant-loop-left l = record {
  within : l.left ≤ length l.steps;
  text : string_bytes l.text ++ pointer_text (take l.left l.steps) ≡ pointer_text l.steps;
}

abbrev pub decreases-loop-left : goal.decreases-loop-left
decreases-loop-left l = l.left

use Rattle.std.proofs.Common.{◌≡◌, ◌+◌, ◌-◌, ◌++◌, take, arith}
use Rattle.std.specs.Prelude.{string_bytes}
use Rattle.json_answers.proofs.Pointers.{pointer_on}
use Rattle.json_answers.specs.VerdictJson.{pointer_text}
use Rattle.json_answers.proofs.pointer.pointer_text.Goals as goal

pub loop-left-preserved : goal.loop-left-preserved
loop-left-preserved c =
    let steps = c.args.steps.now in
    let left = c.loop-left.left in
    let some = c.loop-left-test.true in
    let within = c.loop-left.invariant.within in
    let here : left - 1 + 1 ≡ left = omega (arith, some) in
    let before : string_bytes c.loop-left.text ++ pointer_text (take (left - 1 + 1) steps) ≡ pointer_text steps =
    rw here c.loop-left.invariant.text in
    record {
      within = omega (arith, within);
      text = pointer_on (string_bytes c.loop-left.text) _ _ steps (left - 1) _ (omega (arith, some, within))
          c.in_ok-push_step.ensures before;
    }

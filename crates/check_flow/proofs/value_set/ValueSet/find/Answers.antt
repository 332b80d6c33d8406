use Rattle.std.proofs.Common.{rules, ◌≡◌, ◌+◌, ◌-◌, Some, None, slice_get, sym, ap, ◌∙◌, arith}
use Rattle.std.specs.Prelude.{if◌then◌else◌}
use Rattle.check_flow.specs.declared.value_set.Found.TheVariants.{Here, Free}
use Rattle.check_flow.specs.Switch.{is_default}
use Rattle.check_flow.specs.walk.ValueSet.{found_at, found_from}
use Rattle.check_flow.proofs.ValueSets.{looked, one_place}
use Rattle.check_flow.proofs.value_set.ValueSet.find.Goals as goal

pub loop-step-init : goal.loop-step-init
loop-step-init c =
    let same : c.start_of-start.result + 0 ≡ c.start_of-start.result = omega arith in
    ap (λ p. found_from c.args.self.now.places.items c.args.value p 8) same

pub returns-in_default : goal.returns-in_default
returns-in_default c =
    let set = c.args.self.now in
    let start = c.start_of-start.result in
    let step = c.loop-step.step in
    let all = looked set c.args.value c.number_of.result start (sym c.is_default.ensures ∙ c.if-is_default.false) c.number_of.ensures c.start_of-start.ensures in
    let none : slice_get set.places.items (start + step) ≡ None = ap (λ l. slice_get l (start + step)) (sym c.as_slice.ensures.value) ∙ sym c.value_at.ensures ∙ search rules in
    let behind = found_from set.places.items c.args.value (start + (step + 1)) (8 - (step + 1)) in
    sym (all ∙ sym c.loop-step.invariant ∙ one_place set.places.items c.args.value start step c.loop-step-test.true
    ∙ ap (λ o. found_at o c.args.value (start + step) behind) none)

pub returns-then-same_value : goal.returns-then-same_value
returns-then-same_value c =
    let set = c.args.self.now in
    let start = c.start_of-start.result in
    let step = c.loop-step.step in
    let w = c.in-Some.stands in
    let all = looked set c.args.value c.number_of.result start (sym c.is_default.ensures ∙ c.if-is_default.false) c.number_of.ensures c.start_of-start.ensures in
    let read : slice_get set.places.items (start + step) ≡ Some w = ap (λ l. slice_get l (start + step)) (sym c.as_slice.ensures.value) ∙ sym c.value_at.ensures ∙ c.in-Some.is in
    let behind = found_from set.places.items c.args.value (start + (step + 1)) (8 - (step + 1)) in
    sym (all ∙ sym c.loop-step.invariant ∙ one_place set.places.items c.args.value start step c.loop-step-test.true
    ∙ ap (λ o. found_at o c.args.value (start + step) behind) read
    ∙ ap (λ b. if b then Here else if is_default w then Free (start + step) else behind) (sym c.same_value.ensures ∙ c.if-same_value.true))

pub returns-then-is_default-2 : goal.returns-then-is_default-2
returns-then-is_default-2 c =
    let set = c.args.self.now in
    let start = c.start_of-start.result in
    let step = c.loop-step.step in
    let w = c.in-Some.stands in
    let all = looked set c.args.value c.number_of.result start (sym c.is_default.ensures ∙ c.if-is_default.false) c.number_of.ensures c.start_of-start.ensures in
    let read : slice_get set.places.items (start + step) ≡ Some w = ap (λ l. slice_get l (start + step)) (sym c.as_slice.ensures.value) ∙ sym c.value_at.ensures ∙ c.in-Some.is in
    let behind = found_from set.places.items c.args.value (start + (step + 1)) (8 - (step + 1)) in
    sym (all ∙ sym c.loop-step.invariant ∙ one_place set.places.items c.args.value start step c.loop-step-test.true
    ∙ ap (λ o. found_at o c.args.value (start + step) behind) read
    ∙ ap (λ b. if b then Here else if is_default w then Free (start + step) else behind) (sym c.same_value.ensures ∙ c.if-same_value.false)
    ∙ ap (λ b. if b then Free (start + step) else behind) (sym c.is_default-in-loop-step.ensures ∙ c.if-is_default-2.true))

pub loop-step-preserved : goal.loop-step-preserved
loop-step-preserved c =
    let set = c.args.self.now in
    let start = c.start_of-start.result in
    let step = c.loop-step.step in
    let w = c.in-Some.stands in
    let read : slice_get set.places.items (start + step) ≡ Some w = ap (λ l. slice_get l (start + step)) (sym c.as_slice.ensures.value) ∙ sym c.value_at.ensures ∙ c.in-Some.is in
    let behind = found_from set.places.items c.args.value (start + (step + 1)) (8 - (step + 1)) in
    sym (one_place set.places.items c.args.value start step c.loop-step-test.true
    ∙ ap (λ o. found_at o c.args.value (start + step) behind) read
    ∙ ap (λ b. if b then Here else if is_default w then Free (start + step) else behind) (sym c.same_value.ensures ∙ c.if-same_value.false)
    ∙ ap (λ b. if b then Free (start + step) else behind) (sym c.is_default-in-loop-step.ensures ∙ c.if-is_default-2.false))
    ∙ c.loop-step.invariant

pub returns : goal.returns
returns c =
    let set = c.args.self.now in
    let start = c.start_of-start.result in
    let step = c.loop-step.step in
    let all = looked set c.args.value c.number_of.result start (sym c.is_default.ensures ∙ c.if-is_default.false) c.number_of.ensures c.start_of-start.ensures in
    let none : 8 - step ≡ 0 = omega arith in
    sym (all ∙ sym c.loop-step.invariant ∙ ap (found_from set.places.items c.args.value (start + step)) none)

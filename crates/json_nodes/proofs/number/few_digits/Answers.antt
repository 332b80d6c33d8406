use Rattle.std.proofs.Common.{◌≡◌, ◌+◌, ◌-◌, ◌*◌, ◌^◌, ◌<◌, length, get_or, sym, subst, arith}
use Rattle.std.proofs.lemmas.Bool.Decides.{nat_tests}
use Rattle.json_nodes.proofs.Digits.{Read, read_more, read_below, read_all}
use Rattle.json_nodes.proofs.number.few_digits.Goals as goal

pub overflow_mul-whole : goal.overflow_mul-whole
overflow_mul-whole c =
    let small : c.loop-byte.whole < 10 ^ 18 = read_below c.args.text.now c.loop-byte.byte-index c.loop-byte.whole (omega arith) c.loop-byte.invariant in
    omega arith

pub overflow_add-whole : goal.overflow_add-whole
overflow_add-whole c =
    let small : c.loop-byte.whole < 10 ^ 18 = read_below c.args.text.now c.loop-byte.byte-index c.loop-byte.whole (omega arith) c.loop-byte.invariant in
    omega arith

pub loop-byte-preserved : goal.loop-byte-preserved
loop-byte-preserved c =
    let s = c.args.text.now in
    let i = c.loop-byte.byte-index in
    let digit : c.from.result ≡ get_or s i 0 - 48 = omega arith in
    subst (λ d. Read s (i + 1) (c.loop-byte.whole * 10 + d)) (sym digit) (read_more s i c.loop-byte.whole c.loop-byte-test.true (omega arith) (omega arith) c.loop-byte.invariant)

pub returns : goal.returns
returns c =
    let s = c.args.text.now in
    let some : 0 < length s = grind (arith, nat_tests) in
    read_all s c.loop-byte.byte-index c.loop-byte.whole c.loop-byte-test.false some c.if-text-gt-SAFE_DIGITS.false c.loop-byte.invariant

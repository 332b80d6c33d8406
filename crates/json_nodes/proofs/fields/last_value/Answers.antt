use Rattle.std.proofs.Common.{◌≡◌, true, false, cond, None, option_map, bytes_eq, refl, ap, ◌∙◌, subst, arith}
use Rattle.json.specs.Json.{no_members}
use Rattle.json.specs.Find.{NextMember}
use Rattle.json_nodes.specs.Written.{last_value}
use Rattle.json_nodes.proofs.fields.last_value.Goals as goal

pub loop-key-init : goal.loop-key-init
loop-key-init c j ms begins here = (j, ms, begins, here, refl)

pub returns-then-ne : goal.returns-then-ne
returns-then-ne c j ms begins here =
    let name = c.args.name.now in
    let now = c.loop-key.invariant j ms begins here in
    let f = c.in-Some.ensures.value now.1 now.3 in
    let other : bytes_eq c.in-Some.key.now name ≡ false = grind arith in
    now.4 ∙ ap (last_value name now.0) f.2 ∙ ap (λ b. cond b (last_value name f.0 f.1) None) other

pub loop-key-preserved : goal.loop-key-preserved
loop-key-preserved c j ms begins here =
    let name = c.args.name.now in
    let now = c.loop-key.invariant j ms begins here in
    let f = c.in-Some.ensures.value now.1 now.3 in
    let same : bytes_eq c.in-Some.key.now name ≡ true = grind arith in
    (f.0, f.1, f.3, f.4, now.4 ∙ ap (last_value name now.0) f.2 ∙ ap (λ b. cond b (last_value name f.0 f.1) None) same)

pub returns : goal.returns
returns c j ms begins here =
    let name = c.args.name.now in
    let now = c.loop-key.invariant j ms begins here in
    let done : now.1 ≡ no_members = subst (λ r. NextMember c.loop-key.rest (option_map (λ m. (m.0.now, m.1)) r) c.next.new.self) c.in_default.is c.next.ensures.value now.1 now.3 in
    (now.0, now.4 ∙ ap (last_value name now.0) done, now.2)

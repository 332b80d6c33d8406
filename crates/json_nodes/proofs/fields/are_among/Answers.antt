use Rattle.std.proofs.Common.{◌≡◌, ◌&&◌, map, option_map, refl, sym, ap, ◌∙◌, subst}
use Rattle.json.specs.Json.{no_members}
use Rattle.json.specs.Find.{NextMember}
use Rattle.json_nodes.specs.Written.{are_among}
use Rattle.json_nodes.proofs.fields.are_among.Goals as goal

pub loop-key-init : goal.loop-key-init
loop-key-init c ms here = (ms, here, refl)

pub returns-then-not-is_among : goal.returns-then-not-is_among
returns-then-not-is_among c ms here =
    let names = map (λ n. n.now) c.args.names.now in
    let now = c.loop-key.invariant ms here in
    let f = c.in-Some.ensures.value now.0 now.1 in
    sym (now.2 ∙ ap (are_among names) f.2 ∙ ap (λ b. b && are_among names f.1) (sym c.is_among.ensures ∙ c.if-not-is_among.true))

pub loop-key-preserved : goal.loop-key-preserved
loop-key-preserved c ms here =
    let names = map (λ n. n.now) c.args.names.now in
    let now = c.loop-key.invariant ms here in
    let f = c.in-Some.ensures.value now.0 now.1 in
    (f.1, f.4, now.2 ∙ ap (are_among names) f.2 ∙ ap (λ b. b && are_among names f.1) (sym c.is_among.ensures ∙ c.if-not-is_among.false))

pub returns : goal.returns
returns c ms here =
    let names = map (λ n. n.now) c.args.names.now in
    let now = c.loop-key.invariant ms here in
    let done : now.0 ≡ no_members = subst (λ r. NextMember c.loop-key.rest (option_map (λ m. (m.0.now, m.1)) r) c.next.new.self) c.in_default.is c.next.ensures.value now.0 now.1 in
    sym (now.2 ∙ ap (are_among names) done)

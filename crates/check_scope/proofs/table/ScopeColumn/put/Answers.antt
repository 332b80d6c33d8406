use Rattle.std.proofs.Common.{refl, arith, length-set, ◌<◌, ◌≡◌, false, ◌∷◌, [], subst, sym, ap, ◌∙◌}
use Rattle.check_scope.specs.walk.Table.{count, known, shown, with_puts}
use Rattle.check_scope.proofs.Columns.{put_inside, put_outside}
use Rattle.check_scope.proofs.table.ScopeColumn.put.Goals as goal

pub returns : goal.returns
unfolding known shown
returns c =
    let t = c.args.self.now in
    let is = sym c.index.ensures.value in
    let there = subst (λ h. h < count t) is c.requires.there in
    let new = subst (λ h. (known t).scope h ≡ false) is c.requires.new in
    record {
      inside = put_inside t.numbers.items t.states.items t.innermost t.sound c.index.result there new ∙ ap (λ h. with_puts (known t) (h ∷ [])) c.index.ensures.value;
      outside = put_outside t.numbers.items t.states.items t.innermost t.sound c.index.result there new;
      inner = refl;
      as_many = length-set t.numbers.items c.index.result t.innermost;
      taken = omega arith;
    }

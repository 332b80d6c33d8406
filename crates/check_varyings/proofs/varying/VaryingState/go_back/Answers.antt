use Rattle.std.proofs.Common.{refl, sym, ap, ◌∙◌, take_all}
use Rattle.check_varyings.specs.CodeVaryings.{far_less}
use Rattle.check_varyings.specs.Varyings.{far_in, seen_by}
use Rattle.check_varyings.specs.declared.varying.Near.{Near}
use Rattle.check_varyings.proofs.Kept.{less_none, less_turn, same_far}
use Rattle.check_varyings.proofs.varying.VaryingState.go_back.Goals as goal

pub loop-location-init : goal.loop-location-init
loop-location-init c = record { near = refl; far = λ n. sym (less_none (far_in c.args.self.now) n) }

pub loop-location-preserved : goal.loop-location-preserved
loop-location-preserved c = record {
  near = c.loop-location.invariant.near;
  far = less_turn (far_in c.args.self.now) _ _ c.args.added.now _ _ c.loop-location-test.true c.loop-location.invariant.far c.remove.ensures;
}

pub returns : goal.returns
returns c =
    ap (λ (near : Near). seen_by near (far_in c.loop-location.self)) c.loop-location.invariant.near
    ∙ same_far c.args.near _ _ (λ n. c.loop-location.invariant.far n ∙ ap (λ l. far_less (far_in c.args.self.now) l n) (take_all c.loop-location.location-index c.args.added.now c.loop-location-test.false))

use Rattle.std.proofs.Common.{◌≡◌, ◌<◌, true≢false, length, map, Some, slice_get, refl, sym, ap, ◌∙◌, subst, rules, arith}
use Rattle.std.proofs.lemmas.List.{length-map}
use Rattle.std.proofs.lemmas.Option.{slice_get_read, same_Some}
use Rattle.ir_arena.specs.LastPlaces.{past, IsLastBefore}
use Rattle.ir_types.specs.Unique.{hash_of}
use Rattle.ir_types.proofs.Unique.{begins, comes_down, goes_on, place_of}
use Rattle.ir_types.proofs.unique_arena.UniqueArena.find.Goals as goal

pub loop-next-init : goal.loop-next-init
loop-next-init g c =
    let h = hash_of g.T.Hash.hash_input in
    let hashes : c.self.inside.positions ≡ map h c.args.self.now = c.self.invariant.hashed ∙ ap (map h) c.self.view_is in
    begins h c.args.self.now c.args.value.now c.last-next.result
    (subst (λ hs. IsLastBefore hs (length hs) (h c.args.value.now) c.last-next.result) hashes
    (subst (λ n. IsLastBefore c.self.inside.positions (length c.self.inside.positions) n c.last-next.result) c.requires c.last-next.ensures))

pub index-requires : goal.index-requires
index-requires g c =
    let below : c.in-Some.place < length c.args.self.now = (c.loop-next.invariant.0 c.in-Some.place c.in-Some.is).0 in
    let same : length c.self.inside.values.items ≡ length c.args.self.now = ap length c.self.view_is in
    search rules

pub returns-then-eq-clause-found : goal.returns-then-eq-clause-found
returns-then-eq-clause-found g c =
    let below : c.in-Some.place < length c.args.self.now = (c.loop-next.invariant.0 c.in-Some.place c.in-Some.is).0 in
    let long : length c.self.inside.values.items ≡ length c.args.self.now = ap length c.self.view_is in
    let within : c.in-Some.place < length c.self.inside.values.items = omega arith in
    let at = slice_get_read c.self.inside.values.items (length c.self.inside.values.items) c.in-Some.place c.index.result.now refl within c.index.ensures in
    let same : c.index.result.now ≡ c.args.value.now = g.met.T.Identical.identical _ _ (sym c.eq.ensures ∙ c.if-eq.true) in
    ap (λ ys. slice_get ys c.in-Some.place) (sym c.self.view_is) ∙ at ∙ ap Some same

pub before-next-requires : goal.before-next-requires
before-next-requires g c =
    let h = hash_of g.T.Hash.hash_input in
    let below : c.in-Some.place < length c.args.self.now = (c.loop-next.invariant.0 c.in-Some.place c.in-Some.is).0 in
    let hashes : length c.self.inside.positions ≡ length (map h c.args.self.now) = ap length (c.self.invariant.hashed ∙ ap (map h) c.self.view_is) in
    let same : length (map h c.args.self.now) ≡ length c.args.self.now = length-map c.args.self.now h in
    omega arith

pub loop-next-smaller : goal.loop-next-smaller
loop-next-smaller g c =
    let h = hash_of g.T.Hash.hash_input in
    let v = c.args.value.now in
    let place = c.in-Some.place in
    let hashes : c.self.inside.positions ≡ map h c.args.self.now = c.self.invariant.hashed ∙ ap (map h) c.self.view_is in
    let at : slice_get c.self.inside.positions place ≡ Some (h v) = ap (λ hs. slice_get hs place) hashes ∙ (c.loop-next.invariant.0 place c.in-Some.is).1 in
    comes_down c.self.inside.positions place (h v) c.loop-next.next c.before-next.result c.in-Some.is (c.before-next.ensures (h v) at)

pub loop-next-preserved : goal.loop-next-preserved
loop-next-preserved g c =
    let h = hash_of g.T.Hash.hash_input in
    let xs = c.args.self.now in
    let v = c.args.value.now in
    let place = c.in-Some.place in
    let below : place < length xs = (c.loop-next.invariant.0 place c.in-Some.is).0 in
    let long : length c.self.inside.values.items ≡ length xs = ap length c.self.view_is in
    let within : place < length c.self.inside.values.items = omega arith in
    let there : slice_get xs place ≡ Some c.index.result.now =
    ap (λ ys. slice_get ys place) (sym c.self.view_is) ∙ slice_get_read c.self.inside.values.items (length c.self.inside.values.items) place c.index.result.now refl within c.index.ensures in
    let other : slice_get xs place ≡ Some v → ⊥ = λ at.
    let same : c.index.result.now ≡ v = same_Some _ _ (sym there ∙ at) in
    true≢false (sym ((g.met.T.Eq.laws).refl v) ∙ ap (λ x. g.T.PartialEq.eq x v) (sym same) ∙ sym c.eq.ensures ∙ c.if-eq.false) in
    let hashes : c.self.inside.positions ≡ map h xs = c.self.invariant.hashed ∙ ap (map h) c.self.view_is in
    let hash_there : slice_get c.self.inside.positions place ≡ Some (h v) = ap (λ hs. slice_get hs place) hashes ∙ (c.loop-next.invariant.0 place c.in-Some.is).1 in
    let last = subst (λ hs. IsLastBefore hs place (h v) c.before-next.result) hashes (c.before-next.ensures (h v) hash_there) in
    goes_on h xs v place c.loop-next.next c.before-next.result c.in-Some.is c.loop-next.invariant other last

pub returns-clause-absent : goal.returns-clause-absent
returns-clause-absent g c found =
    let at = place_of c.args.self.now c.args.value.now found in
    let below : found.0 < past c.loop-next.next = c.loop-next.invariant.1 found.0 at in
    let none : found.0 < 0 = subst (λ o. found.0 < past o) c.in_default.is below in
    omega arith

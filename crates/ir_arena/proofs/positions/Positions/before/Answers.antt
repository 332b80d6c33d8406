use Rattle.std.proofs.Common.{◌≡◌, ◌<◌, ℕ, List, Option, Some, length, refl, slice_get, ap, subst, arith}
use Rattle.std.proofs.lemmas.Option.{slice_get_read}
use Rattle.ir_arena.specs.LastPlaces.{IsLastBefore}
use Rattle.ir_arena.proofs.positions.Positions.before.Goals as goal

pub returns : goal.returns
returns c hash at =
    let befores : List (Option ℕ) = c.self.inside.before.items in
    let there : c.args.place < length c.args.self.now = c.requires in
    let within : c.args.place < length befores = let e = c.self.inside.linked.lengths in let v = c.self.view_is in let w : length c.self.inside.hashes.items ≡ length c.args.self.now = ap length v in omega arith in
    let kept : slice_get befores c.args.place ≡ Some c.index.result.now = slice_get_read befores (length befores) c.args.place c.index.result.now refl within c.index.ensures in
    let Q : List ℕ → Type 0 = λ ys. slice_get ys c.args.place ≡ Some hash → IsLastBefore ys c.args.place hash c.index.result.now in
    subst Q c.self.view_is (λ found. c.self.inside.linked.of_places c.args.place hash c.index.result.now found kept) at

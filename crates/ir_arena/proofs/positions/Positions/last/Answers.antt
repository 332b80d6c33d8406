use Rattle.std.proofs.Common.{◌≡◌, ℕ, List, Option, length, nat_eq, sym, ◌∙◌, subst}
use Rattle.std.specs.HashMap.{get}
use Rattle.ir_arena.specs.LastPlaces.{IsLastBefore}
use Rattle.ir_arena.proofs.positions.Positions.last.Goals as goal

pub returns : goal.returns
returns c =
    let found : c.copied.result ≡ get nat_eq c.self.inside.last c.args.hash = c.copied.ensures ∙ c.get.ensures.value in
    let xs : List ℕ = c.self.inside.hashes.items in
    let P : Option ℕ → Type 0 = λ o. IsLastBefore xs (length xs) c.args.hash o in
    let Q : List ℕ → Type 0 = λ ys. IsLastBefore ys (length ys) c.args.hash c.copied.result in
    subst Q c.self.view_is (subst P (sym found) (c.self.inside.linked.of_numbers c.args.hash))

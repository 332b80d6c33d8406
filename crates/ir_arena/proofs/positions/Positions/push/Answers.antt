use Rattle.std.proofs.Common.{◌≡◌, ◌++◌, ◌∷◌, [], ℕ, List, Option, Some, length, nat_eq, cond, take, sym, ap, ◌∙◌, subst, rules}
use Rattle.std.specs.HashMap.{get}
use Rattle.std.specs.Map.{lookup}
use Rattle.std.proofs.lemmas.List.{take_at}
use Rattle.ir_arena.specs.LastPlaces.{AreLinked, IsLastBefore}
use Rattle.ir_arena.proofs.Links.{linked_push}
use Rattle.ir_arena.proofs.positions.Positions.push.Goals as goal

pub invariant_of-self-inside-in_default-insert : goal.invariant_of-self-inside-in_default-insert
invariant_of-self-inside-in_default-insert c =
    let xs : List ℕ = c.self.inside.hashes.items in
    let h : ℕ = c.args.hash in
    let b : Option ℕ = c.last-before.result in
    let count : length xs ≡ c.len-count.result = search rules in
    let xs_now : xs ++ h ∷ [] ≡ c.push.new.self.items = search rules in
    let befores_now : c.self.inside.before.items ++ b ∷ [] ≡ c.push-2.new.self.items = search rules in
    let at_last : IsLastBefore xs (length xs) h b = subst (λ ys. IsLastBefore ys (length ys) h b) (sym c.self.view_is) c.last-before.ensures in
    let gives : (x : ℕ) → get nat_eq c.insert.new.self x ≡ cond (nat_eq h x) (Some (length xs)) (get nat_eq c.self.inside.last x) = λ x. c.in_default-insert.ensures.updates.0 x ∙ ap (λ n. cond (nat_eq h x) (Some n) (get nat_eq c.self.inside.last x)) (sym count) in
    let are = linked_push xs h c.self.inside.before.items (get nat_eq c.self.inside.last) (get nat_eq c.insert.new.self) b c.self.inside.linked at_last gives in
    (subst (λ ys. AreLinked ys c.push-2.new.self.items (get nat_eq c.insert.new.self)) xs_now (subst (λ bs. AreLinked (xs ++ h ∷ []) bs (get nat_eq c.insert.new.self)) befores_now are), tt)

pub invariant_of-self-inside-in-Err-insert : goal.invariant_of-self-inside-in-Err-insert
invariant_of-self-inside-in-Err-insert c =
    let xs : List ℕ = c.self.inside.hashes.items in
    let befores : List (Option ℕ) = c.self.inside.before.items in
    let xs_longer : c.push.new.self.items ≡ xs ++ c.args.hash ∷ [] = search rules in
    let befores_longer : c.push-2.new.self.items ≡ befores ++ c.last-before.result ∷ [] = search rules in
    let count : length xs ≡ c.len-count.result = search rules in
    let xs_same : xs ≡ c.truncate-in-Err-insert.new.self.items =
    sym (c.truncate-in-Err-insert.ensures.items ∙ ap (take c.len-count.result) xs_longer ∙ take_at xs (c.args.hash ∷ []) c.len-count.result count) in
    let before_same : befores ≡ c.truncate-in-Err-insert-2.new.self.items =
    sym (c.truncate-in-Err-insert-2.ensures.items ∙ ap (take c.len-count.result) befores_longer ∙ take_at befores (c.last-before.result ∷ []) c.len-count.result (c.self.inside.linked.lengths ∙ count)) in
    let entries : c.insert.new.self.entries ≡ c.self.inside.last.entries = search rules in
    let last_same : get nat_eq c.self.inside.last ≡ get nat_eq c.insert.new.self = ap (λ es. λ x. lookup (nat_eq x) es) (sym entries) in
    (subst (λ f. AreLinked c.truncate-in-Err-insert.new.self.items c.truncate-in-Err-insert-2.new.self.items f) last_same (subst (λ bs. AreLinked c.truncate-in-Err-insert.new.self.items bs (get nat_eq c.self.inside.last)) before_same (subst (λ ys. AreLinked ys befores (get nat_eq c.self.inside.last)) xs_same c.self.inside.linked)), tt)

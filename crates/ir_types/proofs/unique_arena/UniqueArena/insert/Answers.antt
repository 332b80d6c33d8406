use Rattle.std.proofs.Common.{◌≡◌, ◌<◌, ◌+◌, ◌++◌, ◌∷◌, [], ℕ, List, length, slice_get, Contains, sym, ap, ◌∙◌, subst, rules}
use Rattle.std.proofs.lemmas.List.{length_push}
use Rattle.ir_arena.proofs.Links.{slice_get_last}
use Rattle.ir_arena.specs.Limits.{max_len}
use Rattle.ir_types.specs.Unique.{AreKept, hash_of}
use Rattle.ir_types.proofs.Unique.{kept_push}
use Rattle.ir_types.proofs.unique_arena.UniqueArena.insert.Goals as goal

pub invariant_of-self-in_default-push-2 : goal.invariant_of-self-in_default-push-2
invariant_of-self-in_default-push-2 g c =
    let xs = c.self.inside.values.items in
    let given = g.T.Hash.hash_input in
    let v = c.args.value in
    let values_now : xs ++ v ∷ [] ≡ c.push.new.self.items = search rules in
    let spans_now : c.self.inside.spans.items ++ c.args.span ∷ [] ≡ c.push-2.new.self.items = search rules in
    let counts : length c.self.inside.spans.items + 1 ≡ length c.push-2.new.self.items = sym (length_push c.self.inside.spans.items c.args.span) ∙ ap length spans_now in
    let hashes_now : c.self.inside.positions ++ hash_of given v ∷ [] ≡ c.push-3.new.self =
    ap (λ h. c.self.inside.positions ++ h ∷ []) (sym c.hash_of-hash.ensures) ∙ sym c.in_default-push-2.ensures.ok in
    let room : length xs < max_len = subst (λ ys. length ys < max_len) (sym c.self.view_is) c.requires in
    let absent : Contains xs v → ⊥ = λ there. c.in_default.ensures.absent (subst (λ ys. Contains ys v) c.self.view_is there) in
    let are = kept_push given xs (length c.self.inside.spans.items) c.self.inside.positions v c.self.invariant room absent in
    let Kept : List g.row.T.Denot → ℕ → List ℕ → Type 0 = λ ys n hs. AreKept given ys n hs in
    subst (λ hs. Kept c.push.new.self.items (length c.push-2.new.self.items) hs) hashes_now
    (subst (λ n. Kept c.push.new.self.items n (c.self.inside.positions ++ hash_of given v ∷ [])) counts
    (subst (λ ys. Kept ys (length c.self.inside.spans.items + 1) (c.self.inside.positions ++ hash_of given v ∷ [])) values_now are))

pub returns-clause-place : goal.returns-clause-place
returns-clause-place g c =
    let xs = c.self.inside.values.items in
    let values_now : xs ++ c.args.value ∷ [] ≡ c.push.new.self.items = search rules in
    let count : length xs ≡ c.new-2.result = search rules in
    ap (λ ys. slice_get ys c.new-2.result) (sym values_now) ∙ ap (slice_get (xs ++ c.args.value ∷ [])) (sym count) ∙ slice_get_last xs c.args.value

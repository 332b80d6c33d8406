-- A list fits where each item of it does: one step on.
use Rattle.std.proofs.Common.{◌<◌, ◌≤◌, ◌≡◌, ◌↔◌, ◌+◌, ℕ, List, [], ◌∷◌, length, drop, get_or, sym, ap, subst, ◌∙◌}
use Rattle.std.proofs.lemmas.List.{drop_all}
use Rattle.ir_module.specs.declared.module.Module.{Module}
use Rattle.ir_statements.specs.declared.statements.Block.{Block, out-Block}
use Rattle.ir_statements.specs.declared.statements.Located.{Located}
use Rattle.ir_statements.specs.Tree.{Body}
use Rattle.ir_statements.specs.View.{no_operands, body_of, list_body}
use Rattle.ir_statements.proofs.Rows.{body_of-list}
use Rattle.ir_facts.specs.FitsBody.{BodyFits}
use Rattle.ir_misfits.proofs.Tails.{tail}

module _ {A : Type 0} (Fits : List A → Type 0) (Here : A → Type 0) (split : (x : A) (xs : List A) → Fits (x ∷ xs) ↔ (Here x × Fits xs)) where
  module _ (xs : List A) (i : ℕ) (x : A) (lt : i < length xs) (is : x ≡ get_or xs i x) (left : Fits xs ↔ Fits (drop i xs)) where
    here : Fits (drop i xs) ↔ (Here x × Fits (drop (i + 1) xs))
    here =
        let rest = drop (i + 1) xs in
        let P : List A → Type 0 = λ l. Fits l ↔ (Here x × Fits rest) in
        subst P (sym (tail xs i x lt is)) (split x rest)

    -- where the item that stands here fits, what is left behind it decides
    pub goes_on : Here x → Fits xs ↔ Fits (drop (i + 1) xs)
    goes_on p = (λ h. (here.0 (left.0 h)).1, λ h. left.1 (here.1 (p, h)))

    -- what follows where it fits follows where the list does
    pub only_where : {Q : Type 0} → (Here x → Q) → Fits xs → Q
    only_where q h = q (here.0 (left.0 h)).0

  -- where none is left, what an empty list asks for decides
  pub ends : (xs : List A) (i : ℕ) → length xs ≤ i → (Fits xs ↔ Fits (drop i xs)) → Fits [] → Fits xs
  ends xs i le left h = left.1 (subst Fits (sym (drop_all i xs le)) h)

-- the statements of a block are those of its list
pub of_block : (m : Module) (n earlier : ℕ) (b : Block) (items : List Located) → items ≡ (out-Block b).list →
    BodyFits m n earlier (body_of no_operands b) ↔ BodyFits m n earlier (list_body no_operands items)
of_block m n earlier b items e =
    let P : Body → Type 0 = λ x. BodyFits m n earlier x ↔ BodyFits m n earlier (list_body no_operands items) in
    subst P (ap (list_body no_operands) e ∙ sym (body_of-list no_operands b)) (λ h. h, λ h. h)

-- Types of a module, of which no two are equal.
use Rattle.std.proofs.Common.{◌≡◌, ℕ, zero, suc, ◌<◌, ◌+◌, List, [], ◌∷◌, ◌++◌, length, drop, slice_get, get_or, Bool, true, false, ◌||◌, true≢false, Some, None, refl, ap, sym, ◌∙◌, arith}
use Rattle.std.specs.List.{Contains}
use Rattle.std.proofs.lemmas.List.{drop_more}
use Rattle.ir_types.specs.EqualTypes.{type_same}
use Rattle.ir_types.specs.contracts.types.TypePartialEq.TheImpl as ir_type
use Rattle.ir_types.specs.contracts.types.TypeEq.TheImpl.Laws.{laws-law as type_laws}
use Rattle.ir_types.specs.declared.types.Type.{«Type» as IrType}
use Rattle.json_document.specs.Document.Modules.{is_among, types_behind}

same_is : (t : IrType) → (ir_type.ghosts).eq t t ≡ true
same_is t = type_laws.refl t

later : (b : Bool) → b || true ≡ true
later false = refl
later true = refl

-- a type that stands in the list is among its types
pub among_at : (ts : List IrType) (h : ℕ) (t : IrType) → slice_get ts h ≡ Some t → is_among t ts ≡ true
among_at [] h t e = cc
among_at (x ∷ xs) zero t e =
    let same : x ≡ t = cc in
    rw (same, same_is t) refl
among_at (x ∷ xs) (suc h) t e = rw (among_at xs h t e) (later ((ir_type.ghosts).eq x t))

among_by : (b : Bool) (x t : IrType) (xs : List IrType) → (ir_type.ghosts).eq x t ≡ b → (b || is_among t xs) ≡ true → (is_among t xs ≡ true → Contains xs t) → Contains (x ∷ xs) t
among_by true x t xs e h next = (zero, omega arith, type_same x t e)
among_by false x t xs e h next =
    let found = next h in
    (suc found.0, omega (arith, found.1), found.2)

-- and the other way round
pub among_contains : (ts : List IrType) (t : IrType) → is_among t ts ≡ true → Contains ts t
among_contains [] t h = absurd (true≢false (sym h))
among_contains (x ∷ xs) t h = among_by _ x t xs refl h (among_contains xs t)

-- one type more, which is not among those before it
pub one_type_more : (done ts : List IrType) (t : IrType) → is_among t done ≡ false → types_behind done (t ∷ ts) ≡ types_behind (done ++ t ∷ []) ts
one_type_more done ts t h = rw h refl

-- one that is among them
pub one_type_again : (done ts : List IrType) (t : IrType) → is_among t done ≡ true → types_behind done (t ∷ ts) ≡ None
one_type_again done ts t h = rw h refl

-- where it stands at a place, it is among them
contains_among : (ts : List IrType) (t : IrType) (k : ℕ) → k < length ts → get_or ts k t ≡ t → is_among t ts ≡ true
contains_among [] t k l e = absurd (omega (arith, l))
contains_among (x ∷ xs) t zero l e =
    let same : x ≡ t = e in
    rw (same, same_is t) refl
contains_among (x ∷ xs) t (suc k) l e =
    let less : k < length xs = omega (arith, l) in
    rw (contains_among xs t k less e) (later ((ir_type.ghosts).eq x t))

below_end : (ts : List IrType) (h : ℕ) (t : IrType) → slice_get ts h ≡ Some t → h < length ts
below_end [] h t e = cc
below_end (x ∷ xs) zero t e = omega arith
below_end (x ∷ xs) (suc h) t e =
    let less = below_end xs h t e in
    omega (arith, less)

in_front : (ts : List IrType) (t u : IrType) (h : ℕ) → h < length ts → slice_get (ts ++ u ∷ []) h ≡ Some t → slice_get ts h ≡ Some t
in_front [] t u h l e = absurd (omega (arith, l))
in_front (x ∷ xs) t u zero l e = e
in_front (x ∷ xs) t u (suc h) l e =
    let less : h < length xs = omega (arith, l) in
    in_front xs t u h less e

again_by : (b : Bool) (done new : List IrType) (t : IrType) (h : ℕ) → is_among t done ≡ b → slice_get new h ≡ Some t
    → ((Contains done t → ⊥) → new ≡ done ++ t ∷ []) → h < length done → is_among t done ≡ true
again_by true done new t h e place added less = e
again_by false done new t h e place added less =
    let other : Contains done t → ⊥ = λ found. true≢false (sym (contains_among done t found.0 found.1 found.2) ∙ e) in
    let there : slice_get (done ++ t ∷ []) h ≡ Some t = ap (λ xs. slice_get xs h) (sym (added other)) ∙ place in
    absurd (true≢false (sym (among_at done h t (in_front done t t h less there)) ∙ e))

new_by : (b : Bool) (done new : List IrType) (t : IrType) (h : ℕ) → is_among t done ≡ b → slice_get new h ≡ Some t
    → (Contains done t → new ≡ done) → (h < length done → ⊥) → is_among t done ≡ false
new_by false done new t h e place found other = e
new_by true done new t h e place found other =
    let there : slice_get done h ≡ Some t = ap (λ xs. slice_get xs h) (sym (found (among_contains done t e))) ∙ place in
    absurd (other (below_end done h t there))

-- a type that was found at an earlier place
pub found_again : (ts done new : List IrType) (i h : ℕ) (t d : IrType) → i < length ts → t ≡ get_or ts i d → slice_get new h ≡ Some t
    → ((Contains done t → ⊥) → new ≡ done ++ t ∷ []) → h < length done
    → types_behind done (drop i ts) ≡ types_behind [] ts → types_behind [] ts ≡ None
found_again ts done new i h t d l is place added less rest =
    let again = again_by (is_among t done) done new t h refl place added less in
    let at = drop_more ts i d l in
    sym rest ∙ ap (types_behind done) (at ∙ ap (λ x. x ∷ drop (i + 1) ts) (sym is)) ∙ one_type_again done (drop (i + 1) ts) t again

-- a type that was put last
pub put_last : (ts done new : List IrType) (i h : ℕ) (t d : IrType) → i < length ts → t ≡ get_or ts i d → slice_get new h ≡ Some t
    → (Contains done t → new ≡ done) → ((Contains done t → ⊥) → new ≡ done ++ t ∷ []) → (h < length done → ⊥)
    → types_behind done (drop i ts) ≡ types_behind [] ts
    → (new ≡ done ++ t ∷ []) × (types_behind (done ++ t ∷ []) (drop (i + 1) ts) ≡ types_behind [] ts)
put_last ts done new i h t d l is place found added other rest =
    let first = new_by (is_among t done) done new t h refl place found other in
    let at = drop_more ts i d l in
    let outside : Contains done t → ⊥ = λ has. true≢false (sym (contains_among done t has.0 has.1 has.2) ∙ first) in (
      added outside,
      sym (one_type_more done (drop (i + 1) ts) t first) ∙ sym (ap (types_behind done) (at ∙ ap (λ x. x ∷ drop (i + 1) ts) (sym is))) ∙ rest,
    )

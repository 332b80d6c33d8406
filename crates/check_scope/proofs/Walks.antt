-- The walk from an access to its base, and on; and the roots that are kept of it.
use Rattle.std.proofs.Common.{◌≡◌, ℕ, zero, suc, ◌+◌, ◌-◌, ◌≤◌, ◌<◌, Bool, true, false, nat_lt, List, [], ◌∷◌, ◌++◌, Option, None, Some, length, get_or, slice_get, refl, sym, ap, ◌∙◌, arith}
use Rattle.std.proofs.lemmas.Bool.Decides.{nat_tests}
use Rattle.std.proofs.lemmas.List.{get_or_append_left}
use Rattle.std.proofs.Math.Seq.{get_or-append_seam}
use Rattle.std.specs.Option.{option_map}
use Rattle.std.specs.Prelude.{unwrap_or}
use Rattle.ir_facts.specs.Fits.{NameEarlierExpressions}
use Rattle.ir_module.specs.declared.expressions.Expression.{Expression as IrExpression}
use Rattle.ir_module.specs.declared.expressions.Expression.TheVariants as e
use Rattle.check_scope.specs.Context.{Context}
use Rattle.check_scope.specs.Roots.{access_base_in, root_at, root_within}
use Rattle.check_scope.specs.walk.Table.{AreRoots}

module _ (es : List IrExpression) (earlier : NameEarlierExpressions es) where
  -- a base stands before its access
  pub base_is_earlier : (h b : ℕ) → access_base_in (slice_get es h) ≡ Some b → b < h
  base_is_earlier h b is = go (slice_get es h) refl is
    where
      go : (o : Option IrExpression) → slice_get es h ≡ o → access_base_in o ≡ Some b → b < h
      go (Some (e.Access base index)) at is =
          let same : base ≡ b = cc in
          let first : base < h = earlier h (e.Access base index) at 0 base (omega arith) in omega (arith, same, first)
      go (Some (e.AccessIndex base index)) at is =
          let same : base ≡ b = cc in
          let first : base < h = earlier h (e.AccessIndex base index) at 0 base (omega arith) in omega (arith, same, first)
      go _ at is = cc

  -- one step more than are needed changes nothing
  one_more : (n h : ℕ) → h ≤ n → root_within es (suc n) h ≡ root_within es n h
  unfolding root_within
  one_more zero h le = go (access_base_in (slice_get es h)) refl
    where
      go : (o : Option ℕ) → access_base_in (slice_get es h) ≡ o → unwrap_or (option_map (root_within es zero) o) h ≡ h
      go None at = refl
      go (Some b) at = let less : b < h = base_is_earlier h b at in absurd (omega (arith, less, le))
  one_more (suc n) h le = go (access_base_in (slice_get es h)) refl (one_more n)
    where
      go : (o : Option ℕ) → access_base_in (slice_get es h) ≡ o → ((k : ℕ) → k ≤ n → root_within es (suc n) k ≡ root_within es n k) → unwrap_or (option_map (root_within es (suc n)) o) h ≡ unwrap_or (option_map (root_within es n) o) h
      go None at same = refl
      go (Some b) at same = let less : b < h = base_is_earlier h b at in same b (omega (arith, less, le))

  enough : (d n h : ℕ) → n ≡ h + d → root_within es n h ≡ root_within es h h
  enough zero n h e = let same : n ≡ h = omega (arith, e) in ap (λ k. root_within es k h) same
  enough (suc d) zero h e = absurd (omega (arith, e))
  enough (suc d) (suc n) h e = one_more n h (omega (arith, e)) ∙ enough d n h (omega (arith, e))

  -- the walk from an access stops where that from its base does
  pub root_of_base : (h b : ℕ) → access_base_in (slice_get es h) ≡ Some b → root_within es b b ≡ root_within es h h
  unfolding root_within
  root_of_base zero b is = let less : b < zero = base_is_earlier zero b is in absurd (omega (arith, less))
  root_of_base (suc k) b is =
      let less : b < suc k = base_is_earlier (suc k) b is in
      sym (enough (k - b) k b (omega (arith, less)))
      ∙ sym (ap (λ o. unwrap_or (option_map (root_within es k) o) (suc k)) is)

  -- and that from any other expression at once
  pub root_of_itself : (h : ℕ) → access_base_in (slice_get es h) ≡ None → root_within es h h ≡ h
  unfolding root_within
  root_of_itself zero is = refl
  root_of_itself (suc k) is = ap (λ o. unwrap_or (option_map (root_within es k) o) (suc k)) is

-- one root more
pub longer : (roots : List ℕ) (root : ℕ) → length (roots ++ root ∷ []) ≡ length roots + 1
longer [] root = refl
longer (r ∷ roots) root = let more = longer roots root in omega (arith, more)

pub one_root_more : (context : Context) (roots : List ℕ) (root : ℕ) → AreRoots context roots → root ≡ root_at context (length roots) → AreRoots context (roots ++ root ∷ [])
one_root_more context roots root are is h lt = step (nat_lt h (length roots)) refl
  where
    step : (b : Bool) → nat_lt h (length roots) ≡ b → get_or (roots ++ root ∷ []) h 0 ≡ root_at context h
    step true e =
        let before : h < length roots = grind (arith, nat_tests) in
        get_or_append_left roots (root ∷ []) 0 h before ∙ are h before
    step false e =
        let more = longer roots root in
        let past : length roots ≤ h = grind (arith, nat_tests) in
        let same : h ≡ length roots = omega (arith, more, past, lt) in
        ap (λ k. get_or (roots ++ root ∷ []) k 0) same ∙ get_or-append_seam roots root [] 0 ∙ is ∙ ap (root_at context) (sym same)

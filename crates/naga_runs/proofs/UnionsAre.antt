-- What is known at a position is the union.
use Rattle.std.specs.Prelude.{ℕ, true, List, Option, Some, Contains, ◌≡◌, ◌↔◌, ◌⊎◌, ◌∷◌, ◌++◌, [], ◌<◌}
use Rattle.std.proofs.Common.{refl, sym, ap, subst, arith, inl, inr, ◌∙◌}
use Rattle.ir_statements.specs.Tree.{Stmt, Body, Loop}
use Rattle.naga_runs.specs.Handles.{Handles, no_handles}
use Rattle.naga_runs.specs.Must.{with_sure}
use Rattle.naga_runs.specs.Positions.{Part, Position, statement_at, list_in, list_below, statement_node, node_at, Continuing, Condition, In, StatementNode}
use Rattle.naga_runs.specs.PutsAndUses.{node_acts, puts_of, body_puts, with_body}
use Rattle.naga_runs.specs.Scope.{with_earlier, with_lists, known_at}
use Rattle.naga_runs.specs.Unions.{sure_puts, InUnion, ScopeIsUnion, MustIsUnion, NeedsNoEmission, EarlierSibling, OfBodyList, OfBothLists}
use Rattle.naga_runs.proofs.Joins.{Joins, joins_none, none_in, append_joins, body_join, sure_join, Earlier, earlier_join, joins_or}
use Rattle.naga_runs.proofs.Paths.{same_below, puts_deeper, puts_near, empty_is, index_of, rest_of, loop_deeper, loop_nearer, statement_is}

module _ (with_list : Handles → Body → Handles) (counted : Body → List ℕ)
    (list_join : (b : Body) (s : Handles) → Joins s (with_list s b) (Contains (counted b))) where
  -- what the rest of a position sees of the Loop that it lies below
  abbrev seen : Option Stmt → Position → List ℕ
  seen (Some (Loop b c q)) (In Continuing i ∷ p) = counted b
  seen (Some (Loop b c q)) (In Condition i ∷ p) = counted b ++ body_puts c
  seen _ _ = []

  lists_join : (x : Option Stmt) (p : Position) (s : Handles) →
      Joins s (with_lists with_list s x p) (Contains (seen x p))
  lists_join (Some (Loop b c q)) (In Continuing i ∷ p) s = list_join b s
  lists_join (Some (Loop b c q)) (In Condition i ∷ p) s =
      append_joins s (with_list s b) (with_body (with_list s b) c) (counted b) (body_puts c) (list_join b s)
      (body_join c _)
  lists_join _ _ s = joins_none s (Contains []) (λ h c. none_in h c)

  -- the union along the path
  abbrev Along : Body → Position → ℕ → Type 0
  Along b [] h = ⊥
  Along b (In part i ∷ p) h =
      Earlier b i h ⊎ (Contains (seen (statement_at b i) p) h ⊎ Along (list_below (statement_at b i) p) p h)

  known_join : (p : Position) (b : Body) (s : Handles) → Joins s (known_at with_list s b p) (Along b p)
  known_join [] b s = joins_none s (Along b []) (λ h e. e)
  known_join (In part i ∷ p) b s =
      joins_or s (with_earlier s b i) (known_at with_list s b (In part i ∷ p)) (Earlier b i)
      (λ h. Contains (seen (statement_at b i) p) h ⊎ Along (list_below (statement_at b i) p) p h)
      (earlier_join b i s) (joins_or (with_earlier s b i)
      (with_lists with_list (with_earlier s b i) (statement_at b i) p) (known_at with_list s b (In part i ∷ p))
      (Contains (seen (statement_at b i) p)) (Along (list_below (statement_at b i) p) p)
      (lists_join (statement_at b i) p _) (known_join p (list_below (statement_at b i) p) _))

  module _ (part : Part) (i : ℕ) where
    -- from the list below a statement
    lift : (b : Body) (p : Position) (s : Handles) (h : ℕ) →
        InUnion counted no_handles (list_below (statement_at b i) p) p h → InUnion counted s b (In part i ∷ p) h
    lift b p s h (NeedsNoEmission e) = cc
    lift b p s h (EarlierSibling a part' m j r e lt put) =
        EarlierSibling (In part i ∷ a) part' m j r (ap (λ l. In part i ∷ l) e) lt
        (puts_deeper (statement_at b i) (a ++ In part' j ∷ []) h
        (subst (λ d. Contains (puts_of (node_acts (node_at d (a ++ In part' j ∷ [])))) h)
        (ap (list_below (statement_at b i)) e ∙ sym (same_below (statement_at b i) a part' m j r)) put))
    lift b p s h (OfBodyList [] m r body c q e stands counts) = cc
    lift b p s h (OfBodyList (In part' k ∷ a) m r body c q e stands counts) =
        OfBodyList (In part i ∷ In part' k ∷ a) m r body c q (ap (λ l. In part i ∷ l) e)
        (loop_deeper (statement_at b i) part' k a _
        (subst (λ d. node_at d (In part' k ∷ a) ≡ StatementNode (Loop body c q))
        (ap (list_below (statement_at b i)) e) stands)) counts
    lift b p s h (OfBothLists [] m r body c q e stands counts) = cc
    lift b p s h (OfBothLists (In part' k ∷ a) m r body c q e stands counts) =
        OfBothLists (In part i ∷ In part' k ∷ a) m r body c q (ap (λ l. In part i ∷ l) e)
        (loop_deeper (statement_at b i) part' k a _
        (subst (λ d. node_at d (In part' k ∷ a) ≡ StatementNode (Loop body c q))
        (ap (list_below (statement_at b i)) e) stands)) counts

    from_seen : (x : Option Stmt) (p : Position) (b : Body) (s : Handles) (h : ℕ) → statement_at b i ≡ x →
        Contains (seen x p) h → InUnion counted s b (In part i ∷ p) h
    from_seen (Some (Loop body c q)) (In Continuing m ∷ r) b s h e counts = OfBodyList
        (In part i ∷ []) m r body c q refl (ap statement_node e) counts
    from_seen (Some (Loop body c q)) (In Condition m ∷ r) b s h e counts = OfBothLists
        (In part i ∷ []) m r body c q refl (ap statement_node e) counts
    from_seen _ _ b s h e counts = absurd (none_in h counts)

  to_union : (p : Position) (b : Body) (s : Handles) (h : ℕ) → Along b p h → InUnion counted s b p h
  to_union [] b s h e = absurd e
  to_union (In part i ∷ p) b s h (inl m) = EarlierSibling [] part i m.0 p refl m.1 m.2
  to_union (In part i ∷ p) b s h (inr (inl counts)) = from_seen part i (statement_at b i) p b s h refl counts
  to_union (In part i ∷ p) b s h (inr (inr deeper)) = lift part i b p s h
      (to_union p (list_below (statement_at b i) p) no_handles h deeper)

  -- and back
  module _ (part : Part) (i : ℕ) (b : Body) (p : Position) (h : ℕ) where
    -- what the step inwards goes past
    sibling : (part' : Part) (m j : ℕ) (r : Position) → In part i ∷ p ≡ In part' m ∷ r → j < m →
        Contains (puts_of (node_acts (node_at b (In part' j ∷ [])))) h → Along b (In part i ∷ p) h
    sibling part' m j r e lt put = let same : i ≡ m = ap index_of e in inl (j, omega (arith, same), put)

    -- a Loop at the step
    loop_step : (x : Option Stmt) (l l' : Position) (body c : Body) (q : Option ℕ) →
        statement_node x ≡ StatementNode (Loop body c q) → l' ≡ l → Contains
        (seen (Some (Loop body c q)) l) h → Contains (seen x l') h
    loop_step x l l' body c q e same counts =
        subst (λ y. Contains (seen y l') h) (sym (statement_is x (Loop body c q) e))
        (subst (λ r. Contains (seen (Some (Loop body c q)) r) h) (sym same) counts)

    -- further in
    sibling_deeper : (k : ℕ) (a : Position) (part' : Part) (m j : ℕ) (r : Position) → i ≡ k →
        p ≡ a ++ In part' m ∷ r → j < m → Contains
        (puts_of (node_acts (node_at b (In part k ∷ (a ++ In part' j ∷ []))))) h → InUnion counted no_handles
        (list_below (statement_at b i) p) p h
    sibling_deeper k a part' m j r same e lt put =
        EarlierSibling a part' m j r e lt (subst
        (λ d. Contains (puts_of (node_acts (node_at d (a ++ In part' j ∷ [])))) h)
        (ap (λ n. list_below (statement_at b n) (a ++ In part' j ∷ [])) (sym same) ∙
        (same_below (statement_at b i) a part' m j r ∙ ap (list_below (statement_at b i)) (sym e)))
        (puts_near (statement_at b k) a part' j _ h put))

    loop_deeper_is : (k : ℕ) (part' : Part) (n : ℕ) (a l : Position) (body c : Body) (q : Option ℕ) → i ≡ k →
        p ≡ In part' n ∷ l → node_at b (In part k ∷ In part' n ∷ a) ≡ StatementNode (Loop body c q) → node_at
        (list_below (statement_at b i) p) (In part' n ∷ a) ≡ StatementNode (Loop body c q)
    loop_deeper_is k part' n a l body c q same e stands =
        subst (λ d. node_at d (In part' n ∷ a) ≡ StatementNode (Loop body c q))
        (ap (λ o. list_in (statement_at b o) part') (sym same) ∙ ap (list_below (statement_at b i)) (sym e))
        (loop_nearer (statement_at b k) part' n a _ body c q stands)

    further_in : (no_handles h ≡ true) ⊎ Along (list_below (statement_at b i) p) p h → Along b (In part i ∷ p) h
    further_in (inl e) = cc
    further_in (inr m) = inr (inr m)

  from_union : (p : Position) (b : Body) (s : Handles) (h : ℕ) → InUnion counted s b p h →
      (s h ≡ true) ⊎ Along b p h
  from_union p b s h (NeedsNoEmission e) = inl e
  from_union [] b s h (EarlierSibling a part m j r e lt put) = absurd (empty_is a _ r e)
  from_union [] b s h (OfBodyList a m r body c q e stands counts) = absurd (empty_is a _ r e)
  from_union [] b s h (OfBothLists a m r body c q e stands counts) = absurd (empty_is a _ r e)
  from_union (In part i ∷ p) b s h (EarlierSibling [] part' m j r e lt put) = inr
      (sibling part i b p h part' m j r e lt put)
  from_union (In part i ∷ p) b s h (EarlierSibling (In part' k ∷ a) part'' m j r e lt put) =
      inr (further_in part i b p h (from_union p (list_below (statement_at b i) p) no_handles h
      (sibling_deeper part' i b p h k a part'' m j r (ap index_of e) (ap rest_of e) lt put)))
  from_union (In part i ∷ p) b s h (OfBodyList [] m r body c q e stands counts) = cc
  from_union (In part i ∷ p) b s h (OfBodyList (In part' k ∷ []) m r body c q e stands counts) =
      let same : i ≡ k = ap index_of e in
      inr (inr (inl (loop_step part i b p h (statement_at b i) (In Continuing m ∷ r) p body c q
      (subst (λ n. statement_node (statement_at b n) ≡ StatementNode (Loop body c q)) (sym same) stands)
      (ap rest_of e) counts)))
  from_union (In part i ∷ p) b s h (OfBodyList (In part' k ∷ In part'' n ∷ a) m r body c q e stands counts) =
      inr (further_in part i b p h (from_union p (list_below (statement_at b i) p) no_handles h
      (OfBodyList (In part'' n ∷ a) m r body c q (ap rest_of e)
      (loop_deeper_is part' i b p h k part'' n a (a ++ In Continuing m ∷ r) body c q (ap index_of e)
      (ap rest_of e) stands) counts)))
  from_union (In part i ∷ p) b s h (OfBothLists [] m r body c q e stands counts) = cc
  from_union (In part i ∷ p) b s h (OfBothLists (In part' k ∷ []) m r body c q e stands counts) =
      let same : i ≡ k = ap index_of e in
      inr (inr (inl (loop_step part i b p h (statement_at b i) (In Condition m ∷ r) p body c q
      (subst (λ n. statement_node (statement_at b n) ≡ StatementNode (Loop body c q)) (sym same) stands)
      (ap rest_of e) counts)))
  from_union (In part i ∷ p) b s h (OfBothLists (In part' k ∷ In part'' n ∷ a) m r body c q e stands counts) =
      inr (further_in part i b p h (from_union p (list_below (statement_at b i) p) no_handles h
      (OfBothLists (In part'' n ∷ a) m r body c q (ap rest_of e)
      (loop_deeper_is part' i b p h k part'' n a (a ++ In Condition m ∷ r) body c q (ap index_of e)
      (ap rest_of e) stands) counts)))

  union_is : (pre : Handles) (b : Body) (p : Position) (h : ℕ) →
      (known_at with_list pre b p h ≡ true) ↔ InUnion counted pre b p h
  union_is pre b p h = (
    λ e. there ((known_join p b pre).out h e),
    λ u. (known_join p b pre).into h
        (from_union p b pre h u),
  )
    where
      there : (pre h ≡ true) ⊎ Along b p h → InUnion counted pre b p h
      there (inl e) = NeedsNoEmission e
      there (inr m) = to_union p b pre h m

pub scope_is_union : ScopeIsUnion
scope_is_union = union_is with_body body_puts body_join

pub must_is_union : MustIsUnion
must_is_union = union_is with_sure sure_puts sure_join

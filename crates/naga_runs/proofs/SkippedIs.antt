-- What is skipped at a position is the union over the Loops that were cut.
use Rattle.std.specs.Prelude.{ℕ, zero, suc, true, List, Option, Some, None, Contains, ◌≡◌, ◌⊎◌, ◌∷◌, ◌++◌, if◌then◌else◌, []}
use Rattle.std.proofs.Common.{refl, sym, ap, subst, inl, inr, ◌∙◌}
use Rattle.ir_statements.specs.Tree.{Stmt, Body, Loop, Done, Then}
use Rattle.naga_runs.specs.Handles.{Handles, no_handles}
use Rattle.naga_runs.specs.Positions.{Part, PositionStep, Position, statement_at, list_in, list_below, statement_node, node_at, Root, Inner, Accept, Reject, Case, LoopBody, Continuing, Condition, In, StatementNode}
use Rattle.naga_runs.specs.Skipped.{with_rest, with_cut, cuts_below, skipped_from, is_behind_body, count_behind, nth_cut, puts_after, IsSkipped, SkippedIsUnion}
use Rattle.naga_runs.proofs.Joins.{Joins, joins_none, none_in, body_join, joins_or}
use Rattle.naga_runs.proofs.Paths.{empty_is, index_of, rest_of, loop_deeper, loop_nearer, statement_is}

rest_join : (b : Body) (k : ℕ) (s : Handles) → Joins s (with_rest s b k) (Contains (puts_after b k))
rest_join Done k s = joins_none s (Contains []) (λ h c. none_in h c)
rest_join (Then x b) zero s = body_join b s
rest_join (Then x b) (suc k) s = rest_join b k s

-- what is left out of the Loop that the rest of a position lies below
abbrev left_out : Option Stmt → Position → List (Option ℕ) → List ℕ
left_out (Some (Loop b c q)) (In Continuing i ∷ p) (Some k ∷ cuts) = puts_after b k
left_out (Some (Loop b c q)) (In Condition i ∷ p) (Some k ∷ cuts) = puts_after b k
left_out _ _ _ = []

cut_join : (x : Option Stmt) (p : Position) (cuts : List (Option ℕ)) (s : Handles) →
    Joins s (with_cut s x p cuts) (Contains (left_out x p cuts))
cut_join (Some (Loop b c q)) (In Continuing i ∷ p) (Some k ∷ cuts) s = rest_join b k s
cut_join (Some (Loop b c q)) (In Condition i ∷ p) (Some k ∷ cuts) s = rest_join b k s
cut_join _ _ _ s = joins_none s (Contains []) (λ h c. none_in h c)

-- the union along the path
abbrev Along : Body → Position → List (Option ℕ) → ℕ → Type 0
Along b [] cuts h = ⊥
Along b (In part i ∷ p) cuts h =
    Contains (left_out (statement_at b i) p cuts) h ⊎ Along (list_below (statement_at b i) p) p
    (cuts_below p cuts) h

skipped_join : (p : Position) (b : Body) (cuts : List (Option ℕ)) (s : Handles) →
    Joins s (skipped_from s b p cuts) (Along b p cuts)
skipped_join [] b cuts s = joins_none s (Along b [] cuts) (λ h e. e)
skipped_join (In part i ∷ p) b cuts s =
    joins_or s (with_cut s (statement_at b i) p cuts) (skipped_from s b (In part i ∷ p) cuts)
    (Contains (left_out (statement_at b i) p cuts))
    (Along (list_below (statement_at b i) p) p (cuts_below p cuts)) (cut_join (statement_at b i) p cuts s)
    (skipped_join p (list_below (statement_at b i) p) (cuts_below p cuts) _)

-- the same where the first step, which may be any, isn't counted
record Skips (b : Body) (p : Position) (cuts : List (Option ℕ)) (h : ℕ) : Type 0 where
  first : PositionStep
  ancestor : Position
  part : Part
  index : ℕ
  rest : Position
  inside : p ≡ first ∷ (ancestor ++ In part index ∷ rest)
  behind : is_behind_body part ≡ true
  body : Body
  continuing : Body
  break_if : Option ℕ
  stands : node_at b (first ∷ ancestor) ≡ StatementNode (Loop body continuing break_if)
  k : ℕ
  cut : nth_cut cuts (count_behind ancestor) ≡ Some k
  puts : Contains (puts_after body k) h

-- a step past which the first cut is another's
past_cut : (part : Part) (i : ℕ) (l : Position) (cuts : List (Option ℕ)) (m : ℕ) →
    nth_cut (cuts_below (In part i ∷ l) cuts) m ≡ nth_cut cuts (if is_behind_body part then suc m else m)
past_cut Continuing i l [] m = refl
past_cut Continuing i l (cut ∷ cuts) m = refl
past_cut Condition i l [] m = refl
past_cut Condition i l (cut ∷ cuts) m = refl
past_cut Root i l cuts m = refl
past_cut Inner i l cuts m = refl
past_cut Accept i l cuts m = refl
past_cut Reject i l cuts m = refl
past_cut (Case k) i l cuts m = refl
past_cut LoopBody i l cuts m = refl

module _ (part : Part) (i : ℕ) (b : Body) where
  at_step : (x : Option Stmt) (p : Position) (cuts : List (Option ℕ)) (h : ℕ) → statement_at b i ≡ x →
      Contains (left_out x p cuts) h → Skips b (In part i ∷ p) cuts h
  at_step (Some (Loop body c q)) (In Continuing m ∷ p) (Some k ∷ cuts) h e puts =
      record {
        first = In part i;
        ancestor = [];
        part = Continuing;
        index = m;
        rest = p;
        inside = refl;
        behind =
            refl;
        body = body;
        continuing = c;
        break_if = q;
        stands = ap statement_node e;
        k = k;
        cut = refl;
        puts =
            puts;
      }
  at_step (Some (Loop body c q)) (In Condition m ∷ p) (Some k ∷ cuts) h e puts =
      record {
        first = In part i;
        ancestor = [];
        part = Condition;
        index = m;
        rest = p;
        inside = refl;
        behind =
            refl;
        body = body;
        continuing = c;
        break_if = q;
        stands = ap statement_node e;
        k = k;
        cut = refl;
        puts =
            puts;
      }
  at_step _ _ _ h e puts = absurd (none_in h puts)

  further_in : (p : Position) (cuts : List (Option ℕ)) (h : ℕ) →
      Skips (list_below (statement_at b i) p) p (cuts_below p cuts) h → Skips b (In part i ∷ p) cuts h
  further_in p cuts h s = go s.first s.inside s.stands
    where
      go : (first : PositionStep) → p ≡ first ∷ (s.ancestor ++ In s.part s.index ∷ s.rest) →
          node_at (list_below (statement_at b i) p) (first ∷ s.ancestor) ≡ StatementNode
          (Loop s.body s.continuing s.break_if) → Skips b (In part i ∷ p) cuts h
      go (In q n) inside stands =
          record {
            first = In part i;
            ancestor = In q n ∷ s.ancestor;
            part = s.part;
            index = s.index;
            rest = s.rest;
            inside = ap (λ l. In part i ∷ l) inside;
            behind = s.behind;
            body = s.body;
            continuing = s.continuing;
            break_if = s.break_if;
            stands = loop_deeper (statement_at b i) q n s.ancestor _
                (subst (λ d. node_at d (In q n ∷ s.ancestor) ≡ StatementNode (Loop s.body s.continuing s.break_if))
                (ap (list_below (statement_at b i)) inside) stands);
            k = s.k;
            cut = sym (past_cut q n (s.ancestor ++ In s.part s.index ∷ s.rest) cuts (count_behind s.ancestor)) ∙
                (ap (λ l. nth_cut (cuts_below l cuts) (count_behind s.ancestor)) (sym inside) ∙ s.cut);
            puts = s.puts;
          }

to_skips : (p : Position) (b : Body) (cuts : List (Option ℕ)) (h : ℕ) → Along b p cuts h → Skips b p cuts h
to_skips [] b cuts h e = absurd e
to_skips (In part i ∷ p) b cuts h (inl puts) = at_step part i b (statement_at b i) p cuts h refl puts
to_skips (In part i ∷ p) b cuts h (inr m) = further_in part i b p cuts h
    (to_skips p (list_below (statement_at b i) p) (cuts_below p cuts) h m)

-- and back
abbrev or_zero : Option ℕ → ℕ
or_zero None = 0
or_zero (Some k) = k

out_of : (part : Part) (m : ℕ) (r : Position) (cuts : List (Option ℕ)) (body c : Body) (q : Option ℕ) (k h : ℕ) →
    is_behind_body part ≡ true → nth_cut cuts 0 ≡ Some k → Contains (puts_after body k) h → Contains
    (left_out (Some (Loop body c q)) (In part m ∷ r) cuts) h
out_of Continuing m r [] body c q k h e f puts = cc
out_of Continuing m r (None ∷ cuts) body c q k h e f puts = cc
out_of Continuing m r (Some j ∷ cuts) body c q k h e f puts = subst (λ n. Contains (puts_after body n) h)
    (sym (ap or_zero f)) puts
out_of Condition m r [] body c q k h e f puts = cc
out_of Condition m r (None ∷ cuts) body c q k h e f puts = cc
out_of Condition m r (Some j ∷ cuts) body c q k h e f puts = subst (λ n. Contains (puts_after body n) h)
    (sym (ap or_zero f)) puts
out_of Root m r cuts body c q k h e f puts = cc
out_of Inner m r cuts body c q k h e f puts = cc
out_of Accept m r cuts body c q k h e f puts = cc
out_of Reject m r cuts body c q k h e f puts = cc
out_of (Case j) m r cuts body c q k h e f puts = cc
out_of LoopBody m r cuts body c q k h e f puts = cc

module _ (part : Part) (i : ℕ) (b : Body) (p : Position) (cuts : List (Option ℕ)) (h : ℕ) where
  -- the Loop stands at the step
  here_out : (q : Part) (n : ℕ) (x : Part) (m : ℕ) (r : Position) (body c : Body) (cond : Option ℕ) (k : ℕ) →
      In part i ∷ p ≡ In q n ∷ In x m ∷ r → is_behind_body x ≡ true → statement_node
      (statement_at b n) ≡ StatementNode (Loop body c cond) → nth_cut cuts 0 ≡ Some k → Contains
      (puts_after body k) h → Contains (left_out (statement_at b i) p cuts) h
  here_out q n x m r body c cond k inside behind stands cut puts =
      let same : i ≡ n = ap index_of inside in
      let is : statement_at b i ≡ Some (Loop body c cond) =
      statement_is (statement_at b i) (Loop body c cond)
      (ap (λ j. statement_node (statement_at b j)) same ∙ stands) in
      let path : p ≡ In x m ∷ r = ap rest_of inside in
      subst (λ y. Contains (left_out y p cuts) h) (sym is)
      (subst (λ l. Contains (left_out (Some (Loop body c cond)) l cuts) h) (sym path)
      (out_of x m r cuts body c cond k h behind cut puts))

  -- or further in
  deeper_skips : (q : Part) (n : ℕ) (q' : Part) (n' : ℕ) (a : Position) (s : Skips b (In part i ∷ p) cuts h) →
      In part i ∷ p ≡ In q n ∷ In q' n' ∷ (a ++ In s.part s.index ∷ s.rest) → node_at b
      (In q n ∷ In q' n' ∷ a) ≡ StatementNode (Loop s.body s.continuing s.break_if) → nth_cut cuts
      (count_behind (In q' n' ∷ a)) ≡ Some s.k → Skips (list_below (statement_at b i) p) p (cuts_below p cuts) h
  deeper_skips q n q' n' a s inside stands cut =
      let same : i ≡ n = ap index_of inside in
      let path : p ≡ In q' n' ∷ (a ++ In s.part s.index ∷ s.rest) = ap rest_of inside in
      record {
        first = In q' n';
        ancestor = a;
        part = s.part;
        index = s.index;
        rest = s.rest;
        inside = path;
        behind = s.behind;
        body = s.body;
        continuing = s.continuing;
        break_if = s.break_if;
        stands = subst (λ d. node_at d (In q' n' ∷ a) ≡ StatementNode (Loop s.body s.continuing s.break_if))
            (ap (λ o. list_in (statement_at b o) q') (sym same) ∙ ap (list_below (statement_at b i)) (sym path))
            (loop_nearer (statement_at b n) q' n' a _ s.body s.continuing s.break_if stands);
        k = s.k;
        cut = ap (λ l. nth_cut (cuts_below l cuts) (count_behind a)) path ∙
            (past_cut q' n' (a ++ In s.part s.index ∷ s.rest) cuts (count_behind a) ∙ cut);
        puts = s.puts;
      }

from_skips : (p : Position) (b : Body) (cuts : List (Option ℕ)) (h : ℕ) → Skips b p cuts h → Along b p cuts h
from_skips [] b cuts h s = absurd (empty_is [] s.first _ s.inside)
from_skips (In part i ∷ p) b cuts h s =
    go (λ t. from_skips p (list_below (statement_at b i) p) (cuts_below p cuts) h t) s.first s.ancestor s.inside
    s.stands s.cut
  where
    go : (Skips (list_below (statement_at b i) p) p (cuts_below p cuts) h →
        Along (list_below (statement_at b i) p) p (cuts_below p cuts) h) → (first : PositionStep)
        (ancestor : Position) → In part i ∷ p ≡ first ∷ (ancestor ++ In s.part s.index ∷ s.rest) →
        node_at b (first ∷ ancestor) ≡ StatementNode (Loop s.body s.continuing s.break_if) → nth_cut cuts
        (count_behind ancestor) ≡ Some s.k → Along b (In part i ∷ p) cuts h
    go inner (In q n) [] inside stands cut =
        inl (here_out part i b p cuts h q n s.part s.index s.rest s.body s.continuing s.break_if s.k inside s.behind
        stands cut s.puts)
    go inner (In q n) (In q' n' ∷ a) inside stands cut =
        inr (inner (deeper_skips part i b p cuts h q n q' n' a s inside stands cut))

abbrev head_part : Position → Part
head_part [] = Root
head_part (In part i ∷ p) = part

-- below the root nothing is lost by not counting the first step
to_word : (b : Body) (i : ℕ) (p : Position) (cuts : List (Option ℕ)) (h : ℕ) → Skips b (In Root i ∷ p) cuts h →
    IsSkipped b (In Root i ∷ p) cuts h
to_word b i p cuts h s = go s.first s.inside s.stands
  where
    go : (first : PositionStep) → In Root i ∷ p ≡ first ∷ (s.ancestor ++ In s.part s.index ∷ s.rest) →
        node_at b (first ∷ s.ancestor) ≡ StatementNode (Loop s.body s.continuing s.break_if) → IsSkipped b
        (In Root i ∷ p) cuts h
    go (In q n) inside stands =
        let root : Root ≡ q = ap head_part inside in
        record {
          ancestor = In q n ∷ s.ancestor;
          part = s.part;
          index = s.index;
          rest = s.rest;
          inside = inside;
          behind = s.behind;
          body = s.body;
          continuing = s.continuing;
          break_if = s.break_if;
          stands = stands;
          k = s.k;
          cut = subst (λ part. nth_cut cuts (count_behind (In part n ∷ s.ancestor)) ≡ Some s.k) root s.cut;
          puts = s.puts;
        }

from_word : (b : Body) (i : ℕ) (p : Position) (cuts : List (Option ℕ)) (h : ℕ) →
    IsSkipped b (In Root i ∷ p) cuts h → Skips b (In Root i ∷ p) cuts h
from_word b i p cuts h s = go s.ancestor s.inside s.stands s.cut
  where
    go : (ancestor : Position) → In Root i ∷ p ≡ ancestor ++ In s.part s.index ∷ s.rest →
        node_at b ancestor ≡ StatementNode (Loop s.body s.continuing s.break_if) → nth_cut cuts
        (count_behind ancestor) ≡ Some s.k → Skips b (In Root i ∷ p) cuts h
    go [] inside stands cut = cc
    go (In q n ∷ a) inside stands cut =
        let root : Root ≡ q = ap head_part inside in
        record {
          first = In q n;
          ancestor = a;
          part = s.part;
          index = s.index;
          rest = s.rest;
          inside = inside;
          behind = s.behind;
          body = s.body;
          continuing = s.continuing;
          break_if = s.break_if;
          stands = stands;
          k = s.k;
          cut = subst (λ part. nth_cut cuts (count_behind (In part n ∷ a)) ≡ Some s.k) (sym root) cut;
          puts = s.puts;
        }

pub skipped_is_union : SkippedIsUnion
skipped_is_union b i p cuts h = (
  λ e. to_word b i p cuts h (to_skips (In Root i ∷ p) b cuts h
      (there ((skipped_join (In Root i ∷ p) b cuts no_handles).out h e))),
  λ s. (skipped_join (In Root i ∷ p) b cuts no_handles).into h
      (inr (from_skips (In Root i ∷ p) b cuts h (from_word b i p cuts h s))),
)
  where
    there : (no_handles h ≡ true) ⊎ Along b (In Root i ∷ p) cuts h → Along b (In Root i ∷ p) cuts h
    there (inl e) = cc
    there (inr m) = m

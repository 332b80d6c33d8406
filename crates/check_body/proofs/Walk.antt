-- The judgement by the tree over what is in scope: one equation for each form of statement.
use Rattle.std.proofs.Common.{◌≡◌, ℕ, ◌+◌, ◌<◌, ◌≤◌, ◌||◌, Bool, true, false, Option, Some, None, Result, Ok, Err, List, [], ◌∷◌, ◌++◌, drop, get_or, length, refl, subst, sym, ap, ◌∙◌}
use Rattle.std.specs.Prelude.{if◌then◌else◌}
use Rattle.std.proofs.lemmas.List.{at_drop_more, at_drop_all}
use Rattle.ir_statements.specs.Tree.{Act, Use, Put, Stmt, Leaf, Block, Branch, Switch, Loop, Break, Continue, Return, Kill, Body, Done, Then, Cases, NoCase, OneCase}
use Rattle.check_statement.specs.walk.State.{State, seen, kept_rules, with_statement}
use Rattle.ir_statements.specs.View as view
use Rattle.ir_statements.specs.declared.statements.Statement as ir
use Rattle.ir_statements.specs.declared.statements.Statement.{Statement}
use Rattle.ir_arena.specs.declared.span.Span.{Span}
use Rattle.ir_arena.specs.declared.span.Refusal.{Refusal}
use Rattle.ir_arena.specs.declared.span.Refusal.TheVariants as refusal
use Rattle.ir_statements.specs.declared.statements.Located.{Located}
use Rattle.ir_statements.specs.declared.statements.SwitchCase.{SwitchCase, out-SwitchCase}
use Rattle.ir_statements.specs.declared.operations.SwitchValue.{SwitchValue}
use Rattle.naga_runs.specs.declared.Abilities.{Abilities}
use Rattle.naga_runs.specs.Handles.{Handles, with_handle}
use Rattle.naga_runs.specs.Must.{with_sure, holds_continue, body_holds_continue, cases_hold_continue}
use Rattle.naga_runs.specs.PutsAndUses.{with_acts, with_body, acts_of, puts_of}
use Rattle.ir_arena.specs.Points.{first_fault, answer, and_then}
use Rattle.naga_runs.specs.ByTree.{past, in_continuing, at_break_if, judge_visits, judge_body, judge_stmt, judge_parts, judge_break_if, case_abilities, loop_abilities, continuing_abilities}
use Rattle.naga_runs.proofs.Judgements.{judge_done, judge_more, judge_own, judge_block, judge_branch, judge_switch, judge_loop, judge_no_case, judge_one_case}
use Rattle.ir_facts.specs.Answers.{IsFirstFault, Answers, Exactly, leaving}
use Rattle.check_scope.specs.BodyTrees.{emitted_operands, tree_of, block_of, list_of, cases_of}
use Rattle.check_scope.specs.Context.{Context}
use Rattle.check_flow.specs.Control.{break_if_points}
use Rattle.check_statement.specs.Rules.{statement_points}
use Rattle.check_scope.specs.walk.Place.{Sets, place_at}
use Rattle.check_statement.specs.walk.Frequent.{is_whole}
use Rattle.check_scope.specs.walk.Table.{with_all, with_puts}
use Rattle.check_statement.specs.walk.Walk.{puts, body_puts, puts_to_continue, behind_loop_body, own_answer, parts_answer, stmt_answer, body_answer, cases_answer, break_if_answer}
use Rattle.check_flow.specs.walk.Emitted.{place}
use Rattle.check_scope.proofs.Columns.{all-append}
use Rattle.ir_facts.proofs.Refusals.{passes, stops_first, stops_next, answers_next}
use Rattle.ir_errors.specs.declared.function.FunctionError.{FunctionError}

acts_put : (acts : List Act) (s : Handles) → with_acts s acts ≡ with_all s (puts_of acts)
acts_put [] s = refl
acts_put (Use h ∷ acts) s = acts_put acts s
acts_put (Put h ∷ acts) s = acts_put acts (with_handle s h)

body_put : (b : Body) (s : Handles) → with_body s b ≡ with_all s (body_puts b)
unfolding body_puts
body_put Done s = refl
body_put (Then x b) s =
    ap (λ t. with_body t b) (acts_put (acts_of x) s) ∙ body_put b (with_all s (puts x)) ∙ sym (all-append (puts x) (body_puts b) s)

-- a refusal on its way out
pub leaving_err : {T : Type 0} (right : Result State FunctionError) (state : State) (r : Result T (Refusal FunctionError)) (e : Refusal FunctionError) → r ≡ Err e → Answers (Exactly right) (Err e) → Answers (Exactly right) (leaving state r)
leaving_err right state r e is refused = subst (λ r. Answers (Exactly right) (leaving state r)) (sym is) refused

pub or_assoc : (a b c : Bool) → ((a || b) || c) ≡ (a || (b || c))
or_assoc true b c = refl
or_assoc false b c = refl

-- a statement that holds a Continue puts nothing itself
holding_puts : (x : Stmt) → holds_continue x ≡ true → puts x ≡ []
holding_puts (Block b) e = refl
holding_puts (Branch h p q) e = refl
holding_puts (Switch h cs) e = refl
holding_puts Continue e = refl
holding_puts (Leaf acts st span) e = cc
holding_puts (Loop b d q) e = cc
holding_puts Break e = cc
holding_puts (Return v) e = cc
holding_puts Kill e = cc

-- what a Loop's body list surely puts
sure_put : (b : Body) (s : Handles) → with_sure s b ≡ with_all s (puts_to_continue b)
unfolding puts_to_continue
sure_put Done s = refl
sure_put (Then x b) s = go (holds_continue x) refl (sure_put b (with_all s (puts x)))
  where
    go : (held : Bool) → holds_continue x ≡ held → with_sure (with_all s (puts x)) b ≡ with_all (with_all s (puts x)) (puts_to_continue b) →
        (if held then s else with_sure (with_acts s (acts_of x)) b) ≡ with_all s (if held then puts x else (puts x ++ puts_to_continue b))
    go true e rest = sym (ap (with_all s) (holding_puts x e))
    go false e rest =
        ap (λ t. with_sure t b) (acts_put (acts_of x) s) ∙ rest ∙ sym (all-append (puts x) (puts_to_continue b) s)

module _ (context : Context) (k : State) (a : Abilities) (s : Sets) where
  pub body_done : body_answer context k a s Done ≡ Ok k
  unfolding body_answer
  body_done = judge_done (kept_rules context) k (place a s)

  -- the place behind a statement
  behind : (x : Stmt) → past x (place a s) ≡ place a (with_puts s (puts x))
  behind x i =
      record { abilities = a; scope = acts_put (acts_of x) s.scope i; must = acts_put (acts_of x) s.must i }

  pub body_more : (x : Stmt) (b : Body) → body_answer context k a s (Then x b) ≡ and_then (stmt_answer context k a s x) (λ l. body_answer context l a (with_puts s (puts x)) b)
  unfolding body_answer stmt_answer
  body_more x b =
      judge_more (kept_rules context) k (place a s) x b
      ∙ ap (λ (f : State → Result State FunctionError). and_then (judge_stmt (kept_rules context) k (place a s) x) f) (λ i l. judge_body (kept_rules context) l (behind x i) b)

  pub stmt_more : (x : Stmt) → stmt_answer context k a s x ≡ and_then (own_answer context k a s x) (λ l. parts_answer context l a s x)
  unfolding own_answer parts_answer stmt_answer
  stmt_more x = judge_own (kept_rules context) k (place a s) x

  pub parts_block : (b : Body) → parts_answer context k a s (Block b) ≡ body_answer context k a s b
  unfolding parts_answer body_answer
  parts_block b = judge_block (kept_rules context) k (place a s) b

  pub parts_branch : (h : ℕ) (p q : Body) → parts_answer context k a s (Branch h p q) ≡ and_then (body_answer context k a s p) (λ l. body_answer context l a s q)
  unfolding parts_answer body_answer
  parts_branch h p q = judge_branch (kept_rules context) k (place a s) h p q

  pub parts_leaf : (acts : List Act) (st : Statement) (span : Span) → parts_answer context k a s (Leaf acts st span) ≡ Ok k
  unfolding parts_answer judge_parts judge_visits
  parts_leaf acts st span = refl

  pub parts_break : parts_answer context k a s Break ≡ Ok k
  unfolding parts_answer judge_parts judge_visits
  parts_break = refl

  pub parts_continue : parts_answer context k a s Continue ≡ Ok k
  unfolding parts_answer judge_parts judge_visits
  parts_continue = refl

  pub parts_return : (value : Option ℕ) → parts_answer context k a s (Return value) ≡ Ok k
  unfolding parts_answer judge_parts judge_visits
  parts_return value = refl

  pub parts_kill : parts_answer context k a s Kill ≡ Ok k
  unfolding parts_answer judge_parts judge_visits
  parts_kill = refl

  pub parts_switch : (h : ℕ) (cs : Cases) → parts_answer context k a s (Switch h cs) ≡ cases_answer context k (case_abilities a) s cs
  unfolding parts_answer cases_answer
  parts_switch h cs = judge_switch (kept_rules context) k (place a s) h cs

  -- the places in the continuing list of a Loop and at its break condition
  in_second : (b : Body) → in_continuing b (place a s) ≡ place continuing_abilities (behind_loop_body s b)
  in_second b i =
      record { abilities = continuing_abilities; scope = body_put b s.scope i; must = sure_put b s.must i }

  at_end : (b d : Body) → at_break_if b d (place a s) ≡ place a (with_puts (behind_loop_body s b) (body_puts d))
  at_end b d i =
      record {
        abilities = a;
        scope = (ap (λ t. with_body t d) (body_put b s.scope) ∙ body_put d (with_all s.scope (body_puts b))) i;
        must = (ap (λ t. with_body t d) (sure_put b s.must) ∙ body_put d (with_all s.must (puts_to_continue b))) i;
      }

  pub parts_loop : (b d : Body) (q : Option ℕ) → parts_answer context k a s (Loop b d q)
      ≡ and_then (body_answer context k (loop_abilities a) s b) (λ l. and_then (body_answer context l continuing_abilities (behind_loop_body s b) d) (λ m. break_if_answer context m a (with_puts (behind_loop_body s b) (body_puts d)) q))
  unfolding parts_answer body_answer break_if_answer
  parts_loop b d q =
      judge_loop (kept_rules context) k (place a s) b d q
      ∙ ap (λ (f : State → Result State FunctionError). and_then (body_answer context k (loop_abilities a) s b) f) (λ i l. and_then (judge_body (kept_rules context) l (in_second b i) d) (λ m. judge_break_if (kept_rules context) m (at_end b d i) q))

  pub cases_done : cases_answer context k a s NoCase ≡ Ok k
  unfolding cases_answer
  cases_done = judge_no_case (kept_rules context) k (place a s)

  pub cases_more : (v : SwitchValue) (f : Bool) (b : Body) (cs : Cases) → cases_answer context k a s (OneCase v f b cs) ≡ and_then (body_answer context k a s b) (λ l. cases_answer context l a s cs)
  unfolding cases_answer body_answer
  cases_more v f b cs = judge_one_case (kept_rules context) k (place a s) v f b cs

  -- a statement with parts puts nothing itself
  pub parts_later : (x : Stmt) → parts_answer context k a (with_puts s (puts x)) x ≡ parts_answer context k a s x
  unfolding parts_answer judge_parts judge_visits
  parts_later (Leaf acts st span) = refl
  parts_later (Return v) = refl
  parts_later (Block b) = refl
  parts_later (Branch h p q) = refl
  parts_later (Switch h cs) = refl
  parts_later (Loop b d q) = refl
  parts_later Break = refl
  parts_later Continue = refl
  parts_later Kill = refl

-- what is left of a list, one step on and at the end
module _ (context : Context) (xs : List Located) (i : ℕ) where
  pub body_turn : (k : State) (a : Abilities) (s : Sets) (x : Located) → i < length xs → x ≡ get_or xs i x →
      body_answer context k a s (list_of context (drop i xs)) ≡ and_then (stmt_answer context k a s (tree_of context x)) (λ l. body_answer context l a (with_puts s (puts (tree_of context x))) (list_of context (drop (i + 1) xs)))
  body_turn k a s x lt e =
      at_drop_more (λ l. body_answer context k a s (list_of context l)) xs i x lt
      ∙ ap (λ z. body_answer context k a s (list_of context (z ∷ drop (i + 1) xs))) (sym e)
      ∙ body_more context k a s (tree_of context x) (list_of context (drop (i + 1) xs))

  pub puts_turn : (x : Located) → i < length xs → x ≡ get_or xs i x →
      body_puts (list_of context (drop i xs)) ≡ puts (tree_of context x) ++ body_puts (list_of context (drop (i + 1) xs))
  unfolding body_puts
  puts_turn x lt e =
      at_drop_more (λ l. body_puts (list_of context l)) xs i x lt ∙ ap (λ z. body_puts (list_of context (z ∷ drop (i + 1) xs))) (sym e)

  pub puts_end : length xs ≤ i → body_puts (list_of context (drop i xs)) ≡ []
  unfolding body_puts
  puts_end le = at_drop_all (λ l. body_puts (list_of context l)) xs i le

  pub body_end : (k : State) (a : Abilities) (s : Sets) → length xs ≤ i → body_answer context k a s (list_of context (drop i xs)) ≡ Ok k
  body_end k a s le = at_drop_all (λ l. body_answer context k a s (list_of context l)) xs i le ∙ body_done context k a s

module _ (context : Context) (xs : List Located) (i : ℕ) where
  pub holds_turn : (x : Located) → i < length xs → x ≡ get_or xs i x →
      body_holds_continue (list_of context (drop i xs)) ≡ (holds_continue (tree_of context x) || body_holds_continue (list_of context (drop (i + 1) xs)))
  holds_turn x lt e =
      at_drop_more (λ l. body_holds_continue (list_of context l)) xs i x lt
      ∙ ap (λ z. body_holds_continue (list_of context (z ∷ drop (i + 1) xs))) (sym e)

  pub rest_turn : (x : Located) → i < length xs → x ≡ get_or xs i x → list_of context (drop i xs) ≡ Then (tree_of context x) (list_of context (drop (i + 1) xs))
  rest_turn x lt e =
      at_drop_more (list_of context) xs i x lt ∙ ap (λ z. list_of context (z ∷ drop (i + 1) xs)) (sym e)

  pub rest_end : length xs ≤ i → list_of context (drop i xs) ≡ Done
  rest_end le = at_drop_all (list_of context) xs i le

module _ (context : Context) (cs : List SwitchCase) (i : ℕ) where
  pub cases_hold_turn : (c : SwitchCase) → i < length cs → c ≡ get_or cs i c →
      cases_hold_continue (cases_of context (drop i cs)) ≡ (body_holds_continue (block_of context (out-SwitchCase c).body) || cases_hold_continue (cases_of context (drop (i + 1) cs)))
  cases_hold_turn c lt e =
      at_drop_more (λ l. cases_hold_continue (cases_of context l)) cs i c lt
      ∙ ap (λ z. cases_hold_continue (cases_of context (z ∷ drop (i + 1) cs))) (sym e)

  pub cases_turn : (k : State) (a : Abilities) (s : Sets) (c : SwitchCase) → i < length cs → c ≡ get_or cs i c →
      cases_answer context k a s (cases_of context (drop i cs)) ≡ and_then (body_answer context k a s (block_of context (out-SwitchCase c).body)) (λ l. cases_answer context l a s (cases_of context (drop (i + 1) cs)))
  cases_turn k a s c lt e =
      at_drop_more (λ l. cases_answer context k a s (cases_of context l)) cs i c lt
      ∙ ap (λ z. cases_answer context k a s (cases_of context (z ∷ drop (i + 1) cs))) (sym e)
      ∙ cases_more context k a s (out-SwitchCase c).value (out-SwitchCase c).fall_through (block_of context (out-SwitchCase c).body) (cases_of context (drop (i + 1) cs))

  pub cases_end : (k : State) (a : Abilities) (s : Sets) → length cs ≤ i → cases_answer context k a s (cases_of context (drop i cs)) ≡ Ok k
  cases_end k a s le = at_drop_all (λ l. cases_answer context k a s (cases_of context l)) cs i le ∙ cases_done context k a s

-- a statement's own check list, and what it leaves
module _ (context : Context) (k : State) (a : Abilities) (s : Sets) (x : Stmt) where
  pub own_passes : first_fault (statement_points context (seen k) (place a s) x) ≡ None → own_answer context k a s x ≡ Ok (with_statement context k x)
  unfolding own_answer Rattle.naga_runs.specs.ByTree.judge
  own_passes e = ap (λ o. answer o (with_statement context k x)) e

  pub own_refuses : (e : Refusal FunctionError) → IsFirstFault (statement_points context (seen k) (place a s) x) e → Answers (Exactly (own_answer context k a s x)) (Err e)
  unfolding own_answer Rattle.naga_runs.specs.ByTree.judge
  own_refuses (refusal.Fault f) h = ap (λ o. answer o (with_statement context k x)) h
  own_refuses refusal.Memory h = tt

-- a break condition
pub break_if_passes : (context : Context) (k : State) (a : Abilities) (s : Sets) (q : Option ℕ) → first_fault (break_if_points context (place_at s) q) ≡ None → break_if_answer context k a s q ≡ Ok k
unfolding break_if_answer judge_break_if judge_visits Rattle.naga_runs.specs.ByTree.judge
break_if_passes context k a s None e = refl
break_if_passes context k a s (Some h) e = ap (λ o. and_then (answer o k) (λ st. Ok st)) e

pub break_if_refuses : (context : Context) (k : State) (a : Abilities) (s : Sets) (q : Option ℕ) (e : Refusal FunctionError) → IsFirstFault (break_if_points context (place_at s) q) e → Answers (Exactly (break_if_answer context k a s q)) (Err e)
unfolding break_if_answer judge_break_if judge_visits Rattle.naga_runs.specs.ByTree.judge
break_if_refuses context k a s None (refusal.Fault f) i = ap (λ o. answer o k) i
break_if_refuses context k a s (Some h) (refusal.Fault f) i = ap (λ o. and_then (answer o k) (λ st. Ok st)) i
break_if_refuses context k a s q refusal.Memory i = tt

-- a statement that is done with its own check list has no parts, and holds no Continue
pub whole_parts : (context : Context) (k : State) (a : Abilities) (s : Sets) (st : Statement) (span : Span) → is_whole st ≡ true → parts_answer context k a s (view.tree_of (emitted_operands context.fun) st span) ≡ Ok k
unfolding parts_answer judge_parts judge_visits
whole_parts context k a s (ir.Emit r) span e = refl
whole_parts context k a s (ir.Store p v) span e = refl
whole_parts context k a s (ir.Call f arguments r) span e = refl
whole_parts context k a s ir.Kill span e = refl
whole_parts context k a s _ span e = cc

pub whole_holds : (context : Context) (st : Statement) (span : Span) → is_whole st ≡ true → false ≡ holds_continue (view.tree_of (emitted_operands context.fun) st span)
whole_holds context (ir.Emit r) span e = refl
whole_holds context (ir.Store p v) span e = refl
whole_holds context (ir.Call f arguments r) span e = refl
whole_holds context ir.Kill span e = refl
whole_holds context _ span e = cc

pub ruleset walking = (parts_block, parts_branch, parts_switch, parts_loop, parts_leaf, parts_break, parts_continue, parts_return, parts_kill, stmt_more, own_passes, own_refuses, break_if_passes, break_if_refuses, passes, stops_first, stops_next, answers_next)

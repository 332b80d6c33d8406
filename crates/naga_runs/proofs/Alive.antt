-- Where each position of a body may be come to, a turn that is left at its first Continue, or goes on where it holds
-- none, has put what is in Must.
use Rattle.std.specs.Prelude.{ℕ, zero, suc, Bool, true, false, Option, Some, ◌≡◌, ◌∷◌, ◌&&◌, if◌then◌else◌, []}
use Rattle.std.proofs.Common.{refl, sym, ap, ◌∙◌}
use Rattle.ir_statements.specs.Tree.{Stmt, Body, Cases, Block, Branch, Switch, Loop, Continue, Done, Then, NoCase, OneCase}
use Rattle.naga_runs.specs.DeadCode.{goes_on, continues, list_continues, cases_continue, earlier_go_on, lists_go_on, may_come}
use Rattle.naga_runs.specs.Handles.{Handles}
use Rattle.naga_runs.specs.Must.{holds_continue, body_holds_continue, cases_hold_continue, with_sure}
use Rattle.naga_runs.specs.Positions.{Part, Position, statement_at, case_at, list_in, list_below, node_below, node_at, Root, Inner, Accept, Reject, Case, LoopBody, Continuing, Condition, In}
use Rattle.naga_runs.specs.PutsAndUses.{acts_of, with_acts, with_body}
use Rattle.naga_runs.specs.Scope.{with_earlier, with_lists, known_at}
use Rattle.naga_runs.proofs.Bools.{not_true, and_both, and_first, and_second, or_map, or_none}
use Rattle.naga_runs.proofs.EveryPosition.{node_none}
use Rattle.naga_runs.proofs.Meets.{Stands}
use Rattle.naga_runs.proofs.Settings.{holds}
use Rattle.naga_runs.proofs.Ways.{with_until, with_turn}

-- wherever something stands in a list, it may be come to
abbrev pub Alive : Body → Type 0
Alive b = (i : ℕ) (r : Position) → Stands (node_at b (In Root i ∷ r)) → may_come b (In Root i ∷ r) ≡ true

stands_below : (x : Option Stmt) (part : Part) (j : ℕ) (r : Position) →
    Stands (node_at (list_in x part) (In part j ∷ r)) →
    Stands (node_below x (In part j ∷ r) (node_at (list_in x part) (In part j ∷ r)))
stands_below (Some (Loop b c q)) Condition zero [] s = absurd (s (node_none (In Condition 0 ∷ [])))
stands_below _ part j r s = s

-- so in the lists of its statements
pub alive_in : (b : Body) → Alive b → (i : ℕ) (part : Part) → Alive (list_in (statement_at b i) part)
alive_in b alive i part j r s =
    and_second (lists_go_on (statement_at b i) (In part j ∷ r)) _ (and_second (earlier_go_on b i) _
    (alive i (In part j ∷ r) (stands_below (statement_at b i) part j r s)))

alive_rest : (x : Stmt) (b : Body) → Alive (Then x b) → Alive b
alive_rest x b alive i r s =
    let m = alive (suc i) r s in
    and_both (earlier_go_on b i) _ (and_second (goes_on x) _ (and_first _ _ m))
    (and_second (goes_on x && earlier_go_on b i) _ m)

first_goes : (x : Stmt) (b : Body) → Alive (Then x b) → body_holds_continue b ≡ true → goes_on x ≡ true
first_goes x Done alive e = absurd (not_true e)
first_goes x (Then y b) alive e =
    and_first (goes_on x) _ (and_first (goes_on x && earlier_go_on (Then y b) 0) _ (alive 1 [] (λ e. cc)))

-- what holds a Continue may continue
mutual
  may_continue : (x : Stmt) → ((part : Part) → Alive (list_in (Some x) part)) → holds_continue x ≡ true →
      continues x ≡ true
  may_continue (Block b) alive e = list_may_continue b (alive Inner) e
  may_continue (Branch h a r) alive e =
      or_map _ _ _ _ (list_may_continue a (alive Accept)) (list_may_continue r (alive Reject)) e
  may_continue (Switch h cases) alive e = cases_may_continue cases (λ k. alive (Case k)) e
  may_continue Continue alive e = refl
  may_continue x alive e = absurd (not_true e)

  list_may_continue : (b : Body) → Alive b → body_holds_continue b ≡ true → list_continues b ≡ true
  list_may_continue Done alive e = e
  list_may_continue (Then x b) alive e =
      or_map (holds_continue x) (body_holds_continue b) _ _ (may_continue x (alive_in (Then x b) alive 0))
      (λ f. and_both (goes_on x) _ (first_goes x b alive f) (list_may_continue b (alive_rest x b alive) f)) e

  cases_may_continue : (cases : Cases) → ((k : ℕ) → Alive (case_at cases k)) → cases_hold_continue cases ≡ true →
      cases_continue cases ≡ true
  cases_may_continue NoCase alive e = e
  cases_may_continue (OneCase v falls b more) alive e =
      or_map _ _ _ _ (list_may_continue b (alive 0)) (cases_may_continue more (λ k. alive (suc k))) e

same_test : (a b : Bool) → (a ≡ true → b ≡ true) → (b ≡ true → a ≡ true) → a ≡ b
same_test true b f g = sym (f refl)
same_test false true f g = g refl
same_test false false f g = refl

until_same : (b : Body) → Alive b → (s : Handles) → with_until continues s b ≡ with_sure s b
until_same Done alive s = refl
until_same (Then x b) alive s =
    ap (λ c. if c then s else with_until continues (with_acts s (acts_of x)) b)
    (same_test (continues x) (holds_continue x) (holds x) (may_continue x (alive_in (Then x b) alive 0)))
    ∙ ap (λ t. if holds_continue x then s else t) (until_same b (alive_rest x b alive) (with_acts s (acts_of x)))

if_none : (c : Bool) (s t u : Handles) → c ≡ false → t ≡ u → (if c then s else t) ≡ u
if_none true s t u e f = cc
if_none false s t u e f = f

none_held : (b : Body) (s : Handles) → body_holds_continue b ≡ false → with_body s b ≡ with_sure s b
none_held Done s e = refl
none_held (Then x b) s e =
    let e' = or_none (holds_continue x) (body_holds_continue b) e in
    sym (if_none (holds_continue x) s _ _ e'.0 (sym (none_held b (with_acts s (acts_of x)) e'.1)))

turn_same : (b : Body) → Alive b → (s : Handles) → with_turn s b ≡ with_sure s b
turn_same b alive s = go (list_continues b) refl
  where
    go : (c : Bool) → list_continues b ≡ c → (if c then with_until continues s b else with_body s b) ≡ with_sure s b
    go true e = until_same b alive s
    go false e = none_held b s (held (body_holds_continue b) refl)
      where
        held : (h : Bool) → body_holds_continue b ≡ h → h ≡ false
        held true f = sym (list_may_continue b alive f) ∙ e
        held false f = refl

lists_same : (x : Option Stmt) (p : Position) (s : Handles) → ((part : Part) → Alive (list_in x part)) →
    with_lists with_turn s x p ≡ with_lists with_sure s x p
lists_same (Some (Loop b c q)) (In Continuing i ∷ p) s alive = turn_same b (alive LoopBody) s
lists_same (Some (Loop b c q)) (In Condition i ∷ p) s alive =
    ap (λ s. with_body s c) (turn_same b (alive LoopBody) s)
lists_same _ _ s alive = refl

alive_none : Alive Done
alive_none i r s = absurd (s (node_none (In Root i ∷ r)))

alive_below : (x : Option Stmt) (p : Position) → ((part : Part) → Alive (list_in x part)) → Alive (list_below x p)
alive_below x [] alive = alive_none
alive_below x (In part i ∷ p) alive = alive part

pub known_same : (p : Position) (b : Body) (s : Handles) → Alive b → known_at with_turn s b p ≡ known_at with_sure s b p
known_same [] b s alive = refl
known_same (In part i ∷ p) b s alive =
    ap (λ s. known_at with_turn s (list_below (statement_at b i) p) p)
    (lists_same (statement_at b i) p (with_earlier s b i) (alive_in b alive i))
    ∙ known_same p (list_below (statement_at b i) p) _ (alive_below (statement_at b i) p (alive_in b alive i))

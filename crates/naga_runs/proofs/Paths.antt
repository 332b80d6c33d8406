-- What stands at a position, seen from a statement and from the list below it.
use Rattle.std.specs.Prelude.{ℕ, zero, Option, Some, None, Contains, ◌≡◌, ◌∷◌, ◌++◌, []}
use Rattle.std.proofs.Common.{refl, ap}
use Rattle.ir_statements.specs.Tree.{Stmt, Body, Loop}
use Rattle.naga_runs.specs.Positions.{Part, PositionStep, Position, BodyNode, list_below, statement_node, condition_node, node_below, node_at, Condition, In, StatementNode}
use Rattle.naga_runs.specs.PutsAndUses.{node_acts, puts_of}
use Rattle.naga_runs.proofs.Joins.{none_in}

-- where a step leads, the first list is the same whatever the index
pub same_below : (x : Option Stmt) (a : Position) (part : Part) (i j : ℕ) (r : Position) →
    list_below x (a ++ In part j ∷ []) ≡ list_below x (a ++ In part i ∷ r)
same_below x [] part i j r = refl
same_below x (In q n ∷ a) part i j r = refl

-- what stands at a position below a statement puts what stands there in the list that the position goes on in
pub puts_deeper : (x : Option Stmt) (q : Position) (h : ℕ) →
    Contains (puts_of (node_acts (node_at (list_below x q) q))) h → Contains
    (puts_of (node_acts (node_below x q (node_at (list_below x q) q)))) h
puts_deeper x [] h c = absurd (none_in h c)
puts_deeper (Some (Loop b d q)) (In Condition zero ∷ []) h c = absurd (none_in h c)
puts_deeper _ (In part i ∷ q) h c = c

pub condition_puts : (q : Option ℕ) (h : ℕ) → Contains (puts_of (node_acts (condition_node q))) h → ⊥
condition_puts None h c = none_in h c
condition_puts (Some g) h c = none_in h c

pub puts_nearer : (x : Option Stmt) (part : Part) (i : ℕ) (q : Position) (deeper : BodyNode) (h : ℕ) →
    Contains (puts_of (node_acts (node_below x (In part i ∷ q) deeper))) h → Contains
    (puts_of (node_acts deeper)) h
puts_nearer (Some (Loop b d q)) Condition zero [] deeper h c = absurd (condition_puts q h c)
puts_nearer _ part i q deeper h c = c

pub puts_near : (x : Option Stmt) (a : Position) (part : Part) (j : ℕ) (deeper : BodyNode) (h : ℕ) →
    Contains (puts_of (node_acts (node_below x (a ++ In part j ∷ []) deeper))) h → Contains
    (puts_of (node_acts deeper)) h
puts_near x [] part j deeper h c = puts_nearer x part j [] deeper h c
puts_near x (In q n ∷ a) part j deeper h c = puts_nearer x q n (a ++ In part j ∷ []) deeper h c

pub empty_is : (a : Position) (step : PositionStep) (r : Position) → [] ≡ a ++ step ∷ r → ⊥
empty_is [] step r e = cc
empty_is (x ∷ a) step r e = cc

abbrev pub index_of : Position → ℕ
index_of [] = 0
index_of (In part i ∷ p) = i

abbrev pub rest_of : Position → Position
rest_of [] = []
rest_of (step ∷ p) = p

-- a Loop in the list that a position goes on in stands at the position
pub loop_deeper : (x : Option Stmt) (part : Part) (i : ℕ) (q : Position) (y : Stmt) →
    node_at (list_below x (In part i ∷ q)) (In part i ∷ q) ≡ StatementNode y → node_below x (In part i ∷ q)
    (node_at (list_below x (In part i ∷ q)) (In part i ∷ q)) ≡ StatementNode y
loop_deeper (Some (Loop b d q)) Condition zero [] y e = cc
loop_deeper _ part i q y e = e

pub loop_nearer : (x : Option Stmt) (part : Part) (i : ℕ) (q : Position) (deeper : BodyNode) (b c : Body)
    (cond : Option ℕ) → node_below x (In part i ∷ q) deeper ≡ StatementNode (Loop b c cond) →
    deeper ≡ StatementNode (Loop b c cond)
loop_nearer (Some (Loop b d None)) Condition zero [] deeper b' c' cond e = cc
loop_nearer (Some (Loop b d (Some h))) Condition zero [] deeper b' c' cond e = cc
loop_nearer _ part i q deeper b c cond e = e

abbrev pub statement_of : BodyNode → Option Stmt
statement_of (StatementNode x) = Some x
statement_of _ = None

pub statement_is : (x : Option Stmt) (y : Stmt) → statement_node x ≡ StatementNode y → x ≡ Some y
statement_is None y e = cc
statement_is (Some x) y e = ap statement_of e

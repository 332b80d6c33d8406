-- What a place has from further out, the conditions on the parts of a body there, and how these parts end.
use Rattle.std.specs.Prelude.{ℕ, suc, Bool, true, false, List, Option, Some, ◌≡◌, ◌∷◌, ◌++◌, [], ◌+◌}
use Rattle.std.proofs.Common.{refl}
use Rattle.ir_statements.specs.Tree.{Act, Stmt, Body, Cases, Leaf, Block, Branch, Switch, Loop, Break, Continue, Return, Kill, Done, Then, OneCase}
use Rattle.ir_statements.specs.declared.operations.SwitchValue.{SwitchValue}
use Rattle.naga_runs.specs.Handles.{Handles}
use Rattle.naga_runs.specs.Abilities.{may_return_from, may_break_from, may_continue_from, node_jump}
use Rattle.naga_runs.specs.Machine.{Outcome, Next, Broken, Continued, Returned, Ended, Stopped, Stuck}
use Rattle.naga_runs.specs.Must.{holds_continue, body_holds_continue, with_sure}
use Rattle.naga_runs.specs.Positions.{Position, BodyNode, case_at, list_below, node_below, node_at, Root, Inner, Accept, Reject, Case, LoopBody, Continuing, In}
use Rattle.naga_runs.specs.PutsAndUses.{acts_of, node_acts, with_acts, with_body}
use Rattle.naga_runs.specs.Scope.{with_lists, known_at}
use Rattle.naga_runs.specs.Skipped.{with_rest, with_skipped, with_cut, cuts_below, skipped_from}
use Rattle.naga_runs.specs.Soundness.{Allowed}
use Rattle.naga_runs.proofs.Tallies.{Tallied, Within, Fresh, acts_cut}

-- the same below a statement
abbrev pub node_in : Stmt → Position → BodyNode
node_in x p = node_below (Some x) p (node_at (list_below (Some x) p) p)

abbrev pub known_in : (Handles → Body → Handles) → Stmt → Handles → Position → Handles
known_in body_list x s p = known_at body_list (with_lists body_list s (Some x) p) (list_below (Some x) p) p

abbrev pub skipped_in : Stmt → Handles → Position → List (Option ℕ) → Handles
skipped_in x s p cuts = skipped_from (with_cut s (Some x) p cuts) (list_below (Some x) p) p (cuts_below p cuts)

-- what a place has from further out
pub record Context : Type 0 where
  pub scope : Handles
  pub skip : Handles
  pub must : Handles
  pub ret : Bool
  pub brk : Bool
  pub cont : Bool

-- an event of a place that does these acts
pub record At (scope skip must : Handles) (acts : List Act) (a : Act) (done : List Act)
    (live : Handles) : Type 0 where
  pub rest : List Act
  pub split : acts ≡ done ++ a ∷ rest
  pub tally : Tallied live (with_acts scope done) skip
  pub within : Within skip scope
  pub sure : Within (with_acts must done) live

-- what is live at a place
pub record Lives (C : Context) (live : Handles) : Type 0 where
  pub tally : Tallied live C.scope C.skip
  pub sure : Within C.must live

abbrev pub in_case : Context → Context
in_case C = record C { brk = true }

-- the conditions at a position, of which `node` stands there
abbrev pub AbleAt : BodyNode → Context → Position → Type 0
AbleAt node C p = Allowed (node_jump node) (may_return_from C.ret p) (may_break_from C.brk p)
    (may_continue_from C.cont p)

-- the conditions inside a statement
pub record StmtOk (x : Stmt) (C : Context) : Type 0 where
  pub fresh : (p : Position) → Fresh (known_in with_body x C.scope p) (node_acts (node_in x p))
  pub able : (p : Position) → AbleAt (node_in x p) C p

-- those inside a list, wherever it stands
pub record BodyOk (b : Body) (C : Context) : Type 0 where
  pub fresh : (i : ℕ) (p : Position) →
      Fresh (known_at with_body C.scope b (In Root i ∷ p)) (node_acts (node_at b (In Root i ∷ p)))
  pub able : (i : ℕ) (p : Position) → AbleAt (node_at b (In Root i ∷ p)) C p

pub record CasesOk (cs : Cases) (C : Context) : Type 0 where
  pub fresh : (k i : ℕ) (p : Position) →
      Fresh (known_at with_body C.scope (case_at cs k) (In Root i ∷ p))
      (node_acts (node_at (case_at cs k) (In Root i ∷ p)))
  pub able : (k i : ℕ) (p : Position) → AbleAt (node_at (case_at cs k) (In Root i ∷ p)) (in_case C) p

-- past a statement
abbrev pub past : Stmt → Context → Context
past x C = record C { scope = with_acts C.scope (acts_of x); must = with_acts C.must (acts_of x) }

abbrev pub in_body : Context → Context
in_body C = record C { brk = true; cont = true }

abbrev pub in_continuing : Body → Option ℕ → Context → Context
in_continuing b cut C =
    record {
      scope = with_body C.scope b;
      skip = with_skipped C.skip b cut;
      must = with_sure C.must b;
      ret = false;
      brk = false;
      cont = false;
    }

-- the conditions of the parts of a statement, from its own
pub block_ok : (b : Body) (C : Context) → StmtOk (Block b) C → BodyOk b C
block_ok b C ok = record { fresh = λ i r. ok.fresh (In Inner i ∷ r); able = λ i r. ok.able (In Inner i ∷ r) }

pub accept_ok : (h : ℕ) (a r : Body) (C : Context) → StmtOk (Branch h a r) C → BodyOk a C
accept_ok h a r C ok = record { fresh = λ i p. ok.fresh (In Accept i ∷ p); able = λ i p. ok.able (In Accept i ∷ p) }

pub reject_ok : (h : ℕ) (a r : Body) (C : Context) → StmtOk (Branch h a r) C → BodyOk r C
reject_ok h a r C ok = record { fresh = λ i p. ok.fresh (In Reject i ∷ p); able = λ i p. ok.able (In Reject i ∷ p) }

pub switch_ok : (h : ℕ) (cases : Cases) (C : Context) → StmtOk (Switch h cases) C → CasesOk cases C
switch_ok h cases C ok =
    record { fresh = λ k i p. ok.fresh (In (Case k) i ∷ p); able = λ k i p. ok.able (In (Case k) i ∷ p) }

pub loop_body_ok : (b c : Body) (q : Option ℕ) (C : Context) → StmtOk (Loop b c q) C → BodyOk b (in_body C)
loop_body_ok b c q C ok =
    record { fresh = λ i p. ok.fresh (In LoopBody i ∷ p); able = λ i p. ok.able (In LoopBody i ∷ p) }

pub continuing_ok : (b c : Body) (q : Option ℕ) (cut : Option ℕ) (C : Context) → StmtOk (Loop b c q) C →
    BodyOk c (in_continuing b cut C)
continuing_ok b c q cut C ok =
    record { fresh = λ i p. ok.fresh (In Continuing i ∷ p); able = λ i p. ok.able (In Continuing i ∷ p) }

-- those of the first statement or case, and of the others
pub first_ok : (x : Stmt) (b : Body) (C : Context) → BodyOk (Then x b) C → StmtOk x C
first_ok x b C ok = record { fresh = ok.fresh 0; able = ok.able 0 }

pub others_ok : (x : Stmt) (b : Body) (C : Context) → BodyOk (Then x b) C → BodyOk b (past x C)
others_ok x b C ok = record { fresh = λ j. ok.fresh (suc j); able = λ j. ok.able (suc j) }

pub first_case_ok : (v : SwitchValue) (falls : Bool) (b : Body) (more : Cases) (C : Context) →
    CasesOk (OneCase v falls b more) C → BodyOk b (in_case C)
first_case_ok v falls b more C ok = record { fresh = ok.fresh 0; able = ok.able 0 }

pub other_cases_ok : (v : SwitchValue) (falls : Bool) (b : Body) (more : Cases) (C : Context) →
    CasesOk (OneCase v falls b more) C → CasesOk more C
other_cases_ok v falls b more C ok = record { fresh = λ m. ok.fresh (suc m); able = λ m. ok.able (suc m) }

-- how a statement or the cases of a Switch end, where `then` is the context after it
abbrev pub Ends : Context → Context → Bool → Outcome → Handles → Type 0
Ends C next holds Next live = Lives next live
Ends C next holds Broken live = C.brk ≡ true
Ends C next holds Continued live = (C.cont ≡ true) × (holds ≡ true) × Lives C live
Ends C next holds Returned live = C.ret ≡ true
Ends C next holds Ended live = Unit {0}
Ends C next holds Stopped live = Unit {0}
Ends C next holds Stuck live = ⊥

-- a list that left by "continue" from an index
pub record Cut (b : Body) (C : Context) (i : ℕ) (index : ℕ) (live : Handles) : Type 0 where
  pub place : ℕ
  pub is : index ≡ i + place
  pub able : C.cont ≡ true
  pub holds : body_holds_continue b ≡ true
  pub tally : Tallied live (with_body C.scope b) (with_rest C.skip b place)
  pub sure : Within (with_sure C.must b) live

abbrev pub BodyEnds : Body → Context → ℕ → Outcome → ℕ → Handles → Type 0
BodyEnds b C i Next index live = Tallied live (with_body C.scope b) C.skip × Within (with_body C.must b) live
BodyEnds b C i Broken index live = C.brk ≡ true
BodyEnds b C i Continued index live = Cut b C i index live
BodyEnds b C i Returned index live = C.ret ≡ true
BodyEnds b C i Ended index live = Unit {0}
BodyEnds b C i Stopped index live = Unit {0}
BodyEnds b C i Stuck index live = ⊥

-- what holds a Continue puts nothing itself
pub quiet : (x : Stmt) (s : Handles) → holds_continue x ≡ true → with_acts s (acts_of x) ≡ s
quiet (Leaf acts x' sp) s e = cc
quiet (Block b) s e = refl
quiet (Branch h a r) s e = refl
quiet (Switch h cs) s e = refl
quiet (Loop b c q) s e = refl
quiet Break s e = refl
quiet Continue s e = refl
quiet (Return v) s e = cc
quiet Kill s e = refl

own_fresh : (x : Stmt) (s : Handles) → Fresh (known_in with_body x s []) (node_acts (node_in x [])) →
    Fresh s (acts_of x)
own_fresh (Leaf acts x' sp) s f = f
own_fresh (Block b) s f = f
own_fresh (Branch h a r) s f = f
own_fresh (Switch h cs) s f = f
own_fresh (Loop b c q) s f = f
own_fresh Break s f = f
own_fresh Continue s f = f
own_fresh (Return v) s f = f
own_fresh Kill s f = f

-- the rest of a list that "continue" left
pub body_cut : (b : Body) (l s k : Handles) → ((i : ℕ) (p : Position) →
    Fresh (known_at with_body s b (In Root i ∷ p)) (node_acts (node_at b (In Root i ∷ p)))) → Tallied l s
    k → Tallied l (with_body s b) (with_body k b)
body_cut Done l s k f t = t
body_cut (Then x b) l s k f t =
    body_cut b l (with_acts s (acts_of x)) (with_acts k (acts_of x)) (λ i p. f (suc i) p)
    (acts_cut (acts_of x) l s k (own_fresh x s (f 0 [])) t)

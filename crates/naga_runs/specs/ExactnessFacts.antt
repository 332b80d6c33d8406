-- Where exactness ends, a fact each, and two bodies that it speaks of. Of the handles, 0 and 1 are given, 3 needs an
-- emission.
use Rattle.ir_statements.specs.declared.statements.Statement as s
use Rattle.ir_statements.specs.declared.operations.SwitchValue.TheVariants.{Default}
use Rattle.std.specs.Prelude.{ℕ, true, false, List, Some, None, Err, ◌≡◌, ◌∷◌, []}
use Rattle.ir_statements.specs.Tree.{Stmt, Body, Put, Leaf, Branch, Switch, Loop, Break, Continue, Done, Then, NoCase, OneCase}
use Rattle.naga_runs.specs.ComesTo.{Comes, HasNoDeadCode}
use Rattle.naga_runs.specs.Handles.{Handles}
use Rattle.naga_runs.specs.Judgement.{judgement}
use Rattle.naga_runs.specs.PlainRules.{plain_rules, NotInScope, AlreadyInScope}
use Rattle.naga_runs.specs.Positions.{Position, Root, Continuing, Condition, In}
use Rattle.naga_runs.specs.Samples.{given}

abbrev pub emits_3 : Stmt
emits_3 = Leaf (Put 3 ∷ []) (s.Emit (record { start = 3; end = 4 })) (record { start = 0; end = 0 })

abbrev pub alone : Stmt → Body
alone x = Then x Done

-- if 0 { continue } { }
abbrev pub continue_if_0 : Stmt
continue_if_0 = Branch 0 (alone Continue) Done

-- loop { break continue emit 3 } { } break_if 3
abbrev pub dead_loop : Body
dead_loop = alone (Loop (Then Break (Then Continue (alone emits_3))) Done (Some 3))

-- its break condition
abbrev pub dead_condition : Position
dead_condition = In Root 0 ∷ In Condition 0 ∷ []

-- Dead code: the body is refused for what its break condition uses, and no run comes to the break condition.
pub record DeadCodeIsRefused : Type 0 where
  pub refused : judgement plain_rules 0 given dead_loop ≡ Err (NotInScope 3)
  pub never_met : (pre : Handles) (n : ℕ) (choices : List ℕ) (live : Handles) →
      Comes pre dead_loop n choices dead_condition live → ⊥

-- loop { if 0 { continue } { } emit 3 break } { emit 3 }
abbrev pub put_twice : Body
put_twice = alone (Loop (Then continue_if_0 (Then emits_3 (alone Break))) (alone emits_3) None)

-- its second emission
abbrev pub second_put : Position
second_put = In Root 0 ∷ In Continuing 0 ∷ []

-- Puts: the body is refused for its second emission, and has no dead code, and no run has 3 live there.
pub record PutIsRefused : Type 0 where
  pub refused : judgement plain_rules 0 given put_twice ≡ Err (AlreadyInScope 3)
  pub clean : HasNoDeadCode put_twice
  pub never_live : (n : ℕ) (choices : List ℕ) (live : Handles) → Comes given put_twice n choices second_put live →
      live 3 ≡ false

-- loop { if 0 { continue } { } emit 3 } { } break_if 3
abbrev pub continuing_loop : Body
continuing_loop = alone (Loop (Then continue_if_0 (alone emits_3)) Done (Some 3))

-- switch 1 { default fall { emit 3 } default { break } } emit 3
abbrev pub falling_switch : Body
falling_switch =
    Then (Switch 1 (OneCase Default true (alone emits_3) (OneCase Default false (alone Break) NoCase))) (alone emits_3)

-- Two bodies without dead code, a Loop with a Continue and a Switch that falls through: the law says something of them.
abbrev pub LawApplies : Type 0
LawApplies = HasNoDeadCode continuing_loop × HasNoDeadCode falling_switch

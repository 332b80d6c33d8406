-- Judgements of small bodies by the plainest rules, worked by hand from the definitions in words.
use Rattle.ir_statements.specs.declared.operations.SwitchValue.TheVariants.{Default}
use Rattle.std.specs.Prelude.{ℕ, suc, true, false, not, Some, None, Result, Ok, Err, ◌≡◌, ◌∷◌, ◌==◌, []}
use Rattle.ir_statements.specs.Tree.{Body, Use, Put, Block, Branch, Switch, Loop, Break, Continue, Return, Kill, Done, Then, NoCase, OneCase}
use Rattle.naga_runs.specs.Judgement.{Rules, judgement}
use Rattle.naga_runs.specs.PlainRules.{PlainFault, plain_rules, NotInScope, AlreadyInScope, BreakOutside, ContinueOutside, ReturnInContinuing}
use Rattle.naga_runs.specs.Positions.{BodyNode, StatementNode, BreakIfNode}
use Rattle.naga_runs.specs.Samples.{given, emits, emit, emit_5, emit_6, reads, one, may_continue_here, only_default, siblings, whole_loop}

-- the answer: the first fault, else the number of visits
abbrev pub plainly : Body → Result ℕ PlainFault
plainly b = judgement plain_rules 0 given b

-- Jumps and their order among other faults.
pub record JumpRows : Type 0 where
  -- (an empty body)
  pub nothing : plainly Done ≡ Ok 0
  -- break
  pub break_alone : plainly (one Break) ≡ Err BreakOutside
  -- continue
  pub continue_alone : plainly (one Continue) ≡ Err ContinueOutside
  -- return 0
  pub return_alone : plainly (one (Return (Some 0))) ≡ Ok 1
  -- loop { switch 1 { default { continue } } } { }
  pub continue_in_case : plainly (one (Loop (one (only_default (one Continue))) Done None)) ≡ Ok 3
  -- loop { } { switch 1 { default { continue } } }
  pub continue_in_case_of_continuing :
      plainly (one (Loop Done (one (only_default (one Continue))) None)) ≡ Err ContinueOutside
  -- loop { } { loop { return } { } }
  pub return_in_inner_loop :
      plainly (one (Loop Done (one (Loop (one (Return None)) Done None)) None)) ≡ Err ReturnInContinuing
  -- loop { } { switch 1 { default { break } } }
  pub break_in_case_of_continuing : plainly (one (Loop Done (one (only_default (one Break))) None)) ≡ Ok 3
  -- loop { } { break }
  pub break_in_continuing : plainly (one (Loop Done (one Break) None)) ≡ Err BreakOutside
  -- loop { } { kill break } break_if 5
  pub before_break_if : plainly (one (Loop Done (Then Kill (one Break)) (Some 5))) ≡ Err BreakOutside
  -- loop { } { return 3 }
  pub ability_before_use : plainly (one (Loop Done (one (Return (Some 3))) None)) ≡ Err ReturnInContinuing
  -- if 0 { break } { } continue
  pub accept_before_next : plainly (Then (Branch 0 (one Break) Done) (one Continue)) ≡ Err BreakOutside

-- Uses and puts, where no Continue skips any.
pub record ScopeRows : Type 0 where
  -- if 0 { emit 3 } { emit 3 } emit 3
  pub each_sibling : plainly (Then (Branch 0 (one (emit 3)) (one (emit 3))) (one (emit 3))) ≡ Ok 4
  -- emit 3 emit 3
  pub twice : plainly (Then (emit 3) (one (emit 3))) ≡ Err (AlreadyInScope 3)
  -- emit 0
  pub needs_none : plainly (one (emit 0)) ≡ Err (AlreadyInScope 0)
  -- block { emit 3 } if 3 { } { }
  pub after_block : plainly (Then (Block (one (emit 3))) (one (reads 3))) ≡ Err (NotInScope 3)
  -- switch 1 { 1 fall { emit 3 } default { if 3 { } { } } }
  pub next_case :
      plainly (one (Switch 1 (OneCase Default true (one (emit 3)) (OneCase Default false (one (reads 3)) NoCase))))
      ≡ Err (NotInScope 3)
  -- loop { break emit 3 if 3 { } { } } { }
  pub after_jump : plainly (one (Loop (Then Break (Then (emit 3) (one (reads 3)))) Done None)) ≡ Ok 4
  -- loop { emit 3 } { emit 3 }
  pub in_both_lists : plainly (one (Loop (one (emit 3)) (one (emit 3)) None)) ≡ Err (AlreadyInScope 3)
  -- loop { } { emit 3 } break_if 3
  pub of_continuing : plainly (one (Loop Done (one (emit 3)) (Some 3))) ≡ Ok 3
  -- loop { emit 3 } { } emit 3
  pub after_loop : plainly (Then (Loop (one (emit 3)) Done None) (one (emit 3))) ≡ Ok 3
  -- return 5
  pub returned : plainly (one (Return (Some 5))) ≡ Err (NotInScope 5)
  -- if 3 { break } { }
  pub use_before_accept : plainly (one (Branch 3 (one Break) Done)) ≡ Err (NotInScope 3)
  -- if 0 { emit 3 emit 3 } { break }
  pub second_in_accept : plainly (one (Branch 0 (Then (emit 3) (one (emit 3))) (one Break))) ≡ Err (AlreadyInScope 3)

-- Operands of emitted expressions: 5 has the operand 4, 6 the operand 5.
pub record OperandRows : Type 0 where
  -- emit 6
  pub not_emitted : plainly (one emit_6) ≡ Err (NotInScope 5)
  -- emit 5 .. 6
  pub same_range : plainly (one (emits 5 7 (Use 4 ∷ Put 5 ∷ Use 5 ∷ Put 6 ∷ []))) ≡ Ok 1
  -- block { emit 5 } emit 6
  pub left_block : plainly (Then (Block (one emit_5)) (one emit_6)) ≡ Err (NotInScope 5)
  -- emit 5 block { emit 6 } emit 6
  pub inner_block : plainly (Then emit_5 (Then (Block (one emit_6)) (one emit_6))) ≡ Ok 4
  -- emit 5 emit 6 emit 6
  pub emitted_twice : plainly (Then emit_5 (Then emit_6 (one emit_6))) ≡ Err (AlreadyInScope 6)

-- What a Continue may have skipped: uses depend on what every run has put, puts on the scope.
pub record SureRows : Type 0 where
  -- loop { if 0 { continue } { } emit 3 } { } break_if 3
  pub skipping : plainly (one (Loop (Then may_continue_here (one (emit 3))) Done (Some 3))) ≡ Err (NotInScope 3)
  -- loop { emit 3 if 0 { continue } { } } { } break_if 3
  pub emitted_first : plainly (one (Loop (Then (emit 3) (one may_continue_here)) Done (Some 3))) ≡ Ok 5
  -- loop { if 0 { continue } { } emit 3 if 3 { } { } } { }
  pub in_the_body : plainly (one (Loop (Then may_continue_here (Then (emit 3) (one (reads 3)))) Done None)) ≡ Ok 5
  -- loop { if 0 { continue } { } emit 3 } { emit 3 }
  pub put_again :
      plainly (one (Loop (Then may_continue_here (one (emit 3))) (one (emit 3)) None)) ≡ Err (AlreadyInScope 3)
  -- loop { loop { continue } { } emit 3 } { } break_if 3
  pub inner_continue : plainly (one (Loop (Then (Loop (one Continue) Done None) (one (emit 3))) Done (Some 3))) ≡ Ok 5
  -- loop { switch 1 { default { continue } } emit 3 } { } break_if 3
  pub continue_in_switch :
      plainly (one (Loop (Then (only_default (one Continue)) (one (emit 3))) Done (Some 3))) ≡ Err (NotInScope 3)
  -- loop { break continue emit 3 } { } break_if 3
  pub dead_continue :
      plainly (one (Loop (Then Break (Then Continue (one (emit 3)))) Done (Some 3))) ≡ Err (NotInScope 3)
  -- loop { if 0 { continue } { } emit 3 } { loop { if 3 { } { } } { } }
  pub further_in :
      plainly (one (Loop (Then may_continue_here (one (emit 3))) (one (Loop (one (reads 3)) Done None)) None))
      ≡ Err (NotInScope 3)
  -- loop { if 0 { continue } { } emit 5 } { emit 6 }
  pub operand_skipped :
      plainly (one (Loop (Then may_continue_here (one emit_5)) (one emit_6) None)) ≡ Err (NotInScope 5)
  -- loop { emit 3 if 0 { continue } { } emit 5 } { emit 6 } break_if 5 emit 3
  pub last_emission :
      plainly (Then (Loop (Then (emit 3) (Then may_continue_here (one (emit 5)))) (one (emit 6)) (Some 5)) (one (emit 3)))
      ≡ Err (NotInScope 5)

-- refuses the visit that has so many before it, and reports what stands there
abbrev pub refuse_at : ℕ → Rules ℕ BodyNode
refuse_at k = record { points = λ n v. (not (n == k), v.node) ∷ []; advance = λ n v. suc n }

-- The state at a visit is that of the visits before it.
pub record StatesGoAlong : Type 0 where
  pub first : judgement (refuse_at 0) 0 given siblings ≡ Err (StatementNode (Block (one (emit 3))))
  pub fourth : judgement (refuse_at 3) 0 given whole_loop ≡ Err (StatementNode Continue)
  pub seventh : judgement (refuse_at 6) 0 given whole_loop ≡ Err (BreakIfNode 5)
  pub eighth : judgement (refuse_at 7) 0 given whole_loop ≡ Err (StatementNode (emit 3))
  pub no_ninth : judgement (refuse_at 8) 0 given whole_loop ≡ Ok 8

-- Small bodies that facts speak of. Their handles are those of a function with the expressions 0, 1, 2 (literals) and
-- 4 (a local), which need no emission, and 3, 5, 6, which do.
use Rattle.ir_statements.specs.declared.statements.Statement as s
use Rattle.ir_statements.specs.declared.operations.SwitchValue.TheVariants.{Default}
use Rattle.std.specs.List.{range_with_len}
use Rattle.std.specs.Prelude.{ℕ, suc, true, false, List, Some, None, filter, nat_lt, ◌∷◌, ◌||◌, ◌==◌, []}
use Rattle.ir_statements.specs.Tree.{Act, Stmt, Body, Use, Put, Leaf, Block, Branch, Switch, Loop, Break, Continue, Return, Done, Then, NoCase, OneCase}
use Rattle.ir_arena.specs.declared.span.Span.{Span}
use Rattle.naga_runs.specs.Handles.{Handles}

-- the handles that need no emission
abbrev pub given : Handles
given h = nat_lt h 3 || (h == 4)

-- those of a set below a bound, in order
abbrev pub members_below : ℕ → Handles → List ℕ
members_below n s = filter s (range_with_len 0 n)

abbrev pub nowhere : Span
nowhere = record { start = 0; end = 0 }

-- an Emit of the handles from one on and before another, which does these acts
abbrev pub emits : ℕ → ℕ → List Act → Stmt
emits start end acts = Leaf acts (s.Emit (record { start = start; end = end })) nowhere

-- an Emit of one handle that has no operands
abbrev pub emit : ℕ → Stmt
emit h = emits h (suc h) (Put h ∷ [])

-- emit 3, where 3 has the operand 0, and emit 5 and emit 6, where 5 has the operand 4 and 6 the operand 5
abbrev pub emit_3 : Stmt
emit_3 = emits 3 4 (Use 0 ∷ Put 3 ∷ [])

abbrev pub emit_5 : Stmt
emit_5 = emits 5 6 (Use 4 ∷ Put 5 ∷ [])

abbrev pub emit_6 : Stmt
emit_6 = emits 6 7 (Use 5 ∷ Put 6 ∷ [])

-- if h { } { }
abbrev pub reads : ℕ → Stmt
reads h = Branch h Done Done

-- a list of one statement
abbrev pub one : Stmt → Body
one x = Then x Done

-- if 0 { continue } { }
abbrev pub may_continue_here : Stmt
may_continue_here = Branch 0 (one Continue) Done

-- a Switch with a default alone
abbrev pub only_default : Body → Stmt
only_default b = Switch 1 (OneCase Default false b NoCase)

-- block { emit 3 } if 0 { emit 3 emit 5 } { emit 3 } emit 3
abbrev pub siblings : Body
siblings =
    Then (Block (one (emit 3))) (Then (Branch 0 (Then (emit 3) (one (emit 5))) (one (emit 3))) (one (emit 3)))

-- loop { emit 3 if 0 { continue } { } emit 5 } { emit 6 } break_if 5 emit 3
abbrev pub whole_loop : Body
whole_loop =
    Then (Loop (Then (emit 3) (Then may_continue_here (one (emit 5)))) (one (emit 6)) (Some 5)) (one (emit 3))

-- loop { emit 3 } { loop { emit 5 } { emit 6 } break_if 6 } break_if 3
abbrev pub loop_in_continuing : Body
loop_in_continuing = one (Loop (one (emit 3)) (one (Loop (one (emit 5)) (one (emit 6)) (Some 6))) (Some 3))

-- switch 1 { 0 fall { emit 3 } 1 { break }
--     default { loop { switch 1 { default { continue } } } { switch 1 { default { break } } } } }
abbrev pub switches : Body
switches =
    one (Switch 1
    (OneCase Default true (one (emit 3))
    (OneCase Default false (one Break)
    (OneCase Default false (one (Loop (one (only_default (one Continue))) (one (only_default (one Break))) None))
    NoCase))))

-- loop { if 0 { continue } { } emit 3 } { } break_if 3, where 3 has the operand 0
abbrev pub skipping_loop : Body
skipping_loop = one (Loop (Then may_continue_here (one emit_3)) Done (Some 3))

-- loop { emit 3 if 0 { continue } { } } { } break_if 3, where 3 has the operand 0
abbrev pub sure_loop : Body
sure_loop = one (Loop (Then emit_3 (one may_continue_here)) Done (Some 3))

-- loop { loop { continue } { } emit 3 } { } break_if 3
abbrev pub inner_continue : Body
inner_continue = one (Loop (Then (Loop (one Continue) Done None) (one (emit 3))) Done (Some 3))

-- loop { switch 1 { default { continue } } emit 3 } { } break_if 3
abbrev pub continue_in_switch : Body
continue_in_switch = one (Loop (Then (only_default (one Continue)) (one (emit 3))) Done (Some 3))

-- loop { break continue emit 3 } { } break_if 3
abbrev pub dead_continue : Body
dead_continue = one (Loop (Then Break (Then Continue (one (emit 3)))) Done (Some 3))

-- loop { if 0 { continue } { } emit 3 } { loop { if 0 { continue } { } emit 5 } { emit 6 } break_if 5 } break_if 3
abbrev pub skipping_twice : Body
skipping_twice =
    one (Loop (Then may_continue_here (one (emit 3)))
    (one (Loop (Then may_continue_here (one (emit 5))) (one (emit 6)) (Some 5))) (Some 3))

-- loop { emit 3 block { emit 5 continue emit 6 } emit 6 } { } break_if 6
abbrev pub continue_in_block : Body
continue_in_block =
    one (Loop
    (Then (emit 3) (Then (Block (Then (emit 5) (Then Continue (one (emit 6))))) (one (emit 6)))) Done (Some 6))

-- loop { if 0 { block { continue } } { } emit 3 } { } break_if 3
abbrev pub continue_in_inner_block : Body
continue_in_inner_block =
    one (Loop (Then (Branch 0 (one (Block (one Continue))) Done) (one (emit 3))) Done (Some 3))

-- loop { loop { } { switch 1 { default { continue } } } emit 3 } { } break_if 3
abbrev pub continue_in_continuing : Body
continue_in_continuing =
    one (Loop (Then (Loop Done (one (only_default (one Continue))) None) (one (emit 3))) Done (Some 3))

-- loop { if 0 { return continue } { } emit 3 } { } break_if 3
abbrev pub continue_behind_return : Body
continue_behind_return =
    one (Loop (Then (Branch 0 (Then (Return None) (one Continue)) Done) (one (emit 3))) Done (Some 3))

-- loop { if 0 { continue } { } emit 3 if 0 { continue } { } emit 5 } { } break_if 3
abbrev pub two_continues : Body
two_continues =
    one (Loop (Then may_continue_here (Then (emit 3) (Then may_continue_here (one (emit 5))))) Done (Some 3))

-- loop { loop { continue } { } break_if 0 emit 3 } { } break_if 3
abbrev pub inner_continue_before : Body
inner_continue_before = one (Loop (Then (Loop (one Continue) Done (Some 0)) (one (emit 3))) Done (Some 3))

-- loop { emit 3 if 0 { continue } { } emit 5 } { if 3 { } { } if 5 { } { } }
abbrev pub emits_round_continue : Body
emits_round_continue =
    one (Loop (Then (emit 3) (Then may_continue_here (one (emit 5)))) (Then (reads 3) (one (reads 5))) None)

-- loop { emit 3 emit 5 emit 6 } { } break_if 3
abbrev pub three_emits : Body
three_emits = one (Loop (Then (emit 3) (Then (emit 5) (one (emit 6)))) Done (Some 3))

-- emit 5 .. 6, where 5 has the operand 4 and 6 the operand 5
abbrev pub several_acts : Body
several_acts = one (emits 5 7 (Use 4 ∷ Put 5 ∷ Use 5 ∷ Put 6 ∷ []))

-- The tree of a block with operands, list by list.
use Rattle.std.proofs.Common.{◌≡◌, ◌∙◌, ℕ, zero, suc, List, Some, refl, ap, arith}
use Rattle.std.proofs.lemmas.Bool.Decides.{nat_tests}
use Rattle.ir_statements.proofs.Rows.{body_of-list}
use Rattle.ir_statements.specs.Tree.{Body, Branch, Loop, Continue, Done, Then}
use Rattle.ir_statements.specs.View.{list_body}
use Rattle.ir_statements.specs.View as view
use Rattle.ir_statements.specs.declared.statements.Block.{roll-Block, out-roll-Block}
use Rattle.ir_statements.specs.declared.statements.Located.{Located}
use Rattle.check_scope.specs.BodyTrees.{emitted_operands}
use Rattle.check_scope.specs.Context.{pre_emitted_of}
use Rattle.naga_runs.specs.Samples.{given, one, emit_3, may_continue_here, skipping_loop, sure_loop}
use Rattle.case_notation.specs.CaseBlocks.{block_from, block_of, list_of}
use Rattle.case_notation.specs.declared.bench.Bench.TheVariants.{P}
use Rattle.case_reply.specs.BenchModule.{bench_function}
use Rattle.case_reply.specs.WorkedLoop.{tree_in_bench, LoopRows}

-- the operands of what the Emits of bench P emit
abbrev operands : ℕ → List ℕ
operands = emitted_operands (bench_function P (block_of Done))

block_tree : (xs : List Located) → view.body_of operands (block_from xs) ≡ list_body operands xs
unfolding block_from
block_tree xs =
    body_of-list operands (roll-Block (record { list = xs }))
    ∙ ap (λ block. list_body operands block.list) (out-roll-Block (record { list = xs }))

-- the empty list, and that of a Continue
nothing : view.body_of operands (block_of Done) ≡ Done
unfolding list_of
nothing = block_tree (list_of Done)

continues : view.body_of operands (block_of (one Continue)) ≡ one Continue
unfolding list_of
continues = block_tree (list_of (one Continue))

-- the body lists of the two Loops
abbrev skipping_list : Body
skipping_list = Then may_continue_here (one emit_3)

abbrev sure_list : Body
sure_list = Then emit_3 (one may_continue_here)

skipping_turn : view.body_of operands (block_of skipping_list) ≡ skipping_list
unfolding list_of
skipping_turn = block_tree (list_of skipping_list) ∙ (λ i. Then (Branch 0 (continues i) (nothing i)) (one emit_3))

sure_turn : view.body_of operands (block_of sure_list) ≡ sure_list
unfolding list_of
sure_turn = block_tree (list_of sure_list) ∙ (λ i. Then emit_3 (one (Branch 0 (continues i) (nothing i))))

skipping_is : tree_in_bench skipping_loop ≡ skipping_loop
unfolding list_of
skipping_is = block_tree (list_of skipping_loop) ∙ (λ i. one (Loop (skipping_turn i) (nothing i) (Some 3)))

sure_is : tree_in_bench sure_loop ≡ sure_loop
unfolding list_of
sure_is = block_tree (list_of sure_loop) ∙ (λ i. one (Loop (sure_turn i) (nothing i) (Some 3)))

given_is : (h : ℕ) → pre_emitted_of (bench_function P (block_of skipping_loop)) h ≡ given h
given_is zero = refl
given_is (suc zero) = refl
given_is (suc (suc zero)) = refl
given_is (suc (suc (suc zero))) = refl
given_is (suc (suc (suc (suc zero)))) = refl
given_is (suc (suc (suc (suc (suc zero))))) = refl
given_is (suc (suc (suc (suc (suc (suc h)))))) = grind (arith, nat_tests)

pub loop_rows : LoopRows
loop_rows = record { skipping = skipping_is; sure = sure_is; given = given_is }

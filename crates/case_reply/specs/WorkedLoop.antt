-- The two loops whose runs are worked by hand are bodies of bench P: `loop { if t { continue } { } emit e1 } { } break_if e1`,
-- and the one with its Emit first. The handles that need no emission are those of the bench's function.
use Rattle.std.specs.Prelude.{ℕ, ◌≡◌}
use Rattle.ir_statements.specs.Tree.{Body}
use Rattle.check_scope.specs.BodyTrees.{body_of}
use Rattle.check_scope.specs.Context.{pre_emitted_of}
use Rattle.naga_runs.specs.Samples.{given, skipping_loop, sure_loop}
use Rattle.case_notation.specs.CaseBlocks.{block_of}
use Rattle.case_notation.specs.declared.bench.Bench.TheVariants.{P}
use Rattle.case_reply.specs.BenchModule.{bench_function}

-- the tree of the body of bench P's function, where the block is that of this tree
abbrev pub tree_in_bench : Body → Body
tree_in_bench body = body_of (bench_function P (block_of body))

pub record LoopRows : Type 0 where
  pub skipping : tree_in_bench skipping_loop ≡ skipping_loop
  pub sure : tree_in_bench sure_loop ≡ sure_loop
  pub given : (h : ℕ) → pre_emitted_of (bench_function P (block_of skipping_loop)) h ≡ given h

-- Bodies that the notation can say.
use Rattle.std.specs.Prelude.{ℕ, Bool, true, false, List, [], ◌∷◌, Option, Some, None, ◌&&◌, IsTrue, length, nat_lt, nat_le}
use Rattle.ir_statements.specs.declared.statements.Statement.{Statement, Switch'}
use Rattle.ir_statements.specs.declared.statements.Statement as statement
use Rattle.ir_statements.specs.Tree.{Stmt, Leaf, Block, Branch, Switch, Loop, Break, Continue, Return, Kill, Body, Done, Then, Cases, NoCase, OneCase}
use Rattle.case_notation.specs.Bench.{names_of, callees_of}
use Rattle.case_notation.specs.declared.bench.Bench.{Bench}

-- no item
abbrev pub is_empty : {A : Type 0} → List A → Bool
is_empty [] = true
is_empty (x ∷ xs) = false

-- below n, if there is one
abbrev pub is_below_if_any : ℕ → Option ℕ → Bool
is_below_if_any n None = true
is_below_if_any n (Some h) = nat_lt h n

-- an Emit of a range of the first n expressions, a store, a control barrier, or a call of one of these functions without
-- arguments
abbrev pub is_sayable_leaf : (n callees : ℕ) → Statement → Bool
is_sayable_leaf n callees (statement.Emit r) = nat_le r.start r.end && nat_le r.end n
is_sayable_leaf n callees (statement.Call f arguments result) =
    nat_lt f callees && (is_empty arguments && is_below_if_any n result)
is_sayable_leaf n callees (statement.Store pointer value) = nat_lt pointer n && nat_lt value n
is_sayable_leaf n callees (statement.ControlBarrier b) = true
is_sayable_leaf n callees (statement.Block body) = false
is_sayable_leaf n callees (statement.If condition accept reject) = false
is_sayable_leaf n callees (Switch' selector shape row) = false
is_sayable_leaf n callees (statement.Loop body continuing break_if) = false
is_sayable_leaf n callees statement.Break = false
is_sayable_leaf n callees statement.Continue = false
is_sayable_leaf n callees (statement.Return value) = false
is_sayable_leaf n callees statement.Kill = false
is_sayable_leaf n callees (statement.MemoryBarrier barrier) = false
is_sayable_leaf n callees (statement.ImageStore image coordinate array_index value) = false
is_sayable_leaf n callees (statement.Atomic pointer fun value result) = false
is_sayable_leaf n callees (statement.ImageAtomic image coordinate array_index fun value) = false
is_sayable_leaf n callees (statement.WorkGroupUniformLoad pointer result) = false
is_sayable_leaf n callees (statement.RayQuery query fun) = false
is_sayable_leaf n callees (statement.SubgroupBallot result predicate) = false
is_sayable_leaf n callees (statement.SubgroupCollectiveOperation op collective_op argument result) = false
is_sayable_leaf n callees (statement.SubgroupGather mode argument result) = false
is_sayable_leaf n callees (statement.CooperativeStore target source) = false
is_sayable_leaf n callees (statement.RayPipelineFunction fun) = false

unfoldable mutual
  -- each leaf is such an Emit, store, barrier or call, and each handle lies below n
  pub is_sayable : (n callees : ℕ) → Body → Bool
  is_sayable n callees Done = true
  is_sayable n callees (Then x rest) = is_sayable_statement n callees x && is_sayable n callees rest

  pub is_sayable_statement : (n callees : ℕ) → Stmt → Bool
  is_sayable_statement n callees (Leaf acts x span) = is_sayable_leaf n callees x
  is_sayable_statement n callees (Block inner) = is_sayable n callees inner
  is_sayable_statement n callees (Branch condition accept reject) =
      nat_lt condition n && (is_sayable n callees accept && is_sayable n callees reject)
  is_sayable_statement n callees (Switch selector cases) = nat_lt selector n && are_sayable_cases n callees cases
  is_sayable_statement n callees (Loop body continuing condition) =
      is_below_if_any n condition && (is_sayable n callees body && is_sayable n callees continuing)
  is_sayable_statement n callees Break = true
  is_sayable_statement n callees Continue = true
  is_sayable_statement n callees (Return value) = is_below_if_any n value
  is_sayable_statement n callees Kill = true

  pub are_sayable_cases : (n callees : ℕ) → Cases → Bool
  are_sayable_cases n callees NoCase = true
  are_sayable_cases n callees (OneCase value falls inner rest) = is_sayable n callees inner && are_sayable_cases n callees rest

-- the notation can say the body in a case of the bench
abbrev pub IsSayable : Bench → Body → Type 0
IsSayable bench body = IsTrue (is_sayable (length (names_of bench)) (callees_of bench) body)

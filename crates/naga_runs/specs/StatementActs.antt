-- What each kind of statement uses and puts, in the order in which it is checked, read off the statement itself.
use Rattle.ir_statements.specs.declared.statements.Statement as s
use Rattle.ir_statements.specs.declared.operations.AtomicFunction.TheVariants as atomic
use Rattle.ir_statements.specs.declared.operations.GatherMode.TheVariants as gather
use Rattle.ir_statements.specs.declared.operations.RayQueryFunction.TheVariants as query
use Rattle.ir_statements.specs.declared.operations.RayPipelineFunction.TheVariants.{TraceRay}
use Rattle.std.specs.Prelude.{ℕ, List, Option, Some, None, ◌≡◌, ◌∷◌, ◌==◌, if◌then◌else◌, []}
use Rattle.ir_statements.specs.Tree.{Act, Use, Put}
use Rattle.ir_statements.specs.declared.statements.Block.{Block}
use Rattle.ir_statements.specs.View.{tree_of}
use Rattle.ir_flags.specs.declared.ir.Barrier.{Barrier}
use Rattle.ir_statements.specs.declared.operations.AtomicFunction.{AtomicFunction}
use Rattle.ir_statements.specs.declared.operations.CollectiveOperation.{CollectiveOperation}
use Rattle.ir_statements.specs.declared.operations.CooperativeData.{CooperativeData}
use Rattle.ir_statements.specs.declared.statements.Statement.{Statement}
use Rattle.ir_statements.specs.declared.statements.SwitchCase.{SwitchCase}
use Rattle.ir_statements.specs.declared.operations.SubgroupOperation.{SubgroupOperation}
use Rattle.naga_runs.specs.PutsAndUses.{acts_of}
use Rattle.naga_runs.specs.Samples.{nowhere}

-- the acts of a statement, where the expressions 5, 6 and 7 have the operands 4; 5 and 0; none
abbrev pub sample_operands : ℕ → List ℕ
sample_operands h = if h == 5 then 4 ∷ [] else if h == 6 then 5 ∷ 0 ∷ [] else []

abbrev pub does : Statement → List Act
does x = acts_of (tree_of sample_operands x nowhere)

pub record ActsOfStatements : Type 0 where
  -- each handle of the range in order, after its operands
  pub emit_three : does (s.Emit (record { start = 5; end = 8 })) ≡ Use 4 ∷ Put 5 ∷ Use 5 ∷ Use 0 ∷ Put 6 ∷ Put 7 ∷ []
  pub emit_nothing : does (s.Emit (record { start = 5; end = 5 })) ≡ []
  -- statements that hold others, and jumps
  pub block : (b : Block) → does (s.Block b) ≡ []
  pub if_else : (c : ℕ) (a r : Block) → does (s.If c a r) ≡ Use c ∷ []
  pub switch : (h : ℕ) (cases : List SwitchCase) → does (s.Switch h cases) ≡ Use h ∷ []
  pub loop : (b c : Block) (q : Option ℕ) → does (s.Loop b c q) ≡ []
  pub break : does s.Break ≡ []
  pub continue : does s.Continue ≡ []
  pub return : (v : ℕ) → does (s.Return (Some v)) ≡ Use v ∷ []
  pub return_nothing : does (s.Return None) ≡ []
  pub kill : does s.Kill ≡ []
  -- the barriers use nothing
  pub control_barrier : (b : Barrier) → does (s.ControlBarrier b) ≡ []
  pub memory_barrier : (b : Barrier) → does (s.MemoryBarrier b) ≡ []
  -- the pointer of a Store and the image of an image statement are not used
  pub store : (p v : ℕ) → does (s.Store p v) ≡ Use v ∷ []
  pub image_store : (i c v : ℕ) → does (s.ImageStore i c None v) ≡ Use c ∷ Use v ∷ []
  pub image_store_array : (i c a v : ℕ) → does (s.ImageStore i c (Some a) v) ≡ Use c ∷ Use a ∷ Use v ∷ []
  pub image_atomic : (i c v : ℕ) (f : AtomicFunction) → does (s.ImageAtomic i c None f v) ≡ Use c ∷ Use v ∷ []
  pub image_atomic_array : (i c a v : ℕ) (f : AtomicFunction) →
      does (s.ImageAtomic i c (Some a) f v) ≡ Use c ∷ Use a ∷ Use v ∷ []
  -- an Atomic uses the value that it compares with only where it has a result, which it puts last
  pub atomic_add : (p v r : ℕ) → does (s.Atomic p atomic.Add v (Some r)) ≡ Use p ∷ Use v ∷ Put r ∷ []
  pub atomic_min : (p v : ℕ) → does (s.Atomic p atomic.Min v None) ≡ Use p ∷ Use v ∷ []
  pub exchange : (p v r : ℕ) → does (s.Atomic p (atomic.Exchange None) v (Some r)) ≡ Use p ∷ Use v ∷ Put r ∷ []
  pub compare_exchange : (p v c r : ℕ) →
      does (s.Atomic p (atomic.Exchange (Some c)) v (Some r)) ≡ Use p ∷ Use v ∷ Use c ∷ Put r ∷ []
  pub compare_no_result : (p v c : ℕ) → does (s.Atomic p (atomic.Exchange (Some c)) v None) ≡ Use p ∷ Use v ∷ []
  pub work_group_uniform_load : (p r : ℕ) → does (s.WorkGroupUniformLoad p r) ≡ Use p ∷ Put r ∷ []
  -- the arguments in order, then the result
  pub call : (f x y r : ℕ) → does (s.Call f (x ∷ y ∷ []) (Some r)) ≡ Use x ∷ Use y ∷ Put r ∷ []
  pub call_no_result : (f : ℕ) → does (s.Call f [] None) ≡ []
  -- the query itself is not used
  pub initialize : (q a d : ℕ) → does (s.RayQuery q (query.Initialize a d)) ≡ Use a ∷ Use d ∷ []
  pub proceed : (q r : ℕ) → does (s.RayQuery q (query.Proceed r)) ≡ Put r ∷ []
  pub generate_intersection : (q t : ℕ) → does (s.RayQuery q (query.GenerateIntersection t)) ≡ Use t ∷ []
  pub confirm_intersection : (q : ℕ) → does (s.RayQuery q query.ConfirmIntersection) ≡ []
  pub terminate : (q : ℕ) → does (s.RayQuery q query.Terminate) ≡ []
  pub ballot : (r : ℕ) → does (s.SubgroupBallot r None) ≡ Put r ∷ []
  pub ballot_predicate : (r p : ℕ) → does (s.SubgroupBallot r (Some p)) ≡ Use p ∷ Put r ∷ []
  pub collective : (o : SubgroupOperation) (c : CollectiveOperation) (a r : ℕ) →
      does (s.SubgroupCollectiveOperation o c a r) ≡ Use a ∷ Put r ∷ []
  -- the index of a gather comes before its argument
  pub gather_first : (a r : ℕ) → does (s.SubgroupGather gather.BroadcastFirst a r) ≡ Use a ∷ Put r ∷ []
  pub gather_swap : (d a r : ℕ) → does (s.SubgroupGather (gather.QuadSwap d) a r) ≡ Use a ∷ Put r ∷ []
  pub gather_broadcast : (i a r : ℕ) → does (s.SubgroupGather (gather.Broadcast i) a r) ≡ Use i ∷ Use a ∷ Put r ∷ []
  pub gather_shuffle : (i a r : ℕ) → does (s.SubgroupGather (gather.Shuffle i) a r) ≡ Use i ∷ Use a ∷ Put r ∷ []
  pub gather_down : (i a r : ℕ) → does (s.SubgroupGather (gather.ShuffleDown i) a r) ≡ Use i ∷ Use a ∷ Put r ∷ []
  pub gather_up : (i a r : ℕ) → does (s.SubgroupGather (gather.ShuffleUp i) a r) ≡ Use i ∷ Use a ∷ Put r ∷ []
  pub gather_xor : (i a r : ℕ) → does (s.SubgroupGather (gather.ShuffleXor i) a r) ≡ Use i ∷ Use a ∷ Put r ∷ []
  pub gather_quad : (i a r : ℕ) → does (s.SubgroupGather (gather.QuadBroadcast i) a r) ≡ Use i ∷ Use a ∷ Put r ∷ []
  -- the data pointer of a CooperativeStore is not used
  pub cooperative_store : (t : ℕ) (d : CooperativeData) → does (s.CooperativeStore t d) ≡ Use t ∷ []
  -- the payload before the descriptor
  pub trace_ray : (a d p : ℕ) → does (s.RayPipelineFunction (TraceRay a d p)) ≡ Use a ∷ Use p ∷ Use d ∷ []

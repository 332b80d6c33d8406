-- What the points of a body ask for is that it fits.
use Rattle.std.proofs.Common.{◌<◌, ◌≤◌, ℕ, List, [], ◌∷◌, ◌++◌, All, Option}
use Rattle.std.proofs.lemmas.Bool.{leb-true, le-leb}
use Rattle.std.specs.Prelude.{IfSome, nat_le}
use Rattle.ir_arena.specs.declared.range.Range.{Range}
use Rattle.ir_module.specs.declared.module.Module.{Module}
use Rattle.ir_statements.specs.declared.operations.AtomicFunction.{AtomicFunction}
use Rattle.ir_statements.specs.declared.operations.AtomicFunction.TheVariants as atomic
use Rattle.ir_statements.specs.declared.operations.GatherMode.{GatherMode}
use Rattle.ir_statements.specs.declared.operations.GatherMode.TheVariants as mode
use Rattle.ir_statements.specs.declared.operations.RayQueryFunction.{RayQueryFunction}
use Rattle.ir_statements.specs.declared.operations.RayQueryFunction.TheVariants as query
use Rattle.ir_statements.specs.declared.operations.RayPipelineFunction.{RayPipelineFunction}
use Rattle.ir_statements.specs.declared.operations.RayPipelineFunction.TheVariants.{TraceRay}
use Rattle.ir_statements.specs.declared.statements.Statement.{Statement, Switch'}
use Rattle.ir_statements.specs.declared.statements.Statement.TheVariants as s
use Rattle.ir_statements.specs.Tree.{Stmt, Leaf, Block, Branch, Switch, Loop, Break, Continue, Return, Kill, Body, Done, Then, Cases, NoCase, OneCase}
use Rattle.ir_facts.specs.FitsBody.{CalleeFits, AtomicFits, GatherFits, QueryFits, PipelineFits, LeafFits, StatementFits, BodyFits, CasesFit}
use Rattle.ir_arena.specs.Points.{points_of_each}
use Rattle.ir_misfits.specs.declared.misfit.HandleOf.TheVariants as handle
use Rattle.ir_misfits.specs.declared.misfit.Misfit.{Misfit}
use Rattle.ir_misfits.specs.declared.misfit.Owner.{Owner}
use Rattle.ir_misfits.specs.declared.misfit.Place.TheVariants as place
use Rattle.ir_misfits.specs.declared.misfit.Problem.TheVariants as problem
use Rattle.ir_misfits.specs.declared.misfit.StatementField.{StatementField}
use Rattle.ir_misfits.specs.declared.misfit.StatementField.TheVariants as field
use Rattle.ir_misfits.specs.MisfitPoints.{MisfitPoints}
use Rattle.ir_misfits.specs.OfSignatures.{callee_points}
use Rattle.ir_misfits.specs.OfBodies.{next, after_statement, after_body, names, names_if, atomic_points, gather_points, query_points, pipeline_points, range_points, call_argument_points, call_points, leaf_points, statement_points, body_points, cases_points}
use Rattle.ir_misfits.proofs.Exact.{Exact, nothing, said, point_then, point_alone, named_then, named_alone, named_if_alone, both, all_exact}
use Rattle.ir_misfits.proofs.ExactParts.{callee_exact}

-- of statement k, where a function has n expressions
module _ (n : ℕ) (of : Owner) (k : ℕ) where
  abbrev Is : ℕ → Type 0
  Is h = h < n

  abbrev Maybe : Option ℕ → Type 0
  Maybe o = IfSome o (λ h. h < n)

  first : (f : StatementField) (h : ℕ) (ps : MisfitPoints) (Q : Type 0) → Exact ps Q → Exact (names n of k f h ++ ps) (Is h × Q)
  first f h ps Q rest = named_then (place.InStatement of k f) handle.Expressions n h ps Q rest

  last : (f : StatementField) (h : ℕ) → Exact (names n of k f h) (Is h)
  last f h = named_alone (place.InStatement of k f) handle.Expressions n h

  first_if : (f : StatementField) (o : Option ℕ) (ps : MisfitPoints) (Q : Type 0) → Exact ps Q → Exact (names_if n of k f o ++ ps) (Maybe o × Q)
  first_if f o ps Q rest =
      both (names_if n of k f o) ps (Maybe o) Q (named_if_alone (place.InStatement of k f) handle.Expressions n o) rest

  last_if : (f : StatementField) (o : Option ℕ) → Exact (names_if n of k f o) (Maybe o)
  last_if f o = named_if_alone (place.InStatement of k f) handle.Expressions n o

  atomic_exact : (f : AtomicFunction) → Exact (atomic_points n of k f) (AtomicFits n f)
  atomic_exact (atomic.Exchange c) = last_if field.Compare c
  atomic_exact atomic.Add = nothing
  atomic_exact atomic.Subtract = nothing
  atomic_exact atomic.And = nothing
  atomic_exact atomic.ExclusiveOr = nothing
  atomic_exact atomic.InclusiveOr = nothing
  atomic_exact atomic.Min = nothing
  atomic_exact atomic.Max = nothing

  gather_exact : (g : GatherMode) → Exact (gather_points n of k g) (GatherFits n g)
  gather_exact mode.BroadcastFirst = nothing
  gather_exact (mode.QuadSwap d) = nothing
  gather_exact (mode.Broadcast h) = last field.Mode h
  gather_exact (mode.Shuffle h) = last field.Mode h
  gather_exact (mode.ShuffleDown h) = last field.Mode h
  gather_exact (mode.ShuffleUp h) = last field.Mode h
  gather_exact (mode.ShuffleXor h) = last field.Mode h
  gather_exact (mode.QuadBroadcast h) = last field.Mode h

  query_exact : (q : RayQueryFunction) → Exact (query_points n of k q) (QueryFits n q)
  query_exact (query.Initialize a d) =
      first field.AccelerationStructure a (names n of k field.Descriptor d) (Is d) (last field.Descriptor d)
  query_exact (query.Proceed r) = last field.Result r
  query_exact (query.GenerateIntersection t) = last field.HitT t
  query_exact query.ConfirmIntersection = nothing
  query_exact query.Terminate = nothing

  pipeline_exact : (f : RayPipelineFunction) → Exact (pipeline_points n of k f) (PipelineFits n f)
  pipeline_exact (TraceRay a d p) =
      said (λ h. (h.0, h.1.0, h.1.1)) (λ h. (h.0, (h.1, h.2)))
      (first field.AccelerationStructure a (names n of k field.Descriptor d ++ names n of k field.Payload p) (Is d × Is p)
      (first field.Descriptor d (names n of k field.Payload p) (Is p) (last field.Payload p)))

  range_exact : (r : Range) → Exact (range_points n of k r) ((r.start ≤ r.end) × (r.end ≤ n))
  range_exact r =
      let at = place.InStatement of k field.Range in
      let backwards : Misfit = record { place = at; problem = problem.Backwards r.start r.end } in
      let past : Misfit = record { place = at; problem = problem.PastEnd r.end n } in
      point_then (nat_le r.start r.end) backwards ((nat_le r.end n, past) ∷ []) (r.start ≤ r.end) (r.end ≤ n)
      (leb-true r.start r.end) (le-leb r.start r.end)
      (point_alone (nat_le r.end n) past (r.end ≤ n) (leb-true r.end n) (le-leb r.end n))

  arguments_exact : (xs : List ℕ) → Exact (points_of_each (call_argument_points n of k) xs) (All (λ h. h < n) xs)
  arguments_exact xs = all_exact (λ h. h < n) (call_argument_points n of k) (λ i h. last (field.CallArgument i) h) xs

  image_store_exact : (i c : ℕ) (a : Option ℕ) (v : ℕ) →
      Exact (names n of k field.Image i ++ (names n of k field.Coordinate c ++ (names_if n of k field.ArrayIndex a ++ names n of k field.Value v)))
      (Is i × Is c × Maybe a × Is v)
  image_store_exact i c a v =
      let ps3 = names_if n of k field.ArrayIndex a ++ names n of k field.Value v in
      said (λ h. (h.0, h.1.0, h.1.1.0, h.1.1.1)) (λ h. (h.0, (h.1, (h.2, h.3))))
      (first field.Image i (names n of k field.Coordinate c ++ ps3) (Is c × (Maybe a × Is v))
      (first field.Coordinate c ps3 (Maybe a × Is v)
      (first_if field.ArrayIndex a (names n of k field.Value v) (Is v) (last field.Value v))))

  atomic_statement_exact : (p : ℕ) (f : AtomicFunction) (v : ℕ) (r : Option ℕ) →
      Exact (names n of k field.Pointer p ++ (atomic_points n of k f ++ (names n of k field.Value v ++ names_if n of k field.Result r)))
      (Is p × AtomicFits n f × Is v × Maybe r)
  atomic_statement_exact p f v r =
      let ps3 = names n of k field.Value v ++ names_if n of k field.Result r in
      said (λ h. (h.0, h.1.0, h.1.1.0, h.1.1.1)) (λ h. (h.0, (h.1, (h.2, h.3))))
      (first field.Pointer p (atomic_points n of k f ++ ps3) (AtomicFits n f × (Is v × Maybe r))
      (both (atomic_points n of k f) ps3 (AtomicFits n f) (Is v × Maybe r) (atomic_exact f)
      (first field.Value v (names_if n of k field.Result r) (Maybe r) (last_if field.Result r))))

  image_atomic_exact : (i c : ℕ) (a : Option ℕ) (f : AtomicFunction) (v : ℕ) →
      Exact (names n of k field.Image i ++ (names n of k field.Coordinate c ++ (names_if n of k field.ArrayIndex a ++ (atomic_points n of k f ++ names n of k field.Value v))))
      (Is i × Is c × Maybe a × AtomicFits n f × Is v)
  image_atomic_exact i c a f v =
      let ps4 = atomic_points n of k f ++ names n of k field.Value v in
      let ps3 = names_if n of k field.ArrayIndex a ++ ps4 in
      said (λ h. (h.0, h.1.0, h.1.1.0, h.1.1.1.0, h.1.1.1.1)) (λ h. (h.0, (h.1, (h.2, (h.3, h.4)))))
      (first field.Image i (names n of k field.Coordinate c ++ ps3) (Is c × (Maybe a × (AtomicFits n f × Is v)))
      (first field.Coordinate c ps3 (Maybe a × (AtomicFits n f × Is v))
      (first_if field.ArrayIndex a ps4 (AtomicFits n f × Is v)
      (both (atomic_points n of k f) (names n of k field.Value v) (AtomicFits n f) (Is v) (atomic_exact f) (last field.Value v)))))

  gather_statement_exact : (g : GatherMode) (a r : ℕ) →
      Exact (gather_points n of k g ++ (names n of k field.Argument a ++ names n of k field.Result r)) (GatherFits n g × Is a × Is r)
  gather_statement_exact g a r =
      said (λ h. (h.0, h.1.0, h.1.1)) (λ h. (h.0, (h.1, h.2)))
      (both (gather_points n of k g) (names n of k field.Argument a ++ names n of k field.Result r) (GatherFits n g) (Is a × Is r) (gather_exact g)
      (first field.Argument a (names n of k field.Result r) (Is r) (last field.Result r)))

  two : (f g : StatementField) (a b : ℕ) → Exact (names n of k f a ++ names n of k g b) (Is a × Is b)
  two f g a b = first f a (names n of k g b) (Is b) (last g b)

-- of a module, where a function has n expressions and `earlier` functions before it
module _ (m : Module) (n earlier : ℕ) (of : Owner) where
  call_exact : (k f : ℕ) (xs : List ℕ) (r : Option ℕ) → Exact (call_points m n earlier of k f xs r)
      ((f < earlier) × CalleeFits m f × All (λ h. h < n) xs × IfSome r (λ h. h < n))
  call_exact k f xs r =
      let at = place.InStatement of k field.Function in
      let ps2 = callee_points m at f in
      let ps3 = points_of_each (call_argument_points n of k) xs in
      let ps4 = names_if n of k field.Result r in
      let P2 : Type 0 = CalleeFits m f in
      let P3 : Type 0 = All (λ h. h < n) xs in
      let P4 : Type 0 = IfSome r (λ h. h < n) in
      said (λ h. (h.0, h.1.0, h.1.1.0, h.1.1.1)) (λ h. (h.0, (h.1, (h.2, h.3))))
      (named_then at handle.Functions earlier f (ps2 ++ (ps3 ++ ps4)) (P2 × (P3 × P4))
      (both ps2 (ps3 ++ ps4) P2 (P3 × P4) (callee_exact m at f)
      (both ps3 ps4 P3 P4 (arguments_exact n of k xs) (last_if n of k field.Result r))))

  pub leaf_exact : (k : ℕ) (x : Statement) → Exact (leaf_points m n earlier of k x) (LeafFits m n earlier x)
  leaf_exact k (s.Emit r) = range_exact n of k r
  leaf_exact k (s.Store p v) = two n of k field.Pointer field.Value p v
  leaf_exact k (s.ImageStore i c a v) = image_store_exact n of k i c a v
  leaf_exact k (s.Atomic p f v r) = atomic_statement_exact n of k p f v r
  leaf_exact k (s.ImageAtomic i c a f v) = image_atomic_exact n of k i c a f v
  leaf_exact k (s.WorkGroupUniformLoad p r) = two n of k field.Pointer field.Result p r
  leaf_exact k (s.Call f xs r) = call_exact k f xs r
  leaf_exact k (s.RayQuery q f) =
      first n of k field.Query q (query_points n of k f) (QueryFits n f) (query_exact n of k f)
  leaf_exact k (s.SubgroupBallot r p) =
      first n of k field.Result r (names_if n of k field.Predicate p) (IfSome p (λ h. h < n)) (last_if n of k field.Predicate p)
  leaf_exact k (s.SubgroupCollectiveOperation o c a r) = two n of k field.Argument field.Result a r
  leaf_exact k (s.SubgroupGather g a r) = gather_statement_exact n of k g a r
  leaf_exact k (s.CooperativeStore t d) = two n of k field.Target field.Source t d.pointer
  leaf_exact k (s.RayPipelineFunction f) = pipeline_exact n of k f
  leaf_exact k (s.ControlBarrier b) = nothing
  leaf_exact k (s.MemoryBarrier b) = nothing
  leaf_exact k (s.Block b) = nothing
  leaf_exact k (s.If c a r) = nothing
  leaf_exact k (Switch' h j row) = nothing
  leaf_exact k (s.Loop b c q) = nothing
  leaf_exact k s.Break = nothing
  leaf_exact k s.Continue = nothing
  leaf_exact k (s.Return v) = nothing
  leaf_exact k s.Kill = nothing

  mutual
    statement_exact : (k : ℕ) (x : Stmt) → Exact (statement_points m n earlier of k x) (StatementFits m n earlier x)
    statement_exact k (Leaf acts x span) = leaf_exact k x
    statement_exact k (Block b) = body_exact (next k) b
    statement_exact k (Branch c a r) =
        let ps1 = body_points m n earlier of (next k) a in
        let ps2 = body_points m n earlier of (after_body (next k) a) r in
        let P1 : Type 0 = BodyFits m n earlier a in
        let P2 : Type 0 = BodyFits m n earlier r in
        said (λ h. (h.0, h.1.0, h.1.1)) (λ h. (h.0, (h.1, h.2)))
        (first n of k field.Condition c (ps1 ++ ps2) (P1 × P2)
        (both ps1 ps2 P1 P2 (body_exact (next k) a) (body_exact (after_body (next k) a) r)))
    statement_exact k (Switch h cs) =
        first n of k field.Selector h (cases_points m n earlier of (next k) cs) (CasesFit m n earlier cs) (cases_exact (next k) cs)
    statement_exact k (Loop b c q) =
        let ps1 = body_points m n earlier of (next k) b in
        let ps2 = body_points m n earlier of (after_body (next k) b) c in
        let ps3 = names_if n of k field.BreakIf q in
        let P1 : Type 0 = BodyFits m n earlier b in
        let P2 : Type 0 = BodyFits m n earlier c in
        let P3 : Type 0 = IfSome q (λ h. h < n) in
        said (λ h. (h.0, h.1.0, h.1.1)) (λ h. (h.0, (h.1, h.2)))
        (both ps1 (ps2 ++ ps3) P1 (P2 × P3) (body_exact (next k) b)
        (both ps2 ps3 P2 P3 (body_exact (after_body (next k) b) c) (last_if n of k field.BreakIf q)))
    statement_exact k Break = nothing
    statement_exact k Continue = nothing
    statement_exact k (Return v) = last_if n of k field.Value v
    statement_exact k Kill = nothing

    pub body_exact : (k : ℕ) (x : Body) → Exact (body_points m n earlier of k x) (BodyFits m n earlier x)
    body_exact k Done = nothing
    body_exact k (Then x rest) =
        let after = after_statement k x in
        both (statement_points m n earlier of k x) (body_points m n earlier of after rest) (StatementFits m n earlier x) (BodyFits m n earlier rest)
        (statement_exact k x) (body_exact after rest)

    cases_exact : (k : ℕ) (x : Cases) → Exact (cases_points m n earlier of k x) (CasesFit m n earlier x)
    cases_exact k NoCase = nothing
    cases_exact k (OneCase v f b rest) =
        let after = after_body k b in
        both (body_points m n earlier of k b) (cases_points m n earlier of after rest) (BodyFits m n earlier b) (CasesFit m n earlier rest)
        (body_exact k b) (cases_exact after rest)

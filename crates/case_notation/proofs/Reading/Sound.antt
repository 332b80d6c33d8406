-- What is read is spelled by the grammar.
use Rattle.std.proofs.Common.{◌≡◌, ◌≤◌, ◌<◌, ◌+◌, ℕ, suc, List, [], ◌∷◌, ◌++◌, Option, Some, None, Bool, true, false, refl, sym, ap, subst, arith, length, cond, max, nat_lt, nat_le, inl, inr, append_assoc, append-nil}
use Rattle.std.specs.Prelude.{option_and_then, IfSome}
use Rattle.std.proofs.lemmas.Bool.{leb-true}
use Rattle.ir_statements.specs.declared.operations.SwitchValue.{SwitchValue}
use Rattle.ir_statements.specs.declared.statements.Block.{Block}
use Rattle.ir_statements.specs.declared.statements.Located.{Located}
use Rattle.ir_statements.specs.declared.statements.Statement as ir
use Rattle.ir_statements.specs.declared.statements.SwitchCase as case
use Rattle.ir_statements.specs.declared.statements.SwitchCase.{SwitchCase, SwitchCase'}
use Rattle.case_notation.specs.declared.token.Token.{Token}
use Rattle.case_notation.specs.declared.token.Token.TheVariants as token
use Rattle.case_notation.specs.declared.reader.parts.Tail.{Tail}
use Rattle.case_notation.specs.declared.reader.parts.Tail.TheVariants as tail
use Rattle.case_notation.specs.declared.reader.parts.Naming.{Naming}
use Rattle.case_notation.specs.declared.reader.parts.Naming.TheVariants as naming
use Rattle.case_notation.specs.declared.reader.parts.Brace.{Brace}
use Rattle.case_notation.specs.declared.reader.parts.Brace.TheVariants as brace
use Rattle.case_notation.specs.CaseParts.{OpenedPart}
use Rattle.case_notation.specs.CaseParts as part
use Rattle.case_notation.specs.declared.reader.parts.Wants.{Wants}
use Rattle.case_notation.specs.declared.reader.parts.Wants.TheVariants as wants
use Rattle.case_notation.specs.Feeding.{feeds}
use Rattle.case_notation.specs.Grammar.{Spells, SpellsStatement, SpellsCases, depth, statement_depth, cases_depth, emitting, call_of, store_of, control_barrier, in_braces, fall_if, break_if_any}
use Rattle.case_notation.specs.CaseBlocks.{block_from, placed}
use Rattle.case_notation.specs.Reading.{ReadingState, begun, wanting, enter, add_case, close_block, close_accept, close_if, close_case, close_turn, close, close_switch, end_loop, begin, put_alone, begin_at, settle, go_on, take_name, put_named, open_brace, next, step, whole, end_at, finish, reading_of}
use Rattle.case_notation.proofs.Reading.Trees.{body_of, body_in, stmt_of, cases_in, block_tree, switch_tree}

-- one statement more, and one case more
Spells-push : (xs : List Located) (x : Located) (ts us : List Token) → Spells (body_in xs) ts → SpellsStatement (stmt_of x) us → Spells (body_in (xs ++ x ∷ [])) (ts ++ us)
unfolding Spells
Spells-push [] x ts us e h = (us, [], h, refl, rw (e, append-nil) refl)
Spells-push (y ∷ xs) x ts us (first, more, one, others, e) h =
    (first, more ++ us, one, Spells-push xs x more us others h, rw (e, append_assoc) refl)

depth-push : (xs : List Located) (x : Located) → depth (body_in (xs ++ x ∷ [])) ≡ max (depth (body_in xs)) (statement_depth (stmt_of x))
unfolding depth
depth-push [] x = omega arith
depth-push (y ∷ xs) x = omega (arith, depth-push xs x)

SpellsCases-push : (cs : List SwitchCase) (v : SwitchValue) (b : Block) (f : Bool) (ts inner : List Token) → SpellsCases (cases_in cs) ts → Spells (body_of b) inner → SpellsCases (cases_in (cs ++ SwitchCase' v b f ∷ [])) (ts ++ (token.Value v ∷ (fall_if f ++ in_braces inner)))
unfolding Spells case.out-SwitchCase denote.Hole.Carrier.out
SpellsCases-push [] v b f ts inner e h = (inner, [], h, refl, rw (e, append-nil) refl)
SpellsCases-push (d ∷ cs) v b f ts inner (own, more, one, others, e) h =
    (own, more ++ (token.Value v ∷ (fall_if f ++ in_braces inner)), one, SpellsCases-push cs v b f more inner others h, rw e (simp append_assoc))

cases_depth-push : (cs : List SwitchCase) (v : SwitchValue) (b : Block) (f : Bool) → cases_depth (cases_in (cs ++ SwitchCase' v b f ∷ [])) ≡ max (cases_depth (cases_in cs)) (suc (depth (body_of b)))
unfolding depth case.out-SwitchCase denote.Hole.Carrier.out
cases_depth-push [] v b f = omega arith
cases_depth-push (d ∷ cs) v b f = omega (arith, cases_depth-push cs v b f)

-- a list that is closed
closed : (list : List Located) (ts : List Token) → Spells (body_in list) ts → Spells (body_of (block_from list)) ts
closed list ts h = subst (λ body. Spells body ts) (sym (block_tree list)) h

closed_depth : (list : List Located) → depth (body_of (block_from list)) ≡ depth (body_in list)
closed_depth list = ap depth (block_tree list)

abbrev outer_of : OpenedPart → List Located
outer_of (part.Block outer) = outer
outer_of (part.Accept c outer) = outer
outer_of (part.Reject c accept outer) = outer
outer_of (part.Cases h cs outer) = outer
outer_of (part.Case v f) = []
outer_of (part.Turn outer) = outer
outer_of (part.Continuing turn outer) = outer

-- the tokens of a part up to where the list at hand begins, where n parts are open around it
abbrev Heads : ℕ → OpenedPart → List Token → Type 0
Heads n (part.Block outer) ts = ts ≡ token.Block ∷ token.Open ∷ []
Heads n (part.Accept c outer) ts = ts ≡ token.If ∷ token.Name c ∷ token.Open ∷ []
Heads n (part.Reject c accept outer) ts =
    (taken : List Token) × Spells (body_of accept) taken × (suc n + depth (body_of accept) ≤ 256) × (ts ≡ token.If ∷ token.Name c ∷ (in_braces taken ++ token.Open ∷ []))
Heads n (part.Cases h cs outer) ts =
    (inner : List Token) × SpellsCases (cases_in cs) inner × (suc n + cases_depth (cases_in cs) ≤ 256) × (ts ≡ token.Switch ∷ token.Name h ∷ token.Open ∷ inner)
Heads n (part.Case v f) ts = ts ≡ token.Value v ∷ (fall_if f ++ token.Open ∷ [])
Heads n (part.Turn outer) ts = ts ≡ token.Loop ∷ token.Open ∷ []
Heads n (part.Continuing turn outer) ts =
    (first : List Token) × Spells (body_of turn) first × (suc n + depth (body_of turn) ≤ 256) × (ts ≡ token.Loop ∷ (in_braces first ++ token.Open ∷ []))

-- the tokens that lead to these open parts and this list
unfoldable Told : List OpenedPart → List Located → List Token → Type 0
Told [] list ts = Spells (body_in list) ts × (depth (body_in list) ≤ 256)
Told (p ∷ opened) list ts =
    (before : List Token) × (head : List Token) × (inner : List Token) × Told opened (outer_of p) before × Heads (length opened) p head × Spells (body_in list) inner × (suc (length opened) + depth (body_in list) ≤ 256) × (ts ≡ before ++ (head ++ inner))

-- a whole statement more
Told-more : (opened : List OpenedPart) (list : List Located) (ts : List Token) (x : Located) (us : List Token) → Told opened list ts → SpellsStatement (stmt_of x) us → length opened + statement_depth (stmt_of x) ≤ 256 → Told opened (list ++ x ∷ []) (ts ++ us)
unfolding Told
Told-more [] list ts x us (told, shallow) h d = (Spells-push list x ts us told h, omega (arith, depth-push list x))
Told-more (p ∷ opened) list ts x us (before, head, inner, told, heads, here, shallow, e) h d =
    (before, head, inner ++ us, told, heads, Spells-push list x inner us here h, omega (arith, depth-push list x), rw e (simp append_assoc))

-- no more parts are open than may be
Told-shallow : (opened : List OpenedPart) (list : List Located) (ts : List Token) → Told opened list ts → length opened ≤ 256
unfolding Told
Told-shallow [] list ts h = omega arith
Told-shallow (p ∷ opened) list ts (before, head, inner, told, heads, here, shallow, e) = omega arith

-- a statement more that opens no brace
Told-flat : (opened : List OpenedPart) (list : List Located) (before : List Token) (x : Located) (us ts : List Token) → Told opened list before → SpellsStatement (stmt_of x) us → statement_depth (stmt_of x) ≡ 0 → ts ≡ before ++ us → Told opened (list ++ x ∷ []) ts
Told-flat opened list before x us ts told h flat e =
    let shallow = Told-shallow opened list before told in
    rw e (Told-more opened list before x us told h (omega arith))

-- before, and then these
abbrev Behind : List OpenedPart → List Located → List Token → List Token → Type 0
Behind opened list ts more = (before : List Token) × Told opened list before × (ts ≡ before ++ more)

-- before the brace of a part that is open already
abbrev Between : List OpenedPart → List Located → List Token → Type 0
Between [] list ts = ⊥
Between (p ∷ opened) list ts =
    (before : List Token) × (head : List Token) × Told opened (outer_of p) before × Heads (length opened) p (head ++ token.Open ∷ []) × (suc (length opened) ≤ 256) × (list ≡ []) × (ts ≡ before ++ head)

-- behind both lists of a Loop
abbrev BehindLoop : List OpenedPart → List Located → List Token → List Token → Type 0
BehindLoop (part.Continuing turn outer ∷ opened) list ts more =
    (before : List Token) × (first : List Token) × (second : List Token) × Told opened outer before × Spells (body_of turn) first × Spells (body_in list) second × (suc (length opened) + depth (body_of turn) ≤ 256) × (suc (length opened) + depth (body_in list) ≤ 256) × (ts ≡ before ++ (token.Loop ∷ (in_braces first ++ (in_braces second ++ more))))
BehindLoop opened list ts more = ⊥

-- the tokens that lead to a state
abbrev TellsTail : List OpenedPart → List Located → Tail → List Token → Type 0
TellsTail opened list tail.Nothing ts = Told opened list ts
TellsTail opened list (tail.Emit a) ts = Behind opened list ts (token.Emit ∷ token.Name a ∷ [])
TellsTail opened list tail.Return ts = Behind opened list ts (token.Return ∷ [])
TellsTail opened list tail.Loop ts = BehindLoop opened list ts []
TellsTail opened list tail.Call ts = Behind opened list ts (token.Call ∷ token.Callee ∷ [])

abbrev TellsName : List OpenedPart → List Located → Naming → List Token → Type 0
TellsName opened list naming.First ts = Behind opened list ts (token.Emit ∷ [])
TellsName opened list (naming.Last a) ts = Behind opened list ts (token.Emit ∷ token.Name a ∷ token.To ∷ [])
TellsName opened list naming.Condition ts = Behind opened list ts (token.If ∷ [])
TellsName opened list naming.Selector ts = Behind opened list ts (token.Switch ∷ [])
TellsName opened list naming.BreakIf ts = BehindLoop opened list ts (token.BreakIf ∷ [])
TellsName opened list naming.Pointer ts = Behind opened list ts (token.Store ∷ [])
TellsName opened list (naming.Stored a) ts = Behind opened list ts (token.Store ∷ token.Name a ∷ [])
TellsName opened list naming.Result ts = Behind opened list ts (token.Call ∷ token.Callee ∷ token.Arrow ∷ [])

abbrev TellsBrace : List OpenedPart → List Located → Brace → List Token → Type 0
TellsBrace opened list brace.Block ts = Behind opened list ts (token.Block ∷ [])
TellsBrace opened list (brace.Accept c) ts = Behind opened list ts (token.If ∷ token.Name c ∷ [])
TellsBrace opened list (brace.Cases h) ts = Behind opened list ts (token.Switch ∷ token.Name h ∷ [])
TellsBrace opened list (brace.Case v f) ts = Behind opened [] ts (token.Value v ∷ fall_if f)
TellsBrace opened list brace.Turn ts = Behind opened list ts (token.Loop ∷ [])

abbrev Tells : List OpenedPart → List Located → Wants → List Token → Type 0
Tells opened list (wants.Statement t) ts = TellsTail opened list t ts
Tells opened list (wants.Name n) ts = TellsName opened list n ts
Tells opened list (wants.Open b) ts = TellsBrace opened list b ts
Tells opened list wants.Between ts = Between opened list ts
Tells opened list wants.Callee ts = Behind opened list ts (token.Call ∷ [])
Tells opened list wants.CaseValue ts = Told opened [] ts
Tells opened list (wants.CaseRest v) ts = Behind opened [] ts (token.Value v ∷ [])

abbrev LeadsTo : ReadingState → List Token → Type 0
LeadsTo s ts = Tells s.opened s.list s.wants ts

leads_to : (opened : List OpenedPart) (list : List Located) (w : Wants) (ts : List Token) → Tells opened list w ts → (s : ReadingState) → wanting opened list w ≡ Some s → LeadsTo s ts
leads_to opened list w ts h s e =
    let same : record { opened = opened; list = list; wants = w } ≡ s = cc in subst (λ x. LeadsTo x ts) same h

none_some : {A : Type 0} (s : A) → None ≡ Some s → ⊥
none_some s e = cc

-- the same behind one token more
behind : (opened : List OpenedPart) (list : List Located) (ts more : List Token) (t : Token) → Behind opened list ts more → Behind opened list (ts ++ t ∷ []) (more ++ t ∷ [])
behind opened list ts more t (before, told, e) = (before, told, rw (e, append_assoc) refl)

told_at : (opened : List OpenedPart) (list : List Located) (w : Wants) (ts : List Token) → Told opened list ts → (s : ReadingState) → wanting opened list w ≡ Some s → Told s.opened s.list ts
told_at opened list w ts h s e =
    let same : record { opened = opened; list = list; wants = w } ≡ s = cc in subst (λ x. Told x.opened x.list ts) same h

-- a Loop ends
loop_told : (opened : List OpenedPart) (list : List Located) (condition : Option ℕ) (ts : List Token) → BehindLoop opened list ts (break_if_any condition) → (s : ReadingState) → end_loop opened list condition ≡ Some s → Told s.opened s.list ts
unfolding end_loop Spells depth
loop_told (part.Continuing turn outer ∷ opened) list condition ts (before, first, second, told, one, two, low, high, e) s at =
    told_at opened _ _ ts (rw e (Told-more opened outer before (placed (ir.Loop turn (block_from list) condition)) (token.Loop ∷ (in_braces first ++ (in_braces second ++ break_if_any condition))) told (first, second, one, closed list second two, refl) (omega (arith, closed_depth list)))) s at
loop_told opened list condition ts h s at = absurd h

-- a statement ends with no tail
settle_told : (opened : List OpenedPart) (list : List Located) (t : Tail) (ts : List Token) → TellsTail opened list t ts → (s : ReadingState) → settle opened list t ≡ Some s → Told s.opened s.list ts
unfolding settle Spells depth
settle_told opened list tail.Nothing ts h s at = told_at opened list _ ts h s at
settle_told opened list (tail.Emit a) ts (before, told, e) s at =
    told_at opened _ _ ts (Told-flat opened list before (placed (emitting a a)) (token.Emit ∷ token.Name a ∷ []) ts told (inl (a, a, refl, inl (refl, refl))) refl e) s at
settle_told opened list tail.Return ts (before, told, e) s at =
    told_at opened _ _ ts (Told-flat opened list before (placed (ir.Return None)) (token.Return ∷ []) ts told refl refl e) s at
settle_told opened list tail.Loop ts h s at = loop_told opened list None ts h s at
settle_told opened list tail.Call ts (before, told, e) s at =
    told_at opened _ _ ts (Told-flat opened list before (placed (call_of None)) (token.Call ∷ token.Callee ∷ []) ts told (inr (inl (None, refl, refl))) refl e) s at

-- a case ends
case_told : (opened : List OpenedPart) (v : SwitchValue) (f : Bool) (list : List Located) (ts : List Token) → Told (part.Case v f ∷ opened) list ts → (s : ReadingState) → add_case opened [] (SwitchCase' v (block_from list) f) ≡ Some s → LeadsTo s (ts ++ token.Close ∷ [])
unfolding add_case Told Spells depth
case_told (part.Cases h cs outer ∷ opened) v f list ts (before, head, inner, (before', head', none, told, (cases, spelled, bound, at'), empty, shallow', e'), at, here, shallow, e) s to =
    let opening : before ≡ before' ++ (token.Switch ∷ token.Name h ∷ token.Open ∷ cases) = rw (e', at', empty, append-nil cases) refl in
    leads_to _ _ _ _ (before', token.Switch ∷ token.Name h ∷ token.Open ∷ (cases ++ (token.Value v ∷ (fall_if f ++ in_braces inner))), [], told, (_, SpellsCases-push cs v (block_from list) f cases inner spelled (closed list inner here), omega (arith, cases_depth-push cs v (block_from list) f, closed_depth list), refl), refl, omega arith, rw (e, at, opening) (simp (append_assoc, append-nil))) s to
case_told opened v f list ts h s to = absurd (none_some _ to)

-- the list at hand is closed
close_told : (opened : List OpenedPart) (list : List Located) (ts : List Token) → Told opened list ts → (s : ReadingState) → close opened list ≡ Some s → LeadsTo s (ts ++ token.Close ∷ [])
unfolding close close_block close_accept close_if close_case close_turn Told Spells depth
close_told [] list ts h s to = absurd (none_some _ to)
close_told (part.Block outer ∷ opened) list ts (before, head, inner, told, at, here, shallow, e) s to =
    leads_to _ _ _ _ (rw (e, at, append_assoc) (Told-more opened outer before (placed (ir.Block (block_from list))) (token.Block ∷ in_braces inner) told (inner, closed list inner here, refl) (omega (arith, closed_depth list)))) s to
close_told (part.Accept c outer ∷ opened) list ts (before, head, inner, told, at, here, shallow, e) s to =
    leads_to _ _ _ _ (before, token.If ∷ token.Name c ∷ in_braces inner, told, (inner, closed list inner here, omega (arith, closed_depth list), refl), omega arith, refl, rw (e, at, append_assoc) refl) s to
close_told (part.Reject c accept outer ∷ opened) list ts (before, head, inner, told, (taken, one, bound, at), here, shallow, e) s to =
    let whole_told = Told-more opened outer before (placed (ir.If c accept (block_from list))) (token.If ∷ token.Name c ∷ (in_braces taken ++ in_braces inner)) told (taken, inner, one, closed list inner here, refl) (omega (arith, closed_depth list)) in
    leads_to _ _ _ _ (rw (e, at) (simp append_assoc (simp append_assoc at whole_told))) s to
close_told (part.Cases h cs outer ∷ opened) list ts h' s to = absurd (none_some _ to)
close_told (part.Case v f ∷ opened) list ts h s to = case_told opened v f list ts h s to
close_told (part.Turn outer ∷ opened) list ts (before, head, inner, told, at, here, shallow, e) s to =
    leads_to _ _ _ _ (before, token.Loop ∷ in_braces inner, told, (inner, closed list inner here, omega (arith, closed_depth list), refl), omega arith, refl, rw (e, at, append_assoc) refl) s to
close_told (part.Continuing turn outer ∷ opened) list ts (before, head, inner, told, (first, one, bound, at), here, shallow, e) s to =
    leads_to _ _ _ _ (before, first, inner, told, one, here, bound, shallow, rw (e, at) (simp (append_assoc, append-nil))) s to

-- a Switch is closed
switch_told : (opened : List OpenedPart) (ts : List Token) → Told opened [] ts → (s : ReadingState) → close_switch opened ≡ Some s → LeadsTo s (ts ++ token.Close ∷ [])
unfolding close_switch Told Spells depth
switch_told (part.Cases h cs outer ∷ opened) ts (before, head, none, told, (cases, spelled, bound, at), empty, shallow, e) s to =
    let x = placed (ir.Switch h cs) in
    let spells : SpellsStatement (stmt_of x) (token.Switch ∷ token.Name h ∷ in_braces cases) = subst (λ y. SpellsStatement y (token.Switch ∷ token.Name h ∷ in_braces cases)) (sym (switch_tree h cs)) (cases, spelled, refl) in
    let deep : statement_depth (stmt_of x) ≡ suc (cases_depth (cases_in cs)) = ap statement_depth (switch_tree h cs) in
    leads_to _ _ _ _ (rw (e, at, empty, append-nil cases) (simp append_assoc (Told-more opened outer before x (token.Switch ∷ token.Name h ∷ in_braces cases) told spells (omega (arith, deep))))) s to
switch_told opened ts h s to = absurd (none_some _ to)

pick : {A : Type 0} (b : Bool) (x s : A) → cond b (Some x) None ≡ Some s → (b ≡ true) × (Some x ≡ Some s)
pick true x s e = (refl, e)
pick false x s e = cc

-- a token where a statement may begin
begin_told : (opened : List OpenedPart) (list : List Located) (ts : List Token) → Told opened list ts → (t : Token) (s : ReadingState) → begin opened list t ≡ Some s → LeadsTo s (ts ++ t ∷ [])
unfolding begin put_alone Spells depth
begin_told opened list ts h token.Emit s to = leads_to _ _ _ _ (ts, h, refl) s to
begin_told opened list ts h token.Block s to = leads_to _ _ _ _ (ts, h, refl) s to
begin_told opened list ts h token.If s to = leads_to _ _ _ _ (ts, h, refl) s to
begin_told opened list ts h token.Switch s to = leads_to _ _ _ _ (ts, h, refl) s to
begin_told opened list ts h token.Loop s to = leads_to _ _ _ _ (ts, h, refl) s to
begin_told opened list ts h token.Return s to = leads_to _ _ _ _ (ts, h, refl) s to
begin_told opened list ts h token.Store s to = leads_to _ _ _ _ (ts, h, refl) s to
begin_told opened list ts h token.Call s to = leads_to _ _ _ _ (ts, h, refl) s to
begin_told opened list ts h token.Break s to =
    leads_to _ _ _ _ (Told-flat opened list ts (placed ir.Break) (token.Break ∷ []) _ h refl refl refl) s to
begin_told opened list ts h token.Continue s to =
    leads_to _ _ _ _ (Told-flat opened list ts (placed ir.Continue) (token.Continue ∷ []) _ h refl refl refl) s to
begin_told opened list ts h token.Kill s to =
    leads_to _ _ _ _ (Told-flat opened list ts (placed ir.Kill) (token.Kill ∷ []) _ h refl refl refl) s to
begin_told opened list ts h token.Barrier s to =
    leads_to _ _ _ _ (Told-flat opened list ts (placed control_barrier) (token.Barrier ∷ []) _ h (inr (inr (inr (refl, refl)))) refl refl) s to
begin_told opened list ts h token.Close s to = close_told opened list ts h s to
begin_told opened list ts h t s to = absurd (none_some _ to)

bind_some : {A B : Type 0} (o : Option A) (f : A → Option B) (b : B) → option_and_then f o ≡ Some b → (a : A) × (o ≡ Some a) × (f a ≡ Some b)
bind_some None f b e = cc
bind_some (Some a) f b e = (a, refl, e)

-- a token that is no tail
fresh_told : (opened : List OpenedPart) (list : List Located) (t : Tail) (ts : List Token) → TellsTail opened list t ts → (w : Token) (s : ReadingState) → option_and_then (begin_at w) (settle opened list t) ≡ Some s → LeadsTo s (ts ++ w ∷ [])
fresh_told opened list t ts h w s to =
    let found = bind_some (settle opened list t) (begin_at w) s to in
    begin_told found.0.opened found.0.list ts (settle_told opened list t ts h found.0 found.1) w s found.2

break_if_told : (opened : List OpenedPart) (list : List Located) (ts : List Token) → BehindLoop opened list ts [] → (s : ReadingState) → wanting opened list (wants.Name naming.BreakIf) ≡ Some s → LeadsTo s (ts ++ token.BreakIf ∷ [])
break_if_told (part.Continuing turn outer ∷ opened) list ts (before, first, second, told, one, two, low, high, e) s to =
    leads_to _ _ _ _ (before, first, second, told, one, two, low, high, rw e (simp (append_assoc, append-nil))) s to
break_if_told opened list ts h s to = absurd h

go_on_told : (opened : List OpenedPart) (list : List Located) (t : Tail) (ts : List Token) → TellsTail opened list t ts → (w : Token) (s : ReadingState) → go_on opened list t w ≡ Some s → LeadsTo s (ts ++ w ∷ [])
unfolding go_on Spells depth
go_on_told opened list (tail.Emit a) ts h token.To s to = leads_to _ _ _ _ (behind opened list ts _ token.To h) s to
go_on_told opened list tail.Return ts (before, told, e) (token.Name h) s to =
    leads_to _ _ _ _ (Told-flat opened list before (placed (ir.Return (Some h))) (token.Return ∷ token.Name h ∷ []) _ told refl refl (rw (e, append_assoc) refl)) s to
go_on_told opened list tail.Loop ts h token.BreakIf s to = break_if_told opened list ts h s to
go_on_told opened list tail.Call ts h token.Arrow s to = leads_to _ _ _ _ (behind opened list ts _ token.Arrow h) s to
go_on_told opened list t ts h w s to = fresh_told opened list t ts h w s to

end_told : (opened : List OpenedPart) (list : List Located) (c : ℕ) (ts : List Token) → BehindLoop opened list ts (token.BreakIf ∷ []) → (s : ReadingState) → end_loop opened list (Some c) ≡ Some s → LeadsTo s (ts ++ token.Name c ∷ [])
unfolding end_loop Spells depth
end_told (part.Continuing turn outer ∷ opened) list c ts (before, first, second, told, one, two, low, high, e) s to =
    let whole_told = Told-more opened outer before (placed (ir.Loop turn (block_from list) (Some c))) (token.Loop ∷ (in_braces first ++ (in_braces second ++ (token.BreakIf ∷ token.Name c ∷ [])))) told (first, second, one, closed list second two, refl) (omega (arith, closed_depth list)) in
    leads_to _ _ _ _ (rw e (simp append_assoc (simp append_assoc at whole_told))) s to
end_told opened list c ts h s to = absurd h

name_told : (opened : List OpenedPart) (list : List Located) (n : Naming) (ts : List Token) → TellsName opened list n ts → (h : ℕ) (s : ReadingState) → take_name opened list n h ≡ Some s → LeadsTo s (ts ++ token.Name h ∷ [])
unfolding take_name put_named Spells depth
name_told opened list naming.First ts g h s to = leads_to _ _ _ _ (behind opened list ts _ (token.Name h) g) s to
name_told opened list (naming.Last a) ts (before, told, e) h s to =
    let found = pick (nat_le a h) _ s to in
    let below : a ≤ h = leb-true _ _ found.0 in
    leads_to _ _ _ _ (Told-flat opened list before (placed (emitting a h)) (token.Emit ∷ token.Name a ∷ token.To ∷ token.Name h ∷ []) _ told (inl (a, h, refl, inr (below, refl))) refl (rw (e, append_assoc) refl)) s found.1
name_told opened list naming.Condition ts g h s to = leads_to _ _ _ _ (behind opened list ts _ (token.Name h) g) s to
name_told opened list naming.Selector ts g h s to = leads_to _ _ _ _ (behind opened list ts _ (token.Name h) g) s to
name_told opened list naming.BreakIf ts g h s to = end_told opened list h ts g s to
name_told opened list naming.Pointer ts g h s to = leads_to _ _ _ _ (behind opened list ts _ (token.Name h) g) s to
name_told opened list (naming.Stored a) ts (before, told, e) h s to =
    leads_to _ _ _ _ (Told-flat opened list before (placed (store_of a h)) (token.Store ∷ token.Name a ∷ token.Name h ∷ []) _ told (inr (inr (inl (a, h, refl, refl)))) refl (rw (e, append_assoc) refl)) s to
name_told opened list naming.Result ts (before, told, e) h s to =
    leads_to _ _ _ _ (Told-flat opened list before (placed (call_of (Some h))) (token.Call ∷ token.Callee ∷ token.Arrow ∷ token.Name h ∷ []) _ told (inr (inl (Some h, refl, refl))) refl (rw (e, append_assoc) refl)) s to

entered : (opened : List OpenedPart) (part : OpenedPart) (w : Wants) (s : ReadingState) → enter opened part w ≡ Some s → (length opened < 256) × (wanting (part ∷ opened) [] w ≡ Some s)
entered opened part w s e =
    let found = pick (nat_lt (length opened) 256) _ s e in (leb-true _ _ found.0, found.1)

-- one part more is open
opened_told : (opened : List OpenedPart) (p : OpenedPart) (before head : List Token) → Told opened (outer_of p) before → Heads (length opened) p head → length opened < 256 → (ts : List Token) → ts ≡ before ++ head → Told (p ∷ opened) [] ts
unfolding Told Spells depth
opened_told opened p before head told heads lt ts e =
    (before, head, [], told, heads, refl, omega arith, rw (e, append-nil head) refl)

-- the brace of a part that is open already
between_told : (opened : List OpenedPart) (list : List Located) (ts : List Token) → Between opened list ts → Told opened list (ts ++ token.Open ∷ [])
unfolding Told Spells depth
between_told [] list ts h = absurd h
between_told (p ∷ opened) list ts (before, head, told, heads, low, none, e) =
    rw none (before, head ++ token.Open ∷ [], [], told, heads, refl, omega arith, rw e (simp (append_assoc, append-nil)))

brace_told : (opened : List OpenedPart) (list : List Located) (b : Brace) (ts : List Token) → TellsBrace opened list b ts → (s : ReadingState) → open_brace opened list b ≡ Some s → LeadsTo s (ts ++ token.Open ∷ [])
unfolding open_brace Spells depth
brace_told opened list brace.Block ts (before, told, e) s to =
    let found = entered opened (part.Block list) _ s to in
    leads_to _ _ _ _ (opened_told opened (part.Block list) before _ told refl found.0 _ (rw (e, append_assoc) refl)) s found.1
brace_told opened list (brace.Accept c) ts (before, told, e) s to =
    let found = entered opened (part.Accept c list) _ s to in
    leads_to _ _ _ _ (opened_told opened (part.Accept c list) before _ told refl found.0 _ (rw (e, append_assoc) refl)) s found.1
brace_told opened list (brace.Cases h) ts (before, told, e) s to =
    let found = entered opened (part.Cases h [] list) _ s to in
    leads_to _ _ _ _ (opened_told opened (part.Cases h [] list) before _ told ([], refl, omega arith, refl) found.0 _ (rw (e, append_assoc) refl)) s found.1
brace_told opened list (brace.Case v f) ts (before, told, e) s to =
    let found = entered opened (part.Case v f) _ s to in
    leads_to _ _ _ _ (opened_told opened (part.Case v f) before _ told refl found.0 _ (rw (e, append_assoc) refl)) s found.1
brace_told opened list brace.Turn ts (before, told, e) s to =
    let found = entered opened (part.Turn list) _ s to in
    leads_to _ _ _ _ (opened_told opened (part.Turn list) before _ told refl found.0 _ (rw (e, append_assoc) refl)) s found.1

next_told : (opened : List OpenedPart) (list : List Located) (w : Wants) (ts : List Token) → Tells opened list w ts → (t : Token) (s : ReadingState) → next opened list w t ≡ Some s → LeadsTo s (ts ++ t ∷ [])
unfolding next
next_told opened list (wants.Statement tail) ts h t s to = go_on_told opened list tail ts h t s to
next_told opened list (wants.Name n) ts h (token.Name a) s to = name_told opened list n ts h a s to
next_told opened list (wants.Open b) ts h token.Open s to = brace_told opened list b ts h s to
next_told opened list wants.Between ts h token.Open s to = leads_to _ _ _ _ (between_told opened list ts h) s to
next_told opened list wants.Callee ts h token.Callee s to = leads_to _ _ _ _ (behind opened list ts _ token.Callee h) s to
next_told opened list wants.CaseValue ts h (token.Value v) s to = leads_to _ _ _ _ (ts, h, refl) s to
next_told opened list wants.CaseValue ts h token.Close s to = switch_told opened ts h s to
next_told opened list (wants.CaseRest v) ts h token.Fall s to =
    leads_to _ _ _ _ (behind opened [] ts _ token.Fall h) s to
next_told opened list (wants.CaseRest v) ts h token.Open s to = brace_told opened list (brace.Case v false) ts h s to
next_told opened list w ts h t s to = absurd (none_some _ to)

feed_none : (ts : List Token) (s : ReadingState) → feeds step None ts ≡ Some s → ⊥
unfolding feeds
feed_none [] s e = none_some s e
feed_none (t ∷ ts) s e = feed_none ts s e

stepped : {A : Type 0} {P : A → Type 0} (o : Option A) → ((y : A) → o ≡ Some y → P y) → IfSome o P
stepped None f = tt
stepped (Some y) f = f y refl

-- tokens that were read led to a state that tells them
feed_told : (ts : List Token) (o : Option ReadingState) (before : List Token) → IfSome o (λ s. LeadsTo s before) → (s : ReadingState) → feeds step o ts ≡ Some s → LeadsTo s (before ++ ts)
unfolding feeds
feed_told ts None before h s e = absurd (feed_none ts s e)
feed_told [] (Some x) before h s e =
    rw append-nil (let same : x ≡ s = cc in subst (λ y. LeadsTo y before) same h)
feed_told (t ∷ ts) (Some x) before h s e =
    rw (← append_assoc before (t ∷ []) ts) (feed_told ts (step x t) (before ++ t ∷ []) (stepped (step x t) (λ y w. next_told x.opened x.list x.wants before h t y w)) s e)

-- the body is whole
whole_told : (opened : List OpenedPart) (list : List Located) (ts : List Token) → Told opened list ts → (b : Block) → whole opened list ≡ Some b → Spells (body_of b) ts × (depth (body_of b) ≤ 256)
unfolding Told
whole_told [] list ts h b e =
    let same : block_from list ≡ b = cc in
    subst (λ x. Spells (body_of x) ts × (depth (body_of x) ≤ 256)) same (closed list ts h.0, omega (arith, closed_depth list, h.1))
whole_told (p ∷ opened) list ts h b e = absurd (none_some _ e)

finish_told : (opened : List OpenedPart) (list : List Located) (w : Wants) (ts : List Token) → Tells opened list w ts → (b : Block) → end_at opened list w ≡ Some b → Spells (body_of b) ts × (depth (body_of b) ≤ 256)
unfolding end_at
finish_told opened list (wants.Statement tail) ts h b e =
    let found = bind_some (settle opened list tail) (λ s. whole s.opened s.list) b e in
    whole_told found.0.opened found.0.list ts (settle_told opened list tail ts h found.0 found.1) b found.2
finish_told opened list w ts h b e = absurd (none_some _ e)

-- what is read is a reading
pub reads_sound : (b : Block) (ts : List Token) → reading_of ts ≡ Some b → Spells (body_of b) ts × (depth (body_of b) ≤ 256)
unfolding Told Spells depth
reads_sound b ts e =
    let found = bind_some (feeds step (Some begun) ts) finish b e in
    finish_told found.0.opened found.0.list found.0.wants ts (feed_told ts (Some begun) [] (refl, omega arith) found.0 found.1) b found.2

-- What the notation says is sayable: each leaf is an Emit of the bench's expressions, and each handle one of them.
use Rattle.std.proofs.Common.{◌≡◌, ◌<◌, ◌≤◌, ◌+◌, ℕ, zero, suc, List, [], ◌∷◌, ◌++◌, Bool, true, false, Option, Some, None, refl, arith, length, inl, inr, slice_get, append-nil}
use Rattle.std.specs.Prelude.{◌&&◌, nat_le}
use Rattle.std.proofs.lemmas.Bool.{le-leb, lt-ltb}
use Rattle.ir_arena.specs.declared.span.Span.{Span}
use Rattle.ir_statements.specs.declared.statements.Statement.{Statement}
use Rattle.ir_statements.specs.declared.statements.Statement as statement
use Rattle.ir_statements.specs.Tree.{Act, Stmt, Leaf, Block, Branch, Switch, Loop, Break, Continue, Return, Kill, Body, Done, Then, Cases, NoCase, OneCase}
use Rattle.ir_flags.specs.Bits.{NO_MEMORY}
use Rattle.case_notation.specs.declared.bench.Bench.{Bench}
use Rattle.case_notation.specs.declared.bench.Bench.TheVariants.{P, C, D}
use Rattle.case_notation.specs.declared.token.Token.{Token}
use Rattle.case_notation.specs.declared.token.Token.TheVariants as token
use Rattle.case_notation.specs.Bench.{names_of, has_callee, callees_of}
use Rattle.case_notation.specs.Case.{Case, Say, Reads}
use Rattle.case_notation.specs.Words.{words_of}
use Rattle.case_notation.specs.Grammar.{Spells, SpellsStatement, SpellsCases, SpellsEmit, emission, calling, storing, waiting, arrow_if_any, in_braces, name_if_any, break_if_any, fall_if}
use Rattle.case_notation.specs.Sayable.{is_sayable, is_sayable_statement, are_sayable_cases, is_below_if_any, is_sayable_leaf}
use Rattle.case_notation.specs.Text.{AreTextsOf}

-- each name lies below n, and there is a function to call where there is a call
abbrev NamesBelow : (n callees : ℕ) → List Token → Type 0
NamesBelow n callees [] = Unit {0}
NamesBelow n callees (token.Name h ∷ ts) = (h < n) × NamesBelow n callees ts
NamesBelow n callees (token.Call ∷ ts) = (0 < callees) × NamesBelow n callees ts
NamesBelow n callees (t ∷ ts) = NamesBelow n callees ts

names_append : (n callees : ℕ) (ts us : List Token) → NamesBelow n callees (ts ++ us) → NamesBelow n callees ts × NamesBelow n callees us
names_append n callees [] us k = (tt, k)
names_append n callees (token.Name h ∷ ts) us k =
    let rest = names_append n callees ts us k.1 in ((k.0, rest.0), rest.1)
names_append n callees (token.Call ∷ ts) us k =
    let rest = names_append n callees ts us k.1 in ((k.0, rest.0), rest.1)
names_append n callees (t ∷ ts) us k = let rest = names_append n callees ts us k in (rest.0, rest.1)

names_in_braces : (n callees : ℕ) (ts us : List Token) → NamesBelow n callees (in_braces ts ++ us) → NamesBelow n callees ts × NamesBelow n callees us
names_in_braces n callees ts us k =
    let inner = names_append n callees (ts ++ token.Close ∷ []) us k in
    let own = names_append n callees ts (token.Close ∷ []) inner.0 in
    (own.0, inner.1)

in_length : (names : List (List ℕ)) (h : ℕ) (w : List ℕ) → slice_get names h ≡ Some w → h < length names
in_length [] h w e = cc
in_length (x ∷ names) zero w e = omega arith
in_length (x ∷ names) (suc h) w e = let less = in_length names h w e in omega arith

callee_there : (bench : Bench) → has_callee bench ≡ true → 0 < callees_of bench
callee_there P e = cc
callee_there C e = omega arith
callee_there D e = cc

names_of_texts : (bench : Bench) (ts : List Token) (ws : List (List ℕ)) → AreTextsOf bench ts ws → NamesBelow (length (names_of bench)) (callees_of bench) ts
names_of_texts bench [] [] k = tt
names_of_texts bench (token.Name h ∷ ts) (w ∷ ws) k =
    (in_length (names_of bench) h w k.0, names_of_texts bench ts ws k.1)
names_of_texts bench (token.Call ∷ ts) (w ∷ ws) k = (callee_there bench k.0.0, names_of_texts bench ts ws k.1)
names_of_texts bench (t ∷ ts) (w ∷ ws) k = names_of_texts bench ts ws k.1
names_of_texts bench [] (w ∷ ws) k = tt
names_of_texts bench (t ∷ ts) [] k = absurd k

both : (a b : Bool) → a ≡ true → b ≡ true → a && b ≡ true
both a b h k = rw (h, k) refl

range_sayable : (n first last : ℕ) → first ≤ last → last < n → nat_le first (last + 1) && nat_le (last + 1) n ≡ true
range_sayable n first last le lt = both _ _ (le-leb first (last + 1) (omega arith)) (le-leb (last + 1) n (omega arith))

emit_sayable : (n callees : ℕ) (acts : List Act) (x : Statement) (span : Span) (ts : List Token) (first last : ℕ) → Leaf acts x span ≡ emission first last → SpellsEmit first last ts → NamesBelow n callees ts → is_sayable_leaf n callees x ≡ true
emit_sayable n callees acts x span ts first last same (inl (e, at)) k =
    let is : x ≡ statement.Emit (record { start = first; end = last + 1 }) = cc in
    let names = rw at at k in
    rw is (range_sayable n first last (omega arith) (omega (arith, names.0)))
emit_sayable n callees acts x span ts first last same (inr (le, at)) k =
    let is : x ≡ statement.Emit (record { start = first; end = last + 1 }) = cc in
    let names = rw at at k in
    rw is (range_sayable n first last le (omega (arith, names.1.0)))

store_sayable : (n callees : ℕ) (acts : List Act) (x : Statement) (span : Span) (ts : List Token) (pointer value : ℕ) → Leaf acts x span ≡ storing pointer value → ts ≡ token.Store ∷ token.Name pointer ∷ token.Name value ∷ [] → NamesBelow n callees ts → is_sayable_leaf n callees x ≡ true
store_sayable n callees acts x span ts pointer value same e k =
    let is : x ≡ statement.Store pointer value = cc in
    let names = rw e at k in
    rw is (both _ _ (lt-ltb pointer n names.0) (lt-ltb value n names.1.0))

barrier_sayable : (n callees : ℕ) (acts : List Act) (x : Statement) (span : Span) → Leaf acts x span ≡ waiting → is_sayable_leaf n callees x ≡ true
barrier_sayable n callees acts x span same =
    let is : x ≡ statement.ControlBarrier NO_MEMORY = cc in rw is refl

call_sayable : (n callees : ℕ) (acts : List Act) (x : Statement) (span : Span) (ts : List Token) (result : Option ℕ) → Leaf acts x span ≡ calling result → ts ≡ token.Call ∷ token.Callee ∷ arrow_if_any result → NamesBelow n callees ts → is_sayable_leaf n callees x ≡ true
call_sayable n callees acts x span ts None same e k =
    let is : x ≡ statement.Call 0 [] None = cc in
    let names = rw e at k in
    rw is (both _ _ (lt-ltb 0 callees names.0) refl)
call_sayable n callees acts x span ts (Some r) same e k =
    let is : x ≡ statement.Call 0 [] (Some r) = cc in
    let names = rw e at k in
    rw is (both _ _ (lt-ltb 0 callees names.0) (lt-ltb r n names.1.0))

option_sayable : (n callees : ℕ) (o : Option ℕ) → NamesBelow n callees (name_if_any o) → is_below_if_any n o ≡ true
option_sayable n callees None k = refl
option_sayable n callees (Some h) k = lt-ltb h n k.0

break_if_sayable : (n callees : ℕ) (o : Option ℕ) → NamesBelow n callees (break_if_any o) → is_below_if_any n o ≡ true
break_if_sayable n callees None k = refl
break_if_sayable n callees (Some h) k = lt-ltb h n k.0

behind_fall : (n callees : ℕ) (f : Bool) (ts : List Token) → NamesBelow n callees (fall_if f ++ ts) → NamesBelow n callees ts
behind_fall n callees true ts k = k
behind_fall n callees false ts k = k

mutual
  unfolding Spells is_sayable

  body_sayable : (n callees : ℕ) (b : Body) (ts : List Token) → Spells b ts → NamesBelow n callees ts → is_sayable n callees b ≡ true
  body_sayable n callees Done ts e k = refl
  body_sayable n callees (Then x rest) ts (first, more, one, others, e) k =
      let parts = names_append n callees first more (rw e at k) in
      both _ _ (statement_sayable n callees x first one parts.0) (body_sayable n callees rest more others parts.1)

  statement_sayable : (n callees : ℕ) (x : Stmt) (ts : List Token) → SpellsStatement x ts → NamesBelow n callees ts → is_sayable_statement n callees x ≡ true
  statement_sayable n callees (Leaf acts x span) ts (inl (first, last, same, how)) k = emit_sayable n callees acts x span ts first last same how k
  statement_sayable n callees (Leaf acts x span) ts (inr (inl (result, same, e))) k = call_sayable n callees acts x span ts result same e k
  statement_sayable n callees (Leaf acts x span) ts (inr (inr (inl (pointer, value, same, e)))) k = store_sayable n callees acts x span ts pointer value same e k
  statement_sayable n callees (Leaf acts x span) ts (inr (inr (inr (same, e)))) k = barrier_sayable n callees acts x span same
  statement_sayable n callees (Block inner) ts (within, spelled, e) k =
      let parts = names_in_braces n callees within [] (rw (append-nil (in_braces within)) (rw e at k)) in
      body_sayable n callees inner within spelled parts.0
  statement_sayable n callees (Branch c accept reject) ts (taken, other, one, two, e) k =
      let names = rw e at k in
      let parts = names_in_braces n callees taken (in_braces other) names.1 in
      let last = names_in_braces n callees other [] (rw (append-nil (in_braces other)) parts.1) in
      both _ _ (lt-ltb c n names.0) (both _ _ (body_sayable n callees accept taken one parts.0) (body_sayable n callees reject other two last.0))
  statement_sayable n callees (Switch h cases) ts (within, spelled, e) k =
      let names = rw e at k in
      let parts = names_in_braces n callees within [] (rw (append-nil (in_braces within)) names.1) in
      both _ _ (lt-ltb h n names.0) (cases_sayable n callees cases within spelled parts.0)
  statement_sayable n callees (Loop turn continuing condition) ts (first, second, one, two, e) k =
      let names = rw e at k in
      let parts = names_in_braces n callees first (in_braces second ++ break_if_any condition) names in
      let last = names_in_braces n callees second (break_if_any condition) parts.1 in
      both _ _ (break_if_sayable n callees condition last.1) (both _ _ (body_sayable n callees turn first one parts.0) (body_sayable n callees continuing second two last.0))
  statement_sayable n callees Break ts e k = refl
  statement_sayable n callees Continue ts e k = refl
  statement_sayable n callees (Return value) ts e k = option_sayable n callees value (rw e at k)
  statement_sayable n callees Kill ts e k = refl

  cases_sayable : (n callees : ℕ) (cs : Cases) (ts : List Token) → SpellsCases cs ts → NamesBelow n callees ts → are_sayable_cases n callees cs ≡ true
  cases_sayable n callees NoCase ts e k = refl
  cases_sayable n callees (OneCase v f inner rest) ts (within, more, spelled, others, e) k =
      let names = behind_fall n callees f (in_braces within ++ more) (rw e at k) in
      let parts = names_in_braces n callees within more names in
      both _ _ (body_sayable n callees inner within spelled parts.0) (cases_sayable n callees rest more others parts.1)

-- the body of a case that words say holds Emits of the bench's expressions, and statements of the eight kinds that hold
-- others or jump, and names no other handle
said_is_sayable : (ws : List (List ℕ)) (c : Case) → Say ws c → is_sayable (length (names_of c.bench)) (callees_of c.bench) c.body ≡ true
said_is_sayable ws c said =
    body_sayable _ _ c.body said.tokens said.spelled (names_of_texts c.bench said.tokens said.rest said.are_tokens)

pub read_is_sayable : (input : List ℕ) (c : Case) → Reads input c → is_sayable (length (names_of c.bench)) (callees_of c.bench) c.body ≡ true
read_is_sayable input c reads = said_is_sayable (words_of input) c reads.said

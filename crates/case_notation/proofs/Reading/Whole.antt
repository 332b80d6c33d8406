-- A whole case.
use Rattle.std.proofs.Common.{◌≡◌, ◌≤◌, ℕ, List, [], ◌∷◌, ◌++◌, Bool, true, false, Option, Some, None, refl, ap, sym, subst, ◌∙◌, codes, cond, inl, inr, ◌⊎◌}
use Rattle.std.proofs.Common.{length}
use Rattle.std.specs.List.{AllPass}
use Rattle.std.specs.Prelude.{option_and_then}
use Rattle.std.specs.Str.{bytes_eq}
use Rattle.std.specs.Cmp.Lexicographic.{same_text}
use Rattle.ir_statements.specs.Tree.{Body}
use Rattle.case_notation.specs.declared.bench.Bench.{Bench}
use Rattle.case_notation.specs.declared.bench.Bench.TheVariants as bench
use Rattle.case_notation.specs.declared.token.Token.{Token}
use Rattle.case_notation.specs.Bench.{bench_word, bench_of}
use Rattle.case_notation.specs.CaseBlocks.{block_of}
use Rattle.case_notation.specs.Case.{Case, Say, Reads}
use Rattle.case_notation.specs.Grammar.{Spells, depth}
use Rattle.case_notation.specs.Head.{AreOptions}
use Rattle.case_notation.specs.Lookup.{options_of, take_option}
use Rattle.case_notation.specs.Reading.{reading_of}
use Rattle.case_notation.specs.Text.{AreTextsOf}
use Rattle.case_notation.specs.Scanning.{FirstWord, SayBody}
use Rattle.case_notation.specs.Words.{is_visible, IsPrintable, words_of}
use Rattle.case_notation.proofs.Reading.Complete.{reads_complete}
use Rattle.case_notation.proofs.Reading.Trees.{body_of, same_tree}
use Rattle.case_notation.proofs.Reading.Tokens.{one_list, shown}

-- the bench's word
bench_is : (b : Bench) → bench_of (bench_word b) ≡ Some b
bench_is bench.P = refl
bench_is bench.C = refl
bench_is bench.D = refl

bench_found : (w : List ℕ) (b : Bench) → bench_of w ≡ Some b → w ≡ bench_word b
bench_found w b e =
    go (bytes_eq w (bench_word bench.P)) (bytes_eq w (bench_word bench.C)) (bytes_eq w (bench_word bench.D)) refl refl refl e
  where
    go : (t u v : Bool) → bytes_eq w (bench_word bench.P) ≡ t → bytes_eq w (bench_word bench.C) ≡ u → bytes_eq w (bench_word bench.D) ≡ v → cond t (Some bench.P) (cond u (Some bench.C) (cond v (Some bench.D) None)) ≡ Some b → w ≡ bench_word b
    go true u v is other last found =
        let same : bench.P ≡ b = cc in same_text w (bench_word bench.P) (sym is) ∙ ap bench_word same
    go false true v is other last found =
        let same : bench.C ≡ b = cc in same_text w (bench_word bench.C) (sym other) ∙ ap bench_word same
    go false false true is other last found =
        let same : bench.D ≡ b = cc in same_text w (bench_word bench.D) (sym last) ∙ ap bench_word same
    go false false false is other last found = cc

bench_shown : (w : List ℕ) (b : Bench) → bench_of w ≡ Some b → AllPass is_visible w
bench_shown w b e = go b (bench_found w b e)
  where
    go : (b : Bench) → w ≡ bench_word b → AllPass is_visible w
    go bench.P is = shown w (bench_word bench.P) is refl
    go bench.C is = shown w (bench_word bench.C) is refl
    go bench.D is = shown w (bench_word bench.D) is refl

-- the options, as they are taken
options_is : (e b : Bool) (options rest : List (List ℕ)) → AreOptions e b options → options_of true true (options ++ codes ":" ∷ rest) ≡ Some (e, b, rest)
unfolding options_of take_option
options_is true true options rest h = rw h refl
options_is false true options rest h = rw h refl
options_is true false options rest h = rw h refl
options_is false false options rest (inl h) = rw h refl
options_is false false options rest (inr h) = rw h refl

-- these options lead from some flags to others
abbrev Lead : Bool → Bool → List (List ℕ) → Bool → Bool → Type 0
Lead e b [] f g = (e ≡ f) × (b ≡ g)
Lead e b (w ∷ ws) f g =
    ((w ≡ codes "-expressions") × (e ≡ true) × Lead false b ws f g) ⊎ ((w ≡ codes "-blocks") × (b ≡ true) × Lead e false ws f g)

both_off : (options : List (List ℕ)) (f g : Bool) → Lead false false options f g → (options ≡ []) × (false ≡ f) × (false ≡ g)
both_off [] f g h = (refl, h.0, h.1)
both_off (w ∷ ws) f g (inl (is, off, h)) = cc
both_off (w ∷ ws) f g (inr (is, off, h)) = cc

same_flags : (options : List (List ℕ)) (e f b g : Bool) → e ≡ f → b ≡ g → AreOptions e b options → AreOptions f g options
same_flags options e f b g h k are =
    subst (λ x. AreOptions x g options) h (subst (λ x. AreOptions e x options) k are)

blocks_on : (options : List (List ℕ)) (f g : Bool) → Lead false true options f g → AreOptions f g (codes "-expressions" ∷ options)
blocks_on [] f g h = same_flags _ false f true g h.0 h.1 refl
blocks_on (w ∷ ws) f g (inl (is, off, h)) = cc
blocks_on (w ∷ ws) f g (inr (is, on, h)) =
    let rest = both_off ws f g h in
    same_flags _ false f false g rest.1 rest.2 (inl (ap (λ l. codes "-expressions" ∷ l) ((λ i. is i ∷ rest.0 i))))

expressions_on : (options : List (List ℕ)) (f g : Bool) → Lead true false options f g → AreOptions f g (codes "-blocks" ∷ options)
expressions_on [] f g h = same_flags _ true f false g h.0 h.1 refl
expressions_on (w ∷ ws) f g (inr (is, off, h)) = cc
expressions_on (w ∷ ws) f g (inl (is, on, h)) =
    let rest = both_off ws f g h in
    same_flags _ false f false g rest.1 rest.2 (inr (ap (λ l. codes "-blocks" ∷ l) ((λ i. is i ∷ rest.0 i))))

are_options : (options : List (List ℕ)) (f g : Bool) → Lead true true options f g → AreOptions f g options
are_options [] f g h = same_flags [] true f true g h.0 h.1 refl
are_options (w ∷ ws) f g (inl (is, on, h)) = rw is (blocks_on ws f g h)
are_options (w ∷ ws) f g (inr (is, on, h)) = rw is (expressions_on ws f g h)

none_some : {A : Type 0} (x : A) → None ≡ Some x → ⊥
none_some x e = cc

some_some : {A : Type 0} (x y : A) → Some x ≡ Some y → x ≡ y
some_some x y e = cc

-- which option was taken
pub take_found : (e b : Bool) (w : List ℕ) (o : Bool × Bool) → take_option e b w ≡ Some o → ((w ≡ codes "-expressions") × (e ≡ true) × ((false, b) ≡ o)) ⊎ ((w ≡ codes "-blocks") × (b ≡ true) × ((e, false) ≡ o))
unfolding take_option
take_found e b w o h = first (bytes_eq w (codes "-expressions")) (bytes_eq w (codes "-blocks")) refl refl e b refl refl h
  where
    first : (s t : Bool) → bytes_eq w (codes "-expressions") ≡ s → bytes_eq w (codes "-blocks") ≡ t → (e' b' : Bool) → e' ≡ e → b' ≡ b → cond s (cond e' (Some (false, b)) None) (cond t (cond b' (Some (e, false)) None) None) ≡ Some o → ((w ≡ codes "-expressions") × (e ≡ true) × ((false, b) ≡ o)) ⊎ ((w ≡ codes "-blocks") × (b ≡ true) × ((e, false) ≡ o))
    first true t is at true b' h k found = inl (same_text w _ (sym is), sym h, some_some _ _ found)
    first true t is at false b' h k found = absurd (none_some _ found)
    first false true is at e' true h k found = inr (same_text w _ (sym at), sym k, some_some _ _ found)
    first false true is at e' false h k found = absurd (none_some _ found)
    first false false is at e' b' h k found = absurd (none_some _ found)

bind_some : {A B : Type 0} (o : Option A) (f : A → Option B) (b : B) → option_and_then f o ≡ Some b → (a : A) × (o ≡ Some a) × (f a ≡ Some b)
bind_some None f b e = cc
bind_some (Some a) f b e = (a, refl, e)

chosen : {X : Type 0} (t : Bool) (x y : X) (o : Option X) → cond t (Some x) o ≡ Some y → ((t ≡ true) × (x ≡ y)) ⊎ ((t ≡ false) × (o ≡ Some y))
chosen true x y o e = inl (refl, some_some x y e)
chosen false x y o e = inr (refl, e)

lead_on : (e b : Bool) (w : List ℕ) (o : Bool × Bool) → ((w ≡ codes "-expressions") × (e ≡ true) × ((false, b) ≡ o)) ⊎ ((w ≡ codes "-blocks") × (b ≡ true) × ((e, false) ≡ o)) → (options : List (List ℕ)) (f g : Bool) → Lead o.0 o.1 options f g → Lead e b (w ∷ options) f g
lead_on e b w o (inl (is, on, same)) options f g h =
    inl (is, on, subst (λ p. Lead p.0 p.1 options f g) (sym same) h)
lead_on e b w o (inr (is, on, same)) options f g h =
    inr (is, on, subst (λ p. Lead p.0 p.1 options f g) (sym same) h)

-- what is taken as options
options_found : (e b : Bool) (ws : List (List ℕ)) (f g : Bool) (rest : List (List ℕ)) → options_of e b ws ≡ Some (f, g, rest) → (options : List (List ℕ)) × (ws ≡ options ++ codes ":" ∷ rest) × Lead e b options f g
unfolding options_of
options_found e b [] f g rest h = absurd (none_some _ h)
options_found e b (w ∷ ws) f g rest h =
    elim (chosen (bytes_eq w (codes ":")) (e, b, ws) (f, g, rest) (option_and_then (λ o. options_of o.0 o.1 ws) (take_option e b w)) h) [
      | inl k ↦ ([], (λ i. same_text w (codes ":") (sym k.0) i ∷ (k.1 i).2), (ap (λ p. p.0) k.1, ap (λ p. p.1) k.1))
      | inr k ↦
          (let taken = bind_some (take_option e b w) (λ o. options_of o.0 o.1 ws) (f, g, rest) k.1 in
          let more = options_found taken.0.0 taken.0.1 ws f g rest taken.2 in
          (w ∷ more.0, ap (λ l. w ∷ l) more.1, lead_on e b w taken.0 (take_found e b w taken.0 taken.1) more.0 f g more.2))
    ]

-- the parts of a case, together
pub say_found : (ws : List (List ℕ)) (first : List ℕ) (others : List (List ℕ)) (b : Bench) (e k : Bool) (rest : List (List ℕ)) (ts : List Token) (body : Body) → ws ≡ first ∷ others → bench_of first ≡ Some b → options_of true true others ≡ Some (e, k, rest) → AreTextsOf b ts rest → Spells body ts → depth body ≤ 256 → Say ws (record { bench = b; expressions = e; blocks = k; body = body })
say_found ws first others b e k rest ts body at is taken texts spelled shallow =
    let options = options_found true true others e k rest taken in
    record {
      options = options.0;
      are_options = are_options options.0 e k options.2;
      rest = rest;
      in_order = at ∙ (λ i. bench_found first b is i ∷ options.1 i);
      tokens = ts;
      are_tokens = texts;
      spelled = spelled;
      shallow = shallow;
    }

-- what the words tell, where they say a case
pub say_bench : (ws : List (List ℕ)) (first : List ℕ) (others : List (List ℕ)) → ws ≡ first ∷ others → (c : Case) → Say ws c → bench_of first ≡ Some c.bench
say_bench ws first others at c said =
    let both = sym at ∙ said.in_order in
    let same : first ≡ bench_word c.bench = cc in ap bench_of same ∙ bench_is c.bench

pub say_options : (ws : List (List ℕ)) (first : List ℕ) (others : List (List ℕ)) → ws ≡ first ∷ others → (c : Case) → (said : Say ws c) → options_of true true others ≡ Some (c.expressions, c.blocks, said.rest)
say_options ws first others at c said =
    let both = sym at ∙ said.in_order in
    let same : others ≡ said.options ++ codes ":" ∷ said.rest = cc in
    ap (options_of true true) same ∙ options_is c.expressions c.blocks said.options said.rest said.are_options

-- the head that words tell is one
pub say_head : (ws : List (List ℕ)) (first : List ℕ) (others : List (List ℕ)) (b : Bench) (e k : Bool) (rest : List (List ℕ)) → ws ≡ first ∷ others → bench_of first ≡ Some b → options_of true true others ≡ Some (e, k, rest) → (c : Case) → (said : Say ws c) → (c.bench ≡ b) × (c.expressions ≡ e) × (c.blocks ≡ k) × (said.rest ≡ rest)
say_head ws first others b e k rest at is taken c said =
    let flags : (c.expressions, c.blocks, said.rest) ≡ (e, k, rest) = some_some _ _ (sym (say_options ws first others at c said) ∙ taken) in
    (some_some _ _ (sym (say_bench ws first others at c said) ∙ is), ap (λ p. p.0) flags, ap (λ p. p.1) flags, ap (λ p. p.2) flags)

-- what was read says the case that the parts of its text say, and a text whose parts say none reads as none
module _ (input word behind : List ℕ) (cut : FirstWord input word behind) where
  pub no_options : options_of true true (words_of behind) ≡ None → (c : Case) → Reads input c → ⊥
  no_options none c reads =
      none_some _ (sym none ∙ say_options (words_of input) word (words_of behind) cut.first c reads.said)

  module _ (b : Bench) (e k : Bool) (text : List ℕ) (is : bench_of word ≡ Some b) (taken : options_of true true (words_of behind) ≡ Some (e, k, words_of text)) where
    pub case_found : (body : Body) → SayBody b (words_of text) body → length input ≤ 65536 → IsPrintable behind → Reads input (record { bench = b; expressions = e; blocks = k; body = body })
    case_found body said bounded shown_behind =
        record {
          bounded = bounded;
          printable = cut.printable (bench_shown word b is) shown_behind;
          said = say_found (words_of input) word (words_of behind) b e k (words_of text) said.tokens body cut.first is taken said.are_tokens said.spelled said.shallow;
        }

    pub no_body : ((body : Body) → SayBody b (words_of text) body → ⊥) → (c : Case) → Reads input c → ⊥
    no_body none c reads =
        let head = say_head (words_of input) word (words_of behind) b e k (words_of text) cut.first is taken c reads.said in
        none c.body (record {
          tokens = reads.said.tokens;
          are_tokens = subst (AreTextsOf b reads.said.tokens) head.3 (subst (λ x. AreTextsOf x reads.said.tokens reads.said.rest) head.0 reads.said.are_tokens);
          spelled = reads.said.spelled;
          shallow = reads.said.shallow;
        })

-- words say one case
one_case : (ws : List (List ℕ)) (a c : Case) → Say ws a → Say ws c → a ≡ c
one_case ws a c x y =
    let head = say_head ws (bench_word a.bench) (x.options ++ codes ":" ∷ x.rest) a.bench a.expressions a.blocks x.rest x.in_order (bench_is a.bench) (options_is a.expressions a.blocks x.options x.rest x.are_options) c y in
    let texts_too : AreTextsOf a.bench y.tokens x.rest = subst (AreTextsOf a.bench y.tokens) head.3 (subst (λ b. AreTextsOf b y.tokens y.rest) head.0 y.are_tokens) in
    let tokens : y.tokens ≡ x.tokens = one_list a.bench y.tokens x.tokens x.rest texts_too x.are_tokens in
    let blocks : block_of c.body ≡ block_of a.body = some_some _ _ (sym (reads_complete c.body y.tokens y.spelled y.shallow) ∙ ap reading_of tokens ∙ reads_complete a.body x.tokens x.spelled x.shallow) in
    let bodies : c.body ≡ a.body = sym (same_tree c.body y.tokens y.spelled) ∙ ap body_of blocks ∙ same_tree a.body x.tokens x.spelled in
    sym (λ i. record { bench = head.0 i; expressions = head.1 i; blocks = head.2 i; body = bodies i })

pub one_input : (input : List ℕ) (a c : Case) → Reads input a → Reads input c → a ≡ c
one_input input a c x y = one_case (words_of input) a c x.said y.said

-- From an accepted module to the judgements of its functions and entry points: by induction on each list.
use Rattle.std.proofs.Common.{◌≡◌, ◌≤◌, ◌+◌, ◌++◌, ◌∙◌, inl, inr, ℕ, zero, suc, false, List, [], ◌∷◌, Some, Result, Ok, Err, length, slice_get, refl, sym, ap, subst, arith}
use Rattle.std.proofs.lemmas.List.{length-append}
use Rattle.std.specs.Prelude.{drop, take}
use Rattle.ir_facts.specs.Fits.{FitsFunction, FitsEntry}
use Rattle.ir_module.specs.declared.functions.Function.{Function}
use Rattle.ir_module.specs.declared.module.EntryPoint.{EntryPoint}
use Rattle.ir_module.specs.declared.module.Module.{Module}
use Rattle.ir_facts.specs.declared.valid.info.FunctionInfo.{FunctionInfo}
use Rattle.ir_facts.specs.declared.valid.info.ModuleInfo.{ModuleInfo}
use Rattle.ir_facts.specs.declared.valid.settings.Settings.{Settings}
use Rattle.ir_types.specs.declared.type_info.TypeInfo.{TypeInfo}
use Rattle.ir_facts.specs.Meaning.{Meaning}
use Rattle.check_laws.proofs.Chains.{none_is_vetted, one_more_is_vetted}
use Rattle.check_laws.specs.Chains.{AreVetted}
use Rattle.check_entry.specs.InterfacePoints.{HasPayloadSizes}
use Rattle.check_laws.specs.EntryJudgement.{entry_judgement}
use Rattle.check_laws.specs.InOrder.{with_info}
use Rattle.check_statement.specs.FunctionJudgement.{FunctionOutcome, function_judgement}
use Rattle.check_statement.specs.ValidatorParts.{no_traces}
use Rattle.check_scope.specs.declared.trace.TraceState.{TraceState}
use Rattle.check_laws.proofs.EntryBuiltIns.{accepted_built_ins}
use Rattle.check_laws.proofs.EntryFacts.{accepted_position}
use Rattle.naga_module.specs.ModuleInfos.{infos_before, IsJudgedEntry}
use Rattle.naga_module.specs.ModuleJudgement.{ModuleAnswer, Tested, AnswersStep, with_entry, first_infos, IsOfFunction, IsOfEntryPoint, EntriesAnswer, BehindFunctions, FunctionsAnswer, Fits, globals_step}
use Rattle.naga_module.specs.ModuleLaw.{AcceptedModuleIsJudged}
use Rattle.check_faults.specs.declared.module.ModuleFault.{ModuleFault}
use Rattle.check_faults.specs.declared.module.ModuleFault.TheVariants as fault

-- a test that came out well held
passed : (P : Type 0) (Next : ModuleAnswer → Type 0) (out : ModuleInfo) → Tested P Next (Ok out) → P × Next (Ok out)
passed P Next out (inl p) = p
passed P Next out (inr p) = let no = p.1 in cc

-- a step that came out well found something, and the next came out well
record Found {A E : Type 0} (r : Result A E) (Next : A → ModuleAnswer → Type 0) (out : ModuleInfo) : Type 0 where
  value : A
  is : r ≡ Ok value
  next : Next value (Ok out)

found : {A E : Type 0} (r : Result A E) (Makes : E → ModuleFault → Type 0) (Next : A → ModuleAnswer → Type 0) (out : ModuleInfo) → AnswersStep r Makes Next (Ok out) → Found r Next out
found (Ok x) Makes Next out a = record { value = x; is = refl; next = a }
found (Err e) Makes Next out a = absurd a

-- the next item of a list, and the rest
next_of : {A : Type 0} (xs : List A) (i : ℕ) (y : A) (ys : List A) → y ∷ ys ≡ drop i xs → (slice_get xs i ≡ Some y) × (ys ≡ drop (i + 1) xs)
next_of [] zero y ys e = cc
next_of [] (suc i) y ys e = cc
next_of (x ∷ xs) zero y ys e = let first : x ≡ y = cc in let rest : ys ≡ xs = cc in (ap Some first, rest)
next_of (x ∷ xs) (suc i) y ys e =
    let rest = next_of xs i y ys e in
    let place : suc (i + 1) ≡ suc i + 1 = omega arith in
    (rest.0, rest.1 ∙ ap (λ k. drop k (x ∷ xs)) place)

module _ {A : Type 0} where
  -- where nothing is left behind n items, there are no more
  no_more : (xs : List A) (n : ℕ) → [] ≡ drop n xs → length xs ≤ n
  no_more [] n e = omega arith
  no_more (x ∷ xs) zero e = cc
  no_more (x ∷ xs) (suc n) e = let rest = no_more xs n e in omega arith

  -- a list that begins with another begins with it up to its length, and has what follows there
  front : (xs : List A) (y : A) (zs : List A) → xs ++ y ∷ [] ≡ take (length (xs ++ y ∷ [])) zs → xs ≡ take (length xs) zs
  front [] y zs e = refl
  front (x ∷ xs) y [] e = cc
  front (x ∷ xs) y (z ∷ zs) e =
      let first : x ≡ z = cc in
      let rest : xs ++ y ∷ [] ≡ take (length (xs ++ y ∷ [])) zs = cc in
      λ i. first i ∷ front xs y zs rest i

  at_end : (xs : List A) (y : A) (zs : List A) → xs ++ y ∷ [] ≡ take (length (xs ++ y ∷ [])) zs → slice_get zs (length xs) ≡ Some y
  at_end [] y [] e = cc
  at_end [] y (z ∷ zs) e = let first : y ≡ z = cc in ap Some (sym first)
  at_end (x ∷ xs) y [] e = cc
  at_end (x ∷ xs) y (z ∷ zs) e = let rest : xs ++ y ∷ [] ≡ take (length (xs ++ y ∷ [])) zs = cc in at_end xs y zs rest

  all_of : (xs : List A) → xs ≡ take (length xs) xs
  all_of [] = refl
  all_of (x ∷ xs) = ap (λ l. x ∷ l) (all_of xs)

module _ (below : Meaning) (settings : Settings) (types : List TypeInfo) (m : Module) (out : ModuleInfo) where
  -- what is left behind all functions
  record Behind : Type 0 where
    trace : TraceState
    infos : ModuleInfo
    vetted : AreVetted below settings types m infos
    all : length infos.functions ≡ length m.functions
    entries : infos.entry_points ≡ []
    next : BehindFunctions below settings types m trace infos (Ok out)

  behind_functions : (fs : List Function) (trace : TraceState) (infos : ModuleInfo) → AreVetted below settings types m infos → infos.entry_points ≡ [] →
      fs ≡ drop (length infos.functions) m.functions → FunctionsAnswer below settings types m trace infos fs (Ok out) → Behind
  unfolding FunctionsAnswer
  behind_functions [] trace infos vetted none left a =
      let few = vetted.few in
      let last = no_more m.functions (length infos.functions) left in
      record { trace = trace; infos = infos; vetted = vetted; all = omega arith; entries = none; next = a }
  behind_functions (f ∷ fs) trace infos vetted none left a =
      let tested = passed (FitsFunction f m (length infos.functions))
      (AnswersStep (function_judgement below settings types trace m infos f false) (IsOfFunction (fault.Function (length infos.functions))) (λ (l : FunctionOutcome). FunctionsAnswer below settings types m l.trace (with_info infos l.info) fs)) out a in
      let judged = found (function_judgement below settings types trace m infos f false) (IsOfFunction (fault.Function (length infos.functions))) (λ (l : FunctionOutcome). FunctionsAnswer below settings types m l.trace (with_info infos l.info) fs) out tested.1 in
      let place = next_of m.functions (length infos.functions) f fs left in
      let more = one_more_is_vetted below settings types trace m infos f judged.value vetted none place.0 tested.0 judged.is in
      let one : length infos.functions + 1 ≡ length (infos.functions ++ judged.value.info ∷ []) = sym (length-append infos.functions (judged.value.info ∷ [])) in
      behind_functions fs judged.value.trace (with_info infos judged.value.info) more none (place.1 ∙ ap (λ n. drop n m.functions) one) judged.next

  -- an entry point and its info at a place among those that were answered
  record JudgedAt (k : ℕ) (p : EntryPoint) : Type 0 where
    info : FunctionInfo
    known : slice_get out.entry_points k ≡ Some info
    judged : IsJudgedEntry below settings types m out k p info

  -- each entry point from here on is judged, where the infos before the first are known
  record Entries (infos : ModuleInfo) (ps : List EntryPoint) : Type 0 where
    functions : out.functions ≡ infos.functions
    types_of : out.global_types ≡ infos.global_types
    before : infos.entry_points ≡ take (length infos.entry_points) out.entry_points
    count : length out.entry_points ≡ length infos.entry_points + length ps
    each : (k : ℕ) (p : EntryPoint) → slice_get ps k ≡ Some p → JudgedAt (length infos.entry_points + k) p

  each_of : (p : EntryPoint) (ps : List EntryPoint) (n : ℕ) → JudgedAt n p → ((k : ℕ) (q : EntryPoint) → slice_get ps k ≡ Some q → JudgedAt (n + 1 + k) q) →
      (k : ℕ) (q : EntryPoint) → slice_get (p ∷ ps) k ≡ Some q → JudgedAt (n + k) q
  each_of p ps n own rest zero q is =
      let place : n ≡ n + 0 = omega arith in
      subst (λ i. JudgedAt i q) place (subst (λ (e : EntryPoint). JudgedAt n e) (let same : p ≡ q = cc in same) own)
  each_of p ps n own rest (suc k) q is =
      let place : n + 1 + k ≡ n + suc k = omega arith in
      subst (λ i. JudgedAt i q) place (rest k q is)

  entries_judged : (ps : List EntryPoint) (trace : TraceState) (infos : ModuleInfo) →
      EntriesAnswer below settings types m trace infos ps (Ok out) → Entries infos ps
  unfolding EntriesAnswer
  entries_judged [] trace infos a =
      let same : out ≡ infos = cc in
      record {
        functions = ap (λ (i : ModuleInfo). i.functions) same;
        types_of = ap (λ (i : ModuleInfo). i.global_types) same;
        before = subst (λ (i : ModuleInfo). infos.entry_points ≡ take (length infos.entry_points) i.entry_points) (sym same) (all_of infos.entry_points);
        count = let alike = ap (λ (i : ModuleInfo). length i.entry_points) same in omega arith;
        each = λ k p is. cc;
      }
  entries_judged (p ∷ ps) trace infos a =
      let tested = passed (FitsFunction p.function m (length infos.functions) × FitsEntry p m)
      (AnswersStep (entry_judgement below settings types trace m infos p) (IsOfEntryPoint (length infos.entry_points)) (λ (l : FunctionOutcome). EntriesAnswer below settings types m l.trace (with_entry infos l.info) ps)) out a in
      let judged = found (entry_judgement below settings types trace m infos p) (IsOfEntryPoint (length infos.entry_points)) (λ (l : FunctionOutcome). EntriesAnswer below settings types m l.trace (with_entry infos l.info) ps) out tested.1 in
      let info = judged.value.info in
      let rest = entries_judged ps judged.value.trace (with_entry infos info) judged.next in
      let before = front infos.entry_points info out.entry_points rest.before in
      let same : infos ≡ infos_before (length infos.entry_points) out = λ i. record { functions = sym rest.functions i; entry_points = before i; global_types = sym rest.types_of i } in
      let one : length (infos.entry_points ++ info ∷ []) ≡ length infos.entry_points + 1 = length-append infos.entry_points (info ∷ []) in
      let own : JudgedAt (length infos.entry_points) p =
      record {
        info = info;
        known = at_end infos.entry_points info out.entry_points rest.before;
        judged =
            record {
              function_fits = subst (λ (l : List FunctionInfo). FitsFunction p.function m (length l)) (sym rest.functions) tested.0.0;
              fits = tested.0.1;
              trace = trace;
              left = judged.value.trace;
              judged = subst (λ (i : ModuleInfo). entry_judgement below settings types trace m i p ≡ Ok (record { info = info; trace = judged.value.trace })) same judged.is;
            };
      } in
      record {
        functions = rest.functions;
        types_of = rest.types_of;
        before = before;
        count = let others = rest.count in omega arith;
        each = each_of p ps (length infos.entry_points) own (subst (λ n. (k : ℕ) (q : EntryPoint) → slice_get ps k ≡ Some q → JudgedAt (n + k) q) one rest.each);
      }

  -- vetted infos are so whatever the infos of entry points are
  vetted_by_functions : (infos : ModuleInfo) → AreVetted below settings types m infos → out.functions ≡ infos.functions → out.global_types ≡ infos.global_types →
      AreVetted below settings types m out
  vetted_by_functions infos v functions types_of =
      let same : record infos { entry_points = out.entry_points } ≡ out = λ i. record { functions = sym functions i; entry_points = out.entry_points; global_types = sym types_of i } in
      let kept : AreVetted below settings types m (record infos { entry_points = out.entry_points }) =
      record {
        few = v.few;
        each = λ k f i is known. let w = v.each k f i is known in record { calls = w.calls; trace = w.trace; left = w.left; judged = w.judged };
      } in
      subst (λ (i : ModuleInfo). AreVetted below settings types m i) same kept

  vetted_before_each : AreVetted below settings types m out → (k : ℕ) → AreVetted below settings types m (infos_before k out)
  vetted_before_each v k =
      record {
        few = v.few;
        each = λ n f i is known. let w = v.each n f i is known in record { calls = w.calls; trace = w.trace; left = w.left; judged = w.judged };
      }

  -- what holds of an entry point at a place that has an info
  entry_at : (all : (k : ℕ) (p : EntryPoint) → slice_get m.entry_points k ≡ Some p → JudgedAt k p) → (k : ℕ) (p : EntryPoint) (info : FunctionInfo) →
      slice_get m.entry_points k ≡ Some p → slice_get out.entry_points k ≡ Some info → IsJudgedEntry below settings types m out k p info
  entry_at all k p info is known =
      let j = all k p is in
      let same : j.info ≡ info = let both = sym j.known ∙ known in cc in
      subst (λ (i : FunctionInfo). IsJudgedEntry below settings types m out k p i) same j.judged

-- all of an accepted module
pub module_is_judged : AcceptedModuleIsJudged
module_is_judged below settings types global_types m out a =
    let tested = passed (Fits below settings types m global_types)
    (AnswersStep (globals_step below settings types m (first_infos global_types)) (IsOfFunction (λ e. e)) (λ done. FunctionsAnswer below settings types m no_traces (first_infos global_types) m.functions)) out a in
    let globals = found (globals_step below settings types m (first_infos global_types)) (IsOfFunction (λ e. e)) (λ done. FunctionsAnswer below settings types m no_traces (first_infos global_types) m.functions) out tested.1 in
    let none = none_is_vetted below settings types m (first_infos global_types) refl in
    let functions = behind_functions below settings types m out m.functions no_traces (first_infos global_types) none refl refl globals.next in
    let sizes = passed (HasPayloadSizes below m) (EntriesAnswer below settings types m functions.trace functions.infos m.entry_points) out functions.next in
    let entries = entries_judged below settings types m out m.entry_points functions.trace functions.infos sizes.1 in
    let vetted = vetted_by_functions below settings types m out functions.infos functions.vetted entries.functions entries.types_of in
    let first = ap length functions.entries in
    let at : (k : ℕ) (p : EntryPoint) → slice_get m.entry_points k ≡ Some p → JudgedAt below settings types m out k p =
    λ k p is. let place : 0 + k ≡ k = omega arith in subst (λ n. JudgedAt below settings types m out n p) (ap (λ n. n + k) first ∙ place) (entries.each k p is) in
    record {
      function_infos = ap length entries.functions ∙ functions.all;
      entry_infos = let count = entries.count in omega arith;
      functions = vetted.each;
      entry_points = entry_at below settings types m out at;
      vetted = vetted;
      vetted_before = vetted_before_each below settings types m out vetted;
      built_ins = λ k p is.
          let j = (at k p is).judged in accepted_built_ins below settings types j.trace m (infos_before k out) p _ j.judged tested.0.types_fit j.function_fits.signature;
      position = λ k p is.
          let j = (at k p is).judged in accepted_position below settings types j.trace m (infos_before k out) p _ j.judged;
    }

-- The laws that the layer of recorded facts keeps as a lower layer, whatever the facts are.
use Rattle.std.specs.Prelude.{ℕ, ◌≡◌, Bool, true, false, ◌&&◌, ◌==◌, All, Option, Some, None, Ok, Err, length, if◌then◌else◌}
use Rattle.std.specs.List.{list_all}
use Rattle.std.proofs.Common.{refl}
use Rattle.std.proofs.lemmas.Bool.{ltb-true, eqb-true}
use Rattle.std.proofs.lemmas.List.Sums.{AllPass-from_list_all}
use Rattle.std.proofs.lemmas.Result.{IfOk-at_ok}
use Rattle.ir_types.specs.Types.{ResolutionFits}
use Rattle.ir_module.specs.declared.functions.Function.{Function}
use Rattle.ir_module.specs.declared.module.Module.{Module}
use Rattle.ir_types.specs.declared.types.TypeInner.TheVariants as inner
use Rattle.ir_types.specs.declared.typifier.TypeResolution.{TypeResolution}
use Rattle.ir_types.specs.declared.typifier.TypeResolution.TheVariants.{Handle, Value}
use Rattle.ir_facts.specs.declared.valid.info.FunctionInfo.{FunctionInfo}
use Rattle.ir_facts.specs.declared.valid.info.ModuleInfo.{ModuleInfo}
use Rattle.ir_facts.specs.Lawful.{IsNoStruct}
use Rattle.naga_layers.specs.Recorded.Asked.{fact_asked}
use Rattle.ir_facts.specs.Facts.{info_of}
use Rattle.naga_layers.specs.Recorded.Infos.{is_lawful_type, is_lawful_info, recorded_info, USELESS}
use Rattle.ir_facts.specs.declared.facts.FunctionFact.{FunctionFact}
use Rattle.ir_facts.specs.declared.facts.FunctionFact.TheVariants.{Info, Error as FunctionRefused}
use Rattle.ir_facts.specs.declared.facts.InfoFact.{InfoFact}
use Rattle.naga_layers.specs.declared.recorded.Recorded.{Recorded}

-- a type that is lawful names types that are there, and is no struct as a value
lawful : (n : ℕ) (r : TypeResolution) → is_lawful_type n r ≡ true → ResolutionFits n r × IsNoStruct r
lawful n (Handle t) h = (ltb-true t n h, tt)
lawful n (Value (inner.Pointer base space)) h = (ltb-true base n h, tt)
lawful n (Value (inner.Array base size stride)) h = (ltb-true base n h, tt)
lawful n (Value (inner.BindingArray base size)) h = (ltb-true base n h, tt)
lawful n (Value (inner.Struct members span)) h = absurd cc
lawful n (Value i) h = (tt, tt)

-- where both are true, each is
both : (a b : Bool) → (a && b) ≡ true → (a ≡ true) × (b ≡ true)
both true true h = (refl, refl)
both true false h = absurd cc
both false b h = absurd cc

-- what is known of an info that is lawful
lawful_info : (i : InfoFact) (f : Function) (m : Module) → is_lawful_info i f m ≡ true
    → (length i.types ≡ length f.expressions) × (length i.uses ≡ length m.global_variables)
    × All (λ r. ResolutionFits (length m.types) r × IsNoStruct r) i.types
lawful_info i f m h =
    let n = length m.types in
    let types = list_all (is_lawful_type n) i.types in
    let counts = (length i.types == length f.expressions) && (length i.uses == length m.global_variables) in
    let first = both counts types h in
    let second = both (length i.types == length f.expressions) (length i.uses == length m.global_variables) first.0 in
    let each = AllPass-from_list_all (is_lawful_type n) i.types first.1 in
    (eqb-true _ _ second.0, eqb-true _ _ second.1, λ k d lt. lawful n _ (each k d lt))

where_true : (P : FunctionInfo → Type 0) (b : Bool) (x y : FunctionInfo) → (b ≡ true → P x)
    → (if b then Ok x else Err USELESS) ≡ Ok y → P y
where_true P true x y p e = IfOk-at_ok P e (p refl)
where_true P false x y p e = absurd cc

-- an answer is of a lawful info
by_lawful : (P : FunctionInfo → Type 0) (f : Function) (m : Module) (info : FunctionInfo) (fact : Option FunctionFact)
    → ((i : InfoFact) → is_lawful_info i f m ≡ true → P (info_of i)) → recorded_info fact f m ≡ Ok info → P info
by_lawful P f m info (Some (Info i)) p e = where_true P (is_lawful_info i f m) (info_of i) info (p i) e
by_lawful P f m info (Some (FunctionRefused error)) p e = absurd cc
by_lawful P f m info None p e = absurd cc

module _ (recorded : Recorded) (f : Function) (m : Module) (infos : ModuleInfo) (info : FunctionInfo)
    (answered : recorded_info (fact_asked recorded.facts m infos) f m ≡ Ok info) where
  pub one_type_each : length info.expression_types ≡ length f.expressions
  one_type_each =
      by_lawful (λ i. length i.expression_types ≡ length f.expressions) f m info (fact_asked recorded.facts m infos)
      (λ i h. (lawful_info i f m h).0) answered

  pub one_use_each : length info.global_uses ≡ length m.global_variables
  one_use_each =
      by_lawful (λ i. length i.global_uses ≡ length m.global_variables) f m info (fact_asked recorded.facts m infos)
      (λ i h. (lawful_info i f m h).1) answered

  pub types_in_range : All (ResolutionFits (length m.types)) info.expression_types
  types_in_range =
      by_lawful (λ i. All (ResolutionFits (length m.types)) i.expression_types) f m info
      (fact_asked recorded.facts m infos) (λ i h k d lt. ((lawful_info i f m h).2 k d lt).0) answered

  pub no_struct_values : All IsNoStruct info.expression_types
  no_struct_values =
      by_lawful (λ i. All IsNoStruct i.expression_types) f m info (fact_asked recorded.facts m infos)
      (λ i h k d lt. ((lawful_info i f m h).2 k d lt).1) answered

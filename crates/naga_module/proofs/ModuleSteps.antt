-- The judgement of a module, step by step: what each step after the functions says of all parts.
use Rattle.std.proofs.Common.{◌≡◌, ◌⊎◌, inl, inr, List, [], Ok, Err, refl, sym, ap, subst}
use Rattle.ir_module.specs.declared.module.Module.{Module}
use Rattle.ir_facts.specs.declared.valid.info.ModuleInfo.{ModuleInfo}
use Rattle.ir_facts.specs.declared.valid.settings.Settings.{Settings}
use Rattle.ir_types.specs.declared.type_info.TypeInfo.{TypeInfo}
use Rattle.ir_facts.specs.Meaning.{Meaning}
use Rattle.ir_facts.specs.Fits.{FitsTypes, FitsGlobals}
use Rattle.ir_types.specs.declared.typifier.TypeResolution.{TypeResolution}
use Rattle.check_entry.specs.InterfacePoints.{HasPayloadSizes}
use Rattle.check_entry.specs.GivenInfos.{AreInfosOf}
use Rattle.check_statement.specs.ValidatorParts.{no_traces}
use Rattle.check_statement.specs.ValidatorParts.{ValidatorParts as Validator}
use Rattle.check_scope.specs.declared.trace.TraceState.{TraceState}
use Rattle.naga_module.specs.CodeModule.{Leads, EntriesStop}
use Rattle.naga_module.specs.ModuleJudgement.{ModuleAnswer, AnswersStep, IsOfFunction, globals_step, BehindFunctions, BehindTests, EntriesAnswer, FunctionsAnswer, IsJudgement, IsJudgementOrMemory, first_infos}
use Rattle.check_faults.specs.declared.module.ModuleFault.{ModuleFault}
use Rattle.check_faults.specs.declared.module.ModuleFault.TheVariants as fault

-- where no global is faulty, and the functions lead to these infos and traces
module _ (below : Meaning) (settings : Settings) (types : List TypeInfo) (m : Module) (trace : TraceState) (infos : ModuleInfo) (passed : globals_step below settings types m infos ≡ Ok tt)
    (left : TraceState) (more : ModuleInfo) (leads : Leads below settings types m trace infos m.functions left more []) where
  abbrev Parts : ModuleAnswer → Type 0
  Parts r = BehindTests below settings types m trace infos r

  -- what is answered after the functions is answered of all parts
  entries_decide : (r : ModuleAnswer) → BehindFunctions below settings types m left more r → Parts r
  unfolding FunctionsAnswer
  entries_decide r a =
      subst (λ o. AnswersStep o (IsOfFunction (λ e. e)) (λ done. FunctionsAnswer below settings types m trace infos m.functions) r) (sym passed) (leads r a)

  pub sizes_refuse : (HasPayloadSizes below m → ⊥) → Parts (Err fault.NotFit)
  sizes_refuse unknown = entries_decide (Err fault.NotFit) (inr (unknown, refl))

  pub entries_judge : HasPayloadSizes below m → (out : ModuleInfo) → EntriesAnswer below settings types m left more m.entry_points (Ok out) → Parts (Ok out)
  entries_judge sizes out a = entries_decide (Ok out) (inl (sizes, a))

  pub entries_refuse : HasPayloadSizes below m → (told : ModuleFault) → EntriesStop below settings types m left more m.entry_points told → (told ≡ fault.Memory) ⊎ Parts (Err told)
  entries_refuse sizes told (inl memory) = inl memory
  entries_refuse sizes told (inr a) = inr (entries_decide (Err told) (inl (sizes, a)))

-- of a validator that begins with these parts, where the three first tests hold, no global is faulty and the functions lead on
module _ {B : Type 0} (meaning : B → Meaning) (m : Module) (below : B) (settings : Settings) (types : List TypeInfo) (global_types : List TypeResolution)
    (v : Validator B) (begins : v ≡ record { below = below; settings = settings; types = types; trace = no_traces })
    (infos : ModuleInfo) (first : infos ≡ first_infos global_types) (fitting : AreInfosOf m v.types × FitsTypes m × FitsGlobals m infos)
    (passed : globals_step (meaning v.below) v.settings v.types m infos ≡ Ok tt)
    (w : Validator B) (kept : w ≡ record v { trace = w.trace }) (more : ModuleInfo)
    (leads : Leads (meaning v.below) v.settings v.types m v.trace infos m.functions w.trace more []) where
  abbrev Judged : ModuleAnswer → Type 0
  Judged r = IsJudgement (meaning below) settings types m global_types r

  -- what is answered of all parts is the judgement of the module
  all_parts : (r : ModuleAnswer) → BehindTests (meaning v.below) v.settings v.types m v.trace infos r → Judged r
  all_parts r a =
      let fits = rw (begins, first) at fitting in
      let behind = rw (begins, first) at a in
      inl (record { infos = fits.0; types_fit = fits.1; globals = fits.2 }, behind)

  known_still : HasPayloadSizes (meaning w.below) m → HasPayloadSizes (meaning v.below) m
  known_still known = subst (λ (x : Validator B). HasPayloadSizes (meaning x.below) m) kept known

  known_there : HasPayloadSizes (meaning v.below) m → HasPayloadSizes (meaning w.below) m
  known_there known = subst (λ (x : Validator B). HasPayloadSizes (meaning x.below) m) (sym kept) known

  pub sizes_unknown : (HasPayloadSizes (meaning w.below) m → ⊥) → Judged (Err fault.NotFit)
  sizes_unknown unknown =
      all_parts (Err fault.NotFit) (sizes_refuse (meaning v.below) v.settings v.types m v.trace infos passed w.trace more leads (λ known. unknown (known_there known)))

  pub module_judged : HasPayloadSizes (meaning w.below) m → (out : ModuleInfo) → EntriesAnswer (meaning w.below) w.settings w.types m w.trace more m.entry_points (Ok out) → Judged (Ok out)
  module_judged sizes out a =
      let here = subst (λ (x : Validator B). EntriesAnswer (meaning x.below) x.settings x.types m w.trace more m.entry_points (Ok out)) kept a in
      all_parts (Ok out) (entries_judge (meaning v.below) v.settings v.types m v.trace infos passed w.trace more leads (known_still sizes) out here)

  stopped : (told : ModuleFault) → (told ≡ fault.Memory) ⊎ BehindTests (meaning v.below) v.settings v.types m v.trace infos (Err told) → IsJudgementOrMemory (meaning below) settings types m global_types (Err told)
  stopped told (inl memory) = inl (ap Err memory)
  stopped told (inr a) = inr (all_parts (Err told) a)

  pub entry_points_stop : HasPayloadSizes (meaning w.below) m → (told : ModuleFault) → EntriesStop (meaning w.below) w.settings w.types m w.trace more m.entry_points told → IsJudgementOrMemory (meaning below) settings types m global_types (Err told)
  entry_points_stop sizes told a =
      let here = subst (λ (x : Validator B). EntriesStop (meaning x.below) x.settings x.types m w.trace more m.entry_points told) kept a in
      stopped told (entries_refuse (meaning v.below) v.settings v.types m v.trace infos passed w.trace more leads (known_still sizes) told here)

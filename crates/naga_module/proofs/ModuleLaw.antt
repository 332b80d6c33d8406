-- What holds of an accepted module, from the judgements of its functions and entry points.
use Rattle.std.proofs.Common.{◌≡◌, ◌<◌, ℕ, zero, suc, true, List, [], ◌∷◌, Some, length, slice_get, refl, arith}
use Rattle.std.proofs.lemmas.Option.{slice_get_within}
use Rattle.std.specs.Prelude.{take}
use Rattle.ir_module.specs.declared.functions.Function.{Function}
use Rattle.ir_module.specs.declared.module.EntryPoint.{EntryPoint}
use Rattle.ir_module.specs.declared.module.Module.{Module}
use Rattle.ir_facts.specs.declared.valid.info.FunctionInfo.{FunctionInfo}
use Rattle.ir_facts.specs.declared.valid.info.ModuleInfo.{ModuleInfo}
use Rattle.ir_facts.specs.declared.valid.settings.Settings.{Settings}
use Rattle.ir_types.specs.declared.type_info.TypeInfo.{TypeInfo}
use Rattle.ir_facts.specs.Meaning.{Meaning}
use Rattle.ir_facts.specs.WhatIsChecked.{checks_blocks, checks_expressions, checks_bindings}
use Rattle.check_laws.proofs.Chains.{of_all_infos, of_other_entries, fits_calls_below}
use Rattle.check_laws.proofs.FunctionLaw.{is_sound, fills_once, is_of_all_stages, has_no_return_in_continuing, has_whole_switches}
use Rattle.check_laws.specs.Chains.{infos_below, IsVettedInfo}
use Rattle.check_scope.specs.BodyTrees.{body_of}
use Rattle.check_laws.proofs.EntryBodies.{entry_fills_once, entry_is_of_all_stages, entry_has_no_return_in_continuing, entry_has_whole_switches}
use Rattle.check_laws.proofs.EntryChains.{entry_is_sound, entry_keeps_its_stage}
use Rattle.check_laws.proofs.EntryFacts.{accepted_bindings}
use Rattle.check_laws.proofs.EntryGroups.{accepted_locations}
use Rattle.naga_module.specs.ModuleInfos.{infos_before, IsJudgedEntry, ModuleIsJudged}
use Rattle.naga_module.specs.ModuleLaw.{ModuleHolds, ModuleFillsOnce, ModuleBindsApart, AcceptedModuleHolds, AcceptedModuleFillsOnce, AcceptedModuleBindsApart}
use Rattle.naga_module.proofs.ModuleInfos.{module_is_judged}

-- an item at a place below the length of a list
item_of : {A : Type 0} (xs : List A) (k : ℕ) → k < length xs → (x : A) × (slice_get xs k ≡ Some x)
item_of [] k h = absurd (omega arith)
item_of (x ∷ xs) zero h = (x, refl)
item_of (x ∷ xs) (suc k) h = item_of xs k (omega arith)

module _ (below : Meaning) (settings : Settings) (types : List TypeInfo) (m : Module) (out : ModuleInfo) (all : ModuleIsJudged below settings types m out) where
  -- the info of a function, and of an entry point
  function_info : (k : ℕ) (f : Function) → slice_get m.functions k ≡ Some f → (info : FunctionInfo) × (slice_get out.functions k ≡ Some info)
  function_info k f is =
      let within = slice_get_within m.functions k f is in
      let many = all.function_infos in
      item_of out.functions k (omega arith)

  entry_info : (k : ℕ) (p : EntryPoint) → slice_get m.entry_points k ≡ Some p → (info : FunctionInfo) × (slice_get out.entry_points k ≡ Some info)
  entry_info k p is =
      let within = slice_get_within m.entry_points k p is in
      let many = all.entry_infos in
      item_of out.entry_points k (omega arith)

  -- so each is judged
  abbrev Judged : ℕ → Function → Type 0
  Judged k f = (info : FunctionInfo) × IsVettedInfo below settings types m out k f info

  function_judged : (k : ℕ) (f : Function) → slice_get m.functions k ≡ Some f → Judged k f
  function_judged k f is = let i = function_info k f is in (i.0, all.functions k f i.0 is i.1)

  abbrev EntryJudged : ℕ → EntryPoint → Type 0
  EntryJudged k p = (info : FunctionInfo) × IsJudgedEntry below settings types m out k p info

  entry_judged : (k : ℕ) (p : EntryPoint) → slice_get m.entry_points k ≡ Some p → EntryJudged k p
  entry_judged k p is = let i = entry_info k p is in (i.0, all.entry_points k p i.0 is i.1)

  holds : checks_blocks settings.flags ≡ true → ModuleHolds below settings types m out
  holds on =
      record {
        functions = λ k f is. let v = (function_judged k f is).1 in is_sound below settings types v.trace m (infos_below k out) f _ _ v.judged on;
        entry_points = λ k p is. let j = (entry_judged k p is).1 in entry_is_sound below settings types j.trace m (infos_before k out) p _ j.judged on;
        stages = λ k p is.
            let j = (entry_judged k p is).1 in
            entry_keeps_its_stage below settings types j.trace m (infos_before k out) p _ j.judged on (all.vetted_before k) (fits_calls_below p.function m (length out.functions) j.function_fits);
        returns = λ k f is.
            let v = (function_judged k f is).1 in has_no_return_in_continuing below settings types v.trace m (infos_below k out) f _ _ v.judged on;
        entry_returns = λ k p is.
            let j = (entry_judged k p is).1 in entry_has_no_return_in_continuing below settings types j.trace m (infos_before k out) p _ j.judged on;
        switches = λ k f info is known.
            let v = all.functions k f info is known in has_whole_switches below settings types v.trace m (infos_below k out) f _ _ v.judged on;
        entry_switches = λ k p info is known.
            let j = all.entry_points k p info is known in entry_has_whole_switches below settings types j.trace m (infos_before k out) p _ j.judged on;
        function_stages = λ k f info is known.
            let v = all.functions k f info is known in
            of_all_infos settings.subgroup_stages out k (body_of f) info.available_stages v.calls (is_of_all_stages below settings types v.trace m (infos_below k out) f _ _ v.judged on);
        entry_stages = λ k p info is known.
            let j = all.entry_points k p info is known in
            of_other_entries settings.subgroup_stages out (take k out.entry_points) (body_of p.function) info.available_stages (entry_is_of_all_stages below settings types j.trace m (infos_before k out) p _ j.judged on);
      }

  filled : checks_blocks settings.flags ≡ true → checks_expressions settings.flags ≡ true → ModuleFillsOnce m
  filled on looked =
      record {
        functions = λ k f is. let v = (function_judged k f is).1 in fills_once below settings types v.trace m (infos_below k out) f _ _ v.judged on looked;
        entry_points = λ k p is.
            let j = (entry_judged k p is).1 in entry_fills_once below settings types j.trace m (infos_before k out) p _ j.judged on looked;
      }

  apart : checks_bindings settings.flags ≡ true → ModuleBindsApart settings types m out
  apart on =
      record {
        bindings = λ k p info is known.
            let j = all.entry_points k p info is known in accepted_bindings below settings types j.trace m (infos_before k out) p _ j.judged on;
        locations = λ k p is.
            let j = (entry_judged k p is).1 in accepted_locations below settings types j.trace m (infos_before k out) p _ j.judged on;
      }

pub module_holds : AcceptedModuleHolds
module_holds below settings types global_types m out a on =
    holds below settings types m out (module_is_judged below settings types global_types m out a) on

pub module_fills_once : AcceptedModuleFillsOnce
module_fills_once below settings types global_types m out a on looked =
    filled below settings types m out (module_is_judged below settings types global_types m out a) on looked

pub module_binds_apart : AcceptedModuleBindsApart
module_binds_apart below settings types global_types m out a on =
    apart below settings types m out (module_is_judged below settings types global_types m out a) on

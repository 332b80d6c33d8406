use Rattle.std.proofs.Common.{rules, ◌<◌, length, not, refl, sym, ap, ◌∙◌}
use Rattle.std.proofs.lemmas.Option.{slice_get_within}
use Rattle.ir_statements.specs.declared.operations.SwitchValue.TheVariants.{Default}
use Rattle.check_flow.proofs.ValueSets.{known, others_more, placed_more, was_free}
use Rattle.check_flow.proofs.value_set.ValueSet.insert.Goals as goal

pub index_mut-requires : goal.index_mut-requires
index_mut-requires c =
    let there : c.in-Free.place < length c.args.self.now.places.items =
    slice_get_within c.args.self.now.places.items c.in-Free.place Default (was_free c.args.self.now c.args.value c.in-Free.place (sym c.find.ensures ∙ c.in-Free.is)) in
    search (rules, there)

pub returns-in-Here-clause-new : goal.returns-in-Here-clause-new
returns-in-Here-clause-new c earlier has =
    sym (ap not (known c.args.self.now earlier has c.args.value (sym c.find.ensures ∙ c.in-Here.is)))

pub returns-in-Free-clause-kept : goal.returns-in-Free-clause-kept
returns-in-Free-clause-kept c earlier has is_new =
    placed_more c.args.self.now earlier has c.args.value _ c.in-Free.place (sym c.find.ensures ∙ c.in-Free.is) (search rules) refl refl refl

pub returns-in_ok-insert-in-Nowhere-clause-kept : goal.returns-in_ok-insert-in-Nowhere-clause-kept
returns-in_ok-insert-in-Nowhere-clause-kept c earlier has is_new =
    others_more c.args.self.now earlier has c.args.value _ (sym c.find.ensures ∙ c.in-Nowhere.is) refl refl refl c.in_ok-insert-in-Nowhere.ensures.updates.0

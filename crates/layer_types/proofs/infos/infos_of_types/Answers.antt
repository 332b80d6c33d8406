use Rattle.std.proofs.Common.{◌≡◌, length, sym, ◌∙◌, rules}
use Rattle.std.proofs.lemmas.List.{length-append}
use Rattle.layer_types.specs.ComputedInfos.{info_of}
use Rattle.layer_types.proofs.InfosFrom.{next_info}
use Rattle.layer_types.proofs.infos.infos_of_types.Goals as goal

pub loop-index-preserved : goal.loop-index-preserved
loop-index-preserved c =
    let types = c.args.types.now in
    let infos = c.loop-index.infos in
    let inner = c.index.result.now.inner in
    let at = rw c.new-handle.ensures at c.index.ensures in
    let lt = rw c.len-count.ensures.len at c.loop-index-test.true in
    let own : c.info_of-info.result ≡ info_of types infos (length infos) inner = c.info_of-info.ensures ∙ (λ j. info_of (c.as_slice-all.ensures.values j) (c.as_slice.ensures j) ((c.new-handle.ensures ∙ sym c.loop-index.invariant.place) j) inner) in
    let found = next_info types infos types c.loop-index.index c.index.result.now lt at in
    let pushed = c.in_ok-push.ensures.pushed in
    record {
      place = search (rules, c.loop-index.invariant.place, pushed, length-append);
      rest = rw pushed (rw own (sym found ∙ c.loop-index.invariant.rest));
    }

use Rattle.std.proofs.Common.{◌≡◌, drop, length, []}
use Rattle.json_document.specs.Document.Modules.{types_behind}
use Rattle.json_document.proofs.module.UniqueArenaTypeFromJsonDocuments.from_json.Given as goal

abbrev pub invariant-loop-index : goal.invariant-loop-index
invariant-loop-index l = record {
  at : length l.arena ≡ l.index;
  rest : types_behind l.arena (drop l.index l.ty-items) ≡ types_behind [] l.ty-items;
}

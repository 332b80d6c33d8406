use Rattle.std.proofs.Common.{sym, ◌∙◌}
use Rattle.json_document.proofs.document.read_parts.Goals as goal

pub returns : goal.returns
returns c = rw (sym c.has_field.ensures ∙ c.if-has_field.false) c.six.ensures

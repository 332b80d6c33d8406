-- What the reading of variants answers.
use Rattle.std.specs.Prelude.{◌≡◌, Option, Some, None, Result, Ok, Err}
use Rattle.json_nodes.specs.Nodes.{data_of}
use Rattle.json_values.specs.declared.error.ReadError.{ReadError}
use Rattle.json_values.specs.declared.variant.VariantForm as tagged
use Rattle.json_values.specs.declared.variant.VariantForm.TheVariants as tag
use Rattle.json_values.specs.declared.variant.Variant as variant
use Rattle.json_values.specs.declared.variant.Variant.TheVariants as v
use Rattle.json_values.specs.Failures.{IsUnreadable}
use Rattle.json_values.specs.Form as form
use Rattle.json_values.specs.Variants.{Variant, plain, holding}

abbrev pub tag_of : tagged.VariantForm → form.WrittenVariant
tag_of (tag.Plain name) = form.plain name.now
tag_of (tag.Holding name node) = form.holding name.now (data_of node)

abbrev pub variant_seen : {P H : Type 0} → variant.Variant P H → Variant P H
variant_seen (v.Plain p) = plain p
variant_seen (v.Holding h name node) = holding h (data_of node)

abbrev pub ReadsVariant : {P H : Type 0} → Option (Variant P H) → Result (variant.Variant P H) ReadError → Type 0
ReadsVariant o (Ok found) = o ≡ Some (variant_seen found)
ReadsVariant o (Err e) = IsUnreadable e → o ≡ None

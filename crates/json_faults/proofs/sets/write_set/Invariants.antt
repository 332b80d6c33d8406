use Rattle.std.proofs.Common.{◌≡◌, ◌++◌, drop}
use Rattle.json.specs.Tree.{items_tokens}
use Rattle.json_faults.proofs.Lists.{rows_of}
use Rattle.json_faults.specs.SetJson.{names_in}
use Rattle.json_faults.proofs.sets.write_set.Given as goal

abbrev pub invariant-loop-flag : goal.invariant-loop-flag
invariant-loop-flag g l =
    g.B.Flags.exact → l.out ++ items_tokens (names_in l.joined (g.B.Flags.set_of l.set) (rows_of g.B.Flags.set_of (drop l.flag-index l.flag-items)))
    ≡ l.initial.out ++ items_tokens (names_in l.joined (g.B.Flags.set_of l.set) (rows_of g.B.Flags.set_of l.flag-items))

use Rattle.std.proofs.Common.{◌≡◌, ℕ, take}
use Rattle.check_varyings.specs.CodeVaryings.{far_less}
use Rattle.check_varyings.specs.Varyings.{far_in}
use Rattle.check_varyings.proofs.varying.VaryingState.go_back.Given as goal

abbrev pub invariant-loop-location : goal.invariant-loop-location
invariant-loop-location l = record {
  near : l.self.near ≡ l.fn.near;
  far : (n : ℕ) → far_in l.self n ≡ far_less (far_in l.initial.self) (take l.location-index l.added) n;
}

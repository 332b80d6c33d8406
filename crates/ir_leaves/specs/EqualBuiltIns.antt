-- `==` of built-ins finds only the same ones equal: lemmas, by a list of the variants' laws and not by pairs of
-- variants, of which there are too many.
use Rattle.std.proofs.Common.{rules, ◌≡◌, Bool, true, false, refl, ap, List, [], ◌∷◌}
use mathlib.Core.Logic.{inl, inr}
use denote.Struct.Field.{Field}
use denote.Struct.Values.{Values}
use denote.Enum.Declared.{Choice, values_one}
use denote.Enum.Compared.{Each, by}
use Rattle.ir_leaves.specs.declared.built_in.BuiltIn.{BuiltIn}
use Rattle.ir_leaves.specs.contracts.built_in.BuiltIn as built_in_type
use Rattle.ir_leaves.specs.contracts.built_in.BuiltInPartialEq.TheImpl as built_in

-- each variant's test finds only the same fields equal
abbrev pub EachSame : (Fss : List (List Field)) → Each Bool Fss → Type 0
EachSame [] each = Unit {0}
EachSame (Fs ∷ Fss) each = ((x y : Values Fs) → each.0 x y ≡ true → x ≡ y) × EachSame Fss each.1

pub by_same : (Fss : List (List Field)) (each : Each Bool Fss) → EachSame Fss each →
    (c d : Choice Fss) → by false false Fss each c d ≡ true → c ≡ d
by_same [] each all c d h = absurd c
by_same (Fs ∷ Fss) each all (inl x) (inl y) h = ap inl (all.0 x y h)
by_same (Fs ∷ Fss) each all (inl x) (inr y) h = cc
by_same (Fs ∷ Fss) each all (inr x) (inl y) h = cc
by_same (Fs ∷ Fss) each all (inr x) (inr y) h = ap inr (by_same Fss each.1 all.1 x y h)

unit_same : (x y : Unit {0}) → true ≡ true → x ≡ y
unit_same x y h = refl

pub built_in_same : (x y : BuiltIn) → (built_in.ghosts).eq x y ≡ true → x ≡ y
built_in_same x y h =
    values_one built_in_type.enum x y
    (by_same (built_in_type.enum).parts _ (
      unit_same,
      (
        unit_same,
        (
          unit_same,
          (
            unit_same,
            (
              unit_same,
              (
                unit_same,
                (
                  unit_same,
                  (
                    unit_same,
                    (
                      unit_same,
                      (
                        (λ p q h. search rules),
                        (
                          unit_same,
                          (
                            unit_same,
                            (
                              unit_same,
                              (
                                unit_same,
                                (
                                  (λ p q h. search rules),
                                  (
                                    unit_same,
                                    (
                                      unit_same,
                                      (
                                        unit_same,
                                        (
                                          unit_same,
                                          (
                                            unit_same,
                                            (
                                              unit_same,
                                              (
                                                unit_same,
                                                (
                                                  unit_same,
                                                  (
                                                    unit_same,
                                                    (
                                                      unit_same,
                                                      (
                                                        unit_same,
                                                        (
                                                          unit_same,
                                                          (
                                                            unit_same,
                                                            (
                                                              unit_same,
                                                              (
                                                                unit_same,
                                                                (
                                                                  unit_same,
                                                                  (
                                                                    unit_same,
                                                                    (
                                                                      unit_same,
                                                                      (
                                                                        unit_same,
                                                                        (
                                                                          unit_same,
                                                                          (
                                                                            unit_same,
                                                                            (
                                                                              unit_same,
                                                                              (
                                                                                unit_same,
                                                                                (
                                                                                  unit_same,
                                                                                  (
                                                                                    unit_same,
                                                                                    (
                                                                                      unit_same,
                                                                                      (
                                                                                        unit_same,
                                                                                        (
                                                                                          unit_same,
                                                                                          (
                                                                                            unit_same,
                                                                                            (
                                                                                              unit_same,
                                                                                              (
                                                                                                unit_same,
                                                                                                (
                                                                                                  unit_same,
                                                                                                  (unit_same, (unit_same, tt)),
                                                                                                ),
                                                                                              ),
                                                                                            ),
                                                                                          ),
                                                                                        ),
                                                                                      ),
                                                                                    ),
                                                                                  ),
                                                                                ),
                                                                              ),
                                                                            ),
                                                                          ),
                                                                        ),
                                                                      ),
                                                                    ),
                                                                  ),
                                                                ),
                                                              ),
                                                            ),
                                                          ),
                                                        ),
                                                      ),
                                                    ),
                                                  ),
                                                ),
                                              ),
                                            ),
                                          ),
                                        ),
                                      ),
                                    ),
                                  ),
                                ),
                              ),
                            ),
                          ),
                        ),
                      ),
                    ),
                  ),
                ),
              ),
            ),
          ),
        ),
      ),
    )
    ((built_in_type.enum).as_values x) ((built_in_type.enum).as_values y) h)

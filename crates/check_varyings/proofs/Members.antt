-- The members of a struct, one by one.
use Rattle.std.proofs.Common.{◌≡◌, ℕ, suc, ◌+◌, ◌<◌, ◌≤◌, List, [], ◌∷◌, ◌++◌, Option, None, Result, Ok, Err, length, take, drop, get_or, sym, ap, ◌∙◌, arith}
use Rattle.std.specs.Prelude.{IsErr}
use Rattle.std.specs.Option.{option_or}
use Rattle.std.proofs.lemmas.List.{append-nil, at_drop_more, length-take-le, take_more}
use Rattle.ir_arena.proofs.Points.{first_of_both}
use Rattle.ir_arena.specs.Points.{Point, first_fault}
use Rattle.ir_types.specs.declared.types.StructMember.{StructMember}
use Rattle.ir_types.specs.declared.types.Type.{«Type» as IrType}
use Rattle.ir_arena.specs.declared.span.Refusal.{Refusal}
use Rattle.ir_arena.specs.declared.span.Refusal.TheVariants.{Fault, Memory}
use Rattle.ir_types.specs.declared.type_info.TypeInfo.{TypeInfo}
use Rattle.check_varyings.specs.Seen.{Seen}
use Rattle.check_varyings.specs.VaryingFaults.{VaryingFault, varying_fault_of}
use Rattle.check_varyings.specs.Varyings.{VaryingPart, member_part, member_parts, part_points, points_behind, seen_with}
use Rattle.ir_errors.specs.declared.interface.VaryingError.{VaryingError}
use Rattle.check_varyings.specs.declared.varying.VaryingPlace.{VaryingPlace}
use Rattle.check_varyings.proofs.Kept.{seen_with-append, seen_with_none}
use Rattle.ir_facts.specs.Answers.{Answers, FirstOf, read_by}

member_parts-push : (k : ℕ) (xs : List StructMember) (m : StructMember) →
    member_parts k (xs ++ m ∷ []) ≡ member_parts k xs ++ member_part (k + length xs) m.ty m.binding ∷ []
member_parts-push k [] m =
    let e : k ≡ k + 0 = omega arith in ap (λ j. member_part j m.ty m.binding ∷ []) e
member_parts-push k (x ∷ xs) m =
    let e : suc k + length xs ≡ k + suc (length xs) = omega arith in
    ap (λ l. member_part k x.ty x.binding ∷ l) (member_parts-push (suc k) xs m ∙ ap (λ j. member_parts (suc k) xs ++ member_part j m.ty m.binding ∷ []) e)

-- one member more
module _ (ms : List StructMember) (i : ℕ) (m : StructMember) (lt : i < length ms) (is : m ≡ get_or ms i m) where
  pub one_more : member_parts 0 (take (i + 1) ms) ≡ member_parts 0 (take i ms) ++ member_part i m.ty m.binding ∷ []
  one_more =
      let le : i ≤ length ms = omega arith in
      let e : 0 + length (take i ms) ≡ i = omega (arith, length-take-le i ms le) in
      ap (member_parts 0) (take_more ms i m lt)
      ∙ ap (λ z. member_parts 0 (take i ms ++ z ∷ [])) (sym is)
      ∙ member_parts-push 0 (take i ms) m
      ∙ ap (λ j. member_parts 0 (take i ms) ++ member_part j m.ty m.binding ∷ []) e

  module _ (place : VaryingPlace) (types : List IrType) (infos : List TypeInfo) (s : Seen) where
    abbrev pub rest : Option VaryingFault
    rest = first_fault (points_behind place types infos s (member_parts 0 (take i ms)) (member_parts i (drop i ms)))

    abbrev pub next : Option VaryingFault
    next = first_fault (points_behind place types infos s (member_parts 0 (take (i + 1) ms)) (member_parts (i + 1) (drop (i + 1) ms)))

    pub rest_turns : (now : Seen) → now ≡ seen_with s (member_parts 0 (take i ms)) →
        rest ≡ option_or (first_fault (part_points place types infos now (member_part i m.ty m.binding))) next
    rest_turns now e =
        let done = member_parts 0 (take i ms) in
        let part = member_part i m.ty m.binding in
        let suc_is : suc i ≡ i + 1 = omega arith in
        at_drop_more (λ l. first_fault (points_behind place types infos s done (member_parts i l))) ms i m lt
        ∙ ap (λ z. first_fault (points_behind place types infos s done (member_parts i (z ∷ drop (i + 1) ms)))) (sym is)
        ∙ first_of_both (part_points place types infos (seen_with s done) part) (points_behind place types infos s (done ++ part ∷ []) (member_parts (suc i) (drop (i + 1) ms)))
        ∙ ap (λ z. option_or (first_fault (part_points place types infos z part)) (first_fault (points_behind place types infos s (done ++ part ∷ []) (member_parts (suc i) (drop (i + 1) ms))))) (sym e)
        ∙ ap (λ z. option_or (first_fault (part_points place types infos now part)) (first_fault (points_behind place types infos s z (member_parts (suc i) (drop (i + 1) ms))))) (sym one_more)
        ∙ ap (λ j. option_or (first_fault (part_points place types infos now part)) (first_fault (points_behind place types infos s (member_parts 0 (take (i + 1) ms)) (member_parts j (drop (i + 1) ms))))) suc_is

  pub seen_turns : (s now then : Seen) → now ≡ seen_with s (member_parts 0 (take i ms)) → then ≡ seen_with now (member_part i m.ty m.binding ∷ []) →
      then ≡ seen_with s (member_parts 0 (take (i + 1) ms))
  seen_turns s now then e f =
      f ∙ ap (λ z. seen_with z (member_part i m.ty m.binding ∷ [])) e
      ∙ seen_with-append s (member_parts 0 (take i ms)) (member_part i m.ty m.binding ∷ [])
      ∙ ap (seen_with s) (sym one_more)

-- where the first points have this answer, and the whole is these and others
pub refused_at : {T : Type 0} (r : Result T (Refusal VaryingError)) (ps whole : List (Point VaryingFault)) (o : Option VaryingFault) → IsErr r →
    first_fault whole ≡ option_or (first_fault ps) o → Answers (FirstOf ps) (read_by varying_fault_of r) → Answers (FirstOf whole) (read_by varying_fault_of r)
refused_at (Ok t) ps whole o err e h = cc
refused_at (Err (Fault x)) ps whole o err e h = e ∙ ap (λ z. option_or z o) h
refused_at (Err Memory) ps whole o err e h = tt

pub passed_at : (ps : List (Point VaryingFault)) (whole o : Option VaryingFault) → whole ≡ option_or (first_fault ps) o → first_fault ps ≡ None → o ≡ whole
passed_at ps whole o e h = sym (e ∙ ap (λ z. option_or z o) h)

-- of one part alone
pub one_part : (place : VaryingPlace) (types : List IrType) (infos : List TypeInfo) (s : Seen) (p : VaryingPart) →
    points_behind place types infos s [] (p ∷ []) ≡ part_points place types infos s p
one_part place types infos s p = append-nil (part_points place types infos (seen_with s []) p) ∙ ap (λ z. part_points place types infos z p) (seen_with_none s)

-- The members of an object in a text, where a name may come twice, beside those of its data, where the last value of a name stays.
use Rattle.std.proofs.Common.{◌≡◌, ℕ, List, Bool, true, false, ◌&&◌, cond, Option, Some, None, option_map, option_and_then, Ordering, Less, Equal, Greater, nat_cmp, is_eq, bytes_eq, true≢false, refl, sym, ap, ◌∙◌, subst}
use Rattle.std.proofs.lemmas.Cmp.{nat_list_cmp_total, tied_itself}
use Rattle.std.proofs.lemmas.Map.Text.{is_eq-slice_cmp}
use Rattle.std.proofs.lemmas.Option.{option_and_then_some, same_Some}
use Rattle.std.proofs.lemmas.Slice.Eq.{bytes_eq-Decides}
use Rattle.std.specs.Cmp.Lexicographic.{slice_cmp}
use Rattle.std.specs.Ordering.{match_ordering}
use Rattle.std.specs.Prelude.{⊤}
use Rattle.json.specs.Json as json
use Rattle.json.specs.Find as find
use Rattle.serde_json.specs.Data.{Data, Members, no_members, member, put}
use Rattle.serde_json.specs.Find.{get_member}
use Rattle.serde_json.specs.Read.{of_json, of_members}
use Rattle.serde_json.proofs.Views.{get_member-put, get_member-put_other}
use Rattle.json_nodes.specs.Fields.{only_of, is_among, names_among}

-- the value of the first member has data, which goes in before what follows
pub member_parts : (k : List ℕ) (j : json.Json) (ms : json.Members) (found ds : Members) → of_members (json.member k j ms) found ≡ Some ds
    → (d : Data) × (of_json j ≡ Some d) × (of_members ms (put k d found) ≡ Some ds)
member_parts k j ms found ds e = option_and_then_some (λ d. of_members ms (put k d found)) (of_json j) ds e (λ d is more. (d, is, more))

same_bytes : (k l : List ℕ) → bytes_eq k l ≡ true → k ≡ l
same_bytes k l e = (bytes_eq-Decides k l).0 e

other_bytes : (k l : List ℕ) → bytes_eq k l ≡ false → k ≡ l → ⊥
other_bytes k l e same = true≢false (sym ((bytes_eq-Decides k l).1 same) ∙ e)

tied : (k l : List ℕ) → slice_cmp nat_cmp k l ≡ Equal → k ≡ l
tied k l e = same_bytes k l (sym (is_eq-slice_cmp k l) ∙ ap is_eq e)

-- ---- the value of a name

-- old is the value before the members come, o is their last value in the text, and new is the value after them
abbrev Leaves : Option json.Json → Option Data → Option Data → Type 0
Leaves None old new = new ≡ old
Leaves (Some j) old new = (d : Data) × (of_json j ≡ Some d) × (new ≡ Some d)

module _ (k l : List ℕ) (j : json.Json) (d : Data) (found : Members) (new : Option Data) (is : of_json j ≡ Some d) where
  comes : (b : Bool) → bytes_eq l k ≡ b → new ≡ get_member k (put l d found) → Leaves (cond b (Some j) None) (get_member k found) new
  comes true e h = (d, is, h ∙ ap (λ q. get_member q (put l d found)) (sym (same_bytes l k e)) ∙ get_member-put l d found)
  comes false e h = h ∙ get_member-put_other k l d found (λ same. other_bytes l k e (sym same))

  comes_first : (o : Option json.Json) → Leaves o (get_member k (put l d found)) new → Leaves (find.later_or o (cond (bytes_eq l k) (Some j) None)) (get_member k found) new
  comes_first None h = comes (bytes_eq l k) refl h
  comes_first (Some i) h = h

leaves : (k : List ℕ) (ms : json.Members) (found ds : Members) → of_members ms found ≡ Some ds → Leaves (find.get_member k ms) (get_member k found) (get_member k ds)
leaves k json.no_members found ds e = ap (get_member k) (sym (same_Some found ds e))
leaves k (json.member l j ms) found ds e =
    let parts = member_parts l j ms found ds e in
    comes_first k l j parts.0 found (get_member k ds) parts.1 (find.get_member k ms) (leaves k ms (put l parts.0 found) ds parts.2)

of_last : (o : Option json.Json) (new : Option Data) → Leaves o None new → new ≡ option_and_then of_json o
of_last None new h = h
of_last (Some j) new h = h.2 ∙ sym h.1

-- a name has the data of its last value
pub get_kept : (k : List ℕ) (ms : json.Members) (ds : Members) → of_members ms no_members ≡ Some ds → get_member k ds ≡ option_and_then of_json (find.get_member k ms)
get_kept k ms ds e = of_last (find.get_member k ms) (get_member k ds) (leaves k ms no_members ds e)

-- the last value of a name has data
pub some_kept : (k : List ℕ) (ms : json.Members) (ds : Members) (j : json.Json) → of_members ms no_members ≡ Some ds → find.get_member k ms ≡ Some j → (d : Data) × (of_json j ≡ Some d)
some_kept k ms ds j e here =
    let last = subst (λ o. Leaves o None (get_member k ds)) here (leaves k ms no_members ds e) in
    (last.0, last.1)

-- ---- names among others

-- whether the name of each member of a text is one of these
abbrev pub json_names_among : List (List ℕ) → json.Members → Bool
json_names_among names json.no_members = true
json_names_among names (json.member k j ms) = is_among k names && json_names_among names ms

twice : (a b : Bool) → (a && b) ≡ (a && (a && b))
twice true b = refl
twice false b = refl

swapped : (a b c : Bool) → (a && (b && c)) ≡ (b && (a && c))
swapped true b c = refl
swapped false true c = refl
swapped false false c = refl

put_among_at : (names : List (List ℕ)) (o : Ordering) (k l : List ℕ) (d e : Data) (ms : Members) → slice_cmp nat_cmp k l ≡ o
    → names_among names (put k d ms) ≡ (is_among k names && names_among names ms)
    → names_among names (match_ordering o (member k d (member l e ms)) (member l d ms) (member l e (put k d ms))) ≡ (is_among k names && names_among names (member l e ms))
put_among_at names Less k l d e ms is later = refl
put_among_at names Equal k l d e ms is later =
    twice (is_among l names) (names_among names ms) ∙ ap (λ q. is_among q names && names_among names (member l e ms)) (sym (tied k l is))
put_among_at names Greater k l d e ms is later =
    ap (λ b. is_among l names && b) later ∙ swapped (is_among l names) (is_among k names) (names_among names ms)

put_among : (names : List (List ℕ)) (k : List ℕ) (d : Data) (ms : Members) → names_among names (put k d ms) ≡ (is_among k names && names_among names ms)
put_among names k d no_members = refl
put_among names k d (member l e ms) = put_among_at names (slice_cmp nat_cmp k l) k l d e ms refl (put_among names k d ms)

regrouped : (a b c : Bool) → (a && (b && c)) ≡ ((b && a) && c)
regrouped true true c = refl
regrouped true false c = refl
regrouped false true c = refl
regrouped false false c = refl

names_found : (names : List (List ℕ)) (ms : json.Members) (found ds : Members) → of_members ms found ≡ Some ds → names_among names ds ≡ (json_names_among names ms && names_among names found)
names_found names json.no_members found ds e = ap (names_among names) (sym (same_Some found ds e))
names_found names (json.member k j ms) found ds e =
    let parts = member_parts k j ms found ds e in
    names_found names ms (put k parts.0 found) ds parts.2
    ∙ ap (λ b. json_names_among names ms && b) (put_among names k parts.0 found)
    ∙ regrouped (json_names_among names ms) (is_among k names) (names_among names found)

alone_true : (b : Bool) → (b && true) ≡ b
alone_true true = refl
alone_true false = refl

-- the names of the text are those of the data
pub names_kept : (names : List (List ℕ)) (ms : json.Members) (ds : Members) → of_members ms no_members ≡ Some ds → names_among names ds ≡ json_names_among names ms
names_kept names ms ds e = names_found names ms no_members ds e ∙ alone_true (json_names_among names ms)

-- ---- the only name

-- the name k with the data of its last value, where j is its value so far and no other name follows
abbrev pub only_from : List ℕ → json.Json → json.Members → Option (List ℕ × Data)
only_from k j json.no_members = option_map (λ d. (k, d)) (of_json j)
only_from k j (json.member l i ms) = cond (bytes_eq l k) (only_from k i ms) None

-- the only name of a text's object, with the data of its last value
abbrev pub json_only : json.Members → Option (List ℕ × Data)
json_only json.no_members = None
json_only (json.member k j ms) = only_from k j ms

-- two members or more
abbrev AreMany : Members → Type 0
AreMany no_members = ⊥
AreMany (member k d no_members) = ⊥
AreMany (member k d (member l e ms)) = ⊤

none_of_many : (ms : Members) → AreMany ms → only_of ms ≡ None
none_of_many no_members h = refl
none_of_many (member k d no_members) h = absurd h
none_of_many (member k d (member l e ms)) h = refl

put_many_at : (o p : Ordering) (k l m : List ℕ) (d e f : Data) (ms : Members)
    → AreMany (match_ordering o (member k d (member l e (member m f ms))) (member l d (member m f ms)) (member l e (match_ordering p (member k d (member m f ms)) (member m d ms) (member m f (put k d ms)))))
put_many_at Less p k l m d e f ms = tt
put_many_at Equal p k l m d e f ms = tt
put_many_at Greater Less k l m d e f ms = tt
put_many_at Greater Equal k l m d e f ms = tt
put_many_at Greater Greater k l m d e f ms = tt

put_many : (k : List ℕ) (d : Data) (ms : Members) → AreMany ms → AreMany (put k d ms)
put_many k d no_members h = h
put_many k d (member l e no_members) h = absurd h
put_many k d (member l e (member m f ms)) h = put_many_at (slice_cmp nat_cmp k l) (slice_cmp nat_cmp k m) k l m d e f ms

stay_many : (ms : json.Members) (found ds : Members) → of_members ms found ≡ Some ds → AreMany found → only_of ds ≡ None
stay_many json.no_members found ds e h = none_of_many ds (subst AreMany (same_Some found ds e) h)
stay_many (json.member k j ms) found ds e h =
    let parts = member_parts k j ms found ds e in
    stay_many ms (put k parts.0 found) ds parts.2 (put_many k parts.0 found h)

-- another value of the only name takes its place
same_name : (l k : List ℕ) (c d : Data) → l ≡ k → put l c (member k d no_members) ≡ member k c no_members
same_name l k c d same =
    let equal : slice_cmp nat_cmp l k ≡ Equal = ap (λ q. slice_cmp nat_cmp q k) same ∙ tied_itself nat_list_cmp_total k in
    ap (λ o. match_ordering o (member l c (member k d no_members)) (member k c no_members) (member k d (member l c no_members))) equal

two_names_at : (o : Ordering) (l k : List ℕ) (c d : Data) → is_eq o ≡ false → AreMany (match_ordering o (member l c (member k d no_members)) (member k c no_members) (member k d (member l c no_members)))
two_names_at Less l k c d apart = tt
two_names_at Equal l k c d apart = absurd (true≢false apart)
two_names_at Greater l k c d apart = tt

two_names : (l k : List ℕ) (c d : Data) → bytes_eq l k ≡ false → AreMany (put l c (member k d no_members))
two_names l k c d apart = two_names_at (slice_cmp nat_cmp l k) l k c d (is_eq-slice_cmp l k ∙ apart)

module _ (ms : json.Members) (k l : List ℕ) (i : json.Json) (c d : Data) (ds : Members) (more : of_members ms (put l c (member k d no_members)) ≡ Some ds) where
  only_after : (b : Bool) → bytes_eq l k ≡ b → (of_members ms (member k c no_members) ≡ Some ds → only_of ds ≡ only_from k i ms) → only_of ds ≡ cond b (only_from k i ms) None
  only_after true e rest = rest (ap (of_members ms) (sym (same_name l k c d (same_bytes l k e))) ∙ more)
  only_after false e rest = stay_many ms (put l c (member k d no_members)) ds more (two_names l k c d e)

one_found : (ms : json.Members) (k : List ℕ) (j : json.Json) (d : Data) (ds : Members) → of_json j ≡ Some d → of_members ms (member k d no_members) ≡ Some ds → only_of ds ≡ only_from k j ms
one_found json.no_members k j d ds is e = ap only_of (sym (same_Some (member k d no_members) ds e)) ∙ ap (option_map {U = List ℕ × Data} (λ c. (k, c))) (sym is)
one_found (json.member l i ms) k j d ds is e =
    let parts = member_parts l i ms (member k d no_members) ds e in
    only_after ms k l i parts.0 d ds parts.2 (bytes_eq l k) refl (λ rest. one_found ms k i parts.0 ds parts.1 rest)

-- the only name of the data is the only name of the text
pub only_kept : (ms : json.Members) (ds : Members) → of_members ms no_members ≡ Some ds → only_of ds ≡ json_only ms
only_kept json.no_members ds e = ap only_of (sym (same_Some no_members ds e))
only_kept (json.member k j ms) ds e =
    let parts = member_parts k j ms no_members ds e in
    one_found ms k j parts.0 ds parts.1 parts.2

-- The body list of a Loop as the code goes through it, statement by statement.
use Rattle.std.proofs.Common.{◌≡◌, ℕ, ◌≤◌, Bool, true, false, Option, Some, None, List, [], ◌++◌, append-nil, append_assoc, refl, subst, sym, ap, ◌∙◌}
use Rattle.std.specs.Prelude.{if◌then◌else◌}
use Rattle.ir_statements.specs.Tree.{Stmt, Body, Done, Then}
use Rattle.naga_runs.specs.Must.{holds_continue}
use Rattle.check_scope.specs.declared.table.ScopeColumn.{ScopeColumn}
use Rattle.check_scope.specs.declared.table.ScopeState.TheVariants.{Open}
use Rattle.check_scope.specs.walk.Table.{shown, known, count, left, scopes, skipped, HasPut, HasLooped, Divides, IsLast}
use Rattle.check_statement.specs.walk.Walk.{puts, body_puts, puts_to_continue}
use Rattle.check_scope.proofs.Columns.{both_put, put_nothing}
use Rattle.check_scope.proofs.Divided.{Divided, divided_more, last_skipped, looped, looped_whole, may_skip}

-- so far no statement holds a Continue
pub record Whole (before after : ScopeColumn) (rest whole : Body) : Type 0 where
  pub earlier : List ℕ
  pub put : HasPut before after earlier
  pub joined : earlier ++ body_puts rest ≡ body_puts whole
  pub sure : earlier ++ puts_to_continue rest ≡ puts_to_continue whole

-- a statement held one
pub record Parted (before after : ScopeColumn) (home : ℕ) (rest whole : Body) : Type 0 where
  pub first : List ℕ
  pub later : List ℕ
  pub parts : Divided before after home first later
  pub joined : (first ++ later) ++ body_puts rest ≡ body_puts whole
  pub sure : first ≡ puts_to_continue whole

abbrev pub PutsOfLoop : ScopeColumn → ScopeColumn → Option ℕ → Body → Body → Type 0
PutsOfLoop before after None rest whole = Whole before after rest whole
PutsOfLoop before after (Some home) rest whole = Parted before after home rest whole

pub at_first : (before : ScopeColumn) (whole : Body) → PutsOfLoop before before None whole whole
at_first before whole =
    record { earlier = []; put = put_nothing before; joined = refl; sure = refl }

module _ (before now mid next : ScopeColumn) (x : Stmt) (rest whole : Body) (put : HasPut now mid (puts x)) (same : known next ≡ known mid) (n : count next ≡ count mid) (last : IsLast (shown mid)) where
  pub one_more : (home after : Option ℕ) (held : Bool) → PutsOfLoop before now home (Then x rest) whole → held ≡ holds_continue x → Divides mid next home held after → PutsOfLoop before next after rest whole
  unfolding body_puts puts_to_continue
  one_more None None true w e d = absurd d
  one_more None (Some h) true w e d =
      record {
        first = w.earlier ++ puts x;
        later = [];
        parts = record {
          at = mid;
          split = next;
          first_put = both_put w.put put;
          entered = d.0;
          same = same;
          opened = d.1;
          last = last;
          enters = d.2;
          later_put = put_nothing next;
          as_many = n;
        };
        joined =
            ap (λ l. l ++ body_puts rest) (append-nil (w.earlier ++ puts x)) ∙ append_assoc w.earlier (puts x) (body_puts rest) ∙ w.joined;
        sure = ap (λ b. w.earlier ++ (if b then puts x else (puts x ++ puts_to_continue rest))) e ∙ w.sure;
      }
  one_more None after false w e d =
      subst (λ o. PutsOfLoop before next o rest whole) (sym d.0) (record {
        earlier = w.earlier ++ puts x;
        put = subst (λ t. HasPut before t (w.earlier ++ puts x)) (sym d.1) (both_put w.put put);
        joined = append_assoc w.earlier (puts x) (body_puts rest) ∙ w.joined;
        sure =
            append_assoc w.earlier (puts x) (puts_to_continue rest)
            ∙ ap (λ b. w.earlier ++ (if b then puts x else (puts x ++ puts_to_continue rest))) e
            ∙ w.sure;
      })
  one_more (Some h) after held p e d =
      subst (λ o. PutsOfLoop before next o rest whole) (sym d.0) (record {
        first = p.first;
        later = p.later ++ puts x;
        parts = divided_more p.parts (subst (λ t. HasPut now t (puts x)) (sym d.1) put);
        joined =
            ap (λ l. l ++ body_puts rest) (sym (append_assoc p.first p.later (puts x)))
            ∙ append_assoc (p.first ++ p.later) (puts x) (body_puts rest)
            ∙ p.joined;
        sure = p.sure;
      })

-- the whole list
pub undivided : (before after : ScopeColumn) (whole : Body) → PutsOfLoop before after None Done whole → HasLooped before after None (puts_to_continue whole) (body_puts whole)
unfolding body_puts puts_to_continue
undivided before after whole w =
    subst (λ l. HasLooped before after None l (body_puts whole)) (sym (append-nil w.earlier) ∙ w.sure) (
    subst (HasLooped before after None w.earlier) (sym (append-nil w.earlier) ∙ w.joined) (looped_whole w.put)
    )

module _ (before after : ScopeColumn) (home : ℕ) (whole : Body) (p : PutsOfLoop before after (Some home) Done whole) where
  pub may_part : (left (shown after) home).state home ≡ Open
  may_part = may_skip p.parts

  pub last_parted : (end : ScopeColumn) → shown end ≡ skipped (shown after) home → IsLast (shown end)
  last_parted = last_skipped p.parts

  pub divided : (end : ScopeColumn) (number : ℕ) → shown end ≡ skipped (shown after) home → number ≡ (shown after).innermost → count end ≡ count after → scopes after ≤ scopes end → HasLooped before end (Some number) (puts_to_continue whole) (body_puts whole)
  unfolding body_puts
  divided end number is by n taken =
      subst (λ l. HasLooped before end (Some number) l (body_puts whole)) p.sure (
      subst (HasLooped before end (Some number) p.first) (sym (append-nil (p.first ++ p.later)) ∙ p.joined) (looped p.parts end number is by n taken)
      )

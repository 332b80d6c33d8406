-- Sets of handles: what is live, in scope and skipped.
use Rattle.std.proofs.lemmas.Bool.{eqb-true}
use Rattle.std.specs.Prelude.{ℕ, Bool, true, false, List, ◌≡◌, ◌∷◌, ◌++◌, ◌==◌, if◌then◌else◌, []}
use Rattle.std.proofs.Common.{refl, sym, subst}
use Rattle.ir_statements.specs.Tree.{Act, Stmt, Body, Use, Put, Done, Then}
use Rattle.naga_runs.specs.Handles.{Handles, with_handle}
use Rattle.naga_runs.specs.Must.{holds_continue, with_sure}
use Rattle.naga_runs.specs.PutsAndUses.{acts_of, with_acts, with_body}

-- whether a handle is live, in scope, skipped
pub data Tally : Bool → Bool → Bool → Type 0 where
  outside : Tally false false false
  alive : Tally true true false
  skipped : Tally false true true

-- what is live is what is in scope and not skipped
pub record Tallied (live scope skip : Handles) : Type 0 where
  pub at : (h : ℕ) → Tally (live h) (scope h) (skip h)

pub record Within (s t : Handles) : Type 0 where
  pub at : (h : ℕ) → s h ≡ true → t h ≡ true

pub within_all : (s t u : Handles) → Within s t → Within t u → Within s u
within_all s t u a b = record { at = λ h e. b.at h (a.at h e) }

tally_out : {l s k : Bool} → Tally l s k → s ≡ false → Tally true true k
tally_out outside e = alive
tally_out alive e = cc
tally_out skipped e = cc

tally_cut : {l s k : Bool} → Tally l s k → s ≡ false → Tally l true true
tally_cut outside e = skipped
tally_cut alive e = cc
tally_cut skipped e = cc

tally_kept : {l s k : Bool} → Tally l s k → k ≡ true → s ≡ true
tally_kept outside e = cc
tally_kept alive e = refl
tally_kept skipped e = refl

-- what is skipped is in scope
pub kept : (l s k : Handles) → Tallied l s k → Within k s
kept l s k t = record { at = λ h e. tally_kept (t.at h) e }

-- a new handle, put live and in scope
pub put_tally : (l s k : Handles) (h : ℕ) → s h ≡ false → Tallied l s k →
    Tallied (with_handle l h) (with_handle s h) k
put_tally l s k h new t = record { at = λ x. go x (h == x) refl }
  where
    go : (x : ℕ) (b : Bool) → (h == x) ≡ b → Tally (if b then true else l x) (if b then true else s x) (k x)
    go x true e = tally_out (t.at x) (subst (λ y. s y ≡ false) (eqb-true h x e) new)
    go x false e = t.at x

-- a new handle, in scope and skipped
pub cut_tally : (l s k : Handles) (h : ℕ) → s h ≡ false → Tallied l s k →
    Tallied l (with_handle s h) (with_handle k h)
cut_tally l s k h new t = record { at = λ x. go x (h == x) refl }
  where
    go : (x : ℕ) (b : Bool) → (h == x) ≡ b → Tally (l x) (if b then true else s x) (if b then true else k x)
    go x true e = tally_cut (t.at x) (subst (λ y. s y ≡ false) (eqb-true h x e) new)
    go x false e = t.at x

pub handle_grows : (s : Handles) (h : ℕ) → Within s (with_handle s h)
handle_grows s h = record { at = λ x e. go x e (h == x) }
  where
    go : (x : ℕ) → s x ≡ true → (b : Bool) → (if b then true else s x) ≡ true
    go x e true = refl
    go x e false = e

pub handle_mono : (s t : Handles) (h : ℕ) → Within s t → Within (with_handle s h) (with_handle t h)
handle_mono s t h w = record { at = λ x. go x (h == x) }
  where
    go : (x : ℕ) (b : Bool) → (if b then true else s x) ≡ true → (if b then true else t x) ≡ true
    go x true e = refl
    go x false e = w.at x e

pub acts_grow : (acts : List Act) (s : Handles) → Within s (with_acts s acts)
acts_grow [] s = record { at = λ h e. e }
acts_grow (Use h ∷ acts) s = acts_grow acts s
acts_grow (Put h ∷ acts) s = within_all s (with_handle s h) _ (handle_grows s h) (acts_grow acts (with_handle s h))

pub acts_mono : (acts : List Act) (s t : Handles) → Within s t → Within (with_acts s acts) (with_acts t acts)
acts_mono [] s t w = w
acts_mono (Use h ∷ acts) s t w = acts_mono acts s t w
acts_mono (Put h ∷ acts) s t w = acts_mono acts (with_handle s h) (with_handle t h) (handle_mono s t h w)

pub acts-append : (a b : List Act) (s : Handles) → with_acts s (a ++ b) ≡ with_acts (with_acts s a) b
acts-append [] b s = refl
acts-append (Use h ∷ a) b s = acts-append a b s
acts-append (Put h ∷ a) b s = acts-append a b (with_handle s h)

-- each put is new
abbrev pub Fresh : Handles → List Act → Type 0
Fresh s [] = Unit {0}
Fresh s (Use h ∷ acts) = Fresh s acts
Fresh s (Put h ∷ acts) = (s h ≡ false) × Fresh (with_handle s h) acts

pub acts_tally : (acts : List Act) (l s k : Handles) → Fresh s acts → Tallied l s k →
    Tallied (with_acts l acts) (with_acts s acts) k
acts_tally [] l s k f t = t
acts_tally (Use h ∷ acts) l s k f t = acts_tally acts l s k f t
acts_tally (Put h ∷ acts) l s k f t = acts_tally acts (with_handle l h) (with_handle s h) k f.1
    (put_tally l s k h f.0 t)

pub acts_cut : (acts : List Act) (l s k : Handles) → Fresh s acts → Tallied l s k →
    Tallied l (with_acts s acts) (with_acts k acts)
acts_cut [] l s k f t = t
acts_cut (Use h ∷ acts) l s k f t = acts_cut acts l s k f t
acts_cut (Put h ∷ acts) l s k f t = acts_cut acts l (with_handle s h) (with_handle k h) f.1
    (cut_tally l s k h f.0 t)

pub body_grow : (b : Body) (s : Handles) → Within s (with_body s b)
body_grow Done s = record { at = λ h e. e }
body_grow (Then x b) s = within_all s (with_acts s (acts_of x)) _ (acts_grow (acts_of x) s) (body_grow b _)

if_within : (c : Bool) (s t u : Handles) → Within s t → Within s u → Within s (if c then t else u)
if_within true s t u a b = a
if_within false s t u a b = b

pub sure_grow : (b : Body) (s : Handles) → Within s (with_sure s b)
sure_grow Done s = record { at = λ h e. e }
sure_grow (Then x b) s =
    if_within (holds_continue x) s s _ (record { at = λ h e. e })
    (within_all s (with_acts s (acts_of x)) _ (acts_grow (acts_of x) s) (sure_grow b _))

within_if : (c : Bool) (s t u : Handles) → Within t s → Within u s → Within (if c then t else u) s
within_if true s t u a b = a
within_if false s t u a b = b

pub sure_below : (b : Body) (s : Handles) → Within (with_sure s b) (with_body s b)
sure_below Done s = record { at = λ h e. e }
sure_below (Then x b) s = within_if (holds_continue x) _ s _ (body_grow (Then x b) s) (sure_below b _)

-- a turn that left a list at a statement that holds a Continue is sure of what it had before it
pub sure_cut : (x : Stmt) (b : Body) (s t : Handles) → holds_continue x ≡ true → Within s t →
    Within (with_sure s (Then x b)) t
sure_cut x b s t e w = subst (λ c. Within (if c then s else with_sure (with_acts s (acts_of x)) b) t) (sym e) w

-- and one that went on past a statement, of no more than it had after it
pub sure_on : (x : Stmt) (b : Body) (s t : Handles) → Within (with_sure (with_acts s (acts_of x)) b) t →
    Within (with_sure s (Then x b)) t
sure_on x b s t w =
    within_if (holds_continue x) t s _ (within_all s _ t
    (within_all s (with_acts s (acts_of x)) _ (acts_grow (acts_of x) s) (sure_grow b _)) w) w

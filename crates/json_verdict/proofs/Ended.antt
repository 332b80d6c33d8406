-- How a stream of lines goes on.
use Rattle.std.proofs.Common.{◌≡◌, ℕ, true, false, cond, List, [], ◌∷◌, ◌++◌, length, Option, max, refl, sym, ap, ◌∙◌, subst, arith}
use Rattle.std.proofs.lemmas.List.{append-nil, append_assoc}
use Rattle.std.proofs.KnownBytes.{Appends-kept, Appends-nil, Appends-trans}
use Rattle.std.specs.Prelude.{◌==◌}
use Rattle.std.specs.Io.KnownBytes.{Keeps}
use Rattle.json_verdict.specs.Runs.{with_byte, lines_of, IsReply, Replies, AreReplies, RepliesToLines}
use Rattle.json_answers.specs.declared.form.Form.TheVariants as forms
use Rattle.json_verdict.specs.declared.stream.Stream.{Stream}
use Rattle.json_verdict.specs.walk.Lines.{IsPlain, is_begun, HasTaken}
use Rattle.json_verdict.specs.walk.Stream.{Holds}

plain_more : (line part : List ℕ) → IsPlain line → IsPlain part → IsPlain (line ++ part)
plain_more [] part plain more = more
plain_more (x ∷ xs) part plain more = (plain.0, plain_more xs part plain.1 more)

begun_more : (line part : List ℕ) → is_begun part ≡ true → is_begun (line ++ part) ≡ true
begun_more [] part begun = begun
begun_more (x ∷ xs) part begun = refl

plain_byte : (b : ℕ) (bs : List ℕ) → (b == 10) ≡ false → lines_of (b ∷ bs) ≡ with_byte b (lines_of bs)
plain_byte b bs other = ap (λ t. cond t ([] ∷ lines_of bs) (with_byte b (lines_of bs))) other

-- a newline ends a line
plain_end : (line more : List ℕ) → IsPlain line → lines_of (line ++ 10 ∷ more) ≡ line ∷ lines_of more
plain_end [] more plain = refl
plain_end (b ∷ bs) more plain = plain_byte b (bs ++ 10 ∷ more) plain.0 ∙ ap (with_byte b) (plain_end bs more plain.1)

-- the last line needs none
plain_last : (line : List ℕ) → IsPlain line → is_begun line ≡ true → lines_of line ≡ line ∷ []
plain_last [] plain begun = cc
plain_last (b ∷ []) plain begun = plain_byte b [] plain.0
plain_last (b ∷ x ∷ xs) plain begun = plain_byte b (x ∷ xs) plain.0 ∙ ap (with_byte b) (plain_last (x ∷ xs) plain.1 refl)

not_begun : (line : List ℕ) → is_begun line ≡ false → line ≡ []
not_begun [] none = refl
not_begun (b ∷ bs) none = cc

-- one reply more
replies_push : (texts : List (List ℕ)) (out : List ℕ) (status : ℕ) (text line : List ℕ) (this : ℕ) → AreReplies texts out status
    → IsReply forms.Json text line this → AreReplies (texts ++ text ∷ []) (out ++ line) (max status this)
unfolding AreReplies
replies_push [] out status text line this (none, zero) reply =
    (line, [], this, 0, reply, (refl, refl), ap (λ l. l ++ line) none ∙ sym (append-nil line), omega (arith, zero))
replies_push (t ∷ ts) out status text line this (first, rest, a, others, is, more, joined, greatest) reply = (
  first,
  rest ++ line,
  a,
  max others this,
  is,
  replies_push ts rest others text line this more reply,
  ap (λ l. l ++ line) joined ∙ append_assoc first rest line,
  omega (arith, greatest),
)

-- nothing has come in
pub taken_none : (s : Stream) (start : Option (List ℕ)) → Holds s.bytes [] → s.is_begun ≡ false → s.status ≡ 0
    → HasTaken s [] start start
unfolding AreReplies
taken_none s start kept begun status = record {
  done = [];
  line = [];
  out = [];
  lines = λ more. refl;
  replies = (refl, status);
  written = Appends-nil start;
  kept = kept;
  plain = tt;
  begun = begun;
}

-- bytes that are no newline
pub taken_part : (s t : Stream) (input part : List ℕ) (old new : Option (List ℕ)) → IsPlain part → is_begun part ≡ true
    → HasTaken s input old new
    → ((text : List ℕ) → Holds s.bytes text → Holds t.bytes (text ++ part)) → t.is_begun ≡ true → t.status ≡ s.status
    → HasTaken t (input ++ part) old new
taken_part s t input part old new plain more f kept begun status = record {
  done = f.done;
  line = f.line ++ part;
  out = f.out;
  lines = λ rest. ap lines_of (append_assoc input part rest) ∙ f.lines (part ++ rest)
      ∙ ap (λ l. f.done ++ lines_of l) (sym (append_assoc f.line part rest));
  replies = subst (AreReplies f.done f.out) (sym status) f.replies;
  written = f.written;
  kept = kept f.line f.kept;
  plain = plain_more f.line part f.plain plain;
  begun = begun ∙ sym (begun_more f.line part more);
}

pub no_byte : (part : List ℕ) → length part ≡ 0 → part ≡ []
no_byte [] none = refl
no_byte (b ∷ bs) none = absurd (omega (arith, none))

-- no byte
pub taken_nothing : (s : Stream) (input part : List ℕ) (old new : Option (List ℕ)) → part ≡ [] → HasTaken s input old new
    → HasTaken s (input ++ part) old new
taken_nothing s input part old new none f =
    subst (λ seen. HasTaken s seen old new) (sym (ap (λ l. input ++ l) none ∙ append-nil input)) f

-- a line whose newline was seen, and what comes after it
pub line_seen : (input seen line : List ℕ) → ((input ++ seen) ++ line) ++ 10 ∷ [] ≡ input ++ (seen ++ (line ++ 10 ∷ []))
line_seen input seen line =
    append_assoc (input ++ seen) line (10 ∷ []) ∙ append_assoc input seen (line ++ 10 ∷ [])

pub line_cut : (seen line after : List ℕ) → seen ++ (line ++ 10 ∷ after) ≡ (seen ++ (line ++ 10 ∷ [])) ++ after
line_cut seen line after =
    ap (λ l. seen ++ l) (sym (append_assoc line (10 ∷ []) after)) ∙ sym (append_assoc seen (line ++ 10 ∷ []) after)

-- a newline
pub taken_end : (s t : Stream) (input : List ℕ) (old mid new : Option (List ℕ)) (this : ℕ) → HasTaken s input old mid
    → ((text : List ℕ) → Holds s.bytes text → Replies forms.Json text mid new this) → Holds t.bytes []
    → t.is_begun ≡ false → t.status ≡ max s.status this → HasTaken t (input ++ 10 ∷ []) old new
taken_end s t input old mid new this f told kept begun status =
    let (line, reply, written) = told f.line f.kept in record {
      done = f.done ++ f.line ∷ [];
      line = [];
      out = f.out ++ line;
      lines = λ more. ap lines_of (append_assoc input (10 ∷ []) more) ∙ f.lines (10 ∷ more)
          ∙ ap (λ l. f.done ++ l) (plain_end f.line more f.plain)
          ∙ sym (append_assoc f.done (f.line ∷ []) (lines_of more));
      replies = subst (AreReplies (f.done ++ f.line ∷ []) (f.out ++ line)) (sym status)
          (replies_push f.done f.out s.status f.line line this f.replies reply);
      written = Appends-trans old mid new f.out line f.written written;
      kept = kept;
      plain = tt;
      begun = begun;
    }

-- the input is the lines that have ended, and the one that is being read
all_lines : (s : Stream) (input : List ℕ) (old new : Option (List ℕ)) (f : HasTaken s input old new)
    → lines_of input ≡ f.done ++ lines_of f.line
all_lines s input old new f =
    ap lines_of (sym (append-nil input)) ∙ f.lines [] ∙ ap (λ l. f.done ++ lines_of l) (append-nil f.line)

-- the input has ended in a line
pub taken_last : (s : Stream) (input : List ℕ) (old mid new : Option (List ℕ)) (this : ℕ) → HasTaken s input old mid
    → s.is_begun ≡ true → ((text : List ℕ) → Holds s.bytes text → Replies forms.Json text mid new this)
    → RepliesToLines input old new (max s.status this)
taken_last s input old mid new this f begun told =
    let (line, reply, written) = told f.line f.kept in
    let last : lines_of input ≡ f.done ++ f.line ∷ [] =
    all_lines s input old mid f ∙ ap (λ l. f.done ++ l) (plain_last f.line f.plain (sym f.begun ∙ begun)) in (
      f.out ++ line,
      subst (λ ls. AreReplies ls (f.out ++ line) (max s.status this)) (sym last)
          (replies_push f.done f.out s.status f.line line this f.replies reply),
      Appends-trans old mid new f.out line f.written written,
    )

-- the input has ended with a newline, or is empty
pub taken_no_more : (s : Stream) (input : List ℕ) (old new : Option (List ℕ)) → HasTaken s input old new → s.is_begun ≡ false
    → RepliesToLines input old new s.status
taken_no_more s input old new f begun =
    let none : lines_of input ≡ f.done =
    all_lines s input old new f ∙ ap (λ l. f.done ++ lines_of l) (not_begun f.line (sym f.begun ∙ begun)) ∙ append-nil f.done in
    (f.out, subst (λ ls. AreReplies ls f.out s.status) (sym none) f.replies, f.written)

-- after a flush
pub taken_kept : (s : Stream) (input : List ℕ) (old mid new : Option (List ℕ)) → HasTaken s input old mid
    → Keeps mid new → HasTaken s input old new
taken_kept s input old mid new f kept = record {
  done = f.done;
  line = f.line;
  out = f.out;
  lines = f.lines;
  replies = f.replies;
  written = Appends-kept old mid new f.out f.written kept;
  kept = f.kept;
  plain = f.plain;
  begun = f.begun;
}

-- What the program's loop keeps, and what one buffer tells of an input.
use Rattle.std.proofs.Common.{◌≡◌, ◌≤◌, ◌<◌, ◌+◌, ℕ, List, ◌++◌, Option, Some, None, ap, sym, ◌∙◌, arith, length, take, subst, refl, inl, inr}
use Rattle.std.proofs.lemmas.List.{take_all, take-append-le, length-take}
use Rattle.std.proofs.Math.Seq.{take-append-add}
use Rattle.std.specs.Prelude.{IfSome}
use Rattle.std.specs.Io.KnownBytes.{Appends}
use Rattle.case_reply.specs.Line.{RepliesToCase, IsDue, WritesReply, IsLine, reply_line, reply_status}
use Rattle.case_notation.specs.Case.{Case, Reads}
use Rattle.case_reply.specs.declared.line.Reply.{Reply}
use Rattle.case_reply.specs.declared.line.Reply.TheVariants.{Accepted, Fault, Unreadable, Memory}

-- the line of a reply that is due
due_line : (input : List ℕ) (reply : Reply) → IsDue input reply → IsLine input (reply_line reply) (reply_status reply)
unfolding IsLine
due_line input reply due = inl due

unreadable_writes : (input : List ℕ) (old new : Option (List ℕ)) → ((c : Case) → Reads input c → ⊥) → Appends old new (reply_line Unreadable) → WritesReply input old new 2
unfolding WritesReply IsLine reply_line
unreadable_writes input old new none h = inl (_, inr (none, refl, refl), h)

memory_writes : (input : List ℕ) (old new : Option (List ℕ)) → Appends old new (reply_line Memory) → WritesReply input old new 3
unfolding WritesReply reply_line
memory_writes input old new h = inr (h, refl)

-- the line of a reply is one that may be written
pub reply_writes : (input : List ℕ) (reply : Reply) (old new : Option (List ℕ)) → RepliesToCase input reply → Appends old new (reply_line reply) → WritesReply input old new (reply_status reply)
unfolding RepliesToCase WritesReply
reply_writes input (Accepted stages) old new due h = inl (_, due_line input (Accepted stages) due, h)
reply_writes input (Fault fault) old new due h = inl (_, due_line input (Fault fault) due, h)
reply_writes input Unreadable old new none h = unreadable_writes input old new none h
reply_writes input Memory old new u h = memory_writes input old new h

within : (input : List ℕ) (n : ℕ) → 65536 < n → length (take n input) ≤ 65536 → length input ≤ n
within input n lt h = omega (arith, length-take n input)

pub take_mid : (a m : ℕ) (xs ys more : List ℕ) → a ≤ length xs → m ≤ length ys → take (a + m) (take a xs ++ (ys ++ more)) ≡ take a xs ++ take m ys
take_mid a m xs ys more h k =
    let len : length (take a xs) ≡ a = omega (arith, length-take a xs) in
    subst (λ b. take (b + m) (take a xs ++ (ys ++ more)) ≡ take a xs ++ take m ys) len (take-append-add (take a xs) (ys ++ more) m ∙ ap (λ l. take a xs ++ l) (take-append-le m ys more k))

-- what a part that is a case reads as, the whole does
whole_reads : (input : List ℕ) (n : ℕ) → 65536 < n → (c : Case) → Reads (take n input) c → Reads input c
whole_reads input n lt c reads =
    subst (λ xs. Reads xs c) (take_all n input (within input n lt reads.bounded)) reads

part_reads : (input : List ℕ) (n : ℕ) → 65536 < n → (c : Case) → Reads input c → Reads (take n input) c
part_reads input n lt c reads =
    let bounded = reads.bounded in
    subst (λ xs. Reads xs c) (sym (take_all n input (omega (arith, bounded)))) reads

-- a reply to as much as fits is the reply to all
whole_replies : (input : List ℕ) (n : ℕ) → 65536 < n → (reply : Reply) → RepliesToCase (take n input) reply → RepliesToCase input reply
unfolding RepliesToCase
whole_replies input n lt (Accepted stages) (c, reads, judged) = (c, whole_reads input n lt c reads, judged)
whole_replies input n lt (Fault fault) (c, reads, judged) = (c, whole_reads input n lt c reads, judged)
whole_replies input n lt Unreadable none = λ c reads. none c (part_reads input n lt c reads)
whole_replies input n lt Memory u = tt

pub memory_any : (o : Option (List ℕ)) → IfSome o (λ input. RepliesToCase input Memory)
unfolding RepliesToCase
memory_any None = tt
memory_any (Some input) = tt

-- the reply to as much as was read
pub heard : (o : Option (List ℕ)) (n : ℕ) (front : List ℕ) (reply : Reply) → n ≡ 65537 → IfSome o (λ input. front ≡ take n input) → RepliesToCase front reply → IfSome o (λ input. RepliesToCase input reply)
heard None n front reply e h r = tt
heard (Some input) n front reply e h r =
    whole_replies input n (omega arith) reply (subst (λ xs. RepliesToCase xs reply) h r)

use Rattle.std.proofs.Common.{◌++◌, ◌∷◌, [], ap, ◌∙◌, subst}
use Rattle.json_verdict.specs.walk.Lines.{HasTaken}
use Rattle.json_verdict.proofs.Ended.{line_cut, line_seen}
use Rattle.json_verdict.proofs.stream.Stream.take_all.Goals as goal

-- what was seen goes on with the line and its newline
pub lines-preserved : goal.lines-preserved
lines-preserved g c =
    let (seen, is, follows) = c.lines.invariant in
    let line = c.in-Some.line.now in (
      seen ++ (line ++ 10 ∷ []),
      is ∙ ap (λ l. seen ++ l) c.in-Some.ensures.1 ∙ line_cut seen line c.in-Some.after.now,
      λ input start f.
          let taken = c.take.ensures (input ++ seen) start _ (follows input start f) in
          let ended = c.in_ok-end_line.ensures ((input ++ seen) ++ line) start taken in
          subst (λ l. HasTaken c.end_line.new.self l start (g.W.Write.contents c.end_line.new.writer))
          (line_seen input seen line) ended,
    )

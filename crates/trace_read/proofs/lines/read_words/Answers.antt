use Rattle.std.proofs.Common.{arith}
use Rattle.std.proofs.lemmas.List.{map-append, take_rest}
use Rattle.trace_read.proofs.Words.{AreReadTo-other, AreReadTo-blank, AreReadTo-word, AreReadTo-last}
use Rattle.trace_read.proofs.lines.read_words.Goals as goal
use Rattle.trace_read.proofs.lines.read_words.Goals.{then-c-le32, then-start-i+in_ok-push, else-start-i, else-c-le32}

pub loop-i-preserved : goal.loop-i-preserved
loop-i-preserved c =
    elim c.if-c-le32.branch [
      | then-c-le32 w ↦ elim w.if-start-i.branch [
        | then-start-i+in_ok-push w' ↦ rw
            (w.words-is, w'.words-is, w'.in_ok-push.ensures.items, w.start-is, map-append)
            (AreReadTo-word _ _ _ _ c.loop-i.invariant (omega arith) (omega arith) c.requires
            (omega arith))
        | else-start-i w' ↦ rw (w.words-is, w'.words-is, w.start-is)
            (AreReadTo-blank _ _ _ _ c.loop-i.invariant (omega arith) (omega arith) c.requires
            (omega arith))
      ]
      | else-c-le32 w ↦ rw (w.words-is, w.start-is)
          (AreReadTo-other _ _ _ _ c.loop-i.invariant (omega arith))
    ]

pub returns-in_ok-push-2-clause-ok : goal.returns-in_ok-push-2-clause-ok
returns-in_ok-push-2-clause-ok c =
    rw (c.in_ok-push-2.ensures.items, map-append, take_rest)
    (AreReadTo-last _ _ _ _ c.loop-i.invariant (omega arith) (omega arith))

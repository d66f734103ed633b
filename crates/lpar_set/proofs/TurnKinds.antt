-- The replies of a set: one for each turn, and each partition's are of the kinds of its lines.
use Rattle.std.proofs.Common.{◌≡◌, ℕ, suc, ◌<◌, ◌==◌, List, [], ◌∷◌, true, false, map, length, refl, ap, subst, ◌⊎◌, inl, inr}
use Rattle.std.proofs.lemmas.Bool.{cases_Bool}
use Rattle.trace_reply.specs.Replies.{AreReplies, IsOfKind}
use Rattle.lpar_set.specs.declared.turn.Turn.{Turn}
use Rattle.lpar_set.specs.SetTrace.{AcceptedSet, IsAcceptedSet, partition_at, line_of, turns_of}
use Rattle.lpar_set.specs.SetRun.{SetState, with_pool, member_at, set_line, opening_set, replies_from, set_replies}
use Rattle.lpar_set.specs.SetLaws.{replies_of}
use Rattle.lpar_set.proofs.LineReplies.{line_reply}
use Rattle.lpar_set.proofs.LinesOfTurns.{lines_are_turns}

-- ---- one for each turn
pub reply_count :
    (s : AcceptedSet) (w : SetState) (ts : List Turn) → length (replies_from s w ts) ≡ length ts
reply_count s w [] = refl
reply_count s w (t ∷ ts) = ap suc (reply_count s (set_line w t.partition (line_of s t)).1 ts)

-- ---- of the kinds of the turns
line_kind :
    (s : AcceptedSet) (w : SetState) (t : Turn)
    → IsOfKind (line_of s t).act (set_line w t.partition (line_of s t)).0
line_kind s w t = (line_reply (with_pool w.pool (member_at w t.partition)) (line_of s t) refl).0.0

turn_kinds :
    (s : AcceptedSet) (k : ℕ) (w : SetState) (ts : List Turn)
    → AreReplies (map (line_of s) (turns_of k ts)) (replies_of k ts (replies_from s w ts))
turn_kinds s k w [] = tt
turn_kinds s k w (t ∷ ts) =
    at (cases_Bool (t.partition == k)) (turn_kinds s k (set_line w t.partition (line_of s t)).1 ts)
  where
    at :
        (t.partition == k ≡ true) ⊎ (t.partition == k ≡ false)
        → AreReplies (map (line_of s) (turns_of k ts))
        (replies_of k ts (replies_from s (set_line w t.partition (line_of s t)).1 ts))
        → AreReplies (map (line_of s) (turns_of k (t ∷ ts)))
        (replies_of k (t ∷ ts) (replies_from s w (t ∷ ts)))
    at (inl q) rest = rw q (line_kind s w t, rest)
    at (inr q) rest = rw q rest

-- ---- of the kinds of its lines
pub kinds_of :
    (s : AcceptedSet)
    → IsAcceptedSet s
    → (k : ℕ)
    → k < length s.partitions
    → AreReplies (partition_at s k).trace.lines (replies_of k s.turns (set_replies s))
kinds_of s is k inside =
    subst (λ ls. AreReplies ls (replies_of k s.turns (set_replies s)))
    (lines_are_turns s is k inside) (turn_kinds s k (opening_set s) s.turns)

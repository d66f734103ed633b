-- Counts, one reply on.
use Rattle.std.proofs.Common.{◌≡◌, ◌+◌, List, [], ◌∷◌, ◌++◌, if◌then◌else◌, ap, sym, ◌∙◌}
use Rattle.std.proofs.lemmas.List.Sums.{sum_by_push}
use Rattle.trace_reply.specs.declared.reply.Reply.{Reply}
use Rattle.reply_text.specs.declared.counts.Counts.{Counts}
use Rattle.reply_text.specs.declared.counted.Counted.{Counted}
use Rattle.reply_text.specs.Summary.{IsCountOf, count_of, is_counted}

pub counted_more :
    (c new : Counts) (rs : List Reply) (r : Reply)
    → IsCountOf c rs
    → ((x : Counted) → count_of new x ≡ count_of c x + (if is_counted x r then 1 else 0))
    → IsCountOf new (rs ++ r ∷ [])
counted_more c new rs r told more =
    λ x.
    more x
    ∙ ap (λ n. n + (if is_counted x r then 1 else 0)) (told x)
    ∙ sym (sum_by_push (λ s. if is_counted x s then 1 else 0) rs r)

-- The summary from counts.
use Rattle.std.proofs.Common.{◌≡◌, ℕ, ◌+◌, ◌^◌, ◌<◌, Bool, true, false, List, ap, arith, Fits, w64}
use Rattle.std.proofs.Math.Path.{fun_ext}
use Rattle.std.specs.Int.{from_bool}
use Rattle.entry_model.specs.State.{State}
use Rattle.trace_reply.specs.declared.reply.Reply.{Reply}
use Rattle.reply_text.specs.declared.counts.Counts.{Counts}
use Rattle.reply_text.specs.Summary.{IsCountOf, count_of, counts_text, summary_text}

-- A number that can be raised by one fits when a test raises it.
pub raised_fits :
    (n more : ℕ) (counted : Bool) → more ≡ from_bool counted → n + 1 < 2 ^ 64 → Fits w64 (n + more)
raised_fits n more true e room = record { fits = omega arith }
raised_fits n more false e room = record { fits = omega arith }

-- The summary from the counts of replies is that of the replies.
pub counts_text_is :
    (lines : ℕ) (c : Counts) (rs : List Reply) (entries : List (ℕ × State))
    → IsCountOf c rs
    → counts_text lines (count_of c) entries ≡ summary_text lines rs entries
unfolding summary_text
counts_text_is lines c rs entries told =
    ap (λ count. counts_text lines count entries) (fun_ext told)

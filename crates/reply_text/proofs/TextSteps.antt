-- The text of replies, one line on.
use Rattle.std.proofs.Common.{◌≡◌, ℕ, ◌+◌, ◌<◌, List, ◌∷◌, ◌++◌, length, get_or, drop, ap, sym, ◌∙◌, append_assoc}
use Rattle.std.proofs.lemmas.List.{drop_more}
use Rattle.trace_line.specs.declared.line.TraceLine.{TraceLine}
use Rattle.trace_reply.specs.declared.reply.Reply.{Reply}
use Rattle.reply_text.specs.Text.{reply_text, text_from}

-- The line of text at an index, and those after it.
text_step :
    (lines : List TraceLine) (replies : List Reply) (i : ℕ) (d : TraceLine) (r : Reply)
    → i < length lines
    → i < length replies
    → r ≡ get_or replies i r
    → text_from (drop i lines) (drop i replies)
    ≡ reply_text (get_or lines i d) r ++ text_from (drop (i + 1) lines) (drop (i + 1) replies)
unfolding text_from
text_step lines replies i d r within within' reply =
    ap (λ ls. text_from ls (drop i replies)) (drop_more lines i d within)
    ∙ ap (λ rs. text_from (get_or lines i d ∷ drop (i + 1) lines) rs)
    (drop_more replies i r within')
    ∙ ap (λ x. text_from (get_or lines i d ∷ drop (i + 1) lines) (x ∷ drop (i + 1) replies))
    (sym reply)

-- The text so far and that of the rest, one line on.
pub text_goes_on :
    (lines : List TraceLine) (replies : List Reply) (i : ℕ) (d : TraceLine) (r : Reply)
    (out next all : List ℕ)
    → i < length lines
    → i < length replies
    → r ≡ get_or replies i r
    → next ≡ out ++ reply_text (get_or lines i d) r
    → out ++ text_from (drop i lines) (drop i replies) ≡ all
    → next ++ text_from (drop (i + 1) lines) (drop (i + 1) replies) ≡ all
text_goes_on lines replies i d r out next all within within' reply put told =
    ap (λ z. z ++ text_from (drop (i + 1) lines) (drop (i + 1) replies)) put
    ∙ append_assoc out (reply_text (get_or lines i d) r)
    (text_from (drop (i + 1) lines) (drop (i + 1) replies))
    ∙ ap (λ z. out ++ z) (sym (text_step lines replies i d r within within' reply)) ∙ told

-- The summary of a run: twelve numbers, each after its word.
use Rattle.std.specs.Prelude.{◌≡◌, ℕ, ◌++◌, Bool, true, false, List, [], ◌∷◌, length, count_by, Option, Some, codes}
use Rattle.std.specs.List.{flat_map}
use Rattle.std.specs.Fmt.{decimal}
use Rattle.papr_codes.specs.declared.codes.Rc.{Rc}
use Rattle.entry_model.specs.State.{State}
use Rattle.entry_model.specs.declared.access_reply.Outcome.{Outcome}
use Rattle.entry_model.specs.declared.access_reply.By.{By}
use Rattle.reply_text.specs.declared.counted.Counted.{Counted}
use Rattle.reply_text.specs.declared.counts.Counts.{Counts}
use Rattle.reply_text.specs.declared.kind.ReplyKind.{ReplyKind}
use Rattle.trace_reply.specs.declared.reply.Reply.{Reply}
use Rattle.papr_codes.specs.declared.codes.Rc.TheVariants as rc
use Rattle.entry_model.specs.declared.access_reply.Outcome.TheVariants as outcomes
use Rattle.entry_model.specs.declared.access_reply.By.TheVariants as ways
use Rattle.reply_text.specs.declared.counted.Counted.TheVariants as counts
use Rattle.reply_text.specs.declared.kind.ReplyKind.TheVariants as kinds
use Rattle.trace_reply.specs.declared.reply.Reply.TheVariants as replies

-- ---- what is counted
-- The word of each row.
abbrev pub counted_word : Counted → List ℕ
counted_word counts.Hcalls = codes "hcalls"
counted_word counts.Success = codes "success"
counted_word counts.Full = codes "full"
counted_word counts.NotFound = codes "notfound"
counted_word counts.Accesses = codes "accesses"
counted_word counts.At = codes "at"
counted_word counts.Denied = codes "denied"
counted_word counts.NoPage = codes "nopage"
counted_word counts.Hits = codes "hits"

-- Calls are counted by their code.
abbrev pub counts_code : Counted → Rc → Bool
counts_code counts.Hcalls code = true
counts_code counts.Success rc.Success = true
counts_code counts.Full rc.PtegFull = true
counts_code counts.NotFound rc.NotFound = true
counts_code counted code = false

-- Accesses are counted by where they ended, and hits.
abbrev pub counts_end : Counted → Outcome → Option By → Bool
counts_end counts.Accesses outcome by = true
counts_end counts.At (outcomes.At address) by = true
counts_end counts.Denied outcomes.Denied by = true
counts_end counts.NoPage outcomes.NoPage by = true
counts_end counts.Hits outcome (Some ways.Hit) = true
counts_end counted outcome by = false

-- A reply of this kind is one of those that are counted here.
abbrev pub counts_kind : Counted → ReplyKind → Bool
counts_kind counted (kinds.Call code) = counts_code counted code
counts_kind counted (kinds.Access outcome by) = counts_end counted outcome by
counts_kind counted kinds.Other = false

-- The kind of a reply.
abbrev pub kind_of : Reply → ReplyKind
kind_of (replies.Hcall h) = kinds.Call h.rc
kind_of (replies.Access r) = kinds.Access r.outcome r.by
kind_of other = kinds.Other

-- The reply is one of those that are counted here.
abbrev pub is_counted : Counted → Reply → Bool
is_counted counted reply = counts_kind counted (kind_of reply)

-- ---- counts
-- One of the counts.
abbrev pub count_of : Counts → Counted → ℕ
count_of c counts.Hcalls = c.hcalls
count_of c counts.Success = c.success
count_of c counts.Full = c.full
count_of c counts.NotFound = c.not_found
count_of c counts.Accesses = c.accesses
count_of c counts.At = c.at
count_of c counts.Denied = c.denied
count_of c counts.NoPage = c.no_page
count_of c counts.Hits = c.hits

-- The counts are those of these replies.
abbrev pub IsCountOf : Counts → List Reply → Type 0
IsCountOf c rs = (counted : Counted) → count_of c counted ≡ count_by (is_counted counted) rs

-- ---- the text
-- A word and its number.
unfoldable pub row_text : List ℕ → ℕ → List ℕ
row_text word number = word ++ codes " " ++ decimal number ++ codes "\n"

-- All that a summary counts, in the order of its rows.
abbrev pub all_counted : List Counted
all_counted =
    counts.Hcalls
    ∷ counts.Success
    ∷ counts.Full
    ∷ counts.NotFound
    ∷ counts.Accesses
    ∷ counts.At
    ∷ counts.Denied
    ∷ counts.NoPage
    ∷ counts.Hits
    ∷ []

-- The row of one count.
abbrev pub counted_text : (Counted → ℕ) → Counted → List ℕ
counted_text count counted = row_text (counted_word counted) (count counted)

-- C is set in the entry.
abbrev pub has_change : ℕ × State → Bool
has_change x = x.1.changed

-- How many valid entries there are, and how many have C.
unfoldable pub entries_text : List (ℕ × State) → List ℕ
entries_text entries =
    row_text (codes "entries") (length entries)
    ++ row_text (codes "changed") (count_by has_change entries)

-- Of so many run lines, the counts of their replies, and the valid entries of the table at the end.
unfoldable pub counts_text : ℕ → (Counted → ℕ) → List (ℕ × State) → List ℕ
counts_text lines count entries =
    row_text (codes "lines") lines
    ++ flat_map (counted_text count) all_counted
    ++ entries_text entries

-- The summary of so many run lines with these replies and, at the end, these valid entries.
unfoldable pub summary_text : ℕ → List Reply → List (ℕ × State) → List ℕ
summary_text lines rs entries =
    counts_text lines (λ counted. count_by (is_counted counted) rs) entries

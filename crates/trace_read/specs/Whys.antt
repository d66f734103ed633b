-- The word of each reason of refusal, and steps of reading that try the reasons in order.
use Rattle.std.specs.Prelude.{ℕ, Bool, true, false, List, codes, Option, Some, None, Result, Ok, Err}
use Rattle.frame_grants.specs.declared.error.GrantError.{GrantError}
use Rattle.frame_grants.specs.declared.error.GrantError.TheVariants as grants
use Rattle.trace_read.specs.declared.why.Why.{Why}
use Rattle.trace_read.specs.declared.why.Why.TheVariants as whys

-- The word of a reason.
abbrev pub why_word : Why → List ℕ
why_word whys.Long = codes "long"
why_word whys.Lines = codes "lines"
why_word whys.Ascii = codes "ascii"
why_word whys.Lpar = codes "lpar"
why_word whys.Word = codes "word"
why_word whys.Place = codes "place"
why_word whys.Count = codes "count"
why_word whys.Number = codes "number"
why_word whys.Mode = codes "mode"
why_word whys.Cpu = codes "cpu"
why_word whys.Dumps = codes "dumps"
why_word whys.Quiet = codes "quiet"
why_word whys.Range = codes "range"
why_word whys.Empty = codes "empty"
why_word whys.Unaligned = codes "unaligned"
why_word whys.Past = codes "past"
why_word whys.Many = codes "many"
why_word whys.Overlap = codes "overlap"
why_word whys.Tables = codes "tables"
why_word whys.Entry = codes "entry"
why_word whys.Window = codes "window"
why_word whys.Small = codes "small"
why_word whys.Begin = codes "begin"

-- The reason of a grant that is refused.
abbrev pub why_of_grant : GrantError → Why
why_of_grant grants.Empty = whys.Empty
why_of_grant grants.Unaligned = whys.Unaligned
why_of_grant grants.Past = whys.Past
why_of_grant grants.TooMany = whys.Many
why_of_grant grants.Overlap = whys.Overlap
why_of_grant grants.PoolOverlap = whys.Tables

-- ---- steps that may be refused
-- The next step, where the one before was not refused.
infixl 10 ◌>>=◌
-- Goes on with what was read, or ends with the reason.
abbrev pub ◌>>=◌ : {A B : Type 0} → Result A Why → (A → Result B Why) → Result B Why
(Ok x) >>= f = f x
(Err why) >>= f = Err why

-- Refused for this reason, unless the test holds.
abbrev pub guard : Bool → Why → Result (Unit {0}) Why
guard true why = Ok tt
guard false why = Err why

-- Refused for this reason, unless there is something.
abbrev pub required : {A : Type 0} → Option A → Why → Result A Why
required (Some x) why = Ok x
required None why = Err why

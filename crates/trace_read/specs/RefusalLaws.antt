-- Laws of refusals: one for meeting the pool names a grant, and none is for a partition.
use Rattle.std.specs.Prelude.{◌≡◌, ℕ, true, List, Err, is_some}
use Rattle.trace_read.specs.declared.why.Why.TheVariants as whys
use Rattle.trace_read.specs.Givens.{line_grant}
use Rattle.trace_read.specs.Grammar.{Reading, after_text, trace_of}

-- A line that meets the pool of page tables names a grant.
abbrev pub TablesNameAGrant : Type 0
TablesNameAGrant =
    (r : Reading) (ws : List (List ℕ))
    → after_text r ws ≡ Err whys.Tables
    → is_some (line_grant ws) ≡ true

-- No input of one trace is refused for a partition.
abbrev pub NoneIsRefusedForAPartition : Type 0
NoneIsRefusedForAPartition =
    (bytes : List ℕ) (number : ℕ) → ¬ (trace_of bytes ≡ Err (number, whys.Lpar))

-- The answers after which a cached translation may no longer hold, and has to be dropped.
use Rattle.std.specs.Prelude.{Bool, true, false, List}
use Rattle.std.specs.List.{list_any}
use Rattle.entry_model.specs.declared.operation.Answer.{Answer}
use Rattle.entry_model.specs.declared.operation.Answer.TheVariants.{Removed, Protected, Was}
use Rattle.entry_model.specs.declared.receipt.Receipt.{Receipt}

-- The entry was removed or protected, or its R or C was cleared.
abbrev pub is_stale : Answer → Bool
is_stale Removed = true
is_stale Protected = true
is_stale Was = true
is_stale other = false

-- One of the receipts has such an answer.
unfoldable pub any_stale : List Receipt → Bool
any_stale rs = list_any (λ (r : Receipt). is_stale r.answer) rs

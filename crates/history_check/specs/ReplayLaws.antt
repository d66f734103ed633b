-- What `EntryStore` asks of a store of given states.
use Rattle.std.specs.Prelude.{◌||◌, bit_and}
use Rattle.std.proofs.Common.{◌≡◌, List, [], ◌∷◌, ◌++◌, Bool, true, false, refl, subst, ◌∙◌, ap, inl, inr}
use Rattle.hpte_fields.specs.Fields.{rc_bits}
use Rattle.entry_model.specs.declared.line.Line.{Line}
use Rattle.entry_model.specs.declared.receipt.Receipt.{Receipt}
use Rattle.entry_model.specs.Receipt.{is_decided}
use Rattle.entry_model.specs.CachedLines.{ShowsLine}
use Rattle.history_check.specs.Replay.{ReplayState, after_receipt, IsReplayed, IsSeen}
use Rattle.std.proofs.lemmas.Bool.{or_right}

-- Receipts replayed one list after the other are replayed as one list.
pub made_more :
    (a b c : ReplayState) (xs ys : List Receipt)
    → IsReplayed a b xs
    → IsReplayed b c ys
    → IsReplayed a c (xs ++ ys)
made_more a b c [] ys h k = subst (λ s. IsReplayed s c ys) h k
made_more a b c (x ∷ xs) ys h k = (h.0, h.1, made_more (after_receipt a x) b c xs ys h.2 k)

-- A replay keeps the table's order.
pub order_stays : (a b : ReplayState) (xs : List Receipt) → IsReplayed a b xs → b.order ≡ a.order
order_stays a b [] h = ap (λ s. s.order) h
order_stays a b (x ∷ xs) h = order_stays (after_receipt a x) b xs h.2

or_left : (a b : Bool) → a ≡ true → (a || b) ≡ true
or_left true b h = refl
or_left false b h = cc

-- an answer that used a translation is not forgotten
decided_stays :
    (a b : ReplayState) (xs : List Receipt)
    → IsReplayed a b xs
    → a.decided ≡ true
    → b.decided ≡ true
decided_stays a b [] h d = ap (λ s. s.decided) h ∙ d
decided_stays a b (x ∷ xs) h d =
    decided_stays (after_receipt a x) b xs h.2 (or_left a.decided (is_decided x.answer) d)

-- A line that was seen is seen after more receipts too.
pub seen_stays :
    (a b : ReplayState) (xs : List Receipt) (line : Line)
    → IsReplayed a b xs
    → IsSeen a line
    → IsSeen b line
seen_stays a b xs line h seen = (decided_stays a b xs h seen.0, seen.1)

-- A line that a receipt shows is seen when the receipts are replayed.
pub shown_is_seen :
    (a b : ReplayState) (xs : List Receipt) (line : Line)
    → IsReplayed a b xs
    → ShowsLine line xs
    → IsSeen b line
shown_is_seen a b [] line h shows = absurd shows
shown_is_seen a b (x ∷ xs) line h (inl s) = (
  decided_stays (after_receipt a x) b xs h.2 (or_right a.decided (is_decided x.answer) s.0),
  ap (λ n. bit_and n rc_bits) s.1.dword1 ∙ h.1.apart,
)
shown_is_seen a b (x ∷ xs) line h (inr s) = shown_is_seen (after_receipt a x) b xs line h.2 s

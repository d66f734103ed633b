-- What is found of a section on one store, and on the stores one after the other.
use Rattle.std.specs.Prelude.{◌≡◌, ◌≢◌, ℕ, ◌<◌, ◌≤◌, true, List, drop, length}
use Rattle.std.specs.List.{AllByRecursion}
use Rattle.trace_line.specs.declared.line.TraceLine.{TraceLine}
use Rattle.trace_reply.specs.declared.reply.Reply.{Reply}
use Rattle.trace_reply.specs.Replies.{lines_with_replies}
use Rattle.run_model.specs.AllStores.{AllStores}
use Rattle.run_model.specs.Sections.{section_end}
use Rattle.run_model.specs.StoreNumbers.{store_at, Stays, lines_on_store}
use Rattle.run_model.specs.Stores.{Store, is_on}
use Rattle.history_check.specs.FoundSection.{opening_of, IsFound}
use Rattle.history_check.specs.FoundStores.{windows_of}
use Rattle.history_check.specs.PartedText.{part_on_store}

-- ---- a store
-- The lines have good replies on a store, with which the text begins, and leave such a store.
pub record LeavesStore (old new : Store) (ls : List TraceLine) (text : List ℕ) (n : ℕ) : Type 0
  where
    pub replies : List Reply
    pub found : IsFound (opening_of old) ls text replies (drop n text)
    pub behind : new ≡ section_end old (lines_with_replies ls replies)

-- The lines are on the store of this number.
abbrev pub AreOn : AllStores → ℕ → List TraceLine → Type 0
AreOn s number ls =
    AllByRecursion
    (λ (l : TraceLine). is_on (windows_of s) (store_at s number).window l.act ≡ true)
    ls

-- The lines have good replies on the store of this number, with which the text begins. The other
-- stores stay, and where the lines are on this one, it is as they leave it.
pub record FoundOn
    (s : AllStores)
    (number : ℕ)
    (ls : List TraceLine)
    (text : List ℕ)
    (n : ℕ)
    (later : AllStores)
    : Type 0
  where
    pub replies : List Reply
    pub found : IsFound (opening_of (store_at s number)) ls text replies (drop n text)
    pub behind :
        AreOn s number ls
        → store_at later number
        ≡ section_end (store_at s number) (lines_with_replies ls replies)
    pub others :
        (other : ℕ)
        → other ≢ number
        → other ≤ length s.windows
        → store_at later other ≡ store_at s other
    pub stays : Stays s later

-- ---- all stores
-- Of these lines those on the store of the number have good replies, with which their part of the
-- text begins, and leave such a store.
pub record LeavesPart
    (s : AllStores)
    (number : ℕ)
    (ls : List TraceLine)
    (text : List ℕ)
    (later : Store)
    : Type 0
  where
    pub replies : List Reply
    pub rest : List ℕ
    pub found :
        IsFound
        (opening_of (store_at s number))
        (lines_on_store (windows_of s) number ls)
        (part_on_store (windows_of s) number ls text)
        replies
        rest
    pub behind :
        later
        ≡ section_end
        (store_at s number)
        (lines_with_replies (lines_on_store (windows_of s) number ls) replies)

-- Each store with a lower number than this has left its part of the lines and of the text, and the
-- stores from this number on stay.
pub record FoundBelow
    (s : AllStores)
    (end : ℕ)
    (ls : List TraceLine)
    (text : List ℕ)
    (later : AllStores)
    : Type 0
  where
    pub parts :
        (number : ℕ) → number < end → LeavesPart s number ls text (store_at later number)
    pub others :
        (number : ℕ)
        → end ≤ number
        → number ≤ length s.windows
        → store_at later number ≡ store_at s number
    pub stays : Stays s later

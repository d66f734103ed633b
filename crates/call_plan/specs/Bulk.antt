-- H_BULK_REMOVE: four pairs of words, each a request to remove one entry.
use Rattle.hpte_fields.specs.TableSize.{entry_count}
use Rattle.std.specs.List.{list_any}
use Rattle.std.specs.Prelude.{Bool, ℕ, ◌+◌, ◌*◌, ◌/◌, ◌%◌, ◌^◌, ◌==◌, ◌&&◌, List, [], ◌∷◌, not, Option, Some, None, if◌then◌else◌, nat_lt}
use Rattle.papr_codes.specs.declared.codes.Rc.{Rc}
use Rattle.entry_model.specs.State.{State}
use Rattle.entry_model.specs.declared.operation.Test.{Test}
use Rattle.entry_model.specs.declared.operation.Answer.{Answer}
use Rattle.entry_model.specs.declared.operation.Answer.TheVariants.{NotFound}
use Rattle.entry_model.specs.declared.receipt.Receipt.{Receipt}
use Rattle.entry_model.specs.Receipt.{is_worn}
use Rattle.entry_model.specs.Trial.{Plan, Call, call}
use Rattle.call_plan.specs.declared.bulk.Asked.{Asked}
use Rattle.call_plan.specs.declared.bulk.Asked.TheVariants.{End, Remove, Refused}
use Rattle.papr_codes.specs.declared.codes.Rc.TheVariants as rc
use Rattle.entry_model.specs.declared.operation.Op.TheVariants as ops

-- One pair: the word that says what is asked, and the word of the test.
pub record Pair : Type 0 where
  pub request : ℕ
  pub word : ℕ

-- The words in twos; a last word alone is no pair.
abbrev pub pairs_of : List ℕ → List Pair
pairs_of (request ∷ word ∷ rest) = record { request = request; word = word } ∷ pairs_of rest
pairs_of other = []

-- ---- the fields of a request
-- Type, in the top two bits: 1 is a request, 3 ends the list.
abbrev pub type_of : ℕ → ℕ
type_of request = request / 2 ^ 62

-- The flags: 0 absolute, 1 H_ANDCOND, 2 H_AVPN.
abbrev pub flags_of : ℕ → ℕ
flags_of request = request / 2 ^ 56 % 2 ^ 2

-- The entry's index, in the low 56 bits.
abbrev pub index_of : ℕ → ℕ
index_of request = request % 2 ^ 56

-- ---- what a pair asks
-- The test that the flags ask for, by the pair's second word.
abbrev pub test_by : ℕ → ℕ → Option Test
test_by flags word =
    if flags == 0 then Some (record { avpn = None; andcond = None })
    else if flags == 1 then Some (record { avpn = None; andcond = Some word })
    else if flags == 2 then Some (record { avpn = Some word; andcond = None })
    else None

-- The entry is to be removed under this test; without a test the request is ill formed.
abbrev pub removes_under : ℕ → Option Test → Asked
removes_under entry None = Refused
removes_under entry (Some test) = Remove entry test

-- A request names an entry of the table and a test; anything else but the end is ill formed.
unfoldable pub asked_by : ℕ → Pair → Asked
asked_by order p =
    if type_of p.request == 3 then End
    else
    if
    (type_of p.request == 1)
    &&
    nat_lt
    (index_of p.request)
    (entry_count order)
    then
    removes_under
    (index_of p.request)
    (test_by (flags_of p.request) p.word)
    else Refused

-- ---- what a pair's first word becomes
-- A response: its top byte is the status and the flags, and the index stays.
abbrev pub response : ℕ → ℕ → ℕ
response status request = (status + flags_of request) * 2 ^ 56 + index_of request

-- R and C of the entry that was removed, in the status.
abbrev pub removed_status : State → ℕ
removed_status s = 0x80 + (if s.referenced then 0x08 else 0) + (if s.changed then 0x04 else 0)

-- The status of a request that is ill formed.
abbrev pub ill_formed : ℕ
ill_formed = 0xA0

-- The status of an entry whose stamp is at its last value.
abbrev pub worn_status : ℕ
worn_status = 0xB0

-- Removed, or not found.
abbrev pub status_of : Answer → State → ℕ
status_of NotFound s = 0x90
status_of other s = removed_status s

-- ---- what a response shows
-- C of the entry that was removed, in the top byte.
abbrev pub is_removed_changed : ℕ → Bool
is_removed_changed word = word / 2 ^ 58 % 2 == 1

-- A pair of these words has the entry's index, and C.
abbrev pub pairs_show : List ℕ → ℕ → Bool
pairs_show words entry =
    list_any
    (λ (p : Pair). (index_of p.request == entry) && is_removed_changed p.request)
    (pairs_of words)

-- ---- the call
-- Pairs as they were given.
abbrev pub words_of_pairs : List Pair → List ℕ
words_of_pairs [] = []
words_of_pairs (p ∷ ps) = p.request ∷ p.word ∷ words_of_pairs ps

-- The entries of the pairs before the first end or ill-formed pair, in order.
abbrev pub calls_before : Asked → List Call → List Call
calls_before End rest = []
calls_before (Remove entry test) rest = call (ops.Remove test) entry ∷ rest
calls_before Refused rest = []

-- The removals that the pairs ask for, in order.
unfoldable pub bulk_calls : ℕ → List Pair → List Call
bulk_calls order [] = []
bulk_calls order (p ∷ ps) = calls_before (asked_by order p) (bulk_calls order ps)

-- Words put before those of the pairs that follow.
abbrev pub words_before : ℕ → ℕ → Rc × List ℕ → Rc × List ℕ
words_before request word rest = (rest.0, request ∷ word ∷ rest.1)

-- A pair whose entry answered: at the last stamp the call ends with H_HARDWARE, else it goes on.
abbrev pub words_after_answer : Pair → Receipt → List Pair → Rc × List ℕ → Rc × List ℕ
words_after_answer p r ps rest =
    if is_worn r.answer
    then (rc.Hardware, response worn_status p.request ∷ p.word ∷ words_of_pairs ps)
    else words_before (response (status_of r.answer r.before) p.request) p.word rest

-- One pair, with the receipts of it and of the pairs that follow.
abbrev pub pair_told :
    Asked → Pair → List Pair → List Receipt → (List Receipt → Rc × List ℕ) → Rc × List ℕ
pair_told End p ps rs rest = (rc.Success, words_of_pairs (p ∷ ps))
pair_told Refused p ps rs rest =
    (rc.Parameter, response ill_formed p.request ∷ p.word ∷ words_of_pairs ps)
pair_told (Remove entry test) p ps [] rest = (rc.Hardware, words_of_pairs (p ∷ ps))
pair_told (Remove entry test) p ps (r ∷ rs) rest = words_after_answer p r ps (rest rs)

-- Code and all words, pair by pair.
unfoldable pub bulk_told : ℕ → List Pair → List Receipt → Rc × List ℕ
bulk_told order [] rs = (rc.Success, [])
bulk_told order (p ∷ ps) rs = pair_told (asked_by order p) p ps rs (bulk_told order ps)

-- The pairs are taken in order, and each entry is removed before the next is tried.
unfoldable pub h_bulk_remove_plan : ℕ → List ℕ → Plan
h_bulk_remove_plan order words = record {
  calls = bulk_calls order (pairs_of words);
  goes_on = λ answer. not (is_worn answer);
  told = bulk_told order (pairs_of words);
}

-- The law that an entry which is exported is imported as the same one, except for its stamp.
use Rattle.std.specs.Prelude.{◌≡◌, ℕ, ◌<◌, ◌^◌, ◌*◌, List, ◌++◌, length, Some, Ok, bit_and, true}
use Rattle.frame_grants.specs.declared.grant.Grant.{Grant}
use Rattle.hpte_fields.specs.Fields.{is_valid, stored_second}
use Rattle.page_grants.specs.Suited.{entered_words}
use Rattle.entry_model.specs.State.{State, IsCanonicalState}
use Rattle.entry_model.specs.Reply.{words_of}
use Rattle.table_image.specs.Layouts.{cleared_bit}
use Rattle.table_image.specs.declared.layout.Layout.{Layout}
use Rattle.papr_c.specs.Transfers.{entry_bytes, entry_of_bytes}

-- An entry of a table: written in the one way, of doublewords of 64 bits, and where it is valid one
-- of words that H_ENTER stores as they are, of a page that the grants hold.
pub record IsGranted (grants : List Grant) (s : State) : Type 0 where
  pub canonical : IsCanonicalState s
  pub first : s.dword0 < 2 ^ 64
  pub second : (words_of s).1 < 2 ^ 64
  pub cleared : bit_and (words_of s).1 cleared_bit ≡ 0
  pub valid : s.valid ≡ true → is_valid s.dword0 ≡ true
  pub stored : s.valid ≡ true → stored_second s.dword1 ≡ s.dword1
  pub entered : s.valid ≡ true → entered_words grants s.dword0 (words_of s).1 ≡ Some (words_of s)

-- In both layouts its bytes, after those of i others and whatever follows them, are imported as
-- this entry at stamp 0.
abbrev pub IsRoundTrip : Type 0
IsRoundTrip =
    (grants : List Grant) (layout : Layout) (s : State) (front bytes rest : List ℕ) (i : ℕ)
    → length front ≡ 16 * i
    → IsGranted grants s
    → entry_bytes layout s ≡ Some bytes
    → entry_of_bytes grants layout (front ++ (bytes ++ rest)) i ≡ Ok (record s { stamp = 0 })

-- Worked walks and replies, computed from the definitions.
use Rattle.std.specs.Prelude.{map}
use Rattle.std.proofs.Common.{◌≡◌, ℕ, List, [], ◌∷◌, true, false, refl}
use Rattle.storage_prot.specs.declared.want.Want.TheVariants.{Load, Store}
use Rattle.storage_prot.specs.Protection.{permission, rows}
use Rattle.power_addr.specs.Pages.{VirtualPage, virtual_page, tag_of}
use Rattle.frame_grants.specs.declared.grant.Grant.{Grant}
use Rattle.frame_grants.specs.declared.grant.Kind.TheVariants.{Ram}
use Rattle.frame_grants.specs.Grants.{machine_range}
use Rattle.hpt_hash.specs.Hash.{group_of}
use Rattle.hpt_hash.specs.Entries.{page_at}
use Rattle.entry_model.specs.State.{State, empty_state}
use Rattle.entry_model.specs.declared.receipt.Receipt.{Receipt}
use Rattle.entry_model.specs.Reply.{has_base, access_mode}
use Rattle.entry_model.specs.Receipt.{receipt_of}
use Rattle.entry_model.specs.Trial.{Call}
use Rattle.hpt_walk.specs.Walk.{access_op, walk_calls}
use Rattle.hpt_walk.specs.Access.{logical_of, outcome_of}
use Rattle.hpt_walk.specs.Translations.{translations}
use Rattle.entry_model.specs.declared.operation.Op.TheVariants as ops
use Rattle.entry_model.specs.declared.access_reply.Outcome.TheVariants as outcomes
use Rattle.entry_model.specs.declared.operation.Answer.TheVariants.{NoMatch}
use Rattle.authority_mask.specs.Authority.{no_masks, row_says, key_rows}

-- Page 5 of segment 1, in pages of 4 KB: its groups in the smallest table are 4 and 0x7FB.
abbrev page : VirtualPage
page = virtual_page false 1 12 5

abbrev calls : List Call
calls = walk_calls 18 page (access_mode false false Load no_masks)

-- ---- the walk order
entries :
    map (λ (c : Call). c.entry) calls
    ≡ 0x20
    ∷ 0x21
    ∷ 0x22
    ∷ 0x23
    ∷ 0x24
    ∷ 0x25
    ∷ 0x26
    ∷ 0x27
    ∷ 0x3FD8
    ∷ 0x3FD9
    ∷ 0x3FDA
    ∷ 0x3FDB
    ∷ 0x3FDC
    ∷ 0x3FDD
    ∷ 0x3FDE
    ∷ 0x3FDF
    ∷ []
unfolding walk_calls group_of
entries = refl

-- With the segment's number at 2 ^ 12 and V; in the secondary group with H.
first_op :
    access_op page (access_mode false false Load no_masks) false
    ≡ ops.Access 0x1001 12 false false Load no_masks
unfolding tag_of
first_op = refl

second_op :
    access_op page (access_mode true true Store no_masks) true
    ≡ ops.Access 0x1003 12 true true Store no_masks
unfolding tag_of
second_op = refl

-- ---- where an access ends
-- An entry of the page that maps frame 0x3000, readable and writable.
abbrev mapped : State
mapped =
    record {
      valid = true;
      dword0 = 0x1001;
      dword1 = 0x3012;
      referenced = false;
      changed = false;
      stamp = 1;
    }

-- One that is read-only.
abbrev read_only : State
read_only = record mapped { dword1 = 0x3013 }

-- A 64 KB page at frame 0x50000.
abbrev large : State
large = record mapped { dword0 = 0x1005; dword1 = 0x51012 }

abbrev grants : List Grant
grants = record { logical = 0; machine = 0x2000000000; length = 0x40000000; kind = Ram } ∷ []

abbrev load : ℕ → State → Receipt
load e s = receipt_of e s (access_op page (access_mode false false Load no_masks) false)

abbrev store : ℕ → State → Receipt
store e s = receipt_of e s (access_op page (access_mode false false Store no_masks) false)

in_small_page : logical_of 0x5678 mapped ≡ 0x3678
in_small_page = refl

in_large_page : logical_of 0x5678 large ≡ 0x55678
in_large_page = refl

-- A base page of 4 KB in 64 KB at frame 0x10000, and one of 64 KB in 16 MB at frame 0x3000000.
abbrev in_64_kb : State
in_64_kb = record mapped { dword0 = 0x1005; dword1 = 0x17012 }

abbrev in_16_mb : State
in_16_mb = record mapped { dword0 = 0x1585; dword1 = 0x3008012 }

in_base_page_of_64_kb : logical_of 0x5678 in_64_kb ≡ 0x15678
in_base_page_of_64_kb = refl

in_base_page_of_16_mb : logical_of 0x5801234 in_16_mb ≡ 0x3801234
in_base_page_of_16_mb = refl

at_base_page : outcome_of grants 0x5000 (load 0x20 in_64_kb ∷ []) ≡ outcomes.At 0x2000015000
unfolding outcome_of machine_range tag_of has_base permission rows row_says key_rows
at_base_page = refl

-- An access of 64 KB pages doesn't match a base page of 4 KB, whatever its actual page.
of_another_base_size :
    (receipt_of 0x20 in_64_kb
    (access_op (virtual_page false 1 16 0) (access_mode false false Load no_masks)
    false)).answer
    ≡ NoMatch
unfolding tag_of has_base
of_another_base_size = refl

at_granted :
    outcome_of grants 0x5678 (load 0x20 (empty_state 0) ∷ load 0x21 mapped ∷ [])
    ≡ outcomes.At 0x2000003678
unfolding outcome_of machine_range tag_of has_base permission rows row_says key_rows
at_granted = refl

denied : outcome_of grants 0x5678 (store 0x20 read_only ∷ []) ≡ outcomes.Denied
unfolding outcome_of tag_of has_base permission rows row_says key_rows
denied = refl

nothing :
    outcome_of grants 0x5678 (load 0x20 (empty_state 0) ∷ load 0x21 (empty_state 3) ∷ [])
    ≡ outcomes.NoPage
unfolding outcome_of
nothing = refl

not_granted : outcome_of [] 0x5678 (load 0x20 mapped ∷ []) ≡ outcomes.Ungranted 0x3678
unfolding outcome_of machine_range tag_of has_base permission rows row_says key_rows
not_granted = refl

-- ---- translations
-- Entry 1 is one of page 0 of segment 0. Entry 0 is one of no page, since its words encode 16 GB,
-- and entry 2 is empty.
listed :
    translations 18
    (record mapped { dword0 = 0x5 } ∷ record mapped { dword0 = 0x1 } ∷ empty_state 0 ∷ [])
    ≡ record { page = virtual_page false 0 12 0; entry = 1 } ∷ []
unfolding translations page_at group_of tag_of
listed = refl

-- An entry that maps 64 KB for base page 0 is one of that page alone.
one_base_page :
    translations 18 (record mapped { dword0 = 0x5; dword1 = 0x17012 } ∷ [])
    ≡ record { page = virtual_page false 0 12 0; entry = 0 } ∷ []
unfolding translations page_at group_of tag_of
one_base_page = refl

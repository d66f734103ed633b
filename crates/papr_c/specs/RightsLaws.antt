-- The laws that the rights and the causes of an access agree with the entry's answer to it.
use Rattle.std.specs.Prelude.{◌≡◌, ◌+◌, ◌↔◌, Bool, true}
use Rattle.entry_model.specs.State.{State}
use Rattle.entry_model.specs.declared.operation.Answer.TheVariants.{At}
use Rattle.entry_model.specs.Reply.{AccessMode, is_match, reply_of}
use Rattle.power_addr.specs.Pages.{VirtualPage, tag_of}
use Rattle.hpt_walk.specs.Walk.{access_op, h_bit}
use Rattle.c_layout.specs.Rights.{has_right, causes_of}

-- The entry translates the page, with H as the access has it.
abbrev pub Translates : State → VirtualPage → Bool → Type 0
Translates s page secondary =
    is_match s (tag_of page + h_bit secondary + 1) page.shift ≡ true

-- An access has the right exactly if the entry of its page would allow it and stay as it is.
abbrev pub RightsAreWhatStays : Type 0
RightsAreWhatStays =
    (s : State) (page : VirtualPage) (mode : AccessMode) (secondary : Bool)
    → Translates s page secondary
    → (has_right s mode ≡ true) ↔ (reply_of s (access_op page mode secondary) ≡ (At, s))

-- An entry of the page allows an access exactly if no cause holds.
abbrev pub NoCauseExactlyWhereAllowed : Type 0
NoCauseExactlyWhereAllowed =
    (s : State) (page : VirtualPage) (mode : AccessMode) (secondary : Bool)
    → Translates s page secondary
    → (causes_of s mode ≡ 0) ↔ ((reply_of s (access_op page mode secondary)).0 ≡ At)

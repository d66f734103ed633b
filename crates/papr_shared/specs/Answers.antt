-- What a call or a walk hands over: its answer, and what it puts into the caller's slots.
use Rattle.std.specs.Prelude.{◌≡◌, ℕ, List, map}
use Rattle.entry_model.specs.declared.hreply.HReply.{HReply}
use Rattle.c_layout.specs.declared.receipts.PaprReceipt.{PaprReceipt}
use Rattle.c_layout.specs.declared.reply.PaprReply.{PaprReply}
use Rattle.c_layout.specs.declared.walking.PaprWalk.{PaprWalk}
use Rattle.c_layout.specs.Slots.{filled, shown_receipt}
use Rattle.c_layout.specs.Replies.{refused_reply, reply_told}
use Rattle.c_layout.specs.WalkEnds.{refused_walk}

-- ---- hypervisor calls
-- The slots for words and for receipts before a call and after it, and its answer.
pub record Handed : Type 0 where
  pub words : List ℕ
  pub words_after : List ℕ
  pub receipts : List PaprReceipt
  pub receipts_after : List PaprReceipt
  pub answer : PaprReply

-- What a call hands over, made of its five parts.
abbrev pub handed :
    List ℕ → List ℕ → List PaprReceipt → List PaprReceipt → PaprReply → Handed
handed words words_after receipts receipts_after answer = record {
  words = words;
  words_after = words_after;
  receipts = receipts;
  receipts_after = receipts_after;
  answer = answer;
}

-- The answer is this reply's, whose words and receipts are in the slots, as far as they go.
pub record HandsOver (reply : HReply) (h : Handed) : Type 0 where
  pub answer : h.answer ≡ reply_told reply h.words h.receipts
  pub words : h.words_after ≡ filled h.words reply.words
  pub receipts : h.receipts_after ≡ filled h.receipts (map shown_receipt reply.receipts)

-- H_PARAMETER, and the slots are as they were.
pub record IsRefused (h : Handed) : Type 0 where
  pub answer : h.answer ≡ refused_reply
  pub words : h.words_after ≡ h.words
  pub receipts : h.receipts_after ≡ h.receipts

-- ---- walks
-- The slots for receipts before a walk and after it, and what it found.
pub record HandedWalk : Type 0 where
  pub receipts : List PaprReceipt
  pub receipts_after : List PaprReceipt
  pub found : PaprWalk

-- What a walk hands over, made of its three parts.
abbrev pub handed_walk : List PaprReceipt → List PaprReceipt → PaprWalk → HandedWalk
handed_walk receipts receipts_after found =
    record { receipts = receipts; receipts_after = receipts_after; found = found }

-- No entry was tried, and the slots are as they were.
pub record IsRefusedWalk (h : HandedWalk) : Type 0 where
  pub found : h.found ≡ refused_walk
  pub receipts : h.receipts_after ≡ h.receipts

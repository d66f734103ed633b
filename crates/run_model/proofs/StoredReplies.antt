-- Words that H_ENTER would store as they are stay so in an entry.
use Rattle.std.proofs.Common.{◌≡◌, ℕ, List, ap, sym, ◌∙◌}
use Rattle.std.proofs.lemmas.Nat.{and_assoc}
use Rattle.hpte_fields.specs.Fields.{protected_word, without_rc, stored_second}
use Rattle.hpte_fields.proofs.PageBits.{without_rc_page}
use Rattle.hpte_fields.proofs.KeptBits.{protected_control, protected_page, protected_second}
use Rattle.frame_grants.specs.declared.grant.Grant.{Grant}
use Rattle.trace_read.proofs.StoredWords.{AreStored, same_stored}
use Rattle.entry_model.proofs.KeptWords.{StaysInEntries}

without_rc_stored :
    (grants : List Grant) (dword0 dword1 : ℕ)
    → AreStored grants dword0 dword1
    → AreStored grants dword0 (without_rc dword1)
without_rc_stored grants h l is =
    let second : stored_second (without_rc l) ≡ without_rc l =
    and_assoc 0xBFFFFFFFFFFFFFFF l 0xFFFFFFFFFFFFFE7F
    ∙ sym (and_assoc 0xFFFFFFFFFFFFFE7F l 0xBFFFFFFFFFFFFFFF)
    ∙ ap without_rc is.second in
    same_stored grants h l (without_rc l) (without_rc_page l) (and_assoc 0x78 l 0xFFFFFFFFFFFFFE7F)
    second is

protected_stored :
    (grants : List Grant) (dword0 dword1 flags : ℕ)
    → AreStored grants dword0 dword1
    → AreStored grants dword0 (protected_word dword1 flags)
protected_stored grants h l flags is =
    same_stored grants h l (protected_word l flags) (protected_page l flags)
    (protected_control l flags) (protected_second l flags is.second) is

pub stored_stay : (grants : List Grant) → StaysInEntries (AreStored grants)
stored_stay grants = record {
  entered = without_rc_stored grants;
  protected = protected_stored grants;
}

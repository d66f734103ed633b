-- The words of an entry, with R and C put back, open as its state at stamp 0.
use Rattle.std.proofs.Common.{◌≡◌, true, ◌∙◌, refl}
use Rattle.hpte_fields.specs.Fields.{is_changed, is_referenced, stored_second, with_rc, without_rc}
use Rattle.table_image.proofs.PutBack.{put_off, read_changed, read_referenced, without_none}
use Rattle.entry_model.specs.State.{State, IsCanonicalState}
use Rattle.entry_model.specs.Reply.{entered_state, words_of}
use Rattle.hpt_resize.specs.Rehash.{at_stamp_0}

pub state_back :
    (s : State)
    → IsCanonicalState s
    → s.valid ≡ true
    → stored_second s.dword1 ≡ s.dword1
    → entered_state (words_of s).0 (words_of s).1 ≡ at_stamp_0 s
state_back s canonical valid kept =
    let word = with_rc s.dword1 s.referenced s.changed in
    let second : without_rc word ≡ s.dword1 = put_off s.dword1 0xFFFFFFFFFFFFFE7F s.referenced
    s.changed refl refl ∙ without_none s.dword1 kept canonical.apart in
    let referenced : is_referenced word ≡ s.referenced = read_referenced s.dword1 s.referenced
    s.changed canonical.apart in
    let changed : is_changed word ≡ s.changed = read_changed s.dword1 s.referenced s.changed
    canonical.apart in
    cc

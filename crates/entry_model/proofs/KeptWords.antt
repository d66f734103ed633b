-- What holds of the words of a valid entry, and is kept by every reply.
use Rattle.std.proofs.Common.{◌≡◌, ℕ, ◌+◌, true, false}
use Rattle.hpte_fields.specs.Fields.{protected_word, without_rc}
use Rattle.entry_model.specs.State.{State, empty_state}
use Rattle.entry_model.specs.declared.operation.Answer.{Answer}
use Rattle.entry_model.specs.declared.operation.Op.{Op}
use Rattle.entry_model.specs.Reply.{reply_of}
use Rattle.entry_model.proofs.PlanBounds.{EntersOnly}
use Rattle.entry_model.proofs.Replied.{Changes, enters, removes, protects, clears_r, clears_c, Replied, replied, left, changed, accessed}

-- The words of the entry are such ones, where it is valid.
abbrev pub HasWords : (ℕ → ℕ → Type 0) → State → Type 0
HasWords W s = s.valid ≡ true → W s.dword0 s.dword1

-- Such words are still such ones with R and C cleared, and with other flags of H_PROTECT.
pub record StaysInEntries (W : ℕ → ℕ → Type 0) : Type 0 where
  pub entered : (dword0 dword1 : ℕ) → W dword0 dword1 → W dword0 (without_rc dword1)
  pub protected :
      (dword0 dword1 flags : ℕ) → W dword0 dword1 → W dword0 (protected_word dword1 flags)

pub empty_words : (W : ℕ → ℕ → Type 0) (stamp : ℕ) → HasWords W (empty_state stamp)
empty_words W stamp = λ e. absurd (let never : false ≡ true = e in cc)

changed_words :
    (W : ℕ → ℕ → Type 0) (s : State) {op : Op} {a : Answer} {next : State}
    → StaysInEntries W
    → Changes s op a next
    → EntersOnly W op
    → HasWords W s
    → HasWords W (record next { stamp = s.stamp + 1 })
changed_words W s stays (enters dword0 dword1 valid) w h = λ _. stays.entered dword0 dword1 w
changed_words W s stays (removes test valid) w h = empty_words W (s.stamp + 1)
changed_words W s stays (protects test flags valid) w h =
    λ e. stays.protected s.dword0 s.dword1 flags (h e)
changed_words W s stays (clears_r valid) w h = h
changed_words W s stays (clears_c valid) w h = h

-- Where no other words are entered, a reply leaves such ones.
pub reply_words :
    (W : ℕ → ℕ → Type 0) (s : State) (op : Op)
    → StaysInEntries W
    → EntersOnly W op
    → HasWords W s
    → HasWords W (reply_of s op).1
reply_words W s op stays w h = at (replied s op) w where
  at : {op : Op} {x : Answer × State} → Replied s op x → EntersOnly W op → HasWords W x.1
  at (left a is) w = h
  at (changed a next changes is) w = changed_words W s stays changes w h
  at (accessed tag base key no_execute want masks valid) w = h

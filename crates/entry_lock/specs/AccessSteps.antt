-- What each step of an access leaves of its pass's view, by the word that it found. The view is v
-- before the step and w after it. Each is one step of the machine.
use Rattle.std.specs.Prelude.{◌≡◌, ◌≢◌, ℕ, ◌||◌, Bool, true, false, length, Option, unwrap_or}
use Rattle.entry_model.specs.declared.operation.Op.{Op}
use Rattle.entry_model.specs.Fronts.{IsAhead}
use Rattle.lock_core.specs.declared.control.Control.{Control}
use Rattle.lock_core.specs.declared.doing.Doing.{Doing}
use Rattle.lock_core.specs.declared.phase.Phase.TheVariants.{Idle, Looked}
use Rattle.lock_core.specs.declared.step.Step.{Step}
use Rattle.lock_core.specs.declared.step.Step.TheVariants.{Look, LoadData, Mark}
use Rattle.lock_core.specs.Words.{without_bits, known_words, is_read, receipt, is_noted, is_still}
use Rattle.lock_core.specs.Steps.{new_doing, with_noted}
use Rattle.entry_lock.specs.declared.rule.View.{View}
use Rattle.entry_lock.specs.Layout.{word_of, Means}
use Rattle.entry_lock.specs.CallSteps.{leaves_state}
use Rattle.entry_lock.specs.StepViews.{view_with_step, view_in_phase, view_with_receipt, view_with_count, doing_with_word}

-- ---- the first look
-- The look found the entry shut, and changed nothing; or the word is noted now. A pass with all
-- shares finds it open. The machine also notes what the actor has seen of the entry, which the code
-- can't know.
abbrev pub LookTells : Op → ℕ → View → ℕ → View → Type 0
LookTells op e v found w = (noted : Control) × Means found noted
    × (length v.numbers ≡ v.passes → noted.shut ≡ false)
    × (noted.shut ≡ true → w ≡ view_with_count (view_with_step v (Look e op)) e found found)
    × (noted.shut ≡ false
    → (seen : Option (ℕ × ℕ))
    × (let looked : View = view_in_phase (view_with_step v (Look e op))
    (Looked (new_doing e op noted seen)) in
    w ≡ view_with_count looked e found found))

-- The access has loaded a data word.
abbrev pub LookedLoadTells : Bool → Doing → View → ℕ → View → Type 0
LookedLoadTells second d v found w =
    w ≡ view_in_phase (view_with_step v (LoadData second)) (Looked (doing_with_word second found d))

-- ---- what an access knows
-- The operation d of an actor, as the code has it in a: what was seen may differ, but the words
-- that are known stand for the same state.
pub record AreAlike (a d : Doing) : Type 0 where
  pub entry : d.entry ≡ a.entry
  pub op : d.op ≡ a.op
  pub noted : d.noted ≡ a.noted
  pub first : d.first ≡ a.first
  pub second : d.second ≡ a.second
  pub read : is_read a ≡ true → is_read d ≡ true
  pub words :
      d.noted.valid ≡ true
      → ((unwrap_or (known_words d) (0, 0)).0 ≡ (unwrap_or (known_words a) (0, 0)).0)
      × (without_bits (unwrap_or (known_words d) (0, 0)).1
      ≡ without_bits (unwrap_or (known_words a) (0, 0)).1)

-- The pass has looked, for what the code has as this operation.
abbrev pub IsLooking : View → Doing → Type 0
IsLooking v a = (d : Doing) × (v.actor.phase ≡ Looked d) × AreAlike a d

-- ---- the step that decides
-- The view with the receipt of an operation at this step, which decides it, and the receipt isn't
-- before the pass's front.
abbrev pub Decides : Step → Doing → Doing → View → ℕ → View → Type 0
Decides step d by v found w =
    (let made : View = view_with_receipt (view_with_step v step) (receipt by) in
    w ≡ view_with_count made d.entry (word_of d.noted) found)
    × IsAhead v.fronts (receipt by)

-- The step found another word, and there is no receipt.
abbrev pub Misses : Step → Doing → View → ℕ → View → Type 0
Misses step d v found w =
    w ≡ view_with_count (view_in_phase (view_with_step v step) Idle) d.entry (word_of d.noted) found

-- By another word at the stamp that was noted, the operation leaves the entry as well.
pub record LeavesAlike (d : Doing) (noted : Control) : Type 0 where
  pub valid : noted.valid ≡ d.noted.valid
  pub leaves : leaves_state (receipt (with_noted d noted)) ≡ true

-- By this word a second look decides: it is the word noted, or the data words were seen and it is
-- at their stamp.
abbrev pub is_decided : Control → Doing → Bool
is_decided found d = is_noted found d.noted || is_still found d

-- The second look decides, and the receipt has the R and C found.
abbrev pub DecidesByFound : Doing → Control → View → ℕ → View → Type 0
DecidesByFound d noted v found w =
    Decides (Look d.entry d.op) d (with_noted d noted) v found w × LeavesAlike d noted

-- The second look, of an access that raises no bit. By the word found it decides, or there is no
-- receipt. A pass with all shares finds the word noted.
abbrev pub SecondLookTells : Doing → View → ℕ → View → Type 0
SecondLookTells d v found w = (noted : Control) × Means found noted
    × (length v.numbers ≡ v.passes → found ≡ word_of d.noted)
    × (is_decided noted d ≡ true → DecidesByFound d noted v found w)
    × (is_decided noted d ≡ false → Misses (Look d.entry d.op) d v found w)

-- The mark, of an access that raises a bit. It finds the word noted, and the receipt is made; or it
-- finds another word, changes nothing, and there is none.
abbrev pub MarkTells : Doing → View → ℕ → View → Type 0
MarkTells d v found w = (noted : Control) × Means found noted
    × (length v.numbers ≡ v.passes → found ≡ word_of d.noted)
    × (found ≡ word_of d.noted → Decides Mark d d v found w)
    × (found ≢ word_of d.noted → Misses Mark d v found w)

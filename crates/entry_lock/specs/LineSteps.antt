-- What each step of an access by a cached translation leaves of its pass's view, by the word that
-- it found. The view is v before the step and w after it. Each is one step of the machine, except
-- for a first look that finds the line gone.
use Rattle.std.specs.Prelude.{◌≡◌, ◌≢◌, ℕ, ◌==◌, ◌||◌, not, Bool, true, false, length, Some}
use Rattle.entry_model.specs.declared.line.Line.{Line}
use Rattle.entry_model.specs.declared.operation.Op.{Op}
use Rattle.entry_model.specs.Fronts.{IsGone}
use Rattle.lock_core.specs.declared.control.Control.{Control}
use Rattle.lock_core.specs.declared.doing.Doing.{Doing}
use Rattle.lock_core.specs.declared.phase.Phase.TheVariants.{Idle, Looked}
use Rattle.lock_core.specs.declared.step.Step.TheVariants.{Look, Mark}
use Rattle.lock_core.specs.Words.{without_bits}
use Rattle.lock_core.specs.Steps.{new_doing}
use Rattle.entry_lock.specs.declared.rule.View.{View}
use Rattle.entry_lock.specs.Layout.{word_of, Means}
use Rattle.entry_lock.specs.StepViews.{view_with_step, view_in_phase, view_with_count, view_past}
use Rattle.entry_lock.specs.AccessSteps.{AreAlike, Decides, DecidesByFound, Misses, is_decided}

-- The entry is gone from the stamp: its word is shut, isn't valid, or has another stamp.
abbrev pub is_gone_from : Control → ℕ → Bool
is_gone_from k stamp = k.shut || (not k.valid || not (k.stamp == stamp))

-- The operation with the line's doublewords, which need no load.
abbrev pub doing_by_line : Line → Op → Control → Doing
doing_by_line cached op noted =
    new_doing cached.entry op noted (Some (cached.dword0, cached.dword1))

-- The line is gone for the pass, by the word that its step on the entry e found.
abbrev pub GoesPast : Line → View → ℕ → ℕ → ℕ → View → Type 0
GoesPast cached v e looked found w =
    (w ≡ view_with_count (view_past v cached) e looked found) × IsGone w.fronts cached

-- The first look found the entry gone from the line's stamp, and the line is gone: no word and no
-- phase changes. Or the word is noted, and the line's doublewords are the entry's.
abbrev pub LineLookTells : Line → Op → View → ℕ → View → Type 0
LineLookTells cached op v found w = (noted : Control) × Means found noted
    × (is_gone_from noted cached.stamp ≡ true → GoesPast cached v cached.entry found found w)
    × (is_gone_from noted cached.stamp ≡ false
    → (d : Doing) × AreAlike (doing_by_line cached op noted) d
    × (let looked : View = view_in_phase (view_with_step v (Look cached.entry op)) (Looked d) in
    w ≡ view_with_count looked cached.entry found found)
    × (without_bits cached.dword1 ≡ cached.dword1))

-- The second look by a line: where there is no receipt the line is gone.
abbrev pub LineSecondLookTells : Line → Doing → View → ℕ → View → Type 0
LineSecondLookTells cached d v found w = (noted : Control) × Means found noted
    × (is_decided noted d ≡ true → DecidesByFound d noted v found w)
    × (is_decided noted d ≡ false
    → (let idle : View = view_in_phase (view_with_step v (Look d.entry d.op)) Idle in
    GoesPast cached idle d.entry (word_of d.noted) found w)
    × (is_gone_from noted cached.stamp ≡ true))

-- The mark by a line: where there is no receipt the line is gone, or the entry is at its stamp with
-- another word, and the pass tries again. A pass with all shares finds the word noted.
abbrev pub LineMarkTells : Line → Doing → View → ℕ → View → Type 0
LineMarkTells cached d v found w = (noted : Control) × Means found noted
    × (length v.numbers ≡ v.passes → found ≡ word_of d.noted)
    × (found ≡ word_of d.noted → Decides Mark d d v found w)
    × (found ≢ word_of d.noted → is_gone_from noted cached.stamp ≡ true
    → (let idle : View = view_in_phase (view_with_step v Mark) Idle in
    GoesPast cached idle d.entry (word_of d.noted) found w))
    × (found ≢ word_of d.noted → is_gone_from noted cached.stamp ≡ false → Misses Mark d v found w)

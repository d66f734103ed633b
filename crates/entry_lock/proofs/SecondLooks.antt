-- What a word has by which a second look decides.
use Rattle.std.proofs.Common.{◌≡◌, true, false, ⊎_elim, ap, ◌∙◌}
use Rattle.std.proofs.lemmas.Bool.{and_parts, or_cases, eqb-true, not-true}
use Rattle.lock_core.specs.declared.control.Control.{Control}
use Rattle.lock_core.specs.declared.doing.Doing.{Doing}
use Rattle.lock_core.specs.Words.{is_noted, is_still}
use Rattle.lock_core.proofs.Noted.{noted_same}
use Rattle.entry_lock.specs.AccessSteps.{is_decided}

-- A word that is still at the noted stamp is valid there, and isn't shut.
pub still_parts :
    (d : Doing) (k : Control)
    → is_still k d ≡ true
    → (k.valid ≡ true) × (k.shut ≡ false) × (k.stamp ≡ d.noted.stamp)
unfolding is_still
still_parts d k h =
    let p = and_parts _ _ h in
    let q = and_parts _ _ p.0 in
    let r = and_parts _ _ q.0 in
    (r.1, not-true k.shut q.1, eqb-true k.stamp d.noted.stamp p.1)

-- Where the noted word is valid, so is the one that decides, at the same stamp.
pub decided_word :
    (d : Doing) (k : Control)
    → d.noted.valid ≡ true
    → is_decided k d ≡ true
    → (k.valid ≡ true) × (k.stamp ≡ d.noted.stamp)
decided_word d k valid h =
    ⊎_elim {C = (k.valid ≡ true) × (k.stamp ≡ d.noted.stamp)}
    (λ (hit : is_noted k d.noted ≡ true). let same = noted_same k d.noted hit in
    (ap (λ (c : Control). c.valid) same ∙ valid, ap (λ (c : Control). c.stamp) same))
    (λ (still : is_still k d ≡ true). let p = still_parts d k still in (p.0, p.2))
    (or_cases _ _ h)

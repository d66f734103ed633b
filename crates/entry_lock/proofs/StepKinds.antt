-- Each kind of step: when it is allowed, and the turn that it takes.
use Rattle.std.specs.Prelude.{if◌then◌else◌}
use Rattle.std.proofs.Common.{◌≡◌, ℕ, ◌&&◌, ◌||◌, not, Bool, true, false, ⊎_elim, refl, sym, ap, ◌∙◌, eq-eqb, Option, None}
use Rattle.std.proofs.lemmas.Bool.{false≢true, or_parts, cases_Bool}
use Rattle.storage_prot.specs.declared.want.Want.{Want}
use Rattle.storage_prot.specs.declared.want.Want.TheVariants.{Load, Store, Fetch}
use Rattle.entry_model.specs.declared.operation.Op.{Op}
use Rattle.entry_model.specs.declared.operation.Op.TheVariants.{Enter, Remove, Protect, Read, ClearRef, ClearMod, Access}
use Rattle.entry_model.specs.Receipt.{is_access}
use Rattle.basics.proofs.Bools.{bool_self}
use Rattle.lock_core.specs.declared.doing.Doing.{Doing}
use Rattle.lock_core.specs.declared.entry.Entry.{Entry}
use Rattle.lock_core.specs.declared.phase.Phase.TheVariants.{Idle, Held, HeldShut, Looked}
use Rattle.lock_core.specs.declared.step.Step.TheVariants.{Lock, Look, LoadData, Shut, StoreData, Settle, Release, Mark}
use Rattle.lock_core.specs.Words.{next_state, is_read, changes, receipt, is_noted, is_still, is_stored, same_access, want_eq}
use Rattle.lock_core.specs.Machine.{Machine, in_table}
use Rattle.lock_core.specs.Steps.{fits, step_result, names_entry, second_look, result_without_receipt, result_with_receipt, new_doing, with_noted, with_loaded, with_stored, locked_entry, shut_entry, settled_entry, marked_entry}
use Rattle.lock_core.proofs.Noted.{noted_same}
use Rattle.entry_lock.specs.Laws.{IsOnEntry}
use Rattle.entry_lock.specs.AccessSteps.{is_decided}

-- ---- steps on an entry
pub lock_on : (e : ℕ) (op : Op) → IsOnEntry (Lock e op)
lock_on e op = record { no_split = λ to h. cc; no_join = λ from h. cc }

pub look_on : (e : ℕ) (op : Op) → IsOnEntry (Look e op)
look_on e op = record { no_split = λ to h. cc; no_join = λ from h. cc }

pub load_on : (second : Bool) → IsOnEntry (LoadData second)
load_on second = record { no_split = λ to h. cc; no_join = λ from h. cc }

pub store_on : (second : Bool) → IsOnEntry (StoreData second)
store_on second = record { no_split = λ to h. cc; no_join = λ from h. cc }

pub shut_on : IsOnEntry Shut
shut_on = record { no_split = λ to h. cc; no_join = λ from h. cc }

pub settle_on : IsOnEntry Settle
settle_on = record { no_split = λ to h. cc; no_join = λ from h. cc }

pub release_on : IsOnEntry Release
release_on = record { no_split = λ to h. cc; no_join = λ from h. cc }

pub mark_on : IsOnEntry Mark
mark_on = record { no_split = λ to h. cc; no_join = λ from h. cc }

-- ---- entries that steps name
pub names_lock :
    (m : Machine) (e : ℕ) (op : Op) → in_table m e ≡ true → names_entry m (Lock e op) ≡ true
unfolding names_entry
names_lock m e op h = h

pub names_look :
    (m : Machine) (e : ℕ) (op : Op) → in_table m e ≡ true → names_entry m (Look e op) ≡ true
unfolding names_entry
names_look m e op h = h

pub names_load : (m : Machine) (second : Bool) → names_entry m (LoadData second) ≡ true
unfolding names_entry
names_load m second = refl

pub names_store : (m : Machine) (second : Bool) → names_entry m (StoreData second) ≡ true
unfolding names_entry
names_store m second = refl

pub names_shut : (m : Machine) → names_entry m Shut ≡ true
unfolding names_entry
names_shut m = refl

pub names_settle : (m : Machine) → names_entry m Settle ≡ true
unfolding names_entry
names_settle m = refl

pub names_release : (m : Machine) → names_entry m Release ≡ true
unfolding names_entry
names_release m = refl

pub names_mark : (m : Machine) → names_entry m Mark ≡ true
unfolding names_entry
names_mark m = refl

-- ---- which steps are allowed
pub fits_lock :
    (x : Entry) (e : ℕ) (op : Op) → is_access op ≡ false → fits x Idle (Lock e op) ≡ true
unfolding fits
fits_lock x e op h = ap not h

pub fits_look : (x : Entry) (e : ℕ) (op : Op) → is_access op ≡ true → fits x Idle (Look e op) ≡ true
unfolding fits
fits_look x e op h = h

pub fits_load :
    (x : Entry) (d : Doing) (second : Bool)
    → d.noted.valid ≡ true
    → fits x (Held d) (LoadData second) ≡ true
unfolding fits
fits_load x d second h = h

pub fits_shut :
    (x : Entry) (d : Doing) → (is_read d && changes d) ≡ true → fits x (Held d) Shut ≡ true
unfolding fits
fits_shut x d h = h

pub fits_release :
    (x : Entry) (d : Doing) → (is_read d && not (changes d)) ≡ true → fits x (Held d) Release ≡ true
unfolding fits
fits_release x d h = h

pub fits_store :
    (x : Entry) (d : Doing) (second : Bool) → fits x (HeldShut d) (StoreData second) ≡ true
unfolding fits
fits_store x d second = refl

pub fits_settle :
    (x : Entry) (d : Doing) → is_stored x (next_state d) ≡ true → fits x (HeldShut d) Settle ≡ true
unfolding fits
fits_settle x d h = h

pub fits_looked_load :
    (x : Entry) (d : Doing) (second : Bool)
    → d.noted.valid ≡ true
    → fits x (Looked d) (LoadData second) ≡ true
unfolding fits
fits_looked_load x d second h = h

pub fits_mark :
    (x : Entry) (d : Doing) → (is_read d && changes d) ≡ true → fits x (Looked d) Mark ≡ true
unfolding fits
fits_mark x d h = h

want_self : (w : Want) → want_eq w w ≡ true
want_self Load = refl
want_self Store = refl
want_self Fetch = refl

access_self : (op : Op) → is_access op ≡ true → same_access op op ≡ true
unfolding same_access
access_self (Access tag base key no_execute want masks) h =
    λ i.
    eq-eqb tag tag refl i && eq-eqb base base refl i && bool_self key i && bool_self no_execute i &&
    want_self want i &&
    (eq-eqb masks.amr masks.amr refl i && eq-eqb masks.iamr masks.iamr refl i)
access_self (Enter dword0 dword1) h = absurd (false≢true h)
access_self (Remove test) h = absurd (false≢true h)
access_self (Protect test flags) h = absurd (false≢true h)
access_self Read h = absurd (false≢true h)
access_self ClearRef h = absurd (false≢true h)
access_self ClearMod h = absurd (false≢true h)

pub fits_again :
    (x : Entry) (d : Doing)
    → is_access d.op ≡ true
    → (is_read d && not (changes d)) ≡ true
    → fits x (Looked d) (Look d.entry d.op) ≡ true
unfolding fits
fits_again x d access h = λ i. (eq-eqb d.entry d.entry refl i && access_self d.op access i) && h i

-- ---- turns
pub lock_taken :
    (seen : Option (ℕ × ℕ)) (x : Entry) (e : ℕ) (op : Op)
    → x.control.locked ≡ true
    → step_result seen x Idle (Lock e op) ≡ result_without_receipt x Idle
unfolding step_result
lock_taken seen x e op h =
    ap
    (λ b.
    if b then result_without_receipt x Idle else result_without_receipt (locked_entry x true)
    (Held (new_doing e op x.control None))) h

pub lock_free :
    (seen : Option (ℕ × ℕ)) (x : Entry) (e : ℕ) (op : Op)
    → x.control.locked ≡ false
    → step_result seen x Idle (Lock e op)
    ≡ result_without_receipt (locked_entry x true) (Held (new_doing e op x.control None))
unfolding step_result
lock_free seen x e op h =
    ap
    (λ b.
    if b then result_without_receipt x Idle else result_without_receipt (locked_entry x true)
    (Held (new_doing e op x.control None))) h

pub look_shut :
    (seen : Option (ℕ × ℕ)) (x : Entry) (e : ℕ) (op : Op)
    → x.control.shut ≡ true
    → step_result seen x Idle (Look e op) ≡ result_without_receipt x Idle
unfolding step_result
look_shut seen x e op h =
    ap
    (λ b.
    if b then result_without_receipt x Idle else result_without_receipt x
    (Looked (new_doing e op x.control seen))) h

pub look_open :
    (seen : Option (ℕ × ℕ)) (x : Entry) (e : ℕ) (op : Op)
    → x.control.shut ≡ false
    → step_result seen x Idle (Look e op)
    ≡ result_without_receipt x (Looked (new_doing e op x.control seen))
unfolding step_result
look_open seen x e op h =
    ap
    (λ b.
    if b then result_without_receipt x Idle else result_without_receipt x
    (Looked (new_doing e op x.control seen))) h

pub load_turn :
    (seen : Option (ℕ × ℕ)) (x : Entry) (d : Doing) (second : Bool)
    → step_result seen x (Held d) (LoadData second)
    ≡ result_without_receipt x (Held (with_loaded second x d))
unfolding step_result
load_turn seen x d second = refl

pub shut_turn :
    (seen : Option (ℕ × ℕ)) (x : Entry) (d : Doing)
    → step_result seen x (Held d) Shut
    ≡ result_without_receipt (shut_entry x) (HeldShut (with_noted d x.control))
unfolding step_result
shut_turn seen x d = refl

pub release_turn :
    (seen : Option (ℕ × ℕ)) (x : Entry) (d : Doing)
    → step_result seen x (Held d) Release
    ≡ result_with_receipt (locked_entry x false) (receipt (with_noted d x.control))
unfolding step_result
release_turn seen x d = refl

pub store_turn :
    (seen : Option (ℕ × ℕ)) (x : Entry) (d : Doing) (second : Bool)
    → step_result seen x (HeldShut d) (StoreData second)
    ≡ result_without_receipt (with_stored second (next_state d) x) (HeldShut d)
unfolding step_result
store_turn seen x d second = refl

pub settle_turn :
    (seen : Option (ℕ × ℕ)) (x : Entry) (d : Doing)
    → step_result seen x (HeldShut d) Settle
    ≡ result_with_receipt (settled_entry x (next_state d)) (receipt d)
unfolding step_result
settle_turn seen x d = refl

pub looked_load_turn :
    (seen : Option (ℕ × ℕ)) (x : Entry) (d : Doing) (second : Bool)
    → step_result seen x (Looked d) (LoadData second)
    ≡ result_without_receipt x (Looked (with_loaded second x d))
unfolding step_result
looked_load_turn seen x d second = refl

pub again_decided :
    (seen : Option (ℕ × ℕ)) (x : Entry) (d : Doing) (e : ℕ) (op : Op)
    → is_decided x.control d ≡ true
    → step_result seen x (Looked d) (Look e op)
    ≡ result_with_receipt x (receipt (with_noted d x.control))
unfolding step_result second_look
again_decided seen x d e op h =
    ⊎_elim {C = second_look x d ≡ result_with_receipt x (receipt (with_noted d x.control))}
    (λ (hit : is_noted x.control d.noted ≡ true).
    ap
    (λ b.
    if b then result_with_receipt x (receipt d) else
    (if is_still x.control d then result_with_receipt x (receipt (with_noted d x.control))
    else result_without_receipt x Idle)) hit
    ∙ ap (λ k. result_with_receipt x (receipt (with_noted d k)))
    (sym (noted_same x.control d.noted hit)))
    (λ (miss : is_noted x.control d.noted ≡ false).
    ap
    (λ b.
    if b then result_with_receipt x (receipt d) else
    (if is_still x.control d then result_with_receipt x (receipt (with_noted d x.control))
    else result_without_receipt x Idle)) miss
    ∙ ap
    (λ b.
    if b then result_with_receipt x (receipt (with_noted d x.control)) else
    result_without_receipt x Idle) (sym (ap (λ b. b || is_still x.control d) miss) ∙ h))
    (cases_Bool (is_noted x.control d.noted))

pub again_miss :
    (seen : Option (ℕ × ℕ)) (x : Entry) (d : Doing) (e : ℕ) (op : Op)
    → is_decided x.control d ≡ false
    → step_result seen x (Looked d) (Look e op) ≡ result_without_receipt x Idle
unfolding step_result second_look
again_miss seen x d e op h = let p = or_parts _ _ h in
    ap
    (λ b.
    if b then result_with_receipt x (receipt d) else
    (if is_still x.control d then result_with_receipt x (receipt (with_noted d x.control))
    else result_without_receipt x Idle)) p.0
    ∙ ap
    (λ b.
    if b then result_with_receipt x (receipt (with_noted d x.control)) else
    result_without_receipt x Idle) p.1

pub mark_hit :
    (seen : Option (ℕ × ℕ)) (x : Entry) (d : Doing)
    → is_noted x.control d.noted ≡ true
    → step_result seen x (Looked d) Mark
    ≡ result_with_receipt (marked_entry x (next_state d)) (receipt d)
unfolding step_result
mark_hit seen x d h =
    ap
    (λ b.
    if b then result_with_receipt (marked_entry x (next_state d)) (receipt d) else
    result_without_receipt x Idle) h

pub mark_miss :
    (seen : Option (ℕ × ℕ)) (x : Entry) (d : Doing)
    → is_noted x.control d.noted ≡ false
    → step_result seen x (Looked d) Mark ≡ result_without_receipt x Idle
unfolding step_result
mark_miss seen x d h =
    ap
    (λ b.
    if b then result_with_receipt (marked_entry x (next_state d)) (receipt d) else
    result_without_receipt x Idle) h

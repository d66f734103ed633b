-- What a walk of entries finds, by each of them as it is.
use Rattle.std.specs.Prelude.{slice_set}
use Rattle.std.proofs.Common.{◌≡◌, ℕ, ◌+◌, List, [], ◌∷◌, drop, true, false, Option, Some, None, refl, ap, sym, subst, ◌∙◌, ◌⊎◌, inl, inr}
use Rattle.std.specs.List.{AllByRecursion}
use Rattle.std.proofs.lemmas.Bool.{cases_Bool}
use Rattle.std.proofs.Math.Numerals.{add-one}
use Rattle.std.proofs.lemmas.List.{set-get_or}
use Rattle.hpt_walk.proofs.Unchanged.{calls_access}
use Rattle.storage_prot.specs.declared.want.Want.{Want}
use Rattle.power_addr.specs.Pages.{VirtualPage}
use Rattle.entry_model.specs.State.{State, empty_state}
use Rattle.entry_model.specs.declared.operation.Op.{Op}
use Rattle.entry_model.specs.declared.receipt.Receipt.{Receipt}
use Rattle.entry_model.specs.Receipt.{after_of, is_access, is_no_match, found_of}
use Rattle.entry_model.specs.Run.{states_after}
use Rattle.entry_model.specs.Trial.{Call, call, receipt_at, trial_run}
use Rattle.entry_model.proofs.OperationLaws.{access_undone}
use Rattle.hpt_walk.specs.Walk.{walk_calls}
use Rattle.hpt_walk.proofs.Found.{found-on, found-off}
use Rattle.c_layout.specs.declared.walking.PaprAccess.{PaprAccess}
use Rattle.c_layout.specs.declared.walking.PaprWalk.{PaprWalk}
use Rattle.c_layout.specs.Tables.{is_table}
use Rattle.c_layout.specs.WalkEnds.{mode_of, walk_end}
use Rattle.papr_c.specs.Walks.{each_as_is, walk_run, outcome_of_probe}
use Rattle.c_layout.specs.Accesses.{page_of, want_of}
use Rattle.entry_model.specs.Calls.{call_at}
use Rattle.papr_c.proofs.SoFar.{drop_at, drop_none, step_on, step_off, no_more}
use Rattle.entry_model.proofs.Trials.{no_match_not_at}

-- ---- nothing changes before the entry that is found
found_as_is :
    (a : List State) (cs : List Call)
    → AllByRecursion (λ (c : Call). is_access c.op ≡ true) cs
    → found_of (trial_run is_no_match a cs).0 ≡ found_of (each_as_is a cs)
unfolding each_as_is
found_as_is a [] all = ap (λ (z : List Receipt × List State). found_of z.0) (no_more is_no_match a)
found_as_is a (c ∷ cs) all = at (cases_Bool (is_no_match r.answer)) (found_as_is a cs all.1) where
  r : Receipt
  r = receipt_at a c

  at :
      (is_no_match r.answer ≡ true) ⊎ (is_no_match r.answer ≡ false)
      → found_of (trial_run is_no_match a cs).0 ≡ found_of (each_as_is a cs)
      → found_of (trial_run is_no_match a (c ∷ cs)).0 ≡ found_of (r ∷ each_as_is a cs)
  at (inl on) rest =
      let same :
      after_of r ≡ r.before = access_undone r.before c.op all.0 (no_match_not_at r.answer on)
      in
      let stays : states_after a r ≡ a = ap (λ (s : State). slice_set a c.entry s) same ∙ set-get_or
      a c.entry (empty_state 0) in
      ap (λ (z : List Receipt × List State). found_of z.0) (step_on is_no_match a c cs r refl on)
      ∙ found-on r (trial_run is_no_match (states_after a r) cs).0 on
      ∙ ap (λ b. found_of (trial_run is_no_match b cs).0) stays
      ∙ rest
      ∙ sym (found-on r (each_as_is a cs) on)
  at (inr off) rest =
      ap (λ (z : List Receipt × List State). found_of z.0) (step_off is_no_match a c cs r refl off)
      ∙ found-off r [] off
      ∙ sym (found-off r (each_as_is a cs) off)

-- ---- the calls of a walk
-- What a walk finds, of entries as they are.
pub probed :
    (order : ℕ) (a : PaprAccess) (page : VirtualPage) (want : Want) (entries : List State)
    (cs : List Call)
    → cs ≡ walk_calls order page (mode_of a want)
    → found_of (each_as_is entries cs) ≡ found_of (walk_run order a page want entries).0
probed order a page want entries cs is =
    ap (λ (ds : List Call). found_of (each_as_is entries ds)) is
    ∙ sym
    (found_as_is entries (walk_calls order page (mode_of a want))
    (calls_access order page (mode_of a want)))

-- What C has of it is what a probe gives.
pub probe_is :
    (order : ℕ) (a : PaprAccess) (page : VirtualPage) (want : Want) (entries : List State)
    (cs : List Call) (found : Option Receipt) (told : PaprWalk)
    → is_table order entries ≡ true
    → page_of a ≡ Some page
    → want_of a.want ≡ Some want
    → cs ≡ walk_calls order page (mode_of a want)
    → found ≡ found_of (each_as_is entries cs)
    → told ≡ walk_end (λ r. r.before) a want found 0
    → told ≡ outcome_of_probe order a entries
probe_is order a page want entries cs found told fit at_page wants calls is ended =
    let here :
    told ≡ walk_end (λ r. r.before) a want (found_of (walk_run order a page want entries).0) 0 =
    ended
    ∙ ap (λ o. walk_end (λ r. r.before) a want o 0) (is ∙ probed order a page want entries cs calls)
    in
    rw (fit, at_page, wants) here

-- ---- one entry after the other
-- The call is the first of the rest.
asked_step :
    (cs : List Call) (i entry : ℕ) (op : Op) (a : List State)
    → call_at cs i ≡ Some (entry, op)
    → each_as_is a (drop i cs) ≡ receipt_at a (call op entry) ∷ each_as_is a (drop (i + 1) cs)
unfolding each_as_is
asked_step cs i entry op a at = rw add-one (ap (each_as_is a) (drop_at cs i entry op at))

pub asked_on :
    (cs : List Call) (i entry : ℕ) (op : Op) (a : List State) (r : Receipt)
    → call_at cs i ≡ Some (entry, op)
    → r ≡ receipt_at a (call op entry)
    → is_no_match r.answer ≡ true
    → found_of (each_as_is a (drop i cs)) ≡ found_of (each_as_is a (drop (i + 1) cs))
asked_on cs i entry op a r at is on =
    ap found_of (asked_step cs i entry op a at)
    ∙ found-on (receipt_at a (call op entry)) (each_as_is a (drop (i + 1) cs)) (rw is at on)

pub asked_off :
    (cs : List Call) (i entry : ℕ) (op : Op) (a : List State) (r : Receipt)
    → call_at cs i ≡ Some (entry, op)
    → r ≡ receipt_at a (call op entry)
    → is_no_match r.answer ≡ false
    → found_of (each_as_is a (drop i cs)) ≡ Some r
asked_off cs i entry op a r at is off =
    ap found_of (asked_step cs i entry op a at)
    ∙ found-off (receipt_at a (call op entry)) (each_as_is a (drop (i + 1) cs)) (rw is at off)
    ∙ ap Some (sym is)

-- Where no call is left nothing more is found.
pub asked_none :
    (cs : List Call) (i : ℕ) (a : List State)
    → call_at cs i ≡ None
    → found_of (each_as_is a (drop i cs)) ≡ None
unfolding each_as_is
asked_none cs i a none = ap (λ (ds : List Call). found_of (each_as_is a ds)) (drop_none cs i none)

-- ---- the operation of what is found
found_of_access :
    (a : List State) (cs : List Call) (r : Receipt)
    → AllByRecursion (λ (c : Call). is_access c.op ≡ true) cs
    → found_of (each_as_is a cs) ≡ Some r
    → is_access r.op ≡ true
unfolding each_as_is
found_of_access a [] r all found = cc
found_of_access a (c ∷ cs) r all found =
    at (cases_Bool (is_no_match (receipt_at a c).answer)) (found_of_access a cs r all.1) where
      at :
          (is_no_match (receipt_at a c).answer ≡ true)
          ⊎ (is_no_match (receipt_at a c).answer ≡ false)
          → (found_of (each_as_is a cs) ≡ Some r → is_access r.op ≡ true)
          → is_access r.op ≡ true
      at (inl on) rest = rest (sym (found-on (receipt_at a c) (each_as_is a cs) on) ∙ found)
      at (inr off) rest =
          let some : Some (receipt_at a c) ≡ Some r = sym
          (found-off (receipt_at a c) (each_as_is a cs) off) ∙ found in
          let same : receipt_at a c ≡ r = cc in
          subst (λ (x : Receipt). is_access x.op ≡ true) same all.0

-- What a walk finds has the receipt of an access.
pub found_access :
    (order : ℕ) (a : PaprAccess) (page : VirtualPage) (want : Want) (entries : List State)
    (r : Receipt)
    → found_of (walk_run order a page want entries).0 ≡ Some r
    → is_access r.op ≡ true
found_access order a page want entries r found =
    found_of_access entries (walk_calls order page (mode_of a want)) r
    (calls_access order page (mode_of a want))
    (probed order a page want entries (walk_calls order page (mode_of a want)) refl ∙ found)

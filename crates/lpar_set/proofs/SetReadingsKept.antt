-- Each line that is accepted keeps what holds of the reading of a set.
use Rattle.std.specs.Prelude.{is_some}
use Rattle.std.proofs.Common.{◌≡◌, ◌≢◌, ℕ, ◌<◌, true, false, List, [], length, Option, None, Result, Ok, Err, refl, sym, ap, ◌∙◌, subst, ltb, not, ◌&&◌, arith}
use Rattle.std.proofs.lemmas.Bool.{false≢true}
use Rattle.frame_grants.specs.declared.grant.Grant.{Grant}
use Rattle.frame_grants.specs.Grants.{with_grant}
use Rattle.hpt_pool.specs.Pool.{lowest_place}
use Rattle.trace_read.specs.declared.given.Given.{Given}
use Rattle.trace_read.specs.declared.given.Given.TheVariants as givens
use Rattle.trace_read.specs.declared.why.Why.{Why}
use Rattle.trace_read.specs.declared.why.Why.TheVariants as whys
use Rattle.trace_read.specs.Givens.{is_setting, given_of}
use Rattle.trace_read.specs.Grammar.{Reading, after_text}
use Rattle.trace_read.specs.Places.{is_running}
use Rattle.lpar_set.specs.SetTrace.{AreStrangers}
use Rattle.lpar_set.specs.SetGrammar.{SetReading, grants_read, is_of_the_whole, meets_stranger, reading_of, with_reading, with_given, after_own, after_member}
use Rattle.lpar_set.specs.SetReadings.{IsBeside, IsSetReading, reading_at}
use Rattle.lpar_set.proofs.BegunKept.{Begins, begun_keeps}
use Rattle.lpar_set.proofs.GrantsApart.{granted_strangers, pairs_both, stranger_clear, strangers_back}
use Rattle.lpar_set.proofs.LineMoves.{HasMoved, HasGranted, HasOpened, HasRun, HasSet, Moves}
use Rattle.lpar_set.proofs.OwnLines.{own_moves, run_counts}
use Rattle.lpar_set.proofs.Retold.{IsRetold, IsSteady, steady_keeps}
use Rattle.lpar_set.proofs.RunsKept.{run_keeps}
use Rattle.lpar_set.proofs.SetPlaces.{grants_there, is_beside}
use Rattle.lpar_set.proofs.TakenSteps.{behind_guard, never_ok, same_ok}

-- The reading of a partition, before its line that is the last one read.
abbrev pub retaken : SetReading → ℕ → Reading
retaken r number = record (reading_of r number) { taken = r.taken }

-- ---- the partition's own reading
none_after :
    (given : Given) (old new : Reading)
    → Moves given old new
    → (is_running old.stage ≡ false → old.lines ≡ [])
    → is_running new.stage ≡ false
    → new.lines ≡ []
none_after givens.Remark old new moves none =
    subst (λ (x : Reading). is_running x.stage ≡ false → x.lines ≡ []) (sym moves) none
none_after givens.Setting old new moves none = λ stopped. moves.lines ∙ none moves.before
none_after (givens.Grant grant) old new moves none = λ stopped. moves.lines ∙ none moves.before
none_after (givens.Begin order) old new moves none =
    λ stopped. absurd (false≢true (sym stopped ∙ moves.after))
none_after givens.Run old new moves none =
    λ stopped. absurd (false≢true (sym stopped ∙ moves.after))

moved_beside :
    (r : SetReading) (number : ℕ) (given : Given) (new : Reading)
    → IsSetReading r
    → HasMoved given (retaken r number) new
    → IsBeside r.pool_base r.pool_order r.taken new
moved_beside r number given new is moved =
    let old = is_beside r number is in
    let taken : new.taken ≡ r.taken = moved.taken in
    record {
      base = moved.base ∙ old.base;
      order = moved.order ∙ old.order;
      empty = moved.entries ∙ old.empty;
      windows = moved.windows ∙ old.windows;
      none = none_after given (retaken r number) new moved.moves old.none;
      behind = omega (arith, taken);
    }

-- Before a line the grants of its partition meet none of another partition's.
old_strangers :
    (r : SetReading) (number m : ℕ)
    → IsSetReading r
    → number < length r.readings
    → m ≢ number
    → m < length r.readings
    → AreStrangers (reading_of r number).config.granted.grants (grants_read (reading_at r m))
old_strangers r number m is inside other within =
    let R : Option Reading → Option Reading → Type 0 = λ one two. AreStrangers (grants_read one)
    (grants_read two) in
    let apart : AreStrangers (grants_read (reading_at r number)) (grants_read (reading_at r m)) =
    pairs_both R r.readings (λ a b. strangers_back (grants_read a) (grants_read b)) is.strangers
    number m None (λ same. other (sym same)) inside within in
    subst (λ (gs : List Grant). AreStrangers gs (grants_read (reading_at r m)))
    (grants_there r number) apart

same_strangers :
    (r : SetReading) (number : ℕ) (new : Reading)
    → IsSetReading r
    → number < length r.readings
    → new.config.granted.grants ≡ (reading_of r number).config.granted.grants
    → (m : ℕ)
    → m ≢ number
    → m < length r.readings
    → AreStrangers new.config.granted.grants (grants_read (reading_at r m))
same_strangers r number new is inside same m other within =
    rw same (old_strangers r number m is inside other within)

more_strangers :
    (r : SetReading) (number : ℕ) (grant : Grant) (new : Reading)
    → IsSetReading r
    → number < length r.readings
    → not (meets_stranger r number grant) ≡ true
    → new.config.granted ≡ with_grant (reading_of r number).config.granted grant
    → (m : ℕ)
    → m ≢ number
    → m < length r.readings
    → AreStrangers new.config.granted.grants (grants_read (reading_at r m))
more_strangers r number grant new is inside strange more m other within =
    rw more
    (granted_strangers (reading_of r number).config.granted grant (grants_read (reading_at r m))
    (old_strangers r number m is inside other within)
    (stranger_clear r number m grant strange other within))

-- ---- a line by what it gives
same_grants :
    (old new : Reading)
    → new.config.granted ≡ old.config.granted
    → new.config.granted.grants ≡ old.config.granted.grants
same_grants old new same = ap (λ g. g.grants) same

pub inside_eight :
    (r : SetReading) (number : ℕ) → IsSetReading r → number < 8 → number < length r.readings
inside_eight r number is below = subst (λ n. number < n) (sym is.eight) below

stopped_steady :
    (r : SetReading) (number : ℕ) (new : Reading)
    → is_running (reading_of r number).stage ≡ false
    → is_running new.stage ≡ false
    → IsSteady r number new
stopped_steady r number new before after = record {
  running = after ∙ sym before;
  order = λ begun. absurd (false≢true (sym before ∙ begun));
}

remark_keeps :
    (r : SetReading) (number : ℕ) (new : Reading)
    → IsSetReading r
    → number < 8
    → HasMoved givens.Remark (retaken r number) new
    → IsSetReading (with_reading r number new)
remark_keeps r number new is below moved =
    let inside = inside_eight r number is below in
    let same : new ≡ retaken r number = moved.moves in
    steady_keeps r number new is
    (record {
      inside = inside;
      beside = moved_beside r number givens.Remark new is moved;
      strangers =
          same_strangers r number new is inside
          (ap (λ (x : Reading). x.config.granted.grants) same);
    })
    (record {
      running = ap (λ (x : Reading). is_running x.stage) same;
      order = λ begun. ap (λ (x : Reading). x.config.order) same;
    })
    (ap (λ (x : Reading). length x.lines) same)

setting_keeps :
    (r : SetReading) (number : ℕ) (new : Reading)
    → IsSetReading r
    → number < 8
    → HasMoved givens.Setting (retaken r number) new
    → IsSetReading (with_reading r number new)
setting_keeps r number new is below moved =
    let inside = inside_eight r number is below in
    let set : HasSet (retaken r number) new = moved.moves in
    steady_keeps r number new is
    (record {
      inside = inside;
      beside = moved_beside r number givens.Setting new is moved;
      strangers =
          same_strangers r number new is inside (same_grants (retaken r number) new set.granted);
    })
    (stopped_steady r number new set.before set.after)
    (ap length set.lines)

grant_keeps :
    (r : SetReading) (number : ℕ) (grant : Grant) (new : Reading)
    → IsSetReading r
    → number < 8
    → not (meets_stranger r number grant) ≡ true
    → HasMoved (givens.Grant grant) (retaken r number) new
    → IsSetReading (with_reading r number new)
grant_keeps r number grant new is below strange moved =
    let inside = inside_eight r number is below in
    let granted : HasGranted grant (retaken r number) new = moved.moves in
    steady_keeps r number new is
    (record {
      inside = inside;
      beside = moved_beside r number (givens.Grant grant) new is moved;
      strangers = more_strangers r number grant new is inside strange granted.granted;
    })
    (stopped_steady r number new granted.before granted.after)
    (ap length granted.lines)

-- The reading of a partition whose configuration stays.
retold_same :
    (r : SetReading) (number : ℕ) (given : Given) (new : Reading)
    → IsSetReading r
    → number < 8
    → HasMoved given (retaken r number) new
    → new.config ≡ (reading_of r number).config
    → IsRetold r number new
retold_same r number given new is below moved same =
    let inside = inside_eight r number is below in
    record {
      inside = inside;
      beside = moved_beside r number given new is moved;
      strangers = same_strangers r number new is inside (ap (λ c. c.granted.grants) same);
    }

begin_begins :
    (r : SetReading) (number order : ℕ) (new : Reading)
    → IsSetReading r
    → number < 8
    → HasOpened order (retaken r number) new
    → Begins r number order new
begin_begins r number order new is below opened = record {
  below = below;
  before = opened.before;
  after = opened.after;
  same = ap (λ c. c.order) opened.config ∙ sym opened.order;
  none = opened.lines ∙ (is_beside r number is).none opened.before;
}

-- What an accepted line of a partition adds keeps what holds of the set.
pub given_keeps :
    (r s : SetReading) (number : ℕ) (given : Given) (new : Reading)
    → IsSetReading r
    → number < 8
    → length r.turns < r.taken
    → HasMoved given (retaken r number) new
    → with_given r number (reading_of r number) new given ≡ Ok s
    → IsSetReading s
unfolding with_given
given_keeps r s number givens.Remark new is below counted moved e =
    subst IsSetReading (same_ok _ _ _ refl e) (remark_keeps r number new is below moved)
given_keeps r s number givens.Setting new is below counted moved e =
    subst IsSetReading (same_ok _ _ _ refl e) (setting_keeps r number new is below moved)
given_keeps r s number (givens.Grant grant) new is below counted moved e =
    let passed = behind_guard (not (meets_stranger r number grant)) whys.Overlap _ s e in
    subst IsSetReading (same_ok _ _ _ refl passed.rest)
    (grant_keeps r number grant new is below passed.holds moved)
given_keeps r s number (givens.Begin order) new is below counted moved e =
    let passed = behind_guard (is_some (lowest_place r.tables order)) whys.Small _ s e in
    let opened : HasOpened order (retaken r number) new = moved.moves in
    subst IsSetReading (same_ok _ _ _ refl passed.rest)
    (begun_keeps r number order new is
    (retold_same r number (givens.Begin order) new is below moved opened.config)
    (begin_begins r number order new is below opened) passed.holds)
given_keeps r s number givens.Run new is below counted moved e =
    let run : HasRun (retaken r number) new = moved.moves in
    subst IsSetReading (same_ok _ _ _ refl e)
    (run_keeps r number new is counted
    (retold_same r number givens.Run new is below moved run.config)
    (record { running = run.after ∙ sym run.before; order = λ begun. ap (λ c. c.order) run.config })
    run.before (run_counts (retaken r number) new run))

-- ---- a line of a partition
own_by :
    (r s : SetReading) (number : ℕ) (ws : List (List ℕ)) (said : Result Reading Why)
    → IsSetReading r
    → number < 8
    → length r.turns < r.taken
    →
    ((new : Reading)
    → said ≡ Ok new
    → HasMoved (given_of (reading_of r number).config ws) (retaken r number) new)
    → after_own r number (reading_of r number) ws said ≡ Ok s
    → IsSetReading s
unfolding after_own
own_by r s number ws (Ok new) is below counted moved e =
    given_keeps r s number (given_of (reading_of r number).config ws) new is below counted
    (moved new refl) e
own_by r s number ws (Err why) is below counted moved e = absurd (never_ok _ s e)

-- So does a line that the partition's own lines accept.
pub own_keeps :
    (r s : SetReading) (number : ℕ) (ws : List (List ℕ))
    → IsSetReading r
    → number < 8
    → length r.turns < r.taken
    → is_of_the_whole ws ≡ false
    → after_own r number (reading_of r number) ws (after_text (retaken r number) ws) ≡ Ok s
    → IsSetReading s
own_keeps r s number ws is below counted own e =
    own_by r s number ws (after_text (retaken r number) ws) is below counted
    (λ new said. own_moves (retaken r number) new ws own said) e

-- An accepted line of a partition keeps the set sound.
pub member_keeps :
    (r s : SetReading) (number : ℕ) (ws : List (List ℕ))
    → IsSetReading r
    → number < 8
    → length r.turns < r.taken
    → is_of_the_whole ws ≡ false
    → after_member r number ws ≡ Ok s
    → IsSetReading s
unfolding after_member
member_keeps r s number ws is below counted own e =
    let passed = behind_guard (not (is_setting ws && ltb 0 (length r.turns))) whys.Place _ s e in
    own_keeps r s number ws is below counted own passed.rest

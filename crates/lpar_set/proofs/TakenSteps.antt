-- What steps that were taken say of each of them.
use Rattle.std.proofs.Common.{◌≡◌, Bool, true, false, Option, Some, None, Result, Ok, Err, refl, ap}
use Rattle.trace_read.specs.declared.why.Why.{Why}
use Rattle.trace_read.specs.Whys.{◌>>=◌, guard, required}

-- What was answered is one thing.
pub same_ok : {A : Type 0} (said : Result A Why) (x y : A) → said ≡ Ok x → said ≡ Ok y → x ≡ y
same_ok said x y first second = cc

-- An error is no value.
pub never_ok : {A E : Type 0} (why : E) (x : A) → Err why ≡ Ok x → ⊥
never_ok why x e = cc

-- The first step gave a value, from which the rest went on to this end.
pub record AreTaken {A B : Type 0} (said : Result A Why) (f : A → Result B Why) (end : B) :
    Type 0 where
  pub value : A
  pub first : said ≡ Ok value
  pub rest : f value ≡ Ok end

-- Steps that came to an end were taken one by one.
pub steps_taken :
    {A B : Type 0} (said : Result A Why) (f : A → Result B Why) (end : B)
    → (said >>= f) ≡ Ok end
    → AreTaken said f end
steps_taken (Ok x) f end e = record { value = x; first = refl; rest = e }
steps_taken (Err why) f end e = absurd (never_ok why end e)

-- A test that was passed holds.
pub guard_taken :
    (test : Bool) (why : Why) (done : Unit {0}) → guard test why ≡ Ok done → test ≡ true
guard_taken true why done e = refl
guard_taken false why done e = absurd (never_ok why done e)

-- The test holds, and what comes after it ends so.
pub record IsPassed {B : Type 0} (test : Bool) (said : Result B Why) (end : B) : Type 0 where
  pub holds : test ≡ true
  pub rest : said ≡ Ok end

-- What went on after a test passed it.
pub behind_guard :
    {B : Type 0} (test : Bool) (why : Why) (said : Result B Why) (end : B)
    → (guard test why >>= (λ (done : Unit {0}). said)) ≡ Ok end
    → IsPassed test said end
behind_guard true why said end e = record { holds = refl; rest = e }
behind_guard false why said end e = absurd (never_ok why end e)

-- What was required is there.
pub required_taken :
    {A : Type 0} (o : Option A) (why : Why) (x : A) → required o why ≡ Ok x → o ≡ Some x
required_taken (Some y) why x e = ap Some (same_ok (Ok y) y x refl e)
required_taken None why x e = absurd (never_ok why x e)

-- A test refused, or what comes after it.
pub data IsStopped {B : Type 0} (test : Bool) (first why : Why) (said : Result B Why) : Type 0 where
  at_test : test ≡ false → first ≡ why → IsStopped test first why said
  behind_test : test ≡ true → said ≡ Err why → IsStopped test first why said

-- What was refused after a test was refused by it, or later.
pub guard_stopped :
    {B : Type 0} (test : Bool) (first why : Why) (said : Result B Why)
    → (guard test first >>= (λ (done : Unit {0}). said)) ≡ Err why
    → IsStopped test first why said
guard_stopped true first why said e = behind_test refl e
guard_stopped false first why said e =
    let same : first ≡ why = cc in
    at_test refl same

-- A step refused, or the rest did.
pub data AreStopped {A B : Type 0} (said : Result A Why) (f : A → Result B Why) (why : Why) :
    Type 0 where
  at_step : said ≡ Err why → AreStopped said f why
  behind_step : (value : A) → said ≡ Ok value → f value ≡ Err why → AreStopped said f why

-- Steps that were refused were refused at the first, or later.
pub steps_stopped :
    {A B : Type 0} (said : Result A Why) (f : A → Result B Why) (why : Why)
    → (said >>= f) ≡ Err why
    → AreStopped said f why
steps_stopped (Ok x) f why e = behind_step x refl e
steps_stopped (Err other) f why e =
    let same : other ≡ why = cc in
    at_step (ap (λ (w : Why). Err w) same)

-- A value is no refusal.
pub never_err : {A : Type 0} (x : A) (why : Why) → Ok x ≡ Err why → ⊥
never_err x why e = cc

-- What was required is missing.
pub required_stopped :
    {A : Type 0} (o : Option A) (first why : Why)
    → required o first ≡ Err why
    → (o ≡ None) × (first ≡ why)
required_stopped (Some x) first why e = absurd (never_err x why e)
required_stopped None first why e =
    let same : first ≡ why = cc in
    (refl, same)

-- A last test refused.
pub last_guard :
    {B : Type 0} (test : Bool) (first why : Why) (x : B)
    → (guard test first >>= (λ (done : Unit {0}). Ok x)) ≡ Err why
    → (test ≡ false) × (first ≡ why)
last_guard true first why x e = absurd (never_err x why e)
last_guard false first why x e =
    let same : first ≡ why = cc in
    (refl, same)

-- Marks that are asked for until the end.
use Rattle.std.specs.Prelude.{map, nat_lt, if◌then◌else◌}
use Rattle.std.proofs.Common.{◌≡◌, ℕ, zero, suc, ◌+◌, ◌-◌, ◌<◌, ◌≤◌, List, [], ◌∷◌, ◌++◌, length, take, drop, true, false, refl, sym, ap, subst, ◌∙◌, ◌⊎◌, inl, inr, arith, append-nil, append_assoc, length-drop}
use Rattle.std.proofs.lemmas.Bool.{cases_Bool, cases_lt, lt-ltb, le-ltb}
use Rattle.std.proofs.lemmas.List.{take_all, drop_all}
use Rattle.std.proofs.Math.Numerals.{add-one}
use Rattle.c_layout.specs.Entries.{Entry}
use Rattle.papr_c.specs.Taking.{marked_from, behind, Found, found, without_mark, entries_without, Told, asked_on}
use Rattle.papr_c.proofs.TakenMarks.{from_marked, from_other}

-- ---- what one call finds
-- The index after the last one that is written, or after all entries.
abbrev next_of : ℕ → ℕ → List Entry → List ℕ → ℕ
next_of first room rest told =
    if nat_lt (length told) room then first + length rest else behind first told

-- So many entries were asked, of those from the first on.
record IsPart (first room : ℕ) (rest : List Entry) (n : ℕ) : Type 0 where
  inside : n ≤ length rest
  told :
      take room (marked_from first rest) ++ marked_from (first + n) (drop n rest)
      ≡ marked_from first rest
  next : next_of first room rest (take room (marked_from first rest)) ≡ first + n

behind_any : (i j : ℕ) (xs : List ℕ) → 1 ≤ length xs → behind i xs ≡ behind j xs
behind_any i j [] some = absurd (omega (arith, some))
behind_any i j (x ∷ xs) some = refl

drop_one : (e : Entry) (es : List Entry) (n : ℕ) → drop (n + 1) (e ∷ es) ≡ drop n es
drop_one e es n = rw add-one refl

marked_part :
    (first room n : ℕ) (e : Entry) (es : List Entry)
    → e.marked ≡ true
    → IsPart (first + 1) room es n
    → IsPart first (suc room) (e ∷ es) (n + 1)
marked_part first room n e es is h =
    let ms = marked_from (first + 1) es in
    let ts = take room ms in
    let m : marked_from first (e ∷ es) ≡ first ∷ ms = from_marked first e es is in
    let i : first + (n + 1) ≡ first + 1 + n = omega arith in
    record {
      inside = omega (arith, h.inside);
      told =
          (λ k. take (suc room) (m k) ++ marked_from (i k) (drop_one e es n k))
          ∙ ap (λ xs. first ∷ xs) h.told
          ∙ sym m;
      next =
          ap (λ xs. next_of first (suc room) (e ∷ es) (take (suc room) xs)) m
          ∙ at (cases_lt (length ts) room);
    }
  where
    at :
        (length (take room (marked_from (first + 1) es)) < room)
        ⊎ (room ≤ length (take room (marked_from (first + 1) es)))
        → next_of first (suc room) (e ∷ es) (first ∷ take room (marked_from (first + 1) es))
        ≡ first + (n + 1)
    at (inl less) =
        let ts = take room (marked_from (first + 1) es) in
        let low : nat_lt (length ts) room ≡ true = lt-ltb (length ts) room less in
        let ih : first + 1 + length es ≡ first + 1 + n = rw low at h.next in
        let here : nat_lt (length (first ∷ ts)) (suc room) ≡ true =
        lt-ltb (length (first ∷ ts)) (suc room) (omega (arith, less)) in
        rw here (omega (arith, ih))
    at (inr more) =
        let ts = take room (marked_from (first + 1) es) in
        let high : nat_lt (length ts) room ≡ false = le-ltb (length ts) room more in
        let ih : behind (first + 1) ts ≡ first + 1 + n = rw high at h.next in
        let here : nat_lt (length (first ∷ ts)) (suc room) ≡ false =
        le-ltb (length (first ∷ ts)) (suc room) (omega (arith, more)) in
        rw here (ih ∙ omega arith)

other_part :
    (first room n : ℕ) (e : Entry) (es : List Entry)
    → e.marked ≡ false
    → IsPart (first + 1) (suc room) es n
    → IsPart first (suc room) (e ∷ es) (n + 1)
other_part first room n e es is h =
    let ms = marked_from (first + 1) es in
    let m : marked_from first (e ∷ es) ≡ ms = from_other first e es is in
    let i : first + (n + 1) ≡ first + 1 + n = omega arith in
    record {
      inside = omega (arith, h.inside);
      told =
          (λ k. take (suc room) (m k) ++ marked_from (i k) (drop_one e es n k))
          ∙ h.told
          ∙ sym m;
      next =
          ap (λ xs. next_of first (suc room) (e ∷ es) (take (suc room) xs)) m
          ∙ at (cases_lt (length (take (suc room) ms)) (suc room));
    }
  where
    at :
        (length (take (suc room) (marked_from (first + 1) es)) < suc room)
        ⊎ (suc room ≤ length (take (suc room) (marked_from (first + 1) es)))
        → next_of first (suc room) (e ∷ es) (take (suc room) (marked_from (first + 1) es))
        ≡ first + (n + 1)
    at (inl less) =
        let ts = take (suc room) (marked_from (first + 1) es) in
        let low : nat_lt (length ts) (suc room) ≡ true = lt-ltb (length ts) (suc room) less in
        let ih : first + 1 + length es ≡ first + 1 + n = rw low at h.next in
        rw low (omega (arith, ih))
    at (inr more) =
        let ts = take (suc room) (marked_from (first + 1) es) in
        let high : nat_lt (length ts) (suc room) ≡ false = le-ltb (length ts) (suc room) more in
        let ih : behind (first + 1) ts ≡ first + 1 + n = rw high at h.next in
        rw high
        (behind_any first (first + 1) ts (omega (arith, more)) ∙ ih ∙ omega arith)

part : (first room : ℕ) (rest : List Entry) → (n : ℕ) × IsPart first room rest n
part first zero [] = (0, record { inside = omega arith; told = refl; next = omega arith })
part first (suc room) [] = (
  0,
  record {
    inside = omega arith;
    told = refl;
    next = rw (lt-ltb 0 (suc room) (omega arith)) refl;
  },
)
part first zero (e ∷ es) = (
  0,
  record {
    inside = omega arith;
    told = ap (λ k. marked_from k (e ∷ es)) (omega arith);
    next = omega arith;
  },
)
part first (suc room) (e ∷ es) =
    at (cases_Bool e.marked) (part (first + 1) room es) (part (first + 1) (suc room) es) where
      at :
          (e.marked ≡ true) ⊎ (e.marked ≡ false)
          → ((n : ℕ) × IsPart (first + 1) room es n)
          → ((n : ℕ) × IsPart (first + 1) (suc room) es n)
          → (n : ℕ) × IsPart first (suc room) (e ∷ es) n
      at (inl is) p q = (p.0 + 1, marked_part first room p.0 e es is p.1)
      at (inr other) p q = (q.0 + 1, other_part first room q.0 e es other q.1)

-- ---- what it leaves
abbrev left : ℕ → ℕ → List Entry → List Entry
left first n old =
    take first old ++ (take n (map without_mark (drop first old)) ++ drop n (drop first old))

left_drop :
    (old : List Entry) (first n : ℕ)
    → first ≤ length old
    → n ≤ length (drop first old)
    → drop (first + n) (left first n old) ≡ drop n (drop first old)
left_drop old zero n low high = let none : 0 + n ≡ n = omega arith in rw none (at old n high) where
  at :
      (xs : List Entry) (m : ℕ)
      → m ≤ length xs
      → drop m (take m (map without_mark xs) ++ drop m xs) ≡ drop m xs
  at xs zero few = refl
  at [] (suc m) few = absurd (omega (arith, few))
  at (x ∷ xs) (suc m) few = at xs m (omega (arith, few))
left_drop [] (suc first) n low high = absurd (omega (arith, low))
left_drop (o ∷ old) (suc first) n low high =
    let next : suc first + n ≡ suc (first + n) = omega arith in
    rw next (left_drop old first n (omega (arith, low)) high)

left-length :
    (old : List Entry) (first n : ℕ) → length (left first n old) ≡ length old
left-length old zero n = at old n where
  at :
      (xs : List Entry) (m : ℕ)
      → length (take m (map without_mark xs) ++ drop m xs) ≡ length xs
  at xs zero = refl
  at [] (suc m) = refl
  at (x ∷ xs) (suc m) = ap suc (at xs m)
left-length [] (suc first) zero = refl
left-length [] (suc first) (suc n) = refl
left-length (o ∷ old) (suc first) n = ap suc (left-length old first n)

no_mark : (i : ℕ) (e : Entry) (es : List Entry) → marked_from i (e ∷ es) ≡ [] → e.marked ≡ false
no_mark i e es none = at (cases_Bool e.marked) where
  at : (e.marked ≡ true) ⊎ (e.marked ≡ false) → e.marked ≡ false
  at (inl is) = let some = sym (from_marked i e es is) ∙ none in absurd (cc)
  at (inr other) = other

left_none :
    (old : List Entry) (i first n : ℕ)
    → first ≤ length old
    → marked_from i (take first old) ≡ []
    → marked_from i (take (first + n) (left first n old)) ≡ []
left_none old i zero n low none = let same : 0 + n ≡ n = omega arith in rw same (at old i n) where
  at :
      (xs : List Entry) (j m : ℕ)
      → marked_from j (take m (take m (map without_mark xs) ++ drop m xs)) ≡ []
  at xs j zero = refl
  at [] j (suc m) = refl
  at (x ∷ xs) j (suc m) = at xs (j + 1) m
left_none [] i (suc first) n low none = absurd (omega (arith, low))
left_none (o ∷ old) i (suc first) n low none =
    let next : suc first + n ≡ suc (first + n) = omega arith in
    let free : o.marked ≡ false = no_mark i o (take first old) none in
    let rest : marked_from (i + 1) (take first old) ≡ [] =
    sym (from_other i o (take first old) free) ∙ none in
    rw next
    (from_other i o (take (first + n) (left first n old)) free
    ∙ left_none old (i + 1) first n (omega (arith, low)) rest)

-- ---- one call
-- After one call the indexes that it found, and those still marked from the next index on, are all
-- that were marked from the first index on.
pub record IsAsked (first : ℕ) (old : List Entry) (f : Found) (new : List Entry) : Type 0 where
  pub high : f.next ≤ length new
  pub long : length new ≡ length old
  pub told :
      f.indexes ++ marked_from f.next (drop f.next new) ≡ marked_from first (drop first old)
  pub none : marked_from 0 (take first old) ≡ [] → marked_from 0 (take f.next new) ≡ []

asked :
    (first room : ℕ) (old : List Entry)
    → first ≤ length old
    → IsAsked first old (found old first room)
    (entries_without first (found old first room) old)
asked first room old low =
    let rest = drop first old in
    let p = part first room rest in
    let n = p.0 in
    let ts = take room (marked_from first rest) in
    let long : length rest ≡ length old - first = length-drop first old in
    let whole : length old ≡ first + length rest = omega (arith, long, low) in
    let next : (found old first room).next ≡ first + n =
    ap (λ l. if nat_lt (length ts) room then l else behind first ts) whole ∙ p.1.next in
    let f : Found = record { indexes = ts; next = first + n } in
    let is : found old first room ≡ f = λ k. record { indexes = ts; next = next k } in
    let count : first + n - first ≡ n = omega arith in
    let after : entries_without first f old ≡ left first n old =
    ap
    (λ k. take first old ++ (take k (map without_mark rest) ++ drop k rest)) count in
    let high : n ≤ length rest = p.1.inside in
    let one : IsAsked first old f (left first n old) = record {
      high = omega (arith, left-length old first n, whole, high);
      long = left-length old first n;
      told =
          ap (λ es. ts ++ marked_from (first + n) es) (left_drop old first n low high)
          ∙ p.1.told;
      none = λ h. left_none old 0 first n low h;
    } in
    subst (λ (g : Found). IsAsked first old g (entries_without first g old)) (sym is)
    (subst (IsAsked first old f) (sym after) one)

-- ---- until the end
-- After several calls the indexes that they found, and those still marked from the next index on,
-- are all that were marked from the first index on; no entry before the next one is marked.
pub record IsAskedOn (first : ℕ) (old : List Entry) (t : Told) : Type 0 where
  pub long : length t.entries ≡ length old
  pub told :
      t.indexes ++ marked_from t.next (drop t.next t.entries) ≡ marked_from first (drop first old)
  pub none : marked_from 0 (take t.next t.entries) ≡ []

told_on :
    (first : ℕ) (old : List Entry) (rooms : List ℕ)
    → first ≤ length old
    → marked_from 0 (take first old) ≡ []
    → IsAskedOn first old (asked_on first old rooms)
told_on first old [] low none = record { long = refl; told = refl; none = none }
told_on first old (room ∷ rooms) low none =
    let f = found old first room in
    let new = entries_without first f old in
    let one = asked first room old low in
    let more = told_on f.next new rooms one.high (one.none none) in
    let t = asked_on f.next new rooms in
    record {
      long = more.long ∙ one.long;
      told =
          append_assoc f.indexes t.indexes (marked_from t.next (drop t.next t.entries))
          ∙ ap (λ xs. f.indexes ++ xs) more.told
          ∙ one.told;
      none = more.none;
    }

pub told_once :
    (entries : List Entry) (rooms : List ℕ)
    → (asked_on 0 entries rooms).next ≡ length entries
    → ((asked_on 0 entries rooms).indexes ≡ marked_from 0 entries)
    × (marked_from 0 (asked_on 0 entries rooms).entries ≡ [])
told_once entries rooms end =
    let t = asked_on 0 entries rooms in
    let h = told_on 0 entries rooms (omega arith) refl in
    let all : length t.entries ≤ t.next = omega (arith, h.long, end) in
    let gone : drop t.next t.entries ≡ [] = drop_all t.next t.entries all in
    let whole : take t.next t.entries ≡ t.entries = take_all t.next t.entries all in (
      sym (append-nil t.indexes)
          ∙ ap (λ es. t.indexes ++ marked_from t.next es) (sym gone)
          ∙ h.told,
      ap (marked_from 0) (sym whole) ∙ h.none,
    )

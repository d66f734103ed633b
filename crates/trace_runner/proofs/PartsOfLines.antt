-- The lines of a trace from one index up to another.
use Rattle.std.proofs.Common.{◌≡◌, ℕ, zero, suc, ◌+◌, ◌-◌, ◌<◌, ◌≤◌, List, [], ◌∷◌, ◌++◌, length, take, drop, get_or, false, ap, ◌∙◌, refl, arith, drop-drop, take-append-drop, sym}
use Rattle.std.specs.List.{AllByRecursion}
use Rattle.std.proofs.lemmas.List.{drop_more, take_more}
use Rattle.trace_line.specs.declared.line.TraceLine.{TraceLine}
use Rattle.trace_line.specs.Lines.{is_quiet}
use Rattle.run_model.specs.Quiet.{NoneQuiet}

-- The lines from a place up to another, and the one there.
abbrev pub part : ℕ → ℕ → List TraceLine → List TraceLine
part start end lines = take (end - start) (drop start lines)

pub rest_is :
    (lines : List TraceLine) (start i : ℕ) (d : TraceLine)
    → start ≤ i
    → i < length lines
    → drop start lines ≡ part start i lines ++ get_or lines i d ∷ drop (i + 1) lines
rest_is lines start i d low within =
    let e : start + (i - start) ≡ i = omega arith in
    sym (take-append-drop (i - start) (drop start lines))
    ∙ ap (λ l. take (i - start) (drop start lines) ++ l)
    (drop-drop (i - start) start lines ∙ ap (λ k. drop k lines) e ∙ drop_more lines i d within)

pub front_is :
    (lines : List TraceLine) (start i : ℕ) (d : TraceLine)
    → start ≤ i
    → i < length lines
    → take (i + 1) lines ≡ (take start lines ++ part start i lines) ++ get_or lines i d ∷ []
front_is lines start i d low within =
    take_more lines i d within ∙ ap (λ l. l ++ get_or lines i d ∷ []) (at lines start i low) where
      at :
          (xs : List TraceLine) (m n : ℕ)
          → m ≤ n
          → take n xs ≡ take m xs ++ take (n - m) (drop m xs)
      at xs zero n h = let e : n ≡ n - 0 = omega arith in ap (λ k. take k xs) e
      at [] (suc m) zero h = absurd (omega arith)
      at [] (suc m) (suc n) h = none (suc n - suc m) where
        none :
            (k : ℕ) → take {A = TraceLine} (suc n) [] ≡ take {A = TraceLine} (suc m) [] ++ take k []
        none zero = refl
        none (suc k) = refl
      at (x ∷ xs) (suc m) zero h = absurd (omega arith)
      at (x ∷ xs) (suc m) (suc n) h = let e :
          n - m ≡ suc n - suc m =
          omega arith in ap (λ l. x ∷ l) (at xs m n (omega arith))
          ∙ ap (λ k. x ∷ (take m xs ++ take k (drop m xs))) e

-- One more line that isn't quiet.
pub no_quiet_more :
    (lines : List TraceLine) (start i : ℕ) (d : TraceLine)
    → start ≤ i
    → i < length lines
    → NoneQuiet (part start i lines)
    → is_quiet (get_or lines i d).act ≡ false
    → NoneQuiet (part start (i + 1) lines)
no_quiet_more lines start i d low within m q =
    let e : i + 1 - start ≡ (i - start) + 1 = omega arith in
    let k : i - start < length (drop start lines) = inside lines start i low within in
    let same : get_or (drop start lines) (i - start) d ≡ get_or lines i d = at lines start i low in
    rw (e, take_more (drop start lines) (i - start) d k, same)
    (push (take (i - start) (drop start lines)) (get_or lines i d) m q) where
      inside : (xs : List TraceLine) (m n : ℕ) → m ≤ n → n < length xs → n - m < length (drop m xs)
      inside xs zero n h k = let e : n - 0 ≡ n = omega arith in rw e k
      inside [] (suc m) n h k = absurd (omega arith)
      inside (x ∷ xs) (suc m) zero h k = absurd (omega arith)
      inside (x ∷ xs) (suc m) (suc n) h k = let e :
          suc n - suc m ≡ n - m =
          omega arith in rw e (inside xs m n (omega arith) (omega (arith, k)))

      at : (xs : List TraceLine) (m n : ℕ) → m ≤ n → get_or (drop m xs) (n - m) d ≡ get_or xs n d
      at xs zero n h = let e : n - 0 ≡ n = omega arith in rw e refl
      at [] (suc m) n h = refl
      at (x ∷ xs) (suc m) zero h = absurd (omega arith)
      at (x ∷ xs) (suc m) (suc n) h = let e :
          suc n - suc m ≡ n - m = omega arith in rw e (at xs m n (omega arith))

      push :
          (xs : List TraceLine) (l : TraceLine)
          → NoneQuiet xs
          → is_quiet l.act ≡ false
          → NoneQuiet (xs ++ l ∷ [])
      push [] l h q = (q, tt)
      push (x ∷ xs) l h q = (h.0, push xs l h.1 q)

pub no_quiet_yet : (lines : List TraceLine) (i : ℕ) → NoneQuiet (part i i lines)
no_quiet_yet lines i = let e : i - i ≡ 0 = omega arith in rw e tt

pub part_end :
    (lines : List TraceLine) (start n : ℕ)
    → start ≤ n
    → length lines ≤ n
    → part start n lines ≡ drop start lines
part_end lines start n low end =
    full (drop start lines) (n - start) (fits lines start n low end) where
      full : (xs : List TraceLine) (n : ℕ) → length xs ≤ n → take n xs ≡ xs
      full [] zero h = refl
      full [] (suc n) h = refl
      full (x ∷ xs) zero h = absurd (omega arith)
      full (x ∷ xs) (suc n) h = ap (λ l. x ∷ l) (full xs n (omega arith))

      fits : (xs : List TraceLine) (m n : ℕ) → m ≤ n → length xs ≤ n → length (drop m xs) ≤ n - m
      fits xs zero n h k = let e : n - 0 ≡ n = omega arith in rw e k
      fits [] (suc m) n h k = omega arith
      fits (x ∷ xs) (suc m) zero h k = absurd (omega arith)
      fits (x ∷ xs) (suc m) (suc n) h k = let e :
          suc n - suc m ≡ n - m = omega arith in rw e (fits xs m n (omega arith) (omega (arith, k)))

-- What holds of each line holds of those from a place up to another.
pub part_each :
    (P : TraceLine → Type 0) (lines : List TraceLine) (start i : ℕ)
    → AllByRecursion P lines
    → AllByRecursion P (part start i lines)
part_each P lines start i h = some (drop start lines) (i - start) (later lines start h) where
  later : (xs : List TraceLine) (n : ℕ) → AllByRecursion P xs → AllByRecursion P (drop n xs)
  later xs zero h = h
  later [] (suc n) h = tt
  later (x ∷ xs) (suc n) h = later xs n h.1

  some : (xs : List TraceLine) (n : ℕ) → AllByRecursion P xs → AllByRecursion P (take n xs)
  some xs zero h = tt
  some [] (suc n) h = tt
  some (x ∷ xs) (suc n) h = (h.0, some xs n h.1)

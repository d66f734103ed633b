-- Entries of the opening table: rising indices, and one more entry.
use Rattle.std.proofs.Common.{◌≡◌, ◌∙◌, sym, refl, subst, ap, ℕ, zero, suc, ◌-◌, ◌<◌, List, [], ◌∷◌, ◌++◌, Option, Some, None, length, ◌&&◌, ltb, true, false, eqb, slice_get, arith}
use Rattle.std.specs.Option.{option_map_or}
use Rattle.std.specs.List.{AllByRecursion}
use Rattle.std.proofs.lemmas.Option.{none-some, same_Some, slice_get_within}
use Rattle.std.proofs.lemmas.Bool.{false≢true, eqb-true, and_parts, ltb-true}
use Rattle.std.proofs.lemmas.Bool.Decides.{nat_tests}
use Rattle.frame_grants.specs.declared.grant.Grant.{Grant}
use Rattle.page_grants.specs.Suited.{entered_words}
use Rattle.table_image.specs.declared.entry.ImageEntry.{ImageEntry}
use Rattle.trace_read.specs.Configuration.{AreRising, AreOpeningEntries, IsOpeningEntry}
use Rattle.trace_read.specs.Entries.{is_above, is_stored}
use Rattle.std.proofs.Math.Bool.{and-true}
use Rattle.basics.proofs.Each.{each_append}

-- One more entry, above those before.
rising_push : (es : List ImageEntry) (e : ImageEntry) → AreRising es → is_above es e.index ≡ true
    → AreRising (es ++ e ∷ [])
rising_push [] e rising above = (tt, tt)
rising_push (d ∷ ds) e rising above =
    let parts = and_parts (ltb d.index e.index) (is_above ds e.index) above in (
      each_append _ ds (e ∷ []) rising.0 (ltb-true _ _ parts.0, tt),
      rising_push ds e rising.1 parts.1,
    )

pub AreOpeningEntries-push :
    (order : ℕ) (grants : List Grant) (es : List ImageEntry) (e : ImageEntry)
    → AreOpeningEntries order grants es → IsOpeningEntry order grants e → is_above es e.index ≡ true
    → AreOpeningEntries order grants (es ++ e ∷ [])
AreOpeningEntries-push order grants es e opening here above = record {
  each = each_append _ es (e ∷ []) opening.each (here, tt);
  rising = rising_push es e opening.rising above;
}

-- What is below a number that is below another.
both_below : (a b i : ℕ) → a < b → ltb b i ≡ (ltb a i && ltb b i)
both_below a b i low = grind (arith, nat_tests)

-- What holds of each entry, at one.
each_at : (P : ImageEntry → Type 0) (es : List ImageEntry) (i : ℕ) (e : ImageEntry)
    → AllByRecursion P es → slice_get es i ≡ Some e → P e
each_at P [] i e each is = absurd (none-some e is)
each_at P (d ∷ ds) zero e each is = subst P (same_Some d e is) each.0
each_at P (d ∷ ds) (suc i) e each is = each_at P ds i e each.1 is

-- The last of rising entries has the highest index.
above_at : (es : List ImageEntry) (n : ℕ) (last : ImageEntry) (i : ℕ) → AreRising es
    → length es ≡ suc n → slice_get es n ≡ Some last → ltb last.index i ≡ is_above es i
above_at [] n last i rising size is = absurd (none-some last is)
above_at (d ∷ []) zero last i rising size is =
    rw (← same_Some d last is) (sym (and-true (ltb d.index i)))
above_at (d ∷ []) (suc n) last i rising size is = absurd (none-some last is)
above_at (d ∷ e ∷ es) zero last i rising size is = absurd (omega (arith, size))
above_at (d ∷ e ∷ es) (suc n) last i rising size is =
    both_below d.index last.index i (each_at _ (e ∷ es) n last rising.0 is)
    ∙ ap (λ t. ltb d.index i && t) (above_at (e ∷ es) n last i rising.1 (omega (arith, size)) is)

pub is_above_last : (es : List ImageEntry) (last : ImageEntry) (i : ℕ) → AreRising es
    → slice_get es (length es - 1) ≡ Some last → ltb last.index i ≡ is_above es i
is_above_last es last i rising is =
    above_at es (length es - 1) last i rising
    (omega (arith, slice_get_within es (length es - 1) last is)) is

-- A pair that is these two numbers.
same_pair : (o : Option (ℕ × ℕ)) (a b : ℕ)
    → option_map_or (λ (s : ℕ × ℕ). eqb s.0 a && eqb s.1 b) o false ≡ true → o ≡ Some (a, b)
same_pair None a b same = absurd (false≢true same)
same_pair (Some (x, y)) a b same =
    let parts = and_parts (eqb x a) (eqb y b) same in
    rw (← eqb-true x a parts.0, ← eqb-true y b parts.1) refl

-- The doublewords that H_ENTER would store as they are.
pub stored_words : (grants : List Grant) (dword0 dword1 : ℕ)
    → is_stored grants (dword0, dword1) ≡ true
    → entered_words grants dword0 dword1 ≡ Some (dword0, dword1)
stored_words grants dword0 dword1 stored =
    same_pair (entered_words grants dword0 dword1) dword0 dword1 stored

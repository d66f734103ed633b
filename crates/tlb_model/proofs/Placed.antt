-- Each line stays in the set of its page.
use Rattle.std.proofs.Common.{◌≡◌, ℕ, ◌<◌, zero, suc, arith, List, [], ◌∷◌, not, refl, sym, ◌∙◌, subst, length, get_or, slice_set, replicate, ap}
use Rattle.std.proofs.Math.ListN.{length-set}
use Rattle.std.proofs.lemmas.List.{get_or_default}
use Rattle.power_addr.specs.Pages.{VirtualPage}
use Rattle.entry_model.specs.declared.line.Line.{Line}
use Rattle.tlb_model.specs.Cache.{is_of, set_of, set_number, empty_cache, without_page, put_last}
use Rattle.basics.proofs.Each.{each_filter}
use Rattle.tlb_model.proofs.CachedPages.{all_put_last}
use Rattle.tlb_model.specs.Sets.{IsCache, IsForSet, with_set}

-- ---- no lines
no_sets : ℕ → List (List Line)
no_sets count = replicate count []

none_at : (count number : ℕ) → get_or (no_sets count) number [] ≡ []
unfolding no_sets
none_at zero number = refl
none_at (suc count) zero = refl
none_at (suc count) (suc number) = none_at count number

pub none_sound : IsCache empty_cache
unfolding empty_cache no_sets
none_sound =
    record { count = refl; placed = λ number. subst (IsForSet number) (sym (none_at 32 number)) tt }

pub empty_sets :
    (sets : List (List Line))
    → length sets ≡ 32
    → ((number : ℕ) → number < 32 → get_or sets number [] ≡ [])
    → sets ≡ empty_cache
unfolding empty_cache
empty_sets sets count each = all_alike sets 32 count each where
  all_alike :
      (sets : List (List Line)) (count : ℕ)
      → length sets ≡ count
      → ((number : ℕ) → number < count → get_or sets number [] ≡ [])
      → sets ≡ replicate count []
  all_alike [] zero long each = refl
  all_alike [] (suc count) long each = absurd (omega arith)
  all_alike (s ∷ ss) zero long each = absurd (omega arith)
  all_alike (s ∷ ss) (suc count) long each =
      rw (
        each 0 (omega arith),
        all_alike ss count (omega arith) (λ number less. each (suc number) (omega arith)),
      ) refl

-- ---- one set is written
read_back :
    (Q : List Line → Type 0) (cache : List (List Line)) (written number : ℕ) (lines : List Line)
    → (number ≡ written → Q lines)
    → Q (get_or cache number [])
    → Q (get_or (slice_set cache written lines) number [])
read_back Q [] written number lines here there = there
read_back Q (s ∷ ss) zero zero lines here there = here refl
read_back Q (s ∷ ss) zero (suc number) lines here there = there
read_back Q (s ∷ ss) (suc written) zero lines here there = there
read_back Q (s ∷ ss) (suc written) (suc number) lines here there =
    read_back Q ss written number lines (λ equal. here (ap suc equal)) there

written_for :
    (cache : List (List Line)) (written : ℕ) (lines : List Line)
    → IsForSet written lines
    → ((number : ℕ) → IsForSet number (get_or cache number []))
    → (number : ℕ)
    → IsForSet number (get_or (slice_set cache written lines) number [])
written_for cache written lines fine placed number =
    read_back (IsForSet number) cache written number lines
    (λ equal. subst (λ n. IsForSet n lines) (sym equal) fine) (placed number)

pub written_sound :
    (cache : List (List Line)) (page : VirtualPage) (lines : List Line)
    → IsForSet (set_number page) lines
    → IsCache cache
    → IsCache (with_set page lines cache)
written_sound cache page lines fine sound =
    record {
      count = length-set cache (set_number page) lines ∙ sound.count;
      placed = written_for cache (set_number page) lines fine sound.placed;
    }

pub filled_for :
    (cache : List (List Line)) (line : Line)
    → IsCache cache
    → IsForSet (set_number line.page) (put_last line (set_of cache line.page))
filled_for cache line sound =
    all_put_last (λ l. set_number l.page ≡ set_number line.page) (set_of cache line.page) line
    (sound.placed (set_number line.page)) refl

pub without_for :
    (cache : List (List Line)) (page : VirtualPage)
    → IsCache cache
    → IsForSet (set_number page) (without_page page (set_of cache page))
without_for cache page sound =
    each_filter (λ l. set_number l.page ≡ set_number page) (λ line. not (is_of page line))
    (set_of cache page) (sound.placed (set_number page))

-- ---- one set is read
pub read_set :
    (cache : List (List Line)) (page : VirtualPage) (number : ℕ) (otherwise : List Line)
    → IsCache cache
    → number ≡ set_number page
    → get_or cache number otherwise ≡ set_of cache page
read_set cache page number otherwise sound is =
    rw is (get_or_default cache (set_number page) otherwise [] (omega (arith, sound.count)))

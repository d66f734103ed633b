-- What holds of each line of a cache.
use Rattle.std.proofs.Common.{◌≡◌, List, [], ◌∷◌, ◌++◌, Bool, true, false, Some, None, ◌⊎◌, inl, inr, refl, length, drop, find, IfSome, nat_lt}
use Rattle.std.proofs.lemmas.Bool.{cases_Bool, cond_both}
use Rattle.power_addr.specs.Pages.{VirtualPage}
use Rattle.entry_model.specs.declared.line.Line.{Line}
use Rattle.tlb_model.specs.Cache.{is_of, set_of, set_number, line_of_page, cached_line, empty_cache, without_page, put_last, AllInSet, AllCached}
use Rattle.basics.proofs.Each.{each_append, each_at, each_map, each_replicate}
use Rattle.power_addr.proofs.SamePages.{page_same}

-- ---- one set
pub all_find :
    (P : Line → Type 0) (p : Line → Bool) (lines : List Line)
    → AllInSet P lines
    → IfSome (find p lines) P
all_find P p [] all = tt
all_find P p (l ∷ ls) all =
    cond_both (p l) (Some l) (find p ls) (λ found. IfSome found P) (λ _. all.0)
    (λ _. all_find P p ls all.1)

pub all_put_last :
    (P : Line → Type 0) (lines : List Line) (line : Line)
    → AllInSet P lines
    → P line
    → AllInSet P (put_last line lines)
all_put_last P lines line all fact =
    let more = each_append P lines (line ∷ []) all (fact, tt) in
    cond_both (nat_lt 4 (length (lines ++ line ∷ []))) (drop 1 (lines ++ line ∷ []))
    (lines ++ line ∷ []) (AllInSet P) (λ _. but_first (lines ++ line ∷ []) more) (λ _. more) where
      but_first : (ls : List Line) → AllInSet P ls → AllInSet P (drop 1 ls)
      but_first [] h = tt
      but_first (l ∷ ls) h = h.1

-- ---- all sets
pub all_in_set_of :
    (P : Line → Type 0) (cache : List (List Line)) (page : VirtualPage)
    → AllCached P cache
    → AllInSet P (set_of cache page)
all_in_set_of P cache page all = each_at (AllInSet P) cache (set_number page) [] tt all

pub all_cached :
    (P : Line → Type 0) (cache : List (List Line)) (page : VirtualPage)
    → AllCached P cache
    → IfSome (cached_line cache page) P
unfolding cached_line
all_cached P cache page all =
    all_find P (is_of page) (set_of cache page) (all_in_set_of P cache page all)

pub all_cached_weaker :
    (P Q : Line → Type 0)
    → ((line : Line) → P line → Q line)
    → (cache : List (List Line))
    → AllCached P cache
    → AllCached Q cache
all_cached_weaker P Q law cache all =
    each_map (AllInSet P) (AllInSet Q) cache (λ lines h. each_map P Q lines law h) all

pub all_empty : (P : Line → Type 0) → AllCached P empty_cache
unfolding empty_cache
all_empty P = each_replicate (AllInSet P) 32 [] tt

-- ---- the line that is found
-- It is of the page.
pub found_is_of :
    (page : VirtualPage) (lines : List Line)
    → IfSome (line_of_page page lines) (λ line. line.page ≡ page)
found_is_of page [] = tt
found_is_of page (l ∷ ls) =
    cond_both (is_of page l) (Some l) (line_of_page page ls)
    (λ found. IfSome found (λ line. line.page ≡ page)) (λ here. page_same l.page page here)
    (λ _. found_is_of page ls)

pub cached_is_of :
    (cache : List (List Line)) (page : VirtualPage)
    → IfSome (cached_line cache page) (λ line. line.page ≡ page)
unfolding cached_line
cached_is_of cache page = found_is_of page (set_of cache page)

-- None is left where those of the page are taken out.
pub none_without :
    (page : VirtualPage) (lines : List Line) → line_of_page page (without_page page lines) ≡ None
none_without page [] = refl
none_without page (l ∷ ls) = at (cases_Bool (is_of page l)) (none_without page ls) where
  at :
      (is_of page l ≡ true) ⊎ (is_of page l ≡ false)
      → line_of_page page (without_page page ls) ≡ None
      → line_of_page page (without_page page (l ∷ ls)) ≡ None
  at (inl here) rest = rw here rest
  at (inr there) rest = rw (there, there) rest

-- Lists of processors: new ones, and with their caches cleared.
use Rattle.std.proofs.Common.{◌≡◌, ℕ, zero, suc, ◌+◌, ◌<◌, List, [], ◌∷◌, ◌++◌, map, take, drop, length, get_or, slice_set, replicate, refl, ap, sym, ◌∙◌, subst, arith}
use Rattle.std.proofs.lemmas.List.{replicate_more}
use Rattle.tlb_model.specs.Processor.{Processor, new_processor, without_cache}

-- One more of them is cleared.
pub cleared_more :
    (processors : List Processor) (i : ℕ) (d : Processor)
    → i < length processors
    → slice_set (map without_cache (take i processors) ++ drop i processors) i
    (without_cache (get_or processors i d))
    ≡ map without_cache (take (i + 1) processors) ++ drop (i + 1) processors
cleared_more [] i d h = absurd (omega arith)
cleared_more (s ∷ ss) zero d h = refl
cleared_more (s ∷ ss) (suc i) d h =
    let e : suc i + 1 ≡ suc (i + 1) = omega arith in
    let rest = cleared_more ss i d (omega arith) in
    subst
    (λ k.
    slice_set (map without_cache (take (suc i) (s ∷ ss)) ++ drop (suc i) (s ∷ ss)) (suc i)
    (without_cache (get_or (s ∷ ss) (suc i) d))
    ≡ map without_cache (take k (s ∷ ss)) ++ drop k (s ∷ ss)) (sym e)
    (ap (λ l. without_cache s ∷ l) rest)

-- The next is still as it was.
pub cleared_at :
    (processors : List Processor) (i : ℕ) (d : Processor)
    → i < length processors
    → get_or (map without_cache (take i processors) ++ drop i processors) i d
    ≡ get_or processors i d
cleared_at [] i d h = absurd (omega arith)
cleared_at (s ∷ ss) zero d h = refl
cleared_at (s ∷ ss) (suc i) d h = cleared_at ss i d (omega arith)

-- One turn of the loop that clears them.
pub cleared_next :
    (old items : List Processor) (i : ℕ) (was now : Processor)
    → i < length old
    → items ≡ map without_cache (take i old) ++ drop i old
    → was ≡ get_or items i was
    → now ≡ without_cache was
    → slice_set items i now ≡ map without_cache (take (i + 1) old) ++ drop (i + 1) old
cleared_next old items i was now within told here cleared =
    let same : was ≡ get_or old i was = here ∙ ap (λ l. get_or l i was) told ∙ cleared_at old i was
    within in
    let new : now ≡ without_cache (get_or old i was) = cleared ∙ ap without_cache same in
    (λ j. slice_set (told j) i (new j)) ∙ cleared_more old i was within

-- One more processor with nothing.
pub empty_more :
    (processors : List Processor) (n : ℕ) (s : Processor)
    → processors ≡ replicate n new_processor
    → s ≡ new_processor
    → processors ++ s ∷ [] ≡ replicate (n + 1) new_processor
empty_more processors n s told empty =
    (λ j. told j ++ empty j ∷ []) ∙ replicate_more n new_processor

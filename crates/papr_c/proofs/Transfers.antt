-- Entries as bytes, one more after the other.
use Rattle.std.specs.Prelude.{flat_map, is_none, is_some, is_err, is_ok}
use Rattle.std.specs.List.{range_with_len}
use Rattle.std.specs.Option.{option_map, unwrap_or}
use Rattle.byteorder.specs.Endian.{big_bytes}
use borrow.Rule.Slice.PartMut.{put_mid, mid_of, post_of}
use Rattle.std.specs.Result.{result_unwrap_or}
use Rattle.std.proofs.Common.{◌≡◌, ℕ, zero, suc, ◌+◌, ◌-◌, ◌*◌, ◌<◌, ◌≤◌, List, [], ◌∷◌, ◌++◌, length, take, drop, set, get_or, map, find, Option, Some, None, Result, Ok, Err, false, true, arith, sym, ap, ◌∙◌, refl, Bool, inl, inr, ◌⊎◌}
use Rattle.std.proofs.lemmas.Bool.{cases_lt}
use Rattle.std.proofs.Math.Seq.{drop-cons, set-append_seam, take-append_seam, drop-append_seam}
use Rattle.std.proofs.lemmas.List.{append_assoc, append-nil, drop_all, take_all, drop-drop, length-drop, set-append_right, length-append, length-take-le, map-append}
use Rattle.std.proofs.lemmas.Grind.{flat_map-append}
use Rattle.frame_grants.specs.declared.grant.Grant.{Grant}
use Rattle.entry_model.specs.State.{State, empty_state}
use Rattle.entry_model.specs.Reply.{words_of}
use Rattle.entry_model.specs.Run.{state_at}
use Rattle.hpt_resize.proofs.Finds.{none_found, find_first, find_none}
use Rattle.table_image.specs.Layouts.{laid_out}
use Rattle.table_image.specs.declared.layout.Layout.{Layout}
use Rattle.papr_c.specs.Transfers.{entry_bytes, bytes_of_entries, is_unheld, first_unheld, first_refused, entry_of_bytes, entries_of_bytes, replaced}

-- A range of one number more ends with that number.
range_more : (a n : ℕ) → range_with_len a (n + 1) ≡ range_with_len a n ++ (a + n) ∷ []
range_more a zero = let e : a ≡ a + 0 = omega arith in ap (λ x. x ∷ []) e
range_more a (suc n) =
    let more : suc n + 1 ≡ suc (n + 1) = omega arith in
    let e : (a + 1) + n ≡ a + suc n = omega arith in
    ap (range_with_len a) more
    ∙ ap (λ xs. a ∷ xs) (range_more (a + 1) n ∙ ap (λ x. range_with_len (a + 1) n ++ x ∷ []) e)

-- The lowest number that passes a test, and that there is none.
pub first_at :
    (p : ℕ → Bool) (n i : ℕ)
    → i < n
    → ((k : ℕ) → k < i → p k ≡ false)
    → p i ≡ true
    → find p (range_with_len 0 n) ≡ Some i
first_at p n i below lower passes =
    let here : (k : ℕ) → 0 + k ≡ k = λ k. omega arith in
    find_first p 0 n i below (λ k before. ap p (here k) ∙ lower k before) (ap p (here i) ∙ passes)
    ∙ ap Some (here i)

pub none_at :
    (p : ℕ → Bool) (n : ℕ) → ((k : ℕ) → k < n → p k ≡ false) → find p (range_with_len 0 n) ≡ None
none_at p n fails =
    find_none p 0 n (λ k below. ap p (let e : 0 + k ≡ k = omega arith in e) ∙ fails k below)

-- One number more fails a test.
pub fails_more :
    (p : ℕ → Bool) (i : ℕ)
    → ((k : ℕ) → k < i → p k ≡ false)
    → p i ≡ false
    → (k : ℕ)
    → k < i + 1
    → p k ≡ false
fails_more p i lower fails k below = at (cases_lt k i) where
  at : (k < i) ⊎ (i ≤ k) → p k ≡ false
  at (inl before) = lower k before
  at (inr past) = ap p (let e : k ≡ i = omega (arith, below, past) in e) ∙ fails

-- ---- export
-- There is something where it isn't none.
some_where : {X : Type 0} (o : Option X) → is_none o ≡ false → is_some o ≡ true
some_where None e = sym e
some_where (Some x) e = refl

-- Where no entry is one that the layout can't hold, each is held.
pub held_at :
    (layout : Layout) (entries : List State) (first number i : ℕ)
    → first_unheld layout entries first number ≡ None
    → i < number
    → is_some (laid_out layout (words_of (state_at entries (first + i)))) ≡ true
held_at layout entries first number i none below =
    some_where
    (laid_out layout (words_of (state_at entries (first + i))))
    (none_found (λ e. is_unheld layout (state_at entries e)) first number i none below)

-- A held entry has 16 bytes.
bytes_16 :
    (o : Option (ℕ × ℕ))
    → is_some o ≡ true
    → length (unwrap_or (option_map (λ w. big_bytes 8 w.0 ++ big_bytes 8 w.1) o) []) ≡ 16
bytes_16 None e = absurd (cc)
bytes_16 (Some w) e = refl

-- Doublewords that replace what comes after other bytes.
pub put_more :
    (b out old new ws : List ℕ) (i : ℕ)
    → length b ≡ 16 * i
    → out ≡ b ++ drop (16 * i) old
    → new ≡ ws ++ drop 16 (mid_of (16 * i) (length out - 16 * i) out)
    → put_mid (16 * i) (length out - 16 * i) out new ≡ (b ++ ws) ++ drop (16 * (i + 1)) old
put_more b out old new ws i long is put =
    let front : take (16 * i) out ≡ b = rw is
    (ap (λ n. take n (b ++ drop (16 * i) old)) (sym long)
    ∙ take-append_seam b (drop (16 * i) old)) in
    let back : drop (16 * i) out ≡ drop (16 * i) old = rw is
    (ap (λ n. drop n (b ++ drop (16 * i) old)) (sym long)
    ∙ drop-append_seam b (drop (16 * i) old)) in
    let left : length (drop (16 * i) out) ≡ length out - 16 * i = length-drop (16 * i) out in
    let mid : mid_of (16 * i) (length out - 16 * i) out ≡ drop (16 * i) out = take_all
    (length out - 16 * i) (drop (16 * i) out) (omega (arith, left)) in
    let gone : post_of (16 * i) (length out - 16 * i) out ≡ [] = drop_all (length out - 16 * i)
    (drop (16 * i) out) (omega (arith, left)) in
    let next : 16 * i + 16 ≡ 16 * (i + 1) = omega arith in
    rw (gone, front, put, mid, back)
    (ap (λ ys. b ++ ys) (append-nil (ws ++ drop 16 (drop (16 * i) old)))
    ∙ sym (append_assoc b ws (drop 16 (drop (16 * i) old)))
    ∙ ap (λ ys. (b ++ ws) ++ ys) (drop-drop 16 (16 * i) old ∙ ap (λ n. drop n old) next))

-- The bytes of one entry more.
pub bytes-more :
    (layout : Layout) (entries : List State) (first i : ℕ)
    → bytes_of_entries layout entries first (i + 1)
    ≡ bytes_of_entries layout entries first i
    ++ unwrap_or (entry_bytes layout (state_at entries (first + i))) []
bytes-more layout entries first i =
    let g : ℕ → List ℕ = λ e. unwrap_or (entry_bytes layout (state_at entries e)) [] in
    ap (flat_map g) (range_more first i)
    ∙ flat_map-append g (range_with_len first i) ((first + i) ∷ [])
    ∙ ap (λ ys. flat_map g (range_with_len first i) ++ ys) (append-nil (g (first + i)))

-- Held entries have 16 bytes each.
pub bytes-length :
    (layout : Layout) (entries : List State) (first number i : ℕ)
    → first_unheld layout entries first number ≡ None
    → i ≤ number
    → length (bytes_of_entries layout entries first i) ≡ 16 * i
bytes-length layout entries first number zero none below = refl
bytes-length layout entries first number (suc i) none below =
    let before = bytes-length layout entries first number i none (omega (arith, below)) in
    let b = bytes_of_entries layout entries first i in
    let w = unwrap_or (entry_bytes layout (state_at entries (first + i))) [] in
    let last : length w ≡ 16 = bytes_16 (laid_out layout (words_of (state_at entries (first + i))))
    (held_at layout entries first number i none (omega (arith, below))) in
    let more : suc i ≡ i + 1 = omega arith in
    let e : length b + length w ≡ 16 * suc i = omega (arith, before, last) in
    ap (λ k. length (bytes_of_entries layout entries first k)) more
    ∙ ap length (bytes-more layout entries first i)
    ∙ length-append b w
    ∙ e

-- ---- import
-- The entries of one more.
pub entries-more :
    (grants : List Grant) (layout : Layout) (bytes : List ℕ) (i : ℕ)
    → entries_of_bytes grants layout bytes (i + 1)
    ≡ entries_of_bytes grants layout bytes i
    ++ result_unwrap_or (entry_of_bytes grants layout bytes i) (empty_state 0)
    ∷ []
entries-more grants layout bytes i =
    let f : ℕ → State = λ k. result_unwrap_or (entry_of_bytes grants layout bytes k) (empty_state 0)
    in
    let e : 0 + i ≡ i = omega arith in
    ap (map f) (range_more 0 i)
    ∙ map-append f (range_with_len 0 i) ((0 + i) ∷ [])
    ∙ ap (λ k. map f (range_with_len 0 i) ++ f k ∷ []) e

-- One more entry is replaced.
pub set_replaced :
    (entries others : List State) (first at : ℕ) (s : State)
    → first + length others ≡ at
    → at < length entries
    → set (replaced entries first others) at s ≡ replaced entries first (others ++ s ∷ [])
set_replaced entries others first at s is below =
    let y = get_or entries at (empty_state 0) in
    let rest = drop (suc at) entries in
    let here : drop (first + length others) entries ≡ y ∷ rest = ap (λ k. drop k entries) is ∙
    drop-cons entries at (empty_state 0) below in
    let front : length (take first entries) ≡ first = length-take-le first entries
    (omega (arith, is, below)) in
    let gap : at - first ≡ length others = omega (arith, is) in
    let longer : length (others ++ s ∷ []) ≡ length others + 1 = length-append others (s ∷ []) in
    let next : first + length (others ++ s ∷ []) ≡ suc at = omega (arith, is, longer) in
    set-append_right (take first entries) (others ++ drop (first + length others) entries) first at
    s front (omega (arith, is))
    ∙ ap (λ ys. take first entries ++ ys)
    (ap (λ k. set (others ++ drop (first + length others) entries) k s) gap
    ∙ ap (λ ys. set (others ++ ys) (length others) s) here
    ∙ set-append_seam others y rest s
    ∙ sym (append_assoc others (s ∷ []) rest)
    ∙ ap (λ k. (others ++ s ∷ []) ++ drop k entries) (sym next))

-- Where no entry is refused, each is there.
ok_where : {T E : Type 0} (r : Result T E) → is_err r ≡ false → is_ok r ≡ true
ok_where (Ok x) e = refl
ok_where (Err y) e = sym e

pub entered_at :
    (grants : List Grant) (layout : Layout) (bytes : List ℕ) (number i : ℕ)
    → first_refused grants layout bytes number ≡ None
    → i < number
    → is_ok (entry_of_bytes grants layout bytes i) ≡ true
entered_at grants layout bytes number i none below =
    let here : 0 + i ≡ i = omega arith in
    ok_where (entry_of_bytes grants layout bytes i)
    (ap (λ k. is_err (entry_of_bytes grants layout bytes k)) (sym here)
    ∙ none_found (λ k. is_err (entry_of_bytes grants layout bytes k)) 0 number i none below)

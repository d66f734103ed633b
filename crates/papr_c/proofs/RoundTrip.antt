-- What is exported is imported as the same entry.
use Rattle.std.specs.Prelude.{◌==◌}
use Rattle.std.specs.Option.{option_map}
use Rattle.std.specs.Int.Bits.{and_mask}
use Rattle.std.proofs.Common.{◌≡◌, ℕ, ◌*◌, ◌/◌, ◌%◌, ◌^◌, ◌<◌, List, ◌++◌, drop, true, false, Option, Some, None, Ok, bit_and, arith, refl, ap, sym, subst, ◌∙◌, inl, inr, ◌⊎◌}
use Rattle.std.proofs.Math.Seq.{drop-append_seam}
use Rattle.std.proofs.lemmas.Bool.{cases_Bool}
use Rattle.byteorder.specs.Endian.{big_bytes}
use Rattle.byteorder.specs.Numbers.{big_number-reads_back}
use Rattle.frame_grants.specs.declared.grant.Grant.{Grant}
use Rattle.hpte_fields.specs.Fields.{is_valid}
use Rattle.entry_model.specs.State.{State}
use Rattle.entry_model.specs.Reply.{words_of}
use Rattle.hpt_resize.proofs.StateBack.{state_back}
use Rattle.table_image.specs.Layouts.{words_of_bytes, laid_out, read_words, new_words, cleared_bit, unheld, segment_bits}
use Rattle.table_image.specs.declared.layout.Layout.{Layout}
use Rattle.table_image.specs.declared.layout.Layout.TheVariants.{Old, New}
use Rattle.table_image.proofs.BitFields.{bits_fit, segment_back, first_back, stays_cleared, none_left, second_back}
use Rattle.papr_c.specs.Transfers.{entry_bytes, entry_of_bytes, entry_of_words}
use Rattle.papr_c.specs.TransferLaw.{IsGranted, IsRoundTrip}

-- What a layout makes of two doublewords: words of 64 bits, which are read as these, with the same
-- V.
record AreBack (layout : Layout) (v w : ℕ × ℕ) : Type 0 where
  first : w.0 < 2 ^ 64
  second : w.1 < 2 ^ 64
  read : read_words layout w ≡ Some v
  valid : is_valid w.0 ≡ is_valid v.0

same_valid : (h : ℕ) → is_valid (h % 2 ^ 52) ≡ is_valid h
same_valid h =
    let low : bit_and (h % 2 ^ 52) 1 ≡ bit_and h 1 = and_mask (h % 2 ^ 52) 1 ∙
    (let e : h % 2 ^ 52 % 2 ^ 1 ≡ h % 2 ^ 1 = omega arith in e) ∙ sym (and_mask h 1) in
    ap (λ n. n == 1) low

new_back :
    (h l : ℕ) (w : ℕ × ℕ)
    → h < 2 ^ 64
    → l < 2 ^ 64
    → bit_and l cleared_bit ≡ 0
    → laid_out New (h, l) ≡ Some w
    → AreBack New (h, l) w
new_back h l w small fits clear laid =
    at (cases_Bool (bit_and h unheld == 0)) (cases_Bool (bit_and l segment_bits == 0)) where
      at :
          ((bit_and h unheld == 0) ≡ true) ⊎ ((bit_and h unheld == 0) ≡ false)
          → ((bit_and l segment_bits == 0) ≡ true) ⊎ ((bit_and l segment_bits == 0) ≡ false)
          → AreBack New (h, l) w
      at (inr set_h) free = let none : laid_out New (h, l) ≡ None = rw set_h refl in absurd (cc)
      at (inl held) (inr set_l) = let none :
          laid_out New (h, l) ≡ None = rw (held, set_l) refl in absurd (cc)
      at (inl held) (inl free) =
          let told : laid_out New (h, l) ≡ Some (new_words (h, l)) = rw (held, free) refl in
          let is : new_words (h, l) ≡ w = cc in
          let clear_h : bit_and h unheld ≡ 0 = grind (arith, held) in
          let clear_l : bit_and l segment_bits ≡ 0 = grind (arith, free) in
          let s : h / 2 ^ 62 < 4 = omega arith in
          subst (AreBack New (h, l)) is
          (record {
            first = omega arith;
            second = bits_fit l (h / 2 ^ 62) fits s clear_l;
            read =
                rw (
                  stays_cleared l (h / 2 ^ 62) s clear_l clear,
                  none_left h,
                  segment_back l (h / 2 ^ 62) s clear_l,
                  second_back l (h / 2 ^ 62) fits s clear_l,
                  first_back h small clear_h,
                ) refl;
            valid = same_valid h;
          })

back :
    (layout : Layout) (v w : ℕ × ℕ)
    → v.0 < 2 ^ 64
    → v.1 < 2 ^ 64
    → bit_and v.1 cleared_bit ≡ 0
    → laid_out layout v ≡ Some w
    → AreBack layout v w
back New v w small fits clear laid = new_back v.0 v.1 w small fits clear laid
back Old v w small fits clear laid =
    let is : v ≡ w = cc in
    subst (AreBack Old v) is
    (record { first = small; second = fits; read = rw clear refl; valid = refl })

-- The bytes of two doublewords are read as these.
bytes_back :
    (w : ℕ × ℕ) (rest : List ℕ)
    → w.0 < 2 ^ 64
    → w.1 < 2 ^ 64
    → words_of_bytes (((big_bytes 8 w.0 ++ big_bytes 8 w.1) ++ rest)) ≡ w
bytes_back w rest small fits =
    rw (
      big_number-reads_back 8 w.0 (big_bytes 8 w.1 ++ rest) small,
      big_number-reads_back 8 w.1 rest fits,
    ) refl

-- The doublewords of a valid entry are imported as it.
valid_back :
    (grants : List Grant) (layout : Layout) (s : State) (w : ℕ × ℕ)
    → IsGranted grants s
    → AreBack layout (words_of s) w
    → s.valid ≡ true
    → entry_of_words grants layout w ≡ Ok (record s { stamp = 0 })
valid_back grants layout s w g b valid =
    let v : is_valid w.0 ≡ true = b.valid ∙ g.valid valid in
    rw (v, b.read, g.entered valid) (ap Ok (state_back s g.canonical valid (g.stored valid)))

-- Those of an empty one as an empty one.
empty_back :
    (grants : List Grant) (layout : Layout) (s : State) (w : ℕ × ℕ)
    → IsGranted grants s
    → AreBack layout (words_of s) w
    → s.valid ≡ false
    → entry_of_words grants layout w ≡ Ok (record s { stamp = 0 })
empty_back grants layout s w g b invalid =
    let none : is_valid s.dword0 ≡ false = rw (g.canonical.no_first invalid) refl in
    let v : is_valid w.0 ≡ false = b.valid ∙ none in
    rw v (λ k. Ok (record {
      valid = sym invalid k;
      dword0 = sym (g.canonical.no_first invalid) k;
      dword1 = sym (g.canonical.no_second invalid) k;
      referenced = sym (g.canonical.no_reference invalid) k;
      changed = sym (g.canonical.no_change invalid) k;
      stamp = 0;
    }))

pub round_trip : IsRoundTrip
round_trip grants layout s front bytes rest i long g told =
    at (laid_out layout (words_of s)) refl where
      by :
          (w : ℕ × ℕ)
          → AreBack layout (words_of s) w
          → (s.valid ≡ true) ⊎ (s.valid ≡ false)
          → entry_of_words grants layout w ≡ Ok (record s { stamp = 0 })
      by w b (inl valid) = valid_back grants layout s w g b valid
      by w b (inr invalid) = empty_back grants layout s w g b invalid

      at :
          (o : Option (ℕ × ℕ))
          → laid_out layout (words_of s) ≡ o
          → entry_of_bytes grants layout (front ++ (bytes ++ rest)) i ≡ Ok (record s { stamp = 0 })
      at None laid = let none : entry_bytes layout s ≡ None = rw laid refl in absurd (cc)
      at (Some w) laid =
          let b = back layout (words_of s) w g.first g.second g.cleared laid in
          let some : entry_bytes layout s ≡ Some (big_bytes 8 w.0 ++ big_bytes 8 w.1) = ap
          (option_map (λ (x : ℕ × ℕ). big_bytes 8 x.0 ++ big_bytes 8 x.1)) laid in
          let is : bytes ≡ big_bytes 8 w.0 ++ big_bytes 8 w.1 = cc in
          let behind : drop (16 * i) (front ++ (bytes ++ rest)) ≡ bytes ++ rest = ap
          (λ n. drop n (front ++ (bytes ++ rest))) (sym long) ∙ drop-append_seam front
          (bytes ++ rest) in
          ap (λ (bs : List ℕ). entry_of_words grants layout (words_of_bytes bs))
          (behind ∙ ap (λ (bs : List ℕ). bs ++ rest) is)
          ∙ ap (entry_of_words grants layout) (bytes_back w rest b.first b.second)
          ∙ by w b (cases_Bool s.valid)
